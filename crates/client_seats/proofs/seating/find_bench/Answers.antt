use Rattle.std.proofs.Common.{Some, sym, ◌∙◌, ap, true≢false}
use Rattle.client_seats.specs.Seatings.{OtherKind}
use Rattle.client_seats.proofs.PlaceLemmas.{open_within}
use Rattle.client_seats.proofs.seating.find_bench.Goals as goal

pub returns-else-is_kind-clause-refused : goal.returns-else-is_kind-clause-refused
returns-else-is_kind-clause-refused g c = OtherKind c.args.n c.in-Some.place (open_within c.args.nodes.now c.args.n c.requires.node)
    (c.in-Some.ensures.there.1 ∙ ap (λ birth. Some birth) c.birth_of.ensures)
    (λ e. true≢false (sym (c.is_kind.ensures.1 (c.kind.ensures ∙ e ∙ sym c.kind_of.ensures)) ∙ c.if-is_kind.false))
