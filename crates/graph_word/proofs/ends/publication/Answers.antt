use Rattle.std.proofs.Common.{rules, ◌≡◌, ◌∷◌, ◌++◌, [], List, ap, sym, ◌∙◌, subst}
use Rattle.std.specs.Prelude.{Option, Some, None}
use Rattle.atomic_table.specs.Table.{Me, opening}
use Rattle.graph_word.specs.declared.plans.Base.{Base}
use Rattle.graph_word.specs.declared.view.SeatView.{SeatView}
use Rattle.graph_word.specs.Rule.{PublicationRule, opening_view}
use Rattle.graph_word.specs.Steps.{without_reader, without_publisher}
use Rattle.graph_word.proofs.Opening.{begins_with}
use Rattle.graph_word.proofs.Meetings.{parts}
use Rattle.graph_word.proofs.Publishes.{opens}
use Rattle.graph_word.proofs.Taking.{settles}
use Rattle.graph_word.proofs.ends.publication.Goals as goal

pub new-requires : goal.new-requires
new-requires g c =
    let P : Type 0 = g.row.P.Denot in let content = g.P.Numbered.content in let base_of = g.P.Numbered.base in let z : Base = base_of c.args.second in
    let items : c.push_reserved-3.new.self.items ≡ Some c.args.first ∷ None ∷ None ∷ [] =
    c.push_reserved-3.ensures.items ∙ ap (λ (l : List (Option P)). l ++ None ∷ []) (c.push_reserved-2.ensures.items ∙ ap (λ (l : List (Option P)). l ++ None ∷ []) (c.push_reserved.ensures.items ∙ ap (λ (l : List (Option P)). l ++ Some c.args.first ∷ []) c.in_ok-slots.ensures.items)) in
    subst (λ (l : List (Option P)). PublicationRule content base_of z (opening (0 ∷ 0 ∷ []) l (opening_view z))) (sym items) (begins_with content base_of z c.args.first c.requires.first (sym c.requires.second.1))

pub split_seat-other-requires : goal.split_seat-other-requires
split_seat-other-requires g c = (search rules, search rules, parts g.P.Numbered.content g.P.Numbered.base _ _ c.in-Ok.seat.me.0 (ap (λ (u : Me (Option g.row.P.Denot) SeatView). u.0.is_reader) c.in-Ok.ensures.ok.4))

pub load-requires : goal.load-requires
load-requires g c =
    let P : Type 0 = g.row.P.Denot in let z : Base = g.P.Numbered.base c.args.second in
    let is : c.split_seat-other.new.seat.me.0 ≡ without_reader (opening_view z) = ap (λ (u : Me (Option P) SeatView). u.0) c.split_seat-other.ensures.2 ∙ ap (λ (u : Me (Option P) SeatView). without_reader u.0) c.in-Ok.ensures.ok.4 in (
      search rules,
      search rules,
      opens g.P.Numbered.content g.P.Numbered.base _ _ _ c.split_seat-other.new.seat.me (ap (λ (u : SeatView). u.is_publisher) is) (ap (λ (u : SeatView). u.is_reader) is) (ap (λ (u : SeatView). u.publisher.holds) is),
    )

pub load-requires-2 : goal.load-requires-2
load-requires-2 g c =
    let P : Type 0 = g.row.P.Denot in let z : Base = g.P.Numbered.base c.args.second in
    let is : c.split_seat-other.result.me.0 ≡ without_publisher (opening_view z) = ap (λ (u : Me (Option P) SeatView). u.0) c.split_seat-other.ensures.4 ∙ ap (λ (u : Me (Option P) SeatView). without_publisher u.0) c.in-Ok.ensures.ok.4 in (
      search rules,
      search rules,
      settles g.P.Numbered.content g.P.Numbered.base _ _ _ c.split_seat-other.result.me (ap (λ (u : SeatView). u.is_reader) is) (ap (λ (u : SeatView). u.is_publisher) is) (ap (λ (u : SeatView). u.reader.holds) is),
    )
