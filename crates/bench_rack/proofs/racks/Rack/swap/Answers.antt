use Rattle.std.proofs.Common.{◌<◌, List, length, sym, ◌∙◌, ap, subst}
use Rattle.std.specs.Prelude.{slice_set}
use Rattle.jack_types.specs.declared.kinds.Kind.TheVariants.{Pass}
use Rattle.bench_crew.specs.client_benches.specs.Seen.{Seen, new_bench}
use Rattle.bench_rack.specs.Insides.{IsWhole, racked}
use Rattle.bench_rack.specs.Racks.{Racked, bench_at}
use Rattle.bench_rack.proofs.WholeLemmas.{whole-swapped}
use Rattle.bench_rack.proofs.racks.Rack.swap.Goals as goal

pub invariant_of-self : goal.invariant_of-self
invariant_of-self g c =
    subst (λ (benches : List Seen). IsWhole (racked benches c.self.inside.links) c.self.inside.spare c.self.inside.spare_links) (sym (c.swap.ensures.by_index.3 (new_bench Pass 0)))
    (whole-swapped c.self.inside.benches.items c.self.inside.links c.args.first c.args.second c.self.inside.spare c.self.inside.spare_links
    (subst (λ (rack : Racked). c.args.first < length rack.benches) (sym c.self.view_is) c.requires.first)
    (subst (λ (rack : Racked). c.args.second < length rack.benches) (sym c.self.view_is) c.requires.second)
    c.self.invariant)

pub returns : goal.returns
returns g c =
    ap (λ (benches : List Seen). racked benches c.self.inside.links) (c.swap.ensures.by_index.3 (new_bench Pass 0))
    ∙ ap (λ (rack : Racked). record rack { benches = slice_set (slice_set rack.benches c.args.first (bench_at rack c.args.second)) c.args.second (bench_at rack c.args.first) }) c.self.view_is
