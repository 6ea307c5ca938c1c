use Rattle.std.proofs.Common.{◌∙◌, ap}
use Rattle.bench_crew.specs.client_benches.specs.Seen.{Seen}
use Rattle.bench_crew.specs.client_benches.specs.Wires.{kept_count}
use Rattle.bench_rack.specs.Racks.{heard_like}
use Rattle.bench_rack.proofs.TotalLemmas.{kept_count-like}
use Rattle.bench_rack.proofs.WholeLemmas.{IsSlot, changed-is, whole-stays}
use Rattle.bench_rack.proofs.racks.Rack.hear_like.Goals as goal

pub invariant_of-self : goal.invariant_of-self
invariant_of-self g c =
    let slot : IsSlot c.args.self.now c.self.inside.benches.items c.self.inside.links c.args.place c.index_mut.result.now = record { view = c.self.view_is; within = c.requires.place; is = c.index_mut.ensures.value } in
    whole-stays slot c.hear_like.new.self c.self.inside.spare c.self.inside.spare_links
    (ap (λ (seen : Seen). kept_count seen.kept.wires) c.hear_like.ensures ∙ kept_count-like c.index_mut.result.now.kept.wires c.args.input c.args.wire) (ap (λ (seen : Seen). seen.rooms) c.hear_like.ensures) c.self.invariant

pub returns : goal.returns
returns g c =
    let slot : IsSlot c.args.self.now c.self.inside.benches.items c.self.inside.links c.args.place c.index_mut.result.now = record { view = c.self.view_is; within = c.requires.place; is = c.index_mut.ensures.value } in
    changed-is slot (heard_like c.args.input c.args.wire) c.hear_like.new.self c.hear_like.ensures
