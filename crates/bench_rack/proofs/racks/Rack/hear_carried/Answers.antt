use Rattle.std.proofs.Common.{◌∙◌, ap}
use Rattle.bench_crew.specs.client_benches.specs.Seen.{Seen}
use Rattle.bench_crew.specs.client_benches.specs.Wires.{kept_count}
use Rattle.bench_rack.specs.Racks.{heard_carried}
use Rattle.bench_rack.proofs.TotalLemmas.{kept_count-carried}
use Rattle.bench_rack.proofs.WholeLemmas.{IsSlot, changed-is, whole-stays}
use Rattle.bench_rack.proofs.racks.Rack.hear_carried.Goals as goal

pub invariant_of-self : goal.invariant_of-self
invariant_of-self g c =
    let slot : IsSlot c.args.self.now c.self.inside.benches.items c.self.inside.links c.args.place c.index_mut.result.now = record { view = c.self.view_is; within = c.requires.place; is = c.index_mut.ensures.value } in
    whole-stays slot c.hear_carried.new.self c.self.inside.spare c.self.inside.spare_links
    (ap (λ (seen : Seen). kept_count seen.kept.wires) c.hear_carried.ensures ∙ kept_count-carried c.index_mut.result.now.kept.wires c.args.input c.args.link c.args.connection) (ap (λ (seen : Seen). seen.rooms) c.hear_carried.ensures) c.self.invariant

pub returns : goal.returns
returns g c =
    let slot : IsSlot c.args.self.now c.self.inside.benches.items c.self.inside.links c.args.place c.index_mut.result.now = record { view = c.self.view_is; within = c.requires.place; is = c.index_mut.ensures.value } in
    changed-is slot (heard_carried c.args.input c.args.link c.args.connection) c.hear_carried.new.self c.hear_carried.ensures
