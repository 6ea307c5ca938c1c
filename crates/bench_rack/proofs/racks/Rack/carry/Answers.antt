use Rattle.std.proofs.Common.{◌<◌, sym, ap, subst}
use Rattle.std.specs.Option.{ForSome, IfSome}
use Rattle.bench_crew.specs.client_benches.specs.Seen.{Seen}
use Rattle.bench_crew.specs.client_benches.specs.Wires.{kept_count}
use Rattle.bench_rack.specs.Racks.{carrying}
use Rattle.bench_rack.proofs.WholeLemmas.{IsSlot, changed-is, slot-is, whole-stays}
use Rattle.bench_rack.proofs.racks.Rack.carry.Goals as goal

pub carry-requires-clause-output : goal.carry-requires-clause-output
carry-requires-clause-output g c =
    let slot : IsSlot c.args.self.now c.self.inside.benches.items c.self.inside.links c.args.place c.index_mut.result.now = record { view = c.self.view_is; within = c.requires.place; is = c.index_mut.ensures.value } in
    subst (λ (seen : Seen). IfSome c.args.output (λ output. ForSome seen.kept.turn (λ turn. output < turn.ports.outputs))) (sym (slot-is slot)) c.requires.output

pub invariant_of-self : goal.invariant_of-self
invariant_of-self g c =
    let slot : IsSlot c.args.self.now c.self.inside.benches.items c.self.inside.links c.args.place c.index_mut.result.now = record { view = c.self.view_is; within = c.requires.place; is = c.index_mut.ensures.value } in
    whole-stays slot c.carry.new.self c.self.inside.spare c.self.inside.spare_links
    (ap (λ (seen : Seen). kept_count seen.kept.wires) c.carry.ensures) (ap (λ (seen : Seen). seen.rooms) c.carry.ensures) c.self.invariant

pub returns : goal.returns
returns g c =
    let slot : IsSlot c.args.self.now c.self.inside.benches.items c.self.inside.links c.args.place c.index_mut.result.now = record { view = c.self.view_is; within = c.requires.place; is = c.index_mut.ensures.value } in
    changed-is slot (carrying c.args.link c.args.output) c.carry.new.self c.carry.ensures
