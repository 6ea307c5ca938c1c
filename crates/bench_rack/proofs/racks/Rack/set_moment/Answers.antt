use Rattle.std.proofs.Common.{sym, ap, subst}
use Rattle.std.specs.Option.{ForSome}
use Rattle.bench_crew.specs.client_benches.specs.Seen.{Seen, MayPlay, moved_to}
use Rattle.bench_crew.specs.client_benches.specs.Wires.{kept_count}
use Rattle.bench_rack.specs.Racks.{moved}
use Rattle.bench_rack.proofs.WholeLemmas.{IsSlot, changed-is, slot-is, whole-stays}
use Rattle.bench_rack.proofs.racks.Rack.set_moment.Goals as goal

pub set_moment-requires : goal.set_moment-requires
set_moment-requires g c =
    let slot : IsSlot c.args.self.now c.self.inside.benches.items c.self.inside.links c.args.place c.index_mut.result.now = record { view = c.self.view_is; within = c.requires.place; is = c.index_mut.ensures.value } in
    subst (λ (seen : Seen). ForSome seen.kept.turn (λ turn. MayPlay seen.kept.standing (moved_to c.args.moment.now c.args.period turn))) (sym (slot-is slot)) c.requires.turn

pub invariant_of-self : goal.invariant_of-self
invariant_of-self g c =
    let slot : IsSlot c.args.self.now c.self.inside.benches.items c.self.inside.links c.args.place c.index_mut.result.now = record { view = c.self.view_is; within = c.requires.place; is = c.index_mut.ensures.value } in
    whole-stays slot c.set_moment.new.self c.self.inside.spare c.self.inside.spare_links
    (ap (λ (seen : Seen). kept_count seen.kept.wires) c.set_moment.ensures) (ap (λ (seen : Seen). seen.rooms) c.set_moment.ensures) c.self.invariant

pub returns : goal.returns
returns g c = let slot : IsSlot c.args.self.now c.self.inside.benches.items c.self.inside.links c.args.place c.index_mut.result.now = record { view = c.self.view_is; within = c.requires.place; is = c.index_mut.ensures.value } in
    changed-is slot (moved c.args.moment.now c.args.period) c.set_moment.new.self c.set_moment.ensures
