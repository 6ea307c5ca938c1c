use Rattle.std.proofs.Common.{sym, ap, subst}
use Rattle.bench_crew.specs.client_benches.specs.Seen.{Seen, MayPlay}
use Rattle.bench_crew.specs.client_benches.specs.Wires.{kept_count}
use Rattle.bench_rack.specs.Racks.{begun}
use Rattle.bench_rack.proofs.WholeLemmas.{IsSlot, changed-is, slot-is, whole-stays}
use Rattle.bench_rack.proofs.racks.Rack.begin.Goals as goal

pub begin-requires-clause-turn : goal.begin-requires-clause-turn
begin-requires-clause-turn g c =
    let slot : IsSlot c.args.self.now c.self.inside.benches.items c.self.inside.links c.args.place c.index_mut.result.now = record { view = c.self.view_is; within = c.requires.place; is = c.index_mut.ensures.value } in
    subst (λ (seen : Seen). MayPlay seen.kept.standing c.args.turn.now) (sym (slot-is slot)) c.requires.turn

pub invariant_of-self : goal.invariant_of-self
invariant_of-self g c =
    let slot : IsSlot c.args.self.now c.self.inside.benches.items c.self.inside.links c.args.place c.index_mut.result.now = record { view = c.self.view_is; within = c.requires.place; is = c.index_mut.ensures.value } in
    whole-stays slot c.begin.new.self c.self.inside.spare c.self.inside.spare_links
    (ap (λ (seen : Seen). kept_count seen.kept.wires) c.begin.ensures) (ap (λ (seen : Seen). seen.rooms) c.begin.ensures) c.self.invariant

pub returns : goal.returns
returns g c = let slot : IsSlot c.args.self.now c.self.inside.benches.items c.self.inside.links c.args.place c.index_mut.result.now = record { view = c.self.view_is; within = c.requires.place; is = c.index_mut.ensures.value } in
    changed-is slot (begun c.args.turn.now) c.begin.new.self c.begin.ensures
