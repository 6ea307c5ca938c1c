use Rattle.std.proofs.Common.{◌≡◌, ◌*◌, length, sym, ap, subst}
use Rattle.bench_crew.specs.client_kinds.specs.Standings.{IsDisk}
use Rattle.bench_crew.specs.client_benches.specs.Seen.{Seen}
use Rattle.bench_crew.specs.client_benches.specs.Wires.{kept_count}
use Rattle.bench_rack.specs.Racks.{fed_with}
use Rattle.bench_rack.proofs.WholeLemmas.{IsSlot, changed-is, slot-is, whole-stays}
use Rattle.bench_rack.proofs.racks.Rack.feed.Goals as goal

pub feed-requires-clause-kind : goal.feed-requires-clause-kind
feed-requires-clause-kind g c =
    let slot : IsSlot c.args.self.now c.self.inside.benches.items c.self.inside.links c.args.place c.index_mut.result.now = record { view = c.self.view_is; within = c.requires.place; is = c.index_mut.ensures.value } in
    subst (λ (seen : Seen). IsDisk seen.kept.standing.kind) (sym (slot-is slot)) c.requires.kind

pub feed-requires-clause-samples : goal.feed-requires-clause-samples
feed-requires-clause-samples g c =
    let slot : IsSlot c.args.self.now c.self.inside.benches.items c.self.inside.links c.args.place c.index_mut.result.now = record { view = c.self.view_is; within = c.requires.place; is = c.index_mut.ensures.value } in
    subst (λ (seen : Seen). length c.args.samples.now ≡ c.args.channels * seen.kept.standing.period) (sym (slot-is slot)) c.requires.samples

pub invariant_of-self : goal.invariant_of-self
invariant_of-self g c =
    let slot : IsSlot c.args.self.now c.self.inside.benches.items c.self.inside.links c.args.place c.index_mut.result.now = record { view = c.self.view_is; within = c.requires.place; is = c.index_mut.ensures.value } in
    whole-stays slot c.feed.new.self c.self.inside.spare c.self.inside.spare_links
    (ap (λ (seen : Seen). kept_count seen.kept.wires) c.feed.ensures) (ap (λ (seen : Seen). seen.rooms) c.feed.ensures) c.self.invariant

pub returns : goal.returns
returns g c =
    let slot : IsSlot c.args.self.now c.self.inside.benches.items c.self.inside.links c.args.place c.index_mut.result.now = record { view = c.self.view_is; within = c.requires.place; is = c.index_mut.ensures.value } in
    changed-is slot (fed_with c.args.channels c.args.samples.now) c.feed.new.self c.feed.ensures
