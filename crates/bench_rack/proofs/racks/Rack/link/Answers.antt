use Rattle.std.proofs.Common.{◌≡◌, ◌+◌, ◌<◌, [], length, Some, None, sym, ◌∙◌, ap, subst, arith}
use Rattle.std.proofs.lemmas.List.{length-set}
use Rattle.bench_rack.specs.Insides.{racked}
use Rattle.bench_crew.specs.client_benches.specs.Seen.{Seen, room_at, room_count}
use Rattle.bench_crew.specs.client_benches.specs.Wires.{kept_count}
use Rattle.bench_rack.specs.Racks.{Racked, link_total, linked}
use Rattle.bench_rack.proofs.TotalLemmas.{room_count-linked}
use Rattle.bench_rack.proofs.WholeLemmas.{IsSlot, changed-is, slot-is, whole-set}
use Rattle.bench_rack.proofs.racks.Rack.link.Goals as goal

pub take_rooms-rooms-requires : goal.take_rooms-rooms-requires
take_rooms-rooms-requires g c =
    let few : link_total (racked c.self.inside.benches.items c.self.inside.links) < c.self.inside.links = subst (λ (rack : Racked). link_total rack < rack.links) (sym c.self.view_is) c.requires.room in
    omega (arith, few, c.self.invariant.links)

pub invariant_of-self : goal.invariant_of-self
invariant_of-self g c =
    let slot : IsSlot c.args.self.now c.self.inside.benches.items c.self.inside.links c.args.place c.index_mut.result.now = record { view = c.self.view_is; within = c.requires.place; is = c.index_mut.ensures.value } in
    let long : length c.index_mut.result.now.rooms ≡ 64 =
    sym (length-set c.index_mut.result.now.rooms c.args.link (Some [])) ∙ ap (λ (seen : Seen). length seen.rooms) (sym c.link.ensures.bench) ∙ c.link.ensures.places in
    let more : room_count c.link.new.self ≡ room_count c.index_mut.result.now + 1 =
    ap room_count c.link.ensures.bench ∙ room_count-linked c.index_mut.result.now c.args.link long c.requires.link (subst (λ (seen : Seen). room_at seen c.args.link ≡ None) (sym (slot-is slot)) c.requires.none) in
    whole-set slot c.link.new.self c.self.inside.spare c.self.inside.spare c.self.inside.spare_links c.take_rooms-rooms.new.spare
    (ap (λ n. length c.self.inside.spare.items + n) (ap (λ (seen : Seen). kept_count seen.kept.wires) c.link.ensures.bench)) c.self.invariant.wire_space
    (omega (arith, c.take_rooms-rooms.ensures.0, more)) (omega (arith, c.take_rooms-rooms.ensures.1, c.self.invariant.link_space))
    c.self.invariant

pub returns : goal.returns
returns g c =
    let slot : IsSlot c.args.self.now c.self.inside.benches.items c.self.inside.links c.args.place c.index_mut.result.now = record { view = c.self.view_is; within = c.requires.place; is = c.index_mut.ensures.value } in
    changed-is slot (linked c.args.link) c.link.new.self c.link.ensures.bench
