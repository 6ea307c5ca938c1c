use Rattle.std.proofs.Common.{◌≡◌, ◌+◌, ◌<◌, List, [], ◌∷◌, ◌++◌, length, ℤ, sym, ◌∙◌, ap, subst, arith}
use Rattle.bench_crew.specs.client_benches.specs.declared.wires.Source.TheVariants.{Kept}
use Rattle.bench_rack.specs.Insides.{racked}
use Rattle.bench_crew.specs.client_benches.specs.Seen.{Seen}
use Rattle.bench_crew.specs.client_benches.specs.Wires.{kept_count}
use Rattle.bench_rack.specs.Racks.{Racked, heard_kept, wire_total}
use Rattle.bench_rack.proofs.TotalLemmas.{kept_count-kept, room_count-rooms}
use Rattle.bench_rack.proofs.WholeLemmas.{IsSlot, changed-is, whole-set}
use Rattle.bench_rack.proofs.racks.Rack.hear_kept.Goals as goal

pub take_room-room-requires : goal.take_room-room-requires
take_room-room-requires g c =
    let few : wire_total (racked c.self.inside.benches.items c.self.inside.links) < 512 = subst (λ (rack : Racked). wire_total rack < 512) (sym c.self.view_is) c.requires.room in
    omega (arith, few, c.self.invariant.wires)

pub invariant_of-self : goal.invariant_of-self
invariant_of-self g c =
    let slot : IsSlot c.args.self.now c.self.inside.benches.items c.self.inside.links c.args.place c.index_mut.result.now = record { view = c.self.view_is; within = c.requires.place; is = c.index_mut.ensures.value } in
    let more : kept_count c.hear_kept.new.self.kept.wires ≡ kept_count c.index_mut.result.now.kept.wires + 1 =
    ap (λ (seen : Seen). kept_count seen.kept.wires) c.hear_kept.ensures ∙ kept_count-kept c.index_mut.result.now.kept.wires c.args.input c.take_room-room.result in
    whole-set slot c.hear_kept.new.self c.self.inside.spare c.take_room-room.new.spare c.self.inside.spare_links c.self.inside.spare_links
    (omega (arith, c.take_room-room.ensures.spare.0, more)) (omega (arith, c.take_room-room.ensures.spare.1, c.self.invariant.wire_space))
    (ap (λ n. length c.self.inside.spare_links.items + n) (room_count-rooms c.hear_kept.new.self c.index_mut.result.now (ap (λ (seen : Seen). seen.rooms) c.hear_kept.ensures))) c.self.invariant.link_space
    c.self.invariant

pub returns : goal.returns
returns g c =
    let slot : IsSlot c.args.self.now c.self.inside.benches.items c.self.inside.links c.args.place c.index_mut.result.now = record { view = c.self.view_is; within = c.requires.place; is = c.index_mut.ensures.value } in
    changed-is slot (heard_kept c.args.input) c.hear_kept.new.self
    (c.hear_kept.ensures
    ∙ ap (λ (samples : List ℤ). record c.index_mut.result.now { kept = record c.index_mut.result.now.kept { wires = c.index_mut.result.now.kept.wires ++ record { input = c.args.input; source = Kept samples } ∷ [] } }) c.take_room-room.ensures.room)
