use Rattle.std.proofs.Common.{◌≡◌, ◌∙◌, ap, arith}
use Rattle.bench_crew.specs.client_benches.specs.Seen.{Seen, cleared, room_count}
use Rattle.bench_crew.specs.client_benches.specs.Wires.{kept_count}
use Rattle.bench_rack.proofs.TotalLemmas.{room_count-none}
use Rattle.bench_rack.proofs.WholeLemmas.{IsSlot, changed-is, whole-set, space-links, space-wires}
use Rattle.bench_rack.proofs.racks.Rack.clear.Goals as goal

pub clear-requires-clause-spare : goal.clear-requires-clause-spare
clear-requires-clause-spare g c =
    let slot : IsSlot c.args.self.now c.self.inside.benches.items c.self.inside.links c.args.place c.index_mut.result.now = record { view = c.self.view_is; within = c.requires; is = c.index_mut.ensures.value } in
    space-wires slot c.self.inside.spare c.self.inside.spare_links c.self.invariant

pub clear-requires-clause-spare_links : goal.clear-requires-clause-spare_links
clear-requires-clause-spare_links g c =
    let slot : IsSlot c.args.self.now c.self.inside.benches.items c.self.inside.links c.args.place c.index_mut.result.now = record { view = c.self.view_is; within = c.requires; is = c.index_mut.ensures.value } in
    space-links slot c.self.inside.spare c.self.inside.spare_links c.self.invariant

pub invariant_of-self : goal.invariant_of-self
invariant_of-self g c =
    let slot : IsSlot c.args.self.now c.self.inside.benches.items c.self.inside.links c.args.place c.index_mut.result.now = record { view = c.self.view_is; within = c.requires; is = c.index_mut.ensures.value } in
    let none : room_count c.clear.new.self ≡ 0 = ap room_count c.clear.ensures.bench ∙ room_count-none _ in
    let bare : kept_count c.clear.new.self.kept.wires ≡ 0 = ap (λ (seen : Seen). kept_count seen.kept.wires) c.clear.ensures.bench in
    whole-set slot c.clear.new.self c.self.inside.spare c.clear.new.spare c.self.inside.spare_links c.clear.new.spare_links
    (omega (arith, c.clear.ensures.spare.0, bare)) (omega (arith, c.clear.ensures.spare.1, c.self.invariant.wire_space))
    (omega (arith, c.clear.ensures.spare_links.0, none)) (omega (arith, c.clear.ensures.spare_links.1, c.self.invariant.link_space))
    c.self.invariant

pub returns : goal.returns
returns g c =
    let slot : IsSlot c.args.self.now c.self.inside.benches.items c.self.inside.links c.args.place c.index_mut.result.now = record { view = c.self.view_is; within = c.requires; is = c.index_mut.ensures.value } in
    changed-is slot (cleared) c.clear.new.self c.clear.ensures.bench
