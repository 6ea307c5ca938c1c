use Rattle.std.proofs.Common.{◌≡◌, [], Some, None, IfSome, false, ap, subst}
use Rattle.bench_crew.specs.client_benches.specs.Seen.{Seen}
use Rattle.bench_crew.specs.client_benches.specs.Wires.{kept_count}
use Rattle.bench_rack.proofs.WholeLemmas.{IsSlot, changed-is, slot-is, whole-stays}
use Rattle.bench_rack.proofs.racks.Rack.give_back.Goals as goal

pub invariant_of-self : goal.invariant_of-self
invariant_of-self g c =
    let slot : IsSlot c.args.self.now c.self.inside.benches.items c.self.inside.links c.args.place c.index_mut.result.now = record { view = c.self.view_is; within = c.requires.place; is = c.index_mut.ensures.value } in
    whole-stays slot c.give_back.new.self c.self.inside.spare c.self.inside.spare_links
    (ap (λ (seen : Seen). kept_count seen.kept.wires) c.give_back.ensures.after) (ap (λ (seen : Seen). seen.rooms) c.give_back.ensures.after) c.self.invariant

pub returns-clause-guest : goal.returns-clause-guest
returns-clause-guest g c =
    let slot : IsSlot c.args.self.now c.self.inside.benches.items c.self.inside.links c.args.place c.index_mut.result.now = record { view = c.self.view_is; within = c.requires.place; is = c.index_mut.ensures.value } in
    subst (λ (seen : Seen). IfSome c.give_back.result (λ guest. seen.kept.standing.score ≡ Some (g.G.Guest.score guest))) (slot-is slot) c.give_back.ensures.guest

pub returns-clause-numbers : goal.returns-clause-numbers
returns-clause-numbers g c =
    let slot : IsSlot c.args.self.now c.self.inside.benches.items c.self.inside.links c.args.place c.index_mut.result.now = record { view = c.self.view_is; within = c.requires.place; is = c.index_mut.ensures.value } in
    subst (λ (seen : Seen). IfSome c.give_back.result (λ guest. seen.kept.standing.memory.numbers ≡ g.G.Guest.numbers guest)) (slot-is slot) c.give_back.ensures.numbers

pub returns-clause-after : goal.returns-clause-after
returns-clause-after g c =
    let slot : IsSlot c.args.self.now c.self.inside.benches.items c.self.inside.links c.args.place c.index_mut.result.now = record { view = c.self.view_is; within = c.requires.place; is = c.index_mut.ensures.value } in
    changed-is slot (λ (seen : Seen). record seen { kept = record seen.kept { standing = record seen.kept.standing { score = None; memory = record seen.kept.standing.memory { numbers = []; is_dead = false } } } }) c.give_back.new.self c.give_back.ensures.after
