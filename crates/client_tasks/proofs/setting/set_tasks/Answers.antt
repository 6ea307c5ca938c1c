use Rattle.std.proofs.Common.{◌≡◌, ◌<◌, ◌≤◌, Some, ◌∙◌, ℕ, All, List, [], ap, arith, get_or, length, subst, sym}
use Rattle.jack_types.specs.declared.ports.Edge.{Edge}
use Rattle.jack_types.specs.declared.ports.Link.{Link}
use Rattle.bench_rack.specs.client_benches.specs.Seen.{Seen}
use Rattle.bench_rack.specs.client_benches.specs.declared.benches.Stint.{Stint}
use Rattle.client_wiring.specs.Wirings.{Wired, wired_of}
use Rattle.client_wiring.specs.declared.joints.Carried.{Carried}
use Rattle.client_wiring.specs.declared.joints.Joint.{Joint}
use Rattle.client_wiring.specs.declared.joints.Output.{Output}
use Rattle.client_wiring.specs.declared.joints.Output.TheVariants.{Audio, Midi}
use Rattle.bench_rack.specs.Racks.{bench_at}
use Rattle.client_tasks.specs.Fillings.{AreJoints}
use Rattle.client_tasks.specs.Fillings.{with_wires}
use Rattle.client_tasks.specs.Steps.{IsAmong, IsOneOf, IsSmall, count_out, with_routes}
use Rattle.client_tasks.specs.Tasks.{turn_of, widths_at}
use Rattle.client_tasks.proofs.ListLemmas.{routes-none, wires-none}
use Rattle.client_tasks.proofs.PlanLemmas.{carried-outputs, carried-placed, carried-small, few-carried, few-inputs, few-joints, few-links, few-nodes, few-outputs, joints-kept, joints-placed, joints-small, length-widths, links-few, links-placed, some-one}
use Rattle.client_tasks.proofs.RackLemmas.{idle-at}
use Rattle.client_tasks.proofs.setting.set_tasks.Goals as goal

pub begin_all-requires-clause-links : goal.begin_all-requires-clause-links
begin_all-requires-clause-links g c =
    let few : length c.args.plan.now.network.set.edges ≤ 512 = subst (λ (edges : List Edge). length edges ≤ 512) c.edges-edges.ensures.value c.edges-edges.ensures.few in
    omega (arith, few-links c.args.plan.now c.links-links.ensures.planned few, ap length c.links-links.ensures.value)

pub begin_all-requires-clause-turns : goal.begin_all-requires-clause-turns
begin_all-requires-clause-turns g c n h = record {
  guest = c.requires.guests n low;
  rate = c.requires.rate;
  frames = c.requires.frames;
  period = c.requires.period n low;
  inputs = subst (λ (wiring : Wired). (widths_at wiring n).inputs ≤ 16) (sym c.requires.wired) (few-inputs c.args.plan.now c.links-links.ensures.planned few n low);
  outputs = subst (λ (wiring : Wired). (widths_at wiring n).outputs ≤ 16) (sym c.requires.wired) (few-outputs c.args.plan.now c.links-links.ensures.planned few n low);
}
  where
    few : length c.args.plan.now.network.set.edges ≤ 512
    few = subst (λ (edges : List Edge). length edges ≤ 512) c.edges-edges.ensures.value c.edges-edges.ensures.few

    low : n < length c.args.plan.now.nodes
    low = omega (arith, h, ap (λ (wiring : Wired). length wiring.widths) c.requires.wired, length-widths c.args.plan.now c.links-links.ensures.planned few)

pub hear_all-requires-clause-nodes : goal.hear_all-requires-clause-nodes
hear_all-requires-clause-nodes g c i d h =
    let few : length c.args.plan.now.network.set.edges ≤ 512 = subst (λ (edges : List Edge). length edges ≤ 512) c.edges-edges.ensures.value c.edges-edges.ensures.few in
    let same : (wired_of c.args.plan.now).joints ≡ c.joints.result.now = sym (c.joints.ensures ∙ ap (λ (wiring : Wired). wiring.joints) c.requires.wired) in
    let placed : All (λ (joint : Joint). joint.node < length c.args.plan.now.nodes) c.joints.result.now = subst (All (λ (joint : Joint). joint.node < length c.args.plan.now.nodes)) same (joints-placed c.args.plan.now c.links-links.ensures.planned few) in
    let low : (get_or c.joints.result.now i d).node < length c.args.plan.now.nodes = placed i d h in
    omega (arith, low, c.requires.places, c.begin_all.ensures.lengths)

pub hear_all-requires-clause-small : goal.hear_all-requires-clause-small
hear_all-requires-clause-small g c =
    let few : length c.args.plan.now.network.set.edges ≤ 512 = subst (λ (edges : List Edge). length edges ≤ 512) c.edges-edges.ensures.value c.edges-edges.ensures.few in
    subst (All IsSmall) (sym (c.joints.ensures ∙ ap (λ (wiring : Wired). wiring.joints) c.requires.wired)) (joints-small c.args.plan.now c.links-links.ensures.planned few)

pub hear_all-requires-clause-few : goal.hear_all-requires-clause-few
hear_all-requires-clause-few g c =
    let few : length c.args.plan.now.network.set.edges ≤ 512 = subst (λ (edges : List Edge). length edges ≤ 512) c.edges-edges.ensures.value c.edges-edges.ensures.few in
    subst (λ (joints : List Joint). length joints ≤ 512) (sym (c.joints.ensures ∙ ap (λ (wiring : Wired). wiring.joints) c.requires.wired)) (few-joints c.args.plan.now c.links-links.ensures.planned few)

pub carry_all-requires-clause-nodes : goal.carry_all-requires-clause-nodes
carry_all-requires-clause-nodes g c i d h =
    let few : length c.args.plan.now.network.set.edges ≤ 512 = subst (λ (edges : List Edge). length edges ≤ 512) c.edges-edges.ensures.value c.edges-edges.ensures.few in
    let placed : All (λ (one : Carried). one.node < length c.args.plan.now.nodes) c.carried.result.now =
    subst (All (λ (one : Carried). one.node < length c.args.plan.now.nodes)) (sym (c.carried.ensures ∙ ap (λ (wiring : Wired). wiring.carried) c.requires.wired)) (carried-placed c.args.plan.now c.links-links.ensures.planned few) in
    let low : (get_or c.carried.result.now i d).node < length c.args.plan.now.nodes = placed i d h in
    omega (arith, low, c.requires.places, c.begin_all.ensures.lengths, c.hear_all.ensures.lengths)

pub carry_all-requires-clause-outputs : goal.carry_all-requires-clause-outputs
carry_all-requires-clause-outputs g c i d h = (small i d h, one-of (get_or c.carried.result.now i d).output (among i d h))
  where
    few : length c.args.plan.now.network.set.edges ≤ 512
    few = subst (λ (edges : List Edge). length edges ≤ 512) c.edges-edges.ensures.value c.edges-edges.ensures.few

    same : (wired_of c.args.plan.now).carried ≡ c.carried.result.now
    same = sym (c.carried.ensures ∙ ap (λ (wiring : Wired). wiring.carried) c.requires.wired)

    small : All (λ (one : Carried). one.place < 4294967296) c.carried.result.now
    small = subst (All (λ (one : Carried). one.place < 4294967296)) same (carried-small c.args.plan.now c.links-links.ensures.planned few)

    among : All (λ (one : Carried). IsAmong (widths_at (wired_of c.args.plan.now) one.node).outputs one.output) c.carried.result.now
    among = subst (All (λ (one : Carried). IsAmong (widths_at (wired_of c.args.plan.now) one.node).outputs one.output)) same (carried-outputs c.args.plan.now c.links-links.ensures.planned few)

    placed : All (λ (one : Carried). one.node < length c.args.plan.now.nodes) c.carried.result.now
    placed = subst (All (λ (one : Carried). one.node < length c.args.plan.now.nodes)) same (carried-placed c.args.plan.now c.links-links.ensures.planned few)

    node : ℕ
    node = (get_or c.carried.result.now i d).node

    node-low : (get_or c.carried.result.now i d).node < length c.args.wiring.now.widths
    node-low = omega (arith, placed i d h, ap (λ (wiring : Wired). length wiring.widths) c.requires.wired, length-widths c.args.plan.now c.links-links.ensures.planned few)

    turn : (bench_at c.hear_all.new.rack (get_or c.carried.result.now i d).node).kept.turn ≡ Some (turn_of c.args.wiring.now c.links-links.result.now c.args.moment.now c.args.period (get_or c.carried.result.now i d).node)
    turn = ap (λ (bench : Seen). bench.kept.turn) (c.hear_all.ensures.wires node) ∙ ap (λ (bench : Seen). bench.kept.turn) (c.begin_all.ensures.begun node node-low)

    one-of : (output : Output) → IsAmong (widths_at (wired_of c.args.plan.now) node).outputs output → IsOneOf (bench_at c.hear_all.new.rack node).kept.turn output
    one-of (Audio output) m = (m.0, λ now e. subst (λ (turn : Stint). output < turn.ports.outputs) (some-one _ now (sym turn ∙ e)) (subst (λ (wiring : Wired). output < (widths_at wiring node).outputs) (sym c.requires.wired) m.1))
    one-of (Midi output) m = tt

pub carry_all-requires-clause-few : goal.carry_all-requires-clause-few
carry_all-requires-clause-few g c =
    let few : length c.args.plan.now.network.set.edges ≤ 512 = subst (λ (edges : List Edge). length edges ≤ 512) c.edges-edges.ensures.value c.edges-edges.ensures.few in
    subst (λ (carried : List Carried). length carried ≤ 512) (sym (c.carried.ensures ∙ ap (λ (wiring : Wired). wiring.carried) c.requires.wired)) (few-carried c.args.plan.now c.links-links.ensures.planned few)

pub link_all-requires-clause-few : goal.link_all-requires-clause-few
link_all-requires-clause-few g c =
    let few : length c.args.plan.now.network.set.edges ≤ 512 = subst (λ (edges : List Edge). length edges ≤ 512) c.edges-edges.ensures.value c.edges-edges.ensures.few in
    subst (λ (links : List Link). (n k : ℕ) → k ≤ length links → count_out links n k ≤ 64) (sym c.links-links.ensures.value) (links-few c.args.plan.now c.links-links.ensures.planned few)

pub returns-clause-joints : goal.returns-clause-joints
returns-clause-joints g c =
    let few : length c.args.plan.now.network.set.edges ≤ 512 = subst (λ (edges : List Edge). length edges ≤ 512) c.edges-edges.ensures.value c.edges-edges.ensures.few in
    subst (λ (wiring : Wired). AreJoints (length c.args.plan.now.nodes) wiring.joints) (sym c.requires.wired) (record {
      few_nodes = few-nodes c.args.plan.now c.links-links.ensures.planned few;
      few = few-joints c.args.plan.now c.links-links.ensures.planned few;
      placed = joints-placed c.args.plan.now c.links-links.ensures.planned few;
      kept = joints-kept c.args.plan.now c.links-links.ensures.planned few;
    })

pub returns-clause-others : goal.returns-clause-others
returns-clause-others g c p h =
    c.link_all.ensures.others (length c.args.plan.now.nodes) p links h
    ∙ c.carry_all.ensures.routes p
    ∙ ap (λ routes. with_routes routes (bench_at c.hear_all.new.rack p)) (routes-none c.carried.result.now (length c.args.plan.now.nodes) p carried h ∙ sym (heard-routes ∙ idle-routes))
    ∙ c.hear_all.ensures.wires p
    ∙ ap (λ wires. with_wires wires (bench_at c.begin_all.new.rack p)) (wires-none (λ i. []) c.joints.result.now (length c.args.plan.now.nodes) p (length c.joints.result.now) joints h (omega arith) ∙ sym (ap (λ (bench : Seen). bench.kept.wires) begun ∙ idle-wires))
    ∙ begun
  where
    few : length c.args.plan.now.network.set.edges ≤ 512
    few = subst (λ (edges : List Edge). length edges ≤ 512) c.edges-edges.ensures.value c.edges-edges.ensures.few

    links : All (λ (link : Link). link.from < length c.args.plan.now.nodes) c.links-links.result.now
    links = subst (All (λ (link : Link). link.from < length c.args.plan.now.nodes)) (sym c.links-links.ensures.value) (links-placed c.args.plan.now c.links-links.ensures.planned few)

    carried : All (λ (one : Carried). one.node < length c.args.plan.now.nodes) c.carried.result.now
    carried = subst (All (λ (one : Carried). one.node < length c.args.plan.now.nodes)) (sym (c.carried.ensures ∙ ap (λ (wiring : Wired). wiring.carried) c.requires.wired)) (carried-placed c.args.plan.now c.links-links.ensures.planned few)

    joints : All (λ (joint : Joint). joint.node < length c.args.plan.now.nodes) c.joints.result.now
    joints = subst (All (λ (joint : Joint). joint.node < length c.args.plan.now.nodes)) (sym (c.joints.ensures ∙ ap (λ (wiring : Wired). wiring.joints) c.requires.wired)) (joints-placed c.args.plan.now c.links-links.ensures.planned few)

    begun : bench_at c.begin_all.new.rack p ≡ bench_at c.args.rack.now p
    begun = c.begin_all.ensures.others p (omega (arith, h, ap (λ (wiring : Wired). length wiring.widths) c.requires.wired, length-widths c.args.plan.now c.links-links.ensures.planned few))

    idle-wires : (bench_at c.args.rack.now p).kept.wires ≡ []
    idle-wires = sym (ap (λ (bench : Seen). bench.kept.wires) (idle-at c.args.rack.now c.requires.idle p))

    idle-routes : (bench_at c.args.rack.now p).kept.routes ≡ []
    idle-routes = sym (ap (λ (bench : Seen). bench.kept.routes) (idle-at c.args.rack.now c.requires.idle p))

    heard-routes : (bench_at c.hear_all.new.rack p).kept.routes ≡ (bench_at c.args.rack.now p).kept.routes
    heard-routes = ap (λ (bench : Seen). bench.kept.routes) (c.hear_all.ensures.wires p) ∙ ap (λ (bench : Seen). bench.kept.routes) begun
