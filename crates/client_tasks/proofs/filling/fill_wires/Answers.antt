use Rattle.std.proofs.Common.{◌≡◌, ◌≢◌, ◌<◌, ◌≤◌, ◌+◌, ◌∙◌, ◌⊎◌, inl, inr, ℕ, ℤ, List, None, ap, arith, get_or, length, map, refl, replicate, set, subst, sym, get_or-set_same, get_or-set_other}
use Rattle.std.proofs.lemmas.Bool.{cases_eq}
use Rattle.std.proofs.lemmas.List.{get_or-replicate, length-set}
use Rattle.bench_rack.specs.client_benches.specs.Seen.{Seen}
use Rattle.bench_rack.specs.client_benches.specs.Wires.{wire_at}
use Rattle.bench_rack.specs.client_benches.specs.declared.wires.Wire.{Wire}
use Rattle.client_wiring.specs.declared.joints.Joint.{Joint}
use Rattle.client_wiring.specs.declared.joints.Origin.TheVariants.{Captured, Handed}
use Rattle.bench_rack.specs.Racks.{bench_at}
use Rattle.client_tasks.specs.Fillings.{AreJoints, known_at, known_by}
use Rattle.client_tasks.specs.Steps.{mixed, own_joints, with_samples_of}
use Rattle.client_tasks.specs.Tasks.{joint_at, wire_by, wires_of}
use Rattle.client_tasks.proofs.FillLemmas.{known-same, length-filled, others-filled, wire-there, wires-filled, wires-first, wires-last}
use Rattle.client_tasks.proofs.ListLemmas.{joint_at-is, length-more, length-own, own-other}
use Rattle.client_tasks.proofs.filling.fill_wires.Goals as goal

abbrev nobody : Joint
nobody = record { node = 0; input = 0; origin = Handed 0 0 }

node-low : (joints : List Joint) (nodes : ℕ) → AreJoints nodes joints → (i : ℕ) (d : Joint) → i < length joints → (get_or joints i d).node < 64
node-low joints nodes are i d h = let placed : (get_or joints i d).node < nodes = are.placed i d h in omega (arith, placed, are.few_nodes)

pub loop-place-init : goal.loop-place-init
loop-place-init g c = record {
  size = refl;
  so_far = λ n h. get_or-replicate 64 n 0 0 h;
  few = λ n h. let none : get_or (replicate {A = ℕ} 64 0) n 0 ≡ 0 = get_or-replicate 64 n 0 0 h in omega (arith, none);
  wires = λ sources n are. wires-first c.args.joints.now (known_at c.args.rack.now c.args.capture.now.channels c.args.silence.now c.args.last.now c.args.joints.now) sources n (bench_at c.args.rack.now n).kept.wires are;
  others = λ p. refl;
  lengths = refl;
  links = refl;
}

-- the wire of a joint in the middle of the loop
module _ (joints : List Joint) (counts : List ℕ) (place : ℕ) (d : Joint) (sources known : ℕ → List ℤ) (wires : List Wire) (low : place < length joints)
    (was : wires ≡ map (wire_by (mixed known sources place) joints) (own_joints joints (get_or joints place d).node (length joints)))
    (so_far : get_or counts (get_or joints place d).node 0 ≡ length (own_joints joints (get_or joints place d).node place)) where
  same : get_or joints place d ≡ joint_at joints place
  same = joint_at-is joints place d low

  there : (length (own_joints joints (joint_at joints place).node place) < length wires) × (wire_at wires (length (own_joints joints (joint_at joints place).node place)) ≡ wire_by (mixed known sources place) joints place)
  there = wire-there (mixed known sources place) joints place wires low (was ∙ ap (λ (joint : Joint). map (wire_by (mixed known sources place) joints) (own_joints joints joint.node (length joints))) same)

  at : get_or counts (get_or joints place d).node 0 ≡ length (own_joints joints (joint_at joints place).node place)
  at = so_far ∙ ap (λ (joint : Joint). length (own_joints joints joint.node place)) same

  wire-within : get_or counts (get_or joints place d).node 0 < length wires
  wire-within = omega (arith, there.0, at)

pub fill_wire-requires-clause-wire : goal.fill_wire-requires-clause-wire
fill_wire-requires-clause-wire g c = wire-within joints c.loop-place.counts place nobody sources known (bench_at c.loop-place.rack (get_or c.args.joints.now c.loop-place.place nobody).node).kept.wires c.loop-place-test.true
    (c.loop-place.invariant.wires sources (get_or c.args.joints.now c.loop-place.place nobody).node was)
    (c.loop-place.invariant.so_far (get_or c.args.joints.now c.loop-place.place nobody).node low)
  where
    joints : List Joint
    joints = c.args.joints.now

    place : ℕ
    place = c.loop-place.place

    known : ℕ → List ℤ
    known = known_at c.args.rack.now c.args.capture.now.channels c.args.silence.now c.args.last.now c.args.joints.now

    sources : ℕ → List ℤ
    sources = (c.requires.set c.loop-place.place c.loop-place-test.true).0

    same : get_or c.args.joints.now c.loop-place.place nobody ≡ joint_at c.args.joints.now c.loop-place.place
    same = joint_at-is c.args.joints.now c.loop-place.place nobody c.loop-place-test.true

    was : (bench_at c.args.rack.now (get_or c.args.joints.now c.loop-place.place nobody).node).kept.wires ≡ wires_of sources c.args.joints.now (get_or c.args.joints.now c.loop-place.place nobody).node
    was = subst (λ (joint : Joint). (bench_at c.args.rack.now joint.node).kept.wires ≡ wires_of sources c.args.joints.now joint.node) (sym same) (c.requires.set c.loop-place.place c.loop-place-test.true).1

    low : (get_or c.args.joints.now c.loop-place.place nobody).node < 64
    low = node-low c.args.joints.now c.requires.joints.0 c.requires.joints.1 c.loop-place.place nobody c.loop-place-test.true

pub loop-place-preserved : goal.loop-place-preserved
loop-place-preserved g c = record {
  size = length-set c.loop-place.counts node (get_or c.loop-place.counts node 0 + 1) ∙ c.loop-place.invariant.size;
  so_far = λ n h. so_far n h (cases_eq n node);
  few = λ n h. few n h (so_far n h (cases_eq n node));
  wires = λ sources n are. wires-filled joints known sources place samples c.loop-place.rack c.fill_wire.new.rack c.loop-place-test.true within (known-same c.loop-place.rack c.args.rack.now c.args.capture.now.channels c.args.silence.now (get_or c.args.last.now c.loop-place.place None) (joint_at joints place).origin c.loop-place.invariant.others)
      filled n (c.loop-place.invariant.wires sources n are);
  others = λ p. others-filled c.loop-place.rack c.fill_wire.new.rack (joint_at joints place).node wire samples (joint_at joints place).origin within filled-at p ∙ c.loop-place.invariant.others p;
  lengths = (length-filled c.loop-place.rack c.fill_wire.new.rack (joint_at joints place).node wire samples (joint_at joints place).origin filled-at).0 ∙ c.loop-place.invariant.lengths;
  links = (length-filled c.loop-place.rack c.fill_wire.new.rack (joint_at joints place).node wire samples (joint_at joints place).origin filled-at).1 ∙ c.loop-place.invariant.links;
}
  where
    joints : List Joint
    joints = c.args.joints.now

    place : ℕ
    place = c.loop-place.place

    known : ℕ → List ℤ
    known = known_at c.args.rack.now c.args.capture.now.channels c.args.silence.now c.args.last.now c.args.joints.now

    node : ℕ
    node = (get_or c.args.joints.now c.loop-place.place nobody).node

    same : get_or c.args.joints.now c.loop-place.place nobody ≡ joint_at c.args.joints.now c.loop-place.place
    same = joint_at-is c.args.joints.now c.loop-place.place nobody c.loop-place-test.true

    node-is : (get_or c.args.joints.now c.loop-place.place nobody).node ≡ (joint_at c.args.joints.now c.loop-place.place).node
    node-is = ap (λ (joint : Joint). joint.node) same

    low : (get_or c.args.joints.now c.loop-place.place nobody).node < 64
    low = node-low c.args.joints.now c.requires.joints.0 c.requires.joints.1 c.loop-place.place nobody c.loop-place-test.true

    wire : ℕ
    wire = get_or c.loop-place.counts (get_or c.args.joints.now c.loop-place.place nobody).node 0

    samples : List ℤ
    samples = known_by c.loop-place.rack c.args.capture.now.channels c.args.silence.now (get_or c.args.last.now c.loop-place.place None) (joint_at c.args.joints.now c.loop-place.place).origin

    within : (joint_at c.args.joints.now c.loop-place.place).node < length c.loop-place.rack.benches
    within =
        let placed : (joint_at c.args.joints.now c.loop-place.place).node < c.requires.joints.0 = c.requires.joints.1.placed c.loop-place.place (record { node = 0; input = 0; origin = Captured 0 }) c.loop-place-test.true in
        omega (arith, placed, c.requires.joints.2, c.loop-place.invariant.lengths)

    filled-at : c.fill_wire.new.rack ≡ with_samples_of c.loop-place.rack (joint_at c.args.joints.now c.loop-place.place).node wire samples (joint_at c.args.joints.now c.loop-place.place).origin
    filled-at = c.fill_wire.ensures ∙ ap (λ (joint : Joint). with_samples_of c.loop-place.rack joint.node wire (known_by c.loop-place.rack c.args.capture.now.channels c.args.silence.now (get_or c.args.last.now c.loop-place.place None) joint.origin) joint.origin) same

    own : wire ≡ length (own_joints joints (joint_at joints place).node place)
    own = c.loop-place.invariant.so_far node low ∙ ap (λ n. length (own_joints joints n place)) node-is

    filled : c.fill_wire.new.rack ≡ with_samples_of c.loop-place.rack (joint_at joints place).node (length (own_joints joints (joint_at joints place).node place)) samples (joint_at joints place).origin
    filled = filled-at ∙ ap (λ n. with_samples_of c.loop-place.rack (joint_at joints place).node n samples (joint_at joints place).origin) own

    so_far : (n : ℕ) → n < 64 → (n ≡ node) ⊎ (n ≢ node) → get_or (set c.loop-place.counts node (get_or c.loop-place.counts node 0 + 1)) n 0 ≡ length (own_joints joints n (place + 1))
    so_far n h (inl e) =
        ap (λ m. get_or (set c.loop-place.counts node (get_or c.loop-place.counts node 0 + 1)) m 0) e
        ∙ get_or-set_same c.loop-place.counts node (get_or c.loop-place.counts node 0 + 1) 0 (omega (arith, low, c.loop-place.invariant.size))
        ∙ ap (λ m. m + 1) (c.loop-place.invariant.so_far node low)
        ∙ sym (length-more joints node place (sym node-is))
        ∙ ap (λ m. length (own_joints joints m (place + 1))) (sym e)
    so_far n h (inr d) =
        get_or-set_other c.loop-place.counts node n (get_or c.loop-place.counts node 0 + 1) 0 d
        ∙ c.loop-place.invariant.so_far n h
        ∙ ap length (sym (own-other joints n place (λ e. d (sym (node-is ∙ e)))))

    few : (n : ℕ) → n < 64 → get_or (set c.loop-place.counts node (get_or c.loop-place.counts node 0 + 1)) n 0 ≡ length (own_joints joints n (place + 1)) → get_or (set c.loop-place.counts node (get_or c.loop-place.counts node 0 + 1)) n 0 ≤ place + 1
    few n h is = omega (arith, is, length-own joints n (place + 1))

pub returns-clause-wires : goal.returns-clause-wires
returns-clause-wires g c sources n are =
    c.loop-place.invariant.wires sources n are
    ∙ wires-last c.args.joints.now (known_at c.args.rack.now c.args.capture.now.channels c.args.silence.now c.args.last.now c.args.joints.now) sources n c.loop-place.place c.loop-place-test.false

pub returns-clause-set : goal.returns-clause-set
returns-clause-set g c wiring links moment period sources nodes joints old n h = record {
  turn = ap (λ (bench : Seen). bench.kept.turn) (c.loop-place.invariant.others n) ∙ (old n h).turn;
  wires = c.loop-place.invariant.wires sources n ((old n h).wires ∙ ap (λ joints. wires_of sources joints n) joints)
      ∙ wires-last c.args.joints.now known sources n c.loop-place.place c.loop-place-test.false
      ∙ ap (λ joints. wires_of known joints n) (sym joints);
  routes = ap (λ (bench : Seen). bench.kept.routes) (c.loop-place.invariant.others n) ∙ (old n h).routes;
}
  where
    known : ℕ → List ℤ
    known = known_at c.args.rack.now c.args.capture.now.channels c.args.silence.now c.args.last.now c.args.joints.now
