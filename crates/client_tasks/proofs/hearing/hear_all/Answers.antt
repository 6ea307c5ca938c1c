use Rattle.std.proofs.Common.{◌≡◌, ◌≢◌, ◌<◌, ◌≤◌, ◌+◌, ◌++◌, ◌∷◌, ◌∙◌, ℕ, List, [], ap, arith, get_or, length, refl, sym, take, Option}
use Rattle.jack_types.specs.declared.kinds.Kind.TheVariants.{Pass}
use Rattle.bench_rack.specs.client_benches.specs.Seen.{Seen, new_bench}
use Rattle.bench_rack.specs.client_benches.specs.Wires.{kept_count}
use Rattle.client_wiring.specs.declared.joints.Joint.{Joint}
use Rattle.client_wiring.specs.declared.joints.Origin.TheVariants.{Handed}
use Rattle.bench_rack.specs.Racks.{Racked, bench_at, wire_total}
use Rattle.client_tasks.specs.Fillings.{with_wires}
use Rattle.client_tasks.specs.Steps.{heard, wires_from}
use Rattle.client_tasks.specs.Tasks.{first_like, joint_at, source_by}
use Rattle.client_tasks.proofs.ListLemmas.{joint_at-is, length-wires, wires-more, wires-other}
use Rattle.client_tasks.proofs.RackLemmas.{each-put, kept_count-more, length-put, total-none, total-put}
use Rattle.client_tasks.proofs.hearing.hear_all.Goals as goal

pub loop-place-init : goal.loop-place-init
loop-place-init g c = record {
  wires = λ p. ap (λ wires. with_wires wires (bench_at c.args.rack.now p)) (c.requires.none p);
  room = let zero : wire_total c.args.rack.now ≡ 0 = total-none (λ (bench : Seen). kept_count bench.kept.wires) c.args.rack.now.benches (new_bench Pass 0) (λ p. ap kept_count (c.requires.none p)) in omega (arith, zero);
  lengths = refl;
  links = refl;
}

pub hear-requires-clause-few : goal.hear-requires-clause-few
hear-requires-clause-few g c =
    let joint : Joint = get_or c.args.joints.now c.loop-place.place (record { node = 0; input = 0; origin = Handed 0 0 }) in
    let same : length (bench_at c.loop-place.rack joint.node).kept.wires ≡ length (wires_from (λ i. []) c.args.joints.now joint.node c.loop-place.place) = ap (λ (bench : Seen). length bench.kept.wires) (c.loop-place.invariant.wires joint.node) in
    let most : length (wires_from (λ i. []) c.args.joints.now joint.node c.loop-place.place) ≤ c.loop-place.place = length-wires (λ i. []) c.args.joints.now joint.node c.loop-place.place in
    omega (arith, same, most, c.loop-place-test.true, c.requires.few)

pub loop-place-preserved : goal.loop-place-preserved
loop-place-preserved g c = record {
  wires = each-put (λ p. with_wires (wires_from (λ i. []) joints p place) (bench_at c.args.rack.now p)) (λ p. with_wires (wires_from (λ i. []) joints p (place + 1)) (bench_at c.args.rack.now p))
      c.loop-place.rack c.hear.new.rack joint.node (heard like joint (bench_at c.loop-place.rack joint.node)) c.hear.ensures within c.loop-place.invariant.wires here others;
  room =
      let total : wire_total c.hear.new.rack + kept_count (bench_at c.loop-place.rack joint.node).kept.wires ≡ wire_total c.loop-place.rack + kept_count (heard like joint (bench_at c.loop-place.rack joint.node)).kept.wires =
      total-put (λ (bench : Seen). kept_count bench.kept.wires) c.loop-place.rack c.hear.new.rack joint.node (heard like joint (bench_at c.loop-place.rack joint.node)) c.hear.ensures within in
      let more : kept_count (heard like joint (bench_at c.loop-place.rack joint.node)).kept.wires ≤ kept_count (bench_at c.loop-place.rack joint.node).kept.wires + 1 =
      kept_count-more (bench_at c.loop-place.rack joint.node).kept.wires (record { input = joint.input; source = source_by like [] joint.origin }) in
      omega (arith, total, more, c.loop-place.invariant.room);
  lengths = length-put c.loop-place.rack c.hear.new.rack joint.node (heard like joint (bench_at c.loop-place.rack joint.node)) c.hear.ensures ∙ c.loop-place.invariant.lengths;
  links = ap (λ (rack : Racked). rack.links) c.hear.ensures ∙ c.loop-place.invariant.links;
}
  where
    joints : List Joint
    joints = c.args.joints.now

    place : ℕ
    place = c.loop-place.place

    joint : Joint
    joint = get_or c.args.joints.now c.loop-place.place (record { node = 0; input = 0; origin = Handed 0 0 })

    same : joint ≡ joint_at joints place
    same = joint_at-is joints place (record { node = 0; input = 0; origin = Handed 0 0 }) c.loop-place-test.true

    -- where the node has the channel from already
    like : Option ℕ
    like = first_like (take place joints) joint

    within : joint.node < length c.loop-place.rack.benches
    within = let low : joint.node < length c.args.rack.now.benches = c.requires.nodes place (record { node = 0; input = 0; origin = Handed 0 0 }) c.loop-place-test.true in omega (arith, low, c.loop-place.invariant.lengths)

    here : heard like joint (bench_at c.loop-place.rack joint.node) ≡ with_wires (wires_from (λ i. []) joints joint.node (place + 1)) (bench_at c.args.rack.now joint.node)
    here =
        ap (heard like joint) (c.loop-place.invariant.wires joint.node)
        ∙ ap (λ wires. with_wires wires (bench_at c.args.rack.now joint.node))
        (ap (λ (one : Joint). wires_from (λ i. []) joints joint.node place ++ record { input = one.input; source = source_by (first_like (take place joints) one) [] one.origin } ∷ []) same
        ∙ sym (wires-more (λ i. []) joints joint.node place (sym (ap (λ (one : Joint). one.node) same))))

    others : (p : ℕ) → p ≢ joint.node → with_wires (wires_from (λ i. []) joints p place) (bench_at c.args.rack.now p) ≡ with_wires (wires_from (λ i. []) joints p (place + 1)) (bench_at c.args.rack.now p)
    others p n = ap (λ wires. with_wires wires (bench_at c.args.rack.now p)) (sym (wires-other (λ i. []) joints p place (λ e. n (sym (ap (λ (one : Joint). one.node) same ∙ e)))))
