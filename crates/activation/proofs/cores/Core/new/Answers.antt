use Rattle.std.proofs.Common.{rules, arith, ◌≡◌, ◌+◌, length, map, sym, ap, ◌∙◌, subst}
use Rattle.session_laws.specs.session_model.specs.Activation.{incoming}
use Rattle.session_laws.specs.session_model.specs.Samples.{below}
use Rattle.session_laws.proofs.ActivationLemmas.{length-map_below}
use Rattle.activation.specs.Steps.{IsCourse}
use Rattle.activation.proofs.Courses.{opening-is, opening-course}
use Rattle.activation.proofs.cores.Core.new.Goals as goal

pub overflow_add-incoming_count : goal.overflow_add-incoming_count
overflow_add-incoming_count c = omega (arith, c.requires.sizes, c.incoming_count.ensures.few)

pub push_reserved-requires : goal.push_reserved-requires
push_reserved-requires c =
    let long : length c.loop-node.counters.items ≡ c.loop-node.node = ap length c.loop-node.invariant.0 ∙ length-map_below (λ n. length (incoming c.args.links.now n) + 1) c.loop-node.node in
    omega (arith, c.loop-node.counters.ok.0, long, c.loop-node.invariant.1, c.loop-node-test.true)

pub invariant_of-result : goal.invariant_of-result
invariant_of-result c =
    let end : c.loop-node.node ≡ c.args.nodes = omega (arith, c.loop-node.auto.node-end, c.loop-node-test.false) in
    let count : c.loop-node.counters.items ≡ map (λ n. length (incoming c.args.links.now n) + 1) (below c.args.nodes) = c.loop-node.invariant.0 ∙ ap (λ k. map (λ n. length (incoming c.args.links.now n) + 1) (below k)) end in
    subst IsCourse (sym (opening-is c.args.nodes c.args.seats c.args.links.now c.in_ok-to_vec.field-0.items c.loop-node.counters.items c.in_ok-started.started.items c.in_ok-stands.stands.items c.in_ok-released.released.items
    (search rules) count (search rules) (search rules) (search rules)))
    (opening-course c.args.nodes c.args.seats c.args.links.now c.requires.links c.requires.sizes.1 c.requires.sizes.0)

pub returns : goal.returns
returns c =
    let end : c.loop-node.node ≡ c.args.nodes = omega (arith, c.loop-node.auto.node-end, c.loop-node-test.false) in
    let count : c.loop-node.counters.items ≡ map (λ n. length (incoming c.args.links.now n) + 1) (below c.args.nodes) = c.loop-node.invariant.0 ∙ ap (λ k. map (λ n. length (incoming c.args.links.now n) + 1) (below k)) end in
    record {
      opening = opening-is c.args.nodes c.args.seats c.args.links.now c.in_ok-to_vec.field-0.items c.loop-node.counters.items c.in_ok-started.started.items c.in_ok-stands.stands.items c.in_ok-released.released.items
          (search rules) count (search rules) (search rules) (search rules);
    }
