use Rattle.std.proofs.Common.{◌≡◌, ◌+◌, ◌≤◌, ◌∙◌, Global, Vec, None, Some, ap, sym, arith, length}
use Rattle.std.specs.Vec.{vec_capacity}
use Rattle.graph_word.specs.jack_types.specs.declared.ports.Link.{Link}
use Rattle.feedback_edges.specs.connection_set.specs.Connections.{no_edge}
use Rattle.cycle_plan.specs.Layouts.{with_link}
use Rattle.cycle_plan.specs.Searching.{link_at_numbers}
use Rattle.cycle_plan.proofs.NodeLemmas.{links_more, length-with_link}
use Rattle.cycle_plan.proofs.links.link_nodes.Goals as goal
use Rattle.cycle_plan.proofs.links.link_nodes.Goals.{in-Some, in_default}

pub loop-edge-preserved : goal.loop-edge-preserved
loop-edge-preserved c =
    elim c.match-link_of_edge.branch [
      | in-Some w ↦
          let made : c.match-link_of_edge.links.items ≡ with_link c.loop-edge.links.items w.in-Some.link = ap (λ (v : Vec Link Global). v.items) w.links-is ∙ w.add_link.ensures.links in
          let size : length c.match-link_of_edge.links.items ≡ length (with_link c.loop-edge.links.items w.in-Some.link) = ap length made in
          let most : length (with_link c.loop-edge.links.items w.in-Some.link) ≤ length c.loop-edge.links.items + 1 = length-with_link c.loop-edge.links.items w.in-Some.link in
          let kept : vec_capacity c.match-link_of_edge.links ≡ vec_capacity w.add_link.new.links = ap (λ (v : Vec Link Global). vec_capacity v) w.links-is in
          record {
            links = made
                ∙ ap (λ links. with_link links w.in-Some.link) c.loop-edge.invariant.links
                ∙ sym (links_more (link_at_numbers c.args.table.now c.args.places.now) c.args.edges.now c.loop-edge.edge-index no_edge (Some w.in-Some.link) c.loop-edge-test.true (sym c.link_of_edge.ensures ∙ w.in-Some.is));
            few = omega (arith, size, most, c.loop-edge.invariant.few);
            room = omega (arith, kept, w.add_link.ensures.room, c.loop-edge.invariant.room);
          }
      | in_default w ↦
          let same : c.match-link_of_edge.links.items ≡ c.loop-edge.links.items = ap (λ (v : Vec Link Global). v.items) w.links-is in
          let size : length c.match-link_of_edge.links.items ≡ length c.loop-edge.links.items = ap length same in
          let kept : vec_capacity c.match-link_of_edge.links ≡ vec_capacity c.loop-edge.links = ap (λ (v : Vec Link Global). vec_capacity v) w.links-is in
          record {
            links = same
                ∙ c.loop-edge.invariant.links
                ∙ sym (links_more (link_at_numbers c.args.table.now c.args.places.now) c.args.edges.now c.loop-edge.edge-index no_edge None c.loop-edge-test.true (sym c.link_of_edge.ensures ∙ w.in_default.is));
            few = omega (arith, size, c.loop-edge.invariant.few);
            room = omega (arith, kept, c.loop-edge.invariant.room);
          }
    ]
