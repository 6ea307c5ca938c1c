use Rattle.std.proofs.Common.{◌∙◌, Some, ap, ap₂, sym}
use Rattle.jack_types.specs.declared.ports.Edge.{Edge}
use Rattle.latency_ranges.specs.Tables.{at_port, far_end, is_edge_at, join_with}
use Rattle.latency_ranges.proofs.JoinLemmas.{joined_skip, joined_step, no_edge}
use Rattle.latency_ranges.proofs.joins.join_along.Goals as goal
use Rattle.latency_ranges.proofs.joins.join_along.Goals.{then-is_edge_at, else-is_edge_at}

pub loop-edge-preserved : goal.loop-edge-preserved
loop-edge-preserved c =
    elim c.if-is_edge_at.branch [
      | then-is_edge_at w ↦
          w.so_far-is
          ∙ ap Some (w.joined_to.ensures ∙ ap₂ join_with c.loop-edge.invariant (w.range_at.ensures ∙ ap (at_port c.args.ports.now c.args.table.now) w.far_end.ensures))
          ∙ sym (joined_step (λ (edge : Edge). at_port c.args.ports.now c.args.table.now (far_end c.args.mode edge)) (is_edge_at c.args.mode c.args.id) c.args.edges.now c.loop-edge.edge-index no_edge c.loop-edge-test.true (sym c.is_edge_at.ensures ∙ w.if-is_edge_at.true))
      | else-is_edge_at w ↦
          w.so_far-is
          ∙ c.loop-edge.invariant
          ∙ sym (joined_skip (λ (edge : Edge). at_port c.args.ports.now c.args.table.now (far_end c.args.mode edge)) (is_edge_at c.args.mode c.args.id) c.args.edges.now c.loop-edge.edge-index no_edge c.loop-edge-test.true (sym c.is_edge_at.ensures ∙ w.if-is_edge_at.false))
    ]
