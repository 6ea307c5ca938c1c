use Rattle.std.proofs.Common.{◌≡◌, filter, map, take}
use Rattle.jack_types.specs.declared.ports.Edge.{Edge}
use Rattle.latency_ranges.specs.Tables.{at_port, far_end, is_edge_at, join_of}
use Rattle.latency_ranges.proofs.joins.join_along.Given as goal

abbrev pub invariant-loop-edge : goal.invariant-loop-edge
invariant-loop-edge l = l.so_far ≡ join_of (map (λ (edge : Edge). at_port l.ports l.table (far_end l.mode edge)) (filter (is_edge_at l.mode l.id) (take l.edge-index l.edges)))
