use Rattle.std.proofs.Common.{◌≡◌, length}
use Rattle.jack_types.specs.declared.ports.Port.{Port}
use Rattle.jack_types.specs.declared.ports.Range.{Range}
use Rattle.latency_ranges.specs.Tables.{HaveIds, IsShownBelow, Shows, brought, is_far, is_near}
use Rattle.latency_ranges.proofs.joins.join_edges.Given as goal

abbrev pub invariant-loop-place : goal.invariant-loop-place
invariant-loop-place l = record {
  room : length l.table ≡ length l.ports;
  ids : HaveIds l.place l.ports;
  far : (range : Port → Range) → Shows (is_far l.mode) range l.ports l.initial.table → Shows (is_far l.mode) range l.ports l.table;
  near : (range : Port → Range) → Shows (is_far l.mode) range l.ports l.initial.table → IsShownBelow l.place (is_near l.mode) (brought l.ports l.edges l.mode range) l.ports l.table;
}
