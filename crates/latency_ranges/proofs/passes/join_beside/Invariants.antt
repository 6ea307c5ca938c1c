use Rattle.std.proofs.Common.{◌≡◌, filter, map, take}
use Rattle.jack_types.specs.declared.ports.Port.{Port}
use Rattle.jack_types.specs.declared.ports.Range.{Range}
use Rattle.latency_ranges.specs.Tables.{Shows, is_beside, is_near, join_of}
use Rattle.latency_ranges.proofs.passes.join_beside.Given as goal

abbrev pub invariant-loop-place : goal.invariant-loop-place
invariant-loop-place l = (range : Port → Range) → Shows (is_near l.mode) range l.ports l.table → l.so_far ≡ join_of (map range (filter (is_beside l.mode l.node) (take l.place l.ports)))
