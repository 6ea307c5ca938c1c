use Rattle.std.proofs.Common.{◌≡◌, false, length}
use Rattle.jack_types.specs.declared.ports.Port.{Port}
use Rattle.jack_types.specs.declared.ports.Range.{Range}
use Rattle.latency_ranges.specs.Tables.{IsShownBelow, Shows, held, is_far, is_near}
use Rattle.latency_ranges.proofs.passes.pass_clients.Given as goal

abbrev pub invariant-loop-place : goal.invariant-loop-place
invariant-loop-place l = record {
  room : length l.table ≡ length l.ports;
  near : (range : Port → Range) → Shows (is_near l.mode) range l.ports l.initial.table → Shows (is_near l.mode) range l.ports l.table;
  far : (range : Port → Range) → Shows (is_near l.mode) range l.ports l.initial.table → IsShownBelow l.place (is_far l.mode) (λ (port : Port). held l.ports l.delays l.mode range port.node) l.ports l.table;
  same : l.changed ≡ false → l.table ≡ l.initial.table;
}
