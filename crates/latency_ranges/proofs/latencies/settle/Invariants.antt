use Rattle.std.proofs.Common.{◌≡◌, length}
use Rattle.latency_ranges.specs.Tables.{Shows, handed_within, is_far}
use Rattle.latency_ranges.proofs.latencies.settle.Given as goal

abbrev pub invariant-loop-depth : goal.invariant-loop-depth
invariant-loop-depth l = record {
  room : length l.table ≡ length l.ports;
  far : Shows (is_far l.mode) (handed_within l.ports l.edges l.delays l.mode l.depth) l.ports l.table;
}
