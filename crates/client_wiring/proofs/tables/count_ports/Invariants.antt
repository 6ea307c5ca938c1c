use Rattle.std.proofs.Common.{◌≡◌, ◌<◌, ◌≤◌, ℕ, filter, get_or, length, take}
use Rattle.client_wiring.specs.Tables.{in_class}
use Rattle.client_wiring.proofs.tables.count_ports.Given as goal

abbrev pub invariant-loop-port : goal.invariant-loop-port
invariant-loop-port l = record {
  size : length l.counts ≡ 268;
  so_far : (class : ℕ) → class < 268 → get_or l.counts class 0 ≡ length (filter (in_class class) (take l.port-index l.ports));
  few : (class : ℕ) → class < 268 → get_or l.counts class 0 ≤ l.port-index;
}
