use Rattle.std.proofs.Common.{◌≡◌, ◌<◌, ◌≤◌, ℕ, filter, get_or, length, take}
use Rattle.jack_types.specs.declared.ports.Port.{Port}
use Rattle.client_wiring.specs.Tables.{class_place, in_class}
use Rattle.client_wiring.proofs.tables.place_ports.Given as goal

abbrev pub invariant-loop-port : goal.invariant-loop-port
invariant-loop-port l = record {
  size : length l.counts ≡ 268;
  so_far : (class : ℕ) → class < 268 → get_or l.counts class 0 ≡ length (filter (in_class class) (take l.port-index l.ports));
  few : (class : ℕ) → class < 268 → get_or l.counts class 0 ≤ l.port-index;
  room : length l.places ≡ 2064;
  held : (k : ℕ) (port : Port) → k < l.port-index → get_or l.ports k port ≡ port → get_or l.places port.id.0 0 ≡ class_place l.ports k port;
}
