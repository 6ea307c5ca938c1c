use Rattle.std.proofs.Common.{◌≡◌, ◌<◌, ℕ, get_or, length}
use Rattle.jack_types.specs.declared.ports.Port.{Port}
use Rattle.midi_wiring.proofs.ports.index_ports.Given as goal

abbrev pub invariant-loop-index : goal.invariant-loop-index
invariant-loop-index l = record {
  size : length l.indices ≡ 2064;
  held : (k : ℕ) (port : Port) → k < l.index → get_or l.ports k port ≡ port → get_or l.indices port.id.0 0 ≡ k;
}
