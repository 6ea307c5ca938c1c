use Rattle.std.proofs.Common.{◌≡◌, length}
use Rattle.activation.specs.Values.{values_of}
use Rattle.client_kinds.specs.Buffers.{buffers_of}
use Rattle.client_benches.specs.Wires.{inputs_of}
use Rattle.client_benches.proofs.mixing.mix_inputs.Given as goal

abbrev pub invariant-loop-input : goal.invariant-loop-input
invariant-loop-input l = record {
  mixed : buffers_of l.input l.ports.period l.inputs ≡ inputs_of l.ports.period l.wires (values_of l.given) l.input;
  long : length l.inputs ≡ length l.initial.inputs;
  room : l.mixer.room ≡ l.initial.mixer.room;
  frames : length l.padded ≡ length l.initial.padded;
}
