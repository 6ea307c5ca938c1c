use Rattle.std.proofs.Common.{◌≡◌}
use Rattle.port_mixer.specs.Sums.{sums_of}
use Rattle.client_kinds.specs.Buffers.{buffers_of}
use Rattle.client_kinds.proofs.benches.mix_inputs.Given as goal

abbrev pub invariant-loop-place : goal.invariant-loop-place
invariant-loop-place l = record {
  sums : l.mixer.sums ≡ sums_of l.ports.period (buffers_of l.place l.ports.period l.input);
  parts : l.mixer.parts ≡ l.place;
  room : l.mixer.room ≡ l.initial.mixer.room;
}
