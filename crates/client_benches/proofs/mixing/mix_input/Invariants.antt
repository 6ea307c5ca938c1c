use Rattle.std.proofs.Common.{◌≡◌, ◌+◌, ◌≤◌, take, length, map}
use Rattle.activation.specs.session_model.specs.Benches.{audio_part}
use Rattle.activation.specs.Values.{values_of}
use Rattle.client_benches.specs.Gathered.{AreGathered}
use Rattle.client_benches.specs.Wires.{parts_of}
use Rattle.client_benches.proofs.mixing.mix_input.Given as goal

abbrev pub invariant-loop-wire : goal.invariant-loop-wire
invariant-loop-wire l = record {
  gathered : AreGathered (length l.padded) l.mixer l.few (map (audio_part (values_of l.given)) (parts_of l.wires (take l.wire-index l.wires) l.input));
  few : l.mixer.parts + length l.few ≤ l.wire-index;
  long : length l.mixer.sums ≡ length l.padded;
  room : l.mixer.room ≡ l.initial.mixer.room;
  frames : length l.padded ≡ length l.initial.padded;
}
