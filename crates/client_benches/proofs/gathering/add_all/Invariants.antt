use Rattle.std.proofs.Common.{◌≡◌, ◌+◌, length, map, take}
use Rattle.client_kinds.specs.port_mixer.specs.Sums.{GainsParts}
use Rattle.client_benches.proofs.gathering.add_all.Given as goal

abbrev pub invariant-loop-part : goal.invariant-loop-part
invariant-loop-part l = record {
  gained : GainsParts (length l.padded) l.initial.mixer.sums l.mixer.sums (map (λ part. part.now) (take l.part-index l.parts));
  long : length l.mixer.sums ≡ length l.padded;
  count : l.mixer.parts ≡ l.initial.mixer.parts + l.part-index;
  room : l.mixer.room ≡ l.initial.mixer.room;
  frames : length l.padded ≡ length l.initial.padded;
}
