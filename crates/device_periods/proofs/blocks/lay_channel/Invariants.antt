use Rattle.std.proofs.Common.{◌≡◌, ◌≢◌, ℕ, ◌+◌, ◌*◌, ◌<◌, length}
use Rattle.wave_pcm.specs.session_model.specs.Samples.{sample}
use Rattle.device_periods.proofs.blocks.lay_channel.Given as goal

abbrev pub invariant-loop-i : goal.invariant-loop-i
invariant-loop-i l = record {
  length_is : length l.block ≡ l.frames * l.channels;
  laid : (j : ℕ) → j < l.i → sample l.block (j * l.channels + l.place) ≡ sample l.samples j;
  others : (j c : ℕ) → c < l.channels → c ≢ l.place → sample l.block (j * l.channels + c) ≡ sample l.initial.block (j * l.channels + c);
}

abbrev pub invariant-loop-i-2 : goal.invariant-loop-i-2
invariant-loop-i-2 l = record {
  length_is : length l.block ≡ l.frames * l.channels;
  laid : (j : ℕ) → j < l.i → sample l.block (j * l.channels + l.place) ≡ sample l.samples j;
  others : (j c : ℕ) → c < l.channels → c ≢ l.place → sample l.block (j * l.channels + c) ≡ sample l.initial.block (j * l.channels + c);
}
