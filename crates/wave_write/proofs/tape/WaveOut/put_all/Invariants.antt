use Rattle.std.proofs.Common.{◌≡◌, ◌-◌, ◌≤◌, false, length, take}
use Rattle.driver_words.specs.session_model.specs.Samples.{bytes_of}
use Rattle.driver_words.specs.Tapes.{Gained, SameFile}
use Rattle.wave_write.proofs.tape.WaveOut.put_all.Given as goal

abbrev pub invariant-putting : goal.invariant-putting
invariant-putting g l = record {
  within : l.at ≤ length l.samples;
  gained : Gained l.initial.self l.self (bytes_of l.initial.self.format.bits (take l.at l.samples));
  going : l.self.stopped ≡ false;
  file : SameFile l.initial.self l.self;
  kept : l.self.faults ≡ l.initial.self.faults;
}

abbrev pub decreases-putting : goal.decreases-putting
decreases-putting g l = length l.samples - l.at
