use Rattle.std.proofs.Common.{◌≡◌, ◌+◌, ◌-◌, ◌*◌, ◌≤◌, drop, false}
use Rattle.samples.specs.session_model.specs.WaveFiles.{frame_bytes}
use Rattle.wave_pcm.specs.Readings.{Gave, SameReading}
use Rattle.wave_pcm.proofs.wave.Wave.frames_into.Given as goal

abbrev pub invariant-reading : goal.invariant-reading
invariant-reading g l = record {
  within : l.done ≤ l.frames;
  gave : Gave l.initial.self.left l.self.left (l.done * l.initial.self.format.channels) l.out;
  rest : drop (l.done * l.initial.self.format.channels) l.out ≡ drop (l.done * l.initial.self.format.channels) l.initial.out;
  given : l.self.given ≡ l.initial.self.given + l.done * frame_bytes l.initial.self.format;
  going : l.self.failed ≡ false;
  same : SameReading l.initial.self l.self;
  kept : l.self.faults ≡ l.initial.self.faults;
}

abbrev pub decreases-reading : goal.decreases-reading
decreases-reading g l = l.frames - l.done
