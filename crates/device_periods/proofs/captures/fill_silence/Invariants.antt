use Rattle.std.proofs.Common.{◌≡◌, take}
use Rattle.wave_pcm.specs.session_model.specs.Samples.{silence}
use Rattle.device_periods.proofs.captures.fill_silence.Given as goal

abbrev pub invariant-loop-i : goal.invariant-loop-i
invariant-loop-i l = take l.i l.samples ≡ silence l.i
