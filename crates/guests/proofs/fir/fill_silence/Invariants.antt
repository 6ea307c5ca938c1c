use Rattle.std.proofs.Common.{◌≡◌, take}
use Rattle.session_model.specs.Samples.{silence}
use Rattle.guests.proofs.fir.fill_silence.Given as goal

abbrev pub invariant-loop-i : goal.invariant-loop-i
invariant-loop-i l = take l.i l.past ≡ silence l.i
