use Rattle.std.proofs.Common.{◌≡◌, take}
use Rattle.port_mixer.specs.session_model.specs.Samples.{silence}
use Rattle.client_kinds.proofs.sounds.fill_silence.Given as goal

abbrev pub invariant-loop-i : goal.invariant-loop-i
invariant-loop-i l = take l.i l.part ≡ silence l.i
