use Rattle.std.proofs.Common.{◌≡◌, take}
use Rattle.port_mixer.specs.session_model.specs.Kinds.{peak_with}
use Rattle.client_kinds.proofs.sounds.peak_behind.Given as goal

abbrev pub invariant-loop-sample : goal.invariant-loop-sample
invariant-loop-sample l = l.most ≡ peak_with l.peak (take l.sample-index l.x)
