use Rattle.std.proofs.Common.{◌≡◌, map, take}
use Rattle.rehearsal_model.specs.Rehearsals.{greatest}
use Rattle.session_model.specs.Samples.{down}
use Rattle.rehearsals.proofs.told.peak_of.Given as goal

abbrev pub invariant-loop-sample : goal.invariant-loop-sample
invariant-loop-sample l = l.peak ≡ greatest (map (down 16) (take l.sample-index l.samples))
