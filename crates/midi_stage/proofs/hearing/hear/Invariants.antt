use Rattle.std.proofs.Common.{◌≡◌, map}
use Rattle.session_model.specs.Events.{merge}
use Rattle.session_model.specs.Samples.{below}
use Rattle.midi_stage.specs.Sounding.{heard_on, sounded}
use Rattle.midi_stage.proofs.hearing.hear.Given as goal

abbrev pub invariant-loop-input : goal.invariant-loop-input
invariant-loop-input l = l.out ≡ merge (map (heard_on (sounded l.sounds) l.joints l.node) (below l.input))
