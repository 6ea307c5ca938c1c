use Rattle.std.proofs.Common.{◌≡◌, map, take}
use Rattle.midi_stage.specs.Openings.{new_standing}
use Rattle.midi_stage.proofs.opening.make_benches.Given as goal

abbrev pub invariant-loop-kind : goal.invariant-loop-kind
invariant-loop-kind l = l.benches.items ≡ map new_standing (take l.kind-index l.kinds)
