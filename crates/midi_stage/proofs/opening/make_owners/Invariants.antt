use Rattle.std.proofs.Common.{◌≡◌, map, take}
use Rattle.midi_stage.specs.Openings.{new_owned}
use Rattle.midi_stage.proofs.opening.make_owners.Given as goal

abbrev pub invariant-loop-kind : goal.invariant-loop-kind
invariant-loop-kind l = l.owners.items ≡ map new_owned (take l.kind-index l.kinds)
