use Rattle.std.proofs.Common.{◌≡◌, filter, is_some, take}
use Rattle.midi_seats.specs.Seating.{midi_code}
use Rattle.midi_stage.proofs.opening.only_midi.Given as goal

abbrev pub invariant-loop-kind : goal.invariant-loop-kind
invariant-loop-kind l = l.midi.items ≡ filter (λ kind. is_some (midi_code kind)) (take l.kind-index l.kinds)
