use Rattle.std.proofs.Common.{◌≡◌, [], replicate}
use Rattle.midi_stage.proofs.opening.make_events.Given as goal

abbrev pub invariant-loop : goal.invariant-loop
invariant-loop l = l.all.items ≡ replicate l.counter []
