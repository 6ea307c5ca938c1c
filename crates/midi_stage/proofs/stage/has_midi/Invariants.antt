use Rattle.std.proofs.Common.{◌≡◌, ◌<◌, ℕ, None}
use Rattle.midi_seats.specs.Seating.{client_at, midi_code}
use Rattle.midi_stage.proofs.stage.has_midi.Given as goal

abbrev pub invariant-loop-client : goal.invariant-loop-client
invariant-loop-client l = (n : ℕ) → n < l.client-index → midi_code (client_at l.nodes n).kind ≡ None
