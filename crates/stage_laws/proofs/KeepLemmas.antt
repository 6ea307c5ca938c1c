-- What a play leaves of a bench, and what it gives.
--     audio-played      as many outputs as its client has
use Rattle.std.proofs.Common.{◌≡◌, ℕ, Bool, true, false, cond, List, length, ℤ, Option, Some, ◌∙◌, ap}
use Rattle.std.specs.Prelude.{slice_get}
use Rattle.std.proofs.lemmas.List.{length-map}
use Rattle.jack_types.specs.declared.kinds.Kind.{Kind}
use Rattle.jack_types.specs.declared.kinds.Kind.TheVariants.{Pass, Gain, Mix, Delay, Tone, Click, Meter, Tape, Guest, Midiplay, Midithru, Midilog, Disk}
use Rattle.jack_types.specs.declared.moments.Moment.{Moment}
use Rattle.session_model.specs.Benches.{Signal, Task, mixed}
use Rattle.session_model.specs.Kinds.{GuestTurn, Memory, Sound, guest_played, guest_turn, outputs_by, play, silent}
use Rattle.session_model.specs.Samples.{below}
use Rattle.client_kinds.specs.Scores.{Score}
use Rattle.session_laws.proofs.SequentialLemmas.{length-below}
use Rattle.client_benches.specs.Seen.{Remembered, kept_after, own_sounds, task_in}
use Rattle.client_benches.specs.declared.benches.Stint.{Stint}

length-outputs : (outputs : ℕ) (at : ℕ → List ℤ) → length (outputs_by outputs at) ≡ outputs
length-outputs outputs at = length-map (below outputs) at ∙ length-below outputs

length-guest : (memory : Memory) (b : Bool) (period outputs : ℕ) (turn : GuestTurn) → length (cond b (silent period outputs memory) (guest_played period outputs memory turn)).outputs ≡ outputs
length-guest memory true period outputs turn = length-outputs outputs _
length-guest memory false period outputs turn = length-outputs outputs _

length-played : (scores : List Sound) (kind : Kind) (memory : Memory) (outputs : ℕ) (moment : Moment) (period : ℕ) (inputs : List (List ℤ)) → length (play scores kind memory outputs moment period inputs).outputs ≡ outputs
length-played scores Pass memory outputs moment period inputs = length-outputs outputs _
length-played scores (Gain factor shift) memory outputs moment period inputs = length-outputs outputs _
length-played scores Mix memory outputs moment period inputs = length-outputs outputs _
length-played scores (Delay frames) memory outputs moment period inputs = length-outputs outputs _
length-played scores (Tone half level) memory outputs moment period inputs = length-outputs outputs _
length-played scores (Click level) memory outputs moment period inputs = length-outputs outputs _
length-played scores Meter memory outputs moment period inputs = length-outputs outputs _
length-played scores (Tape recorder) memory outputs moment period inputs = length-outputs outputs _
length-played scores (Guest guest) memory outputs moment period inputs = length-guest memory memory.is_dead period outputs (guest_turn (slice_get scores guest) moment outputs period memory.numbers inputs)
length-played scores (Midiplay list) memory outputs moment period inputs = length-outputs outputs _
length-played scores Midithru memory outputs moment period inputs = length-outputs outputs _
length-played scores Midilog memory outputs moment period inputs = length-outputs outputs _
length-played scores (Disk disk) memory outputs moment period inputs = length-outputs outputs _

module _ (sounding : Score → Sound) (kept : Remembered) (given : List (List Signal)) where
  abbrev with_turn : Option Stint → Remembered
  with_turn turn = record kept { turn = turn }

  abbrev work : Stint → Task
  work turn = task_in ((own_sounds sounding) kept.standing) kept turn

  audio-by : (now : Stint) (turn : Option Stint) → turn ≡ Some now → length ((kept_after sounding) (with_turn turn) given).audio ≡ now.ports.outputs
  audio-by now turn e =
      ap (λ t. length ((kept_after sounding) (with_turn t) given).audio) e
      ∙ length-played ((own_sounds sounding) kept.standing) kept.standing.kind kept.standing.memory now.ports.outputs now.moment now.ports.period (mixed (work now) given)

  pub audio-played : (now : Stint) → kept.turn ≡ Some now → length ((kept_after sounding) kept given).audio ≡ now.ports.outputs
  audio-played now e = audio-by now kept.turn e
