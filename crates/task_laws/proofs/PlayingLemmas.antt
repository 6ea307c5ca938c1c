-- What a play leaves as it was.
use Rattle.std.proofs.Common.{◌≡◌, ◌≢◌, ℕ, Bool, true, false, cond, List, [], ℤ, Option, Some, None, refl, sym, ◌∙◌, ap}
use Rattle.jack_types.specs.declared.events.Event.{Event}
use Rattle.jack_types.specs.declared.kinds.Kind.{Kind}
use Rattle.jack_types.specs.declared.kinds.Kind.TheVariants.{Pass, Gain, Mix, Delay, Tone, Click, Meter, Tape, Guest, Midiplay, Midithru, Midilog, Disk}
use Rattle.jack_types.specs.declared.moments.Moment.{Moment}
use Rattle.driver_laws.specs.session_model.specs.Benches.{Signal, Task, merged, mixed}
use Rattle.driver_laws.specs.session_model.specs.Kinds.{GuestTurn, Memory, Sound, guest_played, midi_play, play, silent}
use Rattle.client_benches.specs.Seen.{Remembered, kept_after, own_sounds, task_in}
use Rattle.client_benches.specs.declared.benches.Stint.{Stint}
use Rattle.client_benches.specs.client_kinds.specs.Scores.{Score}
use Rattle.client_benches.specs.client_kinds.specs.Standings.{IsDisk}

module _ {X : Type 0} (part : Memory → X) (numbers : (memory : Memory) (ns : List ℤ) (dead : Bool) → part (record memory { numbers = ns; is_dead = dead }) ≡ part memory) where
  guest-keeps : (memory : Memory) (b : Bool) (period outputs : ℕ) (turn : GuestTurn) → part (cond b (silent period outputs memory) (guest_played period outputs memory turn)).memory ≡ part memory
  guest-keeps memory true period outputs turn = refl
  guest-keeps memory false period outputs turn = numbers memory _ _

midi-fed : (list : List (ℕ × Event)) (kind : Kind) (memory : Memory) (outputs : ℕ) (moment : Moment) (period : ℕ) (inputs : List (List Event)) → (midi_play list kind memory outputs moment period inputs).memory.fed ≡ memory.fed
midi-fed list Pass memory outputs moment period inputs = refl
midi-fed list (Gain factor shift) memory outputs moment period inputs = refl
midi-fed list Mix memory outputs moment period inputs = refl
midi-fed list (Delay frames) memory outputs moment period inputs = refl
midi-fed list (Tone half level) memory outputs moment period inputs = refl
midi-fed list (Click level) memory outputs moment period inputs = refl
midi-fed list Meter memory outputs moment period inputs = refl
midi-fed list (Tape recorder) memory outputs moment period inputs = refl
midi-fed list (Guest guest) memory outputs moment period inputs = refl
midi-fed list (Midiplay l) memory outputs moment period inputs = refl
midi-fed list Midithru memory outputs moment period inputs = refl
midi-fed list Midilog memory outputs moment period inputs = refl
midi-fed list (Disk disk) memory outputs moment period inputs = refl

midi-peak : (list : List (ℕ × Event)) (kind : Kind) (memory : Memory) (outputs : ℕ) (moment : Moment) (period : ℕ) (inputs : List (List Event)) → (midi_play list kind memory outputs moment period inputs).memory.peak ≡ memory.peak
midi-peak list Pass memory outputs moment period inputs = refl
midi-peak list (Gain factor shift) memory outputs moment period inputs = refl
midi-peak list Mix memory outputs moment period inputs = refl
midi-peak list (Delay frames) memory outputs moment period inputs = refl
midi-peak list (Tone half level) memory outputs moment period inputs = refl
midi-peak list (Click level) memory outputs moment period inputs = refl
midi-peak list Meter memory outputs moment period inputs = refl
midi-peak list (Tape recorder) memory outputs moment period inputs = refl
midi-peak list (Guest guest) memory outputs moment period inputs = refl
midi-peak list (Midiplay l) memory outputs moment period inputs = refl
midi-peak list Midithru memory outputs moment period inputs = refl
midi-peak list Midilog memory outputs moment period inputs = refl
midi-peak list (Disk disk) memory outputs moment period inputs = refl

play-fed : (scores : List Sound) (kind : Kind) (memory : Memory) (outputs : ℕ) (moment : Moment) (period : ℕ) (inputs : List (List ℤ)) → ¬ IsDisk kind → (play scores kind memory outputs moment period inputs).memory.fed ≡ memory.fed
play-fed scores Pass memory outputs moment period inputs h = refl
play-fed scores (Gain factor shift) memory outputs moment period inputs h = refl
play-fed scores Mix memory outputs moment period inputs h = refl
play-fed scores (Delay frames) memory outputs moment period inputs h = refl
play-fed scores (Tone half level) memory outputs moment period inputs h = refl
play-fed scores (Click level) memory outputs moment period inputs h = refl
play-fed scores Meter memory outputs moment period inputs h = refl
play-fed scores (Tape recorder) memory outputs moment period inputs h = refl
play-fed scores (Guest guest) memory outputs moment period inputs h = guest-keeps (λ m. m.fed) (λ m ns d. refl) memory memory.is_dead period outputs _
play-fed scores (Midiplay list) memory outputs moment period inputs h = refl
play-fed scores Midithru memory outputs moment period inputs h = refl
play-fed scores Midilog memory outputs moment period inputs h = refl
play-fed scores (Disk disk) memory outputs moment period inputs h = absurd (h tt)

play-empty : (scores : List Sound) (kind : Kind) (memory : Memory) (outputs : ℕ) (moment : Moment) (period : ℕ) (inputs : List (List ℤ)) → memory.fed ≡ [] → (play scores kind memory outputs moment period inputs).memory.fed ≡ []
play-empty scores Pass memory outputs moment period inputs h = h
play-empty scores (Gain factor shift) memory outputs moment period inputs h = h
play-empty scores Mix memory outputs moment period inputs h = h
play-empty scores (Delay frames) memory outputs moment period inputs h = h
play-empty scores (Tone half level) memory outputs moment period inputs h = h
play-empty scores (Click level) memory outputs moment period inputs h = h
play-empty scores Meter memory outputs moment period inputs h = h
play-empty scores (Tape recorder) memory outputs moment period inputs h = h
play-empty scores (Guest guest) memory outputs moment period inputs h = guest-keeps (λ m. m.fed) (λ m ns d. refl) memory memory.is_dead period outputs _ ∙ h
play-empty scores (Midiplay list) memory outputs moment period inputs h = h
play-empty scores Midithru memory outputs moment period inputs h = h
play-empty scores Midilog memory outputs moment period inputs h = h
play-empty scores (Disk disk) memory outputs moment period inputs h = refl

play-peak : (scores : List Sound) (kind : Kind) (memory : Memory) (outputs : ℕ) (moment : Moment) (period : ℕ) (inputs : List (List ℤ)) → kind ≢ Meter → (play scores kind memory outputs moment period inputs).memory.peak ≡ memory.peak
play-peak scores Pass memory outputs moment period inputs h = refl
play-peak scores (Gain factor shift) memory outputs moment period inputs h = refl
play-peak scores Mix memory outputs moment period inputs h = refl
play-peak scores (Delay frames) memory outputs moment period inputs h = refl
play-peak scores (Tone half level) memory outputs moment period inputs h = refl
play-peak scores (Click level) memory outputs moment period inputs h = refl
play-peak scores Meter memory outputs moment period inputs h = absurd (h refl)
play-peak scores (Tape recorder) memory outputs moment period inputs h = refl
play-peak scores (Guest guest) memory outputs moment period inputs h = guest-keeps (λ m. m.peak) (λ m ns d. refl) memory memory.is_dead period outputs _
play-peak scores (Midiplay list) memory outputs moment period inputs h = refl
play-peak scores Midithru memory outputs moment period inputs h = refl
play-peak scores Midilog memory outputs moment period inputs h = refl
play-peak scores (Disk disk) memory outputs moment period inputs h = refl

-- a bench with this work behind one play
module _ (sound : Score → Sound) (kept : Remembered) (given : List (List Signal)) where
  abbrev with_turn : Option Stint → Remembered
  with_turn turn = record kept { turn = turn }

  abbrev work : Stint → Task
  work turn = task_in (own_sounds sound kept.standing) kept turn

  fed-by : (turn : Option Stint) → ¬ IsDisk kept.standing.kind → (kept_after sound (with_turn turn) given).standing.memory.fed ≡ kept.standing.memory.fed
  fed-by None h = refl
  fed-by (Some turn) h =
      midi-fed [] kept.standing.kind _ 0 turn.moment turn.ports.period (merged (work turn) given)
      ∙ play-fed (own_sounds sound kept.standing) kept.standing.kind kept.standing.memory turn.ports.outputs turn.moment turn.ports.period (mixed (work turn) given) h

  empty-by : (turn : Option Stint) → kept.standing.memory.fed ≡ [] → (kept_after sound (with_turn turn) given).standing.memory.fed ≡ []
  empty-by None h = h
  empty-by (Some turn) h =
      midi-fed [] kept.standing.kind _ 0 turn.moment turn.ports.period (merged (work turn) given)
      ∙ play-empty (own_sounds sound kept.standing) kept.standing.kind kept.standing.memory turn.ports.outputs turn.moment turn.ports.period (mixed (work turn) given) h

  peak-by : (turn : Option Stint) → kept.standing.kind ≢ Meter → (kept_after sound (with_turn turn) given).standing.memory.peak ≡ kept.standing.memory.peak
  peak-by None h = refl
  peak-by (Some turn) h =
      midi-peak [] kept.standing.kind _ 0 turn.moment turn.ports.period (merged (work turn) given)
      ∙ play-peak (own_sounds sound kept.standing) kept.standing.kind kept.standing.memory turn.ports.outputs turn.moment turn.ports.period (mixed (work turn) given) h

  pub fed-kept : ¬ IsDisk kept.standing.kind → (kept_after sound kept given).standing.memory.fed ≡ kept.standing.memory.fed
  fed-kept h = fed-by kept.turn h

  pub empty-kept : kept.standing.memory.fed ≡ [] → (kept_after sound kept given).standing.memory.fed ≡ []
  empty-kept h = empty-by kept.turn h

  pub peak-kept : kept.standing.kind ≢ Meter → (kept_after sound kept given).standing.memory.peak ≡ kept.standing.memory.peak
  peak-kept h = peak-by kept.turn h

  pub idle-kept : kept.turn ≡ None → kept_after sound kept given ≡ kept
  idle-kept h = ap (λ turn. kept_after sound (with_turn turn) given) h ∙ ap with_turn (sym h)
