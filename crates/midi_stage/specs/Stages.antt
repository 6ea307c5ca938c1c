-- What contracts see of the stage of MIDI clients.
--     MidiStaged      the benches and who owns them, what they give and gave, and the script's lists
--     heard_in staged      what was heard, read from the benches
--     IsSeating staged      what stays true of benches and owners
--     PlaysMidi old plan moment period new      each MIDI client of the plan has its bench, and played on it
use Rattle.std.specs.Prelude.{◌≡◌, ℕ, ◌<◌, ◌≤◌, ◌==◌, ◌⊎◌, List, [], ◌∷◌, filter_map, length, map, slice_index_or, Option, Some, None, if◌then◌else◌}
use Rattle.jack_types.specs.declared.events.Event.{Event}
use Rattle.jack_types.specs.declared.moments.Moment.{Moment}
use Rattle.session_model.specs.Benches.{node_at}
use Rattle.port_registry.specs.Registered.{open_clients}
use Rattle.midi_wiring.specs.cycle_plan.specs.Plans.{Planned}
use Rattle.midi_player.specs.Standings.{IsMidi, Standing}
use Rattle.midi_wiring.specs.declared.joints.MidiGiven.{MidiGiven}
use Rattle.driver_words.specs.Hearings.{BornLog, Carried, Heard}
use Rattle.midi_wiring.specs.Wirings.{midi_wired_of}
use Rattle.midi_stage.specs.declared.sounds.Output.{Output}
use Rattle.midi_stage.specs.Sounding.{HavePlayed, Sounded, events_at, no_standing, output_from, seat_at}

-- `owners` has of each bench the birth of the client that owns it, if one does
pub record MidiStaged : Type 0 where
  pub lists : List (List (ℕ × Event))
  pub period : ℕ
  pub sounds : Sounded
  pub benches : List Standing
  pub owners : List (Option ℕ)

abbrev pub standing_at : MidiStaged → ℕ → Standing
standing_at staged b = slice_index_or staged.benches b no_standing

abbrev pub owner_at : MidiStaged → ℕ → Option ℕ
owner_at staged b = slice_index_or staged.owners b None

-- what an output's bench has of these events
abbrev pub carried_by : List (List Event) → Output → Carried
carried_by events output = record { birth = output.birth; events = slice_index_or events output.bench [] }

-- the logs of the benches that have owners, in order of places
abbrev pub owned_logs : List (Option ℕ) → List Standing → List BornLog
owned_logs (Some birth ∷ owners) (bench ∷ benches) = record { birth = birth; log = bench.log } ∷ owned_logs owners benches
owned_logs (None ∷ owners) (bench ∷ benches) = owned_logs owners benches
owned_logs _ _ = []

abbrev pub heard_in : MidiStaged → Heard
heard_in staged = record {
  lists = staged.lists;
  period = staged.period;
  played = map (events_at staged.sounds.gives) staged.sounds.seats;
  carried = map (carried_by staged.sounds.gives) staged.sounds.outputs;
  before = map (carried_by staged.sounds.gave) staged.sounds.earlier;
  logs = owned_logs staged.owners staged.benches;
}

-- each client owns at most one bench, and a bench of nobody has an empty log
pub record IsSeating (staged : MidiStaged) : Type 0 where
  pub as_many : length staged.owners ≡ length staged.benches
  pub apart : (b c birth : ℕ) → owner_at staged b ≡ Some birth → owner_at staged c ≡ Some birth → b ≡ c
  pub free : (b : ℕ) → owner_at staged b ≡ None → (standing_at staged b).log ≡ []

abbrev pub output_of : Sounded → MidiGiven → Option Output
output_of sounds given = output_from sounds.seats given

-- who had a bench has it yet, and who has a new one is a client of the plan; each MIDI client of the plan has the seat at its bench, and played on what it hears; all other
-- benches stay; feedback edges have what outputs carried in the last cycle, where that had the same period
pub record PlaysMidi (old : MidiStaged) (plan : Planned) (moment : Moment) (period : ℕ) (new : MidiStaged) : Type 0 where
  pub lists : new.lists ≡ old.lists
  pub period_is : new.period ≡ period
  pub seating : IsSeating new
  pub owned : (b birth : ℕ) → owner_at old b ≡ Some birth → owner_at new b ≡ Some birth
  pub seated : (b birth : ℕ) → owner_at new b ≡ Some birth → (owner_at old b ≡ Some birth) ⊎ ((owner_at old b ≡ None) × (n : ℕ) × (seat_at new.sounds n ≡ Some b))
  pub has : (n b : ℕ) → n < length plan.nodes → seat_at new.sounds n ≡ Some b → owner_at new b ≡ Some (node_at (open_clients plan.nodes) n).birth
  pub kinds : (n b : ℕ) → n < length plan.nodes → seat_at new.sounds n ≡ Some b → (standing_at old b).kind ≡ (node_at (open_clients plan.nodes) n).kind
  pub none : (n : ℕ) → n < length plan.nodes → seat_at new.sounds n ≡ None → IsMidi (node_at (open_clients plan.nodes) n).kind → ⊥
  pub past : (n : ℕ) → length plan.nodes ≤ n → seat_at new.sounds n ≡ None
  pub played : HavePlayed old.lists plan.nodes (midi_wired_of plan) moment period (length plan.nodes) old.benches new.benches new.sounds
  pub others : (b : ℕ) → ((n : ℕ) → seat_at new.sounds n ≡ Some b → ⊥) → standing_at new b ≡ standing_at old b
  pub outputs : new.sounds.outputs ≡ filter_map (output_of new.sounds) (midi_wired_of plan).given
  pub earlier : new.sounds.earlier ≡ (if old.period == period then old.sounds.outputs else [])
  pub gave : new.sounds.gave ≡ old.sounds.gives
