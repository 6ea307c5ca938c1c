-- The fields of a stage, and what stays true of them. No public clause cites this module.
--     kinds_in parts, staged_by period parts      the kinds of the benches, and what is seen of the parts
--     Stands last parts      the parts between two cycles, where `last` was played last
--     GoesOnFrom last plan      a plan for the same device goes on from another
--     Exchanges, TurnsTo, PlaysAll      what the steps of a cycle leave
--     seen_of stage, IsWhole stage      what contracts see of a stage, and what stays true of it
use Rattle.std.specs.Prelude.{◌≡◌, ℕ, ◌≤◌, ◌⊎◌, ⊤, Bool, true, false, List, [], filter_map, length, map, slice_index_or, Option, Some, None, if◌then◌else◌}
use Rattle.std.specs.Vec.{vec_capacity}
use Rattle.jack_types.specs.declared.kinds.Kind.{Kind}
use Rattle.jack_types.specs.declared.moments.Moment.{Moment}
use Rattle.graph_word.specs.Publications.{IsFront}
use Rattle.session_model.specs.Scripts.{Script}
use Rattle.port_registry.specs.Registered.{open_clients}
use Rattle.midi_wiring.specs.cycle_plan.specs.Plans.{IsPlanned, Planned}
use Rattle.midi_player.specs.Standings.{Standing}
use Rattle.driver_words.specs.Hearings.{Heard}
use Rattle.midi_wiring.specs.Wirings.{midi_wired_of}
use Rattle.midi_seats.specs.declared.seating.Owned.{Owned}
use Rattle.midi_seats.specs.Owning.{AreKnown, HaveSeats, IsShort, midi_kinds}
use Rattle.midi_seats.specs.Seating.{owner_of}
use Rattle.midi_stage.specs.Sounding.{HavePlayed, no_standing, output_from, sounded}
use Rattle.midi_stage.specs.Stages.{MidiStaged, heard_in}
use Rattle.midi_stage.specs.Standing.{OnMidi, device_of, quiet_heard}
use Rattle.midi_stage.specs.declared.parts.Parts.{Parts}
use Rattle.midi_stage.specs.declared.sounds.Sounds.{Sounds}
use Rattle.midi_stage.specs.declared.stage.MidiStage.TheInside.{Inside}

abbrev pub kinds_in : Parts → List Kind
kinds_in parts = map (λ (bench : Standing). bench.kind) parts.benches.items

abbrev pub staged_by : ℕ → Parts → MidiStaged
staged_by period parts = record {
  lists = parts.lists.items;
  period = period;
  sounds = sounded parts.sounds;
  benches = parts.benches.items;
  owners = map (λ (bench : Owned). bench.owner) parts.owners.items;
}

-- of each bench what it gives and gave, and room for what a plan has
pub record HaveRoom (parts : Parts) : Type 0 where
  pub seats : 64 ≤ vec_capacity parts.sounds.seats
  pub outputs : 2064 ≤ vec_capacity parts.sounds.outputs
  pub earlier : 2064 ≤ vec_capacity parts.sounds.earlier
  pub gives : length parts.sounds.gives.items ≡ length parts.benches.items
  pub gave : length parts.sounds.gave.items ≡ length parts.benches.items
  pub nothing : parts.sounds.nothing ≡ []
  pub unlisted : parts.unlisted ≡ []

-- wired for this plan; each of its MIDI clients has its bench, or one can have none and nobody has a seat
pub record IsTurned (last : Planned) (parts : Parts) : Type 0 where
  pub planned : IsPlanned last
  pub wired : parts.wiring ≡ midi_wired_of last
  pub seats : parts.is_staffed ≡ true → HaveSeats (open_clients last.nodes) parts.sounds.seats.items parts.owners.items
  pub short : parts.is_staffed ≡ false → IsShort (open_clients last.nodes) parts.owners.items
  pub unseated : parts.is_staffed ≡ false → parts.sounds.seats.items ≡ []

-- a bench of nobody has an empty log
pub record Stands (last : Planned) (parts : Parts) : Type 0 where
  pub known : AreKnown last.changes (kinds_in parts) parts.owners.items
  pub free : (b : ℕ) → owner_of parts.owners.items b ≡ None → (slice_index_or parts.benches.items b no_standing).log ≡ []
  pub room : HaveRoom parts
  pub turned : (number : ℕ) → parts.number ≡ Some number → (number ≡ length last.changes) × IsTurned last parts

pub record GoesOnFrom (last plan : Planned) : Type 0 where
  pub base : plan.base ≡ last.base
  pub front : IsFront last.changes plan.changes

-- what was given becomes what was given in the last cycle
pub record Exchanges (has_same_period : Bool) (old new : Sounds) : Type 0 where
  pub gives : new.gives ≡ old.gave
  pub gave : new.gave ≡ old.gives
  pub earlier : new.earlier.items ≡ (if has_same_period then old.outputs.items else [])
  pub outputs_room : vec_capacity new.outputs ≡ vec_capacity old.earlier
  pub earlier_room : vec_capacity new.earlier ≡ vec_capacity old.outputs
  pub same : new ≡ record old { gives = new.gives; gave = new.gave; outputs = new.outputs; earlier = new.earlier }

-- who had a bench has it yet, and who has a new one has a seat there
pub record TurnsTo (plan : Planned) (old new : Parts) : Type 0 where
  pub known : AreKnown plan.changes (kinds_in old) new.owners.items
  pub turned : IsTurned plan new
  pub number : new.number ≡ Some (length plan.changes)
  pub owned : (b birth : ℕ) → owner_of old.owners.items b ≡ Some birth → owner_of new.owners.items b ≡ Some birth
  pub seated : new.is_staffed ≡ true → (b birth : ℕ) → owner_of new.owners.items b ≡ Some birth
      → (owner_of old.owners.items b ≡ Some birth) ⊎ ((owner_of old.owners.items b ≡ None) × (n : ℕ) × (slice_index_or new.sounds.seats.items n None ≡ Some b))
  pub seats_room : vec_capacity new.sounds.seats ≡ vec_capacity old.sounds.seats
  pub same : new ≡ record old { owners = new.owners; sounds = record old.sounds { seats = new.sounds.seats }; wiring = new.wiring; number = new.number; is_staffed = new.is_staffed }

-- each client that has a seat played, and outputs are those of the plan
pub record PlaysAll (plan : Planned) (moment : Moment) (period : ℕ) (old new : Parts) : Type 0 where
  pub played : HavePlayed old.lists.items plan.nodes (midi_wired_of plan) moment period (length old.sounds.seats.items) old.benches.items new.benches.items (sounded new.sounds)
  pub others : (b : ℕ) → ((n : ℕ) → slice_index_or old.sounds.seats.items n None ≡ Some b → ⊥) → slice_index_or new.benches.items b no_standing ≡ slice_index_or old.benches.items b no_standing
  pub kinds : kinds_in new ≡ kinds_in old
  pub outputs : new.sounds.outputs.items ≡ filter_map (output_from old.sounds.seats.items) (midi_wired_of plan).given
  pub outputs_room : vec_capacity new.sounds.outputs ≡ vec_capacity old.sounds.outputs
  pub gives : length new.sounds.gives.items ≡ length old.sounds.gives.items
  pub nothing : new.sounds.nothing ≡ []
  pub sounds : new.sounds ≡ record old.sounds { gives = new.sounds.gives; outputs = new.sounds.outputs; nothing = new.sounds.nothing }
  pub same : new ≡ record old { benches = new.benches; sounds = new.sounds; rooms = new.rooms }

-- a script of nothing
abbrev no_script : Script
no_script = record {
  header = record { version = 0; rate = 0; period = 0; capture = 0; playback = 0; bits = 0; threads = None; steal = false; ring = 0; drain = 0; fill = 0; recorders = []; disks = [] };
  events = [];
  lines = [];
}

-- only proofs read the script
abbrev pub script_in : List (⊤ × Script) → Script
script_in noted = (slice_index_or noted 0 (tt, no_script)).1

-- a plan of nothing, for the script's device
abbrev pub no_plan : Script → Planned
no_plan script = record {
  base = device_of script;
  changes = [];
  network = record { held = record { clients = []; ports = []; client_room = 0; port_room = 0 }; set = record { edges = []; room = 0 }; master = None; timeout = None };
  nodes = [];
  links = [];
}

abbrev pub plan_in : Script → List (⊤ × Planned) → Planned
plan_in script noted = (slice_index_or noted 0 (tt, no_plan script)).1

abbrev pub heard_of : Script → ℕ → Option Parts → Heard
heard_of script period None = quiet_heard script period
heard_of script period (Some parts) = heard_in (staged_by period parts)

abbrev pub seen_by : Script → List (⊤ × Planned) → ℕ → Option Parts → OnMidi
seen_by script noted period parts = record { script = script; changes = (plan_in script noted).changes; heard = heard_of script period parts }

abbrev pub seen_of : Inside → OnMidi
seen_of s = seen_by (script_in s.script.items) s.plan.items s.period s.parts

-- the benches are for the script's MIDI clients, and its lists are played
pub record ArePartsOf (script : Script) (last : Planned) (parts : Parts) : Type 0 where
  pub stands : Stands last parts
  pub kinds : kinds_in parts ≡ midi_kinds script
  pub lists : parts.lists.items ≡ script.events

abbrev pub HavePartsOf : Script → Planned → Option Parts → Type 0
HavePartsOf script last None = midi_kinds script ≡ []
HavePartsOf script last (Some parts) = ArePartsOf script last parts

pub record IsWhole (s : Inside) : Type 0 where
  pub base : (plan_in (script_in s.script.items) s.plan.items).base ≡ device_of (script_in s.script.items)
  pub parts : HavePartsOf (script_in s.script.items) (plan_in (script_in s.script.items) s.plan.items) s.parts
