-- The parts of a stage before the first cycle. No public clause cites this module.
--     new_standing kind, new_owned kind      a new bench, and that nobody owns it
--     IsRoomy room items enough      an empty list with room for so many
--     AreNewSounds count sounds      what so many benches give: nothing
--     AreNew script kinds parts      the parts for clients of these kinds
--     AreForScript script parts      those for the MIDI clients of a script, if it opens any
use Rattle.std.specs.Prelude.{◌≡◌, ℕ, ◌≤◌, List, [], length, map, replicate, Option, None, Some, unwrap_or}
use Rattle.std.specs.Vec.{vec_capacity}
use Rattle.jack_types.specs.declared.kinds.Kind.{Kind}
use Rattle.session_model.specs.Scripts.{Script}
use Rattle.midi_player.specs.Standings.{Standing}
use Rattle.midi_seats.specs.declared.seating.Owned.{Owned}
use Rattle.midi_seats.specs.Owning.{midi_kinds}
use Rattle.midi_seats.specs.Seating.{midi_code}
use Rattle.midi_stage.specs.declared.parts.Parts.{Parts}
use Rattle.midi_stage.specs.declared.sounds.Sounds.{Sounds}

abbrev pub new_standing : Kind → Standing
new_standing kind = record { kind = kind; log = [] }

abbrev pub new_owned : Kind → Owned
new_owned kind = record { code = unwrap_or (midi_code kind) 0; owner = None }

pub record IsRoomy {X : Type 0} (room : ℕ) (items : List X) (enough : ℕ) : Type 0 where
  pub none : items ≡ []
  pub most : room ≤ enough

pub record AreNewSounds (count : ℕ) (sounds : Sounds) : Type 0 where
  pub seats : IsRoomy 64 sounds.seats.items (vec_capacity sounds.seats)
  pub gives : sounds.gives.items ≡ replicate count []
  pub gave : sounds.gave.items ≡ replicate count []
  pub outputs : IsRoomy 2064 sounds.outputs.items (vec_capacity sounds.outputs)
  pub earlier : IsRoomy 2064 sounds.earlier.items (vec_capacity sounds.earlier)
  pub nothing : sounds.nothing ≡ []

pub record AreNew (script : Script) (kinds : List Kind) (parts : Parts) : Type 0 where
  pub benches : parts.benches.items ≡ map new_standing kinds
  pub owners : parts.owners.items ≡ map new_owned kinds
  pub sounds : AreNewSounds (length kinds) parts.sounds
  pub lists : parts.lists.items ≡ script.events
  pub unlisted : parts.unlisted ≡ []
  pub number : parts.number ≡ None

abbrev pub AreForScript : Script → Option Parts → Type 0
AreForScript script None = midi_kinds script ≡ []
AreForScript script (Some parts) = AreNew script (midi_kinds script) parts
