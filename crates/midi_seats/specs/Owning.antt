-- What is known of the MIDI clients that own benches.
--     midi_kinds script      the kinds of a script's `open` calls of MIDI clients, in their order
--     IsFor kinds benches      the benches are for these kinds, each for one
--     AreKnown changes kinds benches      so they are, and each owner was opened by these changes, with its bench's kind
--     HaveSeats nodes seats benches      each MIDI client of these nodes has its bench
--     IsShort nodes benches      one of them can have none
use Rattle.std.specs.Prelude.{◌≡◌, ℕ, ◌<◌, List, filter, is_some, length, slice_index_or, Option, Some, None}
use Rattle.jack_types.specs.declared.commands.Change.{Change}
use Rattle.jack_types.specs.declared.kinds.Kind.{Kind}
use Rattle.jack_types.specs.declared.kinds.Kind.TheVariants.{Midithru}
use Rattle.session_model.specs.Benches.{node_at}
use Rattle.session_model.specs.Scripts.{Script}
use Rattle.session_model.specs.State.{OpenClient}
use Rattle.task_laws.specs.Calls.{HasOpened, open_kinds}
use Rattle.midi_seats.specs.declared.seating.Owned.{Owned}
use Rattle.midi_seats.specs.Seating.{midi_code, no_owned, owner_of, seat_for}

abbrev pub midi_kinds : Script → List Kind
midi_kinds script = filter (λ kind. is_some (midi_code kind)) (open_kinds script)

abbrev pub kind_at : List Kind → ℕ → Kind
kind_at kinds b = slice_index_or kinds b Midithru

abbrev pub code_at : List Owned → ℕ → ℕ
code_at benches b = (slice_index_or benches b no_owned).code

pub record IsFor (kinds : List Kind) (benches : List Owned) : Type 0 where
  pub as_many : length benches ≡ length kinds
  pub codes : (b : ℕ) → midi_code (kind_at kinds b) ≡ Some (code_at benches b)

-- a client owns one bench at most
pub record AreKnown (changes : List Change) (kinds : List Kind) (benches : List Owned) : Type 0 where
  pub made : IsFor kinds benches
  pub apart : (b c birth : ℕ) → owner_of benches b ≡ Some birth → owner_of benches c ≡ Some birth → b ≡ c
  pub opened : (b birth : ℕ) → owner_of benches b ≡ Some birth → HasOpened changes birth (kind_at kinds b)

-- by node the place of its client's bench, which is for its kind; None where it is no MIDI client
pub record HaveSeats (nodes : List OpenClient) (seats : List (Option ℕ)) (benches : List Owned) : Type 0 where
  pub as_many : length seats ≡ length nodes
  pub owns : (n b : ℕ) → slice_index_or seats n None ≡ Some b → owner_of benches b ≡ Some (node_at nodes n).birth
  pub kinds : (n b : ℕ) → slice_index_or seats n None ≡ Some b → midi_code (node_at nodes n).kind ≡ Some (code_at benches b)
  pub none : (n : ℕ) → n < length nodes → slice_index_or seats n None ≡ None → midi_code (node_at nodes n).kind ≡ None

-- its own bench is for another kind; or it has none, and each bench for its kind has an owner
pub record IsShort (nodes : List OpenClient) (benches : List Owned) : Type 0 where
  pub n : ℕ
  pub within : n < length nodes
  pub code : ℕ
  pub kind : midi_code (node_at nodes n).kind ≡ Some code
  pub none : seat_for (node_at nodes n).birth code benches ≡ None
