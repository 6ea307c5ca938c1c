-- Which bench plays which client.
--     midi_code kind      the number of a MIDI kind
--     is_owned_by birth bench, is_free code bench      who owns a bench
--     seat_for birth code benches      the bench for a client of this birth and kind
--     with_owner birth place benches      the benches where the client owns that one
--     SeatsAll nodes count seats before after      each MIDI client of the first so many nodes has its bench
--     SeatsSome nodes seats before after      so it is up to a client that can have none
use Rattle.std.specs.Prelude.{◌≡◌, ◌⊎◌, ◌<◌, ℕ, ◌+◌, Bool, false, ◌&&◌, ◌==◌, is_none, List, length, position, slice_index_or, slice_set, Option, Some, None, if◌then◌else◌}
use Rattle.jack_types.specs.declared.kinds.Kind.{Kind}
use Rattle.jack_types.specs.declared.kinds.Kind.TheVariants.{Midiplay, Midithru, Midilog}
use Rattle.jack_types.specs.declared.ports.Client.{Client}
use Rattle.port_registry.specs.Registered.{system_entry}
use Rattle.midi_seats.specs.declared.seating.Owned.{Owned}

-- each MIDI kind has its own
abbrev pub midi_code : Kind → Option ℕ
midi_code Midithru = Some 0
midi_code Midilog = Some 1
midi_code (Midiplay list) = Some (list + 2)
midi_code _ = None

abbrev pub is_own : ℕ → Option ℕ → Bool
is_own birth (Some other) = other == birth
is_own birth None = false

abbrev pub is_owned_by : ℕ → Owned → Bool
is_owned_by birth bench = is_own birth bench.owner

abbrev pub is_free : ℕ → Owned → Bool
is_free code bench = is_none bench.owner && bench.code == code

abbrev pub no_owned : Owned
no_owned = record { code = 0; owner = None }

-- its own, if that is for the kind, else one that nobody owns
abbrev pub seat_from : ℕ → List Owned → Option ℕ → Option ℕ
seat_from code benches (Some place) = if (slice_index_or benches place no_owned).code == code then Some place else None
seat_from code benches None = position (is_free code) benches

abbrev pub seat_for : ℕ → ℕ → List Owned → Option ℕ
seat_for birth code benches = seat_from code benches (position (is_owned_by birth) benches)

abbrev pub with_owner : ℕ → Option ℕ → List Owned → List Owned
with_owner birth (Some place) benches = slice_set benches place (record { code = (slice_index_or benches place no_owned).code; owner = Some birth })
with_owner birth None benches = benches

abbrev pub owner_of : List Owned → ℕ → Option ℕ
owner_of benches b = (slice_index_or benches b no_owned).owner

abbrev pub client_at : List Client → ℕ → Client
client_at nodes n = slice_index_or nodes n system_entry

-- only a MIDI client has one
abbrev pub HasSeat : List Owned → List Owned → Client → Option ℕ → Type 0
HasSeat before after client None = (midi_code client.kind ≡ None) × (after ≡ before)
HasSeat before after client (Some place) = (code : ℕ) × (midi_code client.kind ≡ Some code) × (seat_for client.birth code before ≡ Some place) × (after ≡ with_owner client.birth (Some place) before)

abbrev pub HasNoSeat : List Owned → Client → Type 0
HasNoSeat benches client = (code : ℕ) × (midi_code client.kind ≡ Some code) × (seat_for client.birth code benches ≡ None)

-- it owns it, and it is for its kind; all owners keep their benches, new ones have seats, and no client owns two
pub record SeatsAll (nodes : List Client) (count : ℕ) (seats : List (Option ℕ)) (before after : List Owned) : Type 0 where
  pub as_many : length seats ≡ count
  pub owns : (n b : ℕ) → n < count → slice_index_or seats n None ≡ Some b → owner_of after b ≡ Some (client_at nodes n).birth
  pub kinds : (n b : ℕ) → n < count → slice_index_or seats n None ≡ Some b → midi_code (client_at nodes n).kind ≡ Some (slice_index_or after b no_owned).code
  pub none : (n : ℕ) → n < count → slice_index_or seats n None ≡ None → midi_code (client_at nodes n).kind ≡ None
  pub owned : (b birth : ℕ) → owner_of before b ≡ Some birth → owner_of after b ≡ Some birth
  pub seated : (b birth : ℕ) → owner_of after b ≡ Some birth → (owner_of before b ≡ Some birth) ⊎ ((owner_of before b ≡ None) × (n : ℕ) × (slice_index_or seats n None ≡ Some b))
  pub apart : ((b c birth : ℕ) → owner_of before b ≡ Some birth → owner_of before c ≡ Some birth → b ≡ c) → (b c birth : ℕ) → owner_of after b ≡ Some birth → owner_of after c ≡ Some birth → b ≡ c
  pub codes : (b : ℕ) → (slice_index_or after b no_owned).code ≡ (slice_index_or before b no_owned).code
  pub benches : length after ≡ length before

-- those before a client that can have no bench
pub record SeatsSome (nodes : List Client) (seats : List (Option ℕ)) (before after : List Owned) : Type 0 where
  pub count : ℕ
  pub within : count < length nodes
  pub seated : SeatsAll nodes count seats before after
  pub refused : HasNoSeat after (client_at nodes count)
