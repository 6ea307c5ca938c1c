-- What the clients of a plan have heard of MIDI.
--     Heard      by node and by birth the events of a cycle, and the logs
--     played_at, carried_at, log_at      what it has at a node and for a birth
--     listed_for lists kind      the list that a client plays
use Rattle.std.specs.Prelude.{ℕ, ◌==◌, List, [], find, slice_index_or}
use Rattle.std.specs.Option.{option_map_or}
use Rattle.session_model.specs.jack_types.specs.declared.events.Event.{Event}
use Rattle.session_model.specs.jack_types.specs.declared.events.Logged.{Logged}
use Rattle.session_model.specs.jack_types.specs.declared.kinds.Kind.{Kind}
use Rattle.session_model.specs.jack_types.specs.declared.kinds.Kind.TheVariants.{Midiplay}

-- the events that the MIDI output of this birth carries
pub record Carried : Type 0 where
  pub birth : ℕ
  pub events : List Event

-- the log of the client of this birth
pub record BornLog : Type 0 where
  pub birth : ℕ
  pub log : List Logged

-- the event lists of the script; the period of the cycle, 0 before the first; by node the events that each MIDI output of its client carries; by birth what MIDI
-- outputs carry, and what feedback edges had of those of the cycle before; by birth the logs
pub record Heard : Type 0 where
  pub lists : List (List (ℕ × Event))
  pub period : ℕ
  pub played : List (List Event)
  pub carried : List Carried
  pub before : List Carried
  pub logs : List BornLog

abbrev pub played_at : Heard → ℕ → List Event
played_at heard n = slice_index_or heard.played n []

-- no event where no output has the birth
abbrev pub carried_at : List Carried → ℕ → List Event
carried_at carried birth = option_map_or (λ (output : Carried). output.events) (find (λ (output : Carried). output.birth == birth) carried) []

abbrev pub log_at : Heard → ℕ → List Logged
log_at heard birth = option_map_or (λ (client : BornLog). client.log) (find (λ (client : BornLog). client.birth == birth) heard.logs) []

-- the list that a client of this kind plays
abbrev pub listed_for : List (List (ℕ × Event)) → Kind → List (ℕ × Event)
listed_for lists (Midiplay list) = slice_index_or lists list []
listed_for lists _ = []
