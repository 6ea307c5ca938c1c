-- A script by its parts.
--     lists_of order      the sixteen lists of events in the order of their lines
--     script_of_parts header events lines      the script of these parts
--     IsLawful script      what is true of every script that was read
use Rattle.std.specs.Prelude.{ℕ, ◌==◌, List, map, filter}
use Rattle.jack_types.specs.declared.events.Event.{Event}
use Rattle.jack_types.specs.declared.scripts.Body.{Body}
use Rattle.jack_types.specs.declared.scripts.Header.{Header}
use Rattle.script_text.specs.session_model.specs.Grammar.{IsScript}
use Rattle.script_text.specs.session_model.specs.Samples.{below}
use Rattle.script_text.specs.session_model.specs.Scripts.{Script}

-- the events of a list
abbrev pub list_of : ℕ → List (ℕ × (ℕ × Event)) → List (ℕ × Event)
list_of list order = map (λ item. item.1) (filter (λ item. item.0 == list) order)

-- the first lists
abbrev pub lists_below : ℕ → List (ℕ × (ℕ × Event)) → List (List (ℕ × Event))
lists_below n order = map (λ list. list_of list order) (below n)

abbrev pub script_of_parts : Header → List (List (ℕ × Event)) → List Body → Script
script_of_parts header events lines = record { header = header; events = events; lines = lines }

-- its numbers are in their ranges, and its lines keep the limits
pub record IsLawful (script : Script) : Type 0 where
  pub lawful : IsScript script
