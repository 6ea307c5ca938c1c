use Rattle.std.proofs.Common.{◌≡◌, map}
use Rattle.std.specs.Prelude.{string_bytes}
use Rattle.grammar_laws.specs.session_model.specs.Grammar.{event_slots}
use Rattle.script_text.specs.Printing.{first_lists, with_lines}
use Rattle.script_text.proofs.events.put_events.Given as goal

abbrev pub invariant-loop-list : goal.invariant-loop-list
invariant-loop-list l = string_bytes l.text ≡ with_lines (string_bytes l.fn.text) (map event_slots (first_lists (map (λ list. list.items) l.lists) l.list))
