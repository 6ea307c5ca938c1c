use Rattle.std.proofs.Common.{◌≡◌, map, take}
use Rattle.std.specs.Prelude.{string_bytes}
use Rattle.grammar_laws.specs.session_model.specs.Grammar.{event_slots}
use Rattle.script_text.specs.Printing.{with_lines}
use Rattle.script_text.proofs.events.put_list.Given as goal

abbrev pub invariant-loop-frame : goal.invariant-loop-frame
invariant-loop-frame l = string_bytes l.text ≡ with_lines (string_bytes l.fn.text) (map event_slots (map (λ item. (l.list, item)) (take l.frame-index l.events)))
