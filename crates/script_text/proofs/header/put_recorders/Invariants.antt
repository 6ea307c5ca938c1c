use Rattle.std.proofs.Common.{◌≡◌, map, take}
use Rattle.std.specs.Prelude.{string_bytes}
use Rattle.grammar_laws.specs.session_model.specs.Grammar.{recorder_slots}
use Rattle.script_text.specs.Printing.{with_lines}
use Rattle.script_text.proofs.header.put_recorders.Given as goal

abbrev pub invariant-loop-format : goal.invariant-loop-format
invariant-loop-format l = string_bytes l.text ≡ with_lines (string_bytes l.fn.text) (map recorder_slots (take l.format-index l.recorders))
