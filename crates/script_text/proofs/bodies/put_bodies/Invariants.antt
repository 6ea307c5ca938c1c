use Rattle.std.proofs.Common.{◌≡◌, map, take}
use Rattle.std.specs.Prelude.{string_bytes}
use Rattle.grammar_laws.specs.session_model.specs.Grammar.{body_slots}
use Rattle.script_text.specs.Printing.{with_lines}
use Rattle.script_text.proofs.bodies.put_bodies.Given as goal

abbrev pub invariant-loop-body : goal.invariant-loop-body
invariant-loop-body l = string_bytes l.text ≡ with_lines (string_bytes l.fn.text) (map body_slots (take l.body-index l.bodies))
