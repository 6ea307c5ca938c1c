use Rattle.std.proofs.Common.{◌≡◌, ◌∷◌, ◌++◌, take}
use Rattle.std.specs.Prelude.{flat_map, string_bytes}
use Rattle.grammar_laws.specs.session_model.specs.Reports.{hex_byte}
use Rattle.script_text.proofs.events.put_hexed.Given as goal

abbrev pub invariant-loop-b : goal.invariant-loop-b
invariant-loop-b l = string_bytes l.text ≡ string_bytes l.fn.text ++ 32 ∷ flat_map hex_byte (take l.b-index l.bytes)
