use Rattle.std.proofs.Common.{◌≡◌, map, take}
use Rattle.std.specs.Prelude.{codes, string_bytes}
use Rattle.grammar_laws.specs.session_model.specs.Grammar.{number_slots}
use Rattle.script_text.specs.Printing.{with_lines}
use Rattle.script_text.proofs.header.put_disks.Given as goal

abbrev pub invariant-loop-channels : goal.invariant-loop-channels
invariant-loop-channels l = string_bytes l.text ≡ with_lines (string_bytes l.fn.text) (map (number_slots (codes "disk")) (take l.channels-index l.disks))
