use Rattle.std.specs.Prelude.{codes, string_bytes}
use Rattle.grammar_laws.specs.session_model.specs.Grammar.{Word, command_slots}
use Rattle.script_text.proofs.PrintingLemmas.{line-put}
use Rattle.script_text.proofs.bodies.put_do.Goals as goal

pub returns : goal.returns
returns c = line-put c.end_line.result (string_bytes c.args.text.now) (string_bytes c.push_str.new.self) (string_bytes c.put_command.new.text) (string_bytes c.end_line.new.text) (Word (codes "do")) (command_slots c.args.command.now) c.in_ok-push_str.ensures.bytes c.in_ok-put_command.ensures c.end_line.ensures
