use Rattle.std.proofs.Common.{ℕ, List, ◌∷◌, ◌++◌, ap, ◌∙◌}
use Rattle.std.specs.Prelude.{codes, decimal, string_bytes}
use Rattle.grammar_laws.specs.session_model.specs.Grammar.{Word, Numeral, command_slots}
use Rattle.script_text.specs.Printing.{with_words}
use Rattle.script_text.proofs.PrintingLemmas.{line-put}
use Rattle.script_text.proofs.bodies.put_lane.Goals as goal

pub returns : goal.returns
returns c = line-put c.end_line.result (string_bytes c.args.text.now) (string_bytes c.push_str.new.self) (string_bytes c.put_command.new.text) (string_bytes c.end_line.new.text) (Word (codes "lane")) (Numeral c.args.lane ∷ Word (codes "at") ∷ Numeral c.args.begun ∷ command_slots c.args.command.now) c.in_ok-push_str.ensures.bytes
    (c.in_ok-put_command.ensures ∙ ap (λ (t : List ℕ). with_words t (command_slots c.args.command.now)) (c.in_ok-put_number-2.ensures ∙ ap (λ (t : List ℕ). t ++ 32 ∷ decimal c.args.begun) (c.in_ok-put_word.ensures ∙ ap (λ (t : List ℕ). t ++ 32 ∷ codes "at") c.in_ok-put_number.ensures)))
    c.end_line.ensures
