use Rattle.std.proofs.Common.{◌≡◌, List, map, subst}
use Rattle.std.specs.Prelude.{IfOk, string_bytes, ℕ}
use Rattle.jack_types.specs.declared.events.Event.{Event}
use Rattle.jack_types.specs.declared.scripts.Header.{Header}
use Rattle.rehearsal_model.specs.Rehearsals.{rehearsal_header}
use Rattle.session_model.specs.Grammar.{script_text}
use Rattle.rehearsals.proofs.texts.text_of.Goals as goal

pub returns : goal.returns
returns c =
    subst (λ (events : List (List (ℕ × Event))). IfOk c.printed.result (λ text. string_bytes text ≡ script_text (record { header = rehearsal_header; events = events; lines = c.args.lines.now }))) c.in_ok-events.ensures.lists
    (subst (λ (header : Header). IfOk c.printed.result (λ text. string_bytes text ≡ script_text (record { header = header; events = map (λ list. list.items) c.in_ok-events.events.items; lines = c.args.lines.now }))) c.header.ensures
    (subst (λ lists. IfOk c.printed.result (λ text. string_bytes text ≡ script_text (record { header = c.header.result; events = map (λ list. list.items) lists; lines = c.args.lines.now }))) c.deref.ensures.value c.printed.ensures))
