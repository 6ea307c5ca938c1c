use Rattle.std.proofs.Common.{◌≡◌, List, ◌∷◌, ◌++◌, [], ◌∙◌, ap, subst, append_assoc}
use Rattle.std.specs.Prelude.{IfOk, string_bytes}
use Rattle.jack_types.specs.declared.commands.Command.TheVariants.{Start}
use Rattle.jack_types.specs.declared.scripts.Body.{Body}
use Rattle.jack_types.specs.declared.scripts.Body.TheVariants.{Do}
use Rattle.rehearsal_laws.specs.Lines.{Adds, lines_drawn}
use Rattle.rehearsal_model.specs.Rehearsals.{client_lines, drawn}
use Rattle.rehearsals.specs.Texts.{end_calls, text_by}
use Rattle.rehearsals.proofs.LineLemmas.{assembled, if_ok}
use Rattle.rehearsals.proofs.lines.draw_script.Goals as goal

all : (c : goal.After-drop-lines-2) → Adds [] c.args.rng.now (lines_drawn c.args.rng.now) c.add_lanes.new.lines.items c.add_lanes.new.rng
all c =
    assembled c.args.rng.now c.add_clients.new.rng c.add_feeds.new.rng c.add_connections.new.rng c.draw-last.new.rng c.add_lanes.new.rng c.draw-last.result
    c.add_clients.new.lines.items c.add_capture.new.lines.items c.add_feeds.new.lines.items c.add_connections.new.lines.items c.push.new.self.items c.push-2.new.self.items c.add_lanes.new.lines.items
    (subst (λ (lines : List Body). Adds lines c.args.rng.now (drawn client_lines 32 0 c.args.rng.now) c.add_clients.new.lines.items c.add_clients.new.rng) c.new-lines.ensures.items c.in_ok-add_clients.ensures)
    c.in_ok-add_capture.ensures c.in_ok-add_feeds.ensures c.in_ok-add_connections.ensures c.draw-last.ensures.value c.draw-last.ensures.next
    (c.in_ok-push.ensures.items ∙ ap (λ (lines : List Body). lines ++ Do Start ∷ []) c.in_ok-add_end.ensures ∙ append_assoc c.add_connections.new.lines.items (end_calls c.draw-last.result) (Do Start ∷ []))
    c.in_ok-push-2.ensures.items c.in_ok-add_lanes.ensures

pub returns-clause-text : goal.returns-clause-text
returns-clause-text c = subst (λ (lines : List Body). IfOk c.text_of.result (λ text. string_bytes text ≡ text_by lines)) (c.deref.ensures.value ∙ (all c).items) c.text_of.ensures

pub returns-clause-behind : goal.returns-clause-behind
returns-clause-behind c = if_ok c.text_of.result (all c).generator
