use Rattle.std.proofs.Common.{◌≡◌, ◌<◌, ◌≤◌, [], length}
use Rattle.std.specs.Prelude.{All, codes}
use Rattle.jack_types.specs.declared.scripts.Many.TheVariants.{Events}
use Rattle.grammar_laws.specs.session_model.specs.Reading.{event, several}
use Rattle.script_header.specs.Fronts.{Item}
use Rattle.script_header.proofs.EventLemmas.{AreLast}
use Rattle.script_header.proofs.events.some_events.Given as goal

abbrev pub invariant-lines : goal.invariant-lines
invariant-lines l = record {
  same : several Events 4096 (codes "event") event [] l.fn.lines.lines ≡ several Events 4096 (codes "event") event l.found.items l.lines.lines;
  few : length l.found.items ≤ 4096;
  last : AreLast l.last l.found.items;
  lists : All (λ (item : Item). item.0 < 16) l.found.items;
  end : l.lines.end ≡ l.fn.lines.end;
}

abbrev pub decreases-lines : goal.decreases-lines
decreases-lines l = length l.lines.lines
