use Rattle.std.proofs.Common.{◌≡◌, ◌≤◌, [], length, take}
use Rattle.std.specs.Prelude.{codes}
use Rattle.jack_types.specs.declared.scripts.Many.TheVariants.{Recorders}
use Rattle.grammar_laws.specs.session_model.specs.Reading.{recorder, several}
use Rattle.script_header.proofs.lists.recorders.Given as goal

abbrev pub invariant-lines : goal.invariant-lines
invariant-lines l = record {
  same : several Recorders 4 (codes "recorder") (recorder l.rate) [] l.fn.lines.lines ≡ several Recorders 4 (codes "recorder") (recorder l.rate) (take l.len l.formats) l.lines.lines;
  few : l.len ≤ 4;
  size : length l.formats ≡ 4;
  end : l.lines.end ≡ l.fn.lines.end;
}

abbrev pub decreases-lines : goal.decreases-lines
decreases-lines l = length l.lines.lines
