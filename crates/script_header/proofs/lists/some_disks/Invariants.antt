use Rattle.std.proofs.Common.{◌≡◌, ◌≤◌, [], length, take}
use Rattle.std.specs.Prelude.{codes}
use Rattle.jack_types.specs.declared.scripts.Many.TheVariants.{Disks}
use Rattle.grammar_laws.specs.session_model.specs.Reading.{number, several}
use Rattle.script_header.proofs.lists.some_disks.Given as goal

abbrev pub invariant-lines : goal.invariant-lines
invariant-lines l = record {
  same : several Disks 4 (codes "disk") (λ found. number 1 8) [] l.fn.lines.lines ≡ several Disks 4 (codes "disk") (λ found. number 1 8) (take l.len l.channels) l.lines.lines;
  few : l.len ≤ 4;
  size : length l.channels ≡ 4;
  end : l.lines.end ≡ l.fn.lines.end;
}

abbrev pub decreases-lines : goal.decreases-lines
decreases-lines l = length l.lines.lines
