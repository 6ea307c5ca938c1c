use Rattle.std.proofs.Common.{◌≡◌, ◌+◌, ◌≤◌, length}
use Rattle.script_words.specs.Remaining.{remaining_from}
use Rattle.script_words.proofs.lines.Lines.from.Given as goal

abbrev pub invariant-loop-piece : goal.invariant-loop-piece
invariant-loop-piece l = record {
  same : remaining_from l.number l.rest ≡ remaining_from l.fn.number l.fn.text;
  small : l.number + length l.rest ≤ 2000000;
}

abbrev pub decreases-loop-piece : goal.decreases-loop-piece
decreases-loop-piece l = length l.rest
