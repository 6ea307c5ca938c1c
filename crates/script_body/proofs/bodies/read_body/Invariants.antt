use Rattle.std.proofs.Common.{◌≡◌, ◌≤◌, [], length}
use Rattle.grammar_laws.proofs.GrammarLimits.{Limits}
use Rattle.grammar_laws.specs.session_model.specs.Reading.{body_lines}
use Rattle.script_body.specs.Standings.{Follows}
use Rattle.script_body.proofs.bodies.read_body.Given as goal

abbrev pub invariant-lines : goal.invariant-lines
invariant-lines l = record {
  same : body_lines l.header [] l.fn.lines.lines ≡ body_lines l.header l.bodies.items l.lines.lines;
  follows : Follows l.header l.bodies.items l.standing;
  limits : Limits l.header l.bodies.items;
  period : l.standing.period ≤ 4096;
}

abbrev pub decreases-lines : goal.decreases-lines
decreases-lines l = length l.lines.lines
