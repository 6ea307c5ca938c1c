use Rattle.std.proofs.Common.{◌≡◌, ◌≤◌, ◌==◌, count_by, take}
use Rattle.report_reader.specs.declared.rows.CallLine.{CallLine}
use Rattle.session_graph.proofs.replaying.made_by.Given as goal

abbrev pub invariant-loop-line : goal.invariant-loop-line
invariant-loop-line l = record {
  counted : l.made ≡ count_by (λ (line : CallLine). line.lane == l.lane) (take l.line-index l.lines);
  few : l.made ≤ l.line-index;
}
