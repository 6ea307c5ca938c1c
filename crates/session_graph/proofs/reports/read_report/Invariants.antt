use Rattle.std.proofs.Common.{◌≡◌, ◌+◌, ◌-◌, length}
use Rattle.session_model.specs.Grammar.{IsScript}
use Rattle.report_laws.specs.Places.{limits_of}
use Rattle.told_reports.specs.Counts.{AreFew}
use Rattle.session_graph.specs.Fronts.{IsBefore}
use Rattle.session_graph.specs.Readings.{HasCalls, IsNear}
use Rattle.session_graph.proofs.reports.read_report.Given as goal

abbrev pub invariant-reading : goal.invariant-reading
invariant-reading g l = record {
  limits : l.limits ≡ limits_of l.script;
  few : AreFew l.limits;
  lawful : IsScript l.script;
  has : HasCalls l.script l.initial.lines.left l.lines.left l.place l.number l.calls.items;
  before : IsBefore l.cycle l.place;
  near : IsNear l.limits l.place l.number (length l.calls.items);
  kept : l.lines.faults ≡ l.initial.lines.faults;
}

abbrev pub decreases-reading : goal.decreases-reading
decreases-reading g l = (1 + l.limits.calls + l.cycle) - l.number
