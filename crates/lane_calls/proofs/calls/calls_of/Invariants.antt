use Rattle.std.proofs.Common.{◌≡◌, fold, map, take}
use Rattle.lane_calls.specs.Lines.{calls_on, of_lane, opening, past}
use Rattle.lane_calls.specs.Plans.{plan_of}
use Rattle.lane_calls.proofs.calls.calls_of.Given as goal

abbrev pub invariant-loop-line : goal.invariant-loop-line
invariant-loop-line l = record {
  so_far : map plan_of l.calls.items ≡ of_lane l.lane (calls_on opening (take l.line-index l.script.lines));
  progress_is : l.progress ≡ fold past opening (take l.line-index l.script.lines);
}
