use Rattle.std.proofs.Common.{◌≡◌, map}
use Rattle.session_model.specs.Samples.{below}
use Rattle.session_model.specs.Scripts.{planned_of}
use Rattle.lane_calls.specs.Plans.{plan_of}
use Rattle.lane_calls.proofs.calls.LaneCalls.of.Given as goal

abbrev pub invariant-loop-lane : goal.invariant-loop-lane
invariant-loop-lane l = map (λ lane. map plan_of lane.items) l.lanes.items ≡ map (planned_of l.script) (below l.lane)
