use Rattle.std.proofs.Common.{◌-◌, length}
use Rattle.session_model.specs.Scripts.{planned_of}
use Rattle.control_desk.specs.Desks.{Desk, MayStep, made}
use Rattle.serial_lanes.specs.Lanes.{LaneRuns}
use Rattle.serial_lanes.proofs.lanes.run_lane.Given as goal

abbrev pub invariant-stepping : goal.invariant-stepping
invariant-stepping l = record {
  may : MayStep l.desk l.lane;
  goes : (after : Desk) → LaneRuns l.desk l.lane after → LaneRuns l.initial.desk l.lane after;
}

abbrev pub decreases-stepping : goal.decreases-stepping
decreases-stepping l = length (planned_of l.desk.script l.lane) - made l.desk.history l.lane
