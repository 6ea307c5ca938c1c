use Rattle.serial_lanes.proofs.StepLemmas.{fewer-left, makes-then-runs, may-makes}
use Rattle.serial_lanes.proofs.lanes.run_lane.Goals as goal

pub stepping-smaller : goal.stepping-smaller
stepping-smaller c = fewer-left c.stepping.desk c.args.lane c.in-Did.field-0 c.step.new.self c.in-Did.ensures

pub stepping-preserved : goal.stepping-preserved
stepping-preserved c = record {
  may = may-makes c.stepping.desk c.args.lane c.in-Did.field-0 c.step.new.self c.in-Did.ensures c.stepping.invariant.may;
  goes = λ after runs. c.stepping.invariant.goes after (makes-then-runs c.stepping.desk c.args.lane c.in-Did.field-0 c.step.new.self after c.in-Did.ensures runs);
}
