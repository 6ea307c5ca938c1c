use Rattle.serial_lanes.proofs.SerialLemmas.{round-makes}
use Rattle.serial_lanes.proofs.StepLemmas.{ran-on}
use Rattle.serial_lanes.proofs.lanes.round.Goals as goal

pub returns-clause-on : goal.returns-clause-on
returns-clause-on c =
    ran-on c.args.desk.now c.run_lane-4.new.desk c.kept_by_type.ensures.desk.published
    (record {
      one = c.run_lane.new.desk;
      two = c.run_lane-2.new.desk;
      three = c.run_lane-3.new.desk;
      first = c.run_lane.ensures.runs;
      second = c.run_lane-2.ensures.runs;
      third = c.run_lane-3.ensures.runs;
      fourth = c.run_lane-4.ensures.runs;
    })

pub returns-clause-serial : goal.returns-clause-serial
returns-clause-serial c = λ done rounds place serial least saw.
    round-makes c.args.desk.now c.run_lane-4.new.desk done rounds c.kept_by_type.ensures.script place serial least
    (record {
      one = c.run_lane.new.desk;
      two = c.run_lane-2.new.desk;
      three = c.run_lane-3.new.desk;
      first = c.run_lane.ensures.runs;
      second = c.run_lane-2.ensures.runs;
      third = c.run_lane-3.ensures.runs;
      fourth = c.run_lane-4.ensures.runs;
    })
    saw
