use Rattle.std.proofs.Common.{◌∙◌}
use Rattle.session_threads.proofs.OutcomeLemmas.{if-quiet}
use Rattle.session_threads.proofs.joins.wheel.Goals as goal

pub returns-clause-wheeled : goal.returns-clause-wheeled
returns-clause-wheeled g c = record {
  wheeled = c.wheel_cycles-ran.ensures.wheeled;
  failed = c.wheel_cycles-ran.ensures.failed;
  stays = c.wheel_cycles-ran.ensures.stays;
  table = c.wheel_cycles-ran.ensures.table;
  pairs = c.wheel_cycles-ran.ensures.pairs;
  disks = c.wheel_cycles-ran.ensures.disks;
  read = c.wheel_cycles-ran.ensures.read;
  write = c.wheel_cycles-ran.ensures.write;
}

pub returns-clause-caller : goal.returns-clause-caller
returns-clause-caller g c = record { same = c.tell_lanes.ensures.same; quiet = if-quiet c.wheel_cycles-ran.result (λ ok. c.tell_lanes.ensures.quiet (c.is_err.ensures.value ∙ ok)) }
