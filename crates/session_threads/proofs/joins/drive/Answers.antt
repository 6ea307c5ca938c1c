use Rattle.std.proofs.Common.{◌∙◌}
use Rattle.session_threads.proofs.OutcomeLemmas.{if-quiet}
use Rattle.session_threads.proofs.joins.drive.Goals as goal

pub end_rings-requires-clause-all : goal.end_rings-requires-clause-all
end_rings-requires-clause-all g c = c.run_cycles-ran.ensures.stays.rings.as_many ∙ c.requires.many

pub returns-clause-driven : goal.returns-clause-driven
returns-clause-driven g c = (
  c.run_cycles-ran.new.driver,
  record {
    ok = c.run_cycles-ran.ensures.ok;
    going = c.run_cycles-ran.ensures.going;
    read = c.run_cycles-ran.ensures.read;
    write = c.run_cycles-ran.ensures.write;
    read_cause = c.run_cycles-ran.ensures.read_cause;
    write_cause = c.run_cycles-ran.ensures.write_cause;
    stays = c.run_cycles-ran.ensures.stays;
    capture = c.run_cycles-ran.ensures.capture;
  },
  c.end_rings.ensures,
)

pub returns-clause-caller : goal.returns-clause-caller
returns-clause-caller g c = record { same = c.tell_lanes.ensures.same; quiet = if-quiet c.run_cycles-ran.result (λ ok. c.tell_lanes.ensures.quiet (c.is_err.ensures.value ∙ ok)) }
