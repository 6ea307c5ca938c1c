use Rattle.disk_runs.proofs.MissLemmas.{in-run}
use Rattle.disk_runs.proofs.cycles.underruns_come_in_run_cycles.Goals as goal

pub returns : goal.returns
returns c session after one misses steps filled = in-run session after one steps misses filled
