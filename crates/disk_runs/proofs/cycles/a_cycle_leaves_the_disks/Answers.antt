use Rattle.disk_runs.proofs.MissLemmas.{own-stepped, pairs-stepped}
use Rattle.disk_runs.proofs.cycles.a_cycle_leaves_the_disks.Goals as goal

pub returns-clause-pairs : goal.returns-clause-pairs
returns-clause-pairs c = pairs-stepped

pub returns-clause-own : goal.returns-clause-own
returns-clause-own c = own-stepped
