use Rattle.driver_laws.proofs.PeriodLemmas.{period-first}
use Rattle.driver_laws.proofs.courses.a_script_with_disks_keeps_its_period.Goals as goal

pub returns : goal.returns
returns c = period-first
