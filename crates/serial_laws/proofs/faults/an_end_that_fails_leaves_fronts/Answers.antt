use Rattle.serial_laws.proofs.EndFaultLemmas.{StandsInSerial-end}
use Rattle.serial_laws.proofs.faults.an_end_that_fails_leaves_fronts.Goals as goal

pub returns : goal.returns
returns c = StandsInSerial-end c.the_serial_course_fits.ensures c.all_is_played_back.ensures c.blocks_kept_are_recorded.ensures.samples c.cycles_of_phases.ensures
