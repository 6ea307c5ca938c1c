use Rattle.driver_laws.proofs.InstanceLemmas.{before, after, course_of, a_cycle, a_course, a_kept}
use Rattle.driver_laws.proofs.cycling.a_cycle_can_be.Goals as goal

pub returns : goal.returns
returns c = λ table. (before table, after table, course_of, a_cycle table, a_course table, a_kept table)
