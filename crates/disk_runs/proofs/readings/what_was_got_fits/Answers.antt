use Rattle.run_laws.proofs.CourseLemmas.{IsOver-own}
use Rattle.run_laws.specs.Sessions.{course_in}
use Rattle.disk_runs.proofs.FileLemmas.{FitsDisk-tells}
use Rattle.disk_runs.proofs.readings.what_was_got_fits.Goals as goal

pub returns-clause-disks : goal.returns-clause-disks
returns-clause-disks c = FitsDisk-tells

pub returns-clause-own : goal.returns-clause-own
returns-clause-own c session given one own met puts tell =
    c.own_course_fits.ensures session given one own met (FitsDisk-tells session given (course_in given session) one puts tell (IsOver-own session given))
