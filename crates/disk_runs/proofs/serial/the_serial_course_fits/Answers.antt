use Rattle.disk_runs.proofs.SerialLemmas.{Fits-whole}
use Rattle.disk_runs.proofs.serial.the_serial_course_fits.Goals as goal

pub returns : goal.returns
returns c given session one own so_far known =
    Fits-whole given session one own known c.accepted_of_legal.ensures.calls c.serial_meaning_is_legal.ensures.history c.serial_meaning_is_legal.ensures.numbers so_far
