use Rattle.run_laws.proofs.CourseLemmas.{Fits-met}
use Rattle.run_laws.proofs.meetings.own_course_fits.Goals as goal

pub returns : goal.returns
returns c = Fits-met c.accepted_of_legal.ensures.calls
