use Rattle.driver_laws.proofs.MeetingLemmas.{Fits-met, Keeps-met}
use Rattle.driver_laws.proofs.courses.a_meeting_changes_nothing.Goals as goal

pub returns-clause-fits : goal.returns-clause-fits
returns-clause-fits c = Fits-met

pub returns-clause-keeps : goal.returns-clause-keeps
returns-clause-keeps c = Keeps-met
