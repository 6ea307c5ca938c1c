use Rattle.run_laws.proofs.CourseLemmas.{FitsDisk-rest}
use Rattle.run_laws.proofs.meetings.disks_at_rest_fit.Goals as goal

pub returns : goal.returns
returns c = FitsDisk-rest
