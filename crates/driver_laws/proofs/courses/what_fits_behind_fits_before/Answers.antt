use Rattle.driver_laws.proofs.FitLemmas.{Fits-earlier, Fits-failed}
use Rattle.driver_laws.proofs.courses.what_fits_behind_fits_before.Goals as goal

pub returns-clause-whole : goal.returns-clause-whole
returns-clause-whole c = Fits-earlier

pub returns-clause-failed : goal.returns-clause-failed
returns-clause-failed c = Fits-failed
