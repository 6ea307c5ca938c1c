use Rattle.stage_laws.proofs.KnownLemmas.{known-later, no-past}
use Rattle.stage_laws.proofs.owning.owners_stay_known.Goals as goal

pub returns-clause-known : goal.returns-clause-known
returns-clause-known c = known-later

pub returns-clause-no_past : goal.returns-clause-no_past
returns-clause-no_past c = no-past
