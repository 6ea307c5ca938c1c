use Rattle.std.proofs.Common.{refl}
use Rattle.session_works.proofs.reading.tell_all.Goals as goal

pub returns-clause-told : goal.returns-clause-told
returns-clause-told g c = c.try_all.ensures.told refl
