use Rattle.std.proofs.Common.{le_refl}
use Rattle.serial_laws.proofs.GiveLemmas.{AreEmpty-gave, DisksTell-gave, IsSound-gave}
use Rattle.serial_laws.proofs.parts.blocks_leave_the_parts.Goals as goal

pub returns-clause-sound : goal.returns-clause-sound
returns-clause-sound c = λ most session after sound give. IsSound-gave session sound most after give

pub returns-clause-empty : goal.returns-clause-empty
returns-clause-empty c = λ session after sound give. AreEmpty-gave session sound session.script.header.ring after give (le_refl session.script.header.ring)

pub returns-clause-tells : goal.returns-clause-tells
returns-clause-tells c = DisksTell-gave
