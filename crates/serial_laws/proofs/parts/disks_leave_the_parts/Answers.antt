use Rattle.serial_laws.proofs.ReadLemmas.{AreEmpty-read, AreFilled-long, DisksTell-told, IsSound-read, IsSound-told}
use Rattle.serial_laws.proofs.parts.disks_leave_the_parts.Goals as goal

pub returns-clause-read : goal.returns-clause-read
returns-clause-read c = IsSound-read

pub returns-clause-told : goal.returns-clause-told
returns-clause-told c = IsSound-told

pub returns-clause-tells : goal.returns-clause-tells
returns-clause-tells c = DisksTell-told

pub returns-clause-empty : goal.returns-clause-empty
returns-clause-empty c = AreEmpty-read

pub returns-clause-filled : goal.returns-clause-filled
returns-clause-filled c = AreFilled-long
