use Rattle.serial_laws.proofs.MeetLemmas.{DisksTell-begun, DisksTell-met, DisksTell-rounded, IsSound-begun, IsSound-met, IsSound-rounded}
use Rattle.serial_laws.proofs.parts.desks_leave_the_parts.Goals as goal

pub returns-clause-met : goal.returns-clause-met
returns-clause-met c = IsSound-met

pub returns-clause-rounded : goal.returns-clause-rounded
returns-clause-rounded c = IsSound-rounded

pub returns-clause-begun : goal.returns-clause-begun
returns-clause-begun c = IsSound-begun

pub returns-clause-met_tells : goal.returns-clause-met_tells
returns-clause-met_tells c = DisksTell-met

pub returns-clause-rounded_tells : goal.returns-clause-rounded_tells
returns-clause-rounded_tells c = DisksTell-rounded

pub returns-clause-begun_tells : goal.returns-clause-begun_tells
returns-clause-begun_tells c = DisksTell-begun
