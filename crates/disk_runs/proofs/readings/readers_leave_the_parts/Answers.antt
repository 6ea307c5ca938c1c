use Rattle.std.proofs.Common.{ap}
use Rattle.run_laws.specs.Sessions.{Session}
use Rattle.disk_runs.proofs.PartLemmas.{HasFiles-served, HasRoom-served, IsFor-served, IsMet-served, IsOne-served, MissesInRun-served}
use Rattle.disk_runs.proofs.readings.readers_leave_the_parts.Goals as goal

pub returns-clause-one : goal.returns-clause-one
returns-clause-one c session after one served = IsOne-served session after served one

pub returns-clause-files : goal.returns-clause-files
returns-clause-files c = HasFiles-served

pub returns-clause-misses : goal.returns-clause-misses
returns-clause-misses c = MissesInRun-served

pub returns-clause-room : goal.returns-clause-room
returns-clause-room c = HasRoom-served

pub returns-clause-met : goal.returns-clause-met
returns-clause-met c = IsMet-served

pub returns-clause-own : goal.returns-clause-own
returns-clause-own c session after given served = IsFor-served session after served given

pub returns-clause-driver : goal.returns-clause-driver
returns-clause-driver c session after served = ap (λ (s : Session). s.driver) served.same
