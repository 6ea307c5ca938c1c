use Rattle.disk_runs.proofs.PartLemmas.{HasFiles-tried, HasMetOthers-tried, HasRoom-tried, IsMet-tried, IsOne-tried, MissesInRun-tried}
use Rattle.disk_runs.proofs.readings.readings_leave_the_parts.Goals as goal

pub returns-clause-one : goal.returns-clause-one
returns-clause-one c most session after one tried = IsOne-tried most session after tried one

pub returns-clause-files : goal.returns-clause-files
returns-clause-files c = HasFiles-tried

pub returns-clause-misses : goal.returns-clause-misses
returns-clause-misses c = MissesInRun-tried

pub returns-clause-room : goal.returns-clause-room
returns-clause-room c most session after one tried = HasRoom-tried most session after tried one

pub returns-clause-met : goal.returns-clause-met
returns-clause-met c = IsMet-tried

pub returns-clause-others : goal.returns-clause-others
returns-clause-others c most session after one tried = HasMetOthers-tried most session after tried one
