use Rattle.thread_laws.proofs.RingEndLemmas.{HasFiles-served, IsSound-renewed, IsSoundBut-ended, IsSoundBut-served}
use Rattle.thread_laws.proofs.parts.ends_leave_the_parts.Goals as goal

pub returns-clause-ended : goal.returns-clause-ended
returns-clause-ended c = IsSoundBut-ended

pub returns-clause-served : goal.returns-clause-served
returns-clause-served c = IsSoundBut-served

pub returns-clause-files : goal.returns-clause-files
returns-clause-files c = HasFiles-served

pub returns-clause-renewed : goal.returns-clause-renewed
returns-clause-renewed c = IsSound-renewed
