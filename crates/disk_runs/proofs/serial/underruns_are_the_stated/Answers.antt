use Rattle.disk_runs.proofs.SerialLemmas.{IsSerial-own, printed-own}
use Rattle.disk_runs.proofs.serial.underruns_are_the_stated.Goals as goal

pub returns-clause-serial : goal.returns-clause-serial
returns-clause-serial c given session one own history numbers whole known = IsSerial-own given session one own known history numbers whole

pub returns-clause-printed : goal.returns-clause-printed
returns-clause-printed c given session one own whole known = printed-own given session one own known whole
