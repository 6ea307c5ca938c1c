use Rattle.disk_runs.proofs.AloneLemmas.{AreFilled-alone, DisksSerial-alone, DisksTell-alone, HasRoom-alone, PlaysAll-alone}
use Rattle.disk_runs.proofs.GoingLemmas.{NoneFailed-alone}
use Rattle.disk_runs.proofs.cycles.what_is_left_alone_stays.Goals as goal

pub returns-clause-room : goal.returns-clause-room
returns-clause-room c = HasRoom-alone

pub returns-clause-going : goal.returns-clause-going
returns-clause-going c = NoneFailed-alone

pub returns-clause-plays : goal.returns-clause-plays
returns-clause-plays c = PlaysAll-alone

pub returns-clause-tell : goal.returns-clause-tell
returns-clause-tell c = DisksTell-alone

pub returns-clause-filled : goal.returns-clause-filled
returns-clause-filled c = AreFilled-alone

pub returns-clause-serial : goal.returns-clause-serial
returns-clause-serial c = DisksSerial-alone
