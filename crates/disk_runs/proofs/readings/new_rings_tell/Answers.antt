use Rattle.disk_runs.proofs.GoingLemmas.{NoneFailed-new}
use Rattle.disk_runs.proofs.NewLemmas.{DisksTell-new, HasRoom-new}
use Rattle.disk_runs.proofs.readings.new_rings_tell.Goals as goal

pub returns-clause-room : goal.returns-clause-room
returns-clause-room c = HasRoom-new

pub returns-clause-tell : goal.returns-clause-tell
returns-clause-tell c = DisksTell-new

pub returns-clause-going : goal.returns-clause-going
returns-clause-going c = NoneFailed-new
