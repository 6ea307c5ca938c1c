use Rattle.disk_runs.proofs.GoingLemmas.{NoneFailed-read, NoneFailed-told}
use Rattle.disk_runs.proofs.readings.no_reading_failed.Goals as goal

pub returns-clause-read : goal.returns-clause-read
returns-clause-read c = NoneFailed-read

pub returns-clause-told : goal.returns-clause-told
returns-clause-told c = NoneFailed-told
