use Rattle.disk_runs.proofs.RoomLemmas.{AreFilled-read, DisksFilled-read}
use Rattle.disk_runs.proofs.readings.long_readings_fill_the_rings.Goals as goal

pub returns-clause-filled : goal.returns-clause-filled
returns-clause-filled c = AreFilled-read

pub returns-clause-goes_on : goal.returns-clause-goes_on
returns-clause-goes_on c session after given one reads room tell = DisksFilled-read session after one reads room tell given
