use Rattle.disk_runs.proofs.FileLemmas.{AtRest, DisksTell-tried}
use Rattle.disk_runs.proofs.readings.ends_that_met_tell.Goals as goal

pub returns-clause-broke : goal.returns-clause-broke
returns-clause-broke c = DisksTell-tried

pub returns-clause-rest : goal.returns-clause-rest
returns-clause-rest c = AtRest c.players_put_their_files.ensures
