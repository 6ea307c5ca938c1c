use Rattle.disk_runs.proofs.FileLemmas.{PutsAll-plays, PutsAll-served, PutsAll-told, PutsAll-tried}
use Rattle.disk_runs.proofs.readings.what_was_put_is_of_the_files.Goals as goal

pub returns-clause-plays : goal.returns-clause-plays
returns-clause-plays c = PutsAll-plays c.players_put_their_files.ensures

pub returns-clause-broke : goal.returns-clause-broke
returns-clause-broke c = PutsAll-tried

pub returns-clause-served : goal.returns-clause-served
returns-clause-served c = PutsAll-served c.players_put_their_files.ensures

pub returns-clause-told : goal.returns-clause-told
returns-clause-told c = PutsAll-told
