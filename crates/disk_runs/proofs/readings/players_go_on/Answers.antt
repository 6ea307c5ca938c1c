use Rattle.disk_runs.proofs.FileLemmas.{PlaysAll-read, PlaysAll-served, PlaysAll-told}
use Rattle.disk_runs.proofs.readings.players_go_on.Goals as goal

pub returns-clause-read : goal.returns-clause-read
returns-clause-read c = PlaysAll-read

pub returns-clause-told : goal.returns-clause-told
returns-clause-told c = PlaysAll-told

pub returns-clause-served : goal.returns-clause-served
returns-clause-served c = PlaysAll-served
