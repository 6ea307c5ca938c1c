use Rattle.rehearsal_laws.proofs.RecordedLemmas.{row, size}
use Rattle.rehearsal_laws.proofs.recording.rehearsal_is_recorded.Goals as goal

pub returns-clause-row : goal.returns-clause-row
returns-clause-row c = row

pub returns-clause-size : goal.returns-clause-size
returns-clause-size c = size
