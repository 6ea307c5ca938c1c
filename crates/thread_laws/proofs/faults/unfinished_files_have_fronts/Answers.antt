use Rattle.thread_laws.proofs.FileLemmas.{StandsSoFar-unfinished}
use Rattle.thread_laws.proofs.faults.unfinished_files_have_fronts.Goals as goal

pub returns : goal.returns
returns c = StandsSoFar-unfinished
