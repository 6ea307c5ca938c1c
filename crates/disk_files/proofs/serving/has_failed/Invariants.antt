use Rattle.disk_files.proofs.ReadLemmas.{GoingBelow}
use Rattle.disk_files.proofs.serving.has_failed.Given as goal

abbrev pub invariant-loop-reader : goal.invariant-loop-reader
invariant-loop-reader g l = GoingBelow l.reader-index l.readers
