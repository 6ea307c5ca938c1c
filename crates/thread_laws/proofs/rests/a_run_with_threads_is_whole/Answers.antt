use Rattle.thread_laws.proofs.OpenLemmas.{Runs-threads}
use Rattle.thread_laws.proofs.rests.a_run_with_threads_is_whole.Goals as goal

pub returns : goal.returns
returns c = Runs-threads c.lists_are_lawful.ensures c.misses_can_be.ensures.overruns c.misses_can_be.ensures.underruns
