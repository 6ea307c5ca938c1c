use Rattle.steal_workers.proofs.Tallied.{begins}
use Rattle.steal_workers.proofs.ends.Deque.new.Goals as goal

pub fifo_as-requires : goal.fifo_as-requires
fifo_as-requires c = begins
