use Rattle.std.proofs.Common.{arith}
use Rattle.crossbeam_deque.specs.Handles.{view}
use Rattle.steal_workers.proofs.Tallied.{takes}
use Rattle.steal_workers.proofs.ends.Stealer.steal.Goals as goal

pub steal_as-requires-clause-takes : goal.steal_as-requires-clause-takes
steal_as-requires-clause-takes c = takes c.loop.pass.id (view c.loop.pass) (let part = c.loop.invariant.1 in omega (arith, part))
