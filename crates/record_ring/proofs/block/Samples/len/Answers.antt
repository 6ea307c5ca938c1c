use Rattle.std.proofs.Common.{arith}
use Rattle.record_ring.proofs.block.Samples.len.Goals as goal

pub overflow_cast-result : goal.overflow_cast-result
overflow_cast-result c = let fits = c.self.invariant.0 in let small = c.self.invariant.2 in omega (arith, c.len.ensures)
