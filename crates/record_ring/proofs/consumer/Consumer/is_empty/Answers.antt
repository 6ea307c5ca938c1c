use Rattle.std.proofs.Common.{rules}
use Rattle.record_ring.proofs.Takes.{peeks}
use Rattle.record_ring.proofs.consumer.Consumer.is_empty.Goals as goal

pub load-found-requires : goal.load-found-requires
load-found-requires c = let i = c.self.invariant in (search rules, search rules, peeks _ _ _ c.self.inside.seat.me i.consumes i.alone)
