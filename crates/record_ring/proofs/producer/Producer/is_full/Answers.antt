use Rattle.std.proofs.Common.{rules}
use Rattle.record_ring.proofs.Puts.{glances}
use Rattle.record_ring.proofs.producer.Producer.is_full.Goals as goal

pub load-taken-requires : goal.load-taken-requires
load-taken-requires c = let i = c.self.invariant in (search rules, search rules, glances _ _ _ c.self.inside.seat.me i.produces i.alone)
