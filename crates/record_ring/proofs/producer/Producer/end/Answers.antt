use Rattle.std.proofs.Common.{rules, ap, ◌+◌, ◌*◌, ℕ}
use Rattle.record_ring.proofs.Puts.{marks}
use Rattle.record_ring.proofs.producer.Producer.end.Goals as goal

pub store-requires : goal.store-requires
store-requires c = let p = c.self.inside in let i = c.self.invariant in (search rules, search rules, marks _ _ _ p.seat.me _ i.produces i.alone (ap (λ (q : ℕ). 2 * q + 1) i.sent))
