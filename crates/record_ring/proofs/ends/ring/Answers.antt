use Rattle.std.proofs.Common.{rules, ap}
use Rattle.record_ring.specs.Steps.{Sat}
use Rattle.record_ring.proofs.Opening.{opens}
use Rattle.record_ring.proofs.Meetings.{parts}
use Rattle.record_ring.proofs.ends.ring.Goals as goal

pub new-requires : goal.new-requires
new-requires c = opens _ c.in_ok-slots.slots.items c.in_ok-slots.ensures.1

pub split_seat-other-requires : goal.split_seat-other-requires
split_seat-other-requires c = (search rules, search rules, parts _ _ c.in-Ok.seat.me.0 (ap (λ (u : Sat). u.0.is_consumer) c.in-Ok.ensures.ok.4))
