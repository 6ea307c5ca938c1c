use Rattle.std.proofs.Common.{rules, ap, ◌∙◌}
use Rattle.record_ring.specs.Steps.{Sat}
use Rattle.record_ring.proofs.Meetings.{parts, joins, tells}
use Rattle.record_ring.proofs.ends.tell.Goals as goal

pub split_seat-theirs-requires : goal.split_seat-theirs-requires
split_seat-theirs-requires c = (search rules, search rules, parts _ _ c.consumer.inside.seat.me.0 c.consumer.invariant.consumes)

pub join_seat-requires : goal.join_seat-requires
join_seat-requires c =
    let cut = c.split_seat-theirs.ensures in (
      search rules,
      search rules,
      search rules,
      search rules,
      joins _ _ c.producer.inside.seat.me.0 _ c.split_seat-theirs.result.me.0 c.producer.invariant.produces (ap (λ (u : Sat). u.0.is_consumer) cut.4 ∙ c.consumer.invariant.consumes),
    )

pub load-requires : goal.load-requires
load-requires c =
    let now = c.join_seat.ensures.2 in (
      search rules,
      search rules,
      tells _ _ _ c.join_seat.new.seat.me (ap (λ (u : Sat). u.0.is_producer) now) (ap (λ (u : Sat). u.0.is_consumer) now),
    )

pub split_seat-requires : goal.split_seat-requires
split_seat-requires c = (search rules, search rules, parts _ _ c.load.new.seat.me.0 (ap (λ (u : Sat). u.0.is_consumer) c.load.ensures.2.1))
