use Rattle.std.proofs.Common.{rules, ap, ◌∙◌}
use Rattle.std.specs.Prelude.{Option}
use Rattle.atomic_table.specs.Table.{Me}
use Rattle.graph_word.specs.declared.view.SeatView.{SeatView}
use Rattle.graph_word.proofs.Meetings.{parts, joins, goes_back, meets}
use Rattle.graph_word.proofs.ends.meet.Goals as goal

pub split_seat-theirs-requires : goal.split_seat-theirs-requires
split_seat-theirs-requires g c = (search rules, search rules, parts g.P.Numbered.content g.P.Numbered.base _ _ c.reader.inside.hold.seat.me.0 c.reader.invariant.reads)

pub join_seat-requires : goal.join_seat-requires
join_seat-requires g c =
    let cut = c.split_seat-theirs.ensures in (
      search rules,
      search rules,
      search rules,
      search rules,
      joins g.P.Numbered.content g.P.Numbered.base _ _ c.publisher.inside.seat.me.0 _ c.split_seat-theirs.result.me.0 c.publisher.invariant.4 (ap (λ (u : Me (Option g.row.P.Denot) SeatView). u.0.is_reader) cut.4 ∙ c.reader.invariant.reads),
    )

pub load-requires : goal.load-requires
load-requires g c =
    let now = c.join_seat.ensures.2 in (
      search rules,
      search rules,
      meets g.P.Numbered.content g.P.Numbered.base _ _ _ c.join_seat.new.seat.me (ap (λ (u : Me (Option g.row.P.Denot) SeatView). u.0.is_publisher) now) (ap (λ (u : Me (Option g.row.P.Denot) SeatView). u.0.is_reader) now),
    )

pub split_seat-back-requires : goal.split_seat-back-requires
split_seat-back-requires g c = (search rules, search rules, parts g.P.Numbered.content g.P.Numbered.base _ _ c.load.new.seat.me.0 (ap (λ (u : Me (Option g.row.P.Denot) SeatView). u.0.is_reader) c.load.ensures.2.1))

pub join_seat-requires-2 : goal.join_seat-requires-2
join_seat-requires-2 g c =
    let left = c.split_seat-theirs.ensures.2 in let right = c.split_seat-back.ensures.4 in (
      search rules,
      search rules,
      search rules,
      search rules,
      goes_back g.P.Numbered.content g.P.Numbered.base _ _ c.split_seat-theirs.new.seat.me.0 _ c.split_seat-back.result.me.0 (ap (λ (u : Me (Option g.row.P.Denot) SeatView). u.0.is_publisher) left ∙ c.reader.invariant.alone)
          (ap (λ (u : Me (Option g.row.P.Denot) SeatView). u.0.is_reader) right ∙ ap (λ (u : Me (Option g.row.P.Denot) SeatView). u.0.is_reader) c.load.ensures.2.1) (ap (λ (u : Me (Option g.row.P.Denot) SeatView). u.0.is_publisher) right),
    )
