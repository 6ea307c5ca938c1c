use Rattle.std.proofs.Common.{arith, ◌≡◌, ◌≢◌, ◌<◌, ◌+◌, ◌%◌, ℕ, suc, length, get_or, sym, ap, ◌∙◌, subst, length-set, get_or-set_other, mod-lt}
use Rattle.activation.specs.Contents.{IsFull, IsDone, from_to}
use Rattle.activation.specs.Seats.{IsIdle}
use Rattle.activation.proofs.Parting.{joins}
use Rattle.activation.proofs.Gathered.{Joined, number_at, long_as, same_numbers, sits, empty_at, looked_at, joined_first, joined_more}
use Rattle.activation.proofs.crews.Crew.gather.Goals as goal

pub loop-number-init : goal.loop-number-init
loop-number-init g c =
    let all = c.args.seats.now in
    let self = c.args.self.now in
    let more = self.roomy.some_seat in
    let long = long_as all self.seats c.requires.numbers in
    let low : 0 < length all = omega (arith, more, long) in
    let new = c.part-one.new.seat in
    let r = c.index-seats-0.result in (
      omega arith,
      omega (arith, low),
      length-set all 0 new,
      same_numbers all 0 new low (number_at all self.seats 0 new c.requires.numbers more ∙ (sym (number_at all self.seats 0 r c.requires.numbers more) ∙ sym c.part-one.ensures.0)),
      (λ k d h. let ne : k ≢ 0 = λ e. absurd (omega (arith, h, e)) in get_or-set_other all 0 k new d ne),
      joined_first self.board.shared.table_id self.links.items self.nodes self.seats all c.requires r c.part-one.result more c.part-one.ensures.1 c.part-one.ensures.2,
    )

pub part-other-requires-after_bounds : goal.part-other-requires-after_bounds
part-other-requires-after_bounds g c κs within =
    let all = c.args.seats.now in
    let self = c.args.self.now in
    let i = c.loop-number.invariant in
    let k : ℕ = c.loop-number.number in
    let r = c.index-seats-number.result in
    let test = c.loop-number-test.true in
    let low : k < self.seats = omega (arith, test, length-set all 0 c.part-one.new.seat, long_as all self.seats c.requires.numbers) in
    let s = sits self.board.shared.table_id self.links.items self.nodes self.seats all c.requires k r low in
    let old : get_or c.loop-number.seats k r ≡ get_or all k r = i.4 k r (omega arith) in
    subst (λ seat. (seat.token.table_id ≡ self.board.shared.table_id) × IsIdle seat.token.me) (sym old) (s.at.table, s.at.idle)

pub join_seat-requires : goal.join_seat-requires
join_seat-requires g c =
    let all = c.args.seats.now in
    let self = c.args.self.now in
    let i = c.loop-number.invariant in
    let k : ℕ = c.loop-number.number in
    let r = c.index-seats-number.result in
    let test = c.loop-number-test.true in
    let low : k < self.seats = omega (arith, test, length-set all 0 c.part-one.new.seat, long_as all self.seats c.requires.numbers) in
    let s = sits self.board.shared.table_id self.links.items self.nodes self.seats all c.requires k r low in
    let me : c.part-other.result.me ≡ (get_or all k r).token.me = c.part-other.ensures.2 ∙ ap (λ seat. seat.token.me) (i.4 k r (omega arith)) in (
      i.5.at.table,
      c.part-other.ensures.1,
      ap (λ m. m.1) me ∙ s.at.idle.clear,
      omega (arith, self.shape.words),
      joins (IsFull g.B.Work.memory g.B.Work.has_room g.B.Work.after g.B.Work.gives) (IsDone g.B.Work.memory g.B.Work.has_room g.B.Work.after g.B.Work.gives) _ c.loop-number.one.me.0 _ c.part-other.result.me.0 i.5.at.idle.live i.5.at.idle.off (ap (λ m. m.0.is_live) me ∙ s.at.idle.live) i.5.empty
          (ap (λ m. m.0.duty.held) me ∙ empty_at self.board.shared.table_id self.links.items self.nodes self.seats all c.requires k r low) (ap (λ m. m.0.duty.left) me ∙ looked_at self.board.shared.table_id self.links.items self.nodes self.seats all c.requires k r low) i.5.at.idle.none_out,
    )

pub loop-number-preserved : goal.loop-number-preserved
loop-number-preserved g c =
    let all = c.args.seats.now in
    let self = c.args.self.now in
    let i = c.loop-number.invariant in
    let k : ℕ = c.loop-number.number in
    let r = c.index-seats-number.result in
    let new = c.part-other.new.seat in
    let test = c.loop-number-test.true in
    let long = long_as all self.seats c.requires.numbers in
    let low : k < self.seats = omega (arith, test, length-set all 0 c.part-one.new.seat, long) in
    let inside : k < length c.loop-number.seats = omega (arith, low, long, i.2) in
    let next : suc k ≡ k + 1 = omega arith in (
      omega arith,
      omega (arith, low, long),
      length-set c.loop-number.seats k new ∙ i.2,
      same_numbers c.loop-number.seats k new inside (number_at c.loop-number.seats self.seats k new (i.3 ∙ c.requires.numbers) low ∙ (sym (number_at c.loop-number.seats self.seats k r (i.3 ∙ c.requires.numbers) low) ∙ sym c.part-other.ensures.0)) ∙ i.3,
      (λ j d h. let ne : j ≢ k = λ e. absurd (omega (arith, h, e)) in get_or-set_other c.loop-number.seats k j new d ne ∙ i.4 j d (omega (arith, h))),
      subst (λ n. Joined self.board.shared.table_id self.links.items self.nodes self.seats all n c.join_seat.new.seat) next
          (joined_more self.board.shared.table_id self.links.items self.nodes self.seats all c.requires k r c.loop-number.one c.part-other.result c.join_seat.new.seat low i.5 (c.part-other.ensures.2 ∙ ap (λ seat. seat.token.me) (i.4 k r (omega arith))) c.join_seat.ensures.0 c.join_seat.ensures.2),
    )

pub returns-clause-duty : goal.returns-clause-duty
returns-clause-duty g c =
    let all = c.args.seats.now in
    let self = c.args.self.now in
    let i = c.loop-number.invariant in
    let not = c.loop-number-test.false in
    let end : c.loop-number.number ≡ self.seats = omega (arith, not, i.1, length-set all 0 c.part-one.new.seat, long_as all self.seats c.requires.numbers) in
    (i.5.seats, i.5.shares ∙ ap (from_to 0) end, i.5.empty, i.5.looked)

pub returns-clause-before : goal.returns-clause-before
returns-clause-before g c = c.loop-number.invariant.5.before

pub returns-clause-played : goal.returns-clause-played
returns-clause-played g c all' n low =
    let all = c.args.seats.now in
    let self = c.args.self.now in
    let i = c.loop-number.invariant in
    let not = c.loop-number-test.false in
    let end : c.loop-number.number ≡ self.seats = omega (arith, not, i.1, length-set all 0 c.part-one.new.seat, long_as all self.seats c.requires.numbers) in
    let small : n % self.seats < self.seats = mod-lt n self.roomy.some_seat in
    i.5.played all' n low (omega (arith, small, end))

pub returns-clause-unused : goal.returns-clause-unused
returns-clause-unused g c = c.loop-number.invariant.5.unused
