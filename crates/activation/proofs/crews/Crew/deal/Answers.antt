use Rattle.std.proofs.Common.{arith, ◌≡◌, ◌<◌, ◌+◌, ◌-◌, ℕ, suc, length, map, get_or, set, sym, ◌∙◌, subst, length-set}
use Rattle.session_laws.specs.session_model.specs.Samples.{below}
use Rattle.activation.specs.declared.takens.Seat.{Seat}
use Rattle.activation.specs.Contents.{IsFull, IsDone, from_to}
use Rattle.activation.specs.Seats.{IsShare, new_duty}
use Rattle.activation.proofs.Gathered.{number_at, long_as, same_numbers, one_dealt}
use Rattle.activation.proofs.Sharing.{part_share, kept_share, given_share}
use Rattle.activation.proofs.crews.Crew.deal.Goals as goal

pub split_seat-requires : goal.split_seat-requires
split_seat-requires g c =
    let i = c.loop-number.invariant in
    let self = c.args.self.now in
    let d = c.args.token.me.0.duty in
    let test = c.loop-number-test.true in
    let long = long_as c.args.seats.now self.seats c.requires.numbers in (
      i.0,
      omega (arith, self.shape.words),
      part_share (IsFull g.B.Work.memory g.B.Work.has_room g.B.Work.after g.B.Work.gives) (IsDone g.B.Work.memory g.B.Work.has_room g.B.Work.after g.B.Work.gives) _ c.loop-number.token.me d.links d.before self.seats c.loop-number.number (self.seats - c.loop-number.number) i.1 i.2 (omega (arith, test, long)),
    )

pub loop-number-preserved : goal.loop-number-preserved
loop-number-preserved g c =
    let i = c.loop-number.invariant in
    let self = c.args.self.now in
    let d = c.args.token.me.0.duty in
    let n : ℕ = c.loop-number.number in
    let all = c.loop-number.seats in
    let cut = c.split_seat.ensures in
    let test = c.loop-number-test.true in
    let long = long_as c.args.seats.now self.seats c.requires.numbers in
    let long' = long_as all self.seats i.3 in
    let low : n < self.seats = omega (arith, test, long) in
    let left : self.seats - n ≡ suc (self.seats - (n + 1)) = omega (arith, low) in
    let full = IsFull g.B.Work.memory g.B.Work.has_room g.B.Work.after g.B.Work.gives in
    let done = IsDone g.B.Work.memory g.B.Work.has_room g.B.Work.after g.B.Work.gives in
    let kept = kept_share full done c.loop-number.token.me c.split_seat.new.seat.me d.links d.before self.seats n (self.seats - n) (self.seats - (n + 1)) cut.2 i.1 i.2 left in
    let given = given_share full done c.loop-number.token.me c.split_seat.result.me d.links d.before self.seats n (self.seats - n) (self.seats - (n + 1)) cut.4 i.1 i.2 left in
    let r = c.index-seats-number.result in
    let seat : Seat g.row.B.Denot g.row.B-Value.Denot g.row.B-Memory.Denot = record (get_or all n r) { token = c.split_seat.result } in (
      cut.0 ∙ i.0,
      kept.0,
      kept.1,
      same_numbers all n seat (omega (arith, low, long')) (number_at all self.seats n seat i.3 low ∙ sym (number_at all self.seats n r i.3 low)) ∙ i.3,
      one_dealt all n seat (λ k token. IsShare self.board.shared.table_id d.links d.before self.seats k token) (omega (arith, low, long')) record { few = low; table = cut.3 ∙ i.0; idle = given.0; duty = given.1 } i.4,
    )

pub bounds-seats-last : goal.bounds-seats-last
bounds-seats-last g c =
    let self = c.args.self.now in
    omega (arith, long_as c.loop-number.seats self.seats c.loop-number.invariant.3, long_as c.args.seats.now self.seats c.requires.numbers, self.roomy.some_seat)

pub bounds-seats-last-after-loop-number : goal.bounds-seats-last-after-loop-number
bounds-seats-last-after-loop-number g c =
    let self = c.args.self.now in
    omega (arith, long_as c.loop-number.seats self.seats c.loop-number.invariant.3, long_as c.args.seats.now self.seats c.requires.numbers, self.roomy.some_seat)

pub returns-clause-numbers : goal.returns-clause-numbers
returns-clause-numbers g c =
    let self = c.args.self.now in
    let all = c.loop-number.seats in
    let i = c.loop-number.invariant in
    let last : ℕ = length c.args.seats.now - 1 in
    let low : last < self.seats = omega (arith, long_as c.args.seats.now self.seats c.requires.numbers, self.roomy.some_seat) in
    let r = c.index-seats-last.result in
    let seat : Seat g.row.B.Denot g.row.B-Value.Denot g.row.B-Memory.Denot = record (get_or all last r) { token = c.loop-number.token } in
    same_numbers all last seat (omega (arith, low, long_as all self.seats i.3)) (number_at all self.seats last seat i.3 low ∙ sym (number_at all self.seats last r i.3 low)) ∙ i.3

pub returns-clause-each : goal.returns-clause-each
returns-clause-each g c k d h =
    let self = c.args.self.now in
    let duty = c.args.token.me.0.duty in
    let all = c.loop-number.seats in
    let i = c.loop-number.invariant in
    let last : ℕ = length c.args.seats.now - 1 in
    let long = long_as c.args.seats.now self.seats c.requires.numbers in
    let long' = long_as all self.seats i.3 in
    let low : last < self.seats = omega (arith, long, self.roomy.some_seat) in
    let r = c.index-seats-last.result in
    let seat : Seat g.row.B.Denot g.row.B-Value.Denot g.row.B-Memory.Denot = record (get_or all last r) { token = c.loop-number.token } in
    let numbers : map (λ (s : Seat g.row.B.Denot g.row.B-Value.Denot g.row.B-Memory.Denot). s.number) (set all last seat) ≡ below self.seats =
    same_numbers all last seat (omega (arith, low, long')) (number_at all self.seats last seat i.3 low ∙ sym (number_at all self.seats last r i.3 low)) ∙ i.3 in
    let inside : k < self.seats = omega (arith, h, long', length-set all last seat) in
    let end : c.loop-number.number ≡ last = (let not = c.loop-number-test.false in omega (arith, not, c.loop-number.auto.number-end)) in
    let one : self.seats - c.loop-number.number ≡ 1 = omega (arith, end, long, self.roomy.some_seat) in
    let share : IsShare self.board.shared.table_id duty.links duty.before self.seats last c.loop-number.token = record { few = low; table = i.0; idle = i.1; duty = i.2 ∙ (λ j. new_duty duty.links duty.before self.seats (from_to (end j) (one j))) } in
    subst (λ n. IsShare self.board.shared.table_id duty.links duty.before self.seats n (get_or (set all last seat) k d).token) (sym (number_at (set all last seat) self.seats k d numbers inside))
    (one_dealt all last seat (λ n token. IsShare self.board.shared.table_id duty.links duty.before self.seats n token) (omega (arith, low, long')) share (λ j e l. i.4 j e (omega (arith, l, end))) k d (omega (arith, inside, long)))
