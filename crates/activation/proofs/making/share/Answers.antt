use Rattle.std.proofs.Common.{rules, arith, ◌≡◌, ◌<◌, ◌+◌, ◌-◌, ℕ, suc, List, [], ◌∷◌, ◌++◌, map, ap, ◌∙◌}
use Rattle.session_laws.specs.session_model.specs.Samples.{below}
use Rattle.activation.specs.declared.takens.Seat.{Seat}
use Rattle.activation.specs.Contents.{IsFull, IsDone, from_to}
use Rattle.activation.specs.Seats.{IsShare, new_duty}
use Rattle.activation.proofs.Played.{map-snoc}
use Rattle.activation.proofs.Sharing.{part_share, kept_share, given_share, put_one}
use Rattle.activation.proofs.making.share.Goals as goal

pub split_seat-part-requires : goal.split_seat-part-requires
split_seat-part-requires g c =
    let i = c.loop-number.invariant in
    let test : c.loop-number.number < c.args.count - 1 = c.loop-number-test.true in (
      i.0,
      c.requires.token.1,
      part_share (IsFull g.B.Work.memory g.B.Work.has_room g.B.Work.after g.B.Work.gives) (IsDone g.B.Work.memory g.B.Work.has_room g.B.Work.after g.B.Work.gives) _ c.loop-number.token.me c.args.token.me.0.duty.links c.args.token.me.0.duty.before c.args.count c.loop-number.number (c.args.count - c.loop-number.number) i.1 i.2 (omega (arith, test)),
    )

pub loop-number-preserved : goal.loop-number-preserved
loop-number-preserved g c =
    let i = c.loop-number.invariant in
    let n : ℕ = c.loop-number.number in
    let cut = c.split_seat-part.ensures in
    let test : n < c.args.count - 1 = c.loop-number-test.true in
    let left : c.args.count - n ≡ suc (c.args.count - (n + 1)) = omega (arith, test) in
    let kept = kept_share (IsFull g.B.Work.memory g.B.Work.has_room g.B.Work.after g.B.Work.gives) (IsDone g.B.Work.memory g.B.Work.has_room g.B.Work.after g.B.Work.gives) c.loop-number.token.me c.split_seat-part.new.seat.me c.args.token.me.0.duty.links c.args.token.me.0.duty.before c.args.count n (c.args.count - n) (c.args.count - (n + 1)) cut.2 i.1 i.2 left in
    let given = given_share (IsFull g.B.Work.memory g.B.Work.has_room g.B.Work.after g.B.Work.gives) (IsDone g.B.Work.memory g.B.Work.has_room g.B.Work.after g.B.Work.gives) c.loop-number.token.me c.split_seat-part.result.me c.args.token.me.0.duty.links c.args.token.me.0.duty.before c.args.count n (c.args.count - n) (c.args.count - (n + 1)) cut.4 i.1 i.2 left in
    let put = c.push_reserved.ensures.items in
    let next : suc n ≡ n + 1 = omega arith in
    let low : n < c.args.count = omega (arith, test) in
    let P : Seat g.row.B.Denot g.row.B-Value.Denot g.row.B-Memory.Denot → Type 0 = λ seat. IsShare c.args.board.now.shared.table_id c.args.token.me.0.duty.links c.args.token.me.0.duty.before c.args.count seat.number seat.token in (
      cut.0 ∙ i.0,
      kept.0,
      kept.1,
      ap (map (λ seat. seat.number)) put ∙ (map-snoc (λ seat. seat.number) c.loop-number.seats.items _ ∙ (ap (λ (l : List ℕ). l ++ n ∷ []) i.3 ∙ ap below next)),
      put_one P c.loop-number.seats.items c.push_reserved.new.self.items _ put i.4 record { few = low; table = cut.3 ∙ i.0; idle = given.0; duty = given.1 },
      c.push_reserved.ensures.len ∙ ap (λ k. k + 1) i.5,
      search rules,
    )

pub returns-clause-numbers : goal.returns-clause-numbers
returns-clause-numbers g c =
    let i = c.loop-number.invariant in
    let end : c.loop-number.number ≡ c.args.count - 1 = omega (arith, c.loop-number.auto.number-end, c.loop-number-test.false) in
    let all : suc (c.args.count - 1) ≡ c.args.count = (let some = c.requires.room.2 in omega (arith, some)) in
    ap (map (λ seat. seat.number)) c.push_reserved-2.ensures.items
    ∙ (map-snoc (λ seat. seat.number) c.loop-number.seats.items _ ∙ (ap (λ (l : List ℕ). l ++ (c.args.count - 1) ∷ []) (i.3 ∙ ap below end) ∙ ap below all))

pub returns-clause-each : goal.returns-clause-each
returns-clause-each g c =
    let i = c.loop-number.invariant in
    let some = c.requires.room.2 in
    let end : c.loop-number.number ≡ c.args.count - 1 = omega (arith, c.loop-number.auto.number-end, c.loop-number-test.false) in
    let one : c.args.count - c.loop-number.number ≡ 1 = omega (arith, end, some) in
    let P : Seat g.row.B.Denot g.row.B-Value.Denot g.row.B-Memory.Denot → Type 0 = λ seat. IsShare c.args.board.now.shared.table_id c.args.token.me.0.duty.links c.args.token.me.0.duty.before c.args.count seat.number seat.token in
    put_one P c.loop-number.seats.items c.push_reserved-2.new.self.items _ c.push_reserved-2.ensures.items i.4 record {
      few = omega (arith, some);
      table = i.0;
      idle = i.1;
      duty = i.2 ∙ (λ j. new_duty c.args.token.me.0.duty.links c.args.token.me.0.duty.before c.args.count (from_to (end j) (one j)));
    }
