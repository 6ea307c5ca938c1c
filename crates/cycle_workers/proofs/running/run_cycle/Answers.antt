use Rattle.std.proofs.Common.{rules, arith, ◌≡◌, ◌<◌, ◌%◌, ℕ, [], ◌∷◌, length, get_or, sym, ap, ◌∙◌, subst}
use Rattle.activation.specs.declared.takens.Seat.{Seat}
use Rattle.activation.specs.Seats.{Sits, new_duty}
use Rattle.activation.specs.Rounds.{AreSeats}
use Rattle.cycle_workers.specs.Runs.{HaveRoom, HasRun}
use Rattle.activation.proofs.Ended.{all_ended}
use Rattle.cycle_workers.proofs.Going.{long_as, mapped_same}
use Rattle.cycle_workers.proofs.running.run_cycle.Goals as goal

pub for_each_mut-requires-clause-accepts : goal.for_each_mut-requires-clause-accepts
for_each_mut-requires-clause-accepts g c κs within i p low is =
    let crew = c.args.crew.now in
    let all = c.args.seats.now in
    let fresh = c.requires.fresh in
    let long = long_as (λ (s : Seat g.row.B.Denot g.row.B-Value.Denot g.row.B-Memory.Denot). s.number) all crew.seats c.requires.all.numbers in
    let e = fresh.1 i p.now low in
    let sits = (c.requires.all.each i p.now low).0 in (
      subst (λ (s : Seat g.row.B.Denot g.row.B-Value.Denot g.row.B-Memory.Denot). Sits crew.board.shared.table_id crew.links.items crew.nodes crew.seats s.number s.token × (length all ≡ crew.seats) × (s.token.me.0.duty ≡ new_duty crew.links.items s.token.me.0.duty.before (length all) (s.number ∷ [])) × HaveRoom g.B.Work.has_room crew.links.items s.token.me.0.duty.before) (sym is) (
        sits,
        long,
        e ∙ (λ j. new_duty crew.links.items (ap (λ d. d.before) (sym e) j) (sym long j) ((get_or all i p.now).number ∷ [])),
        subst (HaveRoom g.B.Work.has_room crew.links.items) (sym (ap (λ d. d.before) e)) fresh.2,
      ),
      (search rules, search rules, search rules),
    )

pub returns-clause-all : goal.returns-clause-all
returns-clause-all g c =
    let crew = c.args.crew.now in
    let old = c.args.seats.now in
    let new = c.for_each_mut.new.s in
    let count = long_as (λ (s : Seat g.row.B.Denot g.row.B-Value.Denot g.row.B-Memory.Denot). s.number) old crew.seats c.requires.all.numbers in
    let long : length new ≡ length old = c.for_each_mut.auto.s in
    let P : Seat g.row.B.Denot g.row.B-Value.Denot g.row.B-Memory.Denot → Seat g.row.B.Denot g.row.B-Value.Denot g.row.B-Memory.Denot → Type 0 = λ x y. (y.number ≡ x.number) × Sits crew.board.shared.table_id crew.links.items crew.nodes crew.seats y.number y.token × HasRun crew.nodes (length old) y.number x.token.me.0.duty y.token.me.0.duty in
    let each : (k : ℕ) (d : Seat g.row.B.Denot g.row.B-Value.Denot g.row.B-Memory.Denot) → k < length old → P (get_or old k d) (get_or new k d) = λ k d low.
    let it = (c.for_each_mut.ensures k d low).1 in subst (λ (z : Seat g.row.B.Denot g.row.B-Value.Denot g.row.B-Memory.Denot × Seat g.row.B.Denot g.row.B-Value.Denot g.row.B-Memory.Denot). P z.0 z.1) (λ j. (it.argument_is j, it.left j)) it.call in
    record {
      numbers = mapped_same (λ (s : Seat g.row.B.Denot g.row.B-Value.Denot g.row.B-Memory.Denot). s.number) old new long (λ k d low. (each k d low).0) ∙ c.requires.all.numbers;
      each = λ k d low. let it = each k d (omega (arith, low, long)) in (it.1, it.2.none_held, it.2.none_left);
    }

pub returns-clause-played : goal.returns-clause-played
returns-clause-played g c =
    let crew = c.args.crew.now in
    let old = c.args.seats.now in
    let new = c.for_each_mut.new.s in
    let count = long_as (λ (s : Seat g.row.B.Denot g.row.B-Value.Denot g.row.B-Memory.Denot). s.number) old crew.seats c.requires.all.numbers in
    let long : length new ≡ length old = c.for_each_mut.auto.s in
    let P : Seat g.row.B.Denot g.row.B-Value.Denot g.row.B-Memory.Denot → Seat g.row.B.Denot g.row.B-Value.Denot g.row.B-Memory.Denot → Type 0 = λ x y. (y.number ≡ x.number) × Sits crew.board.shared.table_id crew.links.items crew.nodes crew.seats y.number y.token × HasRun crew.nodes (length old) y.number x.token.me.0.duty y.token.me.0.duty in
    let each : (k : ℕ) (d : Seat g.row.B.Denot g.row.B-Value.Denot g.row.B-Memory.Denot) → k < length old → P (get_or old k d) (get_or new k d) = λ k d low.
    let it = (c.for_each_mut.ensures k d low).1 in subst (λ (z : Seat g.row.B.Denot g.row.B-Value.Denot g.row.B-Memory.Denot × Seat g.row.B.Denot g.row.B-Value.Denot g.row.B-Memory.Denot). P z.0 z.1) (λ j. (it.argument_is j, it.left j)) it.call in
    λ k d low n inside mine. (each k d (omega (arith, low, long))).2.started_all n inside (ap (λ m. n % m) count ∙ mine)

pub returns-clause-ended : goal.returns-clause-ended
returns-clause-ended g c before know =
    let crew = c.args.crew.now in
    let old = c.args.seats.now in
    let new = c.for_each_mut.new.s in
    let count = long_as (λ (s : Seat g.row.B.Denot g.row.B-Value.Denot g.row.B-Memory.Denot). s.number) old crew.seats c.requires.all.numbers in
    let long : length new ≡ length old = c.for_each_mut.auto.s in
    let P : Seat g.row.B.Denot g.row.B-Value.Denot g.row.B-Memory.Denot → Seat g.row.B.Denot g.row.B-Value.Denot g.row.B-Memory.Denot → Type 0 = λ x y. (y.number ≡ x.number) × Sits crew.board.shared.table_id crew.links.items crew.nodes crew.seats y.number y.token × HasRun crew.nodes (length old) y.number x.token.me.0.duty y.token.me.0.duty in
    let each : (k : ℕ) (d : Seat g.row.B.Denot g.row.B-Value.Denot g.row.B-Memory.Denot) → k < length old → P (get_or old k d) (get_or new k d) = λ k d low.
    let it = (c.for_each_mut.ensures k d low).1 in subst (λ (z : Seat g.row.B.Denot g.row.B-Value.Denot g.row.B-Memory.Denot × Seat g.row.B.Denot g.row.B-Value.Denot g.row.B-Memory.Denot). P z.0 z.1) (λ j. (it.argument_is j, it.left j)) it.call in
    let are : AreSeats crew.board.shared.table_id crew.links.items crew.nodes crew.seats new = record {
      numbers = mapped_same (λ (s : Seat g.row.B.Denot g.row.B-Value.Denot g.row.B-Memory.Denot). s.number) old new long (λ k d low. (each k d low).0) ∙ c.requires.all.numbers;
      each = λ k d low. let it = each k d (omega (arith, low, long)) in (it.1, it.2.none_held, it.2.none_left);
    } in
    all_ended g.B.Work.memory g.B.Work.has_room g.B.Work.after g.B.Work.gives crew.board.shared.table_id crew.links.items crew.nodes crew.seats before new crew.roomy.some_seat are
    (λ k d low n inside mine. (each k d (omega (arith, low, long))).2.started_all n inside (ap (λ m. n % m) count ∙ mine))
    (λ k d low. let low' : k < length old = omega (arith, low, long) in (each k d low').2.before_stays ∙ know k d low')
