use Rattle.std.proofs.Common.{arith, ◌≡◌, ◌≢◌, ◌<◌, ◌+◌, ◌%◌, ◌⊎◌, ℕ, ◌∷◌, sym, refl, ap, ◌∙◌, subst, inl, inr, ⊎_elim}
use Rattle.cycle_workers.specs.activation.specs.declared.takens.Seat.{Seat}
use Rattle.cycle_workers.specs.activation.specs.Rule.{has}
use Rattle.cycle_workers.specs.activation.specs.Plays.{without}
use Rattle.cycle_workers.specs.activation.specs.Seats.{Sits}
use Rattle.cycle_workers.specs.activation.specs.Takens.{AreBetween}
use Rattle.cycle_workers.specs.activation.proofs.Looking.{none_between}
use Rattle.cycle_workers.specs.Runs.{HaveRoom}
use Rattle.cycle_workers.proofs.Going.{Shared, shared_skip}
use Rattle.steal_workers.specs.declared.ends.Deque.{Deque}
use Rattle.steal_workers.specs.Steals.{KeepsDeque, IsOffered}
use Rattle.steal_workers.proofs.Offered.{aside, started_none, started_some, offered_between, deque_stays}
use Rattle.steal_workers.proofs.stealing.start.Goals as goal
use Rattle.steal_workers.proofs.stealing.start.Goals.{then-node-count+in-Some, then-node-count+in_default, else-node-count}

pub loop-node-init : goal.loop-node-init
loop-node-init g c =
    let fresh = c.requires.fresh in record {
      number = refl;
      sits = c.requires.seat;
      shared = record {
        links_stay = refl;
        before_stays = refl;
        none_held = ap (λ d. d.held) fresh;
        none_left = refl;
        below_started = λ n low mine. absurd (omega (arith, low));
        above = λ n h. ap (λ d. has d.started n) fresh;
      };
      left = none_between 0 c.args.crew.now.nodes c.args.seat.now.token.me.0.duty.left (ap (λ d. d.left) fresh);
      deque = record { same = refl; parts = refl };
    }

pub start-requires-clause-node : goal.start-requires-clause-node
start-requires-clause-node g c κs within =
    let test = c.loop-node-test.true in
    (omega (arith, test, c.nodes-node-end.ensures), ap (λ k. c.loop-node.node % k) (sym c.requires.count) ∙ (c.if-node-count.true ∙ c.number.ensures), c.loop-node.invariant.shared.above c.loop-node.node (omega arith))

pub offer-requires-clause-room : goal.offer-requires-clause-room
offer-requires-clause-room g c κs within =
    let some = c.in-Some.ensures.some in
    subst (HaveRoom g.B.Work.has_room c.args.crew.now.links.items) (sym (ap (λ d. d.before) some.2 ∙ c.loop-node.invariant.shared.before_stays)) c.requires.room

pub loop-node-preserved : goal.loop-node-preserved
loop-node-preserved g c =
    let crew = c.args.crew.now in
    let old = c.args.seat.now.token.me.0.duty in
    let d = c.loop-node.seat.token.me.0.duty in
    let node : ℕ = c.loop-node.node in
    let own : ℕ = c.args.seat.now.number in
    let i = c.loop-node.invariant in
    let test = c.loop-node-test.true in
    let low : node < crew.nodes = omega (arith, test, c.nodes-node-end.ensures) in
    let P : Seat g.row.B.Denot g.row.B-Value.Denot g.row.B-Memory.Denot × Deque → Type 0 = λ z. record {
      number : z.0.number ≡ own;
      sits : Sits crew.board.shared.table_id crew.links.items crew.nodes crew.seats z.0.number z.0.token;
      shared : Shared c.args.count own (node + 1) old (aside z.0.token.me.0.duty);
      left : AreBetween 0 crew.nodes z.0.token.me.0.duty.left;
      deque : KeepsDeque c.args.deque.now z.1;
    } in
    elim c.if-node-count.branch [
      | then-node-count+in-Some w ↦
          let mid = w.start.new.seat.token.me.0.duty in
          let new = w.offer.new.seat.token.me.0.duty in
          let some = w.in-Some.ensures.some in
          let lefts : mid.left ≡ d.left = ap (λ e. e.left) some.2 in
          subst P (λ j. (sym w.seat-is j, sym w.deque-is j)) record {
            number = w.offer.ensures.seat.0 ∙ (w.in-Some.ensures.seat.0 ∙ i.number);
            sits = w.offer.ensures.seat.1;
            shared = started_some c.args.count own crew.links.items node old d mid new some.1 some.2 (subst (λ (n : ℕ). IsOffered crew.links.items n mid new) some.0 w.offer.ensures.offered) i.shared;
            left = offered_between crew.nodes node mid.left new.left low
                (subst (λ (n : ℕ). (new.left ≡ n ∷ mid.left) ⊎ (new.left ≡ without n mid.left)) some.0 (⊎_elim (λ (y : _ × (new.left ≡ w.in-Some.taken.node ∷ mid.left)). inl y.1) (λ (y : _ × (new.left ≡ without w.in-Some.taken.node mid.left)). inr y.1) w.offer.ensures.left))
                (subst (AreBetween 0 crew.nodes) (sym lefts) i.left);
            deque = deque_stays c.args.deque.now c.loop-node.deque w.offer.new.deque i.deque w.offer.ensures.deque;
          }
      | then-node-count+in_default w ↦
          let new = w.start.new.seat.token.me.0.duty in
          let is = w.in_default.ensures.none refl in
          subst P (λ j. (sym w.seat-is j, sym w.deque-is j)) record {
            number = w.in_default.ensures.seat.0 ∙ i.number;
            sits = w.in_default.ensures.seat.1;
            shared = started_none c.args.count own node old d new is i.shared;
            left = subst (AreBetween 0 crew.nodes) (sym (ap (λ e. e.left) is)) i.left;
            deque = i.deque;
          }
      | else-node-count w ↦
          let ne : node % c.args.count ≢ own = λ e. w.if-node-count.false (e ∙ sym (c.number.ensures ∙ i.number)) in
          subst P (λ j. (sym w.seat-is j, sym w.deque-is j)) record {
            number = i.number;
            sits = i.sits;
            shared = shared_skip c.args.count own node old (aside d) ne i.shared;
            left = i.left;
            deque = i.deque;
          }
    ]

pub returns-clause-worked : goal.returns-clause-worked
returns-clause-worked g c =
    let i = c.loop-node.invariant in
    let s = i.shared in
    let not = c.loop-node-test.false in record {
      links_stay = s.links_stay;
      before_stays = s.before_stays;
      started_all = λ n low mine. s.below_started n (omega (arith, low, not, c.nodes-node-end.ensures)) (mine ∙ i.number);
      none_held = s.none_held;
      left = i.left;
    }
