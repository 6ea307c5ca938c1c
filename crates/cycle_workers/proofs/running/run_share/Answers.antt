use Rattle.std.proofs.Common.{arith, ◌≡◌, ◌≢◌, ◌+◌, ◌%◌, ℕ, sym, ap, ◌∙◌, subst, refl}
use Rattle.activation.specs.declared.takens.Seat.{Seat}
use Rattle.activation.specs.Rule.{has}
use Rattle.activation.specs.Seats.{Sits}
use Rattle.cycle_workers.specs.Runs.{HaveRoom, IsRun}
use Rattle.cycle_workers.proofs.Going.{Shared, shared_skip, shared_none, shared_some}
use Rattle.cycle_workers.proofs.running.run_share.Goals as goal
use Rattle.cycle_workers.proofs.running.run_share.Goals.{then-node-count+in-Some, then-node-count+in_default, else-node-count}

pub loop-node-init : goal.loop-node-init
loop-node-init g c =
    let fresh = c.requires.fresh in (
      refl,
      c.requires.seat,
      record {
        links_stay = refl;
        before_stays = refl;
        none_held = ap (λ d. d.held) fresh;
        none_left = ap (λ d. d.left) fresh;
        below_started = λ n low mine. absurd (omega (arith, low));
        above = λ n h. ap (λ d. has d.started n) fresh;
      },
    )

pub start-requires-clause-node : goal.start-requires-clause-node
start-requires-clause-node g c κs within =
    let test = c.loop-node-test.true in
    (omega (arith, test, c.nodes-node-end.ensures), ap (λ k. c.loop-node.node % k) (sym c.requires.count) ∙ (c.if-node-count.true ∙ c.number.ensures), c.loop-node.invariant.2.above c.loop-node.node (omega arith))

pub run-requires-clause-room : goal.run-requires-clause-room
run-requires-clause-room g c κs within =
    let some = c.in-Some.ensures.some in
    subst (HaveRoom g.B.Work.has_room c.args.crew.now.links.items) (sym (ap (λ d. d.before) some.2 ∙ c.loop-node.invariant.2.before_stays)) c.requires.room

pub loop-node-preserved : goal.loop-node-preserved
loop-node-preserved g c =
    let old = c.args.seat.now.token.me.0.duty in
    let node : ℕ = c.loop-node.node in
    let number : ℕ = c.args.seat.now.number in
    let i = c.loop-node.invariant in
    let P : Seat g.row.B.Denot g.row.B-Value.Denot g.row.B-Memory.Denot → Type 0 = λ z.
    (z.number ≡ number)
    × Sits c.args.crew.now.board.shared.table_id c.args.crew.now.links.items c.args.crew.now.nodes c.args.crew.now.seats z.number z.token
    × Shared c.args.count number (node + 1) old z.token.me.0.duty in
    elim c.if-node-count.branch [
      | then-node-count+in-Some w ↦
          let some = w.in-Some.ensures.some in
          subst P (sym w.seat-is) (
            w.run.ensures.seat.0 ∙ (w.in-Some.ensures.seat.0 ∙ i.0),
            w.run.ensures.seat.1,
            shared_some c.args.count number c.args.crew.now.links.items node old c.loop-node.seat.token.me.0.duty w.start.new.seat.token.me.0.duty w.run.new.seat.token.me.0.duty some.1 some.2
                (subst (λ n. IsRun c.args.crew.now.links.items n w.start.new.seat.token.me.0.duty w.run.new.seat.token.me.0.duty) some.0 w.run.ensures.run) i.2,
          )
      | then-node-count+in_default w ↦
          subst P (sym w.seat-is) (
            w.in_default.ensures.seat.0 ∙ i.0,
            w.in_default.ensures.seat.1,
            shared_none c.args.count number node old c.loop-node.seat.token.me.0.duty w.start.new.seat.token.me.0.duty (w.in_default.ensures.none refl) i.2,
          )
      | else-node-count w ↦
          let ne : node % c.args.count ≢ number = λ e. w.if-node-count.false (e ∙ sym (c.number.ensures ∙ i.0)) in
          subst P (sym w.seat-is) (i.0, i.1, shared_skip c.args.count number node old c.loop-node.seat.token.me.0.duty ne i.2)
    ]

pub returns-clause-run : goal.returns-clause-run
returns-clause-run g c =
    let s = c.loop-node.invariant.2 in
    let not = c.loop-node-test.false in record {
      links_stay = s.links_stay;
      before_stays = s.before_stays;
      started_all = λ n low mine. s.below_started n (omega (arith, low, not, c.nodes-node-end.ensures)) (mine ∙ c.loop-node.invariant.0);
      none_held = s.none_held;
      none_left = s.none_left;
    }
