use Rattle.std.proofs.Common.{arith, ◌≡◌, ◌+◌, ℕ, sym, refl, ap, ◌∙◌, subst}
use Rattle.cycle_workers.specs.activation.specs.declared.takens.Seat.{Seat}
use Rattle.cycle_workers.specs.activation.specs.Seats.{Sits}
use Rattle.cycle_workers.specs.Runs.{HaveRoom, IsRun}
use Rattle.steal_workers.proofs.Offered.{Sweeping, swept_none, swept_some, swept_all}
use Rattle.steal_workers.proofs.stealing.sweep.Goals as goal
use Rattle.steal_workers.proofs.stealing.sweep.Goals.{in-Some, in_default}

pub run-requires-clause-room : goal.run-requires-clause-room
run-requires-clause-room g c κs within = subst (HaveRoom g.B.Work.has_room c.args.crew.now.links.items) (sym (ap (λ d. d.before) c.in-Some.ensures.some.2 ∙ c.loop-node.invariant.sweeping.before_stays)) c.requires.room

pub loop-node-preserved : goal.loop-node-preserved
loop-node-preserved g c =
    let crew = c.args.crew.now in
    let old = c.args.seat.now.token.me.0.duty in
    let d = c.loop-node.seat.token.me.0.duty in
    let mid = c.pick.new.seat.token.me.0.duty in
    let node : ℕ = c.loop-node.node in
    let i = c.loop-node.invariant in
    let P : Seat g.row.B.Denot g.row.B-Value.Denot g.row.B-Memory.Denot → Type 0 = λ z. record {
      number : z.number ≡ c.args.seat.now.number;
      sits : Sits crew.board.shared.table_id crew.links.items crew.nodes crew.seats z.number z.token;
      sweeping : Sweeping crew.nodes (node + 1) old z.token.me.0.duty;
    } in
    elim c.match-pick.branch [
      | in-Some w ↦
          let some = w.in-Some.ensures.some in
          let new = w.run.new.seat.token.me.0.duty in
          subst P (sym w.seat-is) record {
            number = w.run.ensures.seat.0 ∙ (w.in-Some.ensures.seat.0 ∙ i.number);
            sits = w.run.ensures.seat.1;
            sweeping = swept_some crew.links.items crew.nodes node old d mid new some.1 some.2 (subst (λ (n : ℕ). IsRun crew.links.items n mid new) some.0 w.run.ensures.run) i.sweeping;
          }
      | in_default w ↦
          subst P (sym w.seat-is) record {
            number = w.in_default.ensures.seat.0 ∙ i.number;
            sits = w.in_default.ensures.seat.1;
            sweeping = swept_none crew.nodes node old d mid (w.in_default.ensures.none refl) i.sweeping;
          }
    ]

pub returns-clause-swept : goal.returns-clause-swept
returns-clause-swept g c =
    let not = c.loop-node-test.false in
    swept_all c.args.crew.now.nodes c.loop-node.node c.args.seat.now.token.me.0.duty c.loop-node.seat.token.me.0.duty (omega (arith, not, c.nodes-node-end.ensures)) c.loop-node.invariant.sweeping
