use Rattle.std.proofs.Common.{arith, ◌≡◌, ℕ, sym, ap, ◌∙◌, subst}
use Rattle.cycle_workers.specs.activation.specs.Takens.{with_left}
use Rattle.cycle_workers.specs.activation.proofs.Waiting.{unplayed_low}
use Rattle.cycle_workers.specs.Runs.{IsRun}
use Rattle.steal_workers.specs.Steals.{IsOffered}
use Rattle.steal_workers.proofs.Offered.{ran}
use Rattle.steal_workers.proofs.stealing.offer.Goals as goal

pub pick-requires-clause-node : goal.pick-requires-clause-node
pick-requires-clause-node g c κs within =
    let low = unplayed_low g.B.Work.memory g.B.Work.has_room g.B.Work.value_at g.B.Work.after g.B.Work.gives c.args.seat.now.token.me.0.duty c.args.taken.node c.args.taken.tray c.requires.taken in
    omega (arith, low, c.requires.seat.at.same_nodes, c.node-node.ensures)

pub returns-in-Some-clause-offered : goal.returns-in-Some-clause-offered
returns-in-Some-clause-offered g c =
    let links = c.args.crew.now.links.items in
    let old = c.args.seat.now.token.me.0.duty in
    let mid = c.leave.new.seat.token.me.0.duty in
    let picked = c.pick.new.seat.token.me.0.duty in
    let new = c.run.new.seat.token.me.0.duty in
    let node : ℕ = c.node-node.result in
    let at : node ≡ c.args.taken.node = c.node-node.ensures in
    let some = c.in-Some.ensures.some in
    subst (λ (n : ℕ). IsOffered links n old new) at
    (ran links node old mid picked new (c.leave.ensures.left ∙ ap (with_left old) (sym at)) some.1 some.2 (subst (λ (n : ℕ). IsRun links n picked new) some.0 c.run.ensures.run))
