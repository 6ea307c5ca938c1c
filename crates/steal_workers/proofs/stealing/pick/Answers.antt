use Rattle.std.proofs.Common.{ℕ, sym, refl, ap, subst}
use Rattle.cycle_workers.specs.Runs.{HaveRoom}
use Rattle.steal_workers.specs.Steals.{IsOffered, LeavesAbove}
use Rattle.steal_workers.proofs.Offered.{picked_none, picked_some}
use Rattle.steal_workers.proofs.stealing.pick.Goals as goal

pub play-requires-clause-room : goal.play-requires-clause-room
play-requires-clause-room g c κs within = subst (HaveRoom g.B.Work.has_room c.args.crew.now.links.items) (sym (ap (λ d. d.before) c.in-Some.ensures.some.2)) c.requires.room

pub returns-in-Some-clause-picked : goal.returns-in-Some-clause-picked
returns-in-Some-clause-picked g c =
    let links = c.args.crew.now.links.items in
    let nodes : ℕ = c.args.crew.now.nodes in
    let mid = c.pick.new.seat.token.me.0.duty in
    let new = c.play.new.seat.token.me.0.duty in
    let some = c.in-Some.ensures.some in
    picked_some links c.args.node nodes c.args.seat.now.token.me.0.duty mid new some.1 some.2 (subst (λ (n : ℕ). IsOffered links n mid new) some.0 c.play.ensures.played) (subst (λ (n : ℕ). LeavesAbove n nodes mid.left new.left) some.0 c.play.ensures.left)

pub returns-in_default-clause-picked : goal.returns-in_default-clause-picked
returns-in_default-clause-picked g c = picked_none c.args.node c.args.crew.now.nodes c.args.seat.now.token.me.0.duty c.pick.new.seat.token.me.0.duty (c.in_default.ensures.none refl)
