use Rattle.std.proofs.Common.{arith, ◌<◌, sym, subst}
use Rattle.activation.specs.Contents.{IsFull, IsDone}
use Rattle.activation.proofs.Acting.{start_from}
use Rattle.activation.proofs.crews.Crew.start.Goals as goal

pub fetch_sub-found-requires : goal.fetch_sub-found-requires
fetch_sub-found-requires g c =
    let sits = c.requires.seat in
    let shape = c.args.self.now.shape in
    let node = c.requires.node in (
      sits.at.table,
      omega (arith, node.0, shape.words),
      start_from (IsFull g.B.Work.memory g.B.Work.has_room g.B.Work.after g.B.Work.gives) (IsDone g.B.Work.memory g.B.Work.has_room g.B.Work.after g.B.Work.gives) _ _ c.args.seat.now.token.me c.args.node c.args.seat.now.number c.args.self.now.seats
          sits.at.idle sits.shares sits.few sits.same_seats node.1 (subst (λ n. c.args.node < n) (sym sits.at.same_nodes) node.0) node.2,
    )
