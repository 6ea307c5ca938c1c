use Rattle.std.proofs.Common.{arith, ◌<◌, sym, subst}
use Rattle.activation.specs.Contents.{IsFull, IsDone}
use Rattle.activation.proofs.Acting.{pick_from}
use Rattle.activation.proofs.crews.Crew.pick.Goals as goal

pub swap-found-requires : goal.swap-found-requires
swap-found-requires g c =
    let sits = c.requires.seat in
    let word = c.left_word-word.ensures in (
      sits.at.table,
      word.1,
      pick_from (IsFull g.B.Work.memory g.B.Work.has_room g.B.Work.after g.B.Work.gives) (IsDone g.B.Work.memory g.B.Work.has_room g.B.Work.after g.B.Work.gives) _ _ c.args.seat.now.token.me c.left_word-word.result c.args.node c.args.seat.now.number c.args.self.now.seats
          sits.at.idle sits.shares sits.few sits.same_seats (subst (λ n. c.args.node < n) (sym sits.at.same_nodes) c.requires.node) (omega (arith, word.0, sits.at.same_nodes)),
    )
