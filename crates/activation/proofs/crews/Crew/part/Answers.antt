use Rattle.std.proofs.Common.{arith}
use Rattle.activation.specs.Contents.{IsFull, IsDone}
use Rattle.activation.proofs.Parting.{husks}
use Rattle.activation.proofs.crews.Crew.part.Goals as goal

pub split_seat-husk-requires : goal.split_seat-husk-requires
split_seat-husk-requires g c = (
  c.requires.0,
  omega (arith, c.args.self.now.shape.words),
  husks (IsFull g.B.Work.memory g.B.Work.has_room g.B.Work.after g.B.Work.gives) (IsDone g.B.Work.memory g.B.Work.has_room g.B.Work.after g.B.Work.gives) _ c.args.seat.now.token.me.0 c.requires.1.live c.requires.1.off,
)
