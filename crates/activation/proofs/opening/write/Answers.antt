use Rattle.activation.specs.Contents.{IsFull, IsDone}
use Rattle.activation.proofs.Alone.{write_alone}
use Rattle.activation.proofs.opening.write.Goals as goal

pub store-requires : goal.store-requires
store-requires g c = (
  c.requires.seat.0,
  c.requires.word,
  write_alone (IsFull g.B.Work.memory g.B.Work.has_room g.B.Work.after g.B.Work.gives) (IsDone g.B.Work.memory g.B.Work.has_room g.B.Work.after g.B.Work.gives) _ _ c.args.seat.now.me c.args.word c.args.value c.requires.seat.1,
)
