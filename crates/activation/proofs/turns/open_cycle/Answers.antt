use Rattle.std.proofs.Common.{rules}
use Rattle.activation.proofs.Begun.{begins_laid, begun_laid}
use Rattle.activation.proofs.turns.open_cycle.Goals as goal

pub load-requires : goal.load-requires
load-requires g c = (
  c.requires.seat.0,
  c.requires.seat.2,
  begins_laid g.B.Work.memory g.B.Work.has_room g.B.Work.after g.B.Work.gives c.args.board.now.shared.table_id.slots _ 0 c.args.seat.now.me c.requires.seat.1 c.requires.laid,
)

pub returns-clause-seat : goal.returns-clause-seat
returns-clause-seat g c = (search rules, (begun_laid c.args.board.now.shared.table_id.slots c.args.seat.now.me c.load.new.seat.me c.requires.seat.1 c.requires.laid c.load.ensures.2).0)

pub returns-clause-duty : goal.returns-clause-duty
returns-clause-duty g c = (begun_laid c.args.board.now.shared.table_id.slots c.args.seat.now.me c.load.new.seat.me c.requires.seat.1 c.requires.laid c.load.ensures.2).1
