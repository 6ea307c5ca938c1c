use Rattle.table_lemmas.proofs.Readings.{inside}
use Rattle.activation.proofs.turns.take_tray.Goals as goal

pub put-requires-clause-slot : goal.put-requires-clause-slot
put-requires-clause-slot g c κs within = (c.requires.seat.2, inside c.args.seat.now.me.0.shelf.items c.args.node _ c.requires.bench.1)
