use Rattle.disk_recorder.proofs.Going.{fails_break}
use Rattle.disk_recorder.proofs.writing.finish.Goals as goal

pub returns-in-Err-clause-err : goal.returns-in-Err-clause-err
returns-in-Err-clause-err g c = fails_break c.args.consumer.now c.rest.new.consumer c.args.out c.rest.new.out (g.W.Store.content c.stop.result) c.stop.ensures.bytes c.in-Err.ensures.err
