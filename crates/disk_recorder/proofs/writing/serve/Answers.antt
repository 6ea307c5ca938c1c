use Rattle.std.proofs.Common.{arith}
use Rattle.disk_recorder.specs.Recordings.{Fails}
use Rattle.disk_recorder.proofs.Blocks.{on_err}
use Rattle.disk_recorder.proofs.Going.{fails_on}
use Rattle.disk_recorder.proofs.writing.serve.Goals as goal

pub overflow_add-count : goal.overflow_add-count
overflow_add-count g c = let written = c.loop.invariant.writes.count_is in let longer = c.pass.ensures.longer in let few = c.pass.ensures.few in omega arith

pub returns-in_err-pass-clause-err : goal.returns-in_err-pass-clause-err
returns-in_err-pass-clause-err g c =
    let l = c.loop in
    on_err c.from_residual.result (Fails c.args.consumer.now c.args.out.now c.pass.new.consumer c.pass.new.out)
    (fails_on l.count c.args.consumer.now l.consumer c.pass.new.consumer c.args.out.now l.out c.pass.new.out l.invariant.writes c.in_err-pass.ensures.err)
