use Rattle.wave_write.proofs.TapeLemmas.{kept_first, front_of_header}
use Rattle.wave_write.proofs.tape.WaveOut.start.Goals as goal

pub invariant_of-result : goal.invariant_of-result
invariant_of-result g c =
    kept_first c.args.format (g.W.Store.content c.args.store) (g.W.Store.content c.write_at.new.self) c.opening.result c.requires.format c.requires.empty c.opening.ensures c.in-Ok.ensures.bytes

pub returns-in-Err-clause-front : goal.returns-in-Err-clause-front
returns-in-Err-clause-front g c =
    front_of_header c.args.format (g.W.Store.content c.args.store) (g.W.Store.content c.write_at.new.self) c.opening.result c.in-Err.ensures.bytes.0 c.requires.empty c.opening.ensures c.in-Err.ensures.bytes.1 c.in-Err.ensures.bytes.2
