use Rattle.std.proofs.Common.{rules}
use Rattle.wave_write.proofs.TapeLemmas.{samples_more, unfinished_more}
use Rattle.wave_write.proofs.tape.WaveOut.put.Goals as goal

pub returns-clause-samples : goal.returns-clause-samples
returns-clause-samples g c = samples_more c.put_all.result c.args.self.now c.put_all.new.self c.args.samples.now c.put_all.ensures.file c.put_all.ensures.gained (search rules)

pub returns-clause-front : goal.returns-clause-front
returns-clause-front g c = unfinished_more c.put_all.result c.args.self.now c.put_all.new.self c.args.samples.now c.put_all.ensures.part
