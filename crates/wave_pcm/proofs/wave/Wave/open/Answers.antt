use Rattle.wave_pcm.proofs.FrameLemmas.{opened_fault, opened_lawful, opened_wave}
use Rattle.wave_pcm.proofs.wave.Wave.open.Goals as goal

pub returns-in-Ok-clause-wave : goal.returns-in-Ok-clause-wave
returns-in-Ok-clause-wave g c = opened_wave (g.S.Source.left c.args.source) (g.S.Source.left c.read_header.new.source) c.in-Ok.format c.in-Ok.size c.in-Ok.ensures.opens

pub returns-in-Ok-clause-lawful : goal.returns-in-Ok-clause-lawful
returns-in-Ok-clause-lawful g c = opened_lawful (g.S.Source.left c.args.source) (g.S.Source.left c.read_header.new.source) c.in-Ok.format c.in-Ok.size c.in-Ok.ensures.opens

pub returns-in-Err-clause-fault : goal.returns-in-Err-clause-fault
returns-in-Err-clause-fault g c = λ other. opened_fault (g.S.Source.left c.args.source) c.in-Err.fault (c.in-Err.ensures.fails other)
