use Rattle.port_mixer.proofs.SumLemmas.{sums_of_none}
use Rattle.port_mixer.proofs.mixing.Mixer.clear.Goals as goal

pub returns-clause-parts : goal.returns-clause-parts
returns-clause-parts c = sums_of_none c.args.frames
