use Rattle.wave_laws.proofs.WaveWritten.{opening-wave}
use Rattle.wave_laws.proofs.waves.unfinished_wave.Goals as goal

pub returns : goal.returns
returns c = opening-wave c.args.format c.args.rest.now c.requires
