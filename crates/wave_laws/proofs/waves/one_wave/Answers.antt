use Rattle.wave_laws.proofs.WaveFaults.{wave-same}
use Rattle.wave_laws.proofs.waves.one_wave.Goals as goal

pub returns : goal.returns
returns c = wave-same c.args.bytes.now
