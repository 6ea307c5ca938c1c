use Rattle.wave_laws.proofs.WaveWritten.{wave_text-wave}
use Rattle.wave_laws.proofs.waves.finished_wave.Goals as goal

pub returns : goal.returns
returns c = wave_text-wave c.args.format c.args.samples.now c.requires.format c.requires.samples c.fits.ensures
