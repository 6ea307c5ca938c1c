use Rattle.wave_laws.proofs.WaveSamples.{samples_of-bytes_of}
use Rattle.wave_laws.proofs.waves.stored_samples.Goals as goal

pub returns : goal.returns
returns c = samples_of-bytes_of c.args.bits c.args.samples.now c.requires c.fits.ensures
