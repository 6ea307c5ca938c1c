use Rattle.std.proofs.Common.{◌<◌, arith}
use Rattle.std.proofs.lemmas.List.Elements.{All-from_get_or}
use Rattle.wave_laws.proofs.WaveFaults.{wave_or_fault}
use Rattle.wave_laws.proofs.waves.wave_or_fault.Goals as goal

pub returns : goal.returns
returns c = wave_or_fault c.args.bytes.now (All-from_get_or (λ b. b < 256) c.args.bytes.now 0 (λ i h. omega (arith, c.type_inv.bytes i)))
