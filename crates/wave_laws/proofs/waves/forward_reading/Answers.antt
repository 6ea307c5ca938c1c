use Rattle.std.proofs.Common.{◌<◌, arith}
use Rattle.std.proofs.lemmas.List.Elements.{All-from_get_or}
use Rattle.wave_laws.proofs.WaveForward.{fault_in-opened, wave-opened}
use Rattle.wave_laws.proofs.waves.forward_reading.Goals as goal

pub returns : goal.returns
returns c =
    record {
      fault = fault_in-opened c.args.bytes.now (All-from_get_or (λ b. b < 256) c.args.bytes.now 0 (λ i h. omega (arith, c.type_inv.bytes i)));
      wave = λ told e. wave-opened c.args.bytes.now told (All-from_get_or (λ b. b < 256) c.args.bytes.now 0 (λ i h. omega (arith, c.type_inv.bytes i))) e;
    }
