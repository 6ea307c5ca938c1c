use Rattle.serial_laws.proofs.CycledLemmas.{IsSound-cycled}
use Rattle.serial_laws.proofs.parts.the_driver_leaves_the_parts.Goals as goal

pub returns : goal.returns
returns c = λ session after sound left full cycled. IsSound-cycled session after sound full cycled
