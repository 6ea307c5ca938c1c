use Rattle.serial_laws.proofs.ReelLemmas.{SerialRings-begun}
use Rattle.serial_laws.proofs.rings.a_phase_begins_with_the_blocks.Goals as goal

pub returns : goal.returns
returns c = SerialRings-begun
