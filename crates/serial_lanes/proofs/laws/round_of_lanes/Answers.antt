use Rattle.serial_lanes.proofs.SerialLemmas.{round-makes}
use Rattle.serial_lanes.proofs.laws.round_of_lanes.Goals as goal

pub returns : goal.returns
returns c = round-makes
