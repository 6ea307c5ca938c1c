use Rattle.serial_lanes.proofs.TurnLemmas.{cycles_total}
use Rattle.serial_lanes.proofs.laws.cycles_of_phases.Goals as goal

pub returns : goal.returns
returns c = cycles_total
