use Rattle.serial_lanes.proofs.HistoryLemmas.{front-is}
use Rattle.serial_lanes.proofs.laws.front_of_history.Goals as goal

pub returns : goal.returns
returns c = front-is
