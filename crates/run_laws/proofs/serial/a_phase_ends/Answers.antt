use Rattle.run_laws.proofs.SerialLemmas.{SerialBehind-phase}
use Rattle.run_laws.proofs.serial.a_phase_ends.Goals as goal

pub returns : goal.returns
returns c = SerialBehind-phase c.desk_by_phases.ensures.last
