use Rattle.run_laws.proofs.ListsLemmas.{is_taping-serial}
use Rattle.run_laws.proofs.serial.recorders_are_active_as_in_serial_mode.Goals as goal

pub returns : goal.returns
returns c = is_taping-serial
