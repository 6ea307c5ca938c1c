use Rattle.session_laws.proofs.ExplainedLemmas.{Explained-serial}
use Rattle.session_laws.proofs.serial.serial_mode_is_explained.Goals as goal

pub returns : goal.returns
returns c = Explained-serial
