use Rattle.session_laws.proofs.SerialLawfulLemmas.{serial-is_legal, serial-has_cycles}
use Rattle.session_laws.proofs.SerialLossLemmas.{Lost-serial}
use Rattle.session_laws.proofs.serial.serial_meaning_is_legal.Goals as goal

pub returns : goal.returns
returns c = record { history = serial-is_legal; numbers = serial-has_cycles; overruns = Lost-serial }
