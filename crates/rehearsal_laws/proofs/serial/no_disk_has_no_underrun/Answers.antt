use Rattle.std.proofs.Common.{refl}
use Rattle.rehearsal_model.specs.Rehearsals.{rehearsal}
use Rattle.rehearsal_laws.proofs.SerialLemmas.{no-underruns}
use Rattle.rehearsal_laws.proofs.serial.no_disk_has_no_underrun.Goals as goal

pub returns-clause-each : goal.returns-clause-each
returns-clause-each c = no-underruns

pub returns-clause-rehearsals : goal.returns-clause-rehearsals
returns-clause-rehearsals c n = no-underruns (rehearsal n) refl
