use Rattle.rehearsal_laws.proofs.CaptureLemmas.{count, wave, writable}
use Rattle.rehearsal_laws.proofs.captures.rehearsal_is_a_wave.Goals as goal

pub returns-clause-count : goal.returns-clause-count
returns-clause-count c = count

pub returns-clause-writable : goal.returns-clause-writable
returns-clause-writable c = writable

pub returns-clause-wave : goal.returns-clause-wave
returns-clause-wave c = wave
