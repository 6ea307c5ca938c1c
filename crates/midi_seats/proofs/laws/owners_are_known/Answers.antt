use Rattle.midi_seats.proofs.KnownLemmas.{known-all, known-first, known-later, known-some}
use Rattle.midi_seats.proofs.laws.owners_are_known.Goals as goal

pub returns-clause-first : goal.returns-clause-first
returns-clause-first c changes kinds benches made none = known-first changes kinds benches made none

pub returns-clause-later : goal.returns-clause-later
returns-clause-later c front changes kinds benches is known = known-later front changes kinds benches is known

pub returns-clause-all : goal.returns-clause-all
returns-clause-all c plan kinds seats before after planned known all = known-all plan kinds seats before after planned known all

pub returns-clause-some : goal.returns-clause-some
returns-clause-some c plan kinds seats before after planned known some = known-some plan kinds seats before after planned known some
