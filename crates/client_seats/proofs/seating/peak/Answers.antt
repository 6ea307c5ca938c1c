use Rattle.std.proofs.Common.{◌∙◌, ap}
use Rattle.client_seats.specs.Seatings.{standing_at}
use Rattle.client_seats.proofs.MemoryLemmas.{peak-none, peak-owned}
use Rattle.client_seats.proofs.seating.peak.Goals as goal

pub returns-in-Some-clause-memory : goal.returns-in-Some-clause-memory
returns-in-Some-clause-memory g c = c.peak.ensures ∙ peak-owned c.args.rack.now c.args.owners.now c.requires c.in-Some.place c.args.birth c.in-Some.ensures.there.1

pub returns-in-None-clause-memory : goal.returns-in-None-clause-memory
returns-in-None-clause-memory g c = peak-none c.args.rack.now c.args.owners.now c.requires c.args.birth c.in-None.ensures.nowhere

pub returns-in-Some-clause-owned : goal.returns-in-Some-clause-owned
returns-in-Some-clause-owned g c = λ p h. c.peak.ensures ∙ ap (λ q. (standing_at c.args.rack.now q).memory.peak) (c.requires.apart c.in-Some.place p c.args.birth c.in-Some.ensures.there.1 h)
