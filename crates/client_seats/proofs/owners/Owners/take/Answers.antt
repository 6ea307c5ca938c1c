use Rattle.std.proofs.lemmas.List.{map-set}
use Rattle.client_seats.proofs.owners.Owners.take.Goals as goal

pub returns-clause-after : goal.returns-clause-after
returns-clause-after g c = rw (← c.self.view_is) (simp (c.take.ensures.after, map-set))
