use Rattle.std.proofs.lemmas.List.{map-set}
use Rattle.client_seats.proofs.owners.Owners.put.Goals as goal

pub returns : goal.returns
returns g c = rw (← c.self.view_is) (simp map-set)
