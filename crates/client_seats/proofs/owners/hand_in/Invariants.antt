use Rattle.std.proofs.Common.{◌≡◌, map, take}
use Rattle.client_seats.proofs.owners.hand_in.Given as goal

abbrev pub invariant-loop-guest : goal.invariant-loop-guest
invariant-loop-guest g l = map (λ p. g.G.Guest.score p.1) l.handed.items ≡ map g.G.Guest.score (take l.guest-index l.guests)
