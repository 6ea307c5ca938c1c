use Rattle.std.proofs.Common.{refl, sym, ◌∙◌}
use Rattle.port_registry.specs.Registered.{open_clients}
use Rattle.client_seats.specs.Seatings.{NoBench}
use Rattle.client_seats.proofs.MovesLemmas.{Moves-trans}
use Rattle.client_seats.proofs.PlaceLemmas.{open_within}
use Rattle.client_seats.proofs.SeatLemmas.{HasNoPast-after}
use Rattle.client_seats.proofs.seating.ready.Goals as goal

pub returns-then-not-fetch-clause-refused : goal.returns-then-not-fetch-clause-refused
returns-then-not-fetch-clause-refused g c = c.if-not-fetch.ensures.refused refl

pub give-requires-clause-past : goal.give-requires-clause-past
give-requires-clause-past g c = (HasNoPast-after g.G.Guest.sound) (open_clients c.args.nodes.now) c.args.rack.now c.args.owners.now c.fetch.new.rack c.fetch.new.owners c.fetch.ensures.moves c.requires.past

pub returns-in-Some-clause-moves : goal.returns-in-Some-clause-moves
returns-in-Some-clause-moves g c = (Moves-trans g.G.Guest.sound) (open_clients c.args.nodes.now) c.args.rack.now c.args.owners.now c.fetch.new.rack c.fetch.new.owners c.give.new.rack c.give.new.owners
    c.fetch.ensures.moves c.give.ensures.moves c.give.ensures.seating

pub returns-in-None-clause-refused : goal.returns-in-None-clause-refused
returns-in-None-clause-refused g c = NoBench c.args.n (open_within c.args.nodes.now c.args.n c.requires.node) c.fetch.ensures.none
    (λ p h e. c.in-None.ensures.nowhere p h (e ∙ sym c.kind_of.ensures))
