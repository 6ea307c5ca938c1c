use Rattle.port_registry.specs.Registered.{open_clients}
use Rattle.client_seats.proofs.PlaceLemmas.{open_within, within_open}
use Rattle.client_seats.proofs.TakeLemmas.{taken-back}
use Rattle.client_seats.proofs.guests.take_back.Goals as goal

pub returns : goal.returns
returns g c = (taken-back g.G.Guest.sound) (open_clients c.args.nodes.now) c.args.n c.args.rack.now c.args.owners.now c.give_up.new.rack c.give_up.new.owners c.args.place c.args.birth c.args.guest
    c.requires.seating c.requires.owner c.requires.kind c.requires.number (open_within c.args.nodes.now c.args.n c.requires.node) c.requires.asks
    (λ m h e. c.requires.other m (within_open c.args.nodes.now m h) e) c.give_up.ensures.rack c.give_up.ensures.owners
