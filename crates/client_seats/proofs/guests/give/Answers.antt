use Rattle.std.proofs.Common.{Some, ◌∙◌, ap, set}
use Rattle.port_registry.specs.Registered.{open_clients}
use Rattle.client_seats.proofs.GiveLemmas.{equipped-given}
use Rattle.client_seats.proofs.PlaceLemmas.{open_within}
use Rattle.client_seats.proofs.guests.give.Goals as goal

pub returns : goal.returns
returns g c = (equipped-given g.G.Guest.sound) (open_clients c.args.nodes.now) c.args.n c.args.rack.now c.args.owners.now c.equip.new.rack c.equip.new.owners c.set_owner.new.self c.args.place
    c.requires.seating (open_within c.args.nodes.now c.args.n c.requires.node) c.requires.place c.requires.nobody c.requires.kind c.requires.none c.requires.past c.equip.ensures
    (c.set_owner.ensures ∙ ap (λ birth. record c.equip.new.owners { births = set c.equip.new.owners.births c.args.place (Some birth) }) c.birth_of.ensures)
