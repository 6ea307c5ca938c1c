use Rattle.std.proofs.Common.{◌∙◌, sym}
use Rattle.client_seats.proofs.EquipLemmas.{equipped-lent, equipped-plain}
use Rattle.client_seats.proofs.PlaceLemmas.{pooled_within}
use Rattle.client_seats.proofs.guests.equip.Goals as goal

pub lend-requires-clause-number : goal.lend-requires-clause-number
lend-requires-clause-number g c = pooled_within c.args.owners.now.pool c.in-Guest.guest (c.requires.pool c.in-Guest.guest (sym c.in-Guest.ensures))

pub returns-in-Guest : goal.returns-in-Guest
returns-in-Guest g c = (equipped-lent g.G.Guest.sound) c.args.rack.now c.args.owners.now c.lend.new.rack c.lend.new.owners c.args.place c.in-Guest.guest c.requires.seating
    (sym c.in-Guest.ensures) (pooled_within c.args.owners.now.pool c.in-Guest.guest (c.requires.pool c.in-Guest.guest (sym c.in-Guest.ensures)))
    (c.requires.pool c.in-Guest.guest (sym c.in-Guest.ensures)) c.lend.ensures.rack c.lend.ensures.kind c.lend.ensures.period c.lend.ensures.score c.lend.ensures.memory c.lend.ensures.owners

pub returns-in_default : goal.returns-in_default
returns-in_default g c = (equipped-plain g.G.Guest.sound) c.args.rack.now c.args.owners.now c.args.place c.requires.seating c.requires.nobody (λ guest e. c.in_default.not-Guest guest (c.kind.ensures ∙ e))
