use Rattle.client_seats.proofs.SwapLemmas.{brought}
use Rattle.client_seats.proofs.seating.bring.Goals as goal

pub returns : goal.returns
returns g c = (brought g.G.Guest.sound) c.args.rack.now c.args.owners.now c.swap.new.self c.swap-2.new.self c.args.from c.args.to c.requires.seating c.requires.from c.requires.to c.swap.ensures c.swap-2.ensures
