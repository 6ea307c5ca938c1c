use Rattle.port_registry.specs.Registered.{open_clients}
use Rattle.client_seats.proofs.MemoryLemmas.{memory-fresh, memory-kept}
use Rattle.client_seats.proofs.SeatLemmas.{HasNoPast-after, count-same, owner-cases, same-bench}
use Rattle.client_seats.proofs.seating.seat.Goals as goal

pub returns-clause-count : goal.returns-clause-count
returns-clause-count g c = (count-same g.G.Guest.sound) (open_clients c.args.nodes.now) c.args.rack.now c.args.owners.now c.seat_all.new.rack c.seat_all.new.owners c.seat_all.ensures.moves

pub returns-clause-kept : goal.returns-clause-kept
returns-clause-kept g c = (memory-kept g.G.Guest.sound) (open_clients c.args.nodes.now) c.args.rack.now c.args.owners.now c.seat_all.new.rack c.seat_all.new.owners c.requires.seating c.seat_all.ensures.seating c.seat_all.ensures.moves

pub returns-clause-fresh : goal.returns-clause-fresh
returns-clause-fresh g c = (memory-fresh g.G.Guest.sound) (open_clients c.args.nodes.now) c.args.rack.now c.args.owners.now c.seat_all.new.rack c.seat_all.new.owners c.requires.seating c.seat_all.ensures.seating c.seat_all.ensures.moves

pub returns-clause-same_bench : goal.returns-clause-same_bench
returns-clause-same_bench g c = (same-bench g.G.Guest.sound) (open_clients c.args.nodes.now) c.args.rack.now c.args.owners.now c.seat_all.new.rack c.seat_all.new.owners c.requires.seating c.seat_all.ensures.moves

pub returns-clause-owners : goal.returns-clause-owners
returns-clause-owners g c = (owner-cases g.G.Guest.sound) (open_clients c.args.nodes.now) c.args.rack.now c.args.owners.now c.seat_all.new.rack c.seat_all.new.owners c.seat_all.ensures.moves

pub returns-clause-past : goal.returns-clause-past
returns-clause-past g c = (HasNoPast-after g.G.Guest.sound) (open_clients c.args.nodes.now) c.args.rack.now c.args.owners.now c.seat_all.new.rack c.seat_all.new.owners c.seat_all.ensures.moves c.requires.past
