use Rattle.std.proofs.Common.{refl}
use Rattle.port_registry.specs.Registered.{open_clients}
use Rattle.client_seats.proofs.MovesLemmas.{Moves-trans}
use Rattle.client_seats.proofs.SeatLemmas.{HasNoPast-after}
use Rattle.client_seats.proofs.seating.seat_all.Goals as goal

pub returns-then-not-seat_one-clause-moves : goal.returns-then-not-seat_one-clause-moves
returns-then-not-seat_one-clause-moves g c = (Moves-trans g.G.Guest.sound) (open_clients c.args.nodes.now) c.args.rack.now c.args.owners.now c.loop-n.rack c.loop-n.owners c.seat_one.new.rack c.seat_one.new.owners
    c.loop-n.invariant.moves c.seat_one.ensures.moves c.seat_one.ensures.seating

pub loop-n-preserved : goal.loop-n-preserved
loop-n-preserved g c = record {
  seating = c.seat_one.ensures.seating;
  idle = c.seat_one.ensures.moves.idle c.loop-n.invariant.idle;
  past = (HasNoPast-after g.G.Guest.sound) (open_clients c.args.nodes.now) c.loop-n.rack c.loop-n.owners c.seat_one.new.rack c.seat_one.new.owners c.seat_one.ensures.moves c.loop-n.invariant.past;
  moves = (Moves-trans g.G.Guest.sound) (open_clients c.args.nodes.now) c.args.rack.now c.args.owners.now c.loop-n.rack c.loop-n.owners c.seat_one.new.rack c.seat_one.new.owners
      c.loop-n.invariant.moves c.seat_one.ensures.moves c.seat_one.ensures.seating;
  seated = c.if-not-seat_one.ensures.seated refl;
}
