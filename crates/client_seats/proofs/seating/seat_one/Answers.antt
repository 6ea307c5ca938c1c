use Rattle.std.proofs.Common.{arith}
use Rattle.port_registry.specs.Registered.{open_clients}
use Rattle.client_seats.proofs.MovesLemmas.{Moves-trans}
use Rattle.client_seats.proofs.PlaceLemmas.{open_within}
use Rattle.client_seats.proofs.SeatLemmas.{bench-behind, bench-within, seated-more}
use Rattle.client_seats.proofs.seating.seat_one.Goals as goal

pub bring-requires-clause-from : goal.bring-requires-clause-from
bring-requires-clause-from g c = bench-within (open_clients c.args.nodes.now) c.find_bench.new.rack c.find_bench.new.owners c.args.n c.in-Some.place c.find_bench.ensures.seating c.in-Some.ensures.there

pub bring-requires-clause-to : goal.bring-requires-clause-to
bring-requires-clause-to g c = omega (
  arith,
  bench-within (open_clients c.args.nodes.now) c.find_bench.new.rack c.find_bench.new.owners c.args.n c.in-Some.place c.find_bench.ensures.seating c.in-Some.ensures.there,
  bench-behind (open_clients c.args.nodes.now) c.find_bench.new.rack c.find_bench.new.owners c.args.n c.in-Some.place (open_within c.args.nodes.now c.args.n c.requires.node) c.requires.apart
      (λ m lt. c.find_bench.ensures.seated m m (omega (arith, lt, c.requires.node)) (c.requires.lower m lt)) c.in-Some.ensures.there,
)

pub returns-in-Some-clause-moves : goal.returns-in-Some-clause-moves
returns-in-Some-clause-moves g c = (Moves-trans g.G.Guest.sound) (open_clients c.args.nodes.now) c.args.rack.now c.args.owners.now c.find_bench.new.rack c.find_bench.new.owners c.bring.new.rack c.bring.new.owners
    c.find_bench.ensures.moves (c.bring.ensures.moves (open_clients c.args.nodes.now)) c.bring.ensures.seating

pub returns-in-Some-clause-seated : goal.returns-in-Some-clause-seated
returns-in-Some-clause-seated g c = λ _. (seated-more g.G.Guest.sound) (open_clients c.args.nodes.now) c.find_bench.new.rack c.find_bench.new.owners c.bring.new.rack c.bring.new.owners c.args.n c.in-Some.place
    (bench-behind (open_clients c.args.nodes.now) c.find_bench.new.rack c.find_bench.new.owners c.args.n c.in-Some.place (open_within c.args.nodes.now c.args.n c.requires.node) c.requires.apart
    (λ m lt. c.find_bench.ensures.seated m m (omega (arith, lt, c.requires.node)) (c.requires.lower m lt)) c.in-Some.ensures.there)
    c.bring.ensures (λ m lt. c.find_bench.ensures.seated m m (omega (arith, lt, c.requires.node)) (c.requires.lower m lt)) c.in-Some.ensures.there
