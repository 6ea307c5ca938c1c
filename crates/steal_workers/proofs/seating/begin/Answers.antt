use Rattle.std.proofs.Common.{rules, ◌≡◌, ◌<◌, ℕ, List, length, get_or, Some, subst}
use Rattle.std.specs.Global.{Vec, Global}
use Rattle.crossbeam_deque.specs.Handles.{Pass}
use Rattle.cycle_workers.specs.activation.specs.declared.takens.Seat.{Seat}
use Rattle.steal_workers.specs.declared.tallies.Tally.{Tally}
use Rattle.steal_workers.specs.declared.places.Place.{Place}
use Rattle.steal_workers.specs.Places.{Paired, Lends, thief_of}
use Rattle.steal_workers.proofs.Changing.{written}
use Rattle.steal_workers.proofs.Seated.{took_places}
use Rattle.steal_workers.proofs.seating.begin.Goals as goal

pub returns-clause-places : goal.returns-clause-places
returns-clause-places g c =
    let old = c.args.places.now in
    let mid = c.open.new.places in
    let rows = c.open.new.passes in
    let many : length rows ≡ length old = search rules in
    let was : length c.as_mut_slice.result.now ≡ length rows = search rules in
    let is = written c.args.passes.now.len c.args.passes.now.items rows (search rules) in
    took_places old mid c.sit.new.places c.args.seats.now.items rows many (subst (λ n. Paired (Lends n) old mid) was c.open.ensures.places) c.open.ensures.passes c.sit.auto.places
    (subst (λ (all : List (Vec (Pass ℕ Tally Global))). (k : ℕ) (place : Place g.row.B.Denot g.row.B-Value.Denot g.row.B-Memory.Denot) (seat : Seat g.row.B.Denot g.row.B-Value.Denot g.row.B-Memory.Denot) (row : Vec (Pass ℕ Tally Global)) → k < length mid → get_or c.sit.new.places k place ≡ record (get_or mid k place) { thief = Some (thief_of (get_or c.args.seats.now.items k seat) (get_or all k row)) }) is c.sit.ensures.places)
