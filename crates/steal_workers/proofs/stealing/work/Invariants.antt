use Rattle.std.proofs.Common.{◌≡◌, Some}
use Rattle.steal_workers.specs.declared.places.Thief.{Thief}
use Rattle.steal_workers.specs.Places.{thief_of}
use Rattle.steal_workers.specs.Steals.{KeepsDeque}
use Rattle.steal_workers.specs.Crews.{facts_of}
use Rattle.steal_workers.specs.Works.{GoesOn}
use Rattle.steal_workers.proofs.stealing.work.Given as goal

abbrev pub invariant-loop : goal.invariant-loop
invariant-loop g l = record {
  deque : KeepsDeque l.fn.place.deque l.deque;
  behind : (before : Thief g.row.B.Denot g.row.B-Value.Denot g.row.B-Memory.Denot) → l.fn.place.thief ≡ Some before → GoesOn (facts_of l.crew) l.stealers before (thief_of l.seat l.passes);
}
