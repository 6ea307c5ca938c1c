use Rattle.std.proofs.Common.{rules, arith, ◌≡◌, ◌≤◌, ◌<◌, ℕ, List, [], length, get_or, All, None, vec_capacity, sym, ap, ◌∙◌, subst}
use Rattle.std.proofs.lemmas.List.{length-map}
use Rattle.std.specs.Global.{Global, Vec}
use Rattle.crossbeam_deque.specs.Handles.{Pass}
use Rattle.cycle_workers.specs.activation.specs.declared.takens.Seat.{Seat}
use Rattle.cycle_workers.specs.activation.specs.Ends.{AreEnded}
use Rattle.cycle_workers.specs.activation.specs.Rounds.{AreSeats, HavePlayed, Know}
use Rattle.cycle_workers.specs.activation.proofs.Ended.{all_ended}
use Rattle.steal_workers.specs.declared.tallies.Tally.{Tally}
use Rattle.steal_workers.specs.declared.places.Place.{Place}
use Rattle.steal_workers.specs.Crews.{facts_of}
use Rattle.steal_workers.specs.Tallies.{HasAll, IsEven}
use Rattle.steal_workers.specs.Deques.{tally_of, SameDeque}
use Rattle.steal_workers.specs.Works.{IsAtWork, WorksOn}
use Rattle.steal_workers.specs.Thefts.{AreEmpty, IsEmpty, tallies_of}
use Rattle.steal_workers.proofs.Changing.{all_map, written, paired_map}
use Rattle.steal_workers.proofs.Tallied.{holds_none}
use Rattle.steal_workers.proofs.Cycled.{Reach, IsAtRest, HaveRisen, as_many, seated, are_ready, are_at_work, worked, reach_stays, reach_on, may_leave, may_sweep, cycled, are_seats, have_played, know_still}
use Rattle.steal_workers.proofs.cycling.steal_cycle.Goals as goal

pub begin-requires-clause-counts : goal.begin-requires-clause-counts
begin-requires-clause-counts g c κs within =
    let there = c.as_mut_slice-places.ensures.value in (
      as_many (facts_of c.args.crew.now) c.args.seats.now.items c.thieves.inside.places.items c.as_mut_slice-places.result.now c.requires.all there (ap length c.thieves.view_is ∙ c.requires.deques),
      c.thieves.invariant.room.0 ∙ sym (ap length there),
    )

pub start_all-requires-clause-ready : goal.start_all-requires-clause-ready
start_all-requires-clause-ready g c κs within =
    let crew = facts_of c.args.crew.now in
    let seats = seated g.B.Work.has_room crew c.thieves.inside.stealers.items c.args.seats.now.items c.thieves.inside.places.items c.as_mut_slice-places.result.now c.begin.new.places c.thieves.inside.passes.items
    c.thieves.invariant c.as_mut_slice-places.ensures.value (ap length c.thieves.view_is ∙ c.requires.deques) c.requires.all c.requires.fresh c.begin.auto.places c.begin.ensures.places in
    are_ready seats c.as_slice.result.now c.as_slice.ensures.value

pub start_all-requires-clause-count : goal.start_all-requires-clause-count
start_all-requires-clause-count g c κs within =
    let places = c.thieves.inside.places.items in
    let deques = sym (length-map places (λ (p : Place g.row.B.Denot g.row.B-Value.Denot g.row.B-Memory.Denot). tally_of p.deque)) ∙ (ap length c.thieves.view_is ∙ c.requires.deques) in
    ap length c.as_slice.ensures.value ∙ (sym c.thieves.invariant.reached.0 ∙ deques)

pub for_each_mut-requires-clause-accepts : goal.for_each_mut-requires-clause-accepts
for_each_mut-requires-clause-accepts g c κs within i p low is =
    let crew = facts_of c.args.crew.now in
    let D : Type 0 = Place g.row.B.Denot g.row.B-Value.Denot g.row.B-Memory.Denot in
    let seats = seated g.B.Work.has_room crew c.thieves.inside.stealers.items c.args.seats.now.items c.thieves.inside.places.items c.as_mut_slice-places.result.now c.begin.new.places c.thieves.inside.passes.items
    c.thieves.invariant c.as_mut_slice-places.ensures.value (ap length c.thieves.view_is ∙ c.requires.deques) c.requires.all c.requires.fresh c.begin.auto.places c.begin.ensures.places in
    let at_work = are_at_work seats c.as_slice.result.now c.as_slice.ensures.value c.start_all.new.places c.start_all.ensures in
    (subst (λ (x : D). IsAtWork g.B.Work.has_room crew c.thieves.inside.stealers.items x) (sym is) (at_work i p.now low), (search rules, search rules, search rules))

pub end-requires-clause-places : goal.end-requires-clause-places
end-requires-clause-places g c κs within =
    let crew = facts_of c.args.crew.now in
    let D : Type 0 = Place g.row.B.Denot g.row.B-Value.Denot g.row.B-Memory.Denot in
    let seats = seated g.B.Work.has_room crew c.thieves.inside.stealers.items c.args.seats.now.items c.thieves.inside.places.items c.as_mut_slice-places.result.now c.begin.new.places c.thieves.inside.passes.items
    c.thieves.invariant c.as_mut_slice-places.ensures.value (ap length c.thieves.view_is ∙ c.requires.deques) c.requires.all c.requires.fresh c.begin.auto.places c.begin.ensures.places in
    let work = worked seats c.as_slice.result.now c.as_slice.ensures.value c.start_all.new.places c.start_all.ensures c.for_each_mut.new.s c.for_each_mut.auto.s
    (λ k d low. let it = (c.for_each_mut.ensures k d low).1 in subst (λ (z : D × D). WorksOn crew c.thieves.inside.stealers.items z.0 z.1) (λ j. (it.argument_is j, it.left j)) it.call) in
    may_leave work

pub end-requires-clause-seats : goal.end-requires-clause-seats
end-requires-clause-seats g c κs within =
    let crew = facts_of c.args.crew.now in
    let D : Type 0 = Place g.row.B.Denot g.row.B-Value.Denot g.row.B-Memory.Denot in
    let seats = seated g.B.Work.has_room crew c.thieves.inside.stealers.items c.args.seats.now.items c.thieves.inside.places.items c.as_mut_slice-places.result.now c.begin.new.places c.thieves.inside.passes.items
    c.thieves.invariant c.as_mut_slice-places.ensures.value (ap length c.thieves.view_is ∙ c.requires.deques) c.requires.all c.requires.fresh c.begin.auto.places c.begin.ensures.places in
    let work = worked seats c.as_slice.result.now c.as_slice.ensures.value c.start_all.new.places c.start_all.ensures c.for_each_mut.new.s c.for_each_mut.auto.s
    (λ k d low. let it = (c.for_each_mut.ensures k d low).1 in subst (λ (z : D × D). WorksOn crew c.thieves.inside.stealers.items z.0 z.1) (λ j. (it.argument_is j, it.left j)) it.call) in
    let all : List (Seat g.row.B.Denot g.row.B-Value.Denot g.row.B-Memory.Denot) = c.args.seats.now.items in
    let room : length all ≤ vec_capacity c.args.seats.now = search rules in
    let kept = c.begin.ensures.seats.1 in
    let many = seats.many in
    let long = seats.long in
    let long' = work.long in
    (c.begin.ensures.seats.0, omega (arith, room, kept, many, long, long'))

pub invariant_of-thieves : goal.invariant_of-thieves
invariant_of-thieves g c =
    let crew = facts_of c.args.crew.now in
    let D : Type 0 = Place g.row.B.Denot g.row.B-Value.Denot g.row.B-Memory.Denot in
    let seats = seated g.B.Work.has_room crew c.thieves.inside.stealers.items c.args.seats.now.items c.thieves.inside.places.items c.as_mut_slice-places.result.now c.begin.new.places c.thieves.inside.passes.items
    c.thieves.invariant c.as_mut_slice-places.ensures.value (ap length c.thieves.view_is ∙ c.requires.deques) c.requires.all c.requires.fresh c.begin.auto.places c.begin.ensures.places in
    let work = worked seats c.as_slice.result.now c.as_slice.ensures.value c.start_all.new.places c.start_all.ensures c.for_each_mut.new.s c.for_each_mut.auto.s
    (λ k d low. let it = (c.for_each_mut.ensures k d low).1 in subst (λ (z : D × D). WorksOn crew c.thieves.inside.stealers.items z.0 z.1) (λ j. (it.argument_is j, it.left j)) it.call) in
    let stealers = c.thieves.inside.stealers.items in
    let last : List D = c.end.new.places in
    let rows = c.end.new.passes.items in
    let few = seats.few in
    let long = seats.long in
    let long' = work.long in
    let long'' = c.end.auto.places in
    let same = paired_map (λ (a b : D). SameDeque a.deque b.deque × HasAll (tally_of b.deque) × IsEven (tally_of b.deque) × (b.thief ≡ None)) (λ (a b : D). SameDeque a.deque b.deque) c.for_each_mut.new.s last (λ a b h. h.0) c.end.ensures.places in
    let is = written c.thieves.inside.places.len c.thieves.inside.places.items last (search rules) in record {
      few = subst (λ (l : List D). length l ≤ 16) (sym is) (omega (arith, few, long, long', long''));
      reached = subst (λ (l : List D). Reach stealers l) (sym is) (reach_stays stealers c.for_each_mut.new.s last same (reach_on work));
      at_rest = subst (λ (l : List D). All IsAtRest l) (sym is) (λ k d low. let it = c.end.ensures.places.1 k d d (omega (arith, low, long'')) in (it.1, it.3));
      room = subst (λ (l : List D). (length rows ≡ length l) × ((k : ℕ) (d : Vec (Pass ℕ Tally Global)) → k < length rows → ((get_or rows k d).items ≡ []) × (length l ≤ vec_capacity (get_or rows k d)))) (sym is)
          (c.end.ensures.passes.0 ∙ sym long'', λ k d low. let it = c.end.ensures.passes.1 k d low in let room = it.1 in (it.0, omega (arith, room, long'')));
    }

pub sweep_all-requires-clause-seats : goal.sweep_all-requires-clause-seats
sweep_all-requires-clause-seats g c κs within =
    let crew = facts_of c.args.crew.now in
    let D : Type 0 = Place g.row.B.Denot g.row.B-Value.Denot g.row.B-Memory.Denot in
    let seats = seated g.B.Work.has_room crew c.thieves.inside.stealers.items c.args.seats.now.items c.thieves.inside.places.items c.as_mut_slice-places.result.now c.begin.new.places c.thieves.inside.passes.items
    c.thieves.invariant c.as_mut_slice-places.ensures.value (ap length c.thieves.view_is ∙ c.requires.deques) c.requires.all c.requires.fresh c.begin.auto.places c.begin.ensures.places in
    let work = worked seats c.as_slice.result.now c.as_slice.ensures.value c.start_all.new.places c.start_all.ensures c.for_each_mut.new.s c.for_each_mut.auto.s
    (λ k d low. let it = (c.for_each_mut.ensures k d low).1 in subst (λ (z : D × D). WorksOn crew c.thieves.inside.stealers.items z.0 z.1) (λ j. (it.argument_is j, it.left j)) it.call) in
    let risen : HaveRisen g.B.Work.has_room crew c.thieves.inside.stealers.items c.args.seats.now.items c.end.new.seats.items c.as_mut_slice-places.result.now c.begin.new.places c.for_each_mut.new.s = record { worked = work; long = c.end.ensures.seats.0; order = c.end.ensures.order } in
    may_sweep risen c.as_mut_slice.result.now c.as_mut_slice.ensures.value

pub returns-clause-all : goal.returns-clause-all
returns-clause-all g c =
    let crew = facts_of c.args.crew.now in
    let D : Type 0 = Place g.row.B.Denot g.row.B-Value.Denot g.row.B-Memory.Denot in
    let A : Type 0 = Seat g.row.B.Denot g.row.B-Value.Denot g.row.B-Memory.Denot in
    let seats = seated g.B.Work.has_room crew c.thieves.inside.stealers.items c.args.seats.now.items c.thieves.inside.places.items c.as_mut_slice-places.result.now c.begin.new.places c.thieves.inside.passes.items
    c.thieves.invariant c.as_mut_slice-places.ensures.value (ap length c.thieves.view_is ∙ c.requires.deques) c.requires.all c.requires.fresh c.begin.auto.places c.begin.ensures.places in
    let work = worked seats c.as_slice.result.now c.as_slice.ensures.value c.start_all.new.places c.start_all.ensures c.for_each_mut.new.s c.for_each_mut.auto.s
    (λ k d low. let it = (c.for_each_mut.ensures k d low).1 in subst (λ (z : D × D). WorksOn crew c.thieves.inside.stealers.items z.0 z.1) (λ j. (it.argument_is j, it.left j)) it.call) in
    let risen : HaveRisen g.B.Work.has_room crew c.thieves.inside.stealers.items c.args.seats.now.items c.end.new.seats.items c.as_mut_slice-places.result.now c.begin.new.places c.for_each_mut.new.s = record { worked = work; long = c.end.ensures.seats.0; order = c.end.ensures.order } in
    let over = cycled risen c.as_mut_slice.result.now c.sweep_all.new.seats c.as_mut_slice.ensures.value c.sweep_all.ensures in
    let is = written c.end.new.seats.len c.end.new.seats.items c.sweep_all.new.seats (search rules) in
    subst (λ (l : List A). AreSeats crew.id crew.links crew.nodes crew.seats l) (sym is) (are_seats over c.requires.all)

pub returns-clause-played : goal.returns-clause-played
returns-clause-played g c =
    let crew = facts_of c.args.crew.now in
    let D : Type 0 = Place g.row.B.Denot g.row.B-Value.Denot g.row.B-Memory.Denot in
    let A : Type 0 = Seat g.row.B.Denot g.row.B-Value.Denot g.row.B-Memory.Denot in
    let seats = seated g.B.Work.has_room crew c.thieves.inside.stealers.items c.args.seats.now.items c.thieves.inside.places.items c.as_mut_slice-places.result.now c.begin.new.places c.thieves.inside.passes.items
    c.thieves.invariant c.as_mut_slice-places.ensures.value (ap length c.thieves.view_is ∙ c.requires.deques) c.requires.all c.requires.fresh c.begin.auto.places c.begin.ensures.places in
    let work = worked seats c.as_slice.result.now c.as_slice.ensures.value c.start_all.new.places c.start_all.ensures c.for_each_mut.new.s c.for_each_mut.auto.s
    (λ k d low. let it = (c.for_each_mut.ensures k d low).1 in subst (λ (z : D × D). WorksOn crew c.thieves.inside.stealers.items z.0 z.1) (λ j. (it.argument_is j, it.left j)) it.call) in
    let risen : HaveRisen g.B.Work.has_room crew c.thieves.inside.stealers.items c.args.seats.now.items c.end.new.seats.items c.as_mut_slice-places.result.now c.begin.new.places c.for_each_mut.new.s = record { worked = work; long = c.end.ensures.seats.0; order = c.end.ensures.order } in
    let over = cycled risen c.as_mut_slice.result.now c.sweep_all.new.seats c.as_mut_slice.ensures.value c.sweep_all.ensures in
    let is = written c.end.new.seats.len c.end.new.seats.items c.sweep_all.new.seats (search rules) in
    subst (λ (l : List A). HavePlayed crew.nodes crew.seats l) (sym is) (have_played over)

pub returns-clause-before : goal.returns-clause-before
returns-clause-before g c before know =
    let crew = facts_of c.args.crew.now in
    let D : Type 0 = Place g.row.B.Denot g.row.B-Value.Denot g.row.B-Memory.Denot in
    let A : Type 0 = Seat g.row.B.Denot g.row.B-Value.Denot g.row.B-Memory.Denot in
    let seats = seated g.B.Work.has_room crew c.thieves.inside.stealers.items c.args.seats.now.items c.thieves.inside.places.items c.as_mut_slice-places.result.now c.begin.new.places c.thieves.inside.passes.items
    c.thieves.invariant c.as_mut_slice-places.ensures.value (ap length c.thieves.view_is ∙ c.requires.deques) c.requires.all c.requires.fresh c.begin.auto.places c.begin.ensures.places in
    let work = worked seats c.as_slice.result.now c.as_slice.ensures.value c.start_all.new.places c.start_all.ensures c.for_each_mut.new.s c.for_each_mut.auto.s
    (λ k d low. let it = (c.for_each_mut.ensures k d low).1 in subst (λ (z : D × D). WorksOn crew c.thieves.inside.stealers.items z.0 z.1) (λ j. (it.argument_is j, it.left j)) it.call) in
    let risen : HaveRisen g.B.Work.has_room crew c.thieves.inside.stealers.items c.args.seats.now.items c.end.new.seats.items c.as_mut_slice-places.result.now c.begin.new.places c.for_each_mut.new.s = record { worked = work; long = c.end.ensures.seats.0; order = c.end.ensures.order } in
    let over = cycled risen c.as_mut_slice.result.now c.sweep_all.new.seats c.as_mut_slice.ensures.value c.sweep_all.ensures in
    let is = written c.end.new.seats.len c.end.new.seats.items c.sweep_all.new.seats (search rules) in
    subst (λ (l : List A). Know before l) (sym is) (know_still over before know)

pub returns-clause-ended : goal.returns-clause-ended
returns-clause-ended g c before know =
    let crew = facts_of c.args.crew.now in
    let D : Type 0 = Place g.row.B.Denot g.row.B-Value.Denot g.row.B-Memory.Denot in
    let A : Type 0 = Seat g.row.B.Denot g.row.B-Value.Denot g.row.B-Memory.Denot in
    let seats = seated g.B.Work.has_room crew c.thieves.inside.stealers.items c.args.seats.now.items c.thieves.inside.places.items c.as_mut_slice-places.result.now c.begin.new.places c.thieves.inside.passes.items
    c.thieves.invariant c.as_mut_slice-places.ensures.value (ap length c.thieves.view_is ∙ c.requires.deques) c.requires.all c.requires.fresh c.begin.auto.places c.begin.ensures.places in
    let work = worked seats c.as_slice.result.now c.as_slice.ensures.value c.start_all.new.places c.start_all.ensures c.for_each_mut.new.s c.for_each_mut.auto.s
    (λ k d low. let it = (c.for_each_mut.ensures k d low).1 in subst (λ (z : D × D). WorksOn crew c.thieves.inside.stealers.items z.0 z.1) (λ j. (it.argument_is j, it.left j)) it.call) in
    let risen : HaveRisen g.B.Work.has_room crew c.thieves.inside.stealers.items c.args.seats.now.items c.end.new.seats.items c.as_mut_slice-places.result.now c.begin.new.places c.for_each_mut.new.s = record { worked = work; long = c.end.ensures.seats.0; order = c.end.ensures.order } in
    let over = cycled risen c.as_mut_slice.result.now c.sweep_all.new.seats c.as_mut_slice.ensures.value c.sweep_all.ensures in
    let is = written c.end.new.seats.len c.end.new.seats.items c.sweep_all.new.seats (search rules) in
    subst (λ (l : List A). AreEnded g.B.Work.memory g.B.Work.has_room g.B.Work.after g.B.Work.gives crew.links before l) (sym is)
    (all_ended g.B.Work.memory g.B.Work.has_room g.B.Work.after g.B.Work.gives crew.id crew.links crew.nodes crew.seats before c.sweep_all.new.seats c.args.crew.now.roomy.some_seat (are_seats over c.requires.all) (have_played over) (know_still over before know))

pub returns-clause-empty : goal.returns-clause-empty
returns-clause-empty g c =
    let D : Type 0 = Place g.row.B.Denot g.row.B-Value.Denot g.row.B-Memory.Denot in
    let last : List D = c.end.new.places in
    let long = c.end.auto.places in
    let is = written c.thieves.inside.places.len c.thieves.inside.places.items last (search rules) in
    subst (λ (l : List D). AreEmpty (tallies_of l)) (sym is) (all_map (λ (p : D). tally_of p.deque) IsEmpty last (λ k d low. let it = c.end.ensures.places.1 k d d (omega (arith, low, long)) in holds_none (tally_of (get_or last k d).deque) it.1 it.2))
