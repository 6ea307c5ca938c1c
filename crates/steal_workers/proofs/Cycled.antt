-- What a whole cycle makes of the seats.
--     AreSeated .. all old new      the seats that may begin a cycle took their places
--     HaveWorked .. all old mid new      the threads have played
--     HaveRisen .. all back old mid new      the seats came back in their order
--     HaveCycled crew all end      the cycle is over
use Rattle.std.proofs.Common.{◌≡◌, ℕ, ◌%◌, ◌<◌, ◌≤◌, Bool, true, List, [], ◌∷◌, length, get_or, All, IfSome, None, sym, ap, ◌∙◌, subst, arith}
use Rattle.std.specs.Global.{Global, Vec}
use Rattle.std.proofs.lemmas.List.{get_or_default, length-map}
use Rattle.crossbeam_deque.specs.Handles.{Pass, IsPassOf}
use Rattle.cycle_workers.specs.activation.specs.declared.takens.Seat.{Seat}
use Rattle.cycle_workers.specs.activation.specs.Rule.{has}
use Rattle.cycle_workers.specs.activation.specs.Rounds.{AreSeats, HavePlayed, Know, AreFresh}
use Rattle.cycle_workers.specs.activation.specs.Seats.{new_duty}
use Rattle.cycle_workers.specs.Runs.{HaveRoom}
use Rattle.cycle_workers.proofs.Going.{long_as, mapped_same}
use Rattle.steal_workers.specs.declared.tallies.Tally.{Tally}
use Rattle.steal_workers.specs.declared.ends.Stealer.{Stealer}
use Rattle.steal_workers.specs.declared.places.Place.{Place}
use Rattle.steal_workers.specs.declared.places.Thief.{Thief}
use Rattle.steal_workers.specs.Crews.{CrewFacts, IsSeatOf}
use Rattle.steal_workers.specs.Tallies.{HasAll}
use Rattle.steal_workers.specs.Deques.{tally_of, SameDeque, LeadsTo, IsPassFor}
use Rattle.steal_workers.specs.Places.{Paired, IsPassAt, thief_of, TakesPlace, MayLeave}
use Rattle.steal_workers.specs.Thefts.{AreAtRest, tallies_of}
use Rattle.steal_workers.specs.Works.{IsReady, IsUnderWay, IsAtWork, WorksOn, MaySweep, Sweeps}
use Rattle.steal_workers.proofs.Changing.{any_of}
use Rattle.steal_workers.proofs.Working.{at_work, worked_on}

module _ {B Y M : Type 0} where
  abbrev pub Reach : List Stealer → List (Place B Y M) → Type 0
  Reach stealers places = Paired (λ (s : Stealer) (p : Place B Y M). LeadsTo s p.deque) stealers places

  abbrev pub SameDeques : List (Place B Y M) → List (Place B Y M) → Type 0
  SameDeques old new = Paired (λ (a b : Place B Y M). SameDeque a.deque b.deque) old new

  pub reach_stays : (stealers : List Stealer) (old new : List (Place B Y M)) → SameDeques old new → Reach stealers old → Reach stealers new
  reach_stays stealers old new same reach = (
    same.0 ∙ reach.0,
    λ k x y low.
        let low' : k < length old = (let l = reach.0 in omega (arith, low, l)) in
        let p = any_of old k low' in
        reach.1 k x p low ∙ sym (same.1 k p y low'),
  )

  passes_for : (stealers : List Stealer) (places : List (Place B Y M)) (row : List (Pass ℕ Tally Global)) → Reach stealers places → Paired IsPassAt places row → Paired IsPassFor stealers row
  passes_for stealers places row reach at = (
    at.0 ∙ reach.0,
    λ k x y low.
        let low' : k < length places = (let l = reach.0 in omega (arith, low, l)) in
        let p = any_of places k low' in
        let it = at.1 k p y low' in
        (subst (λ id. IsPassOf id (get_or row k y)) (sym (reach.1 k x p low)) it.0, it.1),
  )

  passes_at : (stealers : List Stealer) (places : List (Place B Y M)) (row : List (Pass ℕ Tally Global)) → Reach stealers places → Paired IsPassFor stealers row → Paired IsPassAt places row
  passes_at stealers places row reach for = (
    for.0 ∙ sym reach.0,
    λ k x y low.
        let low' : k < length stealers = (let l = reach.0 in omega (arith, low, l)) in
        let s = any_of stealers k low' in
        let it = for.1 k s y low' in
        (subst (λ id. IsPassOf id (get_or row k y)) (reach.1 k s x low') it.0, it.1),
  )

  -- each seat took its place
  abbrev pub Taken : List (Seat B Y M) → List (Place B Y M) → List (Place B Y M) → Type 0
  Taken all old new = (k : ℕ) (place : Place B Y M) (seat : Seat B Y M) → k < length old → TakesPlace new (get_or all k seat) (get_or old k place) (get_or new k place)

  same_taken : (all : List (Seat B Y M)) (old new : List (Place B Y M)) → length all ≡ length old → length new ≡ length old → Taken all old new → SameDeques old new
  same_taken all old new many long took = (
    long,
    λ k x y low.
        let seat = any_of all k (omega (arith, low, many)) in
        subst (λ (p : Place B Y M). SameDeque (get_or old k x).deque p.deque) (get_or_default new k x y (omega (arith, low, long))) (took k x seat low).deque,
  )

  -- no seat sits there, and the deque has all its parts
  abbrev pub IsAtRest : Place B Y M → Type 0
  IsAtRest place = HasAll (tally_of place.deque) × (place.thief ≡ None)

  -- as many seats as places, where there are as many deques as seats
  pub as_many : (crew : CrewFacts) (all : List (Seat B Y M)) (kept old : List (Place B Y M)) → AreSeats crew.id crew.links crew.nodes crew.seats all → old ≡ kept → length (tallies_of kept) ≡ crew.seats → length all ≡ length old
  as_many crew all kept old are there deques = long_as (λ (s : Seat B Y M). s.number) all crew.seats are.numbers ∙ (sym deques ∙ (length-map kept (λ (p : Place B Y M). tally_of p.deque) ∙ sym (ap length there)))

  module _ (has_room : B → ℕ → Bool) (crew : CrewFacts) (stealers : List Stealer) where
    -- behind `begin`
    pub record AreSeated (all : List (Seat B Y M)) (old new : List (Place B Y M)) : Type 0 where
      pub are : AreSeats crew.id crew.links crew.nodes crew.seats all
      pub before : List B
      pub fresh : AreFresh crew.links before crew.seats all
      pub room : HaveRoom has_room crew.links before
      pub few : length old ≤ 16
      pub reach : Reach stealers old
      pub rest : All IsAtRest old
      pub many : length all ≡ length old
      pub long : length new ≡ length old
      pub took : Taken all old new

    -- behind the threads
    pub record HaveWorked (all : List (Seat B Y M)) (old mid new : List (Place B Y M)) : Type 0 where
      pub seated : AreSeated all old mid
      pub long : length new ≡ length mid
      pub played : (k : ℕ) (d : Place B Y M) → k < length mid → IsUnderWay crew stealers (get_or mid k d) (get_or new k d)

    -- behind `end`
    pub record HaveRisen (all back : List (Seat B Y M)) (old mid new : List (Place B Y M)) : Type 0 where
      pub worked : HaveWorked all old mid new
      pub long : length back ≡ length new
      pub order : (k : ℕ) (place : Place B Y M) (seat : Seat B Y M) → k < length new → IfSome (get_or new k place).thief (λ thief. get_or back k seat ≡ thief.seat)

    pub seated : (all : List (Seat B Y M)) (kept old new : List (Place B Y M)) (passes : List (Vec (Pass ℕ Tally Global))) → AreAtRest stealers kept passes → old ≡ kept → length (tallies_of kept) ≡ crew.seats
        → AreSeats crew.id crew.links crew.nodes crew.seats all → (before : List B) × AreFresh crew.links before crew.seats all × HaveRoom has_room crew.links before
        → length new ≡ length old → Taken all old new → AreSeated all old new
    seated all kept old new passes at_rest there deques are fresh long took = record {
      are = are;
      before = fresh.0;
      fresh = fresh.1;
      room = fresh.2;
      few = subst (λ (ps : List (Place B Y M)). length ps ≤ 16) (sym there) at_rest.few;
      reach = subst (λ (ps : List (Place B Y M)). Reach stealers ps) (sym there) at_rest.reached;
      rest = subst (λ (ps : List (Place B Y M)). All IsAtRest ps) (sym there) at_rest.at_rest;
      many = as_many crew all kept old are there deques;
      long = long;
      took = took;
    }

  module _ {has_room : B → ℕ → Bool} {crew : CrewFacts} {stealers : List Stealer} {all : List (Seat B Y M)} {old mid : List (Place B Y M)} where
    module _ (h : AreSeated has_room crew stealers all old mid) where
      ready : All (IsReady has_room crew stealers) mid
      ready k d low =
          let long = h.long in
          let many = h.many in
          let few = h.few in
          let low' : k < length old = omega (arith, low, long) in
          let inside : k < length all = omega (arith, low', many) in
          let s = any_of all k inside in
          let it = h.took k d s low' in
          let e = h.fresh k s inside in record {
            thief = thief_of (get_or all k s) it.passes;
            there = it.there;
            sits = (h.are.each k s inside).0;
            fresh = e ∙ (λ j. new_duty crew.links (ap (λ x. x.before) (sym e) j) crew.seats ((get_or all k s).number ∷ []));
            room = subst (HaveRoom has_room crew.links) (sym (ap (λ x. x.before) e)) h.room;
            passes = passes_for stealers mid it.passes.items (reach_stays stealers old mid (same_taken all old mid many long h.took) h.reach) it.each;
            part = let parts = it.parts in let whole = (h.rest k d low').0 in omega (arith, parts, whole, few, long);
          }

      pub are_ready : (slice : List Stealer) → slice ≡ stealers → All (IsReady has_room crew slice) mid
      are_ready slice is = subst (λ (ss : List Stealer). All (IsReady has_room crew ss) mid) (sym is) ready

      module _ (slice : List Stealer) (is : slice ≡ stealers) (started : List (Place B Y M)) (begun : Paired (IsUnderWay crew slice) mid started) where
        under_way : Paired (IsUnderWay crew stealers) mid started
        under_way = subst (λ (ss : List Stealer). Paired (IsUnderWay crew ss) mid started) is begun

        pub are_at_work : All (IsAtWork has_room crew stealers) started
        are_at_work k d low =
            let long = begun.0 in
            let low' : k < length mid = omega (arith, low, long) in
            at_work crew stealers has_room (get_or mid k d) (get_or started k d) (ready k d low') (under_way.1 k d d low')

        pub worked : (new : List (Place B Y M)) → length new ≡ length started → ((k : ℕ) (d : Place B Y M) → k < length started → WorksOn crew stealers (get_or started k d) (get_or new k d)) → HaveWorked has_room crew stealers all old mid new
        worked new long went =
            let long' = begun.0 in record {
              seated = h;
              long = long ∙ long';
              played = λ k d low. worked_on crew stealers (get_or mid k d) (get_or started k d) (get_or new k d) (under_way.1 k d d low) (went k d (omega (arith, low, long')));
            }

    module _ {new : List (Place B Y M)} where
      module _ (h : HaveWorked has_room crew stealers all old mid new) where
        same_worked : SameDeques mid new
        same_worked =
            let long = h.long in
            (long, λ k x y low. subst (λ (p : Place B Y M). SameDeque (get_or mid k x).deque p.deque) (get_or_default new k x y (omega (arith, low, long))) (h.played k x low).deque.same)

        -- the deques are the same from before the cycle on
        pub reach_on : Reach stealers new
        reach_on =
            let s = h.seated in
            reach_stays stealers mid new same_worked (reach_stays stealers old mid (same_taken all old mid s.many s.long s.took) s.reach)

        pub may_leave : All (MayLeave new) new
        may_leave k d low =
            let s = h.seated in
            let long = s.long in
            let long' = h.long in
            let many = s.many in
            let low' : k < length mid = omega (arith, low, long') in
            let low'' : k < length old = omega (arith, low', long) in
            let seat = any_of all k (omega (arith, low'', many)) in
            let it = s.took k d seat low'' in
            let on = h.played k d low' in
            let behind = on.behind (thief_of (get_or all k seat) it.passes) it.there in record {
              parts = let kept = on.deque.parts in let parts = it.parts in let whole = (s.rest k d low'').0 in omega (arith, kept, parts, whole, long, long');
              thief = on.thief;
              there = on.there;
              each = passes_at stealers new on.thief.passes.items reach_on behind.passes;
              room = let kept = behind.room in let room = it.room in omega (arith, kept, room, long');
            }

      module _ {back : List (Seat B Y M)} (h : HaveRisen has_room crew stealers all back old mid new) where
        may : All (MaySweep has_room crew) back
        may k d low =
            let s = h.worked.seated in
            let long = s.long in
            let long' = h.worked.long in
            let risen = h.long in
            let many = s.many in
            let low' : k < length new = omega (arith, low, risen) in
            let low'' : k < length mid = omega (arith, low', long') in
            let low''' : k < length old = omega (arith, low'', long) in
            let inside : k < length all = omega (arith, low''', many) in
            let p = any_of new k low' in
            let seat = any_of all k inside in
            let it = s.took k p seat low''' in
            let on = h.worked.played k p low'' in
            let behind = on.behind (thief_of (get_or all k seat) it.passes) it.there in
            let is : get_or back k d ≡ on.thief.seat = subst (λ o. IfSome o (λ (thief : Thief B Y M). get_or back k d ≡ thief.seat)) on.there (h.order k p d low') in
            subst (MaySweep has_room crew) (sym is) record {
              sits = behind.sits;
              room = subst (HaveRoom has_room crew.links) (sym (behind.worked.before_stays ∙ ap (λ x. x.before) (s.fresh k seat inside))) s.room;
              none_held = behind.worked.none_held;
              left = behind.worked.left;
            }

        pub may_sweep : (slice : List (Seat B Y M)) → slice ≡ back → All (MaySweep has_room crew) slice
        may_sweep slice is = subst (λ (seats : List (Seat B Y M)). All (MaySweep has_room crew) seats) (sym is) may

  module _ (crew : CrewFacts) where
    pub record HasCycled (old new : Seat B Y M) : Type 0 where
      pub number : new.number ≡ old.number
      pub sits : IsSeatOf crew new
      pub before_stays : new.token.me.0.duty.before ≡ old.token.me.0.duty.before
      pub started_all : (n : ℕ) → n < crew.nodes → n % crew.seats ≡ new.number → has new.token.me.0.duty.started n ≡ true
      pub none_held : new.token.me.0.duty.held ≡ []
      pub none_left : new.token.me.0.duty.left ≡ []

    -- behind `sweep_all`
    pub record HaveCycled (old new : List (Seat B Y M)) : Type 0 where
      pub long : length new ≡ length old
      pub each : (k : ℕ) (d : Seat B Y M) → k < length old → HasCycled (get_or old k d) (get_or new k d)

  pub cycled : {has_room : B → ℕ → Bool} {crew : CrewFacts} {stealers : List Stealer} {all back : List (Seat B Y M)} {old mid new : List (Place B Y M)} → HaveRisen has_room crew stealers all back old mid new
      → (slice swept : List (Seat B Y M)) → slice ≡ back → Paired (Sweeps crew) slice swept → HaveCycled crew all swept
  cycled {all = all} {back = back} {old = old} {mid = mid} {new = new} h slice end same went =
      let s = h.worked.seated in
      let long = s.long in
      let long' = h.worked.long in
      let risen = h.long in
      let many = s.many in
      let sliced = ap length same in record {
        long = went.0 ∙ (sliced ∙ (risen ∙ (long' ∙ (long ∙ sym many))));
        each = λ k d inside.
            let low''' : k < length old = omega (arith, inside, many) in
            let low'' : k < length mid = omega (arith, low''', long) in
            let low' : k < length new = omega (arith, low'', long') in
            let low : k < length slice = omega (arith, low', risen, sliced) in
            let p = any_of new k low' in
            let it = s.took k p d low''' in
            let on = h.worked.played k p low'' in
            let behind = on.behind (thief_of (get_or all k d) it.passes) it.there in
            let rose : get_or back k d ≡ on.thief.seat = subst (λ o. IfSome o (λ (thief : Thief B Y M). get_or back k d ≡ thief.seat)) on.there (h.order k p d low') in
            let is : get_or slice k d ≡ on.thief.seat = ap (λ (seats : List (Seat B Y M)). get_or seats k d) same ∙ rose in
            let sweeps = went.1 k d d low in
            let number : (get_or end k d).number ≡ on.thief.seat.number = sweeps.number ∙ ap (λ (x : Seat B Y M). x.number) is in record {
              number = number ∙ behind.number;
              sits = sweeps.sits;
              before_stays = sweeps.swept.before_stays ∙ (ap (λ (x : Seat B Y M). x.token.me.0.duty.before) is ∙ behind.worked.before_stays);
              started_all = λ n low mine. ap (λ l. has l n) (sweeps.swept.started_stay ∙ ap (λ (x : Seat B Y M). x.token.me.0.duty.started) is) ∙ behind.worked.started_all n low (mine ∙ number);
              none_held = sweeps.swept.none_held;
              none_left = sweeps.swept.none_left;
            };
      }

  module _ {crew : CrewFacts} {old new : List (Seat B Y M)} (h : HaveCycled crew old new) where
    pub are_seats : AreSeats crew.id crew.links crew.nodes crew.seats old → AreSeats crew.id crew.links crew.nodes crew.seats new
    are_seats are = record {
      numbers = mapped_same (λ (s : Seat B Y M). s.number) old new h.long (λ k d low. (h.each k d low).number) ∙ are.numbers;
      each = λ k d low. let long = h.long in let it = h.each k d (omega (arith, low, long)) in (it.sits, it.none_held, it.none_left);
    }

    pub have_played : HavePlayed crew.nodes crew.seats new
    have_played k d low n inside mine = let long = h.long in (h.each k d (omega (arith, low, long))).started_all n inside mine

    pub know_still : (before : List B) → Know before old → Know before new
    know_still before know k d low =
        let long = h.long in
        let low' : k < length old = omega (arith, low, long) in
        (h.each k d low').before_stays ∙ know k d low'
