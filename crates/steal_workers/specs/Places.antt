-- The places of the seats.
--     Paired R xs ys      R holds of what stands at each place of two lists, and they are as long
--     parts_of place      the parts that the owner of the place's deque has
--     IsPassAt place pass      the pass is of the place's deque
--     Lends old new, TakesBack old new      the deque gave a part away, or got one back
--     Empties old new      the deque is empty, and all its parts are there
--     thief_of seat passes      the seat with its passes
--     TakesPlace places seat old new      the seat sits at the place, with a pass of each deque
--     MayLeave places place      a seat sits at the place and has a pass of each deque, and the deque has its other parts
use Rattle.std.specs.Prelude.{◌≡◌, ◌+◌, ◌<◌, ◌≤◌, ℕ, List, length, slice_index_or, Some, vec_capacity}
use Rattle.std.specs.Global.{Global, Vec}
use Rattle.crossbeam_deque.specs.Handles.{Pass}
use Rattle.cycle_workers.specs.activation.specs.declared.takens.Seat.{Seat}
use Rattle.steal_workers.specs.declared.tallies.Tally.{Tally}
use Rattle.steal_workers.specs.declared.places.Place.{Place}
use Rattle.steal_workers.specs.declared.places.Thief.{Thief}
use Rattle.steal_workers.specs.Tallies.{HasAll, IsEven, every_part}
use Rattle.steal_workers.specs.Deques.{tally_of, SameDeque, IsPassOn}

abbrev pub Paired : {A B : Type 0} → (A → B → Type 0) → List A → List B → Type 0
Paired {A} {B} R xs ys = (length ys ≡ length xs) × ((k : ℕ) (x : A) (y : B) → k < length xs → R (slice_index_or xs k x) (slice_index_or ys k y))

module _ {B Y M : Type 0} where
  abbrev pub parts_of : Place B Y M → ℕ
  parts_of place = (tally_of place.deque).parts

  abbrev pub IsPassAt : Place B Y M → Pass ℕ Tally Global → Type 0
  IsPassAt place pass = IsPassOn place.deque pass

  pub record Lends (count : ℕ) (old new : Place B Y M) : Type 0 where
    pub deque : SameDeque old.deque new.deque
    pub parts : parts_of new + count ≡ parts_of old
    pub thief : new.thief ≡ old.thief

  pub record TakesBack (count : ℕ) (old new : Place B Y M) : Type 0 where
    pub deque : SameDeque old.deque new.deque
    pub parts : parts_of new ≡ parts_of old + count
    pub thief : new.thief ≡ old.thief

  pub record Empties (old new : Place B Y M) : Type 0 where
    pub deque : SameDeque old.deque new.deque
    pub all : HasAll (tally_of new.deque)
    pub even : IsEven (tally_of new.deque)
    pub thief : new.thief ≡ old.thief

  abbrev pub thief_of : Seat B Y M → Vec (Pass ℕ Tally Global) → Thief B Y M
  thief_of seat passes = record { seat = seat; passes = passes }

  pub record TakesPlace (places : List (Place B Y M)) (seat : Seat B Y M) (old new : Place B Y M) : Type 0 where
    pub deque : SameDeque old.deque new.deque
    pub parts : parts_of new + length places ≡ parts_of old
    pub passes : Vec (Pass ℕ Tally Global)
    pub there : new.thief ≡ Some (thief_of seat passes)
    pub each : Paired IsPassAt places passes.items
    pub room : length places ≤ vec_capacity passes

  pub record MayLeave (places : List (Place B Y M)) (place : Place B Y M) : Type 0 where
    pub parts : parts_of place + length places ≡ every_part
    pub thief : Thief B Y M
    pub there : place.thief ≡ Some thief
    pub each : Paired IsPassAt places thief.passes.items
    pub room : length places ≤ vec_capacity thief.passes
