-- A place before its seat's work in a cycle, and behind it.
--     IsReady .. place      the seat sits there as new, with its passes
--     IsUnderWay .. old new      the seat sits there still, has started its share and holds nothing
--     IsAtWork .. place      the seat sits there with its share started
--     GoesOn .. old new, WorksOn .. old new      the seat sits there still, and has played on
--     MaySweep .. seat, Sweeps .. old new      a seat before it looks for all nodes, and behind that
use Rattle.std.specs.Prelude.{◌≡◌, ◌<◌, ℕ, Bool, List, [], ◌∷◌, Some, vec_capacity}
use Rattle.cycle_workers.specs.activation.specs.declared.takens.Seat.{Seat}
use Rattle.cycle_workers.specs.activation.specs.Seats.{new_duty}
use Rattle.cycle_workers.specs.activation.specs.Takens.{AreBetween}
use Rattle.cycle_workers.specs.Runs.{HaveRoom}
use Rattle.steal_workers.specs.declared.ends.Stealer.{Stealer}
use Rattle.steal_workers.specs.declared.places.Place.{Place}
use Rattle.steal_workers.specs.declared.places.Thief.{Thief}
use Rattle.steal_workers.specs.Crews.{CrewFacts, IsSeatOf}
use Rattle.steal_workers.specs.Deques.{IsPassFor}
use Rattle.steal_workers.specs.Places.{Paired, parts_of}
use Rattle.steal_workers.specs.Steals.{KeepsDeque, HasWorked, HasSwept}

module _ {B Y M : Type 0} where
  pub record IsReady (has_room : B → ℕ → Bool) (crew : CrewFacts) (stealers : List Stealer) (place : Place B Y M) : Type 0 where
    pub thief : Thief B Y M
    pub there : place.thief ≡ Some thief
    pub sits : IsSeatOf crew thief.seat
    pub fresh : thief.seat.token.me.0.duty ≡ new_duty crew.links thief.seat.token.me.0.duty.before crew.seats (thief.seat.number ∷ [])
    pub room : HaveRoom has_room crew.links thief.seat.token.me.0.duty.before
    pub passes : Paired IsPassFor stealers thief.passes.items
    pub part : 0 < parts_of place

  pub record IsBehind (crew : CrewFacts) (stealers : List Stealer) (old new : Thief B Y M) : Type 0 where
    pub number : new.seat.number ≡ old.seat.number
    pub sits : IsSeatOf crew new.seat
    pub worked : HasWorked crew.nodes crew.seats new.seat.number old.seat.token.me.0.duty new.seat.token.me.0.duty
    pub passes : Paired IsPassFor stealers new.passes.items
    pub room : vec_capacity new.passes ≡ vec_capacity old.passes

  pub record IsUnderWay (crew : CrewFacts) (stealers : List Stealer) (old new : Place B Y M) : Type 0 where
    pub thief : Thief B Y M
    pub there : new.thief ≡ Some thief
    pub deque : KeepsDeque old.deque new.deque
    pub behind : (before : Thief B Y M) → old.thief ≡ Some before → IsBehind crew stealers before thief

  pub record IsAtWork (has_room : B → ℕ → Bool) (crew : CrewFacts) (stealers : List Stealer) (place : Place B Y M) : Type 0 where
    pub thief : Thief B Y M
    pub there : place.thief ≡ Some thief
    pub sits : IsSeatOf crew thief.seat
    pub room : HaveRoom has_room crew.links thief.seat.token.me.0.duty.before
    pub none_held : thief.seat.token.me.0.duty.held ≡ []
    pub left : AreBetween 0 crew.nodes thief.seat.token.me.0.duty.left
    pub passes : Paired IsPassFor stealers thief.passes.items
    pub part : 0 < parts_of place

  pub record GoesOn (crew : CrewFacts) (stealers : List Stealer) (old new : Thief B Y M) : Type 0 where
    pub number : new.seat.number ≡ old.seat.number
    pub sits : IsSeatOf crew new.seat
    pub links_stay : new.seat.token.me.0.duty.links ≡ old.seat.token.me.0.duty.links
    pub before_stays : new.seat.token.me.0.duty.before ≡ old.seat.token.me.0.duty.before
    pub started_stay : new.seat.token.me.0.duty.started ≡ old.seat.token.me.0.duty.started
    pub none_held : new.seat.token.me.0.duty.held ≡ []
    pub left : AreBetween 0 crew.nodes new.seat.token.me.0.duty.left
    pub passes : Paired IsPassFor stealers new.passes.items
    pub room : vec_capacity new.passes ≡ vec_capacity old.passes

  pub record WorksOn (crew : CrewFacts) (stealers : List Stealer) (old new : Place B Y M) : Type 0 where
    pub thief : Thief B Y M
    pub there : new.thief ≡ Some thief
    pub deque : KeepsDeque old.deque new.deque
    pub behind : (before : Thief B Y M) → old.thief ≡ Some before → GoesOn crew stealers before thief

  pub record MaySweep (has_room : B → ℕ → Bool) (crew : CrewFacts) (seat : Seat B Y M) : Type 0 where
    pub sits : IsSeatOf crew seat
    pub room : HaveRoom has_room crew.links seat.token.me.0.duty.before
    pub none_held : seat.token.me.0.duty.held ≡ []
    pub left : AreBetween 0 crew.nodes seat.token.me.0.duty.left

  pub record Sweeps (crew : CrewFacts) (old new : Seat B Y M) : Type 0 where
    pub number : new.number ≡ old.number
    pub sits : IsSeatOf crew new
    pub swept : HasSwept old.token.me.0.duty new.token.me.0.duty
