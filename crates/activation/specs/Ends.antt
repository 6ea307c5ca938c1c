-- The end of a cycle, in whatever state the table then is.
--     IsEnded .. links before s      every node is home with a sequential bench, and every link was released once, by one seat
--     AreEnded .. links before all      so it is in every state in which these seats have their views
use Rattle.std.specs.Prelude.{◌≡◌, ◌<◌, ℕ, Bool, true, List, length, All, Option}
use mathlib.Core.Option.{some}
use lib.ListN.{get_elem?}
use Rattle.atomic_table.specs.Table.{State}
use Rattle.session_laws.specs.jack_types.specs.declared.ports.Link.{Link}
use Rattle.session_laws.specs.session_model.specs.Activation.{Machine, AtHome, is_released, place_of, IsConsistent}
use Rattle.activation.specs.declared.takens.Seat.{Seat}
use Rattle.activation.specs.declared.views.Item.{Item}
use Rattle.activation.specs.declared.views.View.{View}
use Rattle.activation.specs.Rule.{AreTold, Rule}
use Rattle.activation.specs.Contents.{IsFull, IsDone}

module _ {B M Y : Type 0} (memory : B → M) (has_room : B → ℕ → Bool) (after : M → List Y → M) (gives : M → List Y → ℕ → Y) where
  pub record IsEnded (links : List Link) (before : List B) (s : State (Option (Item B Y)) (View (Option (Item B Y)) B)) : Type 0 where
    pub machine : Machine
    pub consistent : IsConsistent links machine
    pub home : (n : ℕ) → n < length before → place_of machine n ≡ AtHome
    pub released : (l : ℕ) → l < length links → is_released machine l ≡ true
    pub told : AreTold links (length before) machine s.views
    pub benches : (n : ℕ) → n < length before → (x : Option (Item B Y)) × IsDone memory has_room after gives links before n x × (get_elem? s.homes n ≡ some (some x))

  abbrev pub AreEnded : List Link → List B → List (Seat B Y M) → Type 0
  AreEnded links before all = (s : State (Option (Item B Y)) (View (Option (Item B Y)) B)) → Rule (IsFull memory has_room after gives) (IsDone memory has_room after gives) s
      → All (λ (seat : Seat B Y M). get_elem? s.views seat.token.id ≡ some seat.token.me.0) all → IsEnded links before s
