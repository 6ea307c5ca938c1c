-- What lies in the slots of a crew's table.
--     IsFull memory after gives links benches q x      before its node is taken: the bench as before the cycle, or the link's value
--     IsDone memory has_room after gives links benches q x      when its node is home: a sequential bench, or some value
--     first_view size      the view of the first seat
use Rattle.std.specs.Prelude.{◌≡◌, ◌≢◌, ◌≤◌, ◌<◌, ◌+◌, ◌-◌, ℕ, zero, suc, Bool, true, false, cond, List, [], ◌∷◌, length, map, replicate, Option, Some, None, All, vec_capacity}
use Rattle.std.specs.Global.{Vec}
use mathlib.Core.Option.{some}
use lib.ListN.{get_elem?}
use Rattle.session_laws.specs.jack_types.specs.declared.ports.Link.{Link}
use Rattle.session_laws.specs.session_model.specs.Activation.{link_at, place_among, value_of, sequential}
use Rattle.activation.specs.declared.views.Tray.{Tray}
use Rattle.activation.specs.declared.views.Item.{Item}
use Rattle.activation.specs.declared.views.Item.TheVariants.{Bench, Value}
use Rattle.activation.specs.declared.views.View.{View}

-- how many values a bench can be given
unfoldable pub most_links : ℕ
most_links = 512

-- a bench without values, and with room for all that it can be given
abbrev pub HasRoomFor : {B Y : Type 0} → Tray B Y → Type 0
HasRoomFor tray = (tray.given.items ≡ []) × (most_links ≤ vec_capacity tray.given)

-- the bench of node n has room as before, but at the places of the links that were freed, where it had room
pub record Roomed {B : Type 0} (has_room : B → ℕ → Bool) (links : List Link) (n : ℕ) (old new : B) (freed : ℕ → Bool) : Type 0 where
  pub places : (l : ℕ) → l < length links → (link_at links l).from ≡ n → has_room new (place_among links l) ≡ cond (freed l) false (has_room old (place_among links l))
  pub had : (l : ℕ) → l < length links → (link_at links l).from ≡ n → freed l ≡ true → has_room old (place_among links l) ≡ true
  pub others : (place : ℕ) → ((l : ℕ) → l < length links → (link_at links l).from ≡ n → place_among links l ≢ place) → has_room new place ≡ has_room old place

module _ {B M Y : Type 0} (memory : B → M) (has_room : B → ℕ → Bool) (after : M → List Y → M) (gives : M → List Y → ℕ → Y) where
  -- `before` gives the memory of each bench before the cycle
  abbrev pub Tells : List B → (ℕ → M) → Type 0
  Tells benches before = (n : ℕ) (bench : B) → get_elem? benches n ≡ some bench → before n ≡ memory bench

  abbrev pub IsValueOf : List Link → List B → ℕ → Y → Type 0
  IsValueOf links benches l y = (before : ℕ → M) → Tells benches before → y ≡ value_of after gives links before l

  abbrev pub IsPlayedAt : List Link → List B → ℕ → M → Type 0
  IsPlayedAt links benches n m = (before : ℕ → M) → Tells benches before → m ≡ sequential after gives links before n

  abbrev pub IsFull : List Link → List B → ℕ → Option (Item B Y) → Type 0
  IsFull links benches q x =
      (q < length benches → (tray : Tray B Y) × (x ≡ Some (Bench tray)) × (get_elem? benches q ≡ some tray.bench) × HasRoomFor tray)
      × (length benches ≤ q → (y : Y) × (x ≡ Some (Value y)) × IsValueOf links benches (q - length benches) y)

  -- a bench that is home is sequential, and handed the values of all its links
  abbrev pub IsHomeBench : List Link → List B → ℕ → Tray B Y → Type 0
  IsHomeBench links benches n tray =
      IsPlayedAt links benches n (memory tray.bench) × HasRoomFor tray
      × ((old : B) → get_elem? benches n ≡ some old → Roomed has_room links n old tray.bench (λ _. true))

  abbrev pub IsDone : List Link → List B → ℕ → Option (Item B Y) → Type 0
  IsDone links benches q x =
      (q < length benches → (tray : Tray B Y) × (x ≡ Some (Bench tray)) × IsHomeBench links benches q tray)
      × (length benches ≤ q → (y : Y) × (x ≡ Some (Value y)))

  -- the values of these links
  abbrev pub AreValuesOf : List Link → List B → List ℕ → List (Option Y) → Type 0
  AreValuesOf links benches which given =
      (values : List Y) × (given ≡ map Some values) × (length values ≡ length which)
      × ((before : ℕ → M) → Tells benches before → values ≡ map (value_of after gives links before) which)

-- so many numbers from this one on
abbrev pub from_to : ℕ → ℕ → List ℕ
from_to first zero = []
from_to first (suc count) = first ∷ from_to (suc first) count

abbrev pub first_view : {B Y : Type 0} → List Link → ℕ → ℕ → View (Option (Item B Y)) B
first_view links slots seats = record {
  is_live = true;
  is_still = true;
  duty = record { links = links; before = []; seats = seats; shares = from_to 0 seats; started = []; released = []; held = []; left = [] };
  hand = record { out = []; node = 0; floor = 0; ready = []; back = [] };
  shelf = record { words = replicate (slots + 65) 0; items = replicate slots None; out = [] };
}

-- the benches that lie in so many slots, from the first on
abbrev pub benches_in : {B Y : Type 0} → ℕ → List (Option (Item B Y)) → List B
benches_in zero items = []
benches_in (suc n) [] = []
benches_in (suc n) (Some (Bench tray) ∷ items) = tray.bench ∷ benches_in n items
benches_in (suc n) (Some (Value y) ∷ items) = []
benches_in (suc n) (None ∷ items) = []

-- a table has 512 slots beside those of its benches
abbrev pub benches_of : {B Y : Type 0} → ℕ → List (Option (Item B Y)) → List B
benches_of slots items = benches_in (slots - 512) items

-- each of these benches lies in its slot, with the room for what it is given
abbrev pub AreLaid : {B Y : Type 0} → List B → List (Option (Item B Y)) → Type 0
AreLaid {B} {Y} benches items = (n : ℕ) (bench : B) → get_elem? benches n ≡ some bench → (tray : Tray B Y) × (get_elem? items n ≡ some (Some (Bench tray))) × (tray.bench ≡ bench) × HasRoomFor tray

-- room for all that a bench can be given, by node
abbrev pub AreEmpty : {Y : Type 0} → List (Vec (Option Y)) → Type 0
AreEmpty rooms = All (λ room. (room.items ≡ []) × (most_links ≤ vec_capacity room)) rooms
