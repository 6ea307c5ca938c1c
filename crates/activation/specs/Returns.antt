-- The values of the links are given back to the benches that handed them.
--     BenchAt items n tray      this bench lies in the slot of node n
--     AreSpent has_room links nodes items      every bench handed the values of all its links, and these lie in the links' slots
--     AreBack memory has_room links nodes old new      each bench has its memory still, and room at the places of all its links
use Rattle.std.specs.Prelude.{◌≡◌, ◌≢◌, ◌<◌, ◌+◌, ℕ, Bool, true, false, List, length, Option, Some}
use mathlib.Core.Option.{some}
use lib.ListN.{get_elem?}
use Rattle.session_laws.specs.jack_types.specs.declared.ports.Link.{Link}
use Rattle.session_laws.specs.session_model.specs.Activation.{link_at, place_among}
use Rattle.activation.specs.declared.views.Tray.{Tray}
use Rattle.activation.specs.declared.views.Item.{Item}
use Rattle.activation.specs.declared.views.Item.TheVariants.{Bench, Value}

module _ {B Y : Type 0} where
  abbrev pub BenchAt : List (Option (Item B Y)) → ℕ → Tray B Y → Type 0
  BenchAt items n tray = get_elem? items n ≡ some (Some (Bench tray))

  pub record AreSpent (has_room : B → ℕ → Bool) (links : List Link) (nodes : ℕ) (items : List (Option (Item B Y))) : Type 0 where
    pub benches : (n : ℕ) → n < nodes → (tray : Tray B Y) × BenchAt items n tray
    pub rooms : (l : ℕ) (tray : Tray B Y) → l < length links → BenchAt items (link_at links l).from tray → has_room tray.bench (place_among links l) ≡ false
    pub values : (l : ℕ) → l < length links → (value : Y) × (get_elem? items (nodes + l) ≡ some (Some (Value value)))

  -- the bench keeps its memory and the room for what it is given, and has room at the places of all its links
  pub record IsBack {M : Type 0} (memory : B → M) (has_room : B → ℕ → Bool) (links : List Link) (n : ℕ) (old new : Tray B Y) : Type 0 where
    pub given : new.given ≡ old.given
    pub memory_stays : memory new.bench ≡ memory old.bench
    pub places : (l : ℕ) → l < length links → (link_at links l).from ≡ n → has_room new.bench (place_among links l) ≡ true
    pub others : (place : ℕ) → ((l : ℕ) → l < length links → (link_at links l).from ≡ n → place_among links l ≢ place) → has_room new.bench place ≡ has_room old.bench place

  abbrev pub AreBack : {M : Type 0} → (B → M) → (B → ℕ → Bool) → List Link → ℕ → List (Option (Item B Y)) → List (Option (Item B Y)) → Type 0
  AreBack memory has_room links nodes old new =
      (n : ℕ) (before : Tray B Y) → n < nodes → BenchAt old n before → (tray : Tray B Y) × BenchAt new n tray × IsBack memory has_room links n before tray
