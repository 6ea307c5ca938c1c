-- All seats of a crew between two calls.
--     AreSeats id links nodes count all      all the seats of a crew, each with its share; none holds a node, and what it left it looked for again
--     HavePlayed nodes count all      each started every node of its share, so every node is home
--     AreUnused all      none started a node
--     Know before all      each knows these benches before the cycle
--     AreFresh links before count all      each is as new over these links and benches
--     ArePlayed .. links before benches      each bench is sequential, and handed the values of all its links
--     AreReturned .. links before benches      each bench is sequential, and has the room that it had
use Rattle.std.specs.Prelude.{◌≡◌, ◌<◌, ◌+◌, ◌≤◌, ◌%◌, ◌++◌, ℕ, Bool, true, List, [], ◌∷◌, length, map, All, Option, vec_capacity}
use Rattle.std.specs.Global.{Vec}
use mathlib.Core.Option.{some}
use lib.ListN.{get_elem?}
use Rattle.atomic_table.specs.Seated.{TableId}
use Rattle.session_laws.specs.jack_types.specs.declared.ports.Link.{Link}
use Rattle.session_laws.specs.session_model.specs.Activation.{AreLinks, incoming}
use Rattle.session_laws.specs.session_model.specs.Samples.{below}
use Rattle.activation.specs.declared.takens.Seat.{Seat}
use Rattle.activation.specs.declared.views.Item.{Item}
use Rattle.activation.specs.declared.views.View.{View}
use Rattle.activation.specs.Rule.{has}
use Rattle.activation.specs.Contents.{Roomed, IsPlayedAt, AreLaid, benches_of, from_to}
use Rattle.activation.specs.Plays.{AreClear}
use Rattle.activation.specs.Seats.{Sits, new_duty}

module _ {B Y M : Type 0} where
  pub record AreSeats (id : TableId) (links : List Link) (nodes count : ℕ) (all : List (Seat B Y M)) : Type 0 where
    pub numbers : map (λ (seat : Seat B Y M). seat.number) all ≡ below count
    pub each : All (λ (seat : Seat B Y M). Sits id links nodes count seat.number seat.token × (seat.token.me.0.duty.held ≡ []) × (seat.token.me.0.duty.left ≡ [])) all

  abbrev pub HavePlayed : ℕ → ℕ → List (Seat B Y M) → Type 0
  HavePlayed nodes count all = All (λ (seat : Seat B Y M). (n : ℕ) → n < nodes → n % count ≡ seat.number → has seat.token.me.0.duty.started n ≡ true) all

  abbrev pub AreUnused : List (Seat B Y M) → Type 0
  AreUnused all = All (λ (seat : Seat B Y M). seat.token.me.0.duty.started ≡ []) all

  abbrev pub Know : List B → List (Seat B Y M) → Type 0
  Know before all = All (λ (seat : Seat B Y M). seat.token.me.0.duty.before ≡ before) all

  abbrev pub AreFresh : List Link → List B → ℕ → List (Seat B Y M) → Type 0
  AreFresh links before count all = All (λ (seat : Seat B Y M). seat.token.me.0.duty ≡ new_duty links before count (seat.number ∷ [])) all

module _ {B M Y : Type 0} (memory : B → M) (has_room : B → ℕ → Bool) (after : M → List Y → M) (gives : M → List Y → ℕ → Y) where
  abbrev pub ArePlayed : List Link → List B → List B → Type 0
  ArePlayed links before benches = (n : ℕ) (bench : B) → get_elem? benches n ≡ some bench
      → IsPlayedAt memory has_room after gives links before n (memory bench) × ((old : B) → get_elem? before n ≡ some old → Roomed has_room links n old bench (λ _. true))

  abbrev pub IsReturned : List Link → List B → ℕ → B → Type 0
  IsReturned links before n bench = IsPlayedAt memory has_room after gives links before n (memory bench) × ((old : B) → get_elem? before n ≡ some old → (place : ℕ) → has_room bench place ≡ has_room old place)

  abbrev pub AreReturned : List Link → List B → List B → Type 0
  AreReturned links before benches = (n : ℕ) (bench : B) → get_elem? benches n ≡ some bench → IsReturned links before n bench

-- a crew keeps the room for every list of links
pub record IsRoomy (seats : ℕ) (links : Vec Link) (into : List (Vec ℕ)) (places : Vec ℕ) : Type 0 where
  pub some_seat : 0 < seats
  pub few_seats : seats ≤ 16
  pub for_links : 512 ≤ vec_capacity links
  pub for_into : All (λ (which : Vec ℕ). 512 ≤ vec_capacity which) into
  pub for_places : 512 ≤ vec_capacity places

-- the one seat has laid benches and counters for the next cycle
pub record IsLaidOut {B Y : Type 0} (slots : ℕ) (v : View (Option (Item B Y)) B) : Type 0 where
  pub are : AreLinks (length (benches_of slots v.shelf.items)) v.duty.links
  pub laid : AreLaid (benches_of slots v.shelf.items) v.shelf.items
  pub clear : AreClear (length (benches_of slots v.shelf.items)) v.shelf.words
  pub counters : (others : List ℕ) × (v.shelf.words ≡ map (λ n. length (incoming v.duty.links n) + 1) (below (length (benches_of slots v.shelf.items))) ++ others)
  pub long : length (benches_of slots v.shelf.items) + length v.duty.links ≤ length v.shelf.items
  pub some_seat : 0 < v.duty.seats
  pub shares : v.duty.shares ≡ from_to 0 v.duty.seats
