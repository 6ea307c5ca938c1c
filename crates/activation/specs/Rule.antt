-- The rule of a crew's table: at every moment its words, its slots and the views of its seats show a consistent state of the activation machine.
--     Cycle full done links before seats s      a cycle: the machine, and for each slot what lies there or who holds it
--     Still s      one seat knows the whole table
--     Rule full done s      one of the two
-- `full` says what may lie in a slot before its node is taken, and `done` what lies there when its node is home.
use Rattle.std.specs.Prelude.{◌≡◌, ◌≤◌, ◌<◌, ◌+◌, ◌%◌, ◌==◌, ℕ, Bool, true, false, cond, List, [], ◌∷◌, ◌++◌, length, map, slice_set, ◌⊎◌}
use mathlib.Core.Option.{Option, some, none}
use lib.ListN.{get_elem?}
use Rattle.atomic_table.specs.Table.{State}
use Rattle.session_laws.specs.jack_types.specs.declared.ports.Link.{Link}
use Rattle.session_laws.specs.session_model.specs.Activation.{AreLinks, Place, Waiting, Held, Left, AtHome, Machine, link_at, is_started, is_released, place_of, IsConsistent}
use Rattle.activation.specs.declared.views.Duty.{Duty}
use Rattle.activation.specs.declared.views.Hand.{Hand}
use Rattle.activation.specs.declared.views.View.{View}

abbrev pub has : List ℕ → ℕ → Bool
has [] n = false
has (x ∷ xs) n = cond (x == n) true (has xs n)

-- a held node counts as played: a play changes no word
abbrev pub IsUsual : ℕ → Place → Type 0
IsUsual seats Waiting = Unit {0}
IsUsual seats (Held seat is_played) = (seat < seats) × (is_played ≡ true)
IsUsual seats Left = Unit {0}
IsUsual seats AtHome = Unit {0}

-- the left word of a node
abbrev pub left_word : Place → ℕ
left_word Left = 1
left_word _ = 0

-- the node that a link's slot goes with: its source until it is released, and then its target
abbrev pub node_of : List Link → Bool → ℕ → ℕ
node_of links true l = (link_at links l).to
node_of links false l = (link_at links l).from

-- the slot q goes with the node n, and whether a bench or a released value belongs there
abbrev pub Goes : List Link → ℕ → Machine → ℕ → Bool → ℕ → Type 0
Goes links nodes machine q is_filled n =
    ((q < nodes) × (n ≡ q) × (is_filled ≡ true))
    ⊎ ((l : ℕ) × (l < length links) × (q ≡ nodes + l) × (is_filled ≡ is_released machine l) × (n ≡ node_of links (is_released machine l) l))

-- the slots of a shelf, without those that are out
abbrev pub laid : {S : Type 0} → List ℕ → List (Option S) → List (Option S)
laid [] hs = hs
laid (q ∷ qs) hs = slice_set (laid qs hs) q none

-- no number stands twice
abbrev pub Once : List ℕ → Type 0
Once [] = Unit {0}
Once (x ∷ xs) = (has xs x ≡ false) × Once xs

-- the number stands in some seat's list
abbrev pub IsInSome : {V : Type 0} → (V → Bool) → (V → List ℕ) → List V → ℕ → Type 0
IsInSome {V} is_live list views x = (j : ℕ) × (v : V) × (get_elem? views j ≡ some v) × (is_live v ≡ true) × (has (list v) x ≡ true)

-- of the numbers below the limit those that are on stand in some seat's list, and each stands in one seat's list, once
pub record Told {V : Type 0} (is_live : V → Bool) (list : V → List ℕ) (limit : ℕ) (on : ℕ → Bool) (views : List V) : Type 0 where
  pub by_some : (x : ℕ) → x < limit → on x ≡ true → IsInSome is_live list views x
  pub by_one : (i j : ℕ) (v w : V) (x : ℕ) → get_elem? views i ≡ some v → get_elem? views j ≡ some w → is_live v ≡ true → is_live w ≡ true → has (list v) x ≡ true → has (list w) x ≡ true → i ≡ j
  pub once : (j : ℕ) (v : V) → get_elem? views j ≡ some v → is_live v ≡ true → Once (list v)

module _ {B : Type 0} where
  -- what a seat's lists say of the machine
  pub record Knows (links : List Link) (before : List B) (seats : ℕ) (machine : Machine) (v : Duty B) : Type 0 where
    pub same_links : v.links ≡ links
    pub same_before : v.before ≡ before
    pub same_seats : v.seats ≡ seats
    pub within : (seat : ℕ) → has v.shares seat ≡ true → seat < seats
    pub some_share : (seat : ℕ) × (has v.shares seat ≡ true)
    pub holds : (n : ℕ) → has v.held n ≡ true → (seat : ℕ) × (has v.shares seat ≡ true) × (place_of machine n ≡ Held seat true)
    pub all_held : (n seat : ℕ) → has v.shares seat ≡ true → place_of machine n ≡ Held seat true → has v.held n ≡ true
    pub own_started : (n : ℕ) → n < length before → has v.shares (n % seats) ≡ true → is_started machine n ≡ has v.started n
    pub own_released : (l : ℕ) → l < length links → has v.held (link_at links l).from ≡ true → is_released machine l ≡ has v.released l
    pub all_started : (n : ℕ) → has v.started n ≡ true → is_started machine n ≡ true
    pub all_released : (l : ℕ) → has v.released l ≡ true → is_released machine l ≡ true

module _ {S B : Type 0} where
  -- each start and each release stands in the list of the seat that made it
  abbrev pub AreTold : List Link → ℕ → Machine → List (View S B) → Type 0
  AreTold links nodes machine views =
      Told (λ (v : View S B). v.is_live) (λ v. v.duty.started) nodes (is_started machine) views
      × Told (λ (v : View S B). v.is_live) (λ v. v.duty.released) (length links) (is_released machine) views

  -- the left word of each node is 1 exactly where it is left, and then it stands in the list of a seat that left it and did not look for it since
  pub record AreLeft (nodes : ℕ) (machine : Machine) (s : State S (View S B)) : Type 0 where
    pub words_are : (n : ℕ) → n < nodes → get_elem? s.words (nodes + 513 + n) ≡ some (left_word (place_of machine n))
    pub by_some : (n : ℕ) → place_of machine n ≡ Left → IsInSome (λ (v : View S B). v.is_live) (λ v. v.duty.left) s.views n

  module _ (full done : List Link → List B → ℕ → S → Type 0) where
    module _ (links : List Link) (before : List B) (s : State S (View S B)) where
      abbrev pub At : (S → Type 0) → ℕ → Type 0
      At P q = (x : S) × P x × (get_elem? s.homes q ≡ some (some x))

      -- what the holder knows of a slot that goes with its node n and is not out
      abbrev pub Keeps : Hand → Bool → ℕ → ℕ → S → Type 0
      Keeps hand is_filled n q x =
          (is_filled ≡ true → hand.node ≡ n → hand.floor ≤ q → full links before q x)
          × (is_filled ≡ true → has hand.ready q ≡ true → done links before q x)
          × (is_filled ≡ true → has hand.back q ≡ true → full links before q x)

      abbrev pub HeldAt : ℕ → Bool → ℕ → ℕ → Type 0
      HeldAt seat is_filled n q = (j : ℕ) (v : View S B) → get_elem? s.views j ≡ some v → v.is_live ≡ true → has v.duty.shares seat ≡ true → has v.hand.out q ≡ false → At (Keeps v.hand is_filled n q) q

      -- a slot of a node that no seat holds, and that was not played
      abbrev pub Stands : Bool → ℕ → Type 0
      Stands true q = At (full links before q) q
      Stands false q = At (λ _. Unit {0}) q

      -- what lies in the slot q, which goes with the node n at that place
      abbrev pub Lies : Place → Bool → ℕ → ℕ → Type 0
      Lies Waiting is_filled n q = Stands is_filled q
      Lies (Held seat is_played) is_filled n q = HeldAt seat is_filled n q
      Lies Left is_filled n q = Stands is_filled q
      Lies AtHome true n q = At (done links before q) q
      Lies AtHome false n q = Unit {0}

    pub record Cycle (links : List Link) (before : List B) (seats : ℕ) (s : State S (View S B)) : Type 0 where
      pub machine : Machine
      pub others : List ℕ
      pub are : AreLinks (length before) links
      pub some_seat : 0 < seats
      pub size : length machine.places ≡ length before
      pub consistent : IsConsistent links machine
      pub usual : (n : ℕ) → IsUsual seats (place_of machine n)
      pub words_are : s.words ≡ machine.counters ++ others
      pub homes_long : length before + length links ≤ length s.homes
      pub slots : (q : ℕ) (is_filled : Bool) (n : ℕ) → Goes links (length before) machine q is_filled n → Lies links before s (place_of machine n) is_filled n q
      pub spare : (q : ℕ) → length before + length links ≤ q → q < length s.homes → At links before s (λ _. Unit {0}) q
      pub each_seat : (j : ℕ) (v : View S B) → get_elem? s.views j ≡ some v → v.is_live ≡ true → (v.is_still ≡ false) × Knows links before seats machine v.duty
      pub told : AreTold links (length before) machine s.views
      pub left : AreLeft (length before) machine s
      pub alone : (i j : ℕ) (v w : View S B) (seat : ℕ) → get_elem? s.views i ≡ some v → get_elem? s.views j ≡ some w → v.is_live ≡ true → w.is_live ≡ true → has v.duty.shares seat ≡ true → has w.duty.shares seat ≡ true → i ≡ j

    -- some cycle is under way
    abbrev pub Running : State S (View S B) → Type 0
    Running s = (links : List Link) × (before : List B) × (seats : ℕ) × Cycle links before seats s

    pub record Still (s : State S (View S B)) : Type 0 where
      pub sole : ℕ
      pub view : View S B
      pub there : get_elem? s.views sole ≡ some view
      pub still : view.is_still ≡ true
      pub one : (j : ℕ) (v : View S B) → get_elem? s.views j ≡ some v → v.is_live ≡ true → j ≡ sole
      pub words_are : s.words ≡ view.shelf.words
      pub homes_are : s.homes ≡ laid view.shelf.out (map some view.shelf.items)

    abbrev pub Rule : State S (View S B) → Type 0
    Rule s = Running s ⊎ Still s
