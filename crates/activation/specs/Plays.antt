-- What each step on a crew's table tells its seat.
--     taken      a load of a slot's word takes the slot out
--     opened, filled, refilled      a load gives the slot that is out back: emptied, with a played bench or a used value, or as it was taken
--     started_by, released_by      the decrement of a node's counter, for its start or for a link
--     came_home      the decrement of the count of benches out
--     left_node, picked      the store of a node's left word, and its exchange
--     left_of, right_of, joined      how views are split and joined
--     entered      a load behind which the seat knows the whole table
--     stored, lifted, laid_down      what it then does with words and slots
--     unlinked, linked      the list of links is made anew
--     begun      the next cycle begins
use Rattle.std.specs.Prelude.{◌≡◌, ◌≢◌, ◌≤◌, ◌<◌, ◌+◌, ◌-◌, ◌==◌, ℕ, suc, Bool, true, false, cond, List, [], ◌∷◌, ◌++◌, length, slice_set, ◌⊎◌}
use mathlib.Core.Option.{some}
use lib.ListN.{get_elem?}
use Rattle.atomic_table.specs.Table.{Me, Step, rest}
use Rattle.session_laws.specs.jack_types.specs.declared.ports.Link.{Link}
use Rattle.session_laws.specs.session_model.specs.Activation.{link_at, fresh}
use Rattle.activation.specs.declared.views.Duty.{Duty}
use Rattle.activation.specs.declared.views.Hand.{Hand}
use Rattle.activation.specs.declared.views.View.{View}
use Rattle.activation.specs.Rule.{has, Once}

-- the slot of the bench of n, or of the value of a link into n
abbrev pub IsSlotOf : List Link → ℕ → ℕ → ℕ → Type 0
IsSlotOf links nodes n q = ((q < nodes) × (n ≡ q)) ⊎ ((l : ℕ) × (l < length links) × (q ≡ nodes + l) × ((link_at links l).to ≡ n))

-- the slot of a link that goes out from n
abbrev pub IsRoomOf : List Link → ℕ → ℕ → ℕ → ℕ → Type 0
IsRoomOf links nodes n l q = (l < length links) × (q ≡ nodes + l) × ((link_at links l).from ≡ n)

-- the slot that a seat took last
abbrev pub slot_of : {S : Type 0} → List (ℕ × S) → ℕ
slot_of [] = 0
slot_of (x ∷ _) = x.0

-- the slot that is out is laid down
abbrev pub put_item : {S : Type 0} → List S → List (ℕ × S) → List S
put_item items [] = items
put_item items (x ∷ _) = slice_set items x.0 x.1

abbrev pub first_of : List ℕ → ℕ
first_of [] = 0
first_of (x ∷ _) = x

abbrev pub rest_of : List ℕ → List ℕ
rest_of [] = []
rest_of (x ∷ xs) = xs

abbrev pub without : ℕ → List ℕ → List ℕ
without n [] = []
without n (x ∷ xs) = cond (x == n) (without n xs) (x ∷ without n xs)

-- no left word is on
abbrev pub AreClear : ℕ → List ℕ → Type 0
AreClear nodes words = (n : ℕ) → n < nodes → get_elem? words (nodes + 513 + n) ≡ some 0

module _ {S B : Type 0} where
  abbrev pub with_hand : View S B → Hand → View S B
  with_hand v hand = record v { hand = hand }

  abbrev pub out_after : View S B → ℕ → View S B
  out_after v q = with_hand v (record v.hand { out = q ∷ [] })

  abbrev pub open_after : View S B → ℕ → View S B
  open_after v q = with_hand v record { out = []; node = v.hand.node; floor = suc q; ready = []; back = [] }

  abbrev pub fill_after : View S B → ℕ → View S B
  fill_after v q = with_hand v record { out = []; node = v.hand.node; floor = length v.duty.before + length v.duty.links; ready = q ∷ v.hand.ready; back = [] }

  abbrev pub refill_after : View S B → ℕ → View S B
  refill_after v q = with_hand v record { out = []; node = v.hand.node; floor = length v.duty.before + length v.duty.links; ready = []; back = q ∷ v.hand.back }

  -- the seat holds the node, whose slots are as they came
  abbrev pub hold_after : View S B → ℕ → View S B
  hold_after v n = record v { duty = record v.duty { held = n ∷ v.duty.held }; hand = record { out = []; node = n; floor = 0; ready = []; back = [] } }

  -- the lists of what it started and released, with no slot out
  abbrev pub mark_after : View S B → List ℕ → List ℕ → View S B
  mark_after v started released = record v { duty = record v.duty { started = started; released = released }; hand = record v.hand { out = [] } }

  -- a slot of the seat: of a node that it holds, or of a link out of one that is not released
  abbrev pub Owns : View S B → ℕ → Type 0
  Owns v q =
      ((n : ℕ) × (has v.duty.held n ≡ true) × IsSlotOf v.duty.links (length v.duty.before) n q)
      ⊎ ((n : ℕ) × (l : ℕ) × (has v.duty.held n ≡ true) × IsRoomOf v.duty.links (length v.duty.before) n l q × (has v.duty.released l ≡ false))

  abbrev pub start_after : View S B → ℕ → View S B
  start_after v n = mark_after v (n ∷ v.duty.started) v.duty.released

  abbrev pub release_after : View S B → ℕ → View S B
  release_after v l = mark_after v v.duty.started (l ∷ v.duty.released)

  abbrev pub home_after : View S B → ℕ → View S B
  home_after v n = record v { duty = record v.duty { held = without n v.duty.held }; hand = record v.hand { ready = [] } }

  abbrev pub leave_after : View S B → ℕ → View S B
  leave_after v n = record v { duty = record v.duty { held = without n v.duty.held; left = n ∷ v.duty.left }; hand = record v.hand { back = [] } }

  -- the seat looked for the node
  abbrev pub look_after : View S B → ℕ → View S B
  look_after v n = record v { duty = record v.duty { left = without n v.duty.left } }

  abbrev pub taken : (List Link → List B → ℕ → S → Type 0) → Step S → Me S (View S B) → ℕ → Me S (View S B) → Type 0
  taken full st m r m' =
      (m'.0 ≡ out_after m.0 st.word)
      × ((x : S) × (m'.1 ≡ (st.word, x) ∷ []) × ((n : ℕ) → has m.0.duty.held n ≡ true → IsSlotOf m.0.duty.links (length m.0.duty.before) n st.word → m.0.hand.node ≡ n → m.0.hand.floor ≤ st.word → full m.0.duty.links m.0.duty.before st.word x))

  abbrev pub opened : Step S → Me S (View S B) → ℕ → Me S (View S B) → Type 0
  opened st m r m' = m' ≡ (open_after m.0 (slot_of m.1), rest m.1)

  abbrev pub filled : Step S → Me S (View S B) → ℕ → Me S (View S B) → Type 0
  filled st m r m' = m' ≡ (fill_after m.0 (slot_of m.1), rest m.1)

  abbrev pub refilled : Step S → Me S (View S B) → ℕ → Me S (View S B) → Type 0
  refilled st m r m' = m' ≡ (refill_after m.0 (slot_of m.1), rest m.1)

  -- the seat did not hold the node before, and released none of its links
  abbrev pub IsNew : View S B → View S B → ℕ → Type 0
  IsNew v w n = (has v.duty.held n ≡ false) × ((l : ℕ) → l < length v.duty.links → (link_at v.duty.links l).from ≡ n → has w.duty.released l ≡ false)

  -- the counter is the word; where it falls to zero the seat holds the node
  abbrev pub started_by : Step S → Me S (View S B) → ℕ → Me S (View S B) → Type 0
  started_by st m r m' =
      (r ≢ 1 → m' ≡ (start_after m.0 st.word, m.1))
      × (r ≡ 1 → (m' ≡ (hold_after (start_after m.0 st.word) st.word, m.1)) × IsNew m.0 m'.0 st.word)

  -- the link's slot is given back with its value
  abbrev pub released_by : Step S → Me S (View S B) → ℕ → Me S (View S B) → Type 0
  released_by st m r m' =
      let l = slot_of m.1 - length m.0.duty.before in
      (r ≢ 1 → m' ≡ (release_after m.0 l, rest m.1))
      × (r ≡ 1 → (m' ≡ (hold_after (release_after m.0 l) st.word, rest m.1)) × IsNew m.0 m'.0 st.word)

  -- the node whose bench was laid down last is home
  abbrev pub came_home : Step S → Me S (View S B) → ℕ → Me S (View S B) → Type 0
  came_home st m r m' = m' ≡ (home_after m.0 (first_of m.0.hand.ready), m.1)

  -- the node whose bench was put back last is left
  abbrev pub left_node : Step S → Me S (View S B) → ℕ → Me S (View S B) → Type 0
  left_node st m r m' = m' ≡ (leave_after m.0 (first_of m.0.hand.back), m.1)

  -- the word is the node's left word; where it is 1 the seat holds the node
  abbrev pub picked : Step S → Me S (View S B) → ℕ → Me S (View S B) → Type 0
  picked st m r m' =
      let n = st.word - (length m.0.duty.before + 513) in
      (r ≢ 1 → m' ≡ (look_after m.0 n, m.1))
      × (r ≡ 1 → (m' ≡ (hold_after (look_after m.0 n) n, m.1)) × IsNew m.0 m'.0 n)

  -- ---- seats that hold nothing are split and joined

  -- the seat keeps its shares but the first
  abbrev pub left_of : View S B → View S B
  left_of v = record v { duty = record v.duty { shares = rest_of v.duty.shares } }

  -- a new seat has the first share
  abbrev pub right_of : View S B → View S B
  right_of v = record v { duty = record v.duty { shares = first_of v.duty.shares ∷ [] } }

  abbrev pub joined : View S B → View S B → View S B
  joined v w = record v { duty = record v.duty { shares = v.duty.shares ++ w.duty.shares; started = v.duty.started ++ w.duty.started; released = v.duty.released ++ w.duty.released } }

  abbrev pub nobody : View S B
  nobody = record {
    is_live = false;
    is_still = false;
    duty = record { links = []; before = []; seats = 0; shares = []; started = []; released = []; held = []; left = [] };
    hand = record { out = []; node = 0; floor = 0; ready = []; back = [] };
    shelf = record { words = []; items = []; out = [] };
  }

  -- ---- one seat knows the whole table

  abbrev pub still_after : View S B → List ℕ → List S → View S B
  still_after v words items = record v { is_still = true; shelf = record { words = words; items = items; out = [] } }

  -- every node was started, or none
  abbrev pub AllStarted : View S B → Bool → Type 0
  AllStarted v b = (n : ℕ) → n < length v.duty.before → has v.duty.started n ≡ b

  -- where every node was started, each is home and each link was released once; the counter of a node tells which of the two it is
  abbrev pub Through : (full done : List Link → List B → ℕ → S → Type 0) → Duty B → List S → Type 0
  Through full done d items =
      ((n : ℕ) → n < length d.before → (x : S) × done d.links d.before n x × (get_elem? items n ≡ some x))
      × ((l : ℕ) → l < length d.links → (x : S) × done d.links d.before (length d.before + l) x × (get_elem? items (length d.before + l) ≡ some x))
      × ((l : ℕ) → l < length d.links → has d.released l ≡ true)

  abbrev pub Ahead : (full done : List Link → List B → ℕ → S → Type 0) → Duty B → List ℕ → List S → Type 0
  Ahead full done d words items =
      ((n : ℕ) → n < length d.before → (x : S) × full d.links d.before n x × (get_elem? items n ≡ some x))
      × ((others : List ℕ) × (words ≡ (fresh (length d.before) d.links).counters ++ others))

  abbrev pub entered : (full done : List Link → List B → ℕ → S → Type 0) → Step S → Me S (View S B) → ℕ → Me S (View S B) → Type 0
  entered full done st m r m' =
      (words : List ℕ) × (items : List S) × (m' ≡ (still_after m.0 words items, m.1)) × (length items ≡ st.slots)
      × (AllStarted m.0 true → Through full done m.0.duty items × (st.word < length m.0.duty.before → r ≡ 0))
      × (AllStarted m.0 false → Ahead full done m.0.duty words items × (st.word < length m.0.duty.before → 0 < r))
      × Once m.0.duty.released × (length m.0.duty.before + length m.0.duty.links ≤ length items) × (length m.0.duty.before ≤ length words) × AreClear (length m.0.duty.before) words

  abbrev pub stored : Step S → Me S (View S B) → ℕ → Me S (View S B) → Type 0
  stored st m r m' = m' ≡ (record m.0 { shelf = record m.0.shelf { words = slice_set m.0.shelf.words st.word st.first } }, m.1)

  abbrev pub lifted : Step S → Me S (View S B) → ℕ → Me S (View S B) → Type 0
  lifted st m r m' = (x : S) × (get_elem? m.0.shelf.items st.word ≡ some x) × (m' ≡ (record m.0 { shelf = record m.0.shelf { out = st.word ∷ [] } }, (st.word, x) ∷ []))

  abbrev pub laid_down : Step S → Me S (View S B) → ℕ → Me S (View S B) → Type 0
  laid_down st m r m' = m' ≡ (record m.0 { shelf = record m.0.shelf { items = put_item m.0.shelf.items m.1; out = [] } }, rest m.1)

  abbrev pub with_links : View S B → List Link → View S B
  with_links v links = record v { duty = record v.duty { links = links } }

  -- the seat's list of links is emptied
  abbrev pub unlinked : Step S → Me S (View S B) → ℕ → Me S (View S B) → Type 0
  unlinked st m r m' = m' ≡ (with_links m.0 [], m.1)

  -- a link is added to it: the word is its source, and the number that is stored its target
  abbrev pub linked : Step S → Me S (View S B) → ℕ → Me S (View S B) → Type 0
  linked st m r m' =
      m' ≡ (
        record m.0 {
          duty = record m.0.duty { links = m.0.duty.links ++ record { from = st.word; to = st.first } ∷ [] };
          shelf = record m.0.shelf { words = slice_set m.0.shelf.words st.word st.first };
        },
        m.1,
      )

  -- a new cycle, over the benches that lie in the slots
  abbrev pub begin_after : (List S → List B) → View S B → View S B
  begin_after benches_in v = record v {
    is_still = false;
    duty = record v.duty { before = benches_in v.shelf.items; started = []; released = []; held = []; left = [] };
    hand = record { out = []; node = 0; floor = 0; ready = []; back = [] };
  }

  abbrev pub begun : (ℕ → List S → List B) → Step S → Me S (View S B) → ℕ → Me S (View S B) → Type 0
  begun benches_in st m r m' = m' ≡ (begin_after (benches_in st.slots) m.0, m.1)

  -- the one seat with these items, or with these words, and no slot out
  abbrev pub with_items : View S B → List S → View S B
  with_items v items = record v { shelf = record v.shelf { items = items; out = [] } }

  abbrev pub with_words : View S B → List ℕ → View S B
  with_words v words = record v { shelf = record v.shelf { words = words } }
