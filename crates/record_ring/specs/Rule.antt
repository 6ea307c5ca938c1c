-- The rule of a ring's table: its words, slots and views show a valid state of the ring machine. No public clause cites this module.
-- The number p of a block is how many were put before it. Its slot is p modulo the number of slots.
use Rattle.std.specs.Prelude.{◌≡◌, ℕ, ◌+◌, ◌*◌, ◌%◌, ◌<◌, ◌≤◌, Bool, true, false, List, [], ◌∷◌, length, take, All}
use mathlib.Core.Option.{some}
use lib.ListN.{get_elem?}
use Rattle.atomic_table.specs.Table.{State}
use Rattle.driver_words.specs.session_model.specs.Rings.{RingBlock, Ring, IsRing}
use Rattle.record_ring.specs.declared.block.Block.{Block}
use Rattle.record_ring.specs.declared.view.Size.{Size}
use Rattle.record_ring.specs.declared.view.ProducerView.{ProducerView}
use Rattle.record_ring.specs.declared.view.ConsumerView.{ConsumerView}
use Rattle.record_ring.specs.declared.view.SeatView.{SeatView}
use Rattle.record_ring.specs.Rings.{content}

-- 1 for true
abbrev pub weight : Bool → ℕ
weight true = 1
weight false = 0

-- the block was made for so many samples
abbrev pub HasRoomFor : ℕ → Block → Type 0
HasRoomFor n block = block.samples.room ≡ n

-- the state of the ring machine
abbrev pub shown : Size → List RingBlock → ℕ → Bool → ℕ → Ring
shown size put taken ended slots = record { put = put; got = take taken put; ended = ended; capacity = slots; most = size.most }

-- the block out with the consumer, if one is, is that of the number taken
abbrev pub IsNext : List RingBlock → ℕ → ℕ → List RingBlock → Type 0
IsNext put taken out [] = out ≡ 0
IsNext put taken out (x ∷ _) = (out ≡ 1) × (get_elem? put taken ≡ some x)

-- what the producer's seat knows is so: `out` slots are out with it
pub record KnowsPut (size : Size) (put : List RingBlock) (ended : Bool) (taken out : ℕ) (known : Size) (p : ProducerView) : Type 0 where
  pub same_size : known ≡ size
  pub all_put : p.put ≡ put
  pub mark : p.ended ≡ ended
  pub slot_out : weight p.holds ≡ out
  pub least_low : p.least ≤ taken
  pub looks_low : All (λ n. n ≤ p.least) p.looks

-- and what the consumer's seat knows
pub record KnowsGot (size : Size) (put : List RingBlock) (ended : Bool) (taken out : ℕ) (known : Size) (e : ConsumerView) : Type 0 where
  pub same_size : known ≡ size
  pub first_put : e.got ≡ take taken put
  pub next_put : IsNext put taken out e.next
  pub least_low : e.least ≤ length put
  pub finds_low : All (λ n. n ≤ e.least) e.finds
  pub told_end : e.told ≡ true → ended ≡ true
  pub all_done : e.done ≡ true → (ended ≡ true) × (length put ≡ taken)

-- the slot of p holds x at home
abbrev pub IsAt : State Block SeatView → ℕ → Block → Type 0
IsAt s p x = get_elem? s.homes (p % length s.homes) ≡ some (some x)

pub record RingRule (size : Size) (s : State Block SeatView) : Type 0 where
  pub put : List RingBlock
  pub taken : ℕ
  pub ended : Bool
  -- the seats of the producer and the consumer, and how many slots each has out
  pub producer : ℕ
  pub consumer : ℕ
  pub lent : ℕ
  pub drawn : ℕ
  pub words_are : s.words ≡ (2 * length put + weight ended) ∷ taken ∷ []
  pub valid : IsRing (shown size put taken ended (length s.homes))
  pub behind : taken + drawn ≤ length put
  pub within : length put + lent ≤ taken + length s.homes
  pub waiting : (p : ℕ) → taken + drawn ≤ p → p < length put → (x : Block) × (get_elem? put p ≡ some (content x)) × IsAt s p x × HasRoomFor size.samples x
  pub spare : (p : ℕ) → length put + lent ≤ p → p < taken + length s.homes → (y : Block) × HasRoomFor size.samples y × IsAt s p y
  pub each_producer : (j : ℕ) (v : SeatView) → get_elem? s.views j ≡ some v → v.is_producer ≡ true → (j ≡ producer) × KnowsPut size put ended taken lent v.size v.producer
  pub each_consumer : (j : ℕ) (v : SeatView) → get_elem? s.views j ≡ some v → v.is_consumer ≡ true → (j ≡ consumer) × KnowsGot size put ended taken drawn v.size v.consumer

abbrev pub opening_view : Size → SeatView
opening_view size = record {
  size = size;
  is_producer = true;
  is_consumer = true;
  producer = record { put = []; looks = []; least = 0; ended = false; holds = false };
  consumer = record { got = []; next = []; finds = []; least = 0; told = false; done = false };
}
