-- What each step on a ring's table tells the seat that makes it. No public clause cites this module.
use Rattle.std.specs.Prelude.{◌≡◌, ℕ, ◌+◌, ◌/◌, ◌%◌, ◌<◌, ◌≤◌, Bool, true, false, List, [], ◌∷◌, ◌++◌, length, take, All}
use Rattle.atomic_table.specs.Table.{Me, Step, rest}
use Rattle.driver_words.specs.session_model.specs.Rings.{RingBlock}
use Rattle.record_ring.specs.declared.block.Block.{Block}
use Rattle.record_ring.specs.declared.view.ProducerView.{ProducerView}
use Rattle.record_ring.specs.declared.view.ConsumerView.{ConsumerView}
use Rattle.record_ring.specs.declared.view.SeatView.{SeatView}
use Rattle.record_ring.specs.Rings.{content}
use Rattle.driver_words.specs.Rings.{items_of}
use Rattle.record_ring.specs.Rule.{HasRoomFor, opening_view}

abbrev pub Sat : Type 0
Sat = Me Block SeatView

abbrev pub with_producer : SeatView → ProducerView → SeatView
with_producer v p = record v { producer = p }

abbrev pub with_consumer : SeatView → ConsumerView → SeatView
with_consumer v e = record v { consumer = e }

-- the producer after it found r taken
abbrev pub look_after : ProducerView → ℕ → Bool → ProducerView
look_after p r holds = record p { looks = p.looks ++ r ∷ []; least = r; holds = holds }

-- a load of the number taken; where there is room, the slot of the next block comes out with a spare in it
abbrev pub Looked : Step Block → Sat → ℕ → Sat → Type 0
Looked st m r m' =
    let sent = length m.0.producer.put in
    (m.0.producer.least ≤ r) × (r ≤ sent) × (sent ≤ r + st.slots)
    × (sent ≡ r + st.slots → m' ≡ (with_producer m.0 (look_after m.0.producer r false), m.1))
    × (sent < r + st.slots → (m'.0 ≡ with_producer m.0 (look_after m.0.producer r true)) × ((y : Block) × HasRoomFor m.0.size.samples y × (m'.1 ≡ (sent % st.slots, y) ∷ m.1)))

-- a load of the number taken, of which nothing is noted
abbrev pub Glanced : Step Block → Sat → ℕ → Sat → Type 0
Glanced st m r m' = (m.0.producer.least ≤ r) × (m' ≡ m)

-- the block that a seat took last, if it has one
abbrev pub in_hand : List (ℕ × Block) → List RingBlock
in_hand [] = []
in_hand (x ∷ _) = content x.1 ∷ []

abbrev pub send_after : ProducerView → List RingBlock → ProducerView
send_after p xs = record p { put = p.put ++ xs; holds = false }

-- a store of the number sent: the block in the slot was put
abbrev pub Sent : Step Block → Sat → ℕ → Sat → Type 0
Sent st m r m' = m' ≡ (with_producer m.0 (send_after m.0.producer (in_hand m.1)), rest m.1)

-- a store of the end mark
abbrev pub Marked : Step Block → Sat → ℕ → Sat → Type 0
Marked st m r m' = m' ≡ (with_producer m.0 (record m.0.producer { ended = true }), m.1)

-- the consumer after it found n put
abbrev pub find_after : ConsumerView → ℕ → List RingBlock → Bool → ConsumerView
find_after e n next done = record e { next = next; finds = e.finds ++ n ∷ []; least = n; done = done }

-- a load of the number sent with the mark; where a block waits, its slot comes out with it
abbrev pub Found : Step Block → Sat → ℕ → Sat → Type 0
Found st m r m' =
    let n = r / 2 in let taken = length m.0.consumer.got in
    (m.0.consumer.least ≤ n) × (taken ≤ n) × (m.0.consumer.told ≡ true → r % 2 ≡ 1) × (m.0.consumer.done ≡ true → (n ≡ taken) × (r % 2 ≡ 1))
    × (n ≡ taken → r % 2 ≡ 0 → m' ≡ (with_consumer m.0 (find_after m.0.consumer n [] m.0.consumer.done), m.1))
    × (n ≡ taken → r % 2 ≡ 1 → m' ≡ (with_consumer m.0 (find_after m.0.consumer n [] true), m.1))
    × (taken < n → (x : Block) × HasRoomFor m.0.size.samples x × (m' ≡ (with_consumer m.0 (find_after m.0.consumer n (content x ∷ []) m.0.consumer.done), (taken % st.slots, x) ∷ m.1)))

-- a load of the number sent with the mark, of which nothing is noted
abbrev pub Peeked : Step Block → Sat → ℕ → Sat → Type 0
Peeked st m r m' = (m.0.consumer.least ≤ r / 2) × (m.0.consumer.told ≡ true → r % 2 ≡ 1) × (m.0.consumer.done ≡ true → r % 2 ≡ 1) × (m' ≡ m)

abbrev pub take_after : ConsumerView → ConsumerView
take_after e = record e { got = e.got ++ e.next; next = [] }

-- a store of the number taken: the block that was out was got
abbrev pub Took : Step Block → Sat → ℕ → Sat → Type 0
Took st m r m' = (m' ≡ (with_consumer m.0 (take_after m.0.consumer), rest m.1)) × (items_of (m.0.consumer.got ++ m.0.consumer.next) ≤ m.0.size.most)

-- ---- one seat that is both ends

abbrev pub without_consumer : SeatView → SeatView
without_consumer v = record v { is_consumer = false }

abbrev pub without_producer : SeatView → SeatView
without_producer v = record v { is_producer = false }

abbrev pub joined : SeatView → SeatView → SeatView
joined v w = record { size = v.size; is_producer = true; is_consumer = true; producer = v.producer; consumer = w.consumer }

-- a seat that has handed over what it knew
abbrev pub nobody : SeatView
nobody = without_consumer (without_producer (opening_view record { samples = 0; most = 0 }))

-- what the two ends of a ring of so many slots know of each other where they meet
pub record Meets (slots : ℕ) (p : ProducerView) (e : ConsumerView) : Type 0 where
  pub front : e.got ≡ take (length e.got) p.put
  pub behind : length e.got ≤ length p.put
  pub within : length p.put ≤ length e.got + slots
  pub looks : All (λ n. n ≤ length e.got) p.looks
  pub looks_least : p.least ≤ length e.got
  pub finds : All (λ n. n ≤ length p.put) e.finds
  pub finds_least : e.least ≤ length p.put
  pub whole : e.done ≡ true → (e.got ≡ p.put) × (p.ended ≡ true)

abbrev pub renew_after : SeatView → SeatView
renew_after v = record {
  size = v.size;
  is_producer = true;
  is_consumer = true;
  producer = record v.producer { least = length v.consumer.got; ended = false };
  consumer = record v.consumer { least = length v.producer.put; told = false; done = false };
}

-- a store that takes the end mark away
abbrev pub Renewed : Step Block → Sat → ℕ → Sat → Type 0
Renewed st m r m' = Meets st.slots m.0.producer m.0.consumer × (m' ≡ (renew_after m.0, m.1))

abbrev pub tell_after : SeatView → SeatView
tell_after v = record {
  size = v.size;
  is_producer = true;
  is_consumer = true;
  producer = record v.producer { least = length v.consumer.got };
  consumer = record v.consumer { least = length v.producer.put; told = v.producer.ended };
}

-- a load of the number sent with the mark
abbrev pub Told : Step Block → Sat → ℕ → Sat → Type 0
Told st m r m' = Meets st.slots m.0.producer m.0.consumer × (m' ≡ (tell_after m.0, m.1))
