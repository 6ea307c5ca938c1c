-- The two ends of a ring.
--     Sending, Getting      the ends
--     IsPair, IsOpening      those of one ring, and of a new one
--     Puts, IsFull      what a put does
--     RingMet, Renews, Tells      what both know where they meet, and what they take with them
use Rattle.std.specs.Prelude.{◌≡◌, ℕ, ◌+◌, ◌≤◌, ◌<◌, Bool, true, false, List, [], ◌∷◌, ◌++◌, length, take, All, sum_by}
use Rattle.atomic_table.specs.Seated.{TableId}
use Rattle.session_model.specs.Rings.{RingBlock}

-- how many samples these blocks have
abbrev pub items_of : List RingBlock → ℕ
items_of blocks = sum_by (λ (block : RingBlock). length block.samples) blocks

-- the producer: which ring it is, its capacity and bounds, the blocks put, the number taken that each put found; no later put finds less than `least`
pub record Sending : Type 0 where
  pub table : TableId
  pub capacity : ℕ
  pub samples : ℕ
  pub most : ℕ
  pub put : List RingBlock
  pub looks : List ℕ
  pub least : ℕ
  pub ended : Bool

-- the consumer: the number put that each get found; no later get finds less than `least`; `told` says that each get finds the end, `done` that a get answered it
pub record Getting : Type 0 where
  pub table : TableId
  pub samples : ℕ
  pub most : ℕ
  pub got : List RingBlock
  pub finds : List ℕ
  pub least : ℕ
  pub told : Bool
  pub done : Bool

-- the two ends of one ring
pub record IsPair (sending : Sending) (getting : Getting) : Type 0 where
  pub one : sending.table ≡ getting.table
  pub same_samples : sending.samples ≡ getting.samples
  pub same_most : sending.most ≡ getting.most

-- the ends of a new ring
pub record IsOpening (capacity samples most : ℕ) (sending : Sending) (getting : Getting) : Type 0 where
  pub sending_is : sending ≡ record { table = sending.table; capacity = capacity; samples = samples; most = most; put = []; looks = []; least = 0; ended = false }
  pub getting_is : getting ≡ record { table = sending.table; samples = samples; most = most; got = []; finds = []; least = 0; told = false; done = false }

-- a put looks once at the number taken, and goes in where that leaves room
pub record Puts (before : Sending) (block : RingBlock) (look : ℕ) (after : Sending) : Type 0 where
  pub least : before.least ≤ look
  pub room : length before.put < look + before.capacity
  pub after_is : after ≡ record before { put = before.put ++ block ∷ []; looks = before.looks ++ look ∷ []; least = look }

-- and where it leaves none, nothing goes in
pub record IsFull (before : Sending) (look : ℕ) (after : Sending) : Type 0 where
  pub least : before.least ≤ look
  pub full : length before.put ≡ look + before.capacity
  pub after_is : after ≡ record before { looks = before.looks ++ look ∷ []; least = look }

-- what both ends know where they meet
pub record RingMet (sending : Sending) (getting : Getting) : Type 0 where
  pub front : getting.got ≡ take (length getting.got) sending.put
  pub behind : length getting.got ≤ length sending.put
  pub within : length sending.put ≤ length getting.got + sending.capacity
  pub looks : All (λ look. look ≤ length getting.got) sending.looks
  pub looks_least : sending.least ≤ length getting.got
  pub finds : All (λ found. found ≤ length sending.put) getting.finds
  pub finds_least : getting.least ≤ length sending.put
  pub whole : getting.done ≡ true → (getting.got ≡ sending.put) × (sending.ended ≡ true)

-- no list changes; no later put finds less than was got now, and no later get less than was put now; the end is taken away
pub record Renews (sending : Sending) (getting : Getting) (sending_after : Sending) (getting_after : Getting) : Type 0 where
  pub met : RingMet sending getting
  pub sending_is : sending_after ≡ record sending { least = length getting.got; ended = false }
  pub getting_is : getting_after ≡ record getting { least = length sending.put; told = false; done = false }

-- the same, but an end that stands stays, and each get finds it
pub record Tells (sending : Sending) (getting : Getting) (sending_after : Sending) (getting_after : Getting) : Type 0 where
  pub met : RingMet sending getting
  pub sending_is : sending_after ≡ record sending { least = length getting.got }
  pub getting_is : getting_after ≡ record getting { least = length sending.put; told = sending.ended }
