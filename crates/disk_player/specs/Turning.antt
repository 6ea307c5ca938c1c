-- What a turn of the player of a disk file does.
--     samples_of blocks      the samples of each
--     PutsEach before blocks after      these blocks went into the ring
--     Reads before read after      these blocks were read from the file
--     IsReady playing      a block waits, or the end stands
--     PutsOn count before after      so many blocks were put
--     HowEnds most count passed after turn      how a turn ends behind that
--     Turns most before after turn      all of it
--     Breaks most before after      or a read failed
use Rattle.std.specs.Prelude.{◌≡◌, ℕ, ◌*◌, ◌<◌, ◌≤◌, true, false, List, [], ◌∷◌, ◌++◌, length, map, drop, All, ℤ, Some, is_none}
use Rattle.session_model.specs.Rings.{RingBlock}
use Rattle.driver_words.specs.Rings.{Sending, Puts, IsFull}
use Rattle.disk_player.specs.Playing.{AreBlocks, Playing, in_hand}
use Rattle.disk_player.specs.declared.player.TurnEnd.{TurnEnd}
use Rattle.disk_player.specs.declared.player.TurnEnd.TheVariants.{Put, Full, Ended}

abbrev pub samples_of : List RingBlock → List (List ℤ)
samples_of blocks = map (λ (block : RingBlock). block.samples) blocks

-- in their order, each by a put of its own, with the look of this very put
abbrev pub PutsEach : Sending → List RingBlock → Sending → Type 0
PutsEach before [] after = after ≡ before
PutsEach before (block ∷ blocks) after = (look : ℕ) × (between : Sending) × Puts before block look between × PutsEach between blocks after

-- each is whole; where the file tells its samples they are the next ones, and are left no more
pub record Reads (before : Playing) (read : List (List ℤ)) (after : Playing) : Type 0 where
  pub whole : All (λ block. length block ≡ before.sending.samples) read
  pub told : (left : List ℤ) → before.left ≡ Some left → AreBlocks before.sending.samples left read × (after.left ≡ Some (drop (length read * before.sending.samples) left))
  pub over : (left : List ℤ) → before.left ≡ Some left → (before.over ≡ true → left ≡ []) → after.over ≡ true → after.left ≡ Some []

-- the end stands exactly where no block waits, and only where the file's end was found
pub record IsReady (playing : Playing) : Type 0 where
  pub going : playing.failed ≡ false
  pub ended : playing.sending.ended ≡ is_none playing.waiting
  pub over : playing.sending.ended ≡ true → playing.over ≡ true

-- blocks were put: first the one that waited, then those that were read, but for the last, which waits
pub record PutsOn (count : ℕ) (before after : Playing) : Type 0 where
  pub blocks : List RingBlock
  pub sent : Sending
  pub read : List (List ℤ)
  pub count_is : length blocks ≡ count
  pub puts : PutsEach before.sending blocks sent
  pub reads : Reads before read after
  pub hand : samples_of blocks ++ in_hand after.waiting ≡ in_hand before.waiting ++ read
  pub still : after.sending.ended ≡ false → after.sending ≡ sent
  pub ended : after.sending.ended ≡ true → after.sending ≡ record sent { ended = true }
  pub format : after.format ≡ before.format
  pub faults : after.faults ≡ before.faults
  pub ready : IsReady after

-- a turn ends behind as many blocks as it may put, where a put finds the ring full, or where all of the file was put
abbrev pub HowEnds : ℕ → ℕ → Playing → Playing → TurnEnd → Type 0
HowEnds most count passed after (Put n) = (n ≡ most) × (count ≡ most) × (passed.sending.ended ≡ false) × (after ≡ passed)
HowEnds most count passed after (Full sent taken) =
    (count < most) × (passed.sending.ended ≡ false) × (sent ≡ length passed.sending.put) × IsFull passed.sending taken after.sending
    × (after ≡ record passed { sending = after.sending })
HowEnds most count passed after Ended = (count ≤ most) × (passed.sending.ended ≡ true) × (after ≡ passed)

pub record Turns (most : ℕ) (before after : Playing) (turn : TurnEnd) : Type 0 where
  pub count : ℕ
  pub passed : Playing
  pub puts : PutsOn count before passed
  pub ends : HowEnds most count passed after turn

-- all blocks that were read before the read that failed were put, and no end
pub record Breaks (most : ℕ) (before after : Playing) : Type 0 where
  pub blocks : List RingBlock
  pub read : List (List ℤ)
  pub few : length blocks ≤ most
  pub puts : PutsEach before.sending blocks after.sending
  pub whole : All (λ block. length block ≡ before.sending.samples) read
  pub told : (left : List ℤ) → before.left ≡ Some left → AreBlocks before.sending.samples left read
  pub hand : samples_of blocks ≡ in_hand before.waiting ++ read
  pub going : after.sending.ended ≡ false
  pub format : after.format ≡ before.format
