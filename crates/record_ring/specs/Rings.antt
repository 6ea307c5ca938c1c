-- What contracts see of a ring's blocks, and of a get.
--     content block      a block without its room
--     Gets      what a get does
use Rattle.std.specs.Prelude.{◌≡◌, ℕ, ◌≤◌, ◌<◌, true, false, [], ◌∷◌, ◌++◌, length}
use Rattle.driver_words.specs.session_model.specs.Rings.{RingBlock}
use Rattle.driver_words.specs.Rings.{Getting}
use Rattle.record_ring.specs.declared.block.Block.{Block as Held}
use Rattle.record_ring.specs.declared.consumer.Got.{Got}
use Rattle.record_ring.specs.declared.consumer.Got.TheVariants.{Block, Empty, Ended}

abbrev pub content : Held → RingBlock
content block = record { cycle = block.cycle; samples = block.samples.items }

-- a get finds a number put; behind an end that was found every get answers the end
abbrev pub Gets : Getting → Getting → RingBlock → ℕ → Got → Type 0
Gets before after block found Block =
    (before.done ≡ false) × (before.least ≤ found) × (length before.got < found)
    × (after ≡ record before { got = before.got ++ block ∷ []; finds = before.finds ++ found ∷ []; least = found })
Gets before after block found (Empty sent taken) =
    (before.done ≡ false) × (before.least ≤ found) × (found ≡ length before.got) × (sent ≡ found) × (taken ≡ found) × (before.told ≡ false)
    × (after ≡ record before { finds = before.finds ++ found ∷ []; least = found })
Gets before after block found Ended =
    (before.least ≤ found) × (found ≡ length before.got)
    × (after ≡ record before { finds = before.finds ++ found ∷ []; least = found; done = true })
