-- The fields of the driver's end of the disks' rings, and what stays true of them. No public clause cites this module.
--     given_in feed      the block that a player has
--     fed_of disks out feeds underruns period misses      what contracts see
--     IsFeed, IsSound      what stays true
--     AreMade period channels feeds      feeds as they are made
--     FeedsFrom before after ring ring_after      what a get from a ring makes of a feed
--     listed x      what is there, as a list
use Rattle.std.specs.Prelude.{◌≡◌, ℕ, ◌*◌, ◌≤◌, List, [], ◌∷◌, length, map, ℤ, All, Option, Some, None, if◌then◌else◌}
use Rattle.jack_types.specs.declared.replies.Underrun.{Underrun}
use Rattle.driver_words.specs.Rings.{Sending, Getting}
use Rattle.disk_feeds.specs.declared.feed.Feed.{Feed}
use Rattle.disk_feeds.specs.Cycling.{given_of, played_by}
use Rattle.driver_words.specs.Feeding.{Fed, no_block}

abbrev pub given_in : Feed → Option (List ℤ)
given_in feed = if feed.is_given then Some feed.block.samples.items else None

abbrev pub fed_of : List Getting → List (Option Sending) → List Feed → List Underrun → ℕ → ℕ → Fed
fed_of disks out feeds underruns period misses = record {
  disks = disks;
  out = out;
  channels = map (λ (feed : Feed). feed.channels) feeds;
  played = map (λ (feed : Feed). feed.played) feeds;
  blocks = map given_in feeds;
  underruns = underruns;
  period = period;
  misses = misses;
}

-- a block of a period, of 1 to 8 channels
pub record IsFeed (period : ℕ) (feed : Feed) : Type 0 where
  pub least : 1 ≤ feed.channels
  pub most : feed.channels ≤ 8
  pub room : feed.block.samples.room ≡ period * feed.channels
  pub whole : length feed.block.samples.items ≡ period * feed.channels

-- all lists are of the same disks
pub record IsSound (disks : List Getting) (out : List (Option Sending)) (feeds : List Feed) (period : ℕ) : Type 0 where
  pub ends : length out ≡ length disks
  pub as_many : length feeds ≡ length disks
  pub few : length disks ≤ 255
  pub each : All (IsFeed period) feeds
  pub frames : period ≤ 4096

-- feeds as they are made: a block of a period each, which nobody has
pub record AreMade (period : ℕ) (channels : List ℕ) (feeds : List Feed) : Type 0 where
  pub each : All (IsFeed period) feeds
  pub channels_are : map (λ (feed : Feed). feed.channels) feeds ≡ channels
  pub played : map (λ (feed : Feed). feed.played) feeds ≡ map (λ _. 0) channels
  pub blocks : map given_in feeds ≡ map (λ _. no_block) channels

-- what a get from a ring makes of a feed
pub record FeedsFrom (before after : Feed) (ring ring_after : Getting) : Type 0 where
  pub given : given_in after ≡ given_of before.block.samples.room ring ring_after
  pub count : after.played ≡ played_by ring ring_after before.played
  pub channels : after.channels ≡ before.channels
  pub room : after.block.samples.room ≡ before.block.samples.room
  pub whole : length after.block.samples.items ≡ length before.block.samples.items

abbrev pub listed : {X : Type 0} → Option X → List X
listed None = []
listed (Some x) = x ∷ []
