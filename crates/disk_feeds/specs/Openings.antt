-- The disks' rings as they are made.
--     AreOpened capacity period channels disks out      the two ends of each disk's ring
--     IsNew channels capacity period misses seen      all of it
use Rattle.std.specs.Prelude.{◌≡◌, ℕ, ◌*◌, ◌^◌, ◌<◌, ◌≤◌, List, [], length, map, slice_index, slice_index_or, All, MatchOption, Option, None}
use Rattle.driver_words.specs.Rings.{Sending, Getting, IsOpening}
use Rattle.driver_laws.specs.Openings.{IsEmptyDisk}
use Rattle.driver_words.specs.Feeding.{Fed, no_block, no_ring}

-- each disk has both ends of a new ring, for blocks of a period, of at most 2^33 samples together
pub record AreOpened (capacity period : ℕ) (channels : List ℕ) (disks : List Getting) (out : List (Option Sending)) : Type 0 where
  pub as_many : length disks ≡ length channels
  pub ends : length out ≡ length channels
  pub each : (disk : ℕ) → disk < length channels
      → MatchOption (slice_index_or out disk None) ⊥ (λ (sending : Sending). IsOpening capacity (period * slice_index channels disk) (2 ^ 33) sending (slice_index_or disks disk no_ring))

-- nothing was got, nothing was missed, and no end is out
pub record IsNew (channels : List ℕ) (capacity period misses : ℕ) (seen : Fed) : Type 0 where
  pub channels_are : seen.channels ≡ channels
  pub opened : AreOpened capacity period channels seen.disks seen.out
  pub empty : All IsEmptyDisk seen.disks
  pub played : seen.played ≡ map (λ _. 0) channels
  pub blocks : seen.blocks ≡ map (λ _. no_block) channels
  pub underruns : seen.underruns ≡ []
  pub period_is : seen.period ≡ period
  pub misses_kept : misses ≤ seen.misses
