-- The rings of recorders as they are made.
--     AreOpened capacity period channels rings out      the two ends of each recorder's ring
--     IsNew formats capacity period losses seen      all of it
use Rattle.std.specs.Prelude.{◌≡◌, ℕ, ◌*◌, ◌<◌, ◌≤◌, List, [], length, map, slice_index, slice_index_or, All, MatchOption, Option, None}
use Rattle.jack_types.specs.declared.files.Format.{Format}
use Rattle.driver_words.specs.Rings.{Sending, Getting, IsOpening}
use Rattle.driver_laws.specs.Openings.{IsEmptyRing}
use Rattle.recorder_rings.specs.Sending.{Sent, no_ring}

-- each recorder has both ends of a new ring, for blocks of a period, of at most 500,000,000 samples together
pub record AreOpened (capacity period : ℕ) (channels : List ℕ) (rings : List Sending) (out : List (Option Getting)) : Type 0 where
  pub as_many : length rings ≡ length channels
  pub ends : length out ≡ length channels
  pub each : (recorder : ℕ) → recorder < length channels
      → MatchOption (slice_index_or out recorder None) ⊥ (IsOpening capacity (period * slice_index channels recorder) 500000000 (slice_index_or rings recorder no_ring))

-- nothing was put, nothing was lost, and no end is out
pub record IsNew (formats : List Format) (capacity period losses : ℕ) (seen : Sent) : Type 0 where
  pub channels : seen.channels ≡ map (λ (format : Format). format.channels) formats
  pub opened : AreOpened capacity period seen.channels seen.rings seen.out
  pub empty : All (IsEmptyRing capacity) seen.rings
  pub sent : seen.sent ≡ map (λ _. 0) formats
  pub overruns : seen.overruns ≡ []
  pub room : seen.room ≡ period
  pub losses_kept : losses ≤ seen.losses
