-- The channels of a period.
--     as_many-read, channel-read      those of a period that was read
--     as_many-rested, channel-rested      those of one that was rested
use Rattle.std.proofs.Common.{◌≡◌, ℕ, ◌+◌, ◌*◌, ◌<◌, List, [], length, map, get_or, ℤ, Option, Some, ◌∙◌, ap}
use Rattle.std.specs.Prelude.{replicate}
use Rattle.std.proofs.lemmas.List.{get_or-replicate, length-replicate}
use Rattle.session_model.specs.Samples.{below, sample, silence}
use Rattle.session_laws.proofs.ActivationLemmas.{get_or-map_below, length-map_below}
use Rattle.playback_mix.specs.device_periods.specs.Captures.{Reads}

module _ (left : List ℤ) (after : Option (List ℤ)) (channels : List (List ℤ)) (count frames : ℕ) (reads : Reads (Some left) after channels count frames) where
  pub as_many-read : length channels ≡ count
  as_many-read = ap length reads.0 ∙ length-map_below (λ j. map (λ i. sample left (i * count + j)) (below frames)) count

  pub channel-read : (c : ℕ) → c < count → get_or channels c [] ≡ map (λ i. sample left (i * count + c)) (below frames)
  channel-read c low = ap (λ (lists : List (List ℤ)). get_or lists c []) reads.0 ∙ get_or-map_below (λ j. map (λ i. sample left (i * count + j)) (below frames)) count c [] low

module _ (channels : List (List ℤ)) (count frames : ℕ) (rested : channels ≡ replicate count (silence frames)) where
  pub as_many-rested : length channels ≡ count
  as_many-rested = ap length rested ∙ length-replicate count (silence frames)

  pub channel-rested : (c : ℕ) → c < count → get_or channels c [] ≡ silence frames
  channel-rested c low = ap (λ (lists : List (List ℤ)). get_or lists c []) rested ∙ get_or-replicate count c (silence frames) [] low
