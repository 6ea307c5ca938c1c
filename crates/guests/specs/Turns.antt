-- Inside: what guests hear and play, frame by frame. No public clause cites this module.
--     SoundsAs heard x      two lists of samples sound alike
--     heard period x      the samples of a period, silence past the end
--     weighted taps inputs at count      the weighted sum of a sample and those before it
--     IsLine frames line      a line with room for no more samples
use Rattle.std.specs.Prelude.{◌≡◌, ℕ, ◌-◌, List, length, map, ℤ, pos, ◌*ℤ◌, ◌≤ℤ◌, neg_ℤ}
use Rattle.circular_buffer.specs.Buffer.{Buffer}
use Rattle.session_model.specs.Samples.{below, sample, total}

-- sample by sample, silence past the end
abbrev pub SoundsAs : List ℤ → List ℤ → Type 0
SoundsAs heard x = (i : ℕ) → sample heard i ≡ sample x i

abbrev pub heard : ℕ → List ℤ → List ℤ
heard period x = map (λ i. sample x i) (below period)

-- the weighted sum of a sample and those before it, over so many taps
abbrev pub weighted : List ℤ → List ℤ → ℕ → ℕ → ℤ
weighted taps inputs at count = total (map (λ i. sample taps i *ℤ sample inputs (at - i)) (below count))

-- no further from 0 than so much
pub record IsWithin (limit : ℕ) (x : ℤ) : Type 0 where
  pub low : neg_ℤ (pos limit) ≤ℤ x
  pub high : x ≤ℤ pos limit

-- as many samples as there is room for
pub record IsLine (frames : ℕ) (line : Buffer ℤ) : Type 0 where
  pub size : length line.items ≡ frames
  pub room : line.capacity ≡ frames
