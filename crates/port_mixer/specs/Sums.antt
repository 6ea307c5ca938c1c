-- Sums of parts.
--     Mix      what a caller sees of a mixer
--     sums_of frames parts      the sum of the parts at each frame
--     added sums part      the sums with one more part
--     all_added sums parts, with_parts mix parts      the sums, and the mix, with more parts
--     GainsParts frames before after more      what were the sums of some parts are those of these and more
--     AreSamples samples      each is a number of 32 bits
--     AreSumsOf parts sums      each is a sum of so many samples
use Rattle.std.specs.Prelude.{◌≡◌, ℕ, ◌+◌, ◌*◌, ◌^◌, List, ◌++◌, map, fold, length, ℤ, pos, ◌+ℤ◌, ◌-ℤ◌, ◌≤ℤ◌, FitsSigned}
use Rattle.std.specs.Int.{w32}
use Rattle.session_laws.specs.session_model.specs.Samples.{below, sample, total}

-- the room in frames, the sums, and how many parts are in them
pub record Mix : Type 0 where
  pub room : ℕ
  pub sums : List ℤ
  pub parts : ℕ

-- a mix before its clamp
abbrev pub sums_of : ℕ → List (List ℤ) → List ℤ
sums_of frames parts = map (λ i. total (map (λ part. sample part i) parts)) (below frames)

-- item by item
abbrev pub added : List ℤ → List ℤ → List ℤ
added sums part = map (λ i. sample sums i +ℤ sample part i) (below (length sums))

-- part by part
abbrev pub all_added : List ℤ → List (List ℤ) → List ℤ
all_added sums parts = fold added sums parts

abbrev pub with_parts : Mix → List (List ℤ) → Mix
with_parts mix parts = record mix { sums = all_added mix.sums parts; parts = mix.parts + length parts }

-- whatever parts were summed before
abbrev pub GainsParts : ℕ → List ℤ → List ℤ → List (List ℤ) → Type 0
GainsParts frames before after more = (parts : List (List ℤ)) → before ≡ sums_of frames parts → after ≡ sums_of frames (parts ++ more)

-- numbers of 32 bits
abbrev pub AreSamples : List ℤ → Type 0
AreSamples samples = (k : ℕ) → FitsSigned w32 (sample samples k)

-- a sum of so many samples
pub record IsSumOf (parts : ℕ) (x : ℤ) : Type 0 where
  pub least : (pos 0 -ℤ pos (2 ^ 31 * parts)) ≤ℤ x
  pub most : x ≤ℤ pos (2 ^ 31 * parts)

abbrev pub AreSumsOf : ℕ → List ℤ → Type 0
AreSumsOf parts sums = (k : ℕ) → IsSumOf parts (sample sums k)
