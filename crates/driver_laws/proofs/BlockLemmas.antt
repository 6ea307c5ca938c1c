-- The channels of an interleaved block, and of a block past the end of its file.
--     channels-interleaved      interleaved channels taken apart again
--     channels-past      a block behind the file's blocks is silent
use Rattle.std.proofs.Common.{◌≡◌, ℕ, zero, suc, ◌+◌, ◌*◌, ◌<◌, ◌≤◌, ◌⊎◌, inl, inr, List, [], ◌∷◌, ◌++◌, length, length-append, map, flat_map, get_or, ℤ, pos, refl, sym, ◌∙◌, ap, ap₂, subst, arith}
use Rattle.std.proofs.Math.Nat.{add-mul, suc-mul, mul_comm, mul_assoc, mul-le-mul_right}
use Rattle.std.proofs.lemmas.Bool.{cases_lt}
use Rattle.std.proofs.lemmas.Grind.{flat_map-append, div_ceil_times}
use Rattle.std.proofs.lemmas.List.{append-nil, get_or_append_left, get_or-append-add, get_or-map, get_or_past, length-map, map-append}
use Rattle.record_ring.specs.session_model.specs.Courses.{DiskFile, block_channel}
use Rattle.record_ring.specs.session_model.specs.Disks.{blocks_of}
use Rattle.record_ring.specs.session_model.specs.Samples.{below, interleaved, sample, channels_of}
use Rattle.cycle_plan.specs.session_laws.proofs.ActivationLemmas.{get_or-map_below, length-map_below}

-- two functions that agree below n
pub map-below_same : {X : Type 0} (f g : ℕ → X) (n : ℕ) → ((i : ℕ) → i < n → f i ≡ g i) → map f (below n) ≡ map g (below n)
map-below_same f g zero same = refl
map-below_same f g (suc n) same =
    map-append f (below n) (n ∷ []) ∙ ap₂ (λ xs x. xs ++ x ∷ []) (map-below_same f g n (λ i h. same i (omega (arith, h)))) (same n (omega arith)) ∙ sym (map-append g (below n) (n ∷ []))

module _ (rows : ℕ → List ℤ) (width : ℕ) (each : (i : ℕ) → length (rows i) ≡ width) where
  last : (n : ℕ) → flat_map rows (below (suc n)) ≡ flat_map rows (below n) ++ rows n
  last n = flat_map-append rows (below n) (n ∷ []) ∙ ap (λ xs. flat_map rows (below n) ++ xs) (append-nil (rows n))

  length-rows : (n : ℕ) → length (flat_map rows (below n)) ≡ n * width
  length-rows zero = omega arith
  length-rows (suc n) =
      let before : length (flat_map rows (below n)) ≡ n * width = length-rows n in
      let size : length (flat_map rows (below (suc n))) ≡ length (flat_map rows (below n)) + length (rows n) = ap length (last n) ∙ length-append (flat_map rows (below n)) (rows n) in
      let one : length (rows n) ≡ width = each n in
      let more : suc n * width ≡ n * width + width = suc-mul n width in
      omega (arith, before, size, one, more)

  -- place c of row i stands at i · width + c
  get_or-rows : (n i c : ℕ) → i < n → c < width → get_or (flat_map rows (below n)) (i * width + c) (pos 0) ≡ get_or (rows i) c (pos 0)
  get_or-rows zero i c low high = absurd (omega (arith, low))
  get_or-rows (suc n) i c low high = ap (λ xs. get_or xs (i * width + c) (pos 0)) (last n) ∙ go (cases_lt i n) (λ h. get_or-rows n i c h high)
    where
      size : length (flat_map rows (below n)) ≡ n * width
      size = length-rows n

      go : (i < n) ⊎ (n ≤ i) → (i < n → get_or (flat_map rows (below n)) (i * width + c) (pos 0) ≡ get_or (rows i) c (pos 0))
          → get_or (flat_map rows (below n) ++ rows n) (i * width + c) (pos 0) ≡ get_or (rows i) c (pos 0)
      go (inl h) rest =
          let wide : suc i * width ≤ n * width = mul-le-mul_right width h in
          let more : suc i * width ≡ i * width + width = suc-mul i width in
          get_or_append_left (flat_map rows (below n)) (rows n) (pos 0) (i * width + c) (omega (arith, wide, more, high, size)) ∙ rest h
      go (inr h) rest =
          let same : i ≡ n = omega (arith, low, h) in
          let place : i * width + c ≡ length (flat_map rows (below n)) + c = let at : i * width ≡ n * width = ap (λ m. m * width) same in omega (arith, at, size) in
          ap (λ m. get_or (flat_map rows (below n) ++ rows n) m (pos 0)) place
          ∙ get_or-append-add (flat_map rows (below n)) (rows n) c (pos 0)
          ∙ ap (λ m. get_or (rows m) c (pos 0)) (sym same)

module _ (count period : ℕ) (value : ℕ → ℕ → ℤ) where
  -- channel j
  abbrev channel : ℕ → List ℤ
  channel j = map (λ i. value i j) (below period)

  sample-interleaved : (i j : ℕ) → i < period → j < count → sample (interleaved period (map channel (below count))) (i * count + j) ≡ value i j
  sample-interleaved i j low high =
      let row : ℕ → List ℤ = λ m. map (λ buffer. sample buffer m) (map channel (below count)) in
      let size : (m : ℕ) → length (row m) ≡ count = λ m. length-map (map channel (below count)) (λ buffer. sample buffer m) ∙ length-map_below channel count in
      get_or-rows row count size period i j low high
      ∙ get_or-map (λ buffer. sample buffer i) (map channel (below count)) j [] (pos 0) (subst (λ m. j < m) (sym (length-map_below channel count)) high)
      ∙ ap (λ buffer. sample buffer i) (get_or-map_below channel count j [] high)
      ∙ get_or-map_below (λ m. value m j) period i (pos 0) low

  -- interleaved channels taken apart again
  pub channels-interleaved : channels_of count period (interleaved period (map channel (below count))) ≡ map channel (below count)
  channels-interleaved = map-below_same
      (λ j. map (λ i. sample (interleaved period (map channel (below count))) (i * count + j)) (below period))
      channel count
      (λ j high. map-below_same (λ i. sample (interleaved period (map channel (below count))) (i * count + j)) (λ i. value i j) period (λ i low. sample-interleaved i j low high))

-- behind the file's blocks there is no sample
sample-past : (file : DiskFile) (period block i j : ℕ) → blocks_of file period ≤ block → i < period → j < file.channels → sample file.samples ((block * period + i) * file.channels + j) ≡ pos 0
sample-past file period block i j past low high = get_or_past file.samples ((block * period + i) * file.channels + j) (pos 0) behind
  where
    some : 0 < file.channels * period
    some =
        let one : 1 * period ≤ file.channels * period = mul-le-mul_right period (omega (arith, high)) in
        let none : 1 * period ≡ period = omega arith in
        omega (arith, one, none, low)

    behind : length file.samples ≤ (block * period + i) * file.channels + j
    behind =
        let all : length file.samples ≤ blocks_of file period * (file.channels * period) = (div_ceil_times (length file.samples) (file.channels * period) some).0 in
        let most : blocks_of file period * (file.channels * period) ≤ block * (file.channels * period) = mul-le-mul_right (file.channels * period) past in
        let order : block * (file.channels * period) ≡ (block * period) * file.channels = regroup block file.channels period in
        let front : (block * period + i) * file.channels ≡ (block * period) * file.channels + i * file.channels = add-mul (block * period) i file.channels in
        omega (arith, all, most, order, front)
      where
        regroup : (a b c : ℕ) → a * (b * c) ≡ (a * c) * b
        regroup a b c = ap (λ m. a * m) (mul_comm b c) ∙ sym (mul_assoc a c b)

-- a block behind the file's blocks is silent
pub channels-past : (file : DiskFile) (period block : ℕ) → blocks_of file period ≤ block → channels_of file.channels period [] ≡ map (block_channel file period block) (below file.channels)
channels-past file period block past = map-below_same
    (λ j. map (λ i. sample [] (i * file.channels + j)) (below period))
    (block_channel file period block)
    file.channels
    (λ j high. map-below_same (λ i. sample [] (i * file.channels + j)) (λ i. sample file.samples ((block * period + i) * file.channels + j)) period
    (λ i low. get_or_past [] (i * file.channels + j) (pos 0) (omega arith) ∙ sym (sample-past file period block i j past low high)))
