-- What disk players are given, in two courses that differ at rest.
--     played-same      how many of a file's blocks were played
--     fed-alike      an active player is given the same channels, or silence by both
use Rattle.std.proofs.Common.{◌≡◌, ℕ, ℤ, zero, suc, ◌+◌, ◌*◌, ◌<◌, ◌≤◌, ◌⊎◌, inl, inr, min, Bool, true, false, cond, not, ◌&&◌, List, [], ◌∷◌, ◌++◌, length, map, replicate, slice_index_or, pos, refl, sym, ◌∙◌, ap, ap₂, subst, arith, true≢false}
use Rattle.std.proofs.Math.Nat.{min-eq_left}
use Rattle.std.proofs.lemmas.Bool.{cases_lt}
use Rattle.std.proofs.lemmas.List.{get_or_past, length-map, map-append, replicate-append-replicate}
use Rattle.jack_types.specs.declared.replies.Underrun.{Underrun}
use Rattle.session_model.specs.Courses.{Course, DiskFile, block_channel, disk_file, fed, is_disk_active, is_underrun, no_disk, period, played_before}
use Rattle.session_model.specs.Disks.{file_blocks}
use Rattle.session_model.specs.Grammar.{IsScript}
use Rattle.session_model.specs.Kinds.{input_at}
use Rattle.session_model.specs.Samples.{below, silence}
use Rattle.session_model.specs.Scripts.{turns}
use Rattle.session_laws.proofs.ActivationLemmas.{get_or-map_below, length-map_below}
use Rattle.client_kinds.specs.Buffers.{channels_of}
use Rattle.driver_laws.specs.Drivers.{turn_of}
use Rattle.driver_laws.proofs.BlockLemmas.{channels-past, map-below_same}
use Rattle.driver_laws.proofs.DiskLemmas.{played_before-next}
use Rattle.check_courses.specs.Rests.{DifferAtRest, IsAtRest, with_underruns}

-- as many blocks were played, or all of the file's by both
abbrev pub AreAlike : ℕ → ℕ → ℕ → Type 0
AreAlike file a b = (a ≡ b) ⊎ ((file ≤ a) × (file ≤ b))

module _ (course : Course) (underruns : List (List Underrun)) where
  abbrev pub other : Course
  other = with_underruns course underruns

  module _ (last : ℕ) (rest : DifferAtRest course other last) (disk : ℕ) where
    abbrev more : Course → ℕ → ℕ
    more c k = cond (is_disk_active c disk (k + 1) && not (is_underrun c disk (k + 1))) 1 0

    next : (k : ℕ) → suc k ≤ last → AreAlike (file_blocks course disk) (played_before course disk (k + 1)) (played_before other disk (k + 1))
        → AreAlike (file_blocks course disk) (played_before course disk (suc k + 1)) (played_before other disk (suc k + 1))
    next k low (inr past) = inr (omega (arith, past.0, played_before-next course disk k), omega (arith, past.1, played_before-next other disk k))
    next k low (inl same) = go (rest disk (k + 1) (omega arith) (omega (arith, low)))
      where
        active-same : is_disk_active course disk (k + 1) ≡ is_disk_active other disk (k + 1)
        active-same = refl

        equal : more course k ≡ more other k → AreAlike (file_blocks course disk) (played_before course disk (suc k + 1)) (played_before other disk (suc k + 1))
        equal e = inl (played_before-next course disk k ∙ ap₂ (λ a b. a + b) same e ∙ sym (played_before-next other disk k))

        go : (is_underrun course disk (k + 1) ≡ is_underrun other disk (k + 1)) ⊎ IsAtRest course disk (k + 1) → AreAlike (file_blocks course disk) (played_before course disk (suc k + 1)) (played_before other disk (suc k + 1))
        go (inl missed) = equal (ap (λ b. cond (is_disk_active course disk (k + 1) && not b) 1 0) missed)
        go (inr (inl idle)) = equal (ap (λ b. cond (b && not (is_underrun course disk (k + 1))) 1 0) idle ∙ sym (ap (λ b. cond (b && not (is_underrun other disk (k + 1))) 1 0) (sym active-same ∙ idle)))
        go (inr (inr past)) = inr (omega (arith, past, played_before-next course disk k), omega (arith, past, same, played_before-next other disk k))

    pub counts : (k : ℕ) → k ≤ last → AreAlike (file_blocks course disk) (played_before course disk (k + 1)) (played_before other disk (k + 1))
    counts zero low = inl refl
    counts (suc k) low = next k low (counts k (omega (arith, low)))

  pub played-same : (last : ℕ) → DifferAtRest course other last → (disk k : ℕ) → k ≤ last
      → min (file_blocks course disk) (played_before course disk (k + 1)) ≡ min (file_blocks course disk) (played_before other disk (k + 1))
  played-same last rest disk k low = go (counts last rest disk k low)
    where
      go : AreAlike (file_blocks course disk) (played_before course disk (k + 1)) (played_before other disk (k + 1)) → min (file_blocks course disk) (played_before course disk (k + 1)) ≡ min (file_blocks course disk) (played_before other disk (k + 1))
      go (inl same) = ap (min (file_blocks course disk)) same
      go (inr past) = min-eq_left past.0 ∙ sym (min-eq_left past.1)

-- ---- silence

zeros : (n : ℕ) → map (λ (i : ℕ). pos 0) (below n) ≡ silence n
zeros zero = refl
zeros (suc n) =
    let size : n + 1 ≡ suc n = omega arith in
    map-append (λ (i : ℕ). pos 0) (below n) (n ∷ []) ∙ ap (λ xs. xs ++ pos 0 ∷ []) (zeros n) ∙ replicate-append-replicate n 1 (pos 0) ∙ ap (λ m. replicate m (pos 0)) size

-- the channels of nothing are silent
silent-channels : (count frames j : ℕ) → input_at frames (channels_of count frames []) j ≡ silence frames
silent-channels count frames j = go (cases_lt j count)
  where
    empty : (m : ℕ) → map (λ i. slice_index_or [] (i * count + m) (pos 0)) (below frames) ≡ silence frames
    empty m = map-below_same (λ i. slice_index_or [] (i * count + m) (pos 0)) (λ i. pos 0) frames (λ i low. get_or_past [] (i * count + m) (pos 0) (omega arith)) ∙ zeros frames

    go : (j < count) ⊎ (count ≤ j) → input_at frames (channels_of count frames []) j ≡ silence frames
    go (inl low) = get_or-map_below (λ m. map (λ i. slice_index_or [] (i * count + m) (pos 0)) (below frames)) count j (silence frames) low ∙ empty j
    go (inr high) = get_or_past (channels_of count frames []) j (silence frames) (subst (λ n. n ≤ j) (sym (length-map_below (λ m. map (λ i. slice_index_or [] (i * count + m) (pos 0)) (below frames)) count)) high)

-- ---- what is given

module _ (course : Course) (is : IsScript course.script) (channels : map (λ (file : DiskFile). file.channels) course.disks ≡ course.script.header.disks)
    (keeps : (k : ℕ) → k < length (turns course.script) → 0 < length course.script.header.disks → (turn_of course.script (k + 1)).period ≡ course.script.header.period) where
  -- behind a file's blocks there is silence
  past-silent : (disk k block j : ℕ) → suc k ≤ length (turns course.script) → file_blocks course disk ≤ block
      → input_at (period course (suc k)) (map (block_channel (disk_file course disk) (period course (suc k)) block) (below (disk_file course disk).channels)) j ≡ silence (period course (suc k))
  past-silent disk k block j low past = go (cases_lt disk (length course.disks))
    where
      go : (disk < length course.disks) ⊎ (length course.disks ≤ disk)
          → input_at (period course (suc k)) (map (block_channel (disk_file course disk) (period course (suc k)) block) (below (disk_file course disk).channels)) j ≡ silence (period course (suc k))
      go (inl there) =
          let size : length (map (λ (file : DiskFile). file.channels) course.disks) ≡ length course.disks = length-map course.disks (λ (file : DiskFile). file.channels) in
          let many : length (map (λ (file : DiskFile). file.channels) course.disks) ≡ length course.script.header.disks = ap length channels in
          let step : k + 1 ≡ suc k = omega arith in
          let full : period course (suc k) ≡ course.script.header.period = sym (ap (period course) step) ∙ keeps k (omega (arith, low)) (omega (arith, there, size, many)) in
          ap₂ (λ p q. input_at p (map (block_channel (disk_file course disk) q block) (below (disk_file course disk).channels)) j) full full
          ∙ ap (λ cs. input_at course.script.header.period cs j) (sym (channels-past (disk_file course disk) course.script.header.period block past))
          ∙ silent-channels (disk_file course disk).channels course.script.header.period j ∙ ap silence (sym full)
      go (inr out) =
          let none : disk_file course disk ≡ no_disk = get_or_past course.disks disk no_disk out in
          ap (λ (file : DiskFile). input_at (period course (suc k)) (map (block_channel file (period course (suc k)) block) (below file.channels)) j) none

  module _ (underruns : List (List Underrun)) (last : ℕ) (within : last ≤ length (turns course.script)) (rest : DifferAtRest course (with_underruns course underruns) last) where
    abbrev second : Course
    second = with_underruns course underruns

    -- a player that is given nothing, or a block behind the file's, is silent
    silent-by : (missed : Bool) (disk k block j : ℕ) → suc k ≤ last → file_blocks course disk ≤ block
        → input_at (period course (suc k)) (cond missed [] (map (block_channel (disk_file course disk) (period course (suc k)) block) (below (disk_file course disk).channels))) j ≡ silence (period course (suc k))
    silent-by true disk k block j low past = refl
    silent-by false disk k block j low past = past-silent disk k block j (omega (arith, low, within)) past

    pub fed-alike : (disk k j : ℕ) → suc k ≤ last → is_disk_active course disk (suc k) ≡ true → input_at (period course (suc k)) (fed course disk (suc k)) j ≡ input_at (period course (suc k)) (fed second disk (suc k)) j
    fed-alike disk k j low active = go (rest disk (suc k) (omega arith) low) (subst (λ m. AreAlike (file_blocks course disk) (played_before course disk m) (played_before second disk m)) step (counts course underruns last rest disk k (omega (arith, low))))
      where
        step : k + 1 ≡ suc k
        step = omega arith

        block_at : ℕ → List (List ℤ)
        block_at n = map (block_channel (disk_file course disk) (period course (suc k)) n) (below (disk_file course disk).channels)

        both : file_blocks course disk ≤ played_before course disk (suc k) → file_blocks course disk ≤ played_before second disk (suc k)
            → input_at (period course (suc k)) (fed course disk (suc k)) j ≡ input_at (period course (suc k)) (fed second disk (suc k)) j
        both a b =
            silent-by (is_underrun course disk (suc k)) disk k (played_before course disk (suc k)) j low a
            ∙ sym (silent-by (is_underrun second disk (suc k)) disk k (played_before second disk (suc k)) j low b)

        go : (is_underrun course disk (suc k) ≡ is_underrun second disk (suc k)) ⊎ IsAtRest course disk (suc k) → AreAlike (file_blocks course disk) (played_before course disk (suc k)) (played_before second disk (suc k))
            → input_at (period course (suc k)) (fed course disk (suc k)) j ≡ input_at (period course (suc k)) (fed second disk (suc k)) j
        go missed (inr past) = both past.0 past.1
        go (inl missed) (inl same) = ap₂ (λ b n. input_at (period course (suc k)) (cond b [] (block_at n)) j) missed same
        go (inr (inl idle)) (inl same) = absurd (true≢false (sym active ∙ idle))
        go (inr (inr past)) (inl same) = both past (subst (λ n. file_blocks course disk ≤ n) same past)
