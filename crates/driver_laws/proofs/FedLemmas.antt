-- What a disk's player is given in one cycle more, read from the rings.
--     fed-now      the channels of the block that was got
use Rattle.std.proofs.Common.{◌≡◌, ℕ, ℤ, zero, suc, ◌*◌, ◌+◌, ◌<◌, ◌≤◌, ◌⊎◌, inl, inr, min, Bool, true, false, cond, ◌==◌, List, [], ◌∷◌, ◌++◌, length, map, get_or, slice_get, slice_index_or, Option, Some, None, refl, sym, ◌∙◌, ap, ap₂, subst, arith, true≢false}
use Rattle.std.specs.List.{list_any}
use Rattle.std.specs.Option.{option_map_or}
use Rattle.std.proofs.Math.Nat.{min-le_right}
use Rattle.std.proofs.Math.ListN.{get_or-map}
use Rattle.std.proofs.lemmas.Bool.{cases_lt}
use Rattle.std.proofs.lemmas.List.{get_or_past}
use Rattle.std.proofs.lemmas.Option.{slice_get_past, slice_get_within}
use Rattle.record_ring.specs.jack_types.specs.declared.replies.Underrun.{Underrun}
use Rattle.record_ring.specs.session_model.specs.Courses.{Course, DiskFile, no_disk, disk_file, block_channel, period, fed, is_underrun, played_before}
use Rattle.record_ring.specs.session_model.specs.Disks.{file_blocks}
use Rattle.record_ring.specs.session_model.specs.Rings.{RingBlock}
use Rattle.record_ring.specs.session_model.specs.Samples.{below, sample, channels_of}
use Rattle.record_ring.specs.session_model.specs.Scripts.{Script}
use Rattle.record_ring.specs.driver_words.specs.Rings.{Getting}
use Rattle.driver_laws.specs.Drivers.{Driver, run, turn_of, graph_now, has_disk, underruns_on}
use Rattle.driver_laws.specs.Keeping.{Fits, FitsDisk, Keeps, KeepsDisk, file_block}
use Rattle.driver_laws.specs.Cycling.{StepsOnce, GetsOne, Silent, Heard, Over, Missed}
use Rattle.driver_laws.specs.Playing.{fed_now, is_missed, samples_got}
use Rattle.driver_laws.proofs.DiskLemmas.{within}
use Rattle.driver_laws.proofs.PlaceLemmas.{there_too, last_of, missed_there}
use Rattle.driver_laws.proofs.BlockLemmas.{channels-interleaved, channels-past}
use Rattle.driver_laws.proofs.StepLemmas.{ran, script-same}
use Rattle.driver_laws.proofs.TransportLemmas.{period-now}

some-none : {X : Type 0} (x : X) → Some x ≡ None → ⊥
some-none x e = cc

-- the channels of a block of a file, or of silence behind its end
module _ (course : Course) (disk : ℕ) (got got_after : Getting) (count : ℕ) (period : ℕ) (full : period ≡ course.script.header.period) (channels : (disk_file course disk).channels ≡ count) where
  block_is : (i : ℕ) (samples : List ℤ) → samples ≡ file_block course disk i → map (block_channel (disk_file course disk) period i) (below (disk_file course disk).channels) ≡ channels_of count period samples
  block_is i samples same =
      let file : DiskFile = disk_file course disk in
      let first : ℕ = course.script.header.period in
      ap (λ p. map (block_channel file p i) (below file.channels)) full
      ∙ sym (channels-interleaved file.channels first (λ m j. sample file.samples ((i * first + m) * file.channels + j)))
      ∙ ap₂ (λ n p. channels_of n p (file_block course disk i)) channels (sym full)
      ∙ ap (λ xs. channels_of count period xs) (sym same)

  silent_is : (i : ℕ) → file_blocks course disk ≤ i → map (block_channel (disk_file course disk) period i) (below (disk_file course disk).channels) ≡ channels_of count period []
  silent_is i past =
      let file : DiskFile = disk_file course disk in
      let first : ℕ = course.script.header.period in
      ap (λ p. map (block_channel file p i) (below file.channels)) full
      ∙ sym (channels-past file first i past)
      ∙ ap₂ (λ n p. channels_of n p []) channels (sym full)

  -- a get that was no underrun
  given-of_get : (n : ℕ) (misses misses_after : List Underrun) → KeepsDisk course n disk got misses → FitsDisk course disk got_after → GetsOne (n + 1) disk true got got_after misses misses_after
      → list_any (λ (underrun : Underrun). underrun.cycle == n + 1) misses_after ≡ false
      → map (block_channel (disk_file course disk) period (played_before course disk (n + 1))) (below (disk_file course disk).channels) ≡ channels_of count period (samples_got (Some got) (Some got_after))
  given-of_get n misses misses_after keeps fits (Silent idle same none) met = absurd (true≢false idle)
  given-of_get n misses misses_after keeps fits (Heard one found on gets none) met =
      let got_is : got_after.got ≡ got.got ++ one ∷ [] = ap (λ (g : Getting). g.got) gets.3 in
      let there : slice_get got_after.got (length got.got) ≡ Some one = ap (λ bs. slice_get bs (length got.got)) got_is ∙ last_of got.got one in
      let fit = fits.blocks (length got.got) one there in
      let here : length got.got ≡ played_before course disk (n + 1) = within (file_blocks course disk) (played_before course disk (n + 1)) (length got.got) keeps.count fit.0 in
      ap (λ i. map (block_channel (disk_file course disk) period i) (below (disk_file course disk).channels)) (sym here)
      ∙ block_is (length got.got) one.samples fit.1
      ∙ ap (λ (o : Option RingBlock). channels_of count period (option_map_or (λ (b : RingBlock). b.samples) o [])) (sym there)
  given-of_get n misses misses_after keeps fits (Over one found on gets none) met =
      let got_is : got_after.got ≡ got.got = ap (λ (g : Getting). g.got) gets.2 in
      let ended : got_after.done ≡ true = ap (λ (g : Getting). g.done) gets.2 in
      let whole : length got_after.got ≡ file_blocks course disk = fits.whole ended in
      let size : length got_after.got ≡ length got.got = ap length got_is in
      let nothing : slice_get got_after.got (length got.got) ≡ None = slice_get_past got_after.got (length got.got) (omega (arith, size)) in
      let few : min (file_blocks course disk) (played_before course disk (n + 1)) ≤ played_before course disk (n + 1) = min-le_right (file_blocks course disk) (played_before course disk (n + 1)) in
      let count_is : length got.got ≡ min (file_blocks course disk) (played_before course disk (n + 1)) = keeps.count in
      silent_is (played_before course disk (n + 1)) (omega (arith, whole, size, few, count_is))
      ∙ ap (λ (o : Option RingBlock). channels_of count period (option_map_or (λ (b : RingBlock). b.samples) o [])) (sym nothing)
  given-of_get n misses misses_after keeps fits (Missed one found on gets more) met =
      absurd (true≢false (sym (ap (list_any (λ (u : Underrun). u.cycle == n + 1)) more ∙ missed_there misses (record { disk = disk; cycle = n + 1; sent = found; taken = found }) (n + 1) refl) ∙ met))

module _ (driver after : Driver) (steps : StepsOnce driver after) (course : Course) (fits : Fits after course) (keeps : Keeps driver course) (set : (turn_of driver.script (run driver + 1)).period ≡ driver.set) where
  next : suc (run driver) ≡ run driver + 1
  next = omega arith

  -- the course's file has the channels of the script
  channels-same : (disk : ℕ) → (disk_file course disk).channels ≡ slice_index_or driver.script.header.disks disk 0
  channels-same disk =
      sym (get_or-map (λ (file : DiskFile). file.channels) course.disks disk no_disk)
      ∙ ap (λ counts. get_or counts disk 0) fits.channels
      ∙ ap (λ (s : Script). get_or s.header.disks disk 0) (script-same driver after steps course fits)

  missed_same : (disk : ℕ) → is_underrun course disk (suc (run driver)) ≡ is_missed driver after disk
  missed_same disk =
      let low : suc (run driver) ≤ run after = omega (arith, ran driver after steps) in
      fits.underruns disk (suc (run driver)) low ∙ ap (λ m. list_any (λ (underrun : Underrun). underrun.cycle == m) (underruns_on after.underruns disk)) next

  -- where the script has no such disk, its file has no channel
  no_channel : (disk : ℕ) → slice_get driver.disks disk ≡ None → slice_index_or driver.script.header.disks disk 0 ≡ 0
  no_channel disk none =
      let out : length driver.disks ≤ disk = outside driver.disks none in
      let many : length after.disks ≡ length after.script.header.disks = steps.own_rings.disks in
      let same : length after.script.header.disks ≡ length driver.script.header.disks = ap (λ (s : Script). length s.header.disks) steps.script in
      let as_many : length after.disks ≡ length driver.disks = steps.as_many_disks in
      get_or_past driver.script.header.disks disk 0 (omega (arith, out, many, same, as_many))
    where
      outside : (gots : List Getting) → slice_get gots disk ≡ None → length gots ≤ disk
      outside gots e = go (cases_lt disk (length gots))
        where
          go : (disk < length gots) ⊎ (length gots ≤ disk) → length gots ≤ disk
          go (inr h) = h
          go (inl h) = absurd (there gots disk h e)
            where
              there : (xs : List Getting) (i : ℕ) → i < length xs → slice_get xs i ≡ None → ⊥
              there [] i h e = omega (arith, h)
              there (x ∷ xs) zero h e = some-none x e
              there (x ∷ xs) (suc i) h e = there xs i (omega (arith, h)) e

  -- the channels of the block that the course gives
  abbrev due : ℕ → List (List ℤ)
  due disk = map (block_channel (disk_file course disk) (period course (suc (run driver))) (played_before course disk (suc (run driver)))) (below (disk_file course disk).channels)

  -- the channels of the block that was got
  pub fed-now : ((disk : ℕ) → disk < length driver.disks → driver.set ≡ driver.script.header.period) → (disk : ℕ) → has_disk (graph_now after) disk ≡ true → fed course disk (suc (run driver)) ≡ fed_now driver after disk
  fed-now full disk active =
      ap (λ b. cond b [] (due disk)) (missed_same disk)
      ∙ go (is_missed driver after disk) refl
    where
      -- where there is no ring, there is no channel
      no_ring : slice_get driver.disks disk ≡ None → (samples : List ℤ)
          → due disk
          ≡ channels_of (slice_index_or driver.script.header.disks disk 0) driver.set samples
      no_ring none samples =
          ap (λ m. map (block_channel (disk_file course disk) (period course (suc (run driver))) (played_before course disk (suc (run driver)))) (below m)) (channels-same disk ∙ no_channel disk none)
          ∙ ap (λ m. channels_of m driver.set samples) (sym (no_channel disk none))

      a_ring : (got : Getting) → slice_get driver.disks disk ≡ Some got → is_missed driver after disk ≡ false
          → due disk
          ≡ channels_of (slice_index_or driver.script.header.disks disk 0) driver.set (samples_got (Some got) (slice_get after.disks disk))
      a_ring got here met =
          let w = there_too driver.disks after.disks disk got steps.as_many_disks here in
          let first : driver.set ≡ course.script.header.period = full disk (slice_get_within driver.disks disk got here) ∙ ap (λ (s : Script). s.header.period) (sym (script-same driver after steps course fits)) in
          ap₂ (λ p m. map (block_channel (disk_file course disk) p (played_before course disk m)) (below (disk_file course disk).channels)) (period-now driver after steps course fits set) next
          ∙ given-of_get course disk got w.0 (slice_index_or driver.script.header.disks disk 0) driver.set first (channels-same disk) (run driver) (underruns_on driver.underruns disk) (underruns_on after.underruns disk)
          (keeps.disks disk got here) (fits.disks disk w.0 w.1)
          (subst (λ b. GetsOne (run driver + 1) disk b got w.0 (underruns_on driver.underruns disk) (underruns_on after.underruns disk)) active (steps.disks disk got w.0 here w.1))
          met
          ∙ ap (λ o. channels_of (slice_index_or driver.script.header.disks disk 0) driver.set (samples_got (Some got) o)) (sym w.1)

      ring : (o : Option Getting) → slice_get driver.disks disk ≡ o → is_missed driver after disk ≡ false
          → due disk
          ≡ channels_of (slice_index_or driver.script.header.disks disk 0) driver.set (samples_got o (slice_get after.disks disk))
      ring None e met = no_ring e (samples_got None (slice_get after.disks disk))
      ring (Some got) e met = a_ring got e met

      go : (b : Bool) → is_missed driver after disk ≡ b
          → cond b [] (due disk)
          ≡ cond b [] (channels_of (slice_index_or driver.script.header.disks disk 0) driver.set (samples_got (slice_get driver.disks disk) (slice_get after.disks disk)))
      go true e = refl
      go false e = ring (slice_get driver.disks disk) refl e
