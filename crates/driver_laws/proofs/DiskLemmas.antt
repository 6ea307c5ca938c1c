-- A disk's ring behind one cycle more.
--     played_before-next      one active cycle more that is no underrun
--     KeepsDisk-next      what the ring keeps before a cycle it keeps behind
use Rattle.std.proofs.Common.{◌≡◌, ℕ, suc, ◌+◌, ◌-◌, ◌<◌, ◌≤◌, min, Bool, true, false, cond, not, ◌&&◌, ◌==◌, List, [], ◌∷◌, ◌++◌, length, map, slice_get, Some, count_by, get_or, All, IsTrue, inl, inr, ◌⊎◌, refl, sym, ◌∙◌, ap, ap₂, subst, arith, true≢false, ne_eqb}
use Rattle.std.specs.List.{list_any}
use Rattle.std.specs.List.Sorted.{IsStrictlyIncreasing}
use Rattle.std.proofs.Math.Nat.{min-eq_left, min-eq_right}
use Rattle.std.proofs.lemmas.Bool.{cases_lt}
use Rattle.std.proofs.lemmas.List.{map-append, length_push}
use Rattle.std.proofs.lemmas.List.Elements.{All-push, All-map}
use Rattle.std.proofs.lemmas.List.Folds.{list_any_none}
use Rattle.std.proofs.lemmas.List.Sums.{sum_by_push}
use Rattle.record_ring.specs.jack_types.specs.declared.replies.Underrun.{Underrun}
use Rattle.record_ring.specs.session_model.specs.Courses.{Course, is_underrun, is_disk_active, played_before}
use Rattle.record_ring.specs.session_model.specs.Disks.{file_blocks}
use Rattle.record_ring.specs.session_model.specs.Rings.{RingBlock}
use Rattle.record_ring.specs.session_model.specs.Samples.{below}
use Rattle.record_ring.specs.Rings.{Gets}
use Rattle.record_ring.specs.driver_words.specs.Rings.{Getting}
use Rattle.record_ring.specs.declared.consumer.Got.TheVariants.{Block, Empty, Ended}
use Rattle.driver_laws.specs.Keeping.{FitsDisk, IsMiss, KeepsDisk}
use Rattle.driver_laws.specs.Cycling.{GetsOne, Silent, Heard, Over, Missed}
use Rattle.driver_laws.proofs.PlaceLemmas.{last_of, missed_there}
use Rattle.driver_laws.proofs.NumberLemmas.{IsStrictlyIncreasing-push}

-- a count within a file is that of the blocks played
pub within : (file played count : ℕ) → count ≡ min file played → count < file → count ≡ played
within file played count is low = go (cases_lt file played)
  where
    go : (file < played) ⊎ (played ≤ file) → count ≡ played
    go (inl p) =
        let whole : min file played ≡ file = min-eq_left (omega (arith, p)) in
        absurd (omega (arith, is, whole, low))
    go (inr p) = is ∙ min-eq_right p

-- one block more, which the file has
one_more : (file played count : ℕ) → count ≡ min file played → count < file → count + 1 ≡ min file (played + 1)
one_more file played count is low =
    let here : count ≡ played = within file played count is low in
    let more : min file (played + 1) ≡ played + 1 = min-eq_right (omega (arith, here, low)) in
    omega (arith, here, more)

-- a file that was played to its end
at_end : (file played count : ℕ) → count ≡ min file played → count ≡ file → count ≡ min file (played + 1)
at_end file played count is whole = go (cases_lt played file)
  where
    go : (played < file) ⊎ (file ≤ played) → count ≡ min file (played + 1)
    go (inl p) =
        let less : min file played ≡ played = min-eq_right (omega (arith, p)) in
        absurd (omega (arith, is, whole, less, p))
    go (inr p) = whole ∙ sym (min-eq_left (omega (arith, p)))

module _ (course : Course) (disk n : ℕ) where
  -- whether a block was played in cycle i + 1
  abbrev is_played : ℕ → Bool
  is_played i = is_disk_active course disk (i + 1) && not (is_underrun course disk (i + 1))

  pub played_before-next : played_before course disk (suc n + 1) ≡ played_before course disk (n + 1) + cond (is_disk_active course disk (n + 1) && not (is_underrun course disk (n + 1))) 1 0
  played_before-next =
      let after : suc n + 1 - 1 ≡ suc n = omega arith in
      let before : n ≡ n + 1 - 1 = omega arith in
      ap (λ m. count_by is_played (below m)) after
      ∙ sum_by_push (λ i. cond (is_played i) 1 0) (below n) n
      ∙ ap (λ m. count_by is_played (below m) + cond (is_played n) 1 0) before

  one_played : is_disk_active course disk (n + 1) ≡ true → is_underrun course disk (n + 1) ≡ false → played_before course disk (suc n + 1) ≡ played_before course disk (n + 1) + 1
  one_played active none = played_before-next ∙ ap₂ (λ a b. played_before course disk (n + 1) + cond (a && not b) 1 0) active none

  none_played : is_disk_active course disk (n + 1) && not (is_underrun course disk (n + 1)) ≡ false → played_before course disk (suc n + 1) ≡ played_before course disk (n + 1)
  none_played none =
      let same : played_before course disk (n + 1) + 0 ≡ played_before course disk (n + 1) = omega arith in
      played_before-next ∙ ap (λ b. played_before course disk (n + 1) + cond b 1 0) none ∙ same

  -- no underrun of the first n cycles is one of the next
  none_yet : (misses : List Underrun) → All (IsMiss course disk n) misses → list_any (λ (underrun : Underrun). underrun.cycle == n + 1) misses ≡ false
  none_yet misses all = list_any_none (λ (underrun : Underrun). underrun.cycle == n + 1) misses
      (λ k d h. let low : (get_or misses k d).cycle ≤ n = (all k d h).last in ne_eqb (get_or misses k d).cycle (n + 1) (λ e. omega (arith, low, e)))

  later_miss : (underrun : Underrun) → IsMiss course disk n underrun → IsMiss course disk (suc n) underrun
  later_miss underrun one = record {
    disk_is = one.disk_is;
    first = one.first;
    last = let low : underrun.cycle ≤ n = one.last in omega (arith, low);
    active = one.active;
    sent = one.sent;
    taken = one.taken;
    in_file = one.in_file;
  }

  later_all : (misses : List Underrun) → All (IsMiss course disk n) misses → All (IsMiss course disk (suc n)) misses
  later_all misses all k d h = later_miss (get_or misses k d) (all k d h)

  silent : (got : Getting) (misses : List Underrun) → is_disk_active course disk (n + 1) ≡ false → KeepsDisk course n disk got misses → KeepsDisk course (suc n) disk got misses
  silent got misses idle keeps =
      let same : played_before course disk (suc n + 1) ≡ played_before course disk (n + 1) = none_played (ap (λ b. b && not (is_underrun course disk (n + 1))) idle) in
      record {
        count = keeps.count ∙ ap (min (file_blocks course disk)) (sym same);
        behind = λ past. keeps.behind (subst (λ m. file_blocks course disk < m) same past);
        by_cycle = keeps.by_cycle;
        all = later_all misses keeps.all;
      }

  heard : (one : RingBlock) (found : ℕ) (got got_after : Getting) (misses : List Underrun) → is_disk_active course disk (n + 1) ≡ true → is_underrun course disk (n + 1) ≡ false
      → FitsDisk course disk got_after → Gets got got_after one found Block → KeepsDisk course n disk got misses → KeepsDisk course (suc n) disk got_after misses
  heard one found got got_after misses active none fits gets keeps =
      let got_is : got_after.got ≡ got.got ++ one ∷ [] = ap (λ (g : Getting). g.got) gets.3 in
      let size : length got_after.got ≡ length got.got + 1 = ap length got_is ∙ length_push got.got one in
      let there : slice_get got_after.got (length got.got) ≡ Some one = ap (λ bs. slice_get bs (length got.got)) got_is ∙ last_of got.got one in
      let low : length got.got < file_blocks course disk = (fits.blocks (length got.got) one there).0 in
      let here : length got.got ≡ played_before course disk (n + 1) = within (file_blocks course disk) (played_before course disk (n + 1)) (length got.got) keeps.count low in
      let more : played_before course disk (suc n + 1) ≡ played_before course disk (n + 1) + 1 = one_played active none in
      record {
        count = size ∙ one_more (file_blocks course disk) (played_before course disk (n + 1)) (length got.got) keeps.count low ∙ ap (min (file_blocks course disk)) (sym more);
        behind = λ past. absurd (omega (arith, past, more, here, low));
        by_cycle = keeps.by_cycle;
        all = later_all misses keeps.all;
      }

  over : (one : RingBlock) (found : ℕ) (got got_after : Getting) (misses : List Underrun) → is_disk_active course disk (n + 1) ≡ true → is_underrun course disk (n + 1) ≡ false
      → FitsDisk course disk got_after → Gets got got_after one found Ended → KeepsDisk course n disk got misses → KeepsDisk course (suc n) disk got_after misses
  over one found got got_after misses active none fits gets keeps =
      let got_is : got_after.got ≡ got.got = ap (λ (g : Getting). g.got) gets.2 in
      let ended : got_after.done ≡ true = ap (λ (g : Getting). g.done) gets.2 in
      let whole : length got.got ≡ file_blocks course disk = sym (ap length got_is) ∙ fits.whole ended in
      record {
        count = ap length got_is ∙ at_end (file_blocks course disk) (played_before course disk (n + 1)) (length got.got) keeps.count whole ∙ ap (min (file_blocks course disk)) (sym (one_played active none));
        behind = λ past. ended;
        by_cycle = keeps.by_cycle;
        all = later_all misses keeps.all;
      }

  missed : (one : RingBlock) (found : ℕ) (got got_after : Getting) (misses : List Underrun) (underrun : Underrun) → underrun ≡ record { disk = disk; cycle = n + 1; sent = found; taken = found }
      → is_disk_active course disk (n + 1) ≡ true → is_underrun course disk (n + 1) ≡ true
      → Gets got got_after one found (Empty found found) → KeepsDisk course n disk got misses → KeepsDisk course (suc n) disk got_after (misses ++ underrun ∷ [])
  missed one found got got_after misses underrun is active lacked gets keeps =
      let got_is : got_after.got ≡ got.got = ap (λ (g : Getting). g.got) gets.6 in
      let done_is : got_after.done ≡ got.done = ap (λ (g : Getting). g.done) gets.6 in
      let at : underrun.cycle ≡ n + 1 = ap (λ (u : Underrun). u.cycle) is in
      let sent_is : underrun.sent ≡ found = ap (λ (u : Underrun). u.sent) is in
      let taken_is : underrun.taken ≡ found = ap (λ (u : Underrun). u.taken) is in
      let same : played_before course disk (suc n + 1) ≡ played_before course disk (n + 1) = none_played (ap₂ (λ a b. a && not b) active lacked) in
      let in_file : played_before course disk (n + 1) ≤ file_blocks course disk = before_end gets.0 in
      let found_is : found ≡ played_before course disk (n + 1) = gets.2 ∙ keeps.count ∙ min-eq_right in_file in
      let new : IsMiss course disk (suc n) underrun = record {
        disk_is = ap (λ (u : Underrun). u.disk) is;
        first = omega (arith, at);
        last = omega (arith, at);
        active = subst (λ k. IsTrue (is_disk_active course disk k)) (sym at) active;
        sent = sent_is ∙ found_is ∙ sym (ap (played_before course disk) at);
        taken = taken_is ∙ sym sent_is;
        in_file = omega (arith, sent_is, found_is, in_file);
      } in
      record {
        count = ap length got_is ∙ keeps.count ∙ ap (min (file_blocks course disk)) (sym same);
        behind = λ past. done_is ∙ keeps.behind (subst (λ m. file_blocks course disk < m) same past);
        by_cycle = subst IsStrictlyIncreasing (sym (map-append (λ (u : Underrun). u.cycle) misses (underrun ∷ [])))
            (IsStrictlyIncreasing-push (map (λ (u : Underrun). u.cycle) misses) underrun.cycle keeps.by_cycle
            (All-map (λ c. c < underrun.cycle) (λ (u : Underrun). u.cycle) misses (λ k d h. let low : (get_or misses k d).cycle ≤ n = (keeps.all k d h).last in omega (arith, low, at))));
        all = All-push (IsMiss course disk (suc n)) misses underrun (later_all misses keeps.all) new;
      }
    where
      -- behind the file's end no get is empty
      before_end : got.done ≡ false → played_before course disk (n + 1) ≤ file_blocks course disk
      before_end going = go (cases_lt (file_blocks course disk) (played_before course disk (n + 1)))
        where
          go : (file_blocks course disk < played_before course disk (n + 1)) ⊎ (played_before course disk (n + 1) ≤ file_blocks course disk) → played_before course disk (n + 1) ≤ file_blocks course disk
          go (inl past) = absurd (true≢false (sym (keeps.behind past) ∙ going))
          go (inr low) = low

  -- what the ring keeps before a cycle it keeps behind, where the course misses in this cycle what the driver missed
  pub KeepsDisk-next : (active : Bool) (got got_after : Getting) (misses misses_after : List Underrun)
      → is_disk_active course disk (n + 1) ≡ active → is_underrun course disk (n + 1) ≡ list_any (λ (underrun : Underrun). underrun.cycle == n + 1) misses_after → FitsDisk course disk got_after
      → GetsOne (n + 1) disk active got got_after misses misses_after → KeepsDisk course n disk got misses → KeepsDisk course (suc n) disk got_after misses_after
  KeepsDisk-next active got got_after misses misses_after playing lacking fits (Silent idle same none) keeps =
      subst (λ us. KeepsDisk course (suc n) disk got_after us) (sym none) (subst (λ g. KeepsDisk course (suc n) disk g misses) (sym same) (silent got misses (playing ∙ idle) keeps))
  KeepsDisk-next active got got_after misses misses_after playing lacking fits (Heard one found on gets none) keeps =
      subst (λ us. KeepsDisk course (suc n) disk got_after us) (sym none) (heard one found got got_after misses (playing ∙ on) (lacking ∙ ap (list_any (λ (u : Underrun). u.cycle == n + 1)) none ∙ none_yet misses keeps.all) fits gets keeps)
  KeepsDisk-next active got got_after misses misses_after playing lacking fits (Over one found on gets none) keeps =
      subst (λ us. KeepsDisk course (suc n) disk got_after us) (sym none) (over one found got got_after misses (playing ∙ on) (lacking ∙ ap (list_any (λ (u : Underrun). u.cycle == n + 1)) none ∙ none_yet misses keeps.all) fits gets keeps)
  KeepsDisk-next active got got_after misses misses_after playing lacking fits (Missed one found on gets more) keeps =
      let new : Underrun = record { disk = disk; cycle = n + 1; sent = found; taken = found } in
      subst (λ us. KeepsDisk course (suc n) disk got_after us) (sym more)
      (missed one found got got_after misses new refl (playing ∙ on) (lacking ∙ ap (list_any (λ (u : Underrun). u.cycle == n + 1)) more ∙ missed_there misses new (n + 1) refl) gets keeps)
