-- What a disk's player is given, by what its ring gave.
--     channels-fitted, channels-silent      the channels of a block of a period, and of zeros
--     earlier-none      underruns of earlier cycles are none of this one
--     given-now      what its player has is what the driver's cycle gives it
use Rattle.std.proofs.Common.{◌≡◌, ℕ, zero, suc, ◌+◌, ◌*◌, ◌-◌, ◌<◌, ◌≤◌, Bool, true, false, cond, ◌==◌, List, [], ◌∷◌, ◌++◌, length, map, take, get_or, slice_get, All, ℤ, pos, Option, Some, None, refl, sym, ◌∙◌, ap, ap₂, subst, arith, replicate, true≢false}
use Rattle.std.specs.List.{list_any}
use Rattle.std.specs.Option.{option_map_or}
use Rattle.std.proofs.Math.Nat.{mul-le-mul_right, suc-mul}
use Rattle.std.proofs.lemmas.Bool.{ne_eqb}
use Rattle.std.proofs.lemmas.List.{get_or-take, get_or_default}
use Rattle.std.proofs.lemmas.List.Elements.{All-filter, All-weaker}
use Rattle.std.proofs.lemmas.List.Folds.{list_any_none}
use Rattle.std.proofs.lemmas.Option.{slice_get_past, slice_get_read}
use Rattle.jack_types.specs.declared.replies.Underrun.{Underrun}
use Rattle.session_model.specs.Rings.{RingBlock}
use Rattle.session_model.specs.Samples.{below, sample, silence, channels_of}
use Rattle.session_model.specs.State.{OpenClient}
use Rattle.driver_words.specs.Rings.{Getting}
use Rattle.driver_laws.specs.Cycling.{GetsOne, Silent, Heard, Over, Missed}
use Rattle.driver_laws.specs.Drivers.{Driver, run, underruns_on}
use Rattle.driver_laws.specs.Playing.{fed_now, samples_got}
use Rattle.driver_laws.proofs.BlockLemmas.{map-below_same}
use Rattle.driver_laws.proofs.PlaceLemmas.{last_of, missed_there}
use Rattle.disk_feeds.specs.Cycling.{GetsAll, HasFeeds, fitted, given_now, is_fed}
use Rattle.driver_words.specs.Feeding.{AreUpTo, Fed, channels_at, disk_at, fed_at, no_ring}

-- ---- samples

zeros : (n i : ℕ) → get_or (replicate n (pos 0)) i (pos 0) ≡ pos 0
zeros zero i = refl
zeros (suc n) zero = refl
zeros (suc n) (suc i) = zeros n i

padded : (xs : List ℤ) (n i : ℕ) → sample (xs ++ silence n) i ≡ sample xs i
padded [] n i = zeros n i
padded (x ∷ xs) n zero = refl
padded (x ∷ xs) n (suc i) = padded xs n i

sample-fitted : (size i : ℕ) (samples : List ℤ) → i < size → sample (fitted size samples) i ≡ sample samples i
sample-fitted size i samples low = padded (take size samples) (size - length samples) i ∙ get_or-take size samples i (pos 0) low

place-within : (period count i j : ℕ) → i < period → j < count → i * count + j < period * count
place-within period count i j low high =
    let up : suc i * count ≤ period * count = mul-le-mul_right count low in
    let one : suc i * count ≡ i * count + count = suc-mul i count in
    omega (arith, up, one, high)

pub channels-fitted : (count period : ℕ) (samples : List ℤ) → channels_of count period (fitted (period * count) samples) ≡ channels_of count period samples
channels-fitted count period samples =
    map-below_same (λ j. map (λ i. sample (fitted (period * count) samples) (i * count + j)) (below period)) (λ j. map (λ i. sample samples (i * count + j)) (below period)) count
    (λ j high. map-below_same (λ i. sample (fitted (period * count) samples) (i * count + j)) (λ i. sample samples (i * count + j)) period
    (λ i low. sample-fitted (period * count) (i * count + j) samples (place-within period count i j low high)))

pub channels-silent : (count period size : ℕ) → channels_of count period (silence size) ≡ channels_of count period []
channels-silent count period size = ap (λ (at : ℕ → ℤ). map (λ j. map (λ i. at (i * count + j)) (below period)) (below count)) (λ k. λ n. zeros size n k)

-- ---- a get

earlier-none : (us : List Underrun) (disk k : ℕ) → All (λ (u : Underrun). u.cycle ≤ k) us → list_any (λ (u : Underrun). u.cycle == k + 1) (underruns_on us disk) ≡ false
earlier-none us disk k earlier =
    list_any_none (λ (u : Underrun). u.cycle == k + 1) (underruns_on us disk)
    (All-weaker (λ (u : Underrun). u.cycle ≤ k) (λ (u : Underrun). (u.cycle == k + 1) ≡ false) (λ u low. ne_eqb u.cycle (k + 1) (λ e. absurd (omega (arith, e, low)))) (underruns_on us disk)
    (All-filter (λ (u : Underrun). u.disk == disk) (λ (u : Underrun). u.cycle ≤ k) us earlier))

module _ (k disk count period : ℕ) (old new : Getting) (misses misses_after : List Underrun) where
  abbrev is_now : List Underrun → Bool
  is_now us = list_any (λ (u : Underrun). u.cycle == k) us

  abbrev heard : Option RingBlock → Bool → List (List ℤ)
  heard one done = option_map_or (channels_of count period) (option_map_or (λ (one : RingBlock). Some (fitted (period * count) one.samples)) one (cond done (Some (silence (period * count))) None)) []

  abbrev due : Bool → Option RingBlock → List (List ℤ)
  due missed one = cond missed [] (channels_of count period (option_map_or (λ (one : RingBlock). one.samples) one []))

  gives-due : is_now misses ≡ false → GetsOne k disk true old new misses misses_after → heard (slice_get new.got (length old.got)) new.done ≡ due (is_now misses_after) (slice_get new.got (length old.got))
  gives-due none (Silent idle same no_more) = absurd (true≢false idle)
  gives-due none (Heard one found on gets no_more) =
      ap (λ o. heard o new.done) there
      ∙ channels-fitted count period one.samples
      ∙ ap₂ due (sym none ∙ ap is_now (sym no_more)) (sym there)
    where
      there : slice_get new.got (length old.got) ≡ Some one
      there = ap (λ (g : Getting). slice_get g.got (length old.got)) gets.3 ∙ last_of old.got one
  gives-due none (Over one found on gets no_more) =
      ap₂ heard nothing (ap (λ (g : Getting). g.done) gets.2)
      ∙ channels-silent count period (period * count)
      ∙ ap₂ due (sym none ∙ ap is_now (sym no_more)) (sym nothing)
    where
      nothing : slice_get new.got (length old.got) ≡ None
      nothing = ap (λ (g : Getting). slice_get g.got (length old.got)) gets.2 ∙ slice_get_past old.got (length old.got) (omega arith)
  gives-due none (Missed one found on gets one_more) =
      ap₂ heard nothing (ap (λ (g : Getting). g.done) gets.6 ∙ gets.0)
      ∙ ap (λ b. due b (slice_get new.got (length old.got))) (sym (ap is_now one_more ∙ missed_there misses (record { disk = disk; cycle = k; sent = found; taken = found }) k refl))
    where
      nothing : slice_get new.got (length old.got) ≡ None
      nothing = ap (λ (g : Getting). slice_get g.got (length old.got)) gets.6 ∙ slice_get_past old.got (length old.got) (omega arith)

there : (rings : List Getting) (disk : ℕ) → disk < length rings → slice_get rings disk ≡ Some (get_or rings disk no_ring)
there rings disk low = slice_get_read rings (length rings) disk (get_or rings disk no_ring) refl low (get_or_default rings disk no_ring (get_or rings disk no_ring) low)

pub given-now : (nodes : List OpenClient) (before after : Fed) (driver driver_after : Driver) → GetsAll nodes (run driver + 1) before after → HasFeeds before driver → HasFeeds after driver_after
    → AreUpTo (run driver) before → (disk : ℕ) → disk < length before.disks → is_fed nodes disk ≡ true → fed_at after disk ≡ fed_now driver driver_after disk
given-now nodes before after driver driver_after got has has_after earlier disk low active =
    ap₂ (λ (s : Fed) (o : Option (List ℤ)). option_map_or (channels_of (channels_at s disk) s.period) o []) got.same
    ((got.each disk low).gives ∙ ap (λ b. given_now b (before.period * channels_at before disk) (disk_at before disk) (disk_at after disk)) active)
    ∙ gives-due (run driver + 1) disk (channels_at before disk) before.period (disk_at before disk) (disk_at after disk) (underruns_on before.underruns disk) (underruns_on after.underruns disk)
    (earlier-none before.underruns disk (run driver) earlier)
    (subst (λ b. GetsOne (run driver + 1) disk b (disk_at before disk) (disk_at after disk) (underruns_on before.underruns disk) (underruns_on after.underruns disk)) active (got.each disk low).gets)
    ∙ ap₂ (λ (o p : Option Getting). cond (list_any (λ (u : Underrun). u.cycle == run driver + 1) (underruns_on after.underruns disk)) [] (channels_of (channels_at before disk) before.period (samples_got o p)))
    (sym (ap (λ (rings : List Getting). slice_get rings disk) has.disks ∙ there before.disks disk low))
    (sym (ap (λ (rings : List Getting). slice_get rings disk) has_after.disks ∙ there after.disks disk (omega (arith, low, got.as_many))))
    ∙ ap₂ (λ (us : List Underrun) (n : ℕ). cond (list_any (λ (u : Underrun). u.cycle == run driver + 1) (underruns_on us disk)) [] (channels_of (get_or before.channels disk 0) n (samples_got (slice_get driver.disks disk) (slice_get driver_after.disks disk))))
    (sym has_after.underruns) (sym (has.period (omega (arith, low))))
    ∙ ap (λ (counts : List ℕ). cond (list_any (λ (u : Underrun). u.cycle == run driver + 1) (underruns_on driver_after.underruns disk)) [] (channels_of (get_or counts disk 0) driver.set (samples_got (slice_get driver.disks disk) (slice_get driver_after.disks disk))))
    (sym has.channels)
