-- The two ends of the rings of recorders and of disks, which belong together.
--     few-recorders, paired-sound, disks-sound      those of a sound session
--     paired-given, paired-broken      behind blocks that left the rings, and where a file failed at it
--     paired-driven      behind what the driver did
--     disks-same, disks-stepped      those of disks, where their ends that get are the same, and behind a cycle
use Rattle.std.proofs.Common.{◌≡◌, ℕ, ◌<◌, ◌≤◌, ◌⊎◌, inl, inr, List, length, slice_get, sym, ◌∙◌, ap, subst, arith}
use Rattle.std.proofs.lemmas.Bool.{cases_lt}
use Rattle.std.proofs.lemmas.List.{length-map}
use Rattle.std.proofs.lemmas.Option.{slice_get_within}
use Rattle.session_model.specs.Kinds.{Sound}
use Rattle.client_kinds.specs.Scores.{Score}
use Rattle.driver_words.specs.Rings.{Getting, IsPair, Renews, Sending}
use Rattle.cycle_driver.specs.Gears.{Gear, driver_of}
use Rattle.cycle_driver.specs.Runs.{KeepsRings}
use Rattle.driver_laws.specs.Cycling.{StepsOnce}
use Rattle.recorder_files.specs.Recorders.{Recording}
use Rattle.run_laws.specs.Sessions.{Playing}
use Rattle.run_laws.proofs.PlaceLemmas.{mapped_there, some_at}
use Rattle.disk_runs.proofs.MissLemmas.{same-end}
use Rattle.disk_runs.proofs.PlaceLemmas.{long}
use Rattle.serial_laws.specs.Steps.{IsSound}
use Rattle.session_works.specs.Giving.{BrokeOff, GaveUp}
use Rattle.session_works.specs.Insides.{ArePaired, DisksPaired}
use Rattle.session_works.specs.Parts.{Parts, session_of}
use Rattle.session_works.proofs.RingLemmas.{AreEach, BrokenAt}
use Rattle.session_works.proofs.StayLemmas.{ends-many}

pub few-recorders : (sounding : Score → Sound) (parts : Parts) → IsSound (session_of sounding parts) → length parts.recorders < 256
few-recorders sounding parts sound =
    let many : length parts.recorders ≡ length parts.gear.script.header.recorders = sym (length-map parts.recorders (λ (r : Recording). r.getting)) ∙ sound.one.recorder_ends in
    let few = sound.one.lawful.header.few_recorders in
    omega (arith, many, few)

pub paired-sound : (sounding : Score → Sound) (parts : Parts) → IsSound (session_of sounding parts) → ArePaired parts.gear parts.recorders
paired-sound sounding parts sound = record {
  as_many = ends-many sounding parts sound;
  few = few-recorders sounding parts sound;
  each = λ i ring recording ring_is is. sound.one.recorder_pairs i ring recording.getting ring_is (mapped_there (λ (r : Recording). r.getting) parts.recorders i recording is);
}

-- what one of them did keeps them together
abbrev Keeps : (ℕ → Sending → Recording → Sending → Recording → Type 0) → Type 0
Keeps P = (i : ℕ) (ring : Sending) (recording : Recording) (ring_after : Sending) (after : Recording) → P i ring recording ring_after after → IsPair ring recording.getting → IsPair ring_after after.getting

paired-each : (P : ℕ → Sending → Recording → Sending → Recording → Type 0) (gear gear_after : Gear) (recordings recordings_after : List Recording) → Keeps P
    → AreEach P gear.rings.rings recordings gear_after.rings.rings recordings_after → ArePaired gear recordings → ArePaired gear_after recordings_after
paired-each P gear gear_after recordings recordings_after keeps are pairs = record {
  as_many = are.rings_same ∙ pairs.as_many ∙ sym are.recordings_same;
  few = subst (λ n. n < 256) (sym are.recordings_same) pairs.few;
  each = λ i ring recording ring_is is.
      let old = some_at recordings i (subst (λ n. i < n) are.recordings_same (slice_get_within recordings_after i recording is)) in
      let before = some_at gear.rings.rings i (subst (λ n. i < n) are.rings_same (slice_get_within gear_after.rings.rings i ring ring_is)) in
      keeps i before.0 old.0 ring recording (are.each i before.0 old.0 ring recording before.1 old.1 ring_is is) (pairs.each i before.0 old.0 before.1 old.1);
}

-- the ends met before and behind what the consumer did
met-pair : (ring ring_met ring_after : Sending) (got got_met written got_after : Getting) → Renews ring got ring_met got_met → Renews ring_met written ring_after got_after
    → written.table ≡ got_met.table → written.samples ≡ got_met.samples → written.most ≡ got_met.most → IsPair ring got → IsPair ring_after got_after
met-pair ring ring_met ring_after got got_met written got_after first second table samples most pair = record {
  one = ap (λ (r : Sending). r.table) second.sending_is ∙ ap (λ (r : Sending). r.table) first.sending_is ∙ pair.one ∙ sym (ap (λ (g : Getting). g.table) second.getting_is ∙ table ∙ ap (λ (g : Getting). g.table) first.getting_is);
  same_samples =
      ap (λ (r : Sending). r.samples) second.sending_is ∙ ap (λ (r : Sending). r.samples) first.sending_is ∙ pair.same_samples
      ∙ sym (ap (λ (g : Getting). g.samples) second.getting_is ∙ samples ∙ ap (λ (g : Getting). g.samples) first.getting_is);
  same_most = ap (λ (r : Sending). r.most) second.sending_is ∙ ap (λ (r : Sending). r.most) first.sending_is ∙ pair.same_most ∙ sym (ap (λ (g : Getting). g.most) second.getting_is ∙ most ∙ ap (λ (g : Getting). g.most) first.getting_is);
}

gave-pair : (most : ℕ) (ring : Sending) (recording : Recording) (ring_after : Sending) (after : Recording) → GaveUp most ring recording ring_after after → IsPair ring recording.getting → IsPair ring_after after.getting
gave-pair most ring recording ring_after after gave pair =
    let gives = gave.gives in let same = gives.drains.writes.same in
    met-pair ring gives.ring_met ring_after recording.getting gives.got_met gives.written after.getting gives.first gives.second same.table same.room same.most pair

broke-pair : (ring : Sending) (recording : Recording) (ring_after : Sending) (after : Recording) → BrokeOff ring recording ring_after after → IsPair ring recording.getting → IsPair ring_after after.getting
broke-pair ring recording ring_after after broke pair =
    let breaks = broke.breaks in let same = breaks.fails.same in
    met-pair ring breaks.ring_met ring_after recording.getting breaks.got_met breaks.written after.getting breaks.first breaks.second same.table same.room same.most pair

pub paired-given : (most : ℕ) (gear gear_after : Gear) (recordings recordings_after : List Recording) → AreEach (λ (i : ℕ). GaveUp most) gear.rings.rings recordings gear_after.rings.rings recordings_after
    → ArePaired gear recordings → ArePaired gear_after recordings_after
paired-given most gear gear_after recordings recordings_after = paired-each (λ (i : ℕ). GaveUp most) gear gear_after recordings recordings_after (λ i. gave-pair most)

pub paired-broken : (most place : ℕ) (gear gear_after : Gear) (recordings recordings_after : List Recording) → AreEach (BrokenAt most place) gear.rings.rings recordings gear_after.rings.rings recordings_after
    → ArePaired gear recordings → ArePaired gear_after recordings_after
paired-broken most place gear gear_after recordings recordings_after = paired-each (BrokenAt most place) gear gear_after recordings recordings_after keeps
  where
    keeps : Keeps (BrokenAt most place)
    keeps i ring recording ring_after after broken pair = go (cases_lt i place) (cases_lt place i)
      where
        go : (i < place) ⊎ (place ≤ i) → (place < i) ⊎ (i ≤ place) → IsPair ring_after after.getting
        go (inl below) y = gave-pair most ring recording ring_after after (broken.0 below) pair
        go (inr x) (inl above) =
            let left = broken.2 above in
            subst (λ (s : Sending). IsPair s after.getting) (sym left.0) (subst (λ (r : Recording). IsPair ring r.getting) (sym left.1) pair)
        go (inr x) (inr y) = broke-pair ring recording ring_after after (broken.1 (omega (arith, x, y))) pair

pub paired-driven : (sounding : Score → Sound) (gear gear_after : Gear) (recordings : List Recording) → KeepsRings (driver_of sounding gear) (driver_of sounding gear_after) → ArePaired gear recordings → ArePaired gear_after recordings
paired-driven sounding gear gear_after recordings keeps pairs = record {
  as_many = keeps.as_many ∙ pairs.as_many;
  few = pairs.few;
  each = λ i ring recording ring_is is.
      let before = some_at gear.rings.rings i (subst (λ n. i < n) keeps.as_many (slice_get_within gear_after.rings.rings i ring ring_is)) in
      let same = keeps.each i before.0 ring before.1 ring_is in let pair = pairs.each i before.0 recording before.1 is in
      record { one = same.table ∙ pair.one; same_samples = same.samples ∙ pair.same_samples; same_most = same.most ∙ pair.same_most };
}

-- ---- the rings of disks

pub disks-sound : (sounding : Score → Sound) (parts : Parts) → IsSound (session_of sounding parts) → DisksPaired parts.gear parts.players
disks-sound sounding parts sound = record {
  as_many = long (session_of sounding parts) sound.one;
  few = few;
  each = sound.one.disk_pairs;
}
  where
    few : length parts.players < 256
    few =
        let many : length parts.players ≡ length parts.gear.script.header.disks = sound.one.disk_ends in
        let least = sound.one.lawful.header.few_disks in
        omega (arith, many, least)

pub disks-same : (gear after : Gear) (players : List Playing) → after.disks.disks ≡ gear.disks.disks → DisksPaired gear players → DisksPaired after players
disks-same gear after players same pairs = record {
  as_many = ap length same ∙ pairs.as_many;
  few = pairs.few;
  each = λ disk player got player_is got_is. pairs.each disk player got player_is (ap (λ (l : List Getting). slice_get l disk) (sym same) ∙ got_is);
}

pub disks-stepped : (sounding : Score → Sound) (gear after : Gear) (players : List Playing) → StepsOnce (driver_of sounding gear) (driver_of sounding after) → DisksPaired gear players → DisksPaired after players
disks-stepped sounding gear after players steps pairs = record {
  as_many = steps.as_many_disks ∙ pairs.as_many;
  few = pairs.few;
  each = λ disk player got player_is got_is.
      let before = some_at gear.disks.disks disk (subst (λ n. disk < n) steps.as_many_disks (slice_get_within after.disks.disks disk got got_is)) in
      let same = same-end _ _ _ before.0 got _ _ (steps.disks disk before.0 got before.1 got_is) in
      let pair = pairs.each disk player before.0 player_is before.1 in
      record { one = pair.one ∙ sym same.table; same_samples = pair.same_samples ∙ sym same.samples; same_most = pair.same_most ∙ sym same.most };
}
