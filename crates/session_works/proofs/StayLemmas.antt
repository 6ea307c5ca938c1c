-- What stays through the steps of a run.
--     reading_same, reading-next, read_same, read-next      captures and the files of disks, later and later
--     source-behind, source-before      a read failed behind what stays, or before it
--     ends-many      a session has as many rings as recorders
--     stay-refl, stay-trans, stays-refl, stays-trans      no step, and one behind another, of parts and of works
--     stay-like, stays-like      a step that leaves the stores, the capture and the recorders
--     stays-met, stays-begun      desk and driver met, or the desk went on; and a period was set
--     stay-disks      the ends of the disks' rings met, and their readers read on or not
--     stay-given      blocks left the rings, and nothing else changed
--     given-up, broken-up, broken-rose      so behind the calls of all recorders, or of those up to one that failed
use Rattle.std.proofs.Common.{◌≡◌, ℕ, ◌<◌, List, ◌∷◌, length, map, filter_map, slice_get, vec_items, All, Option, None, refl, sym, ◌∙◌, ap, ap₂, subst, arith}
use Rattle.std.proofs.lemmas.List.{length-map}
use Rattle.std.proofs.lemmas.Option.{same_Some, slice_get_within}
use Rattle.session_model.specs.Kinds.{Sound}
use Rattle.client_kinds.specs.Scores.{Score}
use Rattle.driver_words.specs.Rings.{Sending}
use Rattle.wave_pcm.specs.Readings.{Reading, SameReading}
use Rattle.driver_words.specs.Tapes.{Tape}
use Rattle.cycle_driver.specs.Gears.{Gear, driver_of}
use Rattle.recorder_files.specs.Recorders.{Recording, Stored, held_in, held_or, stored_of}
use Rattle.run_laws.specs.Sessions.{Playing}
use Rattle.run_laws.proofs.PlaceLemmas.{some_at}
use Rattle.serial_laws.specs.Faults.{BreakUp}
use Rattle.serial_laws.specs.Steps.{GiveUp, IsSound}
use Rattle.session_works.specs.DiskSteps.{DisksMoved}
use Rattle.session_works.specs.Giving.{GaveUp}
use Rattle.session_works.specs.Insides.{Aside, Stays, parts_of, parts_with, seen_with}
use Rattle.session_works.specs.Parts.{AreLater, AreReadLater, IsReadLater, HasOpenFiles, OfCapture, OfDisk, OneRose, Parts, SourceRose, session_of, stores_in}
use Rattle.session_works.specs.declared.works.SessionWorks.{SessionWorks}
use Rattle.session_works.proofs.ReelLemmas.{RecordersKeep, break-up, files-keep, give-up, given_up, keeps-broken, keeps-gave, recorders_later}
use Rattle.session_works.proofs.RingLemmas.{AreEach, BrokenAt}
use Rattle.session_works.proofs.StoreLemmas.{HeldLater, held_same, later-trans, later_refl, parts-later, parts-rose, rose-mono}

pub reading_same : (reading : Reading) → SameReading reading reading
reading_same reading = record { format = refl; size = refl; later = omega arith; kept = λ going. (going, refl) }

pub reading-next : (before between after : Reading) → SameReading before between → SameReading between after → SameReading before after
reading-next before between after first second = record {
  format = second.format ∙ first.format;
  size = second.size ∙ first.size;
  later = omega (arith, first.later, second.later);
  kept = λ going. let then = second.kept going in let before_it = first.kept then.0 in (before_it.0, then.1 ∙ before_it.1);
}

read_itself : (player : Playing) → IsReadLater player player
read_itself player = record { format = refl; faults = omega arith; kept = λ going. (going, refl) }

pub read_same : (players : List Playing) → AreReadLater players players
read_same players = record { as_many = refl; each = λ disk old new was is. subst (λ (p : Playing). IsReadLater old p) (same_Some old new (sym was ∙ is)) (read_itself old) }

read-then : (before between after : Playing) → IsReadLater before between → IsReadLater between after → IsReadLater before after
read-then before between after first second = record {
  format = second.format ∙ first.format;
  faults = omega (arith, first.faults, second.faults);
  kept = λ going. let then = second.kept going in let before_it = first.kept then.0 in (before_it.0, then.1 ∙ before_it.1);
}

pub read-next : (before between after : List Playing) → AreReadLater before between → AreReadLater between after → AreReadLater before after
read-next before between after first second = record {
  as_many = second.as_many ∙ first.as_many;
  each = λ disk old new was is.
      let there = some_at between disk (subst (λ n. disk < n) (sym first.as_many) (slice_get_within before disk old was)) in
      read-then old there.0 new (first.each disk old there.0 was there.1) (second.each disk there.0 new there.1 is);
}

pub ends-many : (sounding : Score → Sound) (parts : Parts) → IsSound (session_of sounding parts) → length parts.gear.rings.rings ≡ length parts.recorders
ends-many sounding parts sound = sound.one.rings.recorders ∙ sym sound.one.recorder_ends ∙ length-map parts.recorders (λ (r : Recording). r.getting)

-- the driver is the same but for its recorders' rings
abbrev pub RingsMoved : Gear → Gear → Type 0
RingsMoved gear after = after ≡ record gear { rings = record gear.rings { rings = after.rings.rings } }

pub playback_later : (gear after : Gear) → RingsMoved gear after → HeldLater (held_or None gear.playback) (held_or None after.playback)
playback_later gear after moved =
    subst (λ (playback : Option Tape). HeldLater (held_or None gear.playback) (held_or None playback)) (sym (ap (λ (g : Gear). g.playback) moved)) (held_same (held_or None gear.playback))

module _ (sounding : Score → Sound) where
  pub stay-refl : (parts : Parts) → HasOpenFiles parts → Stays sounding parts parts
  stay-refl parts files = record { script = refl; scores = refl; files = files; later = later_refl (stores_in parts); capture = reading_same parts.gear.capture.reading; many = refl; players = read_same parts.players }

  pub stay-trans : (before between after : Parts) → Stays sounding before between → Stays sounding between after → Stays sounding before after
  stay-trans before between after first second = record {
    script = second.script ∙ first.script;
    scores = second.scores ∙ first.scores;
    files = second.files;
    later = later-trans (stores_in before) (stores_in between) (stores_in after) first.later second.later;
    capture = reading-next before.gear.capture.reading between.gear.capture.reading after.gear.capture.reading first.capture second.capture;
    many = second.many ∙ first.many;
    players = read-next before.players between.players after.players first.players second.players;
  }

  -- a step that leaves the stores, the capture and the recorders
  pub stay-like : (before after : Parts) → after.gear.script ≡ before.gear.script → (driver_of sounding after.gear).scores ≡ (driver_of sounding before.gear).scores → after.gear.capture.reading ≡ before.gear.capture.reading
      → after.gear.playback ≡ before.gear.playback → after.playback ≡ before.playback → after.recorders ≡ before.recorders → AreReadLater before.players after.players → HasOpenFiles before → Stays sounding before after
  stay-like before after script scores capture playback store recorders players files = record {
    script = script;
    scores = scores;
    files = record {
      tapes = λ i r e. files.tapes i r (ap (λ (rs : List Recording). slice_get rs i) (sym recorders) ∙ e);
      no_playback = store ∙ files.no_playback;
      no_stores = subst (λ (rs : List Recording). All (λ (r : Recording). r.store ≡ None) rs) (sym recorders) files.no_stores;
    };
    later = subst (λ (stores : List Stored). AreLater (stores_in before) stores) (sym same) (later_refl (stores_in before));
    capture = subst (λ (r : Reading). SameReading before.gear.capture.reading r) (sym capture) (reading_same before.gear.capture.reading);
    many = ap length recorders;
    players = players;
  }
    where
      same : stores_in after ≡ stores_in before
      same =
          ap (λ (s : Option Stored). filter_map (λ (h : Option Stored). h) (held_or s after.gear.playback ∷ map held_in after.recorders)) store
          ∙ ap₂ (λ (playback : Option Tape) (rs : List Recording). filter_map (λ (h : Option Stored). h) (held_or before.playback playback ∷ map held_in rs)) playback recorders

  pub stay-disks : (aside other : Aside) (gear after : Gear) (recordings : List Recording) → DisksMoved gear after → AreReadLater aside.players other.players → HasOpenFiles (parts_with aside gear recordings)
      → Stays sounding (parts_with aside gear recordings) (parts_with other after recordings)
  stay-disks aside other gear after recordings moved =
      stay-like (parts_with aside gear recordings) (parts_with other after recordings) (ap (λ (g : Gear). g.script) moved) (ap (λ (g : Gear). (driver_of sounding g).scores) moved) (ap (λ (g : Gear). g.capture.reading) moved)
      (ap (λ (g : Gear). g.playback) moved) refl refl

  pub stay-given : (aside : Aside) (gear after : Gear) (recordings recordings_after : List Recording) → RingsMoved gear after → HasOpenFiles (parts_with aside gear recordings) → length recordings_after ≡ length recordings
      → RecordersKeep (parts_with aside gear recordings) (parts_with aside after recordings_after) → Stays sounding (parts_with aside gear recordings) (parts_with aside after recordings_after)
  stay-given aside gear after recordings recordings_after moved files same keeps = record {
    script = ap (λ (g : Gear). g.script) moved;
    scores = ap (λ (g : Gear). (driver_of sounding g).scores) moved;
    files = files-keep (parts_with aside gear recordings) (parts_with aside after recordings_after) files refl same keeps;
    later = parts-later (parts_with aside gear recordings) (parts_with aside after recordings_after) (playback_later gear after moved) same
        (recorders_later (parts_with aside gear recordings) (parts_with aside after recordings_after) keeps);
    capture = subst (λ (r : Reading). SameReading gear.capture.reading r) (sym (ap (λ (g : Gear). g.capture.reading) moved)) (reading_same gear.capture.reading);
    many = same;
    players = read_same aside.players;
  }

  module _ {S W G : Type 0} where
    pub stays-refl : (works : SessionWorks S W G) → HasOpenFiles (parts_of works) → Stays sounding (parts_of works) (parts_of works)
    stays-refl works = stay-refl (parts_of works)

    pub stays-trans : (before between after : SessionWorks S W G) → Stays sounding (parts_of before) (parts_of between) → Stays sounding (parts_of between) (parts_of after) → Stays sounding (parts_of before) (parts_of after)
    stays-trans before between after = stay-trans (parts_of before) (parts_of between) (parts_of after)

    pub stays-like : (before after : SessionWorks S W G) → after.driver.script ≡ before.driver.script → (driver_of sounding after.driver).scores ≡ (driver_of sounding before.driver).scores → after.driver.capture.reading ≡ before.driver.capture.reading
        → after.driver.playback ≡ before.driver.playback → after.recorders ≡ before.recorders → after.readers ≡ before.readers → HasOpenFiles (parts_of before) → Stays sounding (parts_of before) (parts_of after)
    stays-like before after script scores capture playback recorders readers =
        stay-like (parts_of before) (parts_of after) script scores capture playback refl (ap vec_items recorders)
        (subst (λ (players : List Playing). AreReadLater before.readers.items players) (sym (ap vec_items readers)) (read_same before.readers.items))

    pub stays-met : (before after : SessionWorks S W G) → after.driver ≡ record before.driver { reading = after.driver.reading } → after.recorders ≡ before.recorders → after.readers ≡ before.readers → HasOpenFiles (parts_of before)
        → Stays sounding (parts_of before) (parts_of after)
    stays-met before after driver =
        stays-like before after (ap (λ (g : Gear). g.script) driver) (ap (λ (g : Gear). (driver_of sounding g).scores) driver) (ap (λ (g : Gear). g.capture.reading) driver) (ap (λ (g : Gear). g.playback) driver)

    pub stays-begun : (before after : SessionWorks S W G) (period : ℕ) → after.driver ≡ record before.driver { reading = after.driver.reading; set = period } → after.recorders ≡ before.recorders → after.readers ≡ before.readers
        → HasOpenFiles (parts_of before) → Stays sounding (parts_of before) (parts_of after)
    stays-begun before after period driver =
        stays-like before after (ap (λ (g : Gear). g.script) driver) (ap (λ (g : Gear). (driver_of sounding g).scores) driver) (ap (λ (g : Gear). g.capture.reading) driver) (ap (λ (g : Gear). g.playback) driver)

-- ---- a read that failed

pub source-behind : (sounding : Score → Sound) (before between after : Parts) → Stays sounding before between → SourceRose between after → SourceRose before after
source-behind sounding before between after stays (OfCapture rose) = OfCapture (rose-mono _ _ _ _ stays.capture.later rose (omega arith))
source-behind sounding before between after stays (OfDisk disk old new was is rose) =
    let there = some_at before.players disk (subst (λ n. disk < n) stays.players.as_many (slice_get_within between.players disk old was)) in
    OfDisk disk there.0 new there.1 is (rose-mono _ _ _ _ (stays.players.each disk there.0 old there.1 was).faults rose (omega arith))

pub source-before : (sounding : Score → Sound) (before between after : Parts) → SourceRose before between → Stays sounding between after → SourceRose before after
source-before sounding before between after (OfCapture rose) stays = OfCapture (rose-mono _ _ _ _ (omega arith) rose stays.capture.later)
source-before sounding before between after (OfDisk disk old new was is rose) stays =
    let there = some_at after.players disk (subst (λ n. disk < n) (sym stays.players.as_many) (slice_get_within between.players disk new is)) in
    OfDisk disk old there.0 was there.1 (rose-mono _ _ _ _ (omega arith) rose (stays.players.each disk new there.0 is there.1).faults)

-- ---- blocks left the rings, whatever is beside

module _ (sounding : Score → Sound) (aside : Aside) (gear : Gear) (recordings : List Recording) (sound : IsSound (seen_with sounding aside gear recordings)) where
  pub still-many : (P : ℕ → Sending → Recording → Sending → Recording → Type 0) (after : Gear) (recordings_after : List Recording) → AreEach P gear.rings.rings recordings after.rings.rings recordings_after
      → length after.rings.rings ≡ length recordings_after
  still-many P after recordings_after are = are.rings_same ∙ ends-many sounding (parts_with aside gear recordings) sound ∙ sym are.recordings_same

  module _ (files : HasOpenFiles (parts_with aside gear recordings)) (after : Gear) (recordings_after : List Recording) (moved : RingsMoved gear after) where
    given-is : parts_with aside after recordings_after ≡ given_up (parts_with aside gear recordings) after.rings.rings recordings_after
    given-is = ap (λ (g : Gear). parts_with aside g recordings_after) moved

    pub given-up : (most : ℕ) → AreEach (λ (i : ℕ). GaveUp most) gear.rings.rings recordings after.rings.rings recordings_after
        → GiveUp most (seen_with sounding aside gear recordings) (seen_with sounding aside after recordings_after) × Stays sounding (parts_with aside gear recordings) (parts_with aside after recordings_after)
    given-up most are = (
      subst (λ (p : Parts). GiveUp most (seen_with sounding aside gear recordings) (session_of sounding p)) (sym given-is)
          (give-up sounding most (parts_with aside gear recordings) after.rings.rings recordings_after (still-many (λ (i : ℕ). GaveUp most) after recordings_after are) files are),
      stay-given sounding aside gear after recordings recordings_after moved files are.recordings_same
          (keeps-gave most (parts_with aside gear recordings) (parts_with aside after recordings_after) (still-many (λ (i : ℕ). GaveUp most) after recordings_after are) are),
    )

    keeps-up_to : (most place : ℕ) → AreEach (BrokenAt most place) gear.rings.rings recordings after.rings.rings recordings_after → RecordersKeep (parts_with aside gear recordings) (parts_with aside after recordings_after)
    keeps-up_to most place are = keeps-broken most place (parts_with aside gear recordings) (parts_with aside after recordings_after) files (still-many (BrokenAt most place) after recordings_after are) are

    pub broken-up : (most place : ℕ) → AreEach (BrokenAt most place) gear.rings.rings recordings after.rings.rings recordings_after
        → BreakUp most (seen_with sounding aside gear recordings) (seen_with sounding aside after recordings_after) × Stays sounding (parts_with aside gear recordings) (parts_with aside after recordings_after)
    broken-up most place are = (
      subst (λ (p : Parts). BreakUp most (seen_with sounding aside gear recordings) (session_of sounding p)) (sym given-is)
          (break-up sounding most place (parts_with aside gear recordings) after.rings.rings recordings_after (still-many (BrokenAt most place) after recordings_after are) files are),
      stay-given sounding aside gear after recordings recordings_after moved files are.recordings_same (keeps-up_to most place are),
    )

    pub broken-rose : (most place : ℕ) → place < length recordings → AreEach (BrokenAt most place) gear.rings.rings recordings after.rings.rings recordings_after
        → OneRose (stores_in (parts_with aside gear recordings)) (stores_in (parts_with aside after recordings_after))
    broken-rose most place low are =
        let many = ends-many sounding (parts_with aside gear recordings) sound in
        let old = some_at recordings place low in
        let new = some_at recordings_after place (subst (λ n. place < n) (sym are.recordings_same) low) in
        let ring = some_at gear.rings.rings place (subst (λ n. place < n) (sym many) low) in
        let ring_after = some_at after.rings.rings place (subst (λ n. place < n) (sym (are.rings_same ∙ many)) low) in
        let broke = (are.each place ring.0 old.0 ring_after.0 new.0 ring.1 old.1 ring_after.1 new.1).1 refl in
        parts-rose (parts_with aside gear recordings) (parts_with aside after recordings_after) place old.0 new.0 (stored_of broke.keeps.tape) (stored_of broke.keeps.tape_after) (playback_later gear after moved)
        (recorders_later (parts_with aside gear recordings) (parts_with aside after recordings_after) (keeps-up_to most place are)) old.1 new.1
        (ap (held_or old.0.store) broke.keeps.was) (ap (held_or new.0.store) broke.keeps.is) broke.rose
