-- The calls of a session's recorders, one after another.
--     ring-next, recording-next      the ring and the recorder of the next call
--     may-next      it may give up blocks
--     moved-next      the driver behind it
--     given-next      one recorder more gave up blocks
--     broken-next      or the file of this one failed
use Rattle.std.proofs.Common.{◌≡◌, ℕ, ◌+◌, ◌<◌, ◌≤◌, List, length, set, get_or, slice_get, Some, sym, ◌∙◌, ap, ap₂, subst, arith}
use Rattle.std.proofs.lemmas.Option.{slice_get-get_or, slice_get_read}
use Rattle.session_model.specs.Kinds.{Sound}
use Rattle.client_kinds.specs.Scores.{Score}
use Rattle.driver_words.specs.Rings.{IsPair, Sending}
use Rattle.driver_words.specs.Tapes.{Tape}
use Rattle.disk_recorder.specs.Recordings.{MayWrite}
use Rattle.cycle_driver.specs.Gears.{Gear}
use Rattle.cycle_driver.specs.recorder_rings.specs.Sending.{no_ring, ring_at}
use Rattle.recorder_files.specs.Recorders.{Recording}
use Rattle.run_laws.proofs.PlaceLemmas.{some_at}
use Rattle.session_works.specs.Giving.{BrokeOff, GaveUp}
use Rattle.session_works.specs.Insides.{AreAble, parts_with}
use Rattle.session_works.proofs.ReelLemmas.{may-give}
use Rattle.session_works.proofs.RingLemmas.{AreEach, BrokenAt, GivenUpTo, IsLeft, up_to-broken, up_to-more}
use Rattle.session_works.proofs.StayLemmas.{RingsMoved, still-many}

pub moved-next : (first gear after : Gear) (rings : List Sending) → RingsMoved first gear → after ≡ record gear { rings = record gear.rings { rings = rings } } → RingsMoved first after
moved-next first gear after rings moved same =
    same ∙ ap₂ (λ (g : Gear) (xs : List Sending). record g { rings = record g.rings { rings = xs } }) moved (sym (ap (λ (g : Gear). g.rings.rings) same))

module _ (sounding : Score → Sound) (first : Gear) (firsts : List Recording) (able : AreAble sounding first firsts) (most place : ℕ) (gear : Gear) (recordings : List Recording)
    (are : AreEach (GivenUpTo most place) first.rings.rings firsts gear.rings.rings recordings) (low : place < length firsts) (recording : Recording) (is : recording ≡ get_or recordings place recording) where
  many : length gear.rings.rings ≡ length recordings
  many = still-many sounding able.aside first firsts able.sound (GivenUpTo most place) gear recordings are

  recording-next : slice_get recordings place ≡ Some recording
  recording-next = slice_get_read recordings (length firsts) place recording (sym are.recordings_same) low is

  ring-next : slice_get gear.rings.rings place ≡ Some (ring_at gear.rings place)
  ring-next = slice_get-get_or gear.rings.rings place no_ring (subst (λ n. place < n) (sym (many ∙ are.recordings_same)) low)

  pub may-next : IsPair (ring_at gear.rings place) recording.getting × ((tape : Tape) × (recording.tape ≡ Some tape) × MayWrite recording.getting tape) × (recording.blocks ≤ length recording.getting.got)
  may-next =
      may-give sounding (parts_with able.aside first firsts) place (ring_at gear.rings place) recording able.sound able.files (ring.1 ∙ ap Some (sym left.0)) (was.1 ∙ ap Some (sym left.1))
    where
      ring : (s : Sending) × (slice_get first.rings.rings place ≡ Some s)
      ring = some_at first.rings.rings place (subst (λ n. place < n) (sym (sym are.rings_same ∙ many ∙ are.recordings_same)) low)

      was : (r : Recording) × (slice_get firsts place ≡ Some r)
      was = some_at firsts place low

      left : IsLeft ring.0 was.0 (ring_at gear.rings place) recording
      left = (are.each place ring.0 was.0 (ring_at gear.rings place) recording ring.1 was.1 ring-next recording-next).1 (omega arith)

  module _ (after : Gear) (recording_after : Recording) (same : after ≡ record gear { rings = record gear.rings { rings = set gear.rings.rings place (ring_at after.rings place) } }) where
    pub given-next : GaveUp most (ring_at gear.rings place) recording (ring_at after.rings place) recording_after → AreEach (GivenUpTo most (place + 1)) first.rings.rings firsts after.rings.rings (set recordings place recording_after)
    given-next gave =
        subst (λ (rings : List Sending). AreEach (GivenUpTo most (place + 1)) first.rings.rings firsts rings (set recordings place recording_after)) (sym (ap (λ (g : Gear). g.rings.rings) same))
        (up_to-more most place first.rings.rings firsts gear.rings.rings recordings (ring_at gear.rings place) (ring_at after.rings place) recording recording_after ring-next recording-next gave are)

    pub broken-next : BrokeOff (ring_at gear.rings place) recording (ring_at after.rings place) recording_after → AreEach (BrokenAt most place) first.rings.rings firsts after.rings.rings (set recordings place recording_after)
    broken-next broke =
        subst (λ (rings : List Sending). AreEach (BrokenAt most place) first.rings.rings firsts rings (set recordings place recording_after)) (sym (ap (λ (g : Gear). g.rings.rings) same))
        (up_to-broken most place first.rings.rings firsts gear.rings.rings recordings (ring_at gear.rings place) (ring_at after.rings place) recording recording_after ring-next recording-next broke are)
