-- Recorders that served their rings up to the ends.
--     served-by      one of them, by its contract
--     served-at      each of them
--     recorders-keep      their files stay in the making
--     serves-all, serves-some      what they are of a session, where no file failed, and where some may have
--     up_to-next, untorn-by, failed-by      whether one failed, by asking one after another
use Rattle.std.proofs.Common.{◌≡◌, ℕ, zero, suc, ◌+◌, ◌<◌, Bool, true, false, true≢false, List, [], ◌∷◌, length, get_or, slice_get, IfSome, All, Option, Some, None, Result, Ok, Err, OnOk, OnErr, refl, sym, ◌∙◌, ap, ap₂, subst, arith}
use Rattle.std.proofs.lemmas.List.{length-map}
use Rattle.std.proofs.lemmas.Option.{get_or_from_slice_get, none-some, same_Some, slice_get_within}
use Rattle.jack_host.specs.Causes.{HasCause}
use Rattle.session_model.specs.Kinds.{Sound}
use Rattle.client_kinds.specs.Scores.{Score}
use Rattle.driver_words.specs.Rings.{Sending}
use Rattle.driver_words.specs.Tapes.{Tape}
use Rattle.disk_recorder.specs.Recordings.{Serves}
use Rattle.recorder_files.specs.Recorders.{Recording, Reel, Tears}
use Rattle.session_works.specs.SerialWords.{IsReel}
use Rattle.thread_laws.specs.Faults.{Got, ReelEnds, ServedSome, Torn}
use Rattle.thread_laws.specs.Segments.{Served, ServesReel}
use Rattle.session_works.specs.Giving.{reel_of}
use Rattle.session_works.specs.Parts.{HasOpenFiles, Parts, session_of}
use Rattle.session_threads.specs.Serving.{AreServed, HaveFailed, IsUntorn, ServedBy}
use Rattle.session_works.proofs.ReelLemmas.{RecordersKeep, all-there, files-keep, picked_length, record_files-keep, recording-of, same-file, tapes-there}

-- ---- one recorder

abbrev pub HasDrained : Recording → Recording → Type 0
HasDrained recording after = (tape : Tape) → recording.tape ≡ Some tape → (tape_after : Tape) × (count : ℕ) × (after ≡ record recording { getting = after.getting; tape = Some tape_after; blocks = recording.blocks + count })
    × Serves count recording.getting tape after.getting tape_after

abbrev pub IsTorn : Recording → Recording → Type 0
IsTorn recording after = (tape : Tape) → recording.tape ≡ Some tape → (tape_after : Tape) × (after ≡ record recording { getting = after.getting; tape = Some tape_after; blocks = after.blocks }) × Tears recording tape after tape_after

pub served-by : {T E : Type 0} (r : Result T E) (recording after : Recording) (tape : Tape) → recording.tape ≡ Some tape → OnOk r (HasDrained recording after) → OnErr r (IsTorn recording after)
    → ((old new : Tape) → recording.tape ≡ Some old → after.tape ≡ Some new → HasCause old.faults new.faults r) → ServedBy recording after
served-by (Ok x) recording after tape was served torn cause =
    let it = served tape was in
    let is : after.tape ≡ Some it.0 = ap (λ (r : Recording). r.tape) it.2 in
    let counted : after.blocks ≡ recording.blocks + it.1 = ap (λ (r : Recording). r.blocks) it.2 in
    record {
      keeps = record {
        tape = tape;
        tape_after = it.0;
        was = was;
        is = is;
        file = same-file _ _ tape it.0 it.3.writes.same;
        same = it.2 ∙ ap₂ (λ (t : Option Tape) (n : ℕ). record recording { getting = after.getting; tape = t; blocks = n }) (sym is) (sym counted);
      };
      whole = λ _. record { count = it.1; serves = it.3; counted = counted };
      torn = λ stopped. absurd (true≢false (sym stopped ∙ it.3.writes.may.going));
    }
served-by (Err e) recording after tape was served torn cause =
    let it = torn tape was in
    let is : after.tape ≡ Some it.0 = ap (λ (r : Recording). r.tape) it.1 in
    record {
      keeps = record {
        tape = tape;
        tape_after = it.0;
        was = was;
        is = is;
        file = same-file _ _ tape it.0 it.2.fails.same;
        same = it.1 ∙ ap (λ (t : Option Tape). record recording { getting = after.getting; tape = t; blocks = after.blocks }) (sym is);
      };
      whole = λ going. absurd (true≢false (sym it.2.fails.stopped ∙ going));
      torn = λ _. record { fails = it.2.fails; counted = it.2.counted; rose = (cause tape it.0 was is).failed };
    }

pub served-at : (recordings after : List Recording) (i : ℕ) (x y : Recording) → AreServed recordings after → slice_get recordings i ≡ Some x → slice_get after i ≡ Some y → ServedBy x y
served-at recordings after i x y served p q =
    subst (λ (r : Recording). ServedBy r y) (get_or_from_slice_get recordings i x x p)
    (subst (λ (r : Recording). ServedBy (get_or recordings i x) r) (get_or_from_slice_get after i y x q) (served.each i x (slice_get_within recordings i x p)))

-- ---- all of them

abbrev pub with_recorders : Parts → List Recording → Parts
with_recorders parts recorders = record parts { recorders = recorders }

module _ (parts : Parts) (recorders : List Recording) (files : HasOpenFiles parts) (many : length recorders ≡ length parts.recorders) (served : AreServed parts.recorders recorders) where
  pub recorders-keep : RecordersKeep parts (with_recorders parts recorders)
  recorders-keep i old new was is = (served-at parts.recorders recorders i old new served was is).keeps

  pub files-served : HasOpenFiles (with_recorders parts recorders)
  files-served = files-keep parts (with_recorders parts recorders) files refl many recorders-keep

module _ (sounding : Score → Sound) (parts : Parts) (recorders : List Recording) (files : HasOpenFiles parts) (many : length recorders ≡ length parts.recorders) (served : AreServed parts.recorders recorders) where
  same : session_of sounding (with_recorders parts recorders)
      ≡ record (session_of sounding parts) { getting = (session_of sounding (with_recorders parts recorders)).getting; tapes = (session_of sounding (with_recorders parts recorders)).tapes; counts = (session_of sounding (with_recorders parts recorders)).counts }
  same = ap (λ (bytes : List (Option (List ℕ))). record (session_of sounding (with_recorders parts recorders)) { record_files = bytes }) (record_files-keep parts (with_recorders parts recorders) many (recorders-keep parts recorders files many served))

  getting_same : length (session_of sounding (with_recorders parts recorders)).getting ≡ length (session_of sounding parts).getting
  getting_same = length-map recorders (λ (r : Recording). r.getting) ∙ many ∙ sym (length-map parts.recorders (λ (r : Recording). r.getting))

  counts_same : length (session_of sounding (with_recorders parts recorders)).counts ≡ length (session_of sounding parts).counts
  counts_same = length-map recorders (λ (r : Recording). r.blocks) ∙ many ∙ sym (length-map parts.recorders (λ (r : Recording). r.blocks))

  tapes_same : length (session_of sounding (with_recorders parts recorders)).tapes ≡ length (session_of sounding parts).tapes
  tapes_same =
      picked_length (λ (r : Recording). r.tape) recorders (tapes-there (with_recorders parts recorders) (files-served parts recorders files many served)) ∙ many
      ∙ sym (picked_length (λ (r : Recording). r.tape) parts.recorders (tapes-there parts files))

  -- what one of them did is told of its reel
  told-reel : (P : Reel → Reel → Type 0) (recorder : ℕ) (reel reel_after : Reel) → IsReel (session_of sounding parts) recorder reel → IsReel (session_of sounding (with_recorders parts recorders)) recorder reel_after
      → ((old new : Recording) (it : ServedBy old new) → slice_get recorders recorder ≡ Some new → P (reel_of reel.ring old it.keeps.tape) (reel_of reel_after.ring new it.keeps.tape_after)) → P reel reel_after
  told-reel P recorder reel reel_after was is holds =
      let old = recording-of sounding parts recorder reel files was in
      let new = recording-of sounding (with_recorders parts recorders) recorder reel_after (files-served parts recorders files many served) is in
      let it : ServedBy old.0 new.0 = served-at parts.recorders recorders recorder old.0 new.0 served old.1 new.1 in
      let first : it.keeps.tape ≡ reel.tape = same_Some it.keeps.tape reel.tape (sym it.keeps.was ∙ old.2) in
      let second : it.keeps.tape_after ≡ reel_after.tape = same_Some it.keeps.tape_after reel_after.tape (sym it.keeps.is ∙ new.2) in
      subst (λ (r : Reel). P r reel_after) (ap (reel_of reel.ring old.0) first ∙ old.3)
      (subst (λ (r : Reel). P (reel_of reel.ring old.0 it.keeps.tape) r) (ap (reel_of reel_after.ring new.0) second ∙ new.3) (holds old.0 new.0 it new.1))

  pub serves-all : All IsUntorn recorders → Served (session_of sounding parts) (session_of sounding (with_recorders parts recorders))
  serves-all going = record {
    each = λ recorder reel reel_after was is. told-reel ServesReel recorder reel reel_after was is (λ old new it there.
        let whole = it.whole (going-of new it.keeps.tape_after it.keeps.is (all-there IsUntorn recorders recorder new going there).going) in
        record { count = whole.count; serves = whole.serves; counted = whole.counted });
    getting = getting_same;
    tapes = tapes_same;
    counts = counts_same;
    same = same;
  }
    where
      going-of : (r : Recording) (tape : Tape) → r.tape ≡ Some tape → IfSome r.tape (λ (t : Tape). t.stopped ≡ false) → tape.stopped ≡ false
      going-of r tape is holds = subst (λ (o : Option Tape). IfSome o (λ (t : Tape). t.stopped ≡ false)) is holds

  pub serves-some : ServedSome (session_of sounding parts) (session_of sounding (with_recorders parts recorders))
  serves-some = record {
    each = λ recorder reel reel_after was is. told-reel ReelEnds recorder reel reel_after was is (λ old new it there. ends reel.ring reel_after.ring old new it it.keeps.tape_after.stopped refl);
    getting = getting_same;
    tapes = tapes_same;
    counts = counts_same;
    same = same;
  }
    where
      ends : (ring ring_after : Sending) (old new : Recording) (it : ServedBy old new) (stopped : Bool) → it.keeps.tape_after.stopped ≡ stopped → ReelEnds (reel_of ring old it.keeps.tape) (reel_of ring_after new it.keeps.tape_after)
      ends ring ring_after old new it true is = Torn (it.torn is).fails
      ends ring ring_after old new it false is = let whole = it.whole is in Got (record { count = whole.count; serves = whole.serves; counted = whole.counted })

-- ---- whether one failed

abbrev pub UpTo : (Recording → Type 0) → List Recording → ℕ → Type 0
UpTo P recordings n = (i : ℕ) (r : Recording) → i < n → slice_get recordings i ≡ Some r → P r

pub up_to-next : (P : Recording → Type 0) (recordings : List Recording) (n : ℕ) (recording : Recording) → UpTo P recordings n → slice_get recordings n ≡ Some recording → P recording → UpTo P recordings (n + 1)
up_to-next P [] n recording before there now i r low is = absurd (none-some r is)
up_to-next P (one ∷ others) zero recording before there now zero r low is = subst P (same_Some recording r (sym there ∙ is)) now
up_to-next P (one ∷ others) zero recording before there now (suc i) r low is = absurd (omega (arith, low))
up_to-next P (one ∷ others) (suc n) recording before there now zero r low is = before zero r (omega arith) is
up_to-next P (one ∷ others) (suc n) recording before there now (suc i) r low is = up_to-next P others n recording (λ k q l e. before (suc k) q (omega (arith, l)) e) there now i r (omega (arith, low)) is

pub untorn-by : (recording : Recording) (told : Bool) → IfSome recording.tape (λ (tape : Tape). told ≡ tape.stopped) → told ≡ false → IsUntorn recording
untorn-by recording told tells is = record { going = by recording.tape tells }
  where
    by : (file : Option Tape) → IfSome file (λ (tape : Tape). told ≡ tape.stopped) → IfSome file (λ (tape : Tape). tape.stopped ≡ false)
    by None tells = tt
    by (Some tape) tells = sym tells ∙ is

pub failed-by : (recordings : List Recording) (place : ℕ) (recording : Recording) (told : Bool) → slice_get recordings place ≡ Some recording → IfSome recording.tape (λ (tape : Tape). told ≡ tape.stopped) → told ≡ true → HaveFailed recordings
failed-by recordings place recording told there tells is = record { place = place; recording = recording; there = there; stopped = by recording.tape tells }
  where
    by : (file : Option Tape) → IfSome file (λ (tape : Tape). told ≡ tape.stopped) → IfSome file (λ (tape : Tape). tape.stopped ≡ true)
    by None tells = tt
    by (Some tape) tells = sym tells ∙ is
