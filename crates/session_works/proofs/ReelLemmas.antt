-- Recorders of a session that have their files in the making.
--     picked_length, picked_at, picked_from      a list of which each item is picked
--     all-there, all-from_places, map-places      what holds at each place
--     recording-of      the recorder of a reel
--     may-give      a recorder of a sound session may give up blocks
--     on-err_caused      what follows of a fault that has a cause
--     gave-one, broke-one      what one call leaves, by its contract
--     RecordersKeep parts after      each recorder has its file in the making, and no other store than before
--     keeps-gave, keeps-broken      so it is behind these calls
--     files-keep, recorders_later, record_files-keep      and then the files, the stores and what came back stay
--     give-up, break-up      blocks left the rings of a session
use Rattle.std.proofs.Common.{◌≡◌, ℕ, zero, suc, ◌<◌, ◌≤◌, ◌⊎◌, inl, inr, List, [], ◌∷◌, length, map, get_or, filter_map, slice_get, Option, Some, None, All, Result, Ok, Err, OnErr, refl, sym, ◌∙◌, ap, ap₂, subst, arith}
use Rattle.std.specs.List.{cons_option}
use Rattle.std.proofs.lemmas.Bool.{cases_lt}
use Rattle.std.proofs.lemmas.List.{length-map}
use Rattle.std.proofs.lemmas.Option.{get_or_from_slice_get, none-some, same_Some, slice_get-get_or, slice_get_within}
use Rattle.jack_host.specs.Causes.{HasCause, Rose}
use Rattle.session_model.specs.Kinds.{Sound}
use Rattle.client_kinds.specs.Scores.{Score}
use Rattle.driver_words.specs.Rings.{Getting, IsPair, Sending}
use Rattle.driver_words.specs.Tapes.{SameFile, Tape}
use Rattle.disk_recorder.specs.Recordings.{MayWrite, SameEnds}
use Rattle.recorder_files.specs.Recorders.{BreaksOff, GivesUp, Recording, Reel, held_in}
use Rattle.run_laws.proofs.PlaceLemmas.{mapped_there, some_at}
use Rattle.serial_laws.specs.Faults.{BreakUp, Broke, Gave, Left, Tried}
use Rattle.serial_laws.specs.Steps.{GiveUp, IsReel, IsSound}
use Rattle.session_works.specs.Giving.{BrokeOff, GaveUp, KeepsFile, reel_of}
use Rattle.session_works.specs.Parts.{HasOpenFiles, Parts, bytes_of, session_of}
use Rattle.session_works.proofs.RingLemmas.{AreEach, BrokenAt, IsLeft}
use Rattle.session_works.proofs.StoreLemmas.{HeldLater, held-file}

-- ---- lists

module _ {X Y : Type 0} (f : X → Option Y) where
  abbrev pub EachPicked : List X → Type 0
  EachPicked xs = (i : ℕ) (x : X) → slice_get xs i ≡ Some x → (y : Y) × (f x ≡ Some y)

  pub picked_length : (xs : List X) → EachPicked xs → length (filter_map f xs) ≡ length xs
  picked_length [] each = refl
  picked_length (x ∷ xs) each =
      let first = each zero x refl in
      subst (λ (o : Option Y). length (cons_option o (filter_map f xs)) ≡ suc (length xs)) (sym first.1) (ap suc (picked_length xs (λ i z e. each (suc i) z e)))

  pub picked_at : (xs : List X) (i : ℕ) (x : X) (y : Y) → EachPicked xs → slice_get xs i ≡ Some x → f x ≡ Some y → slice_get (filter_map f xs) i ≡ Some y
  picked_at [] i x y each e is = absurd (none-some x e)
  picked_at (z ∷ xs) zero x y each e is =
      subst (λ (o : Option Y). slice_get (cons_option o (filter_map f xs)) zero ≡ Some y) (sym (ap f (same_Some z x e) ∙ is)) refl
  picked_at (z ∷ xs) (suc i) x y each e is =
      let first = each zero z refl in
      subst (λ (o : Option Y). slice_get (cons_option o (filter_map f xs)) (suc i) ≡ Some y) (sym first.1) (picked_at xs i x y (λ k w q. each (suc k) w q) e is)

  pub picked_from : (xs : List X) (i : ℕ) (y : Y) → EachPicked xs → slice_get (filter_map f xs) i ≡ Some y → (x : X) × (slice_get xs i ≡ Some x) × (f x ≡ Some y)
  picked_from [] i y each e = absurd (none-some y e)
  picked_from (x ∷ xs) i y each e = go i (subst (λ (o : Option Y). slice_get (cons_option o (filter_map f xs)) i ≡ Some y) (each zero x refl).1 e) (λ k p. picked_from xs k y (λ j w q. each (suc j) w q) p)
    where
      go : (k : ℕ) → slice_get ((each zero x refl).0 ∷ filter_map f xs) k ≡ Some y → ((j : ℕ) → slice_get (filter_map f xs) j ≡ Some y → (z : X) × (slice_get xs j ≡ Some z) × (f z ≡ Some y))
          → (z : X) × (slice_get (x ∷ xs) k ≡ Some z) × (f z ≡ Some y)
      go zero p later = (x, refl, (each zero x refl).1 ∙ p)
      go (suc k) p later = later k p

pub all-there : {X : Type 0} (P : X → Type 0) (xs : List X) (i : ℕ) (x : X) → All P xs → slice_get xs i ≡ Some x → P x
all-there P xs i x all e = subst P (get_or_from_slice_get xs i x x e) (all i x (slice_get_within xs i x e))

pub all-from_places : {X : Type 0} (P : X → Type 0) (xs : List X) → ((i : ℕ) (x : X) → slice_get xs i ≡ Some x → P x) → All P xs
all-from_places P xs each = λ k d low. each k (get_or xs k d) (slice_get-get_or xs k d low)

pub map-places : {X Y : Type 0} (f : X → Y) (xs ys : List X) → length ys ≡ length xs → ((i : ℕ) (x y : X) → slice_get xs i ≡ Some x → slice_get ys i ≡ Some y → f y ≡ f x) → map f ys ≡ map f xs
map-places f [] [] same each = refl
map-places f [] (y ∷ ys) same each = absurd (omega (arith, same))
map-places f (x ∷ xs) [] same each = absurd (omega (arith, same))
map-places f (x ∷ xs) (y ∷ ys) same each = ap₂ (λ a rest. a ∷ rest) (each zero x y refl refl) (map-places f xs ys (omega (arith, same)) (λ i a b p q. each (suc i) a b p q))

-- ---- one recorder

pub tapes-there : (parts : Parts) → HasOpenFiles parts → EachPicked (λ (r : Recording). r.tape) parts.recorders
tapes-there parts files i r e = files.tapes i r e

pub recording-of : (sounding : Score → Sound) (parts : Parts) (recorder : ℕ) (reel : Reel) → HasOpenFiles parts → IsReel (session_of sounding parts) recorder reel
    → (recording : Recording) × (slice_get parts.recorders recorder ≡ Some recording) × (recording.tape ≡ Some reel.tape) × (reel_of reel.ring recording reel.tape ≡ reel)
recording-of sounding parts recorder reel files is =
    let picked = picked_from (λ (r : Recording). r.tape) parts.recorders recorder reel.tape (tapes-there parts files) is.tape in
    let getting : picked.0.getting ≡ reel.getting = same_Some picked.0.getting reel.getting (sym (mapped_there (λ (r : Recording). r.getting) parts.recorders recorder picked.0 picked.1) ∙ is.getting) in
    let blocks : picked.0.blocks ≡ reel.blocks = same_Some picked.0.blocks reel.blocks (sym (mapped_there (λ (r : Recording). r.blocks) parts.recorders recorder picked.0 picked.1) ∙ is.blocks) in
    (picked.0, picked.1, picked.2, ap₂ (λ (g : Getting) (n : ℕ). record { ring = reel.ring; getting = g; tape = reel.tape; blocks = n }) getting blocks)

pub may-give : (sounding : Score → Sound) (parts : Parts) (recorder : ℕ) (ring : Sending) (recording : Recording) → IsSound (session_of sounding parts) → HasOpenFiles parts → slice_get parts.gear.rings.rings recorder ≡ Some ring → slice_get parts.recorders recorder ≡ Some recording
    → IsPair ring recording.getting × ((tape : Tape) × (recording.tape ≡ Some tape) × MayWrite recording.getting tape) × (recording.blocks ≤ length recording.getting.got)
may-give sounding parts recorder ring recording sound files ring_is is =
    let got : slice_get (session_of sounding parts).getting recorder ≡ Some recording.getting = mapped_there (λ (r : Recording). r.getting) parts.recorders recorder recording is in
    let tape = files.tapes recorder recording is in
    let tape_is : slice_get (session_of sounding parts).tapes recorder ≡ Some tape.0 = picked_at (λ (r : Recording). r.tape) parts.recorders recorder recording tape.0 (tapes-there parts files) is tape.1 in
    let counted : Some recording.blocks ≡ Some (length recording.getting.got) =
    sym (mapped_there (λ (r : Recording). r.blocks) parts.recorders recorder recording is)
    ∙ ap (λ (ns : List ℕ). slice_get ns recorder) (sym sound.files.counted)
    ∙ mapped_there (λ (g : Getting). length g.got) (session_of sounding parts).getting recorder recording.getting got
    in
    let same : recording.blocks ≡ length recording.getting.got = same_Some recording.blocks (length recording.getting.got) counted in
    (sound.one.recorder_pairs recorder ring recording.getting ring_is got, (tape.0, tape.1, sound.files.may recorder recording.getting tape.0 got tape_is), omega (arith, same))

-- ---- what one call leaves

pub same-file : (getting getting_after : Getting) (tape tape_after : Tape) → SameEnds getting tape getting_after tape_after → SameFile tape tape_after
same-file getting getting_after tape tape_after same = record { format = same.format; name = same.name; tells = same.tells; later = same.later }

pub on-err_caused : {T E : Type 0} (r : Result T E) {P Q : Type 0} (tape : Tape) (file : Option Tape) → (P → ((after : Tape) → file ≡ Some after → Rose tape.faults after.faults) → Q) → OnErr r P
    → ((after : Tape) → file ≡ Some after → HasCause tape.faults after.faults r) → OnErr r Q
on-err_caused (Ok x) tape file f h cause = tt
on-err_caused (Err e) tape file f h cause = f h (λ after is. (cause after is).failed)

pub gave-one : (most : ℕ) (ring ring_after before after : Sending) (recording recording_after : Recording) (tape : Tape) → recording.tape ≡ Some tape → before ≡ ring → after ≡ ring_after
    → ((tape_after : Tape) × (recording_after ≡ record recording { getting = recording_after.getting; tape = Some tape_after; blocks = recording_after.blocks })
    × GivesUp most (record { ring = before; getting = recording.getting; tape = tape; blocks = recording.blocks }) (record { ring = after; getting = recording_after.getting; tape = tape_after; blocks = recording_after.blocks }))
    → GaveUp most ring recording ring_after recording_after
gave-one most ring ring_after before after recording recording_after tape was first second given = record {
  keeps = record {
    tape = tape;
    tape_after = given.0;
    was = was;
    is = is;
    file = same-file _ _ tape given.0 given.2.drains.writes.same;
    same = given.1 ∙ ap (λ (t : Option Tape). record recording { getting = recording_after.getting; tape = t; blocks = recording_after.blocks }) (sym is);
  };
  gives = subst (λ (s : Sending). GivesUp most (reel_of s recording tape) (reel_of ring_after recording_after given.0)) first
      (subst (λ (s : Sending). GivesUp most (reel_of before recording tape) (reel_of s recording_after given.0)) second given.2);
}
  where
    is : recording_after.tape ≡ Some given.0
    is = ap (λ (r : Recording). r.tape) given.1

pub broke-one : (ring ring_after before after : Sending) (recording recording_after : Recording) (tape : Tape) → recording.tape ≡ Some tape → before ≡ ring → after ≡ ring_after
    → ((tape_after : Tape) × (recording_after ≡ record recording { getting = recording_after.getting; tape = Some tape_after; blocks = recording_after.blocks })
    × BreaksOff (reel_of before recording tape) (reel_of after recording_after tape_after))
    → ((tape_after : Tape) → recording_after.tape ≡ Some tape_after → Rose tape.faults tape_after.faults)
    → BrokeOff ring recording ring_after recording_after
broke-one ring ring_after before after recording recording_after tape was first second broken cause = record {
  keeps = record {
    tape = tape;
    tape_after = broken.0;
    was = was;
    is = is;
    file = same-file _ _ tape broken.0 broken.2.fails.same;
    same = broken.1 ∙ ap (λ (t : Option Tape). record recording { getting = recording_after.getting; tape = t; blocks = recording_after.blocks }) (sym is);
  };
  breaks = subst (λ (s : Sending). BreaksOff (reel_of s recording tape) (reel_of ring_after recording_after broken.0)) first
      (subst (λ (s : Sending). BreaksOff (reel_of before recording tape) (reel_of s recording_after broken.0)) second broken.2);
  rose = cause broken.0 is;
}
  where
    is : recording_after.tape ≡ Some broken.0
    is = ap (λ (r : Recording). r.tape) broken.1

-- ---- all recorders

abbrev pub RecordersKeep : Parts → Parts → Type 0
RecordersKeep parts after = (i : ℕ) (old new : Recording) → slice_get parts.recorders i ≡ Some old → slice_get after.recorders i ≡ Some new → KeepsFile old new

keeps_same : (recording after : Recording) (tape : Tape) → recording.tape ≡ Some tape → after ≡ recording → KeepsFile recording after
keeps_same recording after tape was same = record {
  tape = tape;
  tape_after = tape;
  was = was;
  is = ap (λ (r : Recording). r.tape) same ∙ was;
  file = record { format = refl; name = refl; tells = refl; later = omega arith };
  same = same ∙ ap (λ (r : Recording). record recording { getting = r.getting; tape = r.tape; blocks = r.blocks }) (sym same);
}

pub keeps-gave : (most : ℕ) (parts after : Parts) → length after.gear.rings.rings ≡ length after.recorders → AreEach (λ (i : ℕ). GaveUp most) parts.gear.rings.rings parts.recorders after.gear.rings.rings after.recorders → RecordersKeep parts after
keeps-gave most parts after as_many are i old new was is =
    let low : i < length after.gear.rings.rings = subst (λ n. i < n) (sym as_many) (slice_get_within after.recorders i new is) in
    let ring = some_at parts.gear.rings.rings i (subst (λ n. i < n) are.rings_same low) in
    let ring_after = some_at after.gear.rings.rings i low in
    (are.each i ring.0 old ring_after.0 new ring.1 was ring_after.1 is).keeps

pub keeps-broken : (most place : ℕ) (parts after : Parts) → HasOpenFiles parts → length after.gear.rings.rings ≡ length after.recorders → AreEach (BrokenAt most place) parts.gear.rings.rings parts.recorders after.gear.rings.rings after.recorders → RecordersKeep parts after
keeps-broken most place parts after files as_many are i old new was is = go (cases_lt i place) (cases_lt place i)
  where
    low : i < length after.gear.rings.rings
    low = subst (λ n. i < n) (sym as_many) (slice_get_within after.recorders i new is)

    ring : (s : Sending) × (slice_get parts.gear.rings.rings i ≡ Some s)
    ring = some_at parts.gear.rings.rings i (subst (λ n. i < n) are.rings_same low)

    ring_after : (s : Sending) × (slice_get after.gear.rings.rings i ≡ Some s)
    ring_after = some_at after.gear.rings.rings i low

    tape : (t : Tape) × (old.tape ≡ Some t)
    tape = files.tapes i old was

    broken : BrokenAt most place i ring.0 old ring_after.0 new
    broken = are.each i ring.0 old ring_after.0 new ring.1 was ring_after.1 is

    go : (i < place) ⊎ (place ≤ i) → (place < i) ⊎ (i ≤ place) → KeepsFile old new
    go (inl below) y = (broken.0 below).keeps
    go (inr x) (inl above) = keeps_same old new tape.0 tape.1 (broken.2 above).1
    go (inr x) (inr y) = (broken.1 (omega (arith, x, y))).keeps

pub files-keep : (parts after : Parts) → HasOpenFiles parts → after.playback ≡ parts.playback → length after.recorders ≡ length parts.recorders → RecordersKeep parts after → HasOpenFiles after
files-keep parts after files playback same keeps = record {
  tapes = λ i new is. let old = before i new is in let kept = keeps i old.0 new old.1 is in (kept.tape_after, kept.is);
  no_playback = playback ∙ files.no_playback;
  no_stores = all-from_places (λ (r : Recording). r.store ≡ None) after.recorders (λ i new is.
      let old = before i new is in
      ap (λ (r : Recording). r.store) (keeps i old.0 new old.1 is).same ∙ all-there (λ (r : Recording). r.store ≡ None) parts.recorders i old.0 files.no_stores old.1);
}
  where
    before : (i : ℕ) (new : Recording) → slice_get after.recorders i ≡ Some new → (old : Recording) × (slice_get parts.recorders i ≡ Some old)
    before i new is = some_at parts.recorders i (subst (λ n. i < n) same (slice_get_within after.recorders i new is))

pub recorders_later : (parts after : Parts) → RecordersKeep parts after → (i : ℕ) (old new : Recording) → slice_get parts.recorders i ≡ Some old → slice_get after.recorders i ≡ Some new → HeldLater (held_in old) (held_in new)
recorders_later parts after keeps i old new was is = let kept = keeps i old new was is in held-file old.store new.store old.tape new.tape kept.tape kept.tape_after kept.was kept.is kept.file

pub record_files-keep : (parts after : Parts) → length after.recorders ≡ length parts.recorders → RecordersKeep parts after
    → map (λ (r : Recording). bytes_of r.store) after.recorders ≡ map (λ (r : Recording). bytes_of r.store) parts.recorders
record_files-keep parts after same keeps = map-places (λ (r : Recording). bytes_of r.store) parts.recorders after.recorders same (λ i old new was is. ap (λ (r : Recording). bytes_of r.store) (keeps i old new was is).same)

-- ---- blocks left the rings of a session

abbrev pub given_up : Parts → List Sending → List Recording → Parts
given_up parts rings recorders = record parts { gear = record parts.gear { rings = record parts.gear.rings { rings = rings } }; recorders = recorders }

pub give-up : (sounding : Score → Sound) (most : ℕ) (parts : Parts) (rings : List Sending) (recorders : List Recording) → length rings ≡ length recorders → HasOpenFiles parts → AreEach (λ (i : ℕ). GaveUp most) parts.gear.rings.rings parts.recorders rings recorders
    → GiveUp most (session_of sounding parts) (session_of sounding (given_up parts rings recorders))
give-up sounding most parts rings recorders as_many files are = record {
  each = each;
  rings = are.rings_same;
  getting = length-map recorders (λ (r : Recording). r.getting) ∙ are.recordings_same ∙ sym (length-map parts.recorders (λ (r : Recording). r.getting));
  tapes = picked_length (λ (r : Recording). r.tape) recorders (tapes-there after kept) ∙ are.recordings_same ∙ sym (picked_length (λ (r : Recording). r.tape) parts.recorders (tapes-there parts files));
  counts = length-map recorders (λ (r : Recording). r.blocks) ∙ are.recordings_same ∙ sym (length-map parts.recorders (λ (r : Recording). r.blocks));
  same = ap (λ (bytes : List (Option (List ℕ))). record (session_of sounding after) { record_files = bytes }) (record_files-keep parts after are.recordings_same keeps);
}
  where
    after : Parts
    after = given_up parts rings recorders

    keeps : RecordersKeep parts after
    keeps = keeps-gave most parts after as_many are

    kept : HasOpenFiles after
    kept = files-keep parts after files refl are.recordings_same keeps

    each : (recorder : ℕ) (reel reel_after : Reel) → IsReel (session_of sounding parts) recorder reel → IsReel (session_of sounding after) recorder reel_after → GivesUp most reel reel_after
    each recorder reel reel_after was is =
        let old = recording-of sounding parts recorder reel files was in
        let new = recording-of sounding after recorder reel_after kept is in
        let gave = are.each recorder reel.ring old.0 reel_after.ring new.0 was.ring old.1 is.ring new.1 in
        let first : gave.keeps.tape ≡ reel.tape = same_Some gave.keeps.tape reel.tape (sym gave.keeps.was ∙ old.2) in
        let second : gave.keeps.tape_after ≡ reel_after.tape = same_Some gave.keeps.tape_after reel_after.tape (sym gave.keeps.is ∙ new.2) in
        subst (λ (r : Reel). GivesUp most r reel_after) (ap (reel_of reel.ring old.0) first ∙ old.3)
        (subst (λ (r : Reel). GivesUp most (reel_of reel.ring old.0 gave.keeps.tape) r) (ap (reel_of reel_after.ring new.0) second ∙ new.3) gave.gives)

pub break-up : (sounding : Score → Sound) (most place : ℕ) (parts : Parts) (rings : List Sending) (recorders : List Recording) → length rings ≡ length recorders → HasOpenFiles parts → AreEach (BrokenAt most place) parts.gear.rings.rings parts.recorders rings recorders
    → BreakUp most (session_of sounding parts) (session_of sounding (given_up parts rings recorders))
break-up sounding most place parts rings recorders as_many files are = record {
  each = each;
  rings = are.rings_same;
  getting = length-map recorders (λ (r : Recording). r.getting) ∙ are.recordings_same ∙ sym (length-map parts.recorders (λ (r : Recording). r.getting));
  tapes = picked_length (λ (r : Recording). r.tape) recorders (tapes-there after kept) ∙ are.recordings_same ∙ sym (picked_length (λ (r : Recording). r.tape) parts.recorders (tapes-there parts files));
  counts = length-map recorders (λ (r : Recording). r.blocks) ∙ are.recordings_same ∙ sym (length-map parts.recorders (λ (r : Recording). r.blocks));
  same = ap (λ (bytes : List (Option (List ℕ))). record (session_of sounding after) { record_files = bytes }) (record_files-keep parts after are.recordings_same keeps);
}
  where
    after : Parts
    after = given_up parts rings recorders

    keeps : RecordersKeep parts after
    keeps = keeps-broken most place parts after files as_many are

    kept : HasOpenFiles after
    kept = files-keep parts after files refl are.recordings_same keeps

    each : (recorder : ℕ) (reel reel_after : Reel) → IsReel (session_of sounding parts) recorder reel → IsReel (session_of sounding after) recorder reel_after → Tried most reel reel_after
    each recorder reel reel_after was is = go (cases_lt recorder place) (cases_lt place recorder)
      where
        old : (recording : Recording) × (slice_get parts.recorders recorder ≡ Some recording) × (recording.tape ≡ Some reel.tape) × (reel_of reel.ring recording reel.tape ≡ reel)
        old = recording-of sounding parts recorder reel files was

        new : (recording : Recording) × (slice_get after.recorders recorder ≡ Some recording) × (recording.tape ≡ Some reel_after.tape) × (reel_of reel_after.ring recording reel_after.tape ≡ reel_after)
        new = recording-of sounding after recorder reel_after kept is

        broken : BrokenAt most place recorder reel.ring old.0 reel_after.ring new.0
        broken = are.each recorder reel.ring old.0 reel_after.ring new.0 was.ring old.1 is.ring new.1

        moved : (P : Reel → Reel → Type 0) (keeps : KeepsFile old.0 new.0) → P (reel_of reel.ring old.0 keeps.tape) (reel_of reel_after.ring new.0 keeps.tape_after) → P reel reel_after
        moved P keeps holds =
            let first : keeps.tape ≡ reel.tape = same_Some keeps.tape reel.tape (sym keeps.was ∙ old.2) in
            let second : keeps.tape_after ≡ reel_after.tape = same_Some keeps.tape_after reel_after.tape (sym keeps.is ∙ new.2) in
            subst (λ (r : Reel). P r reel_after) (ap (reel_of reel.ring old.0) first ∙ old.3)
            (subst (λ (r : Reel). P (reel_of reel.ring old.0 keeps.tape) r) (ap (reel_of reel_after.ring new.0) second ∙ new.3) holds)

        left : IsLeft reel.ring old.0 reel_after.ring new.0 → reel_after ≡ reel
        left same =
            let tape : reel_after.tape ≡ reel.tape = same_Some reel_after.tape reel.tape (sym new.2 ∙ ap (λ (r : Recording). r.tape) same.1 ∙ old.2) in
            sym new.3
            ∙ ap₂ (λ (s : Sending) (r : Recording). reel_of s r reel_after.tape) same.0 same.1
            ∙ ap (reel_of reel.ring old.0) tape
            ∙ old.3

        go : (recorder < place) ⊎ (place ≤ recorder) → (place < recorder) ⊎ (recorder ≤ place) → Tried most reel reel_after
        go (inl below) y = let gave = broken.0 below in Gave (moved (GivesUp most) gave.keeps gave.gives)
        go (inr x) (inl above) = Left (left (broken.2 above))
        go (inr x) (inr y) = let broke = broken.1 (omega (arith, x, y)) in Broke (moved BreaksOff broke.keeps broke.breaks)
