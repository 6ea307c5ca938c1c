-- What the end of a session leaves of its parts.
--     whole-reel      the recorder that a reel is of, behind its close
--     ends-all      each ring emptied and each file finished
--     closing-fails, playback-fails      or a file failed
--     told-closed      what its stores tell, of which no file is in the making
--     has-ended      where that leaves the session
--     stores-closed, stores-tried      its stores are later
--     rose-tried, rose-playback      and one of them counts more faults
--     stops-recorder, stops-playback      what came before the file that failed was finished, and what came behind it was left
--     ClosingFailed, closing-failed      a session of which a recorder failed, from the clauses of its calls
--     PlaybackEnded, playback-ended      or of which the playback was finished, or failed
use Rattle.std.proofs.Common.{◌≡◌, ℕ, zero, suc, ◌<◌, ◌≤◌, ◌⊎◌, inl, inr, false, List, [], ◌∷◌, length, map, filter_map, slice_get, Option, Some, None, Result, refl, sym, ◌∙◌, ap, ap₂, subst, arith}
use Rattle.std.specs.List.{cons_option}
use Rattle.std.proofs.lemmas.Bool.{cases_lt}
use Rattle.std.proofs.lemmas.List.{length-map}
use Rattle.std.proofs.lemmas.Option.{same_Some, slice_get_within}
use Rattle.jack_host.specs.Causes.{Rose}
use Rattle.session_model.specs.Grammar.{IsScript}
use Rattle.session_model.specs.Kinds.{Sound}
use Rattle.session_model.specs.Scripts.{Script, phases}
use Rattle.driver_words.specs.Rings.{Getting, Sending}
use Rattle.driver_words.specs.Tapes.{Tape}
use Rattle.wave_write.proofs.TapeLemmas.{samples-unfinished, unfinished-front}
use Rattle.session_works.specs.Drivers.{Gear, driver_of}
use Rattle.session_works.specs.DeskWords.{Desk}
use Rattle.recorder_files.specs.Recorders.{Recording, Reel, Stored, held_in, held_or, stored_of}
use Rattle.session_laws.proofs.ListLemmas.{slice_get-map}
use Rattle.client_kinds.specs.Scores.{Score}
use Rattle.session_works.specs.RunWords.{Playing, RanPhases}
use Rattle.session_works.proofs.PassedLemmas.{mapped_there, some_at}
use Rattle.session_works.specs.SerialWords.{EndFails, EndsAll, EndsOne, EndTried, Finished, IsBroken, IsFinished, IsReel, IsSound, Left}
use Rattle.session_ends.specs.Closings.{CloseFails, Closed, ClosesAll, Failed, PlaybackCloses, Tried}
use Rattle.session_ends.specs.Endings.{StopsInOrder}
use Rattle.session_works.specs.Giving.{reel_of}
use Rattle.session_works.specs.Parts.{AreLater, HasOpenFiles, IsLater, OneRose, Parts, bytes_of, session_of, stores_in, told_of}
use Rattle.session_works.specs.Standings.{HasEnded, HasRun}
use Rattle.session_works.proofs.ReelLemmas.{recording-of}
use Rattle.session_works.proofs.StayLemmas.{ends-many}
use Rattle.session_works.proofs.StoreLemmas.{HeldLater, RecordersLater, held_same, parts-later, parts-rose, playback-rose}

-- the driver behind its end: other rings, and another playback
abbrev pub geared : Gear → List Sending → Option Tape → Gear
geared gear rings playback = record gear { rings = record gear.rings { rings = rings }; playback = playback }

-- ---- whole

picked-none : {X Y : Type 0} (f : X → Option Y) (xs : List X) → ((i : ℕ) (x : X) → slice_get xs i ≡ Some x → f x ≡ None) → filter_map f xs ≡ []
picked-none f [] none = refl
picked-none f (x ∷ xs) none = ap (λ o. cons_option o (filter_map f xs)) (none zero x refl) ∙ picked-none f xs (λ i y e. none (suc i) y e)

-- the recorder, and the end of its ring, that a place has before and behind
record Placed (parts after : Parts) (recorder : ℕ) (new : Recording) : Type 0 where
  ring : Sending
  ring_after : Sending
  old : Recording
  ring_there : slice_get parts.gear.rings.rings recorder ≡ Some ring
  ring_after_there : slice_get after.gear.rings.rings recorder ≡ Some ring_after
  was : slice_get parts.recorders recorder ≡ Some old

placed : (sounding : Score → Sound) (parts after : Parts) → IsSound (session_of sounding parts) → length after.recorders ≡ length parts.recorders → length after.gear.rings.rings ≡ length parts.gear.rings.rings
    → (recorder : ℕ) (new : Recording) → slice_get after.recorders recorder ≡ Some new → Placed parts after recorder new
placed sounding parts after sound as_many rings recorder new is =
    let low : recorder < length parts.recorders = subst (λ n. recorder < n) as_many (slice_get_within after.recorders recorder new is) in
    let low_ring : recorder < length parts.gear.rings.rings = subst (λ n. recorder < n) (sym (ends-many sounding parts sound)) low in
    let ring = some_at parts.gear.rings.rings recorder low_ring in
    let ring_after = some_at after.gear.rings.rings recorder (subst (λ n. recorder < n) (sym rings) low_ring) in
    let old = some_at parts.recorders recorder low in
    record { ring = ring.0; ring_after = ring_after.0; old = old.0; ring_there = ring.1; ring_after_there = ring_after.1; was = old.1 }

closed-at : (sounding : Score → Sound) (parts after : Parts) → IsSound (session_of sounding parts) → (closes : ClosesAll parts after) → (recorder : ℕ) (new : Recording) → slice_get after.recorders recorder ≡ Some new
    → (p : Placed parts after recorder new) × Closed parts.gear.script.header.ring p.ring p.old p.ring_after new
closed-at sounding parts after sound closes recorder new is =
    let p = placed sounding parts after sound closes.as_many closes.rings recorder new is in
    (p, closes.each recorder p.ring p.old p.ring_after new p.ring_there p.was p.ring_after_there is)

-- behind a close, as the reel before it and the lists behind it say
whole-reel : (sounding : Score → Sound) (capacity recorder : ℕ) (parts : Parts) (reel : Reel) (ring : Sending) (new : Recording) (files : HasOpenFiles parts) (is : IsReel (session_of sounding parts) recorder reel)
    → Closed capacity reel.ring (recording-of sounding parts recorder reel files is).0 ring new → EndsOne capacity reel ring new.getting new.blocks (bytes_of new.store)
whole-reel sounding capacity recorder parts reel ring new files is closed =
    let old = recording-of sounding parts recorder reel files is in
    let tape : closed.finishes.tape ≡ reel.tape = same_Some closed.finishes.tape reel.tape (sym closed.finishes.was ∙ old.2) in
    subst (λ (r : Reel). EndsOne capacity r ring new.getting new.blocks (bytes_of new.store)) (ap (reel_of reel.ring old.0) tape ∙ old.3)
    (subst (λ (bytes : Option (List ℕ)). EndsOne capacity (reel_of reel.ring old.0 closed.finishes.tape) ring new.getting new.blocks bytes) (sym (ap bytes_of closed.finishes.store)) closed.finishes.ends)

pub ends-all : (sounding : Score → Sound) (parts after : Parts) (tape : Tape) (back : Stored) → IsSound (session_of sounding parts) → HasOpenFiles parts → ClosesAll parts after → after.gear ≡ geared parts.gear after.gear.rings.rings None → after.desk ≡ parts.desk → after.players ≡ parts.players
    → parts.gear.playback ≡ Some tape → after.playback ≡ Some back → IsFinished tape back.bytes → EndsAll (session_of sounding parts) (session_of sounding after)
ends-all sounding parts after tape back sound files closes gear desk players attached kept finished = record {
  each = each;
  playback = λ other is. subst (λ (bytes : Option (List ℕ)). IsFinished other bytes) (sym (ap bytes_of kept)) (subst (λ (t : Tape). IsFinished t back.bytes) (same_Some tape other (sym attached ∙ is)) finished);
  rings = closes.rings;
  getting = length-map after.recorders (λ (r : Recording). r.getting) ∙ closes.as_many ∙ sym (length-map parts.recorders (λ (r : Recording). r.getting));
  counts = length-map after.recorders (λ (r : Recording). r.blocks) ∙ closes.as_many ∙ sym (length-map parts.recorders (λ (r : Recording). r.blocks));
  records = length-map after.recorders (λ (r : Recording). bytes_of r.store) ∙ closes.as_many ∙ sym (length-map parts.recorders (λ (r : Recording). r.getting));
  same = ap (λ (g : Gear). record (session_of sounding after) { script = g.script; driver = driver_of sounding g }) gear
      ∙ ap (λ (d : Desk). record (session_of sounding after) { script = parts.gear.script; desk = d; driver = driver_of sounding (geared parts.gear after.gear.rings.rings None) }) desk
      ∙ ap (λ (ps : List Playing). record (session_of sounding after) { script = parts.gear.script; desk = parts.desk; driver = driver_of sounding (geared parts.gear after.gear.rings.rings None); players = ps }) players
      ∙ ap (λ (tapes : List Tape). record (session_of sounding after) { script = parts.gear.script; desk = parts.desk; driver = driver_of sounding (geared parts.gear after.gear.rings.rings None); players = parts.players; tapes = tapes }) none;
}
  where
    none : filter_map (λ (r : Recording). r.tape) after.recorders ≡ []
    none = picked-none (λ (r : Recording). r.tape) after.recorders (λ i r is. (closed-at sounding parts after sound closes i r is).1.finishes.none)

    each : (recorder : ℕ) (reel : Reel) (ring : Sending) (getting : Getting) (blocks : ℕ) (bytes : Option (List ℕ)) → IsReel (session_of sounding parts) recorder reel
        → slice_get after.gear.rings.rings recorder ≡ Some ring → slice_get (map (λ (r : Recording). r.getting) after.recorders) recorder ≡ Some getting → slice_get (map (λ (r : Recording). r.blocks) after.recorders) recorder ≡ Some blocks
        → slice_get (map (λ (r : Recording). bytes_of r.store) after.recorders) recorder ≡ Some bytes → EndsOne parts.gear.script.header.ring reel ring getting blocks bytes
    each recorder reel ring getting blocks bytes is ring_there getting_there blocks_there bytes_there =
        let old = recording-of sounding parts recorder reel files is in
        let new = slice_get-map (λ (r : Recording). r.getting) after.recorders recorder getting getting_there in
        let count : new.0.blocks ≡ blocks = same_Some new.0.blocks blocks (sym (mapped_there (λ (r : Recording). r.blocks) after.recorders recorder new.0 new.1) ∙ blocks_there) in
        let told : bytes_of new.0.store ≡ bytes = same_Some (bytes_of new.0.store) bytes (sym (mapped_there (λ (r : Recording). bytes_of r.store) after.recorders recorder new.0 new.1) ∙ bytes_there) in
        let whole = whole-reel sounding parts.gear.script.header.ring recorder parts reel ring new.0 files is (closes.each recorder reel.ring old.0 ring new.0 is.ring old.1 ring_there new.1) in
        subst (λ (g : Getting). EndsOne parts.gear.script.header.ring reel ring g blocks bytes) new.2
        (subst (λ n. EndsOne parts.gear.script.header.ring reel ring new.0.getting n bytes) count
        (subst (λ (told : Option (List ℕ)). EndsOne parts.gear.script.header.ring reel ring new.0.getting new.0.blocks told) told whole))

-- no file is in the making
told-each : (recordings : List Recording) → ((i : ℕ) (r : Recording) → slice_get recordings i ≡ Some r → r.tape ≡ None) → map (λ (r : Recording). bytes_of (held_in r)) recordings ≡ map (λ (r : Recording). bytes_of r.store) recordings
told-each [] none = refl
told-each (r ∷ others) none = ap₂ (λ (b : Option (List ℕ)) (bs : List (Option (List ℕ))). b ∷ bs) (ap (λ (t : Option Tape). bytes_of (held_or r.store t)) (none 0 r refl)) (told-each others (λ i x e. none (suc i) x e))

pub told-closed : (sounding : Score → Sound) (parts after : Parts) → IsSound (session_of sounding parts) → ClosesAll parts after → after.gear.playback ≡ None → told_of sounding after ≡ session_of sounding after
told-closed sounding parts after sound closes none =
    ap₂ (λ (playback : Option (List ℕ)) (files : List (Option (List ℕ))). record (session_of sounding after) { playback_file = playback; record_files = files })
    (ap (λ (t : Option Tape). bytes_of (held_or after.playback t)) none) (told-each after.recorders (λ i r is. (closed-at sounding parts after sound closes i r is).1.finishes.none))

pub has-ended : (sounding : Score → Sound) (parts after : Parts) → IsScript parts.gear.script → parts.gear.failed ≡ false → after.gear.script ≡ parts.gear.script → after.gear.failed ≡ parts.gear.failed → RanPhases (session_of sounding after) (length (phases parts.gear.script)) → HasEnded sounding after
has-ended sounding parts after served sound script failed ran = record {
  served = subst (λ (s : Script). IsScript s) (sym script) served;
  ran = subst (λ (s : Script). RanPhases (session_of sounding after) (length (phases s))) (sym script) ran;
  sound = failed ∙ sound;
}

-- ---- a file failed

-- what a file in the making tells is a front of it
left-broken : (tape : Tape) → IsBroken tape tape.bytes
left-broken tape samples has = unfinished-front tape.format samples tape.bytes (samples-unfinished tape samples has)

closed-tried : (capacity : ℕ) (ring ring_after : Sending) (old new : Recording) (reel : Reel) → old.tape ≡ Some reel.tape → reel_of ring old reel.tape ≡ reel → Closed capacity ring old ring_after new → EndTried capacity reel (bytes_of (held_in new))
closed-tried capacity ring ring_after old new reel was is closed =
    let tape : closed.finishes.tape ≡ reel.tape = same_Some closed.finishes.tape reel.tape (sym closed.finishes.was ∙ was) in
    let held : held_in new ≡ Some closed.finishes.back = ap₂ held_or closed.finishes.store closed.finishes.none in
    subst (λ (r : Reel). EndTried capacity r (bytes_of (held_in new))) (ap (reel_of ring old) tape ∙ is)
    (subst (λ (h : Option Stored). EndTried capacity (reel_of ring old closed.finishes.tape) (bytes_of h)) (sym held)
    (Finished (record { ring = ring_after; getting = new.getting; tape = closed.finishes.ends.tape; blocks = new.blocks }) closed.finishes.ends.empties closed.finishes.ends.finished))

failed-tried : (capacity : ℕ) (ring : Sending) (old new : Recording) (reel : Reel) → old.tape ≡ Some reel.tape → reel_of ring old reel.tape ≡ reel → Failed capacity ring old new → EndTried capacity reel (bytes_of (held_in new))
failed-tried capacity ring old new reel was is failed =
    let tape : failed.tape ≡ reel.tape = same_Some failed.tape reel.tape (sym failed.was ∙ was) in
    subst (λ (r : Reel). EndTried capacity r (bytes_of (held_in new))) (ap (reel_of ring old) tape ∙ is)
    (subst (λ (h : Option Stored). EndTried capacity (reel_of ring old failed.tape) (bytes_of h)) (sym failed.held) failed.tried)

all-tried : (capacity place recorder : ℕ) (ring ring_after : Sending) (old new : Recording) (reel : Reel) → old.tape ≡ Some reel.tape → reel_of ring old reel.tape ≡ reel → Tried capacity place recorder ring old ring_after new → EndTried capacity reel (bytes_of (held_in new))
all-tried capacity place recorder ring ring_after old new reel was is tried = go (cases_lt recorder place) (cases_lt place recorder)
  where
    go : (recorder < place) ⊎ (place ≤ recorder) → (place < recorder) ⊎ (recorder ≤ place) → EndTried capacity reel (bytes_of (held_in new))
    go (inl below) y = closed-tried capacity ring ring_after old new reel was is (tried.before below)
    go (inr x) (inl above) = Left (ap (λ (r : Recording). bytes_of (held_in r)) (tried.behind above) ∙ ap (λ (t : Option Tape). bytes_of (held_or old.store t)) was)
    go (inr x) (inr y) = failed-tried capacity ring old new reel was is (tried.here (omega (arith, x, y)))

end-fails : (sounding : Score → Sound) (parts after : Parts) (playback : Option Tape) → HasOpenFiles parts → after.gear ≡ geared parts.gear after.gear.rings.rings playback → after.desk ≡ parts.desk → length after.recorders ≡ length parts.recorders
    → ((recorder : ℕ) (reel : Reel) (new : Recording) → IsReel (session_of sounding parts) recorder reel → slice_get after.recorders recorder ≡ Some new → EndTried parts.gear.script.header.ring reel (bytes_of (held_in new)))
    → ((tape : Tape) → parts.gear.playback ≡ Some tape → IsBroken tape (bytes_of (held_or after.playback after.gear.playback))) → EndFails (session_of sounding parts) (told_of sounding after)
end-fails sounding parts after playback files gear desk as_many tried broken = record {
  each = λ recorder reel bytes is bytes_there.
      let new = slice_get-map (λ (r : Recording). bytes_of (held_in r)) after.recorders recorder bytes bytes_there in
      subst (λ (told : Option (List ℕ)). EndTried parts.gear.script.header.ring reel told) new.2 (tried recorder reel new.0 is new.1);
  records = length-map after.recorders (λ (r : Recording). bytes_of (held_in r)) ∙ as_many ∙ sym (length-map parts.recorders (λ (r : Recording). r.getting));
  playback = broken;
  script = ap (λ (g : Gear). g.script) gear;
  history = ap (λ (d : Desk). d.history) desk;
  numbers = ap (λ (g : Gear). g.numbers) gear;
  overruns = ap (λ (g : Gear). g.rings.overruns) gear;
  underruns = ap (λ (g : Gear). g.disks.underruns) gear;
  scores = ap (λ (g : Gear). (driver_of sounding g).scores) gear;
}

pub closing-fails : (sounding : Score → Sound) (parts after : Parts) → IsSound (session_of sounding parts) → HasOpenFiles parts → CloseFails parts after → after.gear ≡ geared parts.gear after.gear.rings.rings parts.gear.playback → after.desk ≡ parts.desk → EndFails (session_of sounding parts) (told_of sounding after)
closing-fails sounding parts after sound files fails gear desk = end-fails sounding parts after parts.gear.playback files gear desk fails.as_many
    (λ recorder reel new is there.
    let old = recording-of sounding parts recorder reel files is in
    let p = placed sounding parts after sound fails.as_many fails.rings recorder new there in
    all-tried parts.gear.script.header.ring fails.place recorder reel.ring p.ring_after old.0 new reel old.2 old.3 (fails.each recorder reel.ring old.0 p.ring_after new is.ring old.1 p.ring_after_there there))
    (λ tape attached. subst (λ (t : Option Tape). IsBroken tape (bytes_of (held_or after.playback t))) (sym (ap (λ (g : Gear). g.playback) gear ∙ attached)) (left-broken tape))

pub playback-fails : (sounding : Score → Sound) (parts after : Parts) (tape : Tape) (back : Stored) → IsSound (session_of sounding parts) → HasOpenFiles parts → ClosesAll parts after → after.gear ≡ geared parts.gear after.gear.rings.rings None → after.desk ≡ parts.desk
    → parts.gear.playback ≡ Some tape → after.playback ≡ Some back → IsBroken tape back.bytes → EndFails (session_of sounding parts) (told_of sounding after)
playback-fails sounding parts after tape back sound files closes gear desk attached kept broken = end-fails sounding parts after None files gear desk closes.as_many
    (λ recorder reel new is there.
    let old = recording-of sounding parts recorder reel files is in
    let p = placed sounding parts after sound closes.as_many closes.rings recorder new there in
    closed-tried parts.gear.script.header.ring reel.ring p.ring_after old.0 new reel old.2 old.3 (closes.each recorder reel.ring old.0 p.ring_after new is.ring old.1 p.ring_after_there there))
    (λ other is. subst (λ (h : Option Stored). IsBroken other (bytes_of h)) (sym (ap₂ held_or kept (ap (λ (g : Gear). g.playback) gear)))
    (subst (λ (t : Tape). IsBroken t back.bytes) (same_Some tape other (sym attached ∙ is)) broken))

-- ---- its stores

-- a store of a recorder that is one later
held-back : (old new : Recording) (tape : Tape) (back : Stored) → old.tape ≡ Some tape → held_in new ≡ Some back → IsLater (stored_of tape) back → HeldLater (held_in old) (held_in new)
held-back old new tape back was held later =
    subst (λ (t : Option Tape). HeldLater (held_or old.store t) (held_in new)) (sym was) (subst (λ (h : Option Stored). HeldLater (Some (stored_of tape)) h) (sym held) later)

held-closed : (capacity : ℕ) (ring ring_after : Sending) (old new : Recording) → Closed capacity ring old ring_after new → HeldLater (held_in old) (held_in new)
held-closed capacity ring ring_after old new closed = held-back old new closed.finishes.tape closed.finishes.back closed.finishes.was (ap₂ held_or closed.finishes.store closed.finishes.none) closed.later

held-tried : (capacity place recorder : ℕ) (ring ring_after : Sending) (old new : Recording) → Tried capacity place recorder ring old ring_after new → HeldLater (held_in old) (held_in new)
held-tried capacity place recorder ring ring_after old new tried = go (cases_lt recorder place) (cases_lt place recorder)
  where
    go : (recorder < place) ⊎ (place ≤ recorder) → (place < recorder) ⊎ (recorder ≤ place) → HeldLater (held_in old) (held_in new)
    go (inl below) y = held-closed capacity ring ring_after old new (tried.before below)
    go (inr x) (inl above) = subst (λ (r : Recording). HeldLater (held_in old) (held_in r)) (sym (tried.behind above)) (held_same (held_in old))
    go (inr x) (inr y) = let failed = tried.here (omega (arith, x, y)) in held-back old new failed.tape failed.back failed.was failed.held failed.later

recorders-closed : (sounding : Score → Sound) (parts after : Parts) → IsSound (session_of sounding parts) → ClosesAll parts after → RecordersLater parts after
recorders-closed sounding parts after sound closes recorder old new was is =
    let p = placed sounding parts after sound closes.as_many closes.rings recorder new is in
    held-closed parts.gear.script.header.ring p.ring p.ring_after old new (closes.each recorder p.ring old p.ring_after new p.ring_there was p.ring_after_there is)

recorders-tried : (sounding : Score → Sound) (parts after : Parts) → IsSound (session_of sounding parts) → CloseFails parts after → RecordersLater parts after
recorders-tried sounding parts after sound fails recorder old new was is =
    let p = placed sounding parts after sound fails.as_many fails.rings recorder new is in
    held-tried parts.gear.script.header.ring fails.place recorder p.ring p.ring_after old new (fails.each recorder p.ring old p.ring_after new p.ring_there was p.ring_after_there is)

playback-left : (parts after : Parts) → after.gear.playback ≡ parts.gear.playback → after.playback ≡ parts.playback → HeldLater (held_or parts.playback parts.gear.playback) (held_or after.playback after.gear.playback)
playback-left parts after gear kept =
    subst (λ (h : Option Stored). HeldLater (held_or parts.playback parts.gear.playback) h) (sym (ap₂ held_or kept gear)) (held_same (held_or parts.playback parts.gear.playback))

playback-back : (parts after : Parts) (tape : Tape) (back : Stored) → parts.gear.playback ≡ Some tape → after.gear.playback ≡ None → after.playback ≡ Some back → IsLater (stored_of tape) back
    → HeldLater (held_or parts.playback parts.gear.playback) (held_or after.playback after.gear.playback)
playback-back parts after tape back attached gear kept later =
    subst (λ (t : Option Tape). HeldLater (held_or parts.playback t) (held_or after.playback after.gear.playback)) (sym attached)
    (subst (λ (h : Option Stored). HeldLater (Some (stored_of tape)) h) (sym (ap₂ held_or kept gear)) later)

pub stores-closed : (sounding : Score → Sound) (parts after : Parts) (tape : Tape) (back : Stored) → IsSound (session_of sounding parts) → ClosesAll parts after → parts.gear.playback ≡ Some tape → after.gear.playback ≡ None → after.playback ≡ Some back → IsLater (stored_of tape) back
    → AreLater (stores_in parts) (stores_in after)
stores-closed sounding parts after tape back sound closes attached gear kept later =
    parts-later parts after (playback-back parts after tape back attached gear kept later) closes.as_many (recorders-closed sounding parts after sound closes)

pub rose-playback : (sounding : Score → Sound) (parts after : Parts) (tape : Tape) (back : Stored) → IsSound (session_of sounding parts) → ClosesAll parts after → parts.gear.playback ≡ Some tape → after.gear.playback ≡ None → after.playback ≡ Some back → IsLater (stored_of tape) back
    → Rose tape.faults back.faults → OneRose (stores_in parts) (stores_in after)
rose-playback sounding parts after tape back sound closes attached gear kept later rose =
    playback-rose parts after (stored_of tape) back (playback-back parts after tape back attached gear kept later) (recorders-closed sounding parts after sound closes)
    (ap (held_or parts.playback) attached) (ap₂ held_or kept gear) rose

pub stores-tried : (sounding : Score → Sound) (parts after : Parts) → IsSound (session_of sounding parts) → CloseFails parts after → after.gear.playback ≡ parts.gear.playback → after.playback ≡ parts.playback → AreLater (stores_in parts) (stores_in after)
stores-tried sounding parts after sound fails gear kept = parts-later parts after (playback-left parts after gear kept) fails.as_many (recorders-tried sounding parts after sound fails)

pub rose-tried : (sounding : Score → Sound) (parts after : Parts) → IsSound (session_of sounding parts) → CloseFails parts after → after.gear.playback ≡ parts.gear.playback → after.playback ≡ parts.playback → OneRose (stores_in parts) (stores_in after)
rose-tried sounding parts after sound fails gear kept =
    let new = some_at after.recorders fails.place (subst (λ n. fails.place < n) (sym fails.as_many) fails.there) in
    go new.0 new.1 (placed sounding parts after sound fails.as_many fails.rings fails.place new.0 new.1)
  where
    go : (new : Recording) → slice_get after.recorders fails.place ≡ Some new → Placed parts after fails.place new → OneRose (stores_in parts) (stores_in after)
    go new is p = rose ((fails.each fails.place p.ring p.old p.ring_after new p.ring_there p.was p.ring_after_there is).here refl)
      where
        rose : Failed parts.gear.script.header.ring p.ring p.old new → OneRose (stores_in parts) (stores_in after)
        rose failed =
            parts-rose parts after fails.place p.old new (stored_of failed.tape) failed.back (playback-left parts after gear kept) (recorders-tried sounding parts after sound fails) p.was is
            (ap (held_or p.old.store) failed.was) failed.held failed.rose

-- ---- in order

pub stops-recorder : (sounding : Score → Sound) (parts after : Parts) → IsSound (session_of sounding parts) → CloseFails parts after → after.gear.playback ≡ parts.gear.playback → after.playback ≡ parts.playback → StopsInOrder parts after
stops-recorder sounding parts after sound fails gear kept = record {
  place = fails.place;
  within = omega (arith, fails.there);
  as_many = fails.as_many;
  rings = fails.rings;
  finished = λ i ring recording ring_after recording_after low a b c d. ((fails.each i ring recording ring_after recording_after a b c d).before low).finishes;
  left = λ i recording recording_after high was is.
      let p = placed sounding parts after sound fails.as_many fails.rings i recording_after is in
      (fails.each i p.ring recording p.ring_after recording_after p.ring_there was p.ring_after_there is).behind high;
  making = λ low. gear;
  playback = λ low. kept;
}

pub stops-playback : (parts after : Parts) → ClosesAll parts after → StopsInOrder parts after
stops-playback parts after closes = record {
  place = length parts.recorders;
  within = omega arith;
  as_many = closes.as_many;
  rings = closes.rings;
  finished = λ i ring recording ring_after recording_after low a b c d. (closes.each i ring recording ring_after recording_after a b c d).finishes;
  left = λ i recording recording_after high was is. absurd (outside i high (slice_get_within parts.recorders i recording was));
  making = λ low. absurd (never low);
  playback = λ low. absurd (never low);
}
  where
    outside : (i : ℕ) → length parts.recorders < i → i < length parts.recorders → ⊥
    outside i high low = omega (arith, high, low)

    never : length parts.recorders < length parts.recorders → ⊥
    never low = omega (arith, low)

-- ---- from the clauses of its calls

-- `inside` are its works before, and `closed` behind the close of its recorders
pub record ClosingFailed (parts after : Parts) : Type 0 where
  pub fails : CloseFails parts after
  pub gear : after.gear ≡ geared parts.gear after.gear.rings.rings parts.gear.playback
  pub desk : after.desk ≡ parts.desk
  pub kept : after.playback ≡ parts.playback

pub closing-failed : (parts inside closed : Parts) (playback : Option Stored) (attached : ℕ) → inside.gear ≡ parts.gear → inside.recorders ≡ parts.recorders → inside.desk ≡ parts.desk → playback ≡ parts.playback → CloseFails inside closed
    → closed.gear ≡ record inside.gear { rings = record inside.gear.rings { rings = closed.gear.rings.rings } } → closed.desk ≡ inside.desk → ClosingFailed parts (record closed { playback = playback; attached = attached })
closing-failed parts inside closed playback attached gear recorders desk kept fails driver closed_desk = record {
  fails = record {
    place = fails.place;
    there = subst (λ (rs : List Recording). fails.place < length rs) recorders fails.there;
    each = λ i ring recording ring_after recording_after a b c d.
        subst (λ (g : Gear). Tried g.script.header.ring fails.place i ring recording ring_after recording_after) gear
        (fails.each i ring recording ring_after recording_after (ap (λ (g : Gear). slice_get g.rings.rings i) gear ∙ a) (ap (λ (rs : List Recording). slice_get rs i) recorders ∙ b) c d);
    as_many = fails.as_many ∙ ap length recorders;
    rings = fails.rings ∙ ap (λ (g : Gear). length g.rings.rings) gear;
  };
  gear = driver ∙ ap (λ (g : Gear). geared g closed.gear.rings.rings g.playback) gear;
  desk = closed_desk ∙ desk;
  kept = kept;
}

pub record PlaybackEnded {T E : Type 0} (finished : Result T E) (parts after : Parts) : Type 0 where
  pub tape : Tape
  pub back : Stored
  pub closes : ClosesAll parts after
  pub gear : after.gear ≡ geared parts.gear after.gear.rings.rings None
  pub desk : after.desk ≡ parts.desk
  pub players : after.players ≡ parts.players
  pub attached : parts.gear.playback ≡ Some tape
  pub kept : after.playback ≡ Some back
  pub ends : PlaybackCloses finished tape back

pub playback-ended : (sounding : Score → Sound) {T E : Type 0} (finished : Result T E) (parts inside closed : Parts) (driver : Gear) (playback : Option Stored) (attached : ℕ) → HasRun sounding parts → inside.gear ≡ parts.gear → inside.recorders ≡ parts.recorders → inside.desk ≡ parts.desk → inside.players ≡ parts.players → ClosesAll inside closed
    → closed.gear ≡ record inside.gear { rings = record inside.gear.rings { rings = closed.gear.rings.rings } } → closed.desk ≡ inside.desk → closed.players ≡ inside.players → driver ≡ record closed.gear { playback = None }
    → ((tape : Tape) → closed.gear.playback ≡ Some tape → (back : Stored) × (playback ≡ Some back) × PlaybackCloses finished tape back) → PlaybackEnded finished parts (record closed { gear = driver; playback = playback; attached = attached })
playback-ended sounding finished parts inside closed driver playback attached run gear recorders desk players closes was closed_desk closed_players is back = record {
  tape = run.settled.sound.files.playback.tape;
  back = kept.0;
  closes = record {
    each = λ i ring recording ring_after recording_after a b c d.
        subst (λ (g : Gear). Closed g.script.header.ring ring recording ring_after recording_after) gear
        (closes.each i ring recording ring_after recording_after (ap (λ (g : Gear). slice_get g.rings.rings i) gear ∙ a) (ap (λ (rs : List Recording). slice_get rs i) recorders ∙ b) (ap (λ (g : Gear). slice_get g.rings.rings i) (sym is) ∙ c) d);
    as_many = closes.as_many ∙ ap length recorders;
    rings = ap (λ (g : Gear). length g.rings.rings) is ∙ closes.rings ∙ ap (λ (g : Gear). length g.rings.rings) gear;
  };
  gear = is ∙ ap (λ (g : Gear). record g { playback = None }) was ∙ ap (λ (g : Gear). geared g closed.gear.rings.rings None) gear ∙ ap (λ (g : Gear). geared parts.gear g.rings.rings None) (sym is);
  desk = closed_desk ∙ desk;
  players = closed_players ∙ players;
  attached = run.settled.sound.files.playback.attached;
  kept = kept.1;
  ends = kept.2;
}
  where
    kept : (back : Stored) × (playback ≡ Some back) × PlaybackCloses finished run.settled.sound.files.playback.tape back
    kept = back run.settled.sound.files.playback.tape (ap (λ (g : Gear). g.playback) was ∙ ap (λ (g : Gear). g.playback) gear ∙ run.settled.sound.files.playback.attached)
