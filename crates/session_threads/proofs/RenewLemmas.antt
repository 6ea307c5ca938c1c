-- Recorders whose rings' ends met anew.
--     RenewedOne ring recording ring_after after      one recorder's
--     renews-at      the ends of a ring at its place
--     RenewedUpTo      those below a place
--     renewed-none, renewed-more, renewed-all      up to which place
--     may-renew      the ends of the next one belong together
--     renewed-parts, renewed-keep      what that is of a session, and of its files
use Rattle.std.proofs.Common.{◌≡◌, ◌≢◌, ℕ, zero, suc, ◌+◌, ◌<◌, ◌≤◌, ◌⊎◌, inl, inr, List, [], ◌∷◌, length, map, set, filter_map, slice_get, Option, Some, refl, sym, ◌∙◌, ap, ap₂, subst, arith}
use Rattle.std.specs.List.{cons_option}
use Rattle.std.proofs.lemmas.Bool.{cases_lt}
use Rattle.std.proofs.lemmas.List.{length-map}
use Rattle.std.proofs.lemmas.Option.{same_Some, slice_get_within}
use Rattle.session_model.specs.Kinds.{Sound}
use Rattle.client_kinds.specs.Scores.{Score}
use Rattle.driver_words.specs.Rings.{Getting, IsPair, Renews, Sending}
use Rattle.driver_words.specs.Tapes.{Tape}
use Rattle.recorder_files.specs.Recorders.{Recording}
use Rattle.session_works.proofs.PassedLemmas.{mapped_there, some_at}
use Rattle.session_works.specs.RunWords.{Session}
use Rattle.thread_laws.specs.Segments.{Renewed}
use Rattle.session_works.specs.Drivers.{Gear}
use Rattle.session_works.specs.Insides.{ArePaired}
use Rattle.session_works.specs.Parts.{HasOpenFiles, Parts, bytes_of, session_of}
use Rattle.session_works.proofs.ReelLemmas.{RecordersKeep, given_up, map-places}
use Rattle.session_works.proofs.RingLemmas.{AreEach, IsLeft, each-none, each-set, each-weaker}

pub record RenewedOne (ring : Sending) (recording : Recording) (ring_after : Sending) (after : Recording) : Type 0 where
  pub renews : Renews ring recording.getting ring_after after.getting
  pub same : after ≡ record recording { getting = after.getting }

pub renews-at : (ring before after now : Sending) (got got_after : Getting) → before ≡ ring → after ≡ now → Renews before got after got_after → Renews ring got now got_after
renews-at ring before after now got got_after first second renews = subst (λ (s : Sending). Renews s got now got_after) first (subst (λ (s : Sending). Renews before got s got_after) second renews)

abbrev pub RenewedUpTo : ℕ → ℕ → Sending → Recording → Sending → Recording → Type 0
RenewedUpTo place i ring recording ring_after after = (i < place → RenewedOne ring recording ring_after after) × (place ≤ i → IsLeft ring recording ring_after after)

pub renewed-none : (rings : List Sending) (recordings : List Recording) → AreEach (RenewedUpTo 0) rings recordings rings recordings
renewed-none rings recordings = each-none (RenewedUpTo 0) rings recordings (λ i ring recording. (λ low. absurd (none i low), λ _. (refl, refl)))
  where
    none : (n : ℕ) → n < 0 → ⊥
    none n p = omega (arith, p)

pub renewed-more : (place : ℕ) (rings : List Sending) (recordings : List Recording) (rings_met : List Sending) (recordings_met : List Recording) (ring ring_after : Sending) (recording recording_after : Recording)
    → slice_get rings_met place ≡ Some ring → slice_get recordings_met place ≡ Some recording → RenewedOne ring recording ring_after recording_after
    → AreEach (RenewedUpTo place) rings recordings rings_met recordings_met → AreEach (RenewedUpTo (place + 1)) rings recordings (set rings_met place ring_after) (set recordings_met place recording_after)
renewed-more place rings recordings rings_met recordings_met ring ring_after recording recording_after ring_there recording_there renewed are =
    each-set (RenewedUpTo place) (RenewedUpTo (place + 1)) rings recordings rings_met recordings_met place ring ring_after recording recording_after ring_there recording_there
    (λ k a b c d other so_far. (λ low. so_far.0 (below k place other low), λ high. so_far.1 (above k place high)))
    (λ a b so_far. let left = so_far.1 (omega arith) in
    (λ low. subst (λ (s : Sending). RenewedOne s b ring_after recording_after) left.0 (subst (λ (r : Recording). RenewedOne ring r ring_after recording_after) left.1 renewed), λ high. absurd (never place high)))
    are
  where
    below : (k n : ℕ) → k ≢ n → k < n + 1 → k < n
    below k n other low = go (cases_lt k n)
      where
        go : (k < n) ⊎ (n ≤ k) → k < n
        go (inl h) = h
        go (inr h) = absurd (other (omega (arith, h, low)))

    above : (k n : ℕ) → n + 1 ≤ k → n ≤ k
    above k n h = omega (arith, h)

    never : (n : ℕ) → n + 1 ≤ n → ⊥
    never n h = omega (arith, h)

pub renewed-all : (place : ℕ) (rings : List Sending) (recordings : List Recording) (rings_after : List Sending) (recordings_after : List Recording) → length recordings ≤ place
    → AreEach (RenewedUpTo place) rings recordings rings_after recordings_after → AreEach (λ _. RenewedOne) rings recordings rings_after recordings_after
renewed-all place rings recordings rings_after recordings_after all are =
    each-weaker (RenewedUpTo place) (λ _. RenewedOne) rings recordings rings_after recordings_after (λ i ring recording ring_after recording_after low so_far. so_far.0 (omega (arith, low, all))) are

pub may-renew : (place : ℕ) (gear : Gear) (recordings : List Recording) (rings : List Sending) (recorders : List Recording) (ring : Sending) (recording : Recording) → ArePaired gear recordings → AreEach (RenewedUpTo place) gear.rings.rings recordings rings recorders
    → place < length recordings → slice_get rings place ≡ Some ring → slice_get recorders place ≡ Some recording → IsPair ring recording.getting
may-renew place gear recordings rings recorders ring recording pairs are low ring_is is =
    let was = some_at recordings place low in
    let old = some_at gear.rings.rings place (subst (λ n. place < n) (sym pairs.as_many) low) in
    let left = (are.each place old.0 was.0 ring recording old.1 was.1 ring_is is).1 (omega arith) in
    subst (λ (s : Sending). IsPair s recording.getting) (sym left.0)
    (subst (λ (r : Recording). IsPair old.0 r.getting) (sym left.1) (pairs.each place old.0 was.0 old.1 was.1))

-- items that are picked of two lists
picked-places : {X Y : Type 0} (f : X → Option Y) (xs ys : List X) → length ys ≡ length xs → ((i : ℕ) (x y : X) → slice_get xs i ≡ Some x → slice_get ys i ≡ Some y → f y ≡ f x) → filter_map f ys ≡ filter_map f xs
picked-places f [] [] same each = refl
picked-places f [] (y ∷ ys) same each = absurd (omega (arith, same))
picked-places f (x ∷ xs) [] same each = absurd (omega (arith, same))
picked-places f (x ∷ xs) (y ∷ ys) same each = ap₂ cons_option (each zero x y refl refl) (picked-places f xs ys (omega (arith, same)) (λ i a b p q. each (suc i) a b p q))

pub renewed-parts : (sounding : Score → Sound) (parts : Parts) (rings : List Sending) (recorders : List Recording) → length parts.gear.rings.rings ≡ length parts.recorders → AreEach (λ _. RenewedOne) parts.gear.rings.rings parts.recorders rings recorders
    → Renewed (session_of sounding parts) (session_of sounding (given_up parts rings recorders))
renewed-parts sounding parts rings recorders as_many are = record {
  each = each;
  rings = are.rings_same;
  getting = length-map recorders (λ (r : Recording). r.getting) ∙ are.recordings_same ∙ sym (length-map parts.recorders (λ (r : Recording). r.getting));
  same = ap (λ (tapes : List Tape). made tapes (session_of sounding after).counts (session_of sounding after).record_files) (picked-places (λ (r : Recording). r.tape) parts.recorders recorders are.recordings_same (λ i x y p q. ap (λ (r : Recording). r.tape) (kept i x y p q)))
      ∙ ap₂ (made (session_of sounding parts).tapes) (map-places (λ (r : Recording). r.blocks) parts.recorders recorders are.recordings_same (λ i x y p q. ap (λ (r : Recording). r.blocks) (kept i x y p q)))
      (map-places (λ (r : Recording). bytes_of r.store) parts.recorders recorders are.recordings_same (λ i x y p q. ap (λ (r : Recording). bytes_of r.store) (kept i x y p q)));
}
  where
    after : Parts
    after = given_up parts rings recorders

    made : List Tape → List ℕ → List (Option (List ℕ)) → Session
    made tapes counts files = record (session_of sounding after) { tapes = tapes; counts = counts; record_files = files }

    one : (i : ℕ) (x y : Recording) → slice_get parts.recorders i ≡ Some x → slice_get recorders i ≡ Some y → (ring : Sending) × (ring_after : Sending) × (slice_get parts.gear.rings.rings i ≡ Some ring) × (slice_get rings i ≡ Some ring_after) × RenewedOne ring x ring_after y
    one i x y p q =
        let ring = some_at parts.gear.rings.rings i (subst (λ n. i < n) (sym as_many) (slice_get_within parts.recorders i x p)) in
        let ring_after = some_at rings i (subst (λ n. i < n) (sym (are.rings_same ∙ as_many)) (slice_get_within parts.recorders i x p)) in
        (ring.0, ring_after.0, ring.1, ring_after.1, are.each i ring.0 x ring_after.0 y ring.1 p ring_after.1 q)

    kept : (i : ℕ) (x y : Recording) → slice_get parts.recorders i ≡ Some x → slice_get recorders i ≡ Some y → y ≡ record x { getting = y.getting }
    kept i x y p q = (one i x y p q).4.same

    each : (recorder : ℕ) (ring ring_after : Sending) (got got_after : Getting) → slice_get parts.gear.rings.rings recorder ≡ Some ring → slice_get (map (λ (r : Recording). r.getting) parts.recorders) recorder ≡ Some got
        → slice_get rings recorder ≡ Some ring_after → slice_get (map (λ (r : Recording). r.getting) recorders) recorder ≡ Some got_after → Renews ring got ring_after got_after
    each recorder ring ring_after got got_after ring_is got_is ring_after_is got_after_is =
        let low : recorder < length parts.recorders = subst (λ n. recorder < n) as_many (slice_get_within parts.gear.rings.rings recorder ring ring_is) in
        let old = some_at parts.recorders recorder low in
        let new = some_at recorders recorder (subst (λ n. recorder < n) (sym are.recordings_same) low) in
        let got_old : old.0.getting ≡ got = same_Some old.0.getting got (sym (mapped_there (λ (r : Recording). r.getting) parts.recorders recorder old.0 old.1) ∙ got_is) in
        let got_new : new.0.getting ≡ got_after = same_Some new.0.getting got_after (sym (mapped_there (λ (r : Recording). r.getting) recorders recorder new.0 new.1) ∙ got_after_is) in
        subst (λ (g : Getting). Renews ring g ring_after got_after) got_old
        (subst (λ (g : Getting). Renews ring old.0.getting ring_after g) got_new (are.each recorder ring old.0 ring_after new.0 ring_is old.1 ring_after_is new.1).renews)

pub renewed-keep : (parts after : Parts) → HasOpenFiles parts → length after.gear.rings.rings ≡ length after.recorders → AreEach (λ _. RenewedOne) parts.gear.rings.rings parts.recorders after.gear.rings.rings after.recorders → RecordersKeep parts after
renewed-keep parts after files as_many are i old new was is =
    let low : i < length after.gear.rings.rings = subst (λ n. i < n) (sym as_many) (slice_get_within after.recorders i new is) in
    let ring = some_at parts.gear.rings.rings i (subst (λ n. i < n) are.rings_same low) in
    let ring_after = some_at after.gear.rings.rings i low in
    let same = (are.each i ring.0 old ring_after.0 new ring.1 was ring_after.1 is).same in
    let tape = files.tapes i old was in
    record {
      tape = tape.0;
      tape_after = tape.0;
      was = tape.1;
      is = ap (λ (r : Recording). r.tape) same ∙ tape.1;
      file = record { format = refl; name = refl; tells = refl; later = omega arith };
      same = same ∙ ap₂ (λ (t : Option Tape) (n : ℕ). record old { getting = new.getting; tape = t; blocks = n }) (sym (ap (λ (r : Recording). r.tape) same)) (sym (ap (λ (r : Recording). r.blocks) same));
    }
