-- Recorders are closed, one after another.
--     failed-giving, failed-closing, closed-one      one recorder
--     closed-of, failed-of      from the clauses of its calls
--     ClosedUpTo, TriedAt      the recorders below a place are closed, and the one there failed
--     closed-none, closed-more, closed-failed      up to which place
--     may-close      the one at the place may be closed
--     closes-all, close-fails      what that makes of a session's parts
use Rattle.std.proofs.Common.{◌≡◌, ◌≢◌, ℕ, ◌+◌, ◌<◌, ◌≤◌, ◌⊎◌, inl, inr, List, length, set, slice_get, Some, None, Result, OnErr, OnOk, is_some, refl, sym, ◌∙◌, ap, subst, arith}
use Rattle.std.proofs.lemmas.Bool.{cases_lt}
use Rattle.std.proofs.lemmas.Option.{slice_get_within}
use Rattle.jack_host.specs.Causes.{HasCause, Rose}
use Rattle.session_model.specs.Kinds.{Sound}
use Rattle.client_kinds.specs.Scores.{Score}
use Rattle.driver_words.specs.Rings.{IsPair, Sending}
use Rattle.driver_words.specs.Tapes.{Tape}
use Rattle.recorder_files.specs.Recorders.{BreaksOff, GivesUp, Recording, Reel, Stored, held_or, stored_of}
use Rattle.disk_recorder.specs.Recordings.{MayWrite}
use Rattle.session_works.proofs.PassedLemmas.{some_at}
use Rattle.session_works.specs.SerialWords.{Broken, IsBroken, IsFinished, IsSound, Unfinished}
use Rattle.session_ends.specs.Closings.{Closed, ClosesAll, CloseFails, Failed, Tried}
use Rattle.session_works.specs.Giving.{reel_of}
use Rattle.session_works.specs.Parts.{HasOpenFiles, IsLater, Parts, session_of}
use Rattle.session_works.proofs.ReelLemmas.{may-give}
use Rattle.session_works.proofs.RingLemmas.{AreEach, IsLeft, each-none, each-set}
use Rattle.std.proofs.lemmas.Result.{on_ok_weaker}
use Rattle.session_works.proofs.ResultLemmas.{on-err_both}

pub failed-giving : (capacity : ℕ) (ring ring_after : Sending) (recording after : Recording) (tape tape_after : Tape) → recording.tape ≡ Some tape → after.tape ≡ Some tape_after
    → BreaksOff (reel_of ring recording tape) (reel_of ring_after after tape_after) → Rose tape.faults tape_after.faults → Failed capacity ring recording after
failed-giving capacity ring ring_after recording after tape tape_after was is breaks rose = record {
  tape = tape;
  back = stored_of tape_after;
  was = was;
  held = ap (held_or after.store) is;
  later = record { name = breaks.fails.same.name; tells = breaks.fails.same.tells; faults = breaks.fails.same.later };
  rose = rose;
  tried = Broken (reel_of ring_after after tape_after) breaks refl;
}

-- a store that came back from a file behind its blocks
later-back : (capacity : ℕ) (before after : Reel) (back : Stored) → GivesUp capacity before after → back.name ≡ after.tape.name → is_some back.bytes ≡ is_some after.tape.bytes → after.tape.faults ≤ back.faults → IsLater (stored_of before.tape) back
later-back capacity before after back gives name tells faults = record {
  name = name ∙ gives.drains.writes.same.name;
  tells = tells ∙ gives.drains.writes.same.tells;
  faults = omega (arith, gives.drains.writes.same.later, faults);
}

pub failed-closing : (capacity : ℕ) (ring ring_after : Sending) (recording given closed : Recording) (tape after : Tape) (back : Stored) → recording.tape ≡ Some tape → GivesUp capacity (reel_of ring recording tape) (reel_of ring_after given after)
    → closed ≡ record given { tape = None; store = Some back } → back.name ≡ after.name → is_some back.bytes ≡ is_some after.bytes → after.faults ≤ back.faults → Rose after.faults back.faults → IsBroken after back.bytes → Failed capacity ring recording closed
failed-closing capacity ring ring_after recording given closed tape after back was gives is name tells faults rose broken = record {
  tape = tape;
  back = back;
  was = was;
  held = ap (λ (r : Recording). held_or r.store r.tape) is;
  later = later-back capacity (reel_of ring recording tape) (reel_of ring_after given after) back gives name tells faults;
  rose = omega (arith, gives.drains.writes.same.later, rose);
  tried = Unfinished (reel_of ring_after given after) gives broken;
}

pub closed-one : (capacity : ℕ) (ring ring_after : Sending) (recording given closed : Recording) (tape after : Tape) (back : Stored) → recording.tape ≡ Some tape → GivesUp capacity (reel_of ring recording tape) (reel_of ring_after given after)
    → closed ≡ record given { tape = None; store = Some back } → back.name ≡ after.name → is_some back.bytes ≡ is_some after.bytes → after.faults ≤ back.faults → IsFinished after back.bytes → Closed capacity ring recording ring_after closed
closed-one capacity ring ring_after recording given closed tape after back was gives is name tells faults finished = record {
  finishes = record {
    tape = tape;
    was = was;
    none = ap (λ (r : Recording). r.tape) is;
    back = back;
    store = ap (λ (r : Recording). r.store) is;
    ends = record {
      tape = after;
      empties = subst (λ (r : Recording). GivesUp capacity (reel_of ring recording tape) (reel_of ring_after r after)) (sym is) gives;
      finished = finished;
    };
  };
  later = later-back capacity (reel_of ring recording tape) (reel_of ring_after given after) back gives name tells faults;
}

-- what `give_up` says where it is Ok, and what `close` says
abbrev pub HasGiven : ℕ → Sending → Sending → Recording → Tape → Recording → Type 0
HasGiven capacity ring ring_after recording tape given =
    (after : Tape) × (given ≡ record recording { getting = given.getting; tape = Some after; blocks = given.blocks }) × GivesUp capacity (reel_of ring recording tape) (reel_of ring_after given after)

abbrev pub HasClosed : {T E : Type 0} → Result T E → Recording → Recording → Type 0
HasClosed result given closed =
    (tape : Tape) → given.tape ≡ Some tape → (back : Stored) × (closed ≡ record given { tape = None; store = Some back }) × (back.name ≡ tape.name) × (is_some back.bytes ≡ is_some tape.bytes) × HasCause tape.faults back.faults result
    × OnOk result (IsFinished tape back.bytes) × OnErr result (IsBroken tape back.bytes)

module _ {T E : Type 0} (result : Result T E) (capacity : ℕ) (ring ring_after : Sending) (recording given closed : Recording) (tape : Tape) (was : recording.tape ≡ Some tape) (gave : HasGiven capacity ring ring_after recording tape given) (closes : HasClosed result given closed) where
  told : (back : Stored) × (closed ≡ record given { tape = None; store = Some back }) × (back.name ≡ gave.0.name) × (is_some back.bytes ≡ is_some gave.0.bytes) × HasCause gave.0.faults back.faults result
      × OnOk result (IsFinished gave.0 back.bytes) × OnErr result (IsBroken gave.0 back.bytes)
  told = closes gave.0 (ap (λ (r : Recording). r.tape) gave.1)

  pub closed-of : OnOk result (Closed capacity ring recording ring_after closed)
  closed-of =
      on_ok_weaker result
      (closed-one capacity ring ring_after recording given closed tape gave.0 told.0 was gave.2 told.1 told.2 told.3 told.4.later) told.5

  pub failed-of : OnErr result (Failed capacity ring recording closed)
  failed-of =
      on-err_both result
      (failed-closing capacity ring ring_after recording given closed tape gave.0 told.0 was gave.2 told.1 told.2 told.3 told.4.later) told.4.failed told.6

abbrev pub ClosedUpTo : ℕ → ℕ → ℕ → Sending → Recording → Sending → Recording → Type 0
ClosedUpTo capacity place i ring recording ring_after after = (i < place → Closed capacity ring recording ring_after after) × (place ≤ i → IsLeft ring recording ring_after after)

pub closed-none : (capacity : ℕ) (rings : List Sending) (recordings : List Recording) → AreEach (ClosedUpTo capacity 0) rings recordings rings recordings
closed-none capacity rings recordings = each-none (ClosedUpTo capacity 0) rings recordings (λ i ring recording. (λ low. absurd (none i low), λ _. (refl, refl)))
  where
    none : (n : ℕ) → n < 0 → ⊥
    none n p = omega (arith, p)

above : (k n : ℕ) → n < k → n ≤ k
above k n h = omega (arith, h)

never : (n : ℕ) → n < n → ⊥
never n h = omega (arith, h)

-- what a recorder was before its call, and its ring
left-of : (capacity place : ℕ) (a : Sending) (b : Recording) (ring : Sending) (recording : Recording) → ClosedUpTo capacity place place a b ring recording → IsLeft a b ring recording
left-of capacity place a b ring recording closed = closed.1 (omega arith)

pub closed-more : (capacity place : ℕ) (rings : List Sending) (recordings : List Recording) (rings_met : List Sending) (recordings_met : List Recording) (ring ring_after : Sending) (recording recording_after : Recording)
    → slice_get rings_met place ≡ Some ring → slice_get recordings_met place ≡ Some recording → Closed capacity ring recording ring_after recording_after
    → AreEach (ClosedUpTo capacity place) rings recordings rings_met recordings_met → AreEach (ClosedUpTo capacity (place + 1)) rings recordings (set rings_met place ring_after) (set recordings_met place recording_after)
closed-more capacity place rings recordings rings_met recordings_met ring ring_after recording recording_after ring_there recording_there one are =
    each-set (ClosedUpTo capacity place) (ClosedUpTo capacity (place + 1)) rings recordings rings_met recordings_met place ring ring_after recording recording_after ring_there recording_there
    (λ k a b c d other closed. (λ low. closed.0 (below k place other low), λ high. closed.1 (beyond k place high)))
    (λ a b closed. let left = left-of capacity place a b ring recording closed in
    (λ low. subst (λ (s : Sending). Closed capacity s b ring_after recording_after) left.0 (subst (λ (r : Recording). Closed capacity ring r ring_after recording_after) left.1 one), λ high. absurd (past place high)))
    are
  where
    below : (k n : ℕ) → k ≢ n → k < n + 1 → k < n
    below k n other low = go (cases_lt k n)
      where
        go : (k < n) ⊎ (n ≤ k) → k < n
        go (inl h) = h
        go (inr h) = absurd (other (omega (arith, h, low)))

    beyond : (k n : ℕ) → n + 1 ≤ k → n ≤ k
    beyond k n h = omega (arith, h)

    past : (n : ℕ) → n + 1 ≤ n → ⊥
    past n h = omega (arith, h)

pub closed-failed : (capacity place : ℕ) (rings : List Sending) (recordings : List Recording) (rings_met : List Sending) (recordings_met : List Recording) (ring ring_after : Sending) (recording recording_after : Recording)
    → slice_get rings_met place ≡ Some ring → slice_get recordings_met place ≡ Some recording → Failed capacity ring recording recording_after
    → AreEach (ClosedUpTo capacity place) rings recordings rings_met recordings_met → AreEach (Tried capacity place) rings recordings (set rings_met place ring_after) (set recordings_met place recording_after)
closed-failed capacity place rings recordings rings_met recordings_met ring ring_after recording recording_after ring_there recording_there one are =
    each-set (ClosedUpTo capacity place) (Tried capacity place) rings recordings rings_met recordings_met place ring ring_after recording recording_after ring_there recording_there
    (λ k a b c d other closed. record { before = closed.0; here = λ same. absurd (other same); behind = λ high. (closed.1 (above k place high)).1 })
    (λ a b closed. let left = left-of capacity place a b ring recording closed in record {
      before = λ low. absurd (never place low);
      here = λ same. subst (λ (s : Sending). Failed capacity s b recording_after) left.0 (subst (λ (r : Recording). Failed capacity ring r recording_after) left.1 one);
      behind = λ high. absurd (never place high);
    })
    are

pub may-close : (sounding : Score → Sound) (capacity place : ℕ) (parts : Parts) (rings : List Sending) (recordings : List Recording) (ring : Sending) (recording : Recording) → IsSound (session_of sounding parts) → HasOpenFiles parts
    → AreEach (ClosedUpTo capacity place) parts.gear.rings.rings parts.recorders rings recordings → slice_get rings place ≡ Some ring → slice_get recordings place ≡ Some recording
    → IsPair ring recording.getting × ((tape : Tape) × (recording.tape ≡ Some tape) × MayWrite recording.getting tape)
may-close sounding capacity place parts rings recordings ring recording sound files are ring_there there =
    let before = some_at parts.gear.rings.rings place (subst (λ n. place < n) are.rings_same (slice_get_within rings place ring ring_there)) in
    let was = some_at parts.recorders place (subst (λ n. place < n) are.recordings_same (slice_get_within recordings place recording there)) in
    let left : IsLeft before.0 was.0 ring recording = left-of capacity place before.0 was.0 ring recording (are.each place before.0 was.0 ring recording before.1 was.1 ring_there there) in
    let may = may-give sounding parts place ring recording sound files (before.1 ∙ ap Some (sym left.0)) (was.1 ∙ ap Some (sym left.1)) in
    (may.0, may.1)

pub closes-all : (capacity place : ℕ) (parts after : Parts) → capacity ≡ parts.gear.script.header.ring → length parts.recorders ≤ place
    → AreEach (ClosedUpTo capacity place) parts.gear.rings.rings parts.recorders after.gear.rings.rings after.recorders → ClosesAll parts after
closes-all capacity place parts after is all are = record {
  each = λ i ring recording ring_after recording_after a b c d.
      subst (λ n. Closed n ring recording ring_after recording_after) is ((are.each i ring recording ring_after recording_after a b c d).0 (below i (slice_get_within parts.recorders i recording b)));
  as_many = are.recordings_same;
  rings = are.rings_same;
}
  where
    below : (i : ℕ) → i < length parts.recorders → i < place
    below i low = omega (arith, low, all)

pub close-fails : (capacity place : ℕ) (parts after : Parts) → capacity ≡ parts.gear.script.header.ring → place < length parts.recorders
    → AreEach (Tried capacity place) parts.gear.rings.rings parts.recorders after.gear.rings.rings after.recorders → CloseFails parts after
close-fails capacity place parts after is low are = record {
  place = place;
  there = low;
  each = λ i ring recording ring_after recording_after a b c d.
      subst (λ n. Tried n place i ring recording ring_after recording_after) is (are.each i ring recording ring_after recording_after a b c d);
  as_many = are.recordings_same;
  rings = are.rings_same;
}
