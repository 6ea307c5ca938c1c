-- The blocks that a call wrote are those that it took out of the ring, but for one whose write failed.
--     told-of      what is told of a file that is there
--     err-of, ok-of      what is told of a result that is known
--     gave-up, broke-off      what `give_up` did, counted
--     served-count, tore      what `serve` did
use Rattle.std.proofs.Common.{◌≡◌, ℕ, ◌+◌, [], ◌∷◌, length, Option, None, Some, Result, Ok, Err, IfOk, OnErr, refl, ap, ◌∙◌, subst, arith, length-append}
use Rattle.std.proofs.lemmas.Option.{none-some, same_Some}
use Rattle.jack_host.specs.Told.{BothTold}
use Rattle.driver_words.specs.Rings.{Getting, Renews, Sending}
use Rattle.driver_words.specs.Tapes.{Tape}
use Rattle.disk_recorder.specs.Recordings.{Drains, Fails, Serves}
use Rattle.recorder_files.specs.Recorders.{BreaksOff, GivesUp, Recording, Tears}

pub told-of : (file after : Option Tape) (P : Tape → Tape → Type 0) (tape : Tape) → file ≡ Some tape → BothTold file after P → (new : Tape) × (after ≡ Some new) × P tape new
told-of None after P tape is told = absurd (none-some tape is)
told-of (Some t) None P tape is told = absurd told
told-of (Some t) (Some new) P tape is told = (new, refl, subst (λ (z : Tape). P z new) (same_Some t tape is) told)

pub err-of : {T E : Type 0} (result : Result T E) (error : E) (P : Type 0) → result ≡ Err error → OnErr result P → P
err-of result error P is held = subst (λ r. OnErr r P) is held

pub ok-of : {T E : Type 0} (result : Result T E) (value : T) (P : T → Type 0) → result ≡ Ok value → IfOk result P → P value
ok-of result value P is held = subst (λ r. IfOk r P) is held

lost-one : (got : Getting) (tape : Tape) (written : Getting) (after : Tape) (fails : Fails got tape written after) (more : ℕ) → length got.got + more + 1 ≡ length written.got → more ≡ fails.count
lost-one got tape written after fails more taken =
    let long : length written.got ≡ length fails.whole + 1 = ap length fails.got_are ∙ length-append fails.whole (fails.last ∷ []) in
    omega (arith, taken, long, fails.count_is)

pub gave-up : (most count : ℕ) (ring ring_met ring_after : Sending) (getting got_met written getting_after : Getting) (blocks more : ℕ) (tape after : Tape) → Renews ring getting ring_met got_met → Drains most count got_met tape written after
    → Renews ring_met written ring_after getting_after → length got_met.got + more ≡ length written.got
    → GivesUp most (record { ring = ring; getting = getting; tape = tape; blocks = blocks }) (record { ring = ring_after; getting = getting_after; tape = after; blocks = blocks + more })
gave-up most count ring ring_met ring_after getting got_met written getting_after blocks more tape after first drains second taken = record {
  ring_met = ring_met;
  got_met = got_met;
  first = first;
  count = count;
  written = written;
  drains = drains;
  second = second;
  counted = omega (arith, taken, drains.writes.count_is);
}

pub broke-off : (ring ring_met ring_after : Sending) (getting got_met written getting_after : Getting) (blocks more : ℕ) (tape after : Tape) → Renews ring getting ring_met got_met → Fails got_met tape written after
    → Renews ring_met written ring_after getting_after → length got_met.got + more + 1 ≡ length written.got
    → BreaksOff (record { ring = ring; getting = getting; tape = tape; blocks = blocks }) (record { ring = ring_after; getting = getting_after; tape = after; blocks = blocks + more })
broke-off ring ring_met ring_after getting got_met written getting_after blocks more tape after first fails second taken = record {
  ring_met = ring_met;
  got_met = got_met;
  first = first;
  written = written;
  fails = fails;
  second = second;
  counted = ap (λ (n : ℕ). blocks + n) (lost-one got_met tape written after fails more taken);
}

pub served-count : (count : ℕ) (getting written : Getting) (tape after : Tape) (more : ℕ) → Serves count getting tape written after → length getting.got + more ≡ length written.got → more ≡ count
served-count count getting written tape after more serves taken = omega (arith, taken, serves.writes.count_is)

pub tore : (recording after : Recording) (tape tape_after : Tape) (more : ℕ) → Fails recording.getting tape after.getting tape_after → length recording.getting.got + more + 1 ≡ length after.getting.got → after.blocks ≡ recording.blocks + more
    → Tears recording tape after tape_after
tore recording after tape tape_after more fails taken counted = record {
  fails = fails;
  counted = counted ∙ ap (λ (n : ℕ). recording.blocks + n) (lost-one recording.getting tape after.getting tape_after fails more taken);
}
