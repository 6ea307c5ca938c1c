-- Counts of a recorder's ring whose blocks leave.
--     HasCounts-renewed      behind a meeting both ends know the counts
--     HasCounts-gave      behind one that let blocks out they have the drained counts
--     HasCounts-emptied      where as many may leave as the ring has room for, it is empty
--     opened, closed      what a cycle of each kind counts before its put, and behind it
use Rattle.std.proofs.Common.{◌≡◌, ℕ, ◌+◌, ◌≤◌, Bool, true, false, List, length, take, ℤ, if◌then◌else◌, refl, sym, ◌∙◌, ap, ap₂, subst, arith}
use native.Mathlib.Nat.{min-eq_left}
use Rattle.jack_types.specs.declared.replies.Overrun.{Overrun}
use Rattle.jack_types.specs.declared.scripts.Header.{Header}
use Rattle.session_model.specs.Courses.{Course, turn}
use Rattle.session_model.specs.Serial.{Counts, counted_in, drained, emptied, put_one}
use Rattle.driver_words.specs.Rings.{Getting, Renews, Sending}
use Rattle.driver_words.specs.Tapes.{Tape}
use Rattle.recorder_files.specs.disk_recorder.specs.Recordings.{Drains}
use Rattle.run_laws.specs.driver_laws.specs.Cycling.{Idle, Lacked, PutsOne, Went}
use Rattle.recorder_files.specs.Recorders.{GivesUp, Reel}
use Rattle.run_laws.specs.SerialRuns.{HasCounts}
use Rattle.serial_laws.specs.Steps.{most_blocks}

-- so many blocks leave a ring as the definition counts
abbrev pub DrainsCounted : Type 0
DrainsCounted = (most count : ℕ) (ring : Sending) (got after : Getting) (tape tape_after : Tape) (counted : Counts) → HasCounts ring got counted
    → Drains most count got tape after tape_after → length after.got ≤ length ring.put → length after.got ≡ (drained most counted).taken

-- where both ends meet, each knows how far the other is
pub HasCounts-renewed : (ring : Sending) (got : Getting) (ring_after : Sending) (got_after : Getting) (counted : Counts) → Renews ring got ring_after got_after
    → length ring.put ≡ counted.sent → length got.got ≡ counted.taken → HasCounts ring_after got_after counted
HasCounts-renewed ring got ring_after got_after counted renews sent taken =
    let put : length ring_after.put ≡ length ring.put = ap (λ (r : Sending). length r.put) renews.sending_is in
    let all : length got_after.got ≡ length got.got = ap (λ (g : Getting). length g.got) renews.getting_is in
    record {
      sent = put ∙ sent;
      taken = all ∙ taken;
      front = ap (λ (g : Getting). g.got) renews.getting_is ∙ renews.met.front ∙ sym (ap₂ (λ (g : Getting) (r : Sending). take (length g.got) r.put) renews.getting_is renews.sending_is);
      looks = ap (λ (r : Sending). r.least) renews.sending_is ∙ sym all;
      finds = ap (λ (g : Getting). g.least) renews.getting_is ∙ sym put;
      open_ended = ap (λ (r : Sending). r.ended) renews.sending_is;
    }

-- all leave where as many may leave as there can be
drained-all : (most : ℕ) (counted : Counts) → counted.sent ≤ counted.taken + most → drained most counted ≡ emptied counted
drained-all most counted few = ap (λ n. record counted { taken = n }) (min-eq_left few)

pub HasCounts-gave : DrainsCounted → (most : ℕ) (before after : Reel) (counted : Counts) → length before.ring.put ≡ counted.sent → length before.getting.got ≡ counted.taken
    → GivesUp most before after → HasCounts after.ring after.getting (drained most counted)
HasCounts-gave drains most before after counted sent taken gives =
    let met : HasCounts gives.ring_met gives.got_met counted = HasCounts-renewed before.ring before.getting gives.ring_met gives.got_met counted gives.first sent taken in
    let left : length gives.written.got ≡ (drained most counted).taken =
    drains most gives.count gives.ring_met gives.got_met gives.written before.tape after.tape counted met gives.drains gives.second.met.behind in
    HasCounts-renewed gives.ring_met gives.written after.ring after.getting (drained most counted) gives.second met.sent left

pub HasCounts-emptied : DrainsCounted → (most : ℕ) (before after : Reel) (counted : Counts) → length before.ring.put ≡ counted.sent → length before.getting.got ≡ counted.taken → before.ring.capacity ≡ most
    → GivesUp most before after → HasCounts after.ring after.getting (emptied counted)
HasCounts-emptied drains most before after counted sent taken capacity gives =
    let within : length before.ring.put ≤ length before.getting.got + before.ring.capacity = gives.first.met.within in
    subst (HasCounts after.ring after.getting) (drained-all most counted (omega (arith, within, sent, taken, capacity))) (HasCounts-gave drains most before after counted sent taken gives)

-- no capacity changes
pub capacity-gave : (most : ℕ) (before after : Reel) → GivesUp most before after → after.ring.capacity ≡ before.ring.capacity
capacity-gave most before after gives = ap (λ (r : Sending). r.capacity) gives.second.sending_is ∙ ap (λ (r : Sending). r.capacity) gives.first.sending_is

pub capacity-put : {k recorder : ℕ} {active : Bool} {samples : List ℤ} {losses losses_after : List Overrun} (before after : Sending) → PutsOne k recorder active samples before after losses losses_after → after.capacity ≡ before.capacity
capacity-put before after (Idle idle stays none) = ap (λ (r : Sending). r.capacity) stays
capacity-put before after (Went look on puts none) = ap (λ (r : Sending). r.capacity) puts.after_is
capacity-put before after (Lacked look on full more) = ap (λ (r : Sending). r.capacity) full.after_is

-- a freewheel cycle begins with an empty ring
abbrev pub opened : Bool → Counts → Counts
opened true counted = emptied counted
opened false counted = counted

-- and leaves one, where a `run` cycle lets a few blocks out
abbrev pub closed : Header → Bool → Counts → Counts
closed header true counted = emptied counted
closed header false counted = drained header.drain counted

pub closed-losses : (header : Header) (freewheel : Bool) (counted : Counts) → (closed header freewheel counted).losses ≡ counted.losses
closed-losses header true counted = refl
closed-losses header false counted = refl

pub counted_in-turn : (course : Course) (recorder k : ℕ) (freewheel : Bool) (counted : Counts) → (turn course k).is_freewheel ≡ freewheel
    → counted_in course recorder k counted ≡ closed course.script.header freewheel (put_one course recorder k (opened freewheel counted))
counted_in-turn course recorder k true counted is =
    ap (λ b. if b then emptied (put_one course recorder k (emptied counted)) else drained course.script.header.drain (put_one course recorder k counted)) is
counted_in-turn course recorder k false counted is =
    ap (λ b. if b then emptied (put_one course recorder k (emptied counted)) else drained course.script.header.drain (put_one course recorder k counted)) is

pub HasCounts-closed : DrainsCounted → (header : Header) (freewheel : Bool) (before after : Reel) (counted : Counts) → length before.ring.put ≡ counted.sent → length before.getting.got ≡ counted.taken
    → before.ring.capacity ≡ header.ring → GivesUp (most_blocks header freewheel) before after → HasCounts after.ring after.getting (closed header freewheel counted)
HasCounts-closed drains header true before after counted sent taken capacity gives = HasCounts-emptied drains header.ring before after counted sent taken capacity gives
HasCounts-closed drains header false before after counted sent taken capacity gives = HasCounts-gave drains header.drain before after counted sent taken gives
