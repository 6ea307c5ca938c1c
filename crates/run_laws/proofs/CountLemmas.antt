-- The counts of a recorder's ring in serial mode.
--     Puts-counted      a put goes in, or finds the ring full, as the definition counts
--     Drains-counted      so many blocks leave as the definition counts
use Rattle.std.proofs.Common.{◌≡◌, ℕ, ◌+◌, ◌<◌, ◌≤◌, ◌⊎◌, inl, inr, min, Bool, true, false, not, ◌==◌, List, [], ◌∷◌, ◌++◌, length, ℤ, if◌then◌else◌, sym, ◌∙◌, ap, ap₂, arith, eq-eqb, ne_eqb}
use native.Mathlib.Nat.{min-eq_left, min-eq_right}
use Rattle.std.proofs.lemmas.Bool.{cases_lt}
use Rattle.std.proofs.lemmas.List.{length_push}
use Rattle.jack_types.specs.declared.replies.Overrun.{Overrun}
use Rattle.session_model.specs.Courses.{Course}
use Rattle.session_model.specs.Recorders.{is_taping}
use Rattle.session_model.specs.Serial.{Counts, drained, put_one}
use Rattle.driver_words.specs.Rings.{Getting, Sending}
use Rattle.driver_words.specs.Tapes.{Tape}
use Rattle.disk_recorder.specs.Recordings.{Drains}
use Rattle.driver_laws.specs.Cycling.{Idle, Lacked, PutsOne, Went}
use Rattle.run_laws.specs.SerialRuns.{HasCounts, HasPut}

module _ (course : Course) (recorder k : ℕ) (ring : Sending) (got : Getting) (counted : Counts) (has : HasCounts ring got counted) (capacity : ring.capacity ≡ course.script.header.ring) where
  -- the overrun that the definition has in a full ring
  abbrev lost : ℕ → ℕ → Overrun
  lost sent taken = record { recorder = recorder; cycle = k; sent = sent; taken = taken }

  put_one-as : (active full : Bool) → is_taping course recorder k ≡ active → (counted.sent == counted.taken + course.script.header.ring) ≡ full
      → put_one course recorder k counted
      ≡ (if not active then counted else if full then record counted { losses = counted.losses ++ lost counted.sent counted.taken ∷ [] } else record counted { sent = counted.sent + 1 })
  put_one-as active full taping test =
      ap₂ (λ a f. if not a then counted else if f then record counted { losses = counted.losses ++ lost counted.sent counted.taken ∷ [] } else record counted { sent = counted.sent + 1 }) taping test

  -- a look between what both ends know and what was got found what was taken
  exact : (look : ℕ) (after : Sending) → ring.least ≤ look → after.least ≡ look → after.least ≤ length got.got → look ≡ counted.taken
  exact look after low is high = omega (arith, low, is, high, has.looks, has.taken)

  pub Puts-counted : (active : Bool) (samples : List ℤ) (after : Sending) (losses losses_after : List Overrun) → is_taping course recorder k ≡ active → losses ≡ counted.losses
      → PutsOne k recorder active samples ring after losses losses_after → after.least ≤ length got.got → HasPut after losses_after (put_one course recorder k counted) × (length got.got ≡ (put_one course recorder k counted).taken)
  Puts-counted active samples after losses losses_after taping same (Idle idle stays none) look =
      let step : put_one course recorder k counted ≡ counted = ap (λ a. if not a then counted else if counted.sent == counted.taken + course.script.header.ring then record counted { losses = counted.losses ++ lost counted.sent counted.taken ∷ [] } else record counted { sent = counted.sent + 1 }) (taping ∙ idle) in
      (record { sent = ap (λ (r : Sending). length r.put) stays ∙ has.sent ∙ sym (ap (λ (c : Counts). c.sent) step); losses = none ∙ same ∙ sym (ap (λ (c : Counts). c.losses) step) }, has.taken ∙ sym (ap (λ (c : Counts). c.taken) step))
  Puts-counted active samples after losses losses_after taping same (Went look on puts none) high =
      let least_is : after.least ≡ look = ap (λ (r : Sending). r.least) puts.after_is in
      let found : look ≡ counted.taken = exact look after puts.least least_is high in
      let room : length ring.put < look + ring.capacity = puts.room in
      let test : (counted.sent == counted.taken + course.script.header.ring) ≡ false = ne_eqb counted.sent (counted.taken + course.script.header.ring) (λ e. omega (arith, e, room, has.sent, found, capacity)) in
      let step : put_one course recorder k counted ≡ record counted { sent = counted.sent + 1 } = put_one-as true false (taping ∙ on) test in
      let size : length after.put ≡ counted.sent + 1 = ap (λ (r : Sending). length r.put) puts.after_is ∙ length_push ring.put (record { cycle = k; samples = samples }) ∙ ap (λ n. n + 1) has.sent in
      (record { sent = size ∙ sym (ap (λ (c : Counts). c.sent) step); losses = none ∙ same ∙ sym (ap (λ (c : Counts). c.losses) step) }, has.taken ∙ sym (ap (λ (c : Counts). c.taken) step))
  Puts-counted active samples after losses losses_after taping same (Lacked look on full more) high =
      let least_is : after.least ≡ look = ap (λ (r : Sending). r.least) full.after_is in
      let found : look ≡ counted.taken = exact look after full.least least_is high in
      let none_left : length ring.put ≡ look + ring.capacity = full.full in
      let test : (counted.sent == counted.taken + course.script.header.ring) ≡ true = eq-eqb counted.sent (counted.taken + course.script.header.ring) (omega (arith, none_left, has.sent, found, capacity)) in
      let step : put_one course recorder k counted ≡ record counted { losses = counted.losses ++ lost counted.sent counted.taken ∷ [] } = put_one-as true true (taping ∙ on) test in
      let overruns : losses_after ≡ counted.losses ++ lost counted.sent counted.taken ∷ [] =
      more ∙ ap (λ os. os ++ lost (length ring.put) look ∷ []) same ∙ ap₂ (λ s t. counted.losses ++ lost s t ∷ []) has.sent found in
      (record { sent = ap (λ (r : Sending). length r.put) full.after_is ∙ has.sent ∙ sym (ap (λ (c : Counts). c.sent) step); losses = overruns ∙ sym (ap (λ (c : Counts). c.losses) step) }, has.taken ∙ sym (ap (λ (c : Counts). c.taken) step))

pub Drains-counted : (most count : ℕ) (ring : Sending) (got after : Getting) (tape tape_after : Tape) (counted : Counts) → HasCounts ring got counted
    → Drains most count got tape after tape_after → length after.got ≤ length ring.put → length after.got ≡ (drained most counted).taken
Drains-counted most count ring got after tape tape_after counted has drains low = go (cases_lt count most)
  where
    size : length after.got ≡ length got.got + count
    size = drains.writes.count_is

    go : (count < most) ⊎ (most ≤ count) → length after.got ≡ min counted.sent (counted.taken + most)
    go (inl few) =
        let all : after.least ≡ length after.got = drains.fewer few in
        let known : got.least ≤ after.least = drains.writes.same.least in
        let whole : length after.got ≡ counted.sent = omega (arith, all, known, has.finds, has.sent, low) in
        let least : min counted.sent (counted.taken + most) ≡ counted.sent = min-eq_left (omega (arith, whole, size, has.taken, few)) in
        whole ∙ sym least
    go (inr many) =
        let at_most : count ≤ most = drains.at_most in
        let behind : length after.got ≡ counted.taken + most = omega (arith, at_most, many, size, has.taken) in
        let least : min counted.sent (counted.taken + most) ≡ counted.taken + most = min-eq_right (omega (arith, behind, low, has.sent)) in
        behind ∙ sym least
