-- The overruns of serial mode are ones that can be.
--     Lost-counts      of any course in serial mode
--     Lost-serial      of the overruns that `serial` gives
use Rattle.std.proofs.Common.{◌≡◌, ℕ, zero, suc, ◌+◌, ◌-◌, ◌<◌, ◌≤◌, min, Bool, true, false, cond, not, ◌&&◌, ◌||◌, ◌==◌, List, [], ◌∷◌, ◌++◌, length, map, get_or, slice_index_or, count_by, All, IsTrue, None, is_some, ℤ, if◌then◌else◌, refl, sym, ◌∙◌, ap, subst, arith, true≢false, eqb-true, eq-eqb, ne_eqb}
use native.Mathlib.Nat.{min-le_left, le-min}
use Rattle.std.specs.List.{list_any}
use Rattle.std.specs.List.Sorted.{IsStrictlyIncreasing}
use Rattle.std.proofs.lemmas.List.Sums.{sum_by_push, sum_by-cons}
use Rattle.session_model.specs.jack_types.specs.declared.replies.Overrun.{Overrun}
use Rattle.session_model.specs.jack_types.specs.declared.replies.Underrun.{Underrun}
use Rattle.session_model.specs.Courses.{Course, DiskFile, turn}
use Rattle.session_model.specs.Grammar.{IsScript}
use Rattle.session_model.specs.Kinds.{Sound}
use Rattle.session_model.specs.Recorders.{Lost, IsOverrun, kept_before, is_taping, is_lost}
use Rattle.session_model.specs.Samples.{below}
use Rattle.session_model.specs.Scripts.{Script, turns}
use Rattle.session_model.specs.Serial.{serial, serial_course, course_in_serial, serial_overruns, Counts, put_one, drained, emptied, counted_in, counts}
use Rattle.session_laws.proofs.ActivationLemmas.{get_or-map_below}
use Rattle.session_laws.proofs.ListLemmas.{Each, Ordered, Each-weaker, Each-append, Each-below, Ordered-append, Ordered-map, IsNonDecreasing-ordered}

count-same : (f g : ℕ → Bool) (xs : List ℕ) → Each (λ x. f x ≡ g x) xs → count_by f xs ≡ count_by g xs
count-same f g [] h = refl
count-same f g (x ∷ xs) h = sum_by-cons (λ y. cond (f y) 1 0) x xs ∙ rw (h.0, count-same f g xs h.1) (sym (sum_by-cons (λ y. cond (g y) 1 0) x xs))

list_any-push : (p : Overrun → Bool) (xs : List Overrun) (y : Overrun) → list_any p (xs ++ y ∷ []) ≡ (list_any p xs || p y)
list_any-push p [] y = go (p y)
  where
    go : (b : Bool) → (b || false) ≡ b
    go true = refl
    go false = refl
list_any-push p (x ∷ xs) y = go (p x) (list_any-push p xs y)
  where
    go : (b : Bool) → list_any p (xs ++ y ∷ []) ≡ (list_any p xs || p y) → (b || list_any p (xs ++ y ∷ [])) ≡ (b || list_any p xs || p y)
    go true e = refl
    go false e = e

pub All-from_each : {X : Type 0} (P : X → Type 0) (ys : List X) → Each P ys → All P ys
All-from_each P [] h k d b = absurd (omega arith)
All-from_each P (y ∷ ys) h zero d b = h.0
All-from_each P (y ∷ ys) h (suc k) d b = All-from_each P ys h.1 k d (omega (arith, b))

pub IsStrictlyIncreasing-ordered : (xs : List ℕ) → Ordered (λ a b. a < b) xs → IsStrictlyIncreasing xs
IsStrictlyIncreasing-ordered [] o k h = absurd (omega (arith, h))
IsStrictlyIncreasing-ordered (x ∷ []) o zero h = absurd (omega (arith, h))
IsStrictlyIncreasing-ordered (x ∷ y ∷ xs) o zero h = o.0.0
IsStrictlyIncreasing-ordered (x ∷ xs) o (suc k) h =
    let e : suc (k + 1) ≡ suc k + 1 = omega arith in
    subst (λ n. get_or xs k 0 < get_or (x ∷ xs) n 0) e (IsStrictlyIncreasing-ordered xs o.1 k (omega (arith, h)))

module _ (course : Course) (recorder : ℕ) (ring_some : 1 ≤ course.script.header.ring) where
  -- the recorder's active cycles up to the n-th that are in no overrun
  abbrev kept : List Overrun → ℕ → ℕ
  kept losses n = count_by (λ j. is_taping course recorder (j + 1) && not (is_lost losses (j + 1))) (below n)

  kept-next : (losses : List Overrun) (k : ℕ) → kept losses (suc k) ≡ kept losses k + cond (is_taping course recorder (suc k) && not (is_lost losses (suc k))) 1 0
  kept-next losses k =
      let e : k + 1 ≡ suc k = omega arith in
      sum_by_push (λ j. cond (is_taping course recorder (j + 1) && not (is_lost losses (j + 1))) 1 0) (below k) k
      ∙ ap (λ n. kept losses k + cond (is_taping course recorder n && not (is_lost losses n)) 1 0) e

  -- a later overrun does not count
  kept-more : (losses : List Overrun) (new : Overrun) (n : ℕ) → n < new.cycle → kept (losses ++ new ∷ []) n ≡ kept losses n
  kept-more losses new n h =
      count-same (λ j. is_taping course recorder (j + 1) && not (is_lost (losses ++ new ∷ []) (j + 1))) (λ j. is_taping course recorder (j + 1) && not (is_lost losses (j + 1))) (below n)
      (Each-below (λ j. (is_taping course recorder (j + 1) && not (is_lost (losses ++ new ∷ []) (j + 1))) ≡ (is_taping course recorder (j + 1) && not (is_lost losses (j + 1)))) n
      (λ j b.
      let apart : (new.cycle == j + 1) ≡ false = ne_eqb new.cycle (j + 1) (λ e. omega (arith, e, b, h)) in
      ap (λ t. is_taping course recorder (j + 1) && not t)
      (list_any-push (λ (overrun : Overrun). overrun.cycle == j + 1) losses new ∙ ap (λ t. is_lost losses (j + 1) || t) apart ∙ or_false (is_lost losses (j + 1)))))
    where
      or_false : (b : Bool) → (b || false) ≡ b
      or_false true = refl
      or_false false = refl

  not_lost : (losses : List Overrun) (k : ℕ) → Each (λ (o : Overrun). o.cycle ≤ k) losses → is_lost losses (suc k) ≡ false
  not_lost [] k h = refl
  not_lost (o ∷ losses) k h = rw (ne_eqb o.cycle (suc k) (λ e. omega (arith, e, h.0))) (not_lost losses k h.1)

  now_lost : (losses : List Overrun) (new : Overrun) → is_lost (losses ++ new ∷ []) new.cycle ≡ true
  now_lost losses new = list_any-push (λ (o : Overrun). o.cycle == new.cycle) losses new ∙ ap (λ t. is_lost losses new.cycle || t) (eq-eqb new.cycle new.cycle refl) ∙ or_true (is_lost losses new.cycle)
    where
      or_true : (b : Bool) → (b || true) ≡ true
      or_true true = refl
      or_true false = refl

  -- an overrun that can be, among these, up to cycle k
  record CanBe (k : ℕ) (losses : List Overrun) (o : Overrun) : Type 0 where
    recorder_is : o.recorder ≡ recorder
    first : 1 ≤ o.cycle
    last : o.cycle ≤ k
    active : IsTrue (is_taping course recorder o.cycle)
    in_run : IsTrue (not (turn course o.cycle).is_freewheel)
    sent : o.sent ≡ kept_before course losses recorder o.cycle
    full : o.sent ≡ o.taken + course.script.header.ring

  record AreRight (k : ℕ) (c : Counts) : Type 0 where
    low : c.taken ≤ c.sent
    sent : c.sent ≡ kept c.losses k
    each : Each (CanBe k c.losses) c.losses
    by_cycle : Ordered (λ (a b : Overrun). a.cycle < b.cycle) c.losses
    rises : Ordered (λ (a b : Overrun). a.taken ≤ b.taken) c.losses
    least : Each (λ (o : Overrun). o.taken ≤ c.taken) c.losses

  abbrev counts_by : ℕ → ℕ → List Overrun → Counts
  counts_by s t losses = record { sent = s; taken = t; losses = losses }

  module _ (k : ℕ) (c : Counts) (right : AreRight k c) where
    up_to : Each (λ (o : Overrun). o.cycle ≤ k) c.losses
    up_to = Each-weaker (CanBe k c.losses) (λ (o : Overrun). o.cycle ≤ k) (λ o h. h.last) c.losses right.each

    each_later : Each (CanBe (suc k) c.losses) c.losses
    each_later =
        Each-weaker (CanBe k c.losses) (CanBe (suc k) c.losses)
        (λ o h. record { recorder_is = h.recorder_is; first = h.first; last = omega (arith, h.last); active = h.active; in_run = h.in_run; sent = h.sent; full = h.full }) c.losses right.each

    least_later : (t : ℕ) → c.taken ≤ t → Each (λ (o : Overrun). o.taken ≤ t) c.losses
    least_later t h = Each-weaker (λ (o : Overrun). o.taken ≤ c.taken) (λ (o : Overrun). o.taken ≤ t) (λ o q. omega (arith, q, h)) c.losses right.least

    -- no active cycle
    right-idle : (t : ℕ) → is_taping course recorder (suc k) ≡ false → c.taken ≤ t → t ≤ c.sent → AreRight (suc k) (counts_by c.sent t c.losses)
    right-idle t off up low = record {
      low = low;
      sent = right.sent ∙ sym (kept-next c.losses k ∙ ap (λ b. kept c.losses k + cond (b && not (is_lost c.losses (suc k))) 1 0) off ∙ plus_none (kept c.losses k));
      each = each_later;
      by_cycle = right.by_cycle;
      rises = right.rises;
      least = least_later t up;
    }
      where
        plus_none : (n : ℕ) → n + 0 ≡ n
        plus_none n = omega arith

    -- the block is put
    right-put : (t : ℕ) → is_taping course recorder (suc k) ≡ true → c.taken ≤ t → t ≤ c.sent + 1 → AreRight (suc k) (counts_by (c.sent + 1) t c.losses)
    right-put t on up low = record {
      low = low;
      sent = ap (λ n. n + 1) right.sent
          ∙ sym (kept-next c.losses k ∙ ap (λ b. kept c.losses k + cond (b && not (is_lost c.losses (suc k))) 1 0) on ∙ ap (λ b. kept c.losses k + cond (not b) 1 0) (not_lost c.losses k up_to));
      each = each_later;
      by_cycle = right.by_cycle;
      rises = right.rises;
      least = least_later t up;
    }

    -- the block is an overrun
    right-lost : (t : ℕ) → is_taping course recorder (suc k) ≡ true → (turn course (suc k)).is_freewheel ≡ false → c.sent ≡ c.taken + course.script.header.ring → c.taken ≤ t → t ≤ c.sent
        → AreRight (suc k) (counts_by c.sent t (c.losses ++ record { recorder = recorder; cycle = suc k; sent = c.sent; taken = c.taken } ∷ []))
    right-lost t on run full up low = record {
      low = low;
      sent = right.sent ∙ sym (kept-next more k ∙ ap (λ b. kept more k + cond (b && not (is_lost more (suc k))) 1 0) on ∙ ap (λ b. kept more k + cond (not b) 1 0) (now_lost c.losses new) ∙ plus_none (kept more k) ∙ kept-more c.losses new k (omega arith));
      each = Each-append (CanBe (suc k) more) c.losses (new ∷ [])
          (Each-weaker (CanBe k c.losses) (CanBe (suc k) more)
          (λ o h. record {
            recorder_is = h.recorder_is;
            first = h.first;
            last = omega (arith, h.last);
            active = h.active;
            in_run = h.in_run;
            sent = h.sent ∙ sym (kept-more c.losses new (o.cycle - 1) (omega (arith, h.last)));
            full = h.full;
          }) c.losses right.each) (
            record {
              recorder_is = refl;
              first = omega arith;
              last = omega arith;
              active = on;
              in_run = ap not run;
              sent = right.sent ∙ sym (kept-more c.losses new k (omega arith)) ∙ ap (kept more) back;
              full = full;
            },
            tt,
          );
      by_cycle = Ordered-append (λ (a b : Overrun). a.cycle < b.cycle) (λ (o : Overrun). o.cycle ≤ k) (λ (o : Overrun). o.cycle ≡ suc k) (λ a b p q. omega (arith, p, q)) c.losses (new ∷ []) right.by_cycle up_to (tt, tt) (refl, tt);
      rises = Ordered-append (λ (a b : Overrun). a.taken ≤ b.taken) (λ (o : Overrun). o.taken ≤ c.taken) (λ (o : Overrun). o.taken ≡ c.taken) (λ a b p q. omega (arith, p, q)) c.losses (new ∷ []) right.rises right.least (tt, tt) (refl, tt);
      least = Each-append (λ (o : Overrun). o.taken ≤ t) c.losses (new ∷ []) (least_later t up) (up, tt);
    }
      where
        new : Overrun
        new = record { recorder = recorder; cycle = suc k; sent = c.sent; taken = c.taken }

        more : List Overrun
        more = c.losses ++ new ∷ []

        back : k ≡ suc k - 1
        back = omega arith

        plus_none : (n : ℕ) → n + 0 ≡ n
        plus_none n = omega arith

    right-next : AreRight (suc k) (counted_in course recorder (suc k) c)
    right-next = by_mode (turn course (suc k)).is_freewheel refl
      where
        K : ℕ
        K = suc k

        most : ℕ
        most = course.script.header.drain

        running : (t : Bool) → is_taping course recorder (suc k) ≡ t → (turn course (suc k)).is_freewheel ≡ false
            → AreRight (suc k) (drained most (if not t then c else if c.sent == c.taken + course.script.header.ring
            then record c { losses = c.losses ++ record { recorder = recorder; cycle = suc k; sent = c.sent; taken = c.taken } ∷ [] }
            else record c { sent = c.sent + 1 }))
        running false off run = right-idle (min c.sent (c.taken + most)) off (le-min right.low (omega arith)) (min-le_left c.sent (c.taken + most))
        running true on run = by_room (c.sent == c.taken + course.script.header.ring) refl
          where
            by_room : (b : Bool) → (c.sent == c.taken + course.script.header.ring) ≡ b
                → AreRight (suc k) (drained most (if b
                then record c { losses = c.losses ++ record { recorder = recorder; cycle = suc k; sent = c.sent; taken = c.taken } ∷ [] }
                else record c { sent = c.sent + 1 }))
            by_room true e = right-lost (min c.sent (c.taken + most)) on run (eqb-true c.sent (c.taken + course.script.header.ring) e) (le-min right.low (omega arith)) (min-le_left c.sent (c.taken + most))
            by_room false e = right-put (min (c.sent + 1) (c.taken + most)) on (le-min (omega (arith, right.low)) (omega arith)) (min-le_left (c.sent + 1) (c.taken + most))

        wheeling : (t : Bool) → is_taping course recorder (suc k) ≡ t
            → AreRight (suc k) (emptied (if not t then emptied c else if c.sent == c.sent + course.script.header.ring
            then record (emptied c) { losses = c.losses ++ record { recorder = recorder; cycle = suc k; sent = c.sent; taken = c.sent } ∷ [] }
            else record (emptied c) { sent = c.sent + 1 }))
        wheeling false off = right-idle c.sent off right.low (omega arith)
        wheeling true on = by_room (c.sent == c.sent + course.script.header.ring) refl
          where
            by_room : (b : Bool) → (c.sent == c.sent + course.script.header.ring) ≡ b
                → AreRight (suc k) (emptied (if b
                then record (emptied c) { losses = c.losses ++ record { recorder = recorder; cycle = suc k; sent = c.sent; taken = c.sent } ∷ [] }
                else record (emptied c) { sent = c.sent + 1 }))
            by_room true e = absurd (omega (arith, eqb-true c.sent (c.sent + course.script.header.ring) e, ring_some))
            by_room false e = right-put (c.sent + 1) on (omega (arith, right.low)) (omega arith)

        by_mode : (b : Bool) → (turn course (suc k)).is_freewheel ≡ b
            → AreRight (suc k) (if b then emptied (put_one course recorder (suc k) (emptied c)) else drained most (put_one course recorder (suc k) c))
        by_mode true e = wheeling (is_taping course recorder (suc k)) refl
        by_mode false e = running (is_taping course recorder (suc k)) refl e

  counts-right : (k : ℕ) → AreRight k (counts course recorder k)
  counts-right zero = record { low = omega arith; sent = refl; each = tt; by_cycle = tt; rises = tt; least = tt }
  counts-right (suc k) = right-next k (counts course recorder k) (counts-right k)

  pub Lost-counts : course.script.header.threads ≡ None → Lost course (counts course recorder (length (turns course.script))).losses recorder
  Lost-counts no_threads =
      let n : ℕ = length (turns course.script) in
      let losses : List Overrun = (counts course recorder n).losses in
      let right : AreRight n (counts course recorder n) = counts-right n in
      record {
        by_cycle = IsStrictlyIncreasing-ordered (map (λ (o : Overrun). o.cycle) losses) (Ordered-map (λ a b. a < b) (λ (o : Overrun). o.cycle) losses right.by_cycle);
        overruns = All-from_each (IsOverrun course losses recorder) losses
            (Each-weaker (CanBe n losses) (IsOverrun course losses recorder)
            (λ o h. record { recorder_is = h.recorder_is; first = h.first; last = h.last; active = h.active; in_run = h.in_run; sent = h.sent; full = h.full }) losses right.each);
        taken_rises = IsNonDecreasing-ordered (map (λ (o : Overrun). o.taken) losses) (Ordered-map (λ a b. a ≤ b) (λ (o : Overrun). o.taken) losses right.rises);
        in_threads = λ some. absurd (true≢false (sym some ∙ ap is_some no_threads));
      }

-- the counts rest on the accepted changes and the numbers alone
counts-same : (script : Script) (capture : List ℤ) (disks : List DiskFile) (scores : List Sound) (underruns : List (List Underrun)) (recorder k : ℕ)
    → counts (serial_course script) recorder k ≡ counts (course_in_serial script capture disks scores underruns) recorder k
counts-same script capture disks scores underruns recorder zero = refl
counts-same script capture disks scores underruns recorder (suc k) = ap (counted_in (serial_course script) recorder (suc k)) (counts-same script capture disks scores underruns recorder k)

pub Lost-serial : (script : Script) → IsScript script → script.header.threads ≡ None
    → (capture : List ℤ) (disks : List DiskFile) (scores : List Sound) (underruns : List (List Underrun)) (recorder : ℕ) → recorder < length script.header.recorders
    → Lost (course_in_serial script capture disks scores underruns) (slice_index_or (serial script).overruns recorder []) recorder
Lost-serial script is no_threads capture disks scores underruns recorder h =
    let course : Course = course_in_serial script capture disks scores underruns in
    let e : slice_index_or (serial script).overruns recorder [] ≡ (counts course recorder (length (turns script))).losses =
    get_or-map_below (serial_overruns script) (length script.header.recorders) recorder [] h
    ∙ ap (λ (c : Counts). c.losses) (counts-same script capture disks scores underruns recorder (length (turns script))) in
    subst (λ losses. Lost course losses recorder) (sym e) (Lost-counts course recorder is.header.ring.0 no_threads)
