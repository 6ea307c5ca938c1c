-- Courses that fit behind cycles, and what is kept over many.
--     Fits-earlier      a course that fits behind a cycle fits before it
--     Fits-failed      also where the cycle failed at the capture
--     content-of_calls      what a cycle took is of calls
--     Keeps-many      what holds behind one cycle holds behind many
use Rattle.std.proofs.Common.{◌≡◌, ℕ, zero, suc, ◌+◌, ◌<◌, Bool, true, false, cond, ◌||◌, ◌==◌, List, [], ◌∷◌, ◌++◌, length, map, take, slice_get, slice_index_or, All, Contains, ◌⊎◌, inl, inr, refl, sym, ◌∙◌, ap, subst, arith, true≢false, eqb-true}
use Rattle.std.specs.List.{list_any}
use Rattle.std.proofs.lemmas.List.{length_push}
use Rattle.std.proofs.lemmas.List.Elements.{All-take, All-head, All-tail, filter-append}
use Rattle.std.proofs.lemmas.List.Folds.{list_any-append}
use Rattle.record_ring.specs.jack_types.specs.declared.commands.Call.{Call}
use Rattle.record_ring.specs.jack_types.specs.declared.commands.Change.{Change}
use Rattle.record_ring.specs.jack_types.specs.declared.replies.Underrun.{Underrun}
use Rattle.record_ring.specs.session_model.specs.Courses.{Course}
use Rattle.record_ring.specs.session_model.specs.Scripts.{Script, Planned, planned}
use Rattle.record_ring.specs.session_model.specs.Soundness.{Apart}
use Rattle.cycle_plan.specs.session_laws.proofs.ListLemmas.{map-take}
use Rattle.cycle_plan.specs.session_laws.proofs.LoopLemmas.{Contains-cases, Contains-first, Contains-later}
use Rattle.cycle_plan.specs.graph_word.specs.Publications.{Reading}
use Rattle.record_ring.specs.driver_words.specs.Rings.{Getting}
use Rattle.driver_laws.specs.Drivers.{Driver, run, content_now, graph_now, has_disk, underruns_on}
use Rattle.driver_laws.specs.Keeping.{AreOfCalls, Fits, FitsDisk, Keeps}
use Rattle.driver_laws.specs.Cycling.{GetsOne, Silent, Heard, Over, Missed, StepsOnce, FailsAtRead, CyclesMany}
use Rattle.driver_laws.proofs.PlaceLemmas.{none_below, there_too, still_there, or_false}
use Rattle.driver_laws.proofs.StepLemmas.{ran, rows_are, row_there, content-taken}

-- a list with one more that is a front has a front in it
front_in : {X : Type 0} (xs : List X) (x : X) (m : ℕ) (whole : List X) → xs ++ x ∷ [] ≡ take m whole → xs ≡ take (length xs) whole
front_in [] x m whole e = refl
front_in (y ∷ xs) x zero whole e = absurd (clash e)
  where
    clash : y ∷ (xs ++ x ∷ []) ≡ [] → ⊥
    clash q = cc
front_in (y ∷ xs) x (suc m) [] e = absurd (clash e)
  where
    clash : y ∷ (xs ++ x ∷ []) ≡ [] → ⊥
    clash q = cc
front_in {X} (y ∷ xs) x (suc m) (z ∷ whole) e = ap_both (heads e) (front_in xs x m whole (tails e))
  where
    heads : y ∷ (xs ++ x ∷ []) ≡ z ∷ take m whole → y ≡ z
    heads q = cc

    tails : y ∷ (xs ++ x ∷ []) ≡ z ∷ take m whole → xs ++ x ∷ [] ≡ take m whole
    tails q = cc

    ap_both : y ≡ z → xs ≡ take (length xs) whole → y ∷ xs ≡ z ∷ take (length xs) whole
    ap_both p q = cc

-- underruns of a later cycle are none of an earlier one
none_now : (k now disk count : ℕ) → k < now → (more : List Underrun) → All (λ (u : Underrun). (u.cycle ≡ now) × (u.disk < count)) more
    → list_any (λ (u : Underrun). u.cycle == k) (underruns_on more disk) ≡ false
none_now k now disk count low [] h = refl
none_now k now disk count low (u ∷ more) h =
    go (u.disk == disk) (u.cycle == k) refl (All-head (λ (v : Underrun). (v.cycle ≡ now) × (v.disk < count)) u more h).0
    (none_now k now disk count low more (All-tail (λ (v : Underrun). (v.cycle ≡ now) × (v.disk < count)) u more h))
  where
    rest : List Underrun
    rest = underruns_on more disk

    go : (b c : Bool) → (u.cycle == k) ≡ c → u.cycle ≡ now → list_any (λ (v : Underrun). v.cycle == k) rest ≡ false → list_any (λ (v : Underrun). v.cycle == k) (cond b (u ∷ rest) rest) ≡ false
    go false c e is r = r
    go true true e is r = absurd (omega (arith, eqb-true u.cycle k e, is, low))
    go true false e is r = rw e r

-- what fits a disk behind a get fits it before
earlier_disk : (course : Course) (k disk : ℕ) (active : Bool) (before after : Getting) (misses misses_after : List Underrun) → GetsOne k disk active before after misses misses_after → FitsDisk course disk after → FitsDisk course disk before
earlier_disk course k disk active before after misses misses_after (Silent idle same none) fits = subst (FitsDisk course disk) same fits
earlier_disk course k disk active before after misses misses_after (Heard one found on gets none) fits =
    let got : after.got ≡ before.got ++ one ∷ [] = ap (λ (g : Getting). g.got) gets.3 in
    record {
      blocks = λ i block here. fits.blocks i block (ap (λ bs. slice_get bs i) got ∙ still_there before.got (one ∷ []) i block here);
      whole = λ done. absurd (true≢false (sym done ∙ gets.0));
    }
earlier_disk course k disk active before after misses misses_after (Over one found on gets none) fits =
    let got : after.got ≡ before.got = ap (λ (g : Getting). g.got) gets.2 in
    let ended : after.done ≡ true = ap (λ (g : Getting). g.done) gets.2 in
    record {
      blocks = λ i block here. fits.blocks i block (ap (λ bs. slice_get bs i) got ∙ here);
      whole = λ done. sym (ap length got) ∙ fits.whole ended;
    }
earlier_disk course k disk active before after misses misses_after (Missed one found on gets more) fits =
    let got : after.got ≡ before.got = ap (λ (g : Getting). g.got) gets.6 in
    record {
      blocks = λ i block here. fits.blocks i block (ap (λ bs. slice_get bs i) got ∙ here);
      whole = λ done. absurd (true≢false (sym done ∙ gets.0));
    }

-- what fits behind a cycle fits before it
pub Fits-earlier : (driver after : Driver) (course : Course) → StepsOnce driver after → Fits after course → Fits driver course
Fits-earlier driver after course steps fits =
    let longer : run after ≡ suc (run driver) = ran driver after steps in
    record {
      script = fits.script ∙ steps.script;
      scores = fits.scores ∙ steps.scores;
      channels = fits.channels;
      of_calls = fits.of_calls;
      numbers = front_in driver.numbers steps.number (run after) course.numbers (sym steps.numbers ∙ fits.numbers);
      rows = λ k taken here. fits.rows k taken (ap (λ rows. slice_get rows k) (rows_are driver after steps) ∙ still_there driver.reading.rows (record { cycle = run driver + 1; changes = steps.taken.held } ∷ []) k taken here);
      underruns = λ disk k low.
          fits.underruns disk k (omega (arith, low, longer))
          ∙ ap (λ us. list_any (λ (u : Underrun). u.cycle == k) (underruns_on us disk)) steps.more_underruns
          ∙ ap (list_any (λ (u : Underrun). u.cycle == k)) (filter-append (λ (u : Underrun). u.disk == disk) driver.underruns steps.underruns)
          ∙ list_any-append (λ (u : Underrun). u.cycle == k) (underruns_on driver.underruns disk) (underruns_on steps.underruns disk)
          ∙ ap (λ b. list_any (λ (u : Underrun). u.cycle == k) (underruns_on driver.underruns disk) || b) (none_now k (run driver + 1) disk (length driver.disks) (omega (arith, low)) steps.underruns steps.underruns_now)
          ∙ or_false (list_any (λ (u : Underrun). u.cycle == k) (underruns_on driver.underruns disk));
      disks = λ disk got here.
          let w = there_too driver.disks after.disks disk got steps.as_many_disks here in
          earlier_disk course (run driver + 1) disk (has_disk (graph_now after) disk) got w.0 (underruns_on driver.underruns disk) (underruns_on after.underruns disk) (steps.disks disk got w.0 here w.1) (fits.disks disk w.0 w.1);
    }

-- what fits behind a cycle that failed at the capture fits before it
pub Fits-failed : (driver after : Driver) (course : Course) → FailsAtRead driver after → Fits after course → Fits driver course
Fits-failed driver after course fails fits =
    let longer : run after ≡ run driver + 1 = ap length fails.numbers ∙ length_push driver.numbers fails.number in
    let more : after.reading.rows ≡ driver.reading.rows ++ record { cycle = run driver + 1; changes = fails.taken.held } ∷ [] =
    ap (λ (r : Reading). r.rows) fails.begins.after_is
    ∙ ap (λ rows. rows ++ record { cycle = run driver + 1; changes = fails.taken.held } ∷ []) (ap (λ (r : Reading). r.rows) fails.takes.same) in
    record {
      script = fits.script ∙ ap (λ (d : Driver). d.script) fails.same;
      scores = fits.scores ∙ ap (λ (d : Driver). d.scores) fails.same;
      channels = fits.channels;
      of_calls = fits.of_calls;
      numbers = front_in driver.numbers fails.number (run after) course.numbers (sym fails.numbers ∙ fits.numbers);
      rows = λ k taken here. fits.rows k taken (ap (λ rows. slice_get rows k) more ∙ still_there driver.reading.rows (record { cycle = run driver + 1; changes = fails.taken.held } ∷ []) k taken here);
      underruns = λ disk k low. fits.underruns disk k (omega (arith, low, longer)) ∙ ap (λ (d : Driver). list_any (λ (u : Underrun). u.cycle == k) (underruns_on d.underruns disk)) fails.same;
      disks = λ disk got here. fits.disks disk got (ap (λ (d : Driver). slice_get d.disks disk) fails.same ∙ here);
    }

-- the first changes are of calls where all are
AreOfCalls-take : (script : Script) (changes : List Change) (n : ℕ) → AreOfCalls script changes → AreOfCalls script (take n changes)
AreOfCalls-take script changes n of_calls = record {
  calls = take n of_calls.calls;
  commands = map-take (λ (call : Call). call.command) n of_calls.calls ∙ ap (take n) of_calls.commands ∙ sym (map-take (λ (change : Change). change.command) n changes);
  planned_ones = All-take (Contains (map (λ (plan : Planned). plan.call) (planned script))) n of_calls.calls of_calls.planned_ones;
  once = Apart-take of_calls.calls n of_calls.once;
}
  where
    taken_among : {X : Type 0} (xs : List X) (n : ℕ) (x : X) → Contains (take n xs) x → Contains xs x
    taken_among xs zero x m = absurd (none_below m.1)
    taken_among [] (suc n) x m = absurd (none_below m.1)
    taken_among {X} (y ∷ xs) (suc n) x m = go (Contains-cases y x (take n xs) m) (taken_among xs n x)
      where
        go : (y ≡ x) ⊎ Contains (take n xs) x → (Contains (take n xs) x → Contains xs x) → Contains (y ∷ xs) x
        go (inl e) rest = subst (Contains (y ∷ xs)) e (Contains-first y xs)
        go (inr k) rest = Contains-later y x xs (rest k)

    Apart-take : (calls : List Call) (n : ℕ) → Apart (λ (call : Call). call) calls → Apart (λ (call : Call). call) (take n calls)
    Apart-take calls zero h = tt
    Apart-take [] (suc n) h = tt
    Apart-take (call ∷ calls) (suc n) h = (λ other m e. h.0 other (taken_among calls n other m) e, Apart-take calls n h.1)

-- what a cycle took is of calls
pub content-of_calls : (driver after : Driver) (course : Course) → StepsOnce driver after → Fits after course → AreOfCalls driver.script (content_now after)
content-of_calls driver after course steps fits =
    let content : content_now after ≡ take (slice_index_or course.numbers (run driver) 0) course.changes =
    content-taken driver after steps ∙ fits.rows (run driver) (record { cycle = run driver + 1; changes = steps.taken.held }) (row_there driver after steps) in
    subst (AreOfCalls driver.script) (sym content)
    (subst (λ (s : Script). AreOfCalls s (take (slice_index_or course.numbers (run driver) 0) course.changes)) (fits.script ∙ steps.script) (AreOfCalls-take course.script course.changes (slice_index_or course.numbers (run driver) 0) fits.of_calls))

-- what holds behind one cycle holds behind many
pub Keeps-many : (n : ℕ) (driver after : Driver) (course : Course) → CyclesMany n driver after → Fits after course → Keeps driver course → Keeps after course
Keeps-many zero driver after course same fits keeps = subst (λ (d : Driver). Keeps d course) (sym same) keeps
Keeps-many (suc n) driver after course cycles fits keeps =
    cycles.2.keeps course fits (Keeps-many n driver cycles.0 course cycles.1 (Fits-earlier cycles.0 after course cycles.2.steps fits) keeps)
