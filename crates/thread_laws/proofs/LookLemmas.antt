-- What many cycles do at a recorder's ring.
--     run-many, script-many, rings-many, disks-many      so many cycles more, the same script, as many rings
--     Fits-many      what fits behind them fits before
--     looks_many      each overrun that is new came in one of them, and its look was not below what the ring knew
use Rattle.std.proofs.Common.{◌≡◌, ℕ, zero, suc, ◌+◌, ◌≤◌, Bool, List, [], ◌∷◌, ◌++◌, length, slice_get, All, Some, ℤ, sym, ◌∙◌, ap, subst, arith}
use Rattle.std.proofs.lemmas.List.{append-nil, append_assoc}
use Rattle.std.proofs.lemmas.List.Elements.{All-append, All-push}
use Rattle.std.proofs.lemmas.Option.{same_Some}
use Rattle.jack_types.specs.declared.replies.Overrun.{Overrun}
use Rattle.session_model.specs.Courses.{Course}
use Rattle.driver_words.specs.Rings.{Sending}
use Rattle.driver_laws.specs.Cycling.{CyclesMany, Idle, Lacked, PutsOne, Went}
use Rattle.driver_laws.specs.Drivers.{Driver, block_in, graph_now, has_tape, overruns_on, run}
use Rattle.driver_laws.specs.Keeping.{Fits}
use Rattle.driver_laws.proofs.FitLemmas.{Fits-earlier}
use Rattle.driver_laws.proofs.PlaceLemmas.{none_below, there_too}
use Rattle.driver_laws.proofs.StepLemmas.{ran}
use Rattle.thread_laws.specs.Rests.{LooksBehind, LooksOn}

pub run-many : (n : ℕ) (driver after : Driver) → CyclesMany n driver after → run after ≡ run driver + n
run-many zero driver after same = let e : run after ≡ run driver = ap run same in omega (arith, e)
run-many (suc n) driver after cycles =
    let before : run cycles.0 ≡ run driver + n = run-many n driver cycles.0 cycles.1 in
    let one : run after ≡ suc (run cycles.0) = ran cycles.0 after cycles.2.steps in
    omega (arith, before, one)

pub script-many : (n : ℕ) (driver after : Driver) → CyclesMany n driver after → after.script ≡ driver.script
script-many zero driver after same = ap (λ (d : Driver). d.script) same
script-many (suc n) driver after cycles = cycles.2.steps.script ∙ script-many n driver cycles.0 cycles.1

pub rings-many : (n : ℕ) (driver after : Driver) → CyclesMany n driver after → length after.rings ≡ length driver.rings
rings-many zero driver after same = ap (λ (d : Driver). length d.rings) same
rings-many (suc n) driver after cycles = cycles.2.steps.as_many ∙ rings-many n driver cycles.0 cycles.1

pub disks-many : (n : ℕ) (driver after : Driver) → CyclesMany n driver after → length after.disks ≡ length driver.disks
disks-many zero driver after same = ap (λ (d : Driver). length d.disks) same
disks-many (suc n) driver after cycles = cycles.2.steps.as_many_disks ∙ disks-many n driver cycles.0 cycles.1

pub Fits-many : (n : ℕ) (driver after : Driver) (course : Course) → CyclesMany n driver after → Fits after course → Fits driver course
Fits-many zero driver after course same fits = subst (λ (d : Driver). Fits d course) same fits
Fits-many (suc n) driver after course cycles fits = Fits-many n driver cycles.0 course cycles.1 (Fits-earlier cycles.0 after course cycles.2.steps fits)

none-new : (P : Overrun → Type 0) → All P []
none-new P k d h = absurd (none_below h)

looks-put : (n recorder : ℕ) (active : Bool) (samples : List ℤ) (ring ring_after : Sending) (losses losses_after : List Overrun) → PutsOne (n + 1) recorder active samples ring ring_after losses losses_after
    → LooksOn n (suc n) ring ring_after losses losses_after
looks-put n recorder active samples ring ring_after losses losses_after (Idle idle same none) =
    let least : ring_after.least ≡ ring.least = ap (λ (r : Sending). r.least) same in
    record { least = omega (arith, least); more = []; more_is = none ∙ sym (append-nil losses); looks = none-new (LooksBehind n (suc n) ring.least) }
looks-put n recorder active samples ring ring_after losses losses_after (Went look on puts none) =
    let least : ring_after.least ≡ look = ap (λ (r : Sending). r.least) puts.after_is in
    record { least = omega (arith, least, puts.least); more = []; more_is = none ∙ sym (append-nil losses); looks = none-new (LooksBehind n (suc n) ring.least) }
looks-put n recorder active samples ring ring_after losses losses_after (Lacked look on full more) =
    let least : ring_after.least ≡ look = ap (λ (r : Sending). r.least) full.after_is in
    let overrun : Overrun = record { recorder = recorder; cycle = n + 1; sent = length ring.put; taken = look } in
    record {
      least = omega (arith, least, full.least);
      more = overrun ∷ [];
      more_is = more;
      looks = All-push (LooksBehind n (suc n) ring.least) [] overrun (none-new (LooksBehind n (suc n) ring.least)) (record { behind = omega arith; within = omega arith; look = full.least });
    }

-- one stretch of cycles behind another
looks-both : (first mid last : ℕ) (ring between after : Sending) (losses losses_between losses_after : List Overrun) → first ≤ mid → mid ≤ last
    → LooksOn first mid ring between losses losses_between → LooksOn mid last between after losses_between losses_after → LooksOn first last ring after losses losses_after
looks-both first mid last ring between after losses losses_between losses_after low high one two = record {
  least = omega (arith, one.least, two.least);
  more = one.more ++ two.more;
  more_is = two.more_is ∙ ap (λ os. os ++ two.more) one.more_is ∙ append_assoc losses one.more two.more;
  looks = All-append (LooksBehind first last ring.least) one.more two.more
      (λ k d h. let l = one.looks k d h in record { behind = l.behind; within = omega (arith, l.within, high); look = l.look })
      (λ k d h. let l = two.looks k d h in record { behind = omega (arith, l.behind, low); within = l.within; look = omega (arith, l.look, one.least) });
}

pub looks_many : (n : ℕ) (driver after : Driver) (recorder : ℕ) (ring ring_after : Sending) → CyclesMany n driver after → slice_get driver.rings recorder ≡ Some ring → slice_get after.rings recorder ≡ Some ring_after
    → LooksOn (run driver) (run after) ring ring_after (overruns_on driver.overruns recorder) (overruns_on after.overruns recorder)
looks_many zero driver after recorder ring ring_after same here there =
    let ring_is : ring_after ≡ ring = same_Some ring_after ring (sym there ∙ ap (λ (d : Driver). slice_get d.rings recorder) same ∙ here) in
    let least : ring_after.least ≡ ring.least = ap (λ (r : Sending). r.least) ring_is in
    record {
      least = omega (arith, least);
      more = [];
      more_is = ap (λ (d : Driver). overruns_on d.overruns recorder) same ∙ sym (append-nil (overruns_on driver.overruns recorder));
      looks = none-new (LooksBehind (run driver) (run after) ring.least);
    }
looks_many (suc n) driver after recorder ring ring_after cycles here there =
    let between : Driver = cycles.0 in
    let mid = there_too driver.rings between.rings recorder ring (rings-many n driver between cycles.1) here in
    let before = looks_many n driver between recorder ring mid.0 cycles.1 here mid.1 in
    let one = looks-put (run between) recorder (has_tape (graph_now after) recorder) (block_in after recorder) mid.0 ring_after (overruns_on between.overruns recorder) (overruns_on after.overruns recorder)
    (cycles.2.steps.rings recorder mid.0 ring_after mid.1 there) in
    let now : run after ≡ suc (run between) = ran between after cycles.2.steps in
    let earlier : run between ≡ run driver + n = run-many n driver between cycles.1 in
    looks-both (run driver) (run between) (run after) ring mid.0 ring_after (overruns_on driver.overruns recorder) (overruns_on between.overruns recorder) (overruns_on after.overruns recorder)
    (omega (arith, earlier)) (omega (arith, now)) before
    (subst (λ last. LooksOn (run between) last mid.0 ring_after (overruns_on between.overruns recorder) (overruns_on after.overruns recorder)) (sym now) one)
