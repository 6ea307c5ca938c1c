-- What a cycle of a sound session missed.
--     no-losses      in a freewheel cycle no recorder, for its ring is empty
--     MissesInRun-cycled      so overruns and underruns came in `run` cycles alone
use Rattle.std.proofs.Common.{◌≡◌, ℕ, ◌+◌, ◌<◌, ◌≤◌, ◌==◌, Bool, true, false, cond, List, [], ◌∷◌, ◌++◌, length, All, ℤ, refl, sym, ◌∙◌, ap, subst, arith, eq-eqb}
use Rattle.std.proofs.lemmas.List.{length-append}
use Rattle.std.proofs.lemmas.List.Elements.{All-append, All-head, filter-append}
use Rattle.jack_types.specs.declared.replies.Overrun.{Overrun}
use Rattle.driver_words.specs.Rings.{Sending}
use Rattle.run_laws.specs.driver_laws.specs.Cycling.{Idle, Lacked, PutsOne, StepsOnce, Went}
use Rattle.run_laws.specs.driver_laws.specs.Drivers.{block_in, graph_now, has_tape, overruns_on, run, turn_of}
use Rattle.run_laws.specs.driver_laws.proofs.PlaceLemmas.{there_too}
use Rattle.run_laws.specs.Runs.{MissesInRun}
use Rattle.run_laws.specs.Sessions.{Session}
use Rattle.run_laws.proofs.PlaceLemmas.{some_at}
use Rattle.disk_runs.specs.Rests.{AreFilled}
use Rattle.disk_runs.proofs.MissLemmas.{in-run}
use Rattle.serial_laws.specs.Steps.{AreEmpty, IsSound}
use Rattle.serial_laws.proofs.EachLemmas.{at-place}

-- a ring that is empty takes a block, where it has room for one
none-lost : (k recorder : ℕ) (active : Bool) (samples : List ℤ) (before after : Sending) (losses losses_after : List Overrun) → before.least ≡ length before.put → 0 < before.capacity
    → PutsOne k recorder active samples before after losses losses_after → losses_after ≡ losses
none-lost k recorder active samples before after losses losses_after empty room (Idle idle same none) = none
none-lost k recorder active samples before after losses losses_after empty room (Went look on puts none) = none
none-lost k recorder active samples before after losses losses_after empty room (Lacked look on full more) =
    absurd (omega (arith, empty, room, full.least, full.full))

nothing : {X : Type 0} (xs : List X) → length xs ≡ 0 → xs ≡ []
nothing [] none = refl
nothing (x ∷ xs) none = absurd (omega (arith, none))

-- overruns of recorders of which none has one are none
none-of : (count : ℕ) (overruns : List Overrun) → All (λ (overrun : Overrun). overrun.recorder < count) overruns → ((recorder : ℕ) → recorder < count → overruns_on overruns recorder ≡ []) → overruns ≡ []
none-of count [] own none = refl
none-of count (overrun ∷ overruns) own none =
    absurd (go (overrun.recorder == overrun.recorder) (eq-eqb overrun.recorder overrun.recorder refl) (none overrun.recorder (All-head (λ (o : Overrun). o.recorder < count) overrun overruns own)))
  where
    go : (b : Bool) → b ≡ true → cond b (overrun ∷ overruns_on overruns overrun.recorder) (overruns_on overruns overrun.recorder) ≡ [] → ⊥
    go true e q = cc
    go false e q = cc

-- overruns of the cycle, where all is kept of those before
more-lost : (before more after : List Overrun) (recorder : ℕ) → after ≡ before ++ more → overruns_on after recorder ≡ overruns_on before recorder → overruns_on more recorder ≡ []
more-lost before more after recorder is same =
    let parts : overruns_on after recorder ≡ overruns_on before recorder ++ overruns_on more recorder =
    ap (λ overruns. overruns_on overruns recorder) is ∙ filter-append (λ (overrun : Overrun). overrun.recorder == recorder) before more in
    let long : length (overruns_on after recorder) ≡ length (overruns_on before recorder) + length (overruns_on more recorder) = ap length parts ∙ length-append (overruns_on before recorder) (overruns_on more recorder) in
    let stays : length (overruns_on after recorder) ≡ length (overruns_on before recorder) = ap length same in
    nothing (overruns_on more recorder) (omega (arith, long, stays))

module _ (session after : Session) (sound : IsSound session) (steps : StepsOnce session.driver after.driver) where
  pub no-losses : AreEmpty session → steps.overruns ≡ []
  no-losses empty = none-of (length session.driver.rings) steps.overruns (λ k d low. (steps.overruns_now k d low).1) (λ recorder low.
      let here = some_at session.driver.rings recorder low in
      let there = there_too session.driver.rings after.driver.rings recorder here.0 steps.as_many here.1 in
      let least : here.0.least ≡ length here.0.put = at-place (λ (ring : Sending). ring.least ≡ length ring.put) session.driver.rings recorder here.0 empty here.1 in
      let capacity : here.0.capacity ≡ session.script.header.ring = at-place (λ (ring : Sending). ring.capacity ≡ session.script.header.ring) session.driver.rings recorder here.0 sound.one.capacity here.1 in
      let some : 1 ≤ session.script.header.ring = sound.one.lawful.header.ring.0 in
      more-lost session.driver.overruns steps.overruns after.driver.overruns recorder steps.more_overruns
      (none-lost (run session.driver + 1) recorder (has_tape (graph_now after.driver) recorder) (block_in after.driver recorder) here.0 there.0
      (overruns_on session.driver.overruns recorder) (overruns_on after.driver.overruns recorder) least (omega (arith, capacity, some)) (steps.rings recorder here.0 there.0 here.1 there.1)))

  pub MissesInRun-cycled : ((turn_of session.script (run session.driver + 1)).is_freewheel ≡ true → AreEmpty session × AreFilled session) → MissesInRun (record session { driver = after.driver })
  MissesInRun-cycled full = record {
    overruns = subst (All InRun) (sym steps.more_overruns) (All-append InRun session.driver.overruns steps.overruns sound.misses.overruns (now (turn_of session.script (run session.driver + 1)).is_freewheel refl));
    underruns = in-run session after.driver sound.one steps sound.misses (λ is. (full is).1);
  }
    where
      InRun : Overrun → Type 0
      InRun overrun = (turn_of session.script overrun.cycle).is_freewheel ≡ false

      now : (freewheel : Bool) → (turn_of session.script (run session.driver + 1)).is_freewheel ≡ freewheel → All InRun steps.overruns
      now true is = subst (All InRun) (sym (no-losses (full is).0)) (λ k d low. absurd (omega (arith, low)))
      now false is = λ k d low. ap (λ cycle. (turn_of session.script cycle).is_freewheel) (steps.overruns_now k d low).0 ∙ is
