-- What a cycle leaves of the disks, and what it misses.
--     same-end      a get leaves the ring the same one
--     pairs-stepped      the ends are of one ring
--     own-stepped      its underruns are of the script's disks
--     in-run      and of a `run` cycle, where the rings are filled before a freewheel cycle
use Rattle.std.proofs.Common.{◌≡◌, ℕ, ◌+◌, ◌<◌, ◌≤◌, ◌==◌, Bool, true, false, cond, List, [], ◌∷◌, ◌++◌, length, get_or, slice_get, All, Some, refl, sym, ◌∙◌, ap, subst, arith, eq-eqb}
use Rattle.std.proofs.lemmas.List.{length-append}
use Rattle.std.proofs.lemmas.List.Elements.{All-append, All-head, filter-append}
use Rattle.jack_types.specs.declared.replies.Underrun.{Underrun}
use Rattle.driver_words.specs.Rings.{Getting, IsPair}
use Rattle.disk_player.specs.Playing.{Playing}
use Rattle.disk_turns.proofs.SegmentLemmas.{not-missed}
use Rattle.driver_laws.specs.Cycling.{GetsOne, Heard, Missed, Over, Silent, StepsOnce}
use Rattle.driver_laws.specs.Drivers.{Driver, graph_now, has_disk, run, turn_of, underruns_on}
use Rattle.driver_laws.proofs.PlaceLemmas.{there_too}
use Rattle.run_laws.specs.Runs.{MissesInRun}
use Rattle.run_laws.specs.Sessions.{IsOne, Session}
use Rattle.run_laws.proofs.PlaceLemmas.{some_at}
use Rattle.disk_runs.specs.Rests.{AreFilled}
use Rattle.disk_runs.proofs.PlaceLemmas.{as-many}

-- a get leaves the ring the same one
pub record IsSameEnd (before after : Getting) : Type 0 where
  pub table : after.table ≡ before.table
  pub samples : after.samples ≡ before.samples
  pub most : after.most ≡ before.most

pub same-end : (k disk : ℕ) (active : Bool) (got after : Getting) (misses misses_after : List Underrun) → GetsOne k disk active got after misses misses_after → IsSameEnd got after
same-end k disk active got after misses misses_after (Silent idle same none) = record {
  table = ap (λ (g : Getting). g.table) same;
  samples = ap (λ (g : Getting). g.samples) same;
  most = ap (λ (g : Getting). g.most) same;
}
same-end k disk active got after misses misses_after (Heard one found on gets none) = record {
  table = ap (λ (g : Getting). g.table) gets.3;
  samples = ap (λ (g : Getting). g.samples) gets.3;
  most = ap (λ (g : Getting). g.most) gets.3;
}
same-end k disk active got after misses misses_after (Over one found on gets none) = record {
  table = ap (λ (g : Getting). g.table) gets.2;
  samples = ap (λ (g : Getting). g.samples) gets.2;
  most = ap (λ (g : Getting). g.most) gets.2;
}
same-end k disk active got after misses misses_after (Missed one found on gets more) = record {
  table = ap (λ (g : Getting). g.table) gets.6;
  samples = ap (λ (g : Getting). g.samples) gets.6;
  most = ap (λ (g : Getting). g.most) gets.6;
}

-- an empty list has no item
nothing : {X : Type 0} (xs : List X) → length xs ≡ 0 → xs ≡ []
nothing [] none = refl
nothing (x ∷ xs) none = absurd (omega (arith, none))

-- underruns of disks of which none has one are none
none-of : (count : ℕ) (underruns : List Underrun) → All (λ (underrun : Underrun). underrun.disk < count) underruns → ((disk : ℕ) → disk < count → underruns_on underruns disk ≡ []) → underruns ≡ []
none-of count [] own none = refl
none-of count (underrun ∷ underruns) own none =
    absurd (go (underrun.disk == underrun.disk) (eq-eqb underrun.disk underrun.disk refl) (none underrun.disk (All-head (λ (u : Underrun). u.disk < count) underrun underruns own)))
  where
    go : (b : Bool) → b ≡ true → cond b (underrun ∷ underruns_on underruns underrun.disk) (underruns_on underruns underrun.disk) ≡ [] → ⊥
    go true e q = cc
    go false e q = cc

-- underruns of the cycle, where all is kept of those before
more-missed : (before more after : List Underrun) (disk : ℕ) → after ≡ before ++ more → underruns_on after disk ≡ underruns_on before disk → underruns_on more disk ≡ []
more-missed before more after disk is same =
    let parts : underruns_on after disk ≡ underruns_on before disk ++ underruns_on more disk =
    ap (λ underruns. underruns_on underruns disk) is ∙ filter-append (λ (underrun : Underrun). underrun.disk == disk) before more in
    let size : length (underruns_on after disk) ≡ length (underruns_on before disk) + length (underruns_on more disk) = ap length parts ∙ length-append (underruns_on before disk) (underruns_on more disk) in
    let stays : length (underruns_on after disk) ≡ length (underruns_on before disk) = ap length same in
    nothing (underruns_on more disk) (omega (arith, size, stays))

-- a cycle of a driver misses blocks of its own disks
pub own-more : (count : ℕ) (driver after : Driver) → StepsOnce driver after → length driver.disks ≡ count → All (λ (underrun : Underrun). underrun.disk < count) driver.underruns → All (λ (underrun : Underrun). underrun.disk < count) after.underruns
own-more count driver after steps many own =
    subst (All OfDisks) (sym steps.more_underruns) (All-append OfDisks driver.underruns steps.underruns own
    (λ k d low. subst (λ n. (get_or steps.underruns k d).disk < n) many (steps.underruns_now k d low).1))
  where
    OfDisks : Underrun → Type 0
    OfDisks underrun = underrun.disk < count

module _ (session : Session) (after : Driver) (one : IsOne session) (steps : StepsOnce session.driver after) where
  pub pairs-stepped : (disk : ℕ) (player : Playing) (got : Getting) → slice_get session.players disk ≡ Some player → slice_get after.disks disk ≡ Some got → IsPair player.sending got
  pairs-stepped disk player got here there =
      let old : (old : Getting) × (slice_get session.driver.disks disk ≡ Some old) = there_too after.disks session.driver.disks disk got (sym steps.as_many_disks) there in
      let pair : IsPair player.sending old.0 = one.disk_pairs disk player old.0 here old.1 in
      let same : IsSameEnd old.0 got = same-end (run session.driver + 1) disk (has_disk (graph_now after) disk) old.0 got (underruns_on session.driver.underruns disk) (underruns_on after.underruns disk) (steps.disks disk old.0 got old.1 there) in
      record { one = pair.one ∙ sym same.table; same_samples = pair.same_samples ∙ sym same.samples; same_most = pair.same_most ∙ sym same.most }

  pub own-stepped : All (λ (underrun : Underrun). underrun.disk < length session.script.header.disks) after.underruns
  own-stepped = own-more (length session.script.header.disks) session.driver after steps (as-many session one) one.own_disks

  -- no block is missing where the rings are filled
  none-missing : AreFilled session → steps.underruns ≡ []
  none-missing filled = none-of (length session.driver.disks) steps.underruns (λ k d low. (steps.underruns_now k d low).1) (λ disk low.
      let here = some_at session.driver.disks disk low in
      let there = there_too session.driver.disks after.disks disk here.0 steps.as_many_disks here.1 in
      let some : 1 ≤ session.script.header.ring = one.lawful.header.ring.0 in
      more-missed session.driver.underruns steps.underruns after.underruns disk steps.more_underruns
      (not-missed session.script.header.ring (run session.driver + 1) disk (has_disk (graph_now after) disk) here.0 there.0
      (underruns_on session.driver.underruns disk) (underruns_on after.underruns disk) (omega (arith, some)) (filled disk here.0 here.1) (steps.disks disk here.0 there.0 here.1 there.1)))

  pub in-run : MissesInRun session → ((turn_of session.script (run session.driver + 1)).is_freewheel ≡ true → AreFilled session) → All (λ (underrun : Underrun). (turn_of session.script underrun.cycle).is_freewheel ≡ false) after.underruns
  in-run misses filled =
      subst (All InRun) (sym steps.more_underruns) (All-append InRun session.driver.underruns steps.underruns misses.underruns (now (turn_of session.script (run session.driver + 1)).is_freewheel refl))
    where
      InRun : Underrun → Type 0
      InRun underrun = (turn_of session.script underrun.cycle).is_freewheel ≡ false

      now : (freewheel : Bool) → (turn_of session.script (run session.driver + 1)).is_freewheel ≡ freewheel → All InRun steps.underruns
      now true is = subst (All InRun) (sym (none-missing (filled is))) (λ k d low. absurd (omega (arith, low)))
      now false is = λ k d low. ap (λ cycle. (turn_of session.script cycle).is_freewheel) (steps.underruns_now k d low).0 ∙ is
