-- A cycle before which the disks' rings were filled.
--     no-misses      it misses no block
use Rattle.std.proofs.Common.{◌≡◌, ℕ, ◌+◌, ◌<◌, ◌≤◌, ◌==◌, Bool, true, false, cond, List, [], ◌∷◌, ◌++◌, length, All, refl, ◌∙◌, ap, arith, eq-eqb}
use Rattle.std.proofs.lemmas.List.{length-append}
use Rattle.std.proofs.lemmas.List.Elements.{All-head, filter-append}
use Rattle.jack_types.specs.declared.replies.Underrun.{Underrun}
use Rattle.driver_laws.specs.Cycling.{StepsOnce}
use Rattle.driver_laws.specs.Drivers.{Driver, graph_now, has_disk, run, underruns_on}
use Rattle.driver_laws.proofs.PlaceLemmas.{there_too}
use Rattle.run_laws.specs.Sessions.{IsOne, Session}
use Rattle.run_laws.proofs.PlaceLemmas.{some_at}
use Rattle.disk_runs.specs.Rests.{AreFilled}
use Rattle.disk_runs.specs.disk_turns.proofs.SegmentLemmas.{not-missed}

-- a list has its first underrun's disk's
some-on : (underrun : Underrun) (more : List Underrun) → 1 ≤ length (underruns_on (underrun ∷ more) underrun.disk)
some-on underrun more = go (underrun.disk == underrun.disk) (eq-eqb underrun.disk underrun.disk refl)
  where
    rest : List Underrun
    rest = underruns_on more underrun.disk

    go : (b : Bool) → b ≡ true → 1 ≤ length (cond b (underrun ∷ rest) rest)
    go true e = omega arith
    go false e = cc

module _ (session : Session) (after : Driver) (one : IsOne session) (steps : StepsOnce session.driver after) (filled : AreFilled session) where
  abbrev OfDisks : Underrun → Type 0
  OfDisks underrun = underrun.disk < length session.driver.disks

  -- each disk's underruns are those of before
  same-on : (disk : ℕ) → disk < length session.driver.disks → underruns_on after.underruns disk ≡ underruns_on session.driver.underruns disk
  same-on disk low =
      let here = some_at session.driver.disks disk low in
      let there = there_too session.driver.disks after.disks disk here.0 steps.as_many_disks here.1 in
      let some : 1 ≤ session.script.header.ring = one.lawful.header.ring.0 in
      not-missed session.script.header.ring (run session.driver + 1) disk (has_disk (graph_now after) disk) here.0 there.0
      (underruns_on session.driver.underruns disk) (underruns_on after.underruns disk) (omega (arith, some)) (filled disk here.0 here.1) (steps.disks disk here.0 there.0 here.1 there.1)

  pub no-misses : steps.underruns ≡ []
  no-misses = go steps.underruns refl (λ k d low. (steps.underruns_now k d low).1)
    where
      go : (more : List Underrun) → steps.underruns ≡ more → All OfDisks more → more ≡ []
      go [] is own = refl
      go (underrun ∷ more) is own =
          let disk : ℕ = underrun.disk in
          let low : disk < length session.driver.disks = All-head OfDisks underrun more own in
          let parts : underruns_on after.underruns disk ≡ underruns_on session.driver.underruns disk ++ underruns_on (underrun ∷ more) disk =
          ap (λ us. underruns_on us disk) (steps.more_underruns ∙ ap (λ us. session.driver.underruns ++ us) is) ∙ filter-append (λ (u : Underrun). u.disk == disk) session.driver.underruns (underrun ∷ more) in
          let size : length (underruns_on after.underruns disk) ≡ length (underruns_on session.driver.underruns disk) + length (underruns_on (underrun ∷ more) disk) =
          ap length parts ∙ length-append (underruns_on session.driver.underruns disk) (underruns_on (underrun ∷ more) disk) in
          let stays : length (underruns_on after.underruns disk) ≡ length (underruns_on session.driver.underruns disk) = ap length (same-on disk low) in
          absurd (omega (arith, size, stays, some-on underrun more))
