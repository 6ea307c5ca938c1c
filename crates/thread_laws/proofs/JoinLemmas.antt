-- What the join of a segment leaves of the recorders' rings.
--     IsGot-served      in a `run` segment a get of each recorder answered the end
--     Wheels-many      in a freewheel segment each ring is empty, and there are no overruns and no underruns
use Rattle.std.proofs.Common.{◌≡◌, inl, inr, ℕ, zero, suc, ◌<◌, List, ◌++◌, length, map, refl, sym, ◌∙◌, ap, subst, arith, le_refl, take_all}
use Rattle.std.proofs.lemmas.List.{append-nil, length-map}
use Rattle.std.proofs.lemmas.Option.{same_Some, slice_get_within}
use Rattle.jack_types.specs.declared.replies.Overrun.{Overrun}
use Rattle.jack_types.specs.declared.replies.Underrun.{Underrun}
use Rattle.session_model.specs.Explanations.{Given}
use Rattle.driver_words.specs.Rings.{Getting, Sending}
use Rattle.driver_laws.specs.Cycling.{StepsOnce}
use Rattle.driver_laws.proofs.FitLemmas.{Fits-earlier}
use Rattle.driver_laws.proofs.MeetingLemmas.{Fits-met, Keeps-met}
use Rattle.recorder_files.specs.Recorders.{GivesUp, Reel}
use Rattle.run_laws.specs.Runs.{PlaysAll}
use Rattle.run_laws.specs.Sessions.{Session}
use Rattle.disk_runs.specs.Readings.{DisksRead}
use Rattle.disk_runs.specs.Rests.{AreFilled, DisksTell}
use Rattle.disk_runs.proofs.AloneLemmas.{PlaysAll-alone}
use Rattle.disk_runs.proofs.FileLemmas.{PlaysAll-read, PlaysAll-told}
use Rattle.disk_runs.proofs.PlaceLemmas.{long}
use Rattle.disk_runs.proofs.StepLemmas.{tried-read, tried-told}
use Rattle.serial_laws.specs.Steps.{AreEmpty, GiveUp, IsSettled, IsSound, KeepsOwn}
use Rattle.serial_laws.proofs.CycledLemmas.{IsSound-cycled}
use Rattle.serial_laws.proofs.EachLemmas.{at-place}
use Rattle.serial_laws.proofs.GiveLemmas.{AreEmpty-gave, DisksTell-gave, IsSound-gave, many-rings, passed, reel_at}
use Rattle.serial_laws.proofs.KeepLemmas.{KeepsOwn-cycled, KeepsOwn-gave, KeepsOwn-read, KeepsOwn-told}
use Rattle.serial_laws.proofs.MissLemmas.{no-losses}
use Rattle.serial_laws.proofs.ReadLemmas.{AreEmpty-read, AreFilled-long, DisksTell-told, IsSound-read, IsSound-told}
use Rattle.thread_laws.specs.Segments.{CycledMany, RingsEnded, Served, WheeledMany, WheeledOnce, with_end}
use Rattle.thread_laws.proofs.DiskLemmas.{LeavesRings-tried}
use Rattle.thread_laws.proofs.LookLemmas.{rings-many}
use Rattle.thread_laws.proofs.MissLemmas.{no-misses}
use Rattle.thread_laws.proofs.PassLemmas.{HasEach, IsGot}
use Rattle.thread_laws.proofs.RestLemmas.{LeavesLosses, LeavesLosses-both, LeavesLosses-turned}

-- ---- a `run` segment

pub HasEach-cycled : (many : ℕ) (session after : Session) → CycledMany many session after → HasEach session → HasEach after
HasEach-cycled many session after cycled each =
    let rings = rings-many many session.driver after.driver cycled.cycles in
    record {
      getting = ap (λ (s : Session). length s.getting) cycled.same ∙ each.getting ∙ sym rings;
      tapes = ap (λ (s : Session). length s.tapes) cycled.same ∙ each.tapes ∙ sym rings;
      counts = ap (λ (s : Session). length s.counts) cycled.same ∙ each.counts ∙ sym rings;
    }

pub HasEach-ended : (session after : Session) → RingsEnded session after → HasEach session → HasEach after
HasEach-ended session after ended each =
    let rings : length after.driver.rings ≡ length session.driver.rings = ap (λ (s : Session). length s.driver.rings) ended.same ∙ length-map session.driver.rings with_end in
    record {
      getting = ap (λ (s : Session). length s.getting) ended.same ∙ each.getting ∙ sym rings;
      tapes = ap (λ (s : Session). length s.tapes) ended.same ∙ each.tapes ∙ sym rings;
      counts = ap (λ (s : Session). length s.counts) ended.same ∙ each.counts ∙ sym rings;
    }

pub LeavesLosses-ended : (session after : Session) → RingsEnded session after → LeavesLosses session after
LeavesLosses-ended session after ended =
    LeavesLosses-turned session after session.driver.reading.least session.driver.set (map with_end session.driver.rings) (ap (λ (s : Session). s.script) ended.same) (ap (λ (s : Session). s.driver) ended.same)

pub LeavesLosses-served : (session after : Session) → Served session after → LeavesLosses session after
LeavesLosses-served session after served =
    LeavesLosses-turned session after session.driver.reading.least session.driver.set session.driver.rings (ap (λ (s : Session). s.script) served.same) (ap (λ (s : Session). s.driver) served.same)

-- the task of each recorder ended where a get answered the end
pub IsGot-served : (session after : Session) → HasEach session → Served session after → IsGot after
IsGot-served session after each served recorder ring got here there =
    let low : recorder < length after.getting = slice_get_within after.getting recorder got there in
    let rings : length after.driver.rings ≡ length session.driver.rings = ap (λ (s : Session). length s.driver.rings) served.same in
    let getting : length after.getting ≡ length session.driver.rings = served.getting ∙ each.getting in
    let tapes : length after.tapes ≡ length session.driver.rings = served.tapes ∙ each.tapes in
    let counts : length after.counts ≡ length session.driver.rings = served.counts ∙ each.counts in
    let reel = reel_at session recorder (omega (arith, low, getting)) (omega (arith, low, getting, each.getting)) (omega (arith, low, getting, each.tapes)) (omega (arith, low, getting, each.counts)) in
    let reel_after = reel_at after recorder (omega (arith, low, getting, rings)) low (omega (arith, low, getting, tapes)) (omega (arith, low, getting, counts)) in
    let serves = served.each recorder reel.0 reel_after.0 reel.1 reel_after.1 in
    inl (ap (λ (g : Getting). g.done) (same_Some got reel_after.0.getting (sym there ∙ reel_after.1.getting)) ∙ serves.serves.done)

-- ---- a freewheel segment

pub LeavesLosses-gave : (most : ℕ) (session after : Session) → GiveUp most session after → LeavesLosses session after
LeavesLosses-gave most session after give =
    LeavesLosses-turned session after session.driver.reading.least session.driver.set after.driver.rings (ap (λ (s : Session). s.script) give.same) (ap (λ (s : Session). s.driver) give.same)

-- where the producer knows that all left, all did
gave-all : (most : ℕ) (before after : Reel) → GivesUp most before after → after.ring.least ≡ length after.ring.put → after.getting.got ≡ after.ring.put
gave-all most before after gives empty =
    let got : after.getting.got ≡ gives.written.got = ap (λ (g : Getting). g.got) gives.second.getting_is in
    let put : after.ring.put ≡ gives.ring_met.put = ap (λ (r : Sending). r.put) gives.second.sending_is in
    let least : after.ring.least ≡ length gives.written.got = ap (λ (r : Sending). r.least) gives.second.sending_is in
    let long : length gives.ring_met.put ≡ length after.ring.put = sym (ap length put) in
    got ∙ gives.second.met.front ∙ take_all (length gives.written.got) gives.ring_met.put (omega (arith, least, empty, long)) ∙ sym put

-- what such cycles leave
pub record Wheels (session after : Session) : Type 0 where
  pub settled : IsSettled after
  pub losses : LeavesLosses session after
  pub got : IsGot session → IsGot after
  pub keeps : (given : Given) → KeepsOwn given session → KeepsOwn given after
  pub plays : (given : Given) → PlaysAll given session → PlaysAll given after

-- a step of one cycle
module _ (session after : Session) (settled : IsSettled session) (wheeled : WheeledOnce session after) where
  abbrev ring : ℕ
  ring = session.script.header.ring

  abbrev emptied : Session
  emptied = wheeled.emptied

  abbrev read : Session
  read = wheeled.read

  abbrev cycled : Session
  cycled = wheeled.cycled

  abbrev told : Session
  told = wheeled.told

  sound-emptied : IsSound emptied
  sound-emptied = IsSound-gave session settled.sound ring emptied wheeled.empties

  settled-emptied : IsSettled emptied
  settled-emptied = record { sound = sound-emptied; tells = DisksTell-gave ring session emptied wheeled.empties settled.tells }

  ring-emptied : emptied.script.header.ring ≡ ring
  ring-emptied = ap (λ (s : Session). s.script.header.ring) wheeled.empties.same

  reads : DisksRead emptied.script.header.ring emptied read
  reads = subst (λ n. DisksRead n emptied read) (sym ring-emptied) wheeled.reads

  sound-read : IsSound read
  sound-read = IsSound-read ring emptied read sound-emptied wheeled.reads

  empty-read : AreEmpty read
  empty-read = AreEmpty-read ring emptied read wheeled.reads (AreEmpty-gave session settled.sound ring emptied wheeled.empties (le_refl ring))

  filled-read : AreFilled read
  filled-read = AreFilled-long emptied read settled-emptied reads

  sound-cycled : IsSound cycled
  sound-cycled = IsSound-cycled read cycled sound-read (λ is. (empty-read, filled-read)) wheeled.cycles

  sound-told : IsSound told
  sound-told = IsSound-told cycled told sound-cycled wheeled.tells

  ring-told : told.script.header.ring ≡ ring
  ring-told =
      ap (λ (s : Session). s.script.header.ring) wheeled.tells.same ∙ ap (λ (s : Session). s.script.header.ring) wheeled.cycles.same
      ∙ ap (λ (s : Session). s.script.header.ring) wheeled.reads.same ∙ ring-emptied

  sound-after : IsSound after
  sound-after = IsSound-gave told sound-told ring after wheeled.drains

  tells-after : DisksTell after
  tells-after = DisksTell-gave ring told after wheeled.drains (DisksTell-told cycled told wheeled.tells)

  empty-after : AreEmpty after
  empty-after = AreEmpty-gave told sound-told ring after wheeled.drains (omega (arith, ring-told))

  losses-read : LeavesLosses emptied read
  losses-read = (LeavesRings-tried ring emptied read (long emptied sound-emptied.one) (tried-read ring emptied read wheeled.reads)).losses

  -- the rings are empty and filled, so it missed no block
  losses-cycled : LeavesLosses read cycled
  losses-cycled =
      let steps : StepsOnce read.driver cycled.driver = wheeled.cycles.cycles.steps in record {
        overruns = steps.more_overruns ∙ ap (λ (os : List Overrun). read.driver.overruns ++ os) (no-losses read cycled sound-read steps empty-read) ∙ append-nil read.driver.overruns;
        underruns = steps.more_underruns ∙ ap (λ (us : List Underrun). read.driver.underruns ++ us) (no-misses read cycled.driver sound-read.one steps filled-read) ∙ append-nil read.driver.underruns;
        script = ap (λ (s : Session). s.script) wheeled.cycles.same;
        fits = λ course fits. Fits-earlier read.driver cycled.driver course steps fits;
      }

  losses-told : LeavesLosses cycled told
  losses-told = (LeavesRings-tried 0 cycled told (long cycled sound-cycled.one) (tried-told 0 cycled told wheeled.tells)).losses

  losses-after : LeavesLosses session after
  losses-after =
      LeavesLosses-both session told after
      (LeavesLosses-both session cycled told
      (LeavesLosses-both session read cycled
      (LeavesLosses-both session emptied read (LeavesLosses-gave ring session emptied wheeled.empties) losses-read) losses-cycled) losses-told)
      (LeavesLosses-gave ring told after wheeled.drains)

  got-after : IsGot after
  got-after recorder one got here there =
      let low : recorder < length after.driver.rings = slice_get_within after.driver.rings recorder one here in
      let p = passed told sound-told ring after wheeled.drains recorder (omega (arith, low, wheeled.drains.rings, many-rings told sound-told)) in
      let ring_is : one ≡ p.reel_after.ring = same_Some one p.reel_after.ring (sym here ∙ p.behind.ring) in
      let got_is : got ≡ p.reel_after.getting = same_Some got p.reel_after.getting (sym there ∙ p.behind.getting) in
      let least : p.reel_after.ring.least ≡ length p.reel_after.ring.put = at-place (λ (r : Sending). r.least ≡ length r.put) after.driver.rings recorder p.reel_after.ring empty-after p.behind.ring in
      inr (ap (λ (g : Getting). g.got) got_is ∙ gave-all ring p.reel p.reel_after p.gives least ∙ sym (ap (λ (r : Sending). r.put) ring_is))

  keeps-after : (given : Given) → KeepsOwn given session → KeepsOwn given after
  keeps-after given kept =
      let kept-emptied : KeepsOwn given emptied = KeepsOwn-gave Fits-met Keeps-met given ring session emptied settled.sound wheeled.empties kept in
      let kept-read : KeepsOwn given read = KeepsOwn-read Fits-met Keeps-met given ring emptied read sound-emptied wheeled.reads kept-emptied in
      let kept-cycled : KeepsOwn given cycled = KeepsOwn-cycled Fits-earlier given read cycled wheeled.cycles kept-read in
      let kept-told : KeepsOwn given told = KeepsOwn-told Fits-met Keeps-met given cycled told sound-cycled wheeled.tells kept-cycled in
      KeepsOwn-gave Fits-met Keeps-met given ring told after sound-told wheeled.drains kept-told

  plays-after : (given : Given) → PlaysAll given session → PlaysAll given after
  plays-after given plays =
      let plays-emptied : PlaysAll given emptied = PlaysAll-alone session emptied given (ap (λ (s : Session). s.players) wheeled.empties.same) plays in
      let plays-read : PlaysAll given read = PlaysAll-read ring emptied read given sound-emptied.one wheeled.reads plays-emptied in
      let plays-cycled : PlaysAll given cycled = PlaysAll-alone read cycled given (ap (λ (s : Session). s.players) wheeled.cycles.same) plays-read in
      let plays-told : PlaysAll given told = PlaysAll-told cycled told given sound-cycled.one wheeled.tells plays-cycled in
      PlaysAll-alone told after given (ap (λ (s : Session). s.players) wheeled.drains.same) plays-told

  Wheels-once : Wheels session after
  Wheels-once = record {
    settled = record { sound = sound-after; tells = tells-after };
    losses = losses-after;
    got = λ earlier. got-after;
    keeps = keeps-after;
    plays = plays-after;
  }

pub Wheels-many : (many : ℕ) (session after : Session) → IsSettled session → WheeledMany many session after → Wheels session after
Wheels-many zero session after settled same = subst (λ (s : Session). Wheels session s) (sym same) (record {
  settled = settled;
  losses = record { overruns = refl; underruns = refl; script = refl; fits = λ course fits. fits };
  got = λ got. got;
  keeps = λ given kept. kept;
  plays = λ given plays. plays;
})
Wheels-many (suc many) session after settled wheeled =
    let before : Wheels session wheeled.0 = Wheels-many many session wheeled.0 settled wheeled.1 in
    let one : Wheels wheeled.0 after = Wheels-once wheeled.0 after before.settled wheeled.2 in record {
      settled = one.settled;
      losses = LeavesLosses-both session wheeled.0 after before.losses one.losses;
      got = λ got. one.got (before.got got);
      keeps = λ given kept. one.keeps given (before.keeps given kept);
      plays = λ given plays. one.plays given (before.plays given plays);
    }
