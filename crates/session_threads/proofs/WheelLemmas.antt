-- The cycles of a freewheel segment, one after another.
--     next-wheel      the next one is there
--     goes-once, goes-run      one of them
--     fails-once      one that failed
use Rattle.std.proofs.Common.{◌≡◌, ℕ, ◌+◌, ◌<◌, Bool, true, length, length-append, refl, sym, ◌∙◌, ap, subst, arith}
use Rattle.session_model.specs.Kinds.{Sound}
use Rattle.session_model.specs.Scripts.{Script, turns}
use Rattle.client_kinds.specs.Scores.{Score}
use Rattle.driver_laws.specs.Drivers.{run, turn_of}
use Rattle.session_works.specs.Drivers.{Gear, driver_of}
use Rattle.session_works.specs.Cycles.{AreNext}
use Rattle.session_works.specs.RunWords.{Session}
use Rattle.thread_laws.specs.Faults.{AtDraining as FailsAtDraining, AtEmptying as FailsAtEmptying, AtWheelCapture, AtWheelDisk, AtWheelPlayback, WheelFailed}
use Rattle.thread_laws.specs.Segments.{WheeledOnce}
use Rattle.session_works.specs.Turnings.{AtDisk, AtDraining, AtEmptying, AtRead, AtWrite, Fails, Goes}
use Rattle.session_works.proofs.TurningLemmas.{IsNext}

pub next-wheel : (sounding : Score → Sound) (first gear : Gear) (cycles t : ℕ) (freewheel : Bool) → AreNext cycles freewheel (driver_of sounding first) → t < cycles → run (driver_of sounding gear) ≡ run (driver_of sounding first) + t → gear.script ≡ first.script → gear.set ≡ first.set → IsNext sounding gear freewheel
next-wheel sounding first gear cycles t freewheel next low count script set =
    let place : run (driver_of sounding gear) + 1 ≡ run (driver_of sounding first) + t + 1 = omega (arith, count) in
    let left = next.left in
    record {
      left = subst (λ (s : Script). run (driver_of sounding gear) < length (turns s)) (sym script) (omega (arith, count, left, low));
      kind = (λ i. (turn_of (script i) (place i)).is_freewheel) ∙ next.kinds t low;
      period = (λ i. (turn_of (script i) (place i)).period) ∙ next.periods t low ∙ sym set;
    }

pub goes-once : (session after : Session) → Goes true session after → WheeledOnce session after
goes-once session after goes = record {
  emptied = goes.emptied;
  read = goes.read;
  cycled = goes.cycled;
  told = goes.told;
  empties = goes.empties;
  reads = goes.reads;
  cycles = goes.cycles;
  tells = goes.tells;
  drains = goes.drains;
}

pub goes-run : (session after : Session) → Goes true session after → run after.driver ≡ run session.driver + 1
goes-run session after goes =
    ap (λ (s : Session). run s.driver) goes.drains.same
    ∙ ap (λ (s : Session). run s.driver) goes.tells.same
    ∙ ap length goes.cycles.cycles.steps.numbers
    ∙ length-append goes.read.driver.numbers _
    ∙ ap (λ (s : Session). run s.driver + 1) goes.reads.same
    ∙ ap (λ (s : Session). run s.driver + 1) goes.empties.same

pub fails-once : (session after : Session) → Fails true session after → (kept : ℕ) × WheelFailed kept session after
fails-once session after (AtEmptying is breaks) = (run session.driver, FailsAtEmptying refl breaks)
fails-once session after (AtDisk emptied empties breaks) = (run session.driver, AtWheelDisk emptied refl empties breaks)
fails-once session after (AtRead emptied read failed empties reads fails same tells) = (run session.driver, AtWheelCapture emptied read failed refl empties reads fails same tells)
fails-once session after (AtWrite emptied read failed empties reads fails file same tells) = (run after.driver, AtWheelPlayback emptied read failed refl empties reads fails file same tells)
fails-once session after (AtDraining emptied read cycled told empties reads cycles tells breaks) = (run cycled.driver, FailsAtDraining emptied read cycled told refl empties reads cycles tells breaks)
