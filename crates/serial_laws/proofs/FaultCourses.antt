-- The driver behind a cycle of a session that failed, and the rings before it.
--     IsSerialSoFar-stepped      serial mode brought the driver so far
--     HasMetOthers-emptied      what leaves the rings changes nothing of what is kept
use Rattle.std.proofs.Common.{◌≡◌, ℕ, ◌<◌, Bool, true, false, List, length, take, All, refl, sym, ◌∙◌, ap, subst, arith}
use Rattle.std.proofs.lemmas.Option.{same_Some, slice_get_within}
use Rattle.session_model.specs.Explanations.{Given}
use Rattle.session_model.specs.Grammar.{IsScript}
use Rattle.session_model.specs.Histories.{accepted}
use Rattle.session_model.specs.Scripts.{Script, turns}
use Rattle.session_model.specs.Serial.{serial_history, serial_numbers}
use Rattle.graph_word.specs.declared.view.TakenRow.{TakenRow}
use Rattle.graph_word.specs.Publications.{HaveMet, IsFront}
use Rattle.driver_words.specs.Rings.{Getting, Sending}
use Rattle.driver_words.specs.Tapes.{Tape}
use Rattle.run_laws.specs.driver_laws.specs.Cycling.{HasMetOthers, RingStays, StepsOnce}
use Rattle.run_laws.specs.driver_laws.specs.Drivers.{Driver, run}
use Rattle.run_laws.specs.Sessions.{IsFor, Session}
use Rattle.disk_runs.specs.Counts.{IsSerialSoFar}
use Rattle.serial_laws.specs.Steps.{AreExact, Emptied, GiveUp}
use Rattle.serial_laws.proofs.FaultLemmas.{AreFilled, AreFilled-gave, RingStays-gave, reel-of}
use Rattle.serial_laws.proofs.PublishedLemmas.{HasNext, SerialIsLegal, numbers-stepped, rows-stepped}

-- ---- a driver that took one cycle more

-- behind a cycle that took what the desk has published its numbers and rows are those of serial mode
pub IsSerialSoFar-stepped : SerialIsLegal → (given : Given) (session : Session) → IsFor session given → IsScript session.script → AreExact session → HasNext session → run session.driver < length (turns session.script)
    → (before driver : Driver) → StepsOnce before driver → before.reading ≡ session.driver.reading → before.numbers ≡ session.driver.numbers → HaveMet session.desk.publishing driver.reading → IsSerialSoFar given driver
IsSerialSoFar-stepped legal given session own lawful exact next left before driver steps reading numbers met = record {
  numbers = numbers-stepped session exact next before driver steps reading numbers met legal lawful left ∙ ap (λ (s : Script). take (run driver) (serial_numbers s)) (sym own.script);
  rows = subst (λ (s : Script). All (λ (row : TakenRow). IsFront row.changes (accepted (serial_history s))) driver.reading.rows) (sym own.script)
      (rows-stepped session exact next before driver steps reading numbers met);
}

-- ---- what leaves the rings changes nothing of what is kept

HasMetOthers-gave : (most : ℕ) (session after : Session) → AreFilled session → GiveUp most session after → HasMetOthers session.driver after.driver
HasMetOthers-gave most session after filled gives = subst (λ d. HasMetOthers session.driver d) (sym (ap (λ (s : Session). s.driver) gives.same)) (record {
  rows = refl;
  rings = λ recorder ring there.
      let filled_after : AreFilled after = AreFilled-gave most session after gives filled in
      let h : recorder < length after.driver.rings = slice_get_within after.driver.rings recorder ring there in
      let was = reel-of session filled recorder (omega (arith, h, gives.rings, filled.rings)) in
      let now = reel-of after filled_after recorder (omega (arith, h, filled_after.rings)) in
      (was.0.ring, was.1.ring, subst (RingStays was.0.ring) (same_Some now.0.ring ring (sym now.1.ring ∙ there)) (RingStays-gave most was.0 now.0 (gives.each recorder was.0 now.0 was.1 now.1)));
  disks = λ disk got there. (got, there, record { samples = refl; got = refl; done = refl });
  back = λ disk got there. (got, there, record { samples = refl; got = refl; done = refl });
  same = refl;
})

pub HasMetOthers-emptied : (freewheel : Bool) (session after : Session) → AreFilled session → Emptied freewheel session after → HasMetOthers session.driver after.driver
HasMetOthers-emptied true session after filled gives = HasMetOthers-gave session.script.header.ring session after filled gives
HasMetOthers-emptied false session after filled same = subst (λ (s : Session). HasMetOthers session.driver s.driver) (sym same) (record {
  rows = refl;
  rings = λ recorder ring there. (ring, there, record { put = refl; capacity = refl; samples = refl; most = refl; least = omega arith });
  disks = λ disk got there. (got, there, record { samples = refl; got = refl; done = refl });
  back = λ disk got there. (got, there, record { samples = refl; got = refl; done = refl });
  same = refl;
})

-- a session with other rings, and what is behind them
abbrev pub with_lists : Session → List Sending → List Getting → List Tape → List ℕ → Session
with_lists session rings getting tapes counts = record session { driver = record session.driver { rings = rings }; getting = getting; tapes = tapes; counts = counts }

pub emptied-same : (freewheel : Bool) (session after : Session) → Emptied freewheel session after → after ≡ with_lists session after.driver.rings after.getting after.tapes after.counts
emptied-same true session after gives = gives.same
emptied-same false session after same = subst (λ s. s ≡ with_lists session s.driver.rings s.getting s.tapes s.counts) (sym same) refl
