-- The disks behind a cycle of serial mode, also where it failed at the playback.
--     DisksCounted, SerialFits      what the laws of the disks say
--     Drives      a cycle of the driver, and what the rings of recorders and disks do around it
--     IsOne-driven, PlaysAll-driven, DisksSerial-driven      the parts belong together, the players go on, and the disks are counted
--     Fits-driven      so the course of serial mode fits the driver behind the cycle
--     DisksSerial-turned, PlaysAll-turned, Fits-turned      the same of a whole cycle
use Rattle.std.proofs.Common.{◌≡◌, suc, Bool, length, take, All, if◌then◌else◌, sym, ◌∙◌, ap, ap₂, subst, add-one}
use Rattle.session_model.specs.Explanations.{Given}
use Rattle.session_model.specs.Histories.{accepted}
use Rattle.session_model.specs.Scripts.{Script}
use Rattle.session_model.specs.Serial.{serial_history, serial_numbers}
use Rattle.graph_word.specs.declared.view.TakenRow.{TakenRow}
use Rattle.graph_word.specs.Publications.{IsFront}
use Rattle.run_laws.specs.driver_laws.specs.Cycling.{HasMetOthers, StepsOnce}
use Rattle.run_laws.specs.driver_laws.specs.Drivers.{Driver, run, turn_of}
use Rattle.run_laws.specs.driver_laws.specs.Keeping.{Fits}
use Rattle.run_laws.specs.Runs.{PlaysAll}
use Rattle.run_laws.specs.SerialRuns.{DisksSerial}
use Rattle.run_laws.specs.Sessions.{IsFor, IsOne, Session}
use Rattle.disk_runs.specs.Counts.{IsSerialSoFar, TurnsDisks}
use Rattle.disk_runs.specs.Readings.{DisksBroke, DisksRead, DisksTold}
use Rattle.disk_runs.proofs.AloneLemmas.{DisksSerial-alone, PlaysAll-alone}
use Rattle.disk_runs.proofs.FileLemmas.{PlaysAll-read, PlaysAll-told}
use Rattle.disk_runs.proofs.PartLemmas.{HasMetOthers-tried, IsFor-tried, IsOne-tried}
use Rattle.disk_runs.proofs.StepLemmas.{tried-read, tried-told}
use Rattle.serial_laws.specs.Faults.{serial_course_of}
use Rattle.serial_laws.specs.Steps.{AreExact, Emptied, IsSettled, Turned, most_blocks, most_filled}
use Rattle.serial_laws.proofs.CycledLemmas.{IsOne-cycled}
use Rattle.serial_laws.proofs.KeepLemmas.{FitsBefore}
use Rattle.serial_laws.proofs.ReelLemmas.{Disks, Lists, disks-emptied, disks-gave, disks-met, disks-rounded, disks_of, lists-emptied, lists-gave, lists-met, lists-rounded, lists-tried, lists_of}
use Rattle.serial_laws.proofs.TurnedLemmas.{Ready, is_next, ready}

-- a cycle, what the readers read before it, and the meeting behind it count as the stated turn
abbrev pub DisksCounted : Type 0
DisksCounted = (given : Given) (session after : Session) → IsOne session → IsFor session given → TurnsDisks given session after → IsSerialSoFar given after.driver → DisksSerial given session → DisksSerial given after

-- where the disks are counted, the course of serial mode fits
abbrev pub SerialFits : Type 0
SerialFits = (given : Given) (session : Session) → IsOne session → IsFor session given → IsSerialSoFar given session.driver → DisksSerial given session → Fits session.driver (serial_course_of given)

-- what serial mode takes is told by the session's script or by what was given
pub IsSerialSoFar-exact : (given : Given) (session : Session) → IsFor session given → AreExact session → IsSerialSoFar given session.driver
IsSerialSoFar-exact given session own exact = record {
  numbers = exact.numbers ∙ ap (λ (s : Script). take (run session.driver) (serial_numbers s)) (sym own.script);
  rows = subst (λ (s : Script). All (λ (row : TakenRow). IsFront row.changes (accepted (serial_history s))) session.driver.reading.rows) (sym own.script) exact.rows;
}

-- a cycle of the driver, be it that its playback failed, with what left the recorders' rings and was read of the disks before it, and what the ends of the disks' rings told behind it
pub record Drives (freewheel : Bool) (session emptied read cycled told : Session) : Type 0 where
  pub settled : IsSettled session
  pub is : is_next session freewheel
  pub empties : Emptied freewheel session emptied
  pub reads : DisksRead (most_filled session.script.header freewheel) emptied read
  pub steps : StepsOnce read.driver cycled.driver
  pub same : cycled ≡ record read { driver = cycled.driver }
  pub tells : DisksTold cycled told

module _ (freewheel : Bool) (session emptied read cycled told : Session) (drives : Drives freewheel session emptied read cycled told) where
  pub driven-ready : Ready session emptied read
  driven-ready = ready freewheel session emptied read drives.settled drives.is drives.empties drives.reads

  began : lists_of emptied ≡ lists_of session
  began = lists-emptied freewheel session emptied drives.empties

  pub began-read : lists_of read ≡ lists_of session
  began-read = lists-tried (most_filled session.script.header freewheel) emptied read (tried-read (most_filled session.script.header freewheel) emptied read drives.reads) ∙ began

  tried : DisksBroke 0 cycled told
  tried = tried-told 0 cycled told drives.tells

  pub IsOne-driven : IsOne cycled
  IsOne-driven = subst IsOne (sym drives.same) (IsOne-cycled read cycled driven-ready.sound drives.steps)

  pub IsOne-told : IsOne told
  IsOne-told = IsOne-tried 0 cycled told tried IsOne-driven

  pub HasMetOthers-told : HasMetOthers cycled.driver told.driver
  HasMetOthers-told = HasMetOthers-tried 0 cycled told tried IsOne-driven

  pub script-driven : cycled.script ≡ session.script
  script-driven = ap (λ (s : Session). s.script) drives.same ∙ ap (λ (l : Lists). l.script) began-read

  module _ (given : Given) (own : IsFor session given) where
    own-emptied : IsFor emptied given
    own-emptied = record {
      script = own.script ∙ sym (ap (λ (l : Lists). l.script) began);
      scores = own.scores ∙ sym (ap (λ (l : Lists). l.scores) began);
      channels = own.channels ∙ sym (ap (λ (l : Lists). l.script.header.disks) began);
    }

    own-cycled : IsFor cycled given
    own-cycled = record {
      script = own.script ∙ sym script-driven;
      scores = own.scores ∙ sym (drives.steps.scores ∙ ap (λ (l : Lists). l.scores) began-read);
      channels = own.channels ∙ sym (ap (λ (s : Script). s.header.disks) script-driven);
    }

    own-told : IsFor told given
    own-told = IsFor-tried 0 cycled told tried given own-cycled

    -- as many blocks go in as the stated turn says
    most-same : most_filled session.script.header freewheel ≡ (if (turn_of given.script (suc (run emptied.driver))).is_freewheel then given.script.header.ring else given.script.header.fill)
    most-same =
        let next : (turn_of given.script (suc (run emptied.driver))).is_freewheel ≡ freewheel =
        ap (λ (s : Script). (turn_of s (suc (run emptied.driver))).is_freewheel) own.script
        ∙ ap (λ (l : Lists). (turn_of session.script (suc (length l.numbers))).is_freewheel) began
        ∙ ap (λ n. (turn_of session.script n).is_freewheel) (sym (add-one (run session.driver)))
        ∙ drives.is in
        ap₂ (λ (s : Script) (b : Bool). if b then s.header.ring else s.header.fill) (sym own.script) (sym next)

    turns : TurnsDisks given emptied told
    turns = record {
      read = read;
      cycled = cycled;
      reads = subst (λ most. DisksRead most emptied read) most-same drives.reads;
      steps = drives.steps;
      same = drives.same;
      tells = drives.tells;
    }

    known-emptied : DisksSerial given session → DisksSerial given emptied
    known-emptied =
        let disks : disks_of emptied ≡ disks_of session = disks-emptied freewheel session emptied drives.empties in
        DisksSerial-alone session emptied given (ap (λ (d : Disks). d.players) disks) (ap (λ (d : Disks). d.disks) disks) (ap (λ (l : Lists). l.numbers) began) (ap (λ (l : Lists). l.underruns) began)

    so-far : IsSerialSoFar given cycled.driver → IsSerialSoFar given told.driver
    so-far so_far =
        let met : Driver = record cycled.driver { disks = told.driver.disks } in
        let behind : IsSerialSoFar given met = record { numbers = so_far.numbers; rows = so_far.rows } in
        subst (IsSerialSoFar given) (sym (ap (λ (s : Session). s.driver) drives.tells.same)) behind

    pub DisksSerial-driven : DisksCounted → IsSerialSoFar given cycled.driver → DisksSerial given session → DisksSerial given told
    DisksSerial-driven counts so_far known = counts given emptied told driven-ready.settled.sound.one own-emptied turns (so-far so_far) (known-emptied known)

    pub Fits-driven : DisksCounted → SerialFits → FitsBefore HasMetOthers → IsSerialSoFar given cycled.driver → DisksSerial given session → Fits cycled.driver (serial_course_of given)
    Fits-driven counts fits met so_far known =
        met cycled.driver told.driver (serial_course_of given) HasMetOthers-told (fits given told IsOne-told own-told (so-far so_far) (DisksSerial-driven counts so_far known))

  pub PlaysAll-driven : (given : Given) → PlaysAll given session → PlaysAll given told
  PlaysAll-driven given plays =
      let disks : disks_of emptied ≡ disks_of session = disks-emptied freewheel session emptied drives.empties in
      let before : PlaysAll given emptied = PlaysAll-alone session emptied given (ap (λ (d : Disks). d.players) disks) plays in
      let behind : PlaysAll given read = PlaysAll-read (most_filled session.script.header freewheel) emptied read given driven-ready.settled.sound.one drives.reads before in
      PlaysAll-told cycled told given IsOne-driven drives.tells (PlaysAll-alone read cycled given (ap (λ (s : Session). s.players) drives.same) behind)

-- ---- a whole cycle

-- numbers and rows are those of serial mode
record AreSerialLists (given : Given) (lists : Lists) : Type 0 where
  pub numbers : lists.numbers ≡ take (length lists.numbers) (serial_numbers given.script)
  pub rows : All (λ (row : TakenRow). IsFront row.changes (accepted (serial_history given.script))) lists.rows

module _ (freewheel : Bool) (session after : Session) (settled : IsSettled session) (is : is_next session freewheel) (turned : Turned freewheel session after) where
  pub drives-turned : Drives freewheel session turned.emptied turned.read turned.cycled turned.told
  drives-turned = record {
    settled = settled;
    is = is;
    empties = turned.empties;
    reads = turned.reads;
    steps = turned.cycles.cycles.steps;
    same = turned.cycles.same;
    tells = turned.tells;
  }

  pub lists-told : lists_of after ≡ lists_of turned.told
  lists-told =
      lists-met turned.rounded after turned.meets_again
      ∙ lists-rounded turned.met turned.rounded turned.rounds
      ∙ lists-met turned.drained turned.met turned.meets
      ∙ lists-gave (most_blocks session.script.header freewheel) turned.told turned.drained turned.drains

  pub lists-cycled : lists_of after ≡ lists_of turned.cycled
  lists-cycled = lists-told ∙ lists-tried 0 turned.cycled turned.told (tried-told 0 turned.cycled turned.told turned.tells)

  disks-told : disks_of after ≡ disks_of turned.told
  disks-told =
      disks-met turned.rounded after turned.meets_again
      ∙ disks-rounded turned.met turned.rounded turned.rounds
      ∙ disks-met turned.drained turned.met turned.meets
      ∙ disks-gave (most_blocks session.script.header freewheel) turned.told turned.drained turned.drains

  -- the numbers and rows behind the driver's cycle are those behind all
  pub exact-cycled : (given : Given) → IsFor session given → AreExact after → IsSerialSoFar given turned.cycled.driver
  exact-cycled given own exact =
      let script : after.script ≡ given.script = ap (λ (l : Lists). l.script) lists-cycled ∙ script-driven freewheel session turned.emptied turned.read turned.cycled turned.told drives-turned ∙ sym own.script in
      let behind : AreSerialLists given (lists_of after) = record {
        numbers = exact.numbers ∙ ap (λ (s : Script). take (run after.driver) (serial_numbers s)) script;
        rows = subst (λ (s : Script). All (λ (row : TakenRow). IsFront row.changes (accepted (serial_history s))) after.driver.reading.rows) script exact.rows;
      } in
      let here : AreSerialLists given (lists_of turned.cycled) = subst (AreSerialLists given) lists-cycled behind in
      record { numbers = here.numbers; rows = here.rows }

  pub DisksSerial-turned : DisksCounted → (given : Given) → IsFor session given → AreExact after → DisksSerial given session → DisksSerial given after
  DisksSerial-turned counts given own exact known =
      DisksSerial-alone turned.told after given
      (ap (λ (d : Disks). d.players) disks-told)
      (ap (λ (d : Disks). d.disks) disks-told)
      (ap (λ (l : Lists). l.numbers) lists-told)
      (ap (λ (l : Lists). l.underruns) lists-told)
      (DisksSerial-driven freewheel session turned.emptied turned.read turned.cycled turned.told drives-turned given own counts (exact-cycled given own exact) known)

  pub PlaysAll-turned : (given : Given) → PlaysAll given session → PlaysAll given after
  PlaysAll-turned given plays =
      PlaysAll-alone turned.told after given (ap (λ (d : Disks). d.players) disks-told) (PlaysAll-driven freewheel session turned.emptied turned.read turned.cycled turned.told drives-turned given plays)

  pub Fits-turned : DisksCounted → SerialFits → FitsBefore HasMetOthers → (given : Given) → IsFor session given → AreExact after → DisksSerial given session → Fits turned.cycled.driver (serial_course_of given)
  Fits-turned counts fits met given own exact known =
      Fits-driven freewheel session turned.emptied turned.read turned.cycled turned.told drives-turned given own counts fits met (exact-cycled given own exact) known
