-- A phase of a session's run in serial mode.
--     sound_set, tells_set, at_set, kept_set      what holds of a session whatever period is set
--     with_driver      the works with another driver
--     stays-set      setting the period leaves the works
--     InPhase sounding works segment done t      in a phase, before one of its cycles or behind the last, with its period set
--     phase-begins, phase-keeps      the front of the phase, and what is kept there
--     next-in      the next cycle
--     turned-on, turned-keeps      a cycle of the phase
--     phase-fails      a cycle of it that failed
--     phase-ends      behind its last cycle
use Rattle.std.proofs.Common.{◌≡◌, ℕ, suc, ◌+◌, ◌<◌, ◌≤◌, length, Option, None, sym, ◌∙◌, ap, subst, arith}
use Rattle.session_model.specs.Courses.{Course}
use Rattle.session_model.specs.Explanations.{Given}
use Rattle.session_model.specs.Kinds.{Sound}
use Rattle.session_model.specs.Scripts.{Script, ScriptCycle, turns}
use Rattle.client_kinds.specs.Scores.{Score}
use Rattle.session_works.specs.DeskWords.{IsDone}
use Rattle.wave_pcm.specs.Readings.{Reading, SameReading}
use Rattle.driver_words.specs.Tapes.{Tape}
use Rattle.driver_laws.specs.Drivers.{run, turn_of}
use Rattle.driver_laws.specs.Keeping.{Fits}
use Rattle.session_works.specs.Drivers.{Gear, driver_of}
use Rattle.session_works.specs.disk_runs.specs.Rests.{DisksTell}
use Rattle.script_segments.specs.declared.lines.Segment.{Segment}
use Rattle.recorder_files.specs.Recorders.{held_or}
use Rattle.session_works.specs.RunWords.{SerialAt, SerialBehind, SerialKept, SerialSoFar, Session}
use Rattle.session_works.specs.SerialWords.{Begun, IsSettled, IsSound, StandsInSerial, Turned, TurnFails}
use Rattle.session_works.specs.Insides.{Stays, beside, parts_of, seen}
use Rattle.session_works.specs.Parts.{HasOpenFiles, session_of, told_of}
use Rattle.session_works.specs.declared.works.SessionWorks.{SessionWorks}
use Rattle.session_works.specs.Laws.{CycleIs, CycleThere}
use Rattle.session_works.proofs.SegmentLemmas.{IsOfPhase}
use Rattle.session_works.proofs.StayLemmas.{reading_same, stays-met, stays-trans}
use Rattle.session_works.proofs.StoreLemmas.{HeldLater, held_same}
use Rattle.session_works.proofs.TellLemmas.{told-agrees}
use Rattle.session_works.proofs.TurningLemmas.{IsNext, stays-cycled}
use Rattle.serial_run.specs.Laws.{AtFront, AtNext, BehindLastCycle, FrontsWhereFailed, KeptAtFront, KeptNext, SettledTurned, SoundBegun, TellsBegun}

-- ---- the period that is set

-- the session with another period set
abbrev pub with_set : Session → ℕ → Session
with_set session period = record session { driver = record session.driver { set = period } }

module _ (session : Session) (period : ℕ) where
  pub sound_set : IsSound session → IsSound (with_set session period)
  sound_set sound = record {
    one = record {
      lawful = sound.one.lawful;
      desk_script = sound.one.desk_script;
      driver_script = sound.one.driver_script;
      desk = sound.one.desk;
      table = sound.one.table;
      base = sound.one.base;
      rows = record { cycles = sound.one.rows.cycles; numbers = sound.one.rows.numbers; last = sound.one.rows.last; place = sound.one.rows.place; base = sound.one.rows.base };
      rings = record {
        recorders = sound.one.rings.recorders;
        disks = sound.one.rings.disks;
        puts = sound.one.rings.puts;
        gets = sound.one.rings.gets;
        own_disks = sound.one.rings.own_disks;
        own = λ recorder ring there. let own = sound.one.rings.own recorder ring there in record { samples = own.samples; most = own.most; items = own.items };
      };
      own_recorders = sound.one.own_recorders;
      own_disks = sound.one.own_disks;
      capacity = sound.one.capacity;
      recorder_ends = sound.one.recorder_ends;
      recorder_pairs = sound.one.recorder_pairs;
      disk_ends = sound.one.disk_ends;
      disk_pairs = sound.one.disk_pairs;
    };
    misses = record { overruns = sound.misses.overruns; underruns = sound.misses.underruns };
    files = record {
      playback = record { tape = sound.files.playback.tape; attached = sound.files.playback.attached; going = sound.files.playback.going };
      playback_format = sound.files.playback_format;
      sound = sound.files.sound;
      formats = sound.files.formats;
      may = sound.files.may;
      samples = sound.files.samples;
      counted = sound.files.counted;
    };
    no_end = sound.no_end;
    room = sound.room;
    going = sound.going;
  }

  pub tells_set : DisksTell session → DisksTell (with_set session period)
  tells_set tells disk player got is = tells disk player got record { player_is = is.player_is; got_is = is.got_is }

  -- a sound session is one, so what is so far needs its own facts alone
  so_far-set : IsSound session → SerialSoFar session → SerialSoFar (with_set session period)
  so_far-set sound far =
      let now = sound_set sound in
      record { one = now.one; serial = far.serial; numbers = far.numbers; rows = far.rows; met = record { met = far.met.met; reader = far.met.reader; publisher = far.met.publisher }; misses = now.misses; files = now.files }

  pub at_set : (done cycles rounds : ℕ) → IsSound session → SerialAt session done cycles rounds → SerialAt (with_set session period) done cycles rounds
  at_set done cycles rounds sound at = record { so_far = so_far-set sound at.so_far; desk = at.desk; cycles_are = at.cycles_are }

  pub kept_set : (given : Given) → SerialKept given session → SerialKept given (with_set session period)
  kept_set given kept = record {
    own = record { script = kept.own.script; scores = kept.own.scores; channels = kept.own.channels };
    keeps = λ course over fits. let keeps = kept.keeps course over (before course fits) in
        record { moments = keeps.moments; transport = keeps.transport; rings = keeps.rings; disks = keeps.disks; left = keeps.left; playback = keeps.playback; driven = keeps.driven };
    rings = λ recorder ring got there here. let serial = kept.rings recorder ring got there here in record { counted = serial.counted; losses = serial.losses };
    plays = kept.plays;
    turned = λ disk player got is. let turned = kept.turned disk player got record { player_is = is.player_is; got_is = is.got_is } in record { stands = turned.stands; missed = turned.missed };
  }
    where
      before : (course : Course) → Fits (record session.driver { set = period }) course → Fits session.driver course
      before course fits = record {
        script = fits.script;
        scores = fits.scores;
        channels = fits.channels;
        of_calls = fits.of_calls;
        numbers = fits.numbers;
        rows = fits.rows;
        underruns = fits.underruns;
        disks = fits.disks;
      }

-- ---- a segment and its phase

-- a place before one of the segment's cycles is one before a cycle of its phase
low-in : (script : Script) (done t : ℕ) (segment : Segment) (of : IsOfPhase script done segment) → t < segment.cycles → t < of.phase.cycles
low-in script done t segment of low = subst (λ (s : Segment). t < s.cycles) of.is low

-- the turn of a segment is one of its phase
turned-in : (script : Script) (done : ℕ) (segment : Segment) (of : IsOfPhase script done segment) (session after : Session) → Turned segment.is_freewheel session after → Turned of.phase.is_freewheel session after
turned-in script done segment of session after turned = subst (λ (s : Segment). Turned s.is_freewheel session after) of.is turned

-- ---- the steps of a phase

module _ {S W G : Type 0} where
  abbrev pub with_driver : SessionWorks S W G → Gear → SessionWorks S W G
  with_driver works driver = record { desk = works.desk; driver = driver; recorders = works.recorders; readers = works.readers }

module _ (sounding : Score → Sound) {S W G : Type 0} where
  pub record InPhase (works : SessionWorks S W G) (segment : Segment) (done t : ℕ) : Type 0 where
    pub at : SerialAt (seen sounding works) done t (suc t)
    pub settled : IsSettled (seen sounding works)
    pub group : IsDone works.desk 0
    pub period : works.driver.set ≡ segment.period

  -- the works behind setting the period
  seen-set : (works : SessionWorks S W G) (driver : Gear) (period : ℕ) → driver ≡ record works.driver { set = period } → seen sounding (with_driver works driver) ≡ with_set (seen sounding works) period
  seen-set works driver period = ap (λ (g : Gear). session_of sounding (record { desk = works.desk; gear = g; recorders = works.recorders.items; players = works.readers.items; playback = None; attached = 0 }))

  pub stays-set : (works : SessionWorks S W G) (driver : Gear) (period : ℕ) → HasOpenFiles (parts_of works) → driver ≡ record works.driver { set = period } → Stays sounding (parts_of works) (parts_of (with_driver works driver))
  stays-set works driver period files same =
      stays-cycled sounding (beside works.desk works.readers.items) works.driver driver works.recorders.items files (ap (λ (g : Gear). g.script) same) (ap (λ (g : Gear). (driver_of sounding g).scores) same)
      (subst (λ (file : Option Tape). HeldLater (held_or None works.driver.playback) (held_or None file)) (sym (ap (λ (g : Gear). g.playback) same)) (held_same (held_or None works.driver.playback)))
      (subst (λ (r : Reading). SameReading works.driver.capture.reading r) (sym (ap (λ (g : Gear). g.capture.reading) same)) (reading_same works.driver.capture.reading))

  pub stays-begun : (before begun : SessionWorks S W G) (driver : Gear) (period : ℕ) → HasOpenFiles (parts_of before) → begun.driver ≡ record before.driver { reading = begun.driver.reading } → begun.recorders ≡ before.recorders → begun.readers ≡ before.readers
      → driver ≡ record begun.driver { set = period } → Stays sounding (parts_of before) (parts_of (with_driver begun driver))
  stays-begun before begun driver period files same recorders readers set =
      let stays = stays-met sounding before begun same recorders readers files in
      stays-trans sounding before begun (with_driver begun driver) stays (stays-set begun driver period stays.files set)

  pub phase-begins : AtFront → SoundBegun → TellsBegun → (before begun : SessionWorks S W G) (driver : Gear) (done : ℕ) (segment : Segment) → IsOfPhase before.driver.script done segment → IsSettled (seen sounding before) → SerialBehind (seen sounding before) done
      → Begun done (seen sounding before) (seen sounding begun) → IsDone begun.desk 0 → driver ≡ record begun.driver { set = segment.period } → InPhase (with_driver begun driver) segment done 0
  phase-begins front begins tells before begun driver done segment of settled behind is group same =
      let now = begins done (seen sounding before) (seen sounding begun) settled.sound is in
      record {
        at = subst (λ (s : Session). SerialAt s done 0 1) (sym (seen-set begun driver segment.period same))
            (at_set (seen sounding begun) segment.period done 0 1 now (front (seen sounding before) (seen sounding begun) done of.phase of.there settled.sound behind is));
        settled = subst (λ (s : Session). IsSettled s) (sym (seen-set begun driver segment.period same)) record {
          sound = sound_set (seen sounding begun) segment.period now;
          tells = tells_set (seen sounding begun) segment.period (tells done (seen sounding before) (seen sounding begun) is settled.tells);
        };
        group = group;
        period = ap (λ (g : Gear). g.set) same;
      }

  pub phase-keeps : KeptAtFront → (before begun : SessionWorks S W G) (driver : Gear) (done : ℕ) (segment : Segment) → IsOfPhase before.driver.script done segment → IsSound (seen sounding before) → SerialBehind (seen sounding before) done
      → Begun done (seen sounding before) (seen sounding begun) → driver ≡ record begun.driver { set = segment.period } → (given : Given) → SerialKept given (seen sounding before) → SerialKept given (seen sounding (with_driver begun driver))
  phase-keeps front before begun driver done segment of sound behind is same given kept =
      subst (λ (s : Session). SerialKept given s) (sym (seen-set begun driver segment.period same))
      (kept_set (seen sounding begun) segment.period given (front given (seen sounding before) (seen sounding begun) done of.phase of.there sound behind is kept))

  pub next-in : CycleThere → CycleIs → (works : SessionWorks S W G) (segment : Segment) (done t : ℕ) → InPhase works segment done t → IsOfPhase works.driver.script done segment → t < segment.cycles → IsNext sounding works.driver segment.is_freewheel
  next-in there is works segment done t inside of low = record {
    left = subst (λ n. n < length (turns works.driver.script)) (sym inside.at.cycles_are) (there works.driver.script done t of.phase of.there within);
    kind = ap (λ (turn : ScriptCycle). turn.is_freewheel) turn ∙ sym (ap (λ (s : Segment). s.is_freewheel) of.is);
    period = ap (λ (turn : ScriptCycle). turn.period) turn ∙ sym (ap (λ (s : Segment). s.period) of.is) ∙ sym inside.period;
  }
    where
      within : t < of.phase.cycles
      within = low-in works.driver.script done t segment of low

      turn : turn_of works.driver.script (run (driver_of sounding works.driver) + 1) ≡ record { period = of.phase.period; is_freewheel = of.phase.is_freewheel; phase = done }
      turn = ap (λ n. turn_of works.driver.script (n + 1)) inside.at.cycles_are ∙ is works.driver.script done t of.phase of.there within

  pub turned-on : CycleThere → CycleIs → AtNext → SettledTurned → (works after : SessionWorks S W G) (segment : Segment) (done t : ℕ) → InPhase works segment done t → IsOfPhase works.driver.script done segment → t < segment.cycles
      → Turned segment.is_freewheel (seen sounding works) (seen sounding after) → IsDone after.desk 0 → after.driver.set ≡ works.driver.set → InPhase after segment done (t + 1)
  turned-on there is at settles works after segment done t inside of low turned group set =
      let next = next-in there is works segment done t inside of low in
      let more : suc t ≡ t + 1 = omega arith in
      record {
        at = subst (λ n. SerialAt (seen sounding after) done n (suc n)) more
            (at (seen sounding works) (seen sounding after) done t of.phase of.there (low-in works.driver.script done t segment of low) inside.settled inside.at (turned-in works.driver.script done segment of (seen sounding works) (seen sounding after) turned));
        settled = settles segment.is_freewheel (seen sounding works) (seen sounding after) inside.settled next.left next.kind turned;
        group = group;
        period = set ∙ inside.period;
      }

  pub turned-keeps : KeptNext → (works after : SessionWorks S W G) (segment : Segment) (done t : ℕ) → InPhase works segment done t → IsOfPhase works.driver.script done segment → t < segment.cycles
      → Turned segment.is_freewheel (seen sounding works) (seen sounding after) → (given : Given) → SerialKept given (seen sounding works) → SerialKept given (seen sounding after)
  turned-keeps keeps works after segment done t inside of low turned given =
      keeps given (seen sounding works) (seen sounding after) done t of.phase of.there (low-in works.driver.script done t segment of low) inside.settled inside.at (turned-in works.driver.script done segment of (seen sounding works) (seen sounding after) turned)

  pub phase-fails : FrontsWhereFailed → CycleThere → CycleIs → (works after : SessionWorks S W G) (segment : Segment) (done t : ℕ) → InPhase works segment done t → IsOfPhase works.driver.script done segment → t < segment.cycles
      → TurnFails segment.is_freewheel (seen sounding works) (seen sounding after) → HasOpenFiles (parts_of after) → (given : Given) → SerialKept given (seen sounding works) → StandsInSerial given (told_of sounding (parts_of after))
  phase-fails fronts there is works after segment done t inside of low fails files given kept =
      let next = next-in there is works segment done t inside of low in
      subst (λ (s : Session). StandsInSerial given s) (told-agrees sounding (parts_of after) files)
      (fronts given segment.is_freewheel (seen sounding works) (seen sounding after) done t of.phase of.there (low-in works.driver.script done t segment of low) inside.at.cycles_are inside.settled inside.at.desk
      (record { numbers = inside.at.so_far.numbers; rows = inside.at.so_far.rows; met = inside.at.so_far.met }) kept next.kind fails)

  pub phase-ends : BehindLastCycle → (works : SessionWorks S W G) (segment : Segment) (done t : ℕ) → InPhase works segment done t → IsOfPhase works.driver.script done segment → t ≤ segment.cycles → segment.cycles ≤ t → SerialBehind (seen sounding works) (suc done)
  phase-ends ends works segment done t inside of low high =
      let cycles : segment.cycles ≡ of.phase.cycles = ap (λ (s : Segment). s.cycles) of.is in
      let last : t ≡ of.phase.cycles = omega (arith, cycles, low, high) in
      let next : suc of.phase.cycles ≡ of.phase.cycles + 1 = omega arith in
      ends (seen sounding works) done of.phase of.there
      (subst (λ n. SerialAt (seen sounding works) done of.phase.cycles n) next (subst (λ n. SerialAt (seen sounding works) done n (suc n)) last inside.at))
