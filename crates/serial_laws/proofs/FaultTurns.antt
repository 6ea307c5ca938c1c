-- A cycle of serial mode that failed.
--     TurnLaws      what the laws say
--     AreKept-own, AreKept-emptied, AreKept-read      what was put before the cycle is what serial mode keeps so far
--     TellsBlocks-cycled      and what was put in it is what serial mode keeps in one cycle more, where its look found no more than was got
--     TellsFronts-turn      each file tells a front of what serial mode gives
--     StandsInSerial-turn      so it has a front of what serial mode gives it
use Rattle.std.proofs.Common.{◌≡◌, ℕ, suc, ◌+◌, ◌<◌, ◌≤◌, Bool, List, length, slice_get, None, Some, refl, sym, ◌∙◌, ap, subst, arith, ℤ}
use Rattle.std.specs.Prelude.{IfSome, Option}
use Rattle.std.proofs.lemmas.Option.{none-some, slice_get_within}
use Rattle.jack_types.specs.declared.files.Format.{Format}
use Rattle.jack_types.specs.declared.replies.Overrun.{Overrun}
use Rattle.session_model.specs.Courses.{Course}
use Rattle.session_model.specs.Explanations.{Given}
use Rattle.session_model.specs.Scripts.{Script, turns}
use Rattle.session_model.specs.Serial.{counts, serial_course, serial_overruns}
use Rattle.graph_word.specs.Publications.{HaveMet}
use Rattle.driver_words.specs.Tapes.{HasUnfinished, SameFile, Tape}
use Rattle.wave_write.proofs.TapeLemmas.{samples-unfinished}
use Rattle.run_laws.specs.control_desk.specs.Desks.{Desk}
use Rattle.run_laws.specs.driver_laws.specs.Cycling.{HasMetOthers, KeepsBut}
use Rattle.run_laws.specs.driver_laws.specs.Drivers.{Driver, overruns_on, run, turn_of}
use Rattle.run_laws.specs.driver_laws.specs.Keeping.{Fits, HasTape, HasTapeFront, Keeps, kept_blocks, played_so_far}
use Rattle.run_laws.specs.driver_laws.proofs.StepLemmas.{ran}
use Rattle.recorder_files.specs.Recorders.{Reel}
use Rattle.run_laws.specs.SerialRuns.{SerialKept}
use Rattle.run_laws.specs.Sessions.{IsFor, IsOne, Session}
use Rattle.run_laws.proofs.PlaceLemmas.{some_at}
use Rattle.disk_runs.specs.Counts.{IsSerialSoFar}
use Rattle.disk_runs.specs.Readings.{DisksBroke, DisksRead}
use Rattle.disk_runs.proofs.PartLemmas.{HasMetOthers-tried}
use Rattle.disk_runs.proofs.StepLemmas.{tried-read, tried-told}
use Rattle.serial_laws.specs.Faults.{AtDisk, AtDraining, AtEmptying, AtRead, AtWrite, Broke, Gave, Left, StandsInSerial, Tried, TurnFails, serial_course_of, told}
use Rattle.serial_laws.specs.Steps.{AreExact, Cycled, Emptied, IsReel, IsSettled, IsSound, most_blocks, most_filled}
use Rattle.serial_laws.proofs.ActiveLemmas.{ActiveInSerial, GraphOfRow}
use Rattle.serial_laws.proofs.CountLemmas.{PutsCounted, active-serial, losses-cycled}
use Rattle.serial_laws.proofs.DiskLemmas.{DisksCounted, Drives, Fits-driven, IsSerialSoFar-exact, SerialFits, script-driven}
use Rattle.serial_laws.proofs.EmptyLemmas.{DrainsCounted}
use Rattle.serial_laws.proofs.FaultCourses.{HasMetOthers-emptied, IsSerialSoFar-stepped, emptied-same}
use Rattle.serial_laws.proofs.FaultFiles.{AreKept, AreKept-disks, KeptFronts, PlayedFronts, StandsInSerial-tells, TellsBlocks, TellsBlocks-kept, TellsBlocks-put, TellsBlocks-tried, TellsFronts, TellsFronts-disks, TellsFronts-met, TellsPlayback, blocks_serial}
use Rattle.serial_laws.proofs.FaultLemmas.{AreFilled, AreFilled-disks, AreFilled-emptied, AreFilled-one, AreFilled-stepped, IsTold-tried, WasTried, format_at, tried-at}
use Rattle.serial_laws.proofs.KeepLemmas.{FitsBefore, StaysKept}
use Rattle.serial_laws.proofs.LossLemmas.{kept_blocks-serial}
use Rattle.serial_laws.proofs.PublishedLemmas.{HasNext, SerialIsLegal}
use Rattle.serial_laws.proofs.ReelLemmas.{IsReel-untried, SerialRings}
use Rattle.serial_laws.proofs.TurnedLemmas.{ready}

pub record TurnLaws : Type 0 where
  pub numbers : SerialIsLegal
  pub keeps_met : StaysKept HasMetOthers
  pub fits_met : FitsBefore HasMetOthers
  pub disks : DisksCounted
  pub serial_fits : SerialFits
  pub graph_of : GraphOfRow
  pub active : ActiveInSerial
  pub drains : DrainsCounted
  pub puts : PutsCounted

-- one file stays attached
abbrev StaysOneFile : Option Tape → Option Tape → Type 0
StaysOneFile playback playback_after = (tape tape_after : Tape) → playback ≡ Some tape → playback_after ≡ Some tape_after → SameFile tape tape_after

module _ (laws : TurnLaws) (given : Given) (freewheel : Bool) (session : Session) (settled : IsSettled session) (exact : AreExact session) (next : HasNext session) (kept : SerialKept given session)
    (left : run session.driver < length (turns session.script)) (turn_is : (turn_of session.script (run session.driver + 1)).is_freewheel ≡ freewheel) where
  -- ---- before the cycle

  abbrev course : Course
  course = serial_course_of given

  sound : IsSound session
  sound = settled.sound

  is-for : IsFor session given
  is-for = kept.own

  known : SerialRings session
  known = kept.rings

  -- so many cycles of the script
  within : (n : ℕ) → n ≤ length (turns session.script) → n ≤ length (turns given.script)
  within n low = subst (λ (s : Script). n ≤ length (turns s)) (sym is-for.script) low

  low-own : run session.driver ≤ length (turns session.script)
  low-own = omega (arith, left)

  filled : AreFilled session
  filled = AreFilled-one session sound.one sound.files (λ recorder ring got there got_there. (known recorder ring got there got_there).counted.front)

  kept-own : Keeps session.driver course
  kept-own =
      kept.keeps course (record { script = refl; capture = refl; disks = refl; scores = refl }) (laws.serial_fits given session sound.one is-for (IsSerialSoFar-exact given session is-for exact) kept.turned)

  -- by the overruns of serial mode so far so many cycles keep what they keep by all
  blocks-are : (recorder n : ℕ) (losses : List Overrun) → n ≤ length (turns session.script) → losses ≡ (counts (serial_course session.script) recorder n).losses
      → kept_blocks course losses recorder n ≡ blocks_serial given recorder n
  blocks-are recorder n losses low same =
      ap (λ os. kept_blocks course os recorder n) same
      ∙ kept_blocks-serial course session.script recorder n low
      ∙ ap (λ (s : Script). kept_blocks course (serial_overruns s recorder) recorder n) (sym is-for.script)

  AreKept-own : AreKept given session (run session.driver)
  AreKept-own = record {
    low = within (run session.driver) low-own;
    script_is = is-for.script;
    filled = filled;
    puts = λ recorder ring there.
        let h : recorder < length session.driver.rings = slice_get_within session.driver.rings recorder ring there in
        let got = some_at session.getting recorder (omega (arith, h, filled.rings, filled.getting)) in
        (kept-own.rings recorder ring there).put
        ∙ blocks-are recorder (run session.driver) (overruns_on session.driver.overruns recorder) low-own (known recorder ring got.0 there got.1).losses;
  }

  -- ---- the playback

  abbrev own_format : Format
  own_format = record { rate = given.script.header.rate; channels = given.script.header.playback; bits = given.script.header.bits }

  abbrev IsOwn : Option Tape → Type 0
  IsOwn playback = IfSome playback (λ (tape : Tape). tape.format ≡ own_format)

  format-is : IsOwn session.driver.playback
  format-is = subst (λ (s : Script). IfSome session.driver.playback (λ (tape : Tape). tape.format ≡ record { rate = s.header.rate; channels = s.header.playback; bits = s.header.bits })) (sym is-for.script) sound.files.playback_format

  format-stays : (playback playback_after : Option Tape) (tape : Tape) → playback ≡ Some tape → StaysOneFile playback playback_after → IsOwn playback → IsOwn playback_after
  format-stays None playback_after tape attached stays own = absurd (none-some tape attached)
  format-stays (Some one) None tape attached stays own = tt
  format-stays (Some one) (Some other) tape attached stays own = (stays one other refl refl).format ∙ own

  -- a playback that has samples, or what a failed put leaves of them
  tells-front : (playback : Option Tape) (samples : List ℤ) → IsOwn playback → HasTapeFront playback samples → IfSome playback (λ (tape : Tape). HasUnfinished own_format samples tape.bytes)
  tells-front None samples own has = tt
  tells-front (Some tape) samples own has = subst (λ f. HasUnfinished f samples tape.bytes) own has

  tells-samples : (playback : Option Tape) (samples : List ℤ) → IsOwn playback → HasTape playback samples → IfSome playback (λ (tape : Tape). HasUnfinished own_format samples tape.bytes)
  tells-samples None samples own has = tt
  tells-samples (Some tape) samples own has = tells-front (Some tape) samples own (samples-unfinished tape samples has)

  TellsPlayback-own : TellsPlayback given session.driver.playback
  TellsPlayback-own = record {
    cycles = run session.driver;
    low = within (run session.driver) low-own;
    unfinished = tells-samples session.driver.playback (played_so_far course (run session.driver)) format-is kept-own.playback;
  }

  -- ---- where the rings were emptied

  module _ (emptied : Session) (empties : Emptied freewheel session emptied) where
    AreKept-emptied : AreKept given emptied (run session.driver)
    AreKept-emptied = record {
      low = within (run session.driver) low-own;
      script_is = is-for.script ∙ sym (ap (λ (s : Session). s.script) (emptied-same freewheel session emptied empties));
      filled = AreFilled-emptied freewheel session emptied empties filled;
      puts = λ recorder ring there.
          let was = (HasMetOthers-emptied freewheel session emptied filled empties).rings recorder ring there in
          was.2.put ∙ AreKept-own.puts recorder was.0 was.1;
    }

    same-driver : emptied.driver ≡ record session.driver { rings = emptied.driver.rings }
    same-driver = ap (λ (s : Session). s.driver) (emptied-same freewheel session emptied empties)

    same-desk : emptied.desk ≡ session.desk
    same-desk = ap (λ (s : Session). s.desk) (emptied-same freewheel session emptied empties)

    kept-emptied : Keeps emptied.driver course
    kept-emptied = laws.keeps_met session.driver emptied.driver course (HasMetOthers-emptied freewheel session emptied filled empties) kept-own

    TellsFronts-emptied : TellsFronts given emptied
    TellsFronts-emptied = record {
      playback = subst (TellsPlayback given) (sym (ap (λ (d : Driver). d.playback) same-driver)) TellsPlayback-own;
      records = λ recorder tape there. TellsBlocks-kept given emptied (run session.driver) AreKept-emptied recorder tape there;
    }

    -- ---- where the disks were read

    module _ (read : Session) (reads : DisksRead (most_filled session.script.header freewheel) emptied read) where
      tries : DisksBroke (most_filled session.script.header freewheel) emptied read
      tries = tried-read (most_filled session.script.header freewheel) emptied read reads

      one-emptied : IsOne emptied
      one-emptied = (ready freewheel session emptied read settled turn_is empties reads).settled.sound.one

      AreKept-read : AreKept given read (run session.driver)
      AreKept-read = AreKept-disks given (most_filled session.script.header freewheel) emptied read (run session.driver) tries AreKept-emptied

      TellsFronts-read : TellsFronts given read
      TellsFronts-read = TellsFronts-disks given (most_filled session.script.header freewheel) emptied read tries TellsFronts-emptied

      kept-read : Keeps read.driver course
      kept-read = laws.keeps_met emptied.driver read.driver course (HasMetOthers-tried (most_filled session.script.header freewheel) emptied read tries one-emptied) kept-emptied

      read-driver : read.driver ≡ record session.driver { rings = emptied.driver.rings; disks = read.driver.disks }
      read-driver = ap (λ (s : Session). s.driver) reads.same ∙ ap (λ (d : Driver). record d { disks = read.driver.disks }) same-driver

      read-desk : read.desk ≡ session.desk
      read-desk = ap (λ (s : Session). s.desk) reads.same ∙ same-desk

      format-behind : (driver : Driver) → StaysOneFile read.driver.playback driver.playback → IsOwn driver.playback
      format-behind driver stays =
          format-stays session.driver.playback driver.playback sound.files.playback.tape sound.files.playback.attached
          (subst (λ (d : Driver). StaysOneFile d.playback driver.playback) read-driver stays) format-is

      -- behind a cycle, where desk and driver met
      module _ (cycled behind : Session) (drives : Drives freewheel session emptied read cycled behind) (met : HaveMet session.desk.publishing cycled.driver.reading) where
        so-far : IsSerialSoFar given cycled.driver
        so-far = IsSerialSoFar-stepped laws.numbers given session is-for sound.one.lawful exact next left read.driver cycled.driver drives.steps
            (ap (λ (d : Driver). d.reading) read-driver) (ap (λ (d : Driver). d.numbers) read-driver) met

        fits-stepped : Fits cycled.driver course
        fits-stepped = Fits-driven freewheel session emptied read cycled behind drives given is-for laws.disks laws.serial_fits laws.fits_met so-far kept.turned

        low-stepped : run cycled.driver ≤ length (turns session.script)
        low-stepped = let one_more : run cycled.driver ≡ suc (run session.driver) = ran read.driver cycled.driver drives.steps ∙ ap (λ (d : Driver). suc (run d)) read-driver in omega (arith, one_more, left)

        -- ---- behind a cycle that was whole

        module _ (cycles : Cycled read cycled) where
          kept-cycled : Keeps cycled.driver course
          kept-cycled = cycles.cycles.keeps course fits-stepped kept-read

          filled-behind : AreFilled behind
          filled-behind = AreFilled-disks 0 cycled behind (tried-told 0 cycled behind drives.tells) (subst AreFilled (sym cycles.same) (AreFilled-stepped read cycled.driver cycles.cycles.steps AreKept-read.filled))

          TellsPlayback-cycled : TellsPlayback given cycled.driver.playback
          TellsPlayback-cycled = record {
            cycles = run cycled.driver;
            low = within (run cycled.driver) low-stepped;
            unfinished = tells-samples cycled.driver.playback (played_so_far course (run cycled.driver)) (format-behind cycled.driver cycles.cycles.writes.file) kept-cycled.playback;
          }

          TellsPlayback-behind : TellsPlayback given behind.driver.playback
          TellsPlayback-behind = subst (λ (s : Session). TellsPlayback given s.driver.playback) (sym drives.tells.same) TellsPlayback-cycled

          script-behind : behind.script ≡ session.script
          script-behind = ap (λ (s : Session). s.script) drives.tells.same ∙ script-driven freewheel session emptied read cycled behind drives

          -- a recorder whose ends met behind the cycle, or that was left alone
          module _ (recorder most : ℕ) (low : recorder < length session.script.header.recorders) (before after : Reel) (is : IsReel behind recorder before) where
            is-cycled : IsReel cycled recorder before
            is-cycled = IsReel-untried 0 cycled behind recorder before (tried-told 0 cycled behind drives.tells) is

            TellsBlocks-cycled : Tried most before after → before.ring.least ≤ length before.getting.got → TellsBlocks given recorder after.tape
            TellsBlocks-cycled tried look =
                let ring = some_at read.driver.rings recorder (let h = slice_get_within cycled.driver.rings recorder before.ring is-cycled.ring in omega (arith, h, cycles.cycles.steps.as_many)) in
                let was : IsReel read recorder (record before { ring = ring.0 }) = record {
                  ring = ring.1;
                  getting = ap (λ (s : Session). slice_get s.getting recorder) (sym cycles.same) ∙ is-cycled.getting;
                  tape = ap (λ (s : Session). slice_get s.tapes recorder) (sym cycles.same) ∙ is-cycled.tape;
                  blocks = ap (λ (s : Session). slice_get s.counts recorder) (sym cycles.same) ∙ is-cycled.blocks;
                } in
                let losses : overruns_on cycled.driver.overruns recorder ≡ (counts (serial_course session.script) recorder (run cycled.driver)).losses =
                losses-cycled laws.drains laws.puts freewheel session emptied read cycled behind drives
                (active-serial laws.drains laws.puts freewheel session emptied read cycled behind drives laws.graph_of laws.active given is-for fits-stepped)
                known recorder low (record before { ring = ring.0 }) was before.ring is-cycled.ring look in
                let put = (kept-cycled.rings recorder before.ring is-cycled.ring).put ∙ blocks-are recorder (run cycled.driver) (overruns_on cycled.driver.overruns recorder) low-stepped losses in
                TellsBlocks-put given behind (is-for.script ∙ sym script-behind) recorder (run cycled.driver) (within (run cycled.driver) low-stepped) before.ring.put after.tape put
                (IsTold-tried (format_at behind.script recorder) before (filled-behind.each recorder before is) most after tried)

            TellsBlocks-behind : Tried most before after → TellsBlocks given recorder after.tape
            TellsBlocks-behind (Gave gives) = TellsBlocks-cycled (Gave gives) gives.first.met.looks_least
            TellsBlocks-behind (Broke breaks) = TellsBlocks-cycled (Broke breaks) breaks.first.met.looks_least
            TellsBlocks-behind (Left same) =
                subst (λ (reel : Reel). TellsBlocks given recorder reel.tape) (sym same)
                (TellsBlocks-kept given read (run session.driver) AreKept-read recorder before.tape (ap (λ (s : Session). slice_get s.tapes recorder) (sym cycles.same) ∙ is-cycled.tape))

  -- ---- the places of the fault

  TellsFronts-turn : (after : Session) → TurnFails freewheel session after → TellsFronts given after
  TellsFronts-turn after (AtEmptying broken on breaks met) = TellsFronts-met given broken after met (record {
    playback = subst (λ (s : Session). TellsPlayback given s.driver.playback) (sym breaks.same) TellsPlayback-own;
    records = λ recorder tape there.
        let t : WasTried session.script.header.ring session broken recorder tape = tried-at session.script.header.ring session broken filled breaks recorder tape there in
        subst (TellsBlocks given recorder) t.tape_is (TellsBlocks-tried given session (run session.driver) AreKept-own recorder session.script.header.ring t.before t.behind t.was t.tried);
  })
  TellsFronts-turn after (AtDisk emptied broken empties breaks met) =
      TellsFronts-met given broken after met (TellsFronts-disks given (most_filled session.script.header freewheel) emptied broken breaks (TellsFronts-emptied emptied empties))
  TellsFronts-turn after (AtRead emptied read failed behind empties reads fails failed_is tells met) =
      let was : TellsFronts given read = TellsFronts-read emptied empties read reads in
      TellsFronts-met given behind after met (TellsFronts-disks given 0 failed behind (tried-told 0 failed behind tells) (record {
        playback = subst (TellsPlayback given) (sym (ap (λ (d : Driver). d.playback) fails.same)) was.playback;
        records = λ recorder tape there. was.records recorder tape (ap (λ (s : Session). slice_get s.tapes recorder) (sym failed_is) ∙ there);
      }))
  TellsFronts-turn after (AtWrite emptied read failed behind empties reads fails stays failed_is tells met) =
      let drives : Drives freewheel session emptied read failed behind = record { settled = settled; is = turn_is; empties = empties; reads = reads; steps = fails.steps; same = failed_is; tells = tells } in
      let met_told : HaveMet failed.desk.publishing failed.driver.reading = subst (λ (s : Session). HaveMet s.desk.publishing s.driver.reading) tells.same met.meets.met in
      let met_there : HaveMet session.desk.publishing failed.driver.reading =
      subst (λ (d : Desk). HaveMet d.publishing failed.driver.reading) (ap (λ (s : Session). s.desk) failed_is ∙ read-desk emptied empties read reads) met_told in
      let was : TellsFronts given read = TellsFronts-read emptied empties read reads in
      let kept_front : KeepsBut failed.driver course = fails.keeps course (fits-stepped emptied empties read reads failed behind drives met_there) (kept-read emptied empties read reads) in
      TellsFronts-met given behind after met (TellsFronts-disks given 0 failed behind (tried-told 0 failed behind tells) (record {
        playback = record {
          cycles = run failed.driver;
          low = within (run failed.driver) (low-stepped emptied empties read reads failed behind drives met_there);
          unfinished = tells-front failed.driver.playback (played_so_far course (run failed.driver)) (format-behind emptied empties read reads failed.driver stays) kept_front.front;
        };
        records = λ recorder tape there. was.records recorder tape (ap (λ (s : Session). slice_get s.tapes recorder) (sym failed_is) ∙ there);
      }))
  TellsFronts-turn after (AtDraining emptied read cycled behind broken empties reads cycles tells breaks met) =
      let most : ℕ = most_blocks session.script.header freewheel in
      let drives : Drives freewheel session emptied read cycled behind = record { settled = settled; is = turn_is; empties = empties; reads = reads; steps = cycles.cycles.steps; same = cycles.same; tells = tells } in
      let met_behind : HaveMet behind.desk.publishing behind.driver.reading = subst (λ (s : Session). HaveMet s.desk.publishing s.driver.reading) breaks.same met.meets.met in
      let met_told : HaveMet cycled.desk.publishing cycled.driver.reading = subst (λ (s : Session). HaveMet s.desk.publishing s.driver.reading) tells.same met_behind in
      let met_there : HaveMet session.desk.publishing cycled.driver.reading =
      subst (λ (d : Desk). HaveMet d.publishing cycled.driver.reading) (ap (λ (s : Session). s.desk) cycles.same ∙ read-desk emptied empties read reads) met_told in
      let filled_now : AreFilled behind = filled-behind emptied empties read reads cycled behind drives met_there cycles in
      TellsFronts-met given broken after met (record {
        playback = subst (λ (s : Session). TellsPlayback given s.driver.playback) (sym breaks.same) (TellsPlayback-behind emptied empties read reads cycled behind drives met_there cycles);
        records = λ recorder tape there.
            let t : WasTried most behind broken recorder tape = tried-at most behind broken filled_now breaks recorder tape there in
            let low : recorder < length session.script.header.recorders =
            subst (λ (s : Script). recorder < length s.header.recorders) (script-behind emptied empties read reads cycled behind drives met_there cycles) t.low in
            subst (TellsBlocks given recorder) t.tape_is (TellsBlocks-behind emptied empties read reads cycled behind drives met_there cycles recorder most low t.before t.behind t.was t.tried);
      })

  pub StandsInSerial-turn : PlayedFronts → KeptFronts → (after : Session) → TurnFails freewheel session after → StandsInSerial given (told after)
  StandsInSerial-turn played kept_fronts after fails = StandsInSerial-tells played kept_fronts given after (TellsFronts-turn after fails)
