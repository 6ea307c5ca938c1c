-- A freewheel segment in threads mode that failed.
--     Way given base format from to      what steps of freewheel cycles carry along
--     way-none, way-gave, way-read, way-told, way-cycled, way-many      none, and one more
--     Tells-filled, Tells-broken      what the files tell where nothing was torn, and where the rings gave up blocks until a file failed
--     Wheeled      what stands behind the cycle that failed
--     wheeled-whole, wheeled-tried      behind cycles that were whole, and behind a step at the disks
--     wheeled-failed      behind the one that failed
use Rattle.std.proofs.Common.{◌≡◌, ℕ, zero, suc, ◌+◌, ◌<◌, ◌≤◌, true, List, length, take, refl, sym, ◌∙◌, ap, subst, arith}
use Rattle.std.proofs.lemmas.List.{length_push}
use Rattle.std.proofs.lemmas.Option.{same_Some, slice_get_within}
use Rattle.jack_types.specs.declared.files.Format.{Format}
use Rattle.session_model.specs.Courses.{Course}
use Rattle.session_model.specs.Explanations.{Given}
use Rattle.session_model.specs.Rings.{RingBlock, samples_of_blocks}
use Rattle.session_model.specs.Scripts.{Script}
use Rattle.driver_words.specs.Tapes.{HasUnfinished, Tape}
use Rattle.driver_laws.specs.Cycling.{FailsAtRead, FailsAtWrite, HasMetOthers}
use Rattle.driver_laws.specs.Drivers.{Driver, overruns_on, run}
use Rattle.driver_laws.specs.Keeping.{Fits, Keeps, kept_blocks, played_so_far}
use Rattle.driver_laws.proofs.FitLemmas.{Fits-earlier, Fits-failed}
use Rattle.driver_laws.proofs.MeetingLemmas.{Fits-met, Keeps-met}
use Rattle.recorder_files.specs.Recorders.{Reel}
use Rattle.run_laws.specs.Runs.{PlaysAll}
use Rattle.run_laws.specs.Sessions.{Session}
use Rattle.disk_runs.specs.Readings.{DisksBroke, DisksRead, DisksTold}
use Rattle.disk_runs.specs.Rests.{PutsAll}
use Rattle.disk_runs.proofs.AloneLemmas.{PlaysAll-alone}
use Rattle.disk_runs.proofs.FileLemmas.{PutTheirFiles}
use Rattle.disk_runs.proofs.StepLemmas.{tried-read, tried-told}
use Rattle.serial_laws.specs.Faults.{BreakUp, StaysOne, bytes_in}
use Rattle.serial_laws.specs.Steps.{Cycled, GiveUp, IsReel}
use Rattle.serial_laws.proofs.FaultCourses.{HasMetOthers-emptied}
use Rattle.serial_laws.proofs.FaultLemmas.{AreFilled, AreFilled-gave, AreFilled-stepped, IsTold, IsTold-filled, IsTold-tried, WasTried, format_at, reel-of, tried-at}
use Rattle.thread_laws.specs.Segments.{WheeledMany}
use Rattle.thread_laws.specs.Faults.{AtDraining, AtEmptying, AtWheelCapture, AtWheelDisk, AtWheelPlayback, WheelFailed}
use Rattle.thread_laws.proofs.DiskLemmas.{AsMany, HasMetOthers-disks, PlaysAll-reads, PlaysAll-tells, PutsAll-alone, PutsAll-tells, PutsAll-tries, many-after}
use Rattle.thread_laws.proofs.FileLemmas.{unfinished-blocks, unfinished-told}
use Rattle.thread_laws.proofs.FaultKeptLemmas.{HasSoFar, HasSoFar-but, HasSoFar-failed, HasSoFar-keeps, IsNamed, IsNamed-once, IsOwn, own-named, own-stays}
use Rattle.thread_laws.proofs.OwnLemmas.{Fits-set, IsOf, IsOf-disks, IsOf-failed, IsOf-rings, IsOf-stepped}
use Rattle.thread_laws.proofs.TellLemmas.{Tells, Tells-left, playback_of}

-- ---- freewheel cycles that were whole

pub record Way (given : Given) (base : Session) (format : Format) (from to : Session) : Type 0 where
  pub script : to.script ≡ from.script
  pub desk : to.desk ≡ from.desk
  pub of : IsOf base to.driver
  pub named : IsNamed format to.driver.playback
  pub filled : AreFilled to
  pub many : AsMany to
  pub plays : PlaysAll given to
  pub fits : (course : Course) → Fits to.driver course → Fits from.driver course
  pub keeps : (course : Course) → Fits to.driver course → Keeps from.driver course → Keeps to.driver course

-- a step at the disks leaves the recorders
AreFilled-tried : (most : ℕ) (session after : Session) → DisksBroke most session after → AreFilled session → AreFilled after
AreFilled-tried most session after tried filled = subst AreFilled (sym tried.same) (record {
  rings = filled.rings;
  getting = filled.getting;
  tapes = filled.tapes;
  counts = filled.counts;
  each = λ recorder reel is. filled.each recorder reel (record { ring = is.ring; getting = is.getting; tape = is.tape; blocks = is.blocks });
})

module _ (given : Given) (base : Session) (format : Format) (from : Session) where
  pub way-none : IsOf base from.driver → IsNamed format from.driver.playback → AreFilled from → AsMany from → PlaysAll given from → Way given base format from from
  way-none is named filled many plays = record {
    script = refl;
    desk = refl;
    of = is;
    named = named;
    filled = filled;
    many = many;
    plays = plays;
    fits = λ course fits. fits;
    keeps = λ course fits keeps. keeps;
  }

  pub way-gave : (session after : Session) (most : ℕ) → most ≡ session.script.header.ring → Way given base format from session → GiveUp most session after → Way given base format from after
  way-gave session after most size way gives =
      let driver-is : after.driver ≡ record session.driver { rings = after.driver.rings } = ap (λ (s : Session). s.driver) gives.same in
      let players : after.players ≡ session.players = ap (λ (s : Session). s.players) gives.same in
      let back : (course : Course) → Fits after.driver course → Fits session.driver course =
      λ course fits. Fits-set session.driver course session.driver.reading session.driver.set after.driver.rings refl (subst (λ (d : Driver). Fits d course) driver-is fits) in
      record {
        script = ap (λ (s : Session). s.script) gives.same ∙ way.script;
        desk = ap (λ (s : Session). s.desk) gives.same ∙ way.desk;
        of = subst (IsOf base) (sym driver-is) (IsOf-rings base session.driver after.driver.rings gives.rings way.of);
        named = subst (λ (d : Driver). IsNamed format d.playback) (sym driver-is) way.named;
        filled = AreFilled-gave most session after gives way.filled;
        many = ap (λ (d : Driver). length d.disks) driver-is ∙ way.many ∙ sym (ap length players);
        plays = PlaysAll-alone session after given players way.plays;
        fits = λ course fits. way.fits course (back course fits);
        keeps = λ course fits keeps.
            Keeps-met session.driver after.driver course (HasMetOthers-emptied true session after way.filled (subst (λ n. GiveUp n session after) size gives)) (way.keeps course (back course fits) keeps);
      }

  way-tried : (session after : Session) (most : ℕ) → Way given base format from session → DisksBroke most session after → PlaysAll given after → Way given base format from after
  way-tried session after most way tried plays =
      let driver-is : after.driver ≡ record session.driver { disks = after.driver.disks } = ap (λ (s : Session). s.driver) tried.same in
      let met : HasMetOthers session.driver after.driver = HasMetOthers-disks most session after way.many tried in
      let back : (course : Course) → Fits after.driver course → Fits session.driver course = λ course fits. Fits-met session.driver after.driver course met fits in
      record {
        script = ap (λ (s : Session). s.script) tried.same ∙ way.script;
        desk = ap (λ (s : Session). s.desk) tried.same ∙ way.desk;
        of = subst (IsOf base) (sym driver-is) (IsOf-disks base session.driver after.driver.disks tried.disks way.of);
        named = subst (λ (d : Driver). IsNamed format d.playback) (sym driver-is) way.named;
        filled = AreFilled-tried most session after tried way.filled;
        many = many-after most session after way.many tried;
        plays = plays;
        fits = λ course fits. way.fits course (back course fits);
        keeps = λ course fits keeps. Keeps-met session.driver after.driver course met (way.keeps course (back course fits) keeps);
      }

  pub way-read : (session after : Session) (most : ℕ) → Way given base format from session → DisksRead most session after → Way given base format from after
  way-read session after most way reads = way-tried session after most way (tried-read most session after reads) (PlaysAll-reads most session after given way.many reads way.plays)

  pub way-told : (session after : Session) → Way given base format from session → DisksTold session after → Way given base format from after
  way-told session after way tells = way-tried session after 0 way (tried-told 0 session after tells) (PlaysAll-tells session after given way.many tells way.plays)

  pub way-cycled : (session after : Session) → Way given base format from session → Cycled session after → Way given base format from after
  way-cycled session after way cycled =
      let players : after.players ≡ session.players = ap (λ (s : Session). s.players) cycled.same in
      let back : (course : Course) → Fits after.driver course → Fits session.driver course = λ course fits. Fits-earlier session.driver after.driver course cycled.cycles.steps fits in
      record {
        script = ap (λ (s : Session). s.script) cycled.same ∙ way.script;
        desk = ap (λ (s : Session). s.desk) cycled.same ∙ way.desk;
        of = IsOf-stepped base session.driver after.driver cycled.cycles.steps way.of;
        named = IsNamed-once format session.driver after.driver cycled.cycles way.named;
        filled = subst AreFilled (sym cycled.same) (AreFilled-stepped session after.driver cycled.cycles.steps way.filled);
        many = cycled.cycles.steps.as_many_disks ∙ way.many ∙ sym (ap length players);
        plays = PlaysAll-alone session after given players way.plays;
        fits = λ course fits. way.fits course (back course fits);
        keeps = λ course fits keeps. cycled.cycles.keeps course fits (way.keeps course (back course fits) keeps);
      }

  pub way-many : (n : ℕ) (session : Session) → WheeledMany n from session → Way given base format from from → Way given base format from session
  way-many zero session same way = subst (Way given base format from) (sym same) way
  way-many (suc n) session wheels way =
      let before : Session = wheels.0 in
      let once = wheels.2 in
      let ring : ℕ = before.script.header.ring in
      let emptied = way-gave before once.emptied ring refl (way-many n before wheels.1 way) once.empties in
      let read = way-read once.emptied once.read ring emptied once.reads in
      let cycled = way-cycled once.read once.cycled read once.cycles in
      let told = way-told once.cycled once.told cycled once.tells in
      let size : ring ≡ once.told.script.header.ring =
      sym (ap (λ (s : Session). s.script.header.ring) once.tells.same ∙ ap (λ (s : Session). s.script.header.ring) once.cycles.same ∙ ap (λ (s : Session). s.script.header.ring) once.reads.same
      ∙ ap (λ (s : Session). s.script.header.ring) once.empties.same) in
      way-gave once.told session ring size told once.drains

-- ---- what the files tell

module _ (state : Session) (filled : AreFilled state) (course : Course) (kept : ℕ) (own : IsOwn (playback_of state.script) state.driver.playback) (so_far : HasSoFar course kept state.driver) where
  abbrev whole : ℕ → List RingBlock
  whole recorder = kept_blocks course (overruns_on state.driver.overruns recorder) recorder kept

  played : HasUnfinished (playback_of state.script) (played_so_far course kept) (bytes_in state.driver.playback)
  played = unfinished-told (playback_of state.script) state.driver.playback (played_so_far course kept) own so_far.playback

  told-one : (recorder : ℕ) (reel : Reel) (tape : Tape) → IsReel state recorder reel → IsTold (format_at state.script recorder) reel.ring.put tape → HasUnfinished (format_at state.script recorder) (samples_of_blocks (whole recorder)) tape.bytes
  told-one recorder reel tape is one =
      unfinished-blocks (format_at state.script recorder) one.blocks (whole recorder) tape.bytes
      (subst (λ bs. one.blocks ≡ take (length one.blocks) bs) (so_far.rings recorder reel.ring is.ring) one.front) one.unfinished

  pub Tells-filled : Tells state.script course kept state
  Tells-filled = record {
    playback = played;
    records = λ recorder tape there.
        let h : recorder < length state.tapes = slice_get_within state.tapes recorder tape there in
        let was = reel-of state filled recorder (omega (arith, h, filled.tapes)) in
        subst (λ (t : Tape). HasUnfinished (format_at state.script recorder) (samples_of_blocks (whole recorder)) t.bytes) (same_Some was.0.tape tape (sym was.1.tape ∙ there))
        (told-one recorder was.0 was.0.tape was.1 (IsTold-filled (format_at state.script recorder) was.0 (filled.each recorder was.0 was.1)));
  }

  pub Tells-broken : (most : ℕ) (after : Session) → BreakUp most state after → Tells state.script course kept after
  Tells-broken most after breaks = subst (λ (s : Session). Tells state.script course kept s) (sym breaks.same) (record {
    playback = played;
    records = λ recorder tape there.
        let t : WasTried most state after recorder tape = tried-at most state after filled breaks recorder tape there in
        subst (λ (t : Tape). HasUnfinished (format_at state.script recorder) (samples_of_blocks (whole recorder)) t.bytes) t.tape_is
        (told-one recorder t.before t.behind.tape t.was (IsTold-tried (format_at state.script recorder) t.before (filled.each recorder t.before t.was) most t.behind t.tried));
  })

-- ---- the cycle that failed

pub record Wheeled (given : Given) (base : Session) (kept : ℕ) (from to : Session) : Type 0 where
  pub script : to.script ≡ from.script
  pub desk : to.desk ≡ from.desk
  pub of : IsOf base to.driver
  pub low : kept ≤ run to.driver
  pub near : run to.driver ≤ kept + 1
  pub many : AsMany to
  pub puts : PutsAll given to
  pub fits : (course : Course) → Fits to.driver course → Fits from.driver course
  pub tells : (course : Course) → Fits to.driver course → Keeps from.driver course → Tells from.script course kept to

module _ (puts_files : PutTheirFiles) (given : Given) (base from : Session) (kept : ℕ) where
  abbrev format : Format
  format = playback_of from.script

  -- what was kept up to here
  has-way : (session : Session) → Way given base format from session → kept ≡ run session.driver → (course : Course) → Fits session.driver course → Keeps from.driver course → HasSoFar course kept session.driver
  has-way session way count course fits keeps = subst (λ n. HasSoFar course n session.driver) (sym count) (HasSoFar-keeps course session.driver (way.keeps course fits keeps))

  own-way : (session : Session) → Way given base format from session → IsOwn (playback_of session.script) session.driver.playback
  own-way session way = subst (λ (s : Script). IsOwn (playback_of s) session.driver.playback) (sym way.script) (own-named format session.driver.playback way.named)

  -- where no cycle failed
  pub wheeled-whole : (session : Session) → Way given base format from session → kept ≡ run session.driver → Wheeled given base kept from session
  wheeled-whole session way count = record {
    script = way.script;
    desk = way.desk;
    of = way.of;
    low = omega (arith, count);
    near = omega (arith, count);
    many = way.many;
    puts = puts_files session given way.plays;
    fits = way.fits;
    tells = λ course fits keeps. subst (λ (s : Script). Tells s course kept session) way.script (Tells-filled session way.filled course kept (own-way session way) (has-way session way count course fits keeps));
  }

  -- a step at the disks, be it that a read failed
  pub wheeled-tried : (session after : Session) (most : ℕ) → Wheeled given base kept from session → DisksBroke most session after → PutsAll given after → Wheeled given base kept from after
  wheeled-tried session after most wheeled tried puts =
      let driver-is : after.driver ≡ record session.driver { disks = after.driver.disks } = ap (λ (s : Session). s.driver) tried.same in
      let ran : run after.driver ≡ run session.driver = ap (λ (d : Driver). run d) driver-is in
      let back : (course : Course) → Fits after.driver course → Fits session.driver course =
      λ course fits. Fits-met session.driver after.driver course (HasMetOthers-disks most session after wheeled.many tried) fits in
      record {
        script = ap (λ (s : Session). s.script) tried.same ∙ wheeled.script;
        desk = ap (λ (s : Session). s.desk) tried.same ∙ wheeled.desk;
        of = subst (IsOf base) (sym driver-is) (IsOf-disks base session.driver after.driver.disks tried.disks wheeled.of);
        low = let p = wheeled.low in omega (arith, p, ran);
        near = let p = wheeled.near in omega (arith, p, ran);
        many = many-after most session after wheeled.many tried;
        puts = puts;
        fits = λ course fits. wheeled.fits course (back course fits);
        tells = λ course fits keeps.
            Tells-left from.script course kept session after (ap (λ (d : Driver). d.playback) driver-is) (ap (λ (d : Driver). d.overruns) driver-is) (ap (λ (s : Session). s.tapes) tried.same)
            (wheeled.tells course (back course fits) keeps);
      }

  -- the ends of the disks' rings meet behind each failure
  wheeled-told : (session after : Session) → Wheeled given base kept from session → DisksTold session after → Wheeled given base kept from after
  wheeled-told session after wheeled tells = wheeled-tried session after 0 wheeled (tried-told 0 session after tells) (PutsAll-tells session after given wheeled.many tells wheeled.puts)

  -- where the rings gave up blocks until a file failed
  broken : (session after : Session) (most : ℕ) → Way given base format from session → kept ≡ run session.driver → BreakUp most session after → Wheeled given base kept from after
  broken session after most way count breaks =
      let driver-is : after.driver ≡ record session.driver { rings = after.driver.rings } = ap (λ (s : Session). s.driver) breaks.same in
      let players : after.players ≡ session.players = ap (λ (s : Session). s.players) breaks.same in
      let ran : run after.driver ≡ run session.driver = ap (λ (d : Driver). run d) driver-is in
      let back : (course : Course) → Fits after.driver course → Fits session.driver course =
      λ course fits. Fits-set session.driver course session.driver.reading session.driver.set after.driver.rings refl (subst (λ (d : Driver). Fits d course) driver-is fits) in
      record {
        script = ap (λ (s : Session). s.script) breaks.same ∙ way.script;
        desk = ap (λ (s : Session). s.desk) breaks.same ∙ way.desk;
        of = subst (IsOf base) (sym driver-is) (IsOf-rings base session.driver after.driver.rings breaks.rings way.of);
        low = omega (arith, count, ran);
        near = omega (arith, count, ran);
        many = ap (λ (d : Driver). length d.disks) driver-is ∙ way.many ∙ sym (ap length players);
        puts = PutsAll-alone session after given players (puts_files session given way.plays);
        fits = λ course fits. way.fits course (back course fits);
        tells = λ course fits keeps.
            subst (λ (s : Script). Tells s course kept after) way.script
            (Tells-broken session way.filled course kept (own-way session way) (has-way session way count course (back course fits) keeps) most after breaks);
      }

  -- the capture failed
  at-capture : (read failed : Session) → Way given base format from read → kept ≡ run read.driver → FailsAtRead read.driver failed.driver → failed ≡ record read { driver = failed.driver } → Wheeled given base kept from failed
  at-capture read failed way count fails same =
      let one : run failed.driver ≡ run read.driver + 1 = ap length fails.numbers ∙ length_push read.driver.numbers fails.number in
      let players : failed.players ≡ read.players = ap (λ (s : Session). s.players) same in
      let back : (course : Course) → Fits failed.driver course → Fits read.driver course = λ course fits. Fits-failed read.driver failed.driver course fails fits in
      let filled : AreFilled failed = subst AreFilled (sym same) (subst (λ (d : Driver). AreFilled (record read { driver = d })) (sym fails.same) (record {
        rings = way.filled.rings;
        getting = way.filled.getting;
        tapes = way.filled.tapes;
        counts = way.filled.counts;
        each = λ recorder reel is. way.filled.each recorder reel (record { ring = is.ring; getting = is.getting; tape = is.tape; blocks = is.blocks });
      })) in
      let script : failed.script ≡ from.script = ap (λ (s : Session). s.script) same ∙ way.script in
      let own : IsOwn format failed.driver.playback = subst (IsOwn format) (sym (ap (λ (d : Driver). d.playback) fails.same)) (own-named format read.driver.playback way.named) in
      record {
        script = script;
        desk = ap (λ (s : Session). s.desk) same ∙ way.desk;
        of = IsOf-failed base read.driver failed.driver fails way.of;
        low = omega (arith, count, one);
        near = omega (arith, count, one);
        many = ap (λ (d : Driver). length d.disks) fails.same ∙ way.many ∙ sym (ap length players);
        puts = PutsAll-alone read failed given players (puts_files read given way.plays);
        fits = λ course fits. way.fits course (back course fits);
        tells = λ course fits keeps.
            subst (λ (s : Script). Tells s course kept failed) script
            (Tells-filled failed filled course kept (subst (λ (s : Script). IsOwn (playback_of s) failed.driver.playback) (sym script) own)
            (HasSoFar-failed course kept read.driver failed.driver fails (has-way read way count course (back course fits) keeps)));
      }

  -- the playback failed
  at-playback : (read failed : Session) → Way given base format from read → kept ≡ run failed.driver → FailsAtWrite read.driver failed.driver → StaysOne read.driver failed.driver → failed ≡ record read { driver = failed.driver }
      → Wheeled given base kept from failed
  at-playback read failed way count fails stays same =
      let players : failed.players ≡ read.players = ap (λ (s : Session). s.players) same in
      let back : (course : Course) → Fits failed.driver course → Fits read.driver course = λ course fits. Fits-earlier read.driver failed.driver course fails.steps fits in
      let filled : AreFilled failed = subst AreFilled (sym same) (AreFilled-stepped read failed.driver fails.steps way.filled) in
      let script : failed.script ≡ from.script = ap (λ (s : Session). s.script) same ∙ way.script in
      let own : IsOwn format failed.driver.playback = own-stays format read.driver.playback failed.driver.playback stays way.named in
      record {
        script = script;
        desk = ap (λ (s : Session). s.desk) same ∙ way.desk;
        of = IsOf-stepped base read.driver failed.driver fails.steps way.of;
        low = omega (arith, count);
        near = omega (arith, count);
        many = fails.steps.as_many_disks ∙ way.many ∙ sym (ap length players);
        puts = PutsAll-alone read failed given players (puts_files read given way.plays);
        fits = λ course fits. way.fits course (back course fits);
        tells = λ course fits keeps.
            let has : HasSoFar course kept failed.driver =
            subst (λ n. HasSoFar course n failed.driver) (sym count) (HasSoFar-but course failed.driver (fails.keeps course fits (way.keeps course (back course fits) keeps))) in
            subst (λ (s : Script). Tells s course kept failed) script
            (Tells-filled failed filled course kept (subst (λ (s : Script). IsOwn (playback_of s) failed.driver.playback) (sym script) own) has);
      }

  -- the rings were emptied, and those of the disks filled
  behind : (session emptied read : Session) → Way given base format from session → GiveUp session.script.header.ring session emptied → DisksRead session.script.header.ring emptied read → Way given base format from read
  behind session emptied read way empties reads =
      let ring : ℕ = session.script.header.ring in
      way-read given base format from emptied read ring (way-gave given base format from session emptied ring refl way empties) reads

  pub wheeled-failed : (session after : Session) → Way given base format from session → WheelFailed kept session after → Wheeled given base kept from after
  wheeled-failed session after way (AtEmptying count breaks) = broken session after session.script.header.ring way count breaks
  wheeled-failed session after way (AtWheelDisk emptied count empties breaks) =
      let ring : ℕ = session.script.header.ring in
      let there : Way given base format from emptied = way-gave given base format from session emptied ring refl way empties in
      let ran : run emptied.driver ≡ run session.driver = ap (λ (s : Session). run s.driver) empties.same in
      wheeled-tried emptied after ring (wheeled-whole emptied there (count ∙ sym ran)) breaks (PutsAll-tries ring emptied after there.many breaks given there.plays)
  wheeled-failed session after way (AtWheelCapture emptied read failed count empties reads fails same tells) =
      let ran : run read.driver ≡ run session.driver = ap (λ (s : Session). run s.driver) reads.same ∙ ap (λ (s : Session). run s.driver) empties.same in
      wheeled-told failed after (at-capture read failed (behind session emptied read way empties reads) (count ∙ sym ran) fails same) tells
  wheeled-failed session after way (AtWheelPlayback emptied read failed count empties reads fails stays same tells) =
      let ran : run failed.driver ≡ run after.driver = sym (ap (λ (s : Session). run s.driver) tells.same) in
      wheeled-told failed after (at-playback read failed (behind session emptied read way empties reads) (count ∙ sym ran) fails stays same) tells
  wheeled-failed session after way (AtDraining emptied read cycled told count empties reads cycles tells breaks) =
      let ran : run told.driver ≡ run cycled.driver = ap (λ (s : Session). run s.driver) tells.same in
      broken told after session.script.header.ring
      (way-told given base format from cycled told (way-cycled given base format from read cycled (behind session emptied read way empties reads) cycles) tells) (count ∙ sym ran) breaks
