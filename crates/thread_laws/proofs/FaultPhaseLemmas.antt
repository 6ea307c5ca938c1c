-- A phase in threads mode that failed.
--     drove-same      the driver's thread changed the driver alone
--     HasJoined      what stands behind the join
--     StandsUnfinished-phase      what the files tell behind the phase
use Rattle.std.proofs.Common.{◌≡◌, ℕ, suc, ◌+◌, ◌≤◌, Bool, List, length, map, take, slice_get, All, Some, refl, sym, ◌∙◌, ap, subst}
use Rattle.std.specs.Prelude.{IfSome, IsSome}
use Rattle.std.proofs.Math.Seq.{take-length}
use Rattle.std.proofs.lemmas.List.{length-map}
use Rattle.jack_types.specs.declared.files.Format.{Format}
use Rattle.session_model.specs.Courses.{Course}
use Rattle.session_model.specs.Explanations.{Given}
use Rattle.session_model.specs.Histories.{accepted}
use Rattle.session_model.specs.Rings.{RingBlock, samples_of_blocks}
use Rattle.session_model.specs.Scripts.{Script}
use Rattle.session_laws.proofs.ListLemmas.{slice_get-map}
use Rattle.graph_word.specs.declared.view.TakenRow.{TakenRow}
use Rattle.graph_word.specs.Publications.{IsFront, Publishing, Reading}
use Rattle.driver_words.specs.Rings.{Getting, Sending}
use Rattle.driver_words.specs.Tapes.{HasUnfinished, Tape}
use Rattle.control_desk.specs.Desks.{Desk}
use Rattle.control_desk.specs.Laws.{OfCallsAccepted}
use Rattle.driver_laws.specs.Drivers.{Driver, overruns_on, run}
use Rattle.driver_laws.specs.Keeping.{Fits, FitsDisk, Keeps, kept_blocks, played_so_far}
use Rattle.driver_laws.proofs.MeetingLemmas.{Fits-met}
use Rattle.run_laws.specs.Runs.{AtPhase, PlaysAll, RingAtRest}
use Rattle.run_laws.specs.Sessions.{IsFor, Session, course_in}
use Rattle.run_laws.proofs.CourseLemmas.{IsOver-own}
use Rattle.disk_runs.specs.Readings.{DisksBroke, DisksServed}
use Rattle.disk_runs.specs.Rests.{PutsAll}
use Rattle.disk_runs.proofs.AloneLemmas.{PlaysAll-alone}
use Rattle.disk_runs.proofs.FileLemmas.{DisksTell-tried, PutTheirFiles, PutsAll-served}
use Rattle.disk_runs.proofs.PlaceLemmas.{long}
use Rattle.disk_runs.proofs.StepLemmas.{tried-told}
use Rattle.serial_laws.specs.Faults.{bytes_in, told}
use Rattle.serial_laws.proofs.FaultLemmas.{AreFilled, AreFilled-one, format_at}
use Rattle.thread_laws.specs.Segments.{RingsEnded, with_end}
use Rattle.thread_laws.specs.Faults.{AtCapture, AtPlayback, Drove, DroveAll, InFilling, InRun, InWheel, JoinFailed, ServedSome, StandsUnfinished, ThreadFault}
use Rattle.thread_laws.proofs.DiskLemmas.{AsMany, FitsDisk-known, HasMetOthers-disks, PutsAll-alone, PutsAll-tells, PutsAll-tries, many-after}
use Rattle.thread_laws.proofs.FaultKeptLemmas.{Drives, IsNamed, drives}
use Rattle.thread_laws.proofs.OwnLemmas.{Fits-own, Fits-set, IsOf, IsOf-disks, IsOf-own, IsOf-rings, IsOf-set, Keeps-set}
use Rattle.thread_laws.proofs.TellLemmas.{AreFilled-set, AreFrontsOf, Tells, Tells-left, Tells-run, fronts-renewed, playback_of}
use Rattle.thread_laws.proofs.WheelLemmas.{Way, Wheeled, way-many, way-none, way-read, wheeled-failed, wheeled-tried, wheeled-whole}

drove-same : (many kept : ℕ) (session after : Session) → Drove many kept session after → after ≡ record session { driver = after.driver }
drove-same many kept session after (DroveAll count cycles) = cycles.same
drove-same many kept session after (AtCapture whole before fewer count cycles fails same) = same ∙ ap (λ (s : Session). record s { driver = after.driver }) cycles.same
drove-same many kept session after (AtPlayback whole before fewer count cycles fails stays same) = same ∙ ap (λ (s : Session). record s { driver = after.driver }) cycles.same

-- behind the join: the script and the desk as they were, what the players put, and what the files tell by each course that fits, once what was got from the rings is known to be a front
pub record HasJoined (given : Given) (base : Session) (kept : ℕ) (paced served : Session) : Type 0 where
  pub script : served.script ≡ paced.script
  pub desk : served.desk ≡ paced.desk
  pub of : IsOf base served.driver
  pub low : kept ≤ run served.driver
  pub near : run served.driver ≤ kept + 1
  pub many : AsMany served
  pub puts : PutsAll given served
  pub fits : (course : Course) → Fits served.driver course → Fits paced.driver course
  pub tells : AreFrontsOf served → (course : Course) → Fits served.driver course → Keeps paced.driver course → Tells paced.script course kept served

-- where nothing has to be known of the rings
joined-wheeled : (given : Given) (base : Session) (kept : ℕ) (paced served : Session) → Wheeled given base kept paced served → HasJoined given base kept paced served
joined-wheeled given base kept paced served w =
    record { script = w.script; desk = w.desk; of = w.of; low = w.low; near = w.near; many = w.many; puts = w.puts; fits = w.fits; tells = λ fronts course fits keeps. w.tells course fits keeps }

-- the driver's thread and those of the recorders, behind the reading that filled the disks' rings
module _ (puts_files : PutTheirFiles) (given : Given) (base : Session) (many kept : ℕ) (filled driven ended served : Session) (script_is : base.script ≡ filled.script) (way : Way given base (playback_of filled.script) filled filled)
    (drove : Drove many kept filled driven) (ends : RingsEnded driven ended) (serves : ServedSome ended served) where
  same : driven ≡ record filled { driver = driven.driver }
  same = drove-same many kept filled driven drove

  d : Drives base (playback_of filled.script) kept filled.driver driven.driver
  d = drives base (playback_of filled.script) many kept filled driven way.of way.named drove

  length-ended : (rings : List Sending) → length (map with_end rings) ≡ length rings
  length-ended rings = length-map rings with_end

  driver-is : served.driver ≡ record driven.driver { rings = map with_end driven.driver.rings }
  driver-is = ap (λ (s : Session). s.driver) serves.same ∙ ap (λ (s : Session). s.driver) ends.same

  players-are : served.players ≡ filled.players
  players-are = ap (λ (s : Session). s.players) serves.same ∙ ap (λ (s : Session). s.players) ends.same ∙ ap (λ (s : Session). s.players) same

  fits-driven : (course : Course) → Fits served.driver course → Fits driven.driver course
  fits-driven course fits = Fits-set driven.driver course driven.driver.reading driven.driver.set (map with_end driven.driver.rings) refl (subst (λ (x : Driver). Fits x course) driver-is fits)

  joined-run : HasJoined given base kept filled served
  joined-run = record {
    script = ap (λ (s : Session). s.script) serves.same ∙ ap (λ (s : Session). s.script) ends.same ∙ ap (λ (s : Session). s.script) same;
    desk = ap (λ (s : Session). s.desk) serves.same ∙ ap (λ (s : Session). s.desk) ends.same ∙ ap (λ (s : Session). s.desk) same;
    of = subst (IsOf base) (sym driver-is) (IsOf-rings base driven.driver (map with_end driven.driver.rings) (length-ended driven.driver.rings) d.of);
    low = subst (λ (x : Driver). kept ≤ run x) (sym driver-is) d.low;
    near = subst (λ (x : Driver). run x ≤ kept + 1) (sym driver-is) d.near;
    many = ap (λ (x : Driver). length x.disks) driver-is ∙ d.of.disks ∙ sym way.of.disks ∙ way.many ∙ sym (ap length players-are);
    puts = PutsAll-alone filled served given players-are (puts_files filled given way.plays);
    fits = λ course fits. d.fits course (fits-driven course fits);
    tells = λ fronts course fits keeps.
        Tells-run filled driven ended served way.filled same (d.of.rings ∙ ap (λ (s : Script). length s.header.recorders) script_is) ends serves fronts course kept d.own (d.so_far course (fits-driven course fits) keeps);
  }

-- behind a way from an earlier session
joined-from : (given : Given) (base : Session) (kept : ℕ) (format : Format) (paced filled served : Session) → Way given base format paced filled → HasJoined given base kept filled served → HasJoined given base kept paced served
joined-from given base kept format paced filled served way joined = record {
  script = joined.script ∙ way.script;
  desk = joined.desk ∙ way.desk;
  of = joined.of;
  low = joined.low;
  near = joined.near;
  many = joined.many;
  puts = joined.puts;
  fits = λ course fits. way.fits course (joined.fits course fits);
  tells = λ fronts course fits keeps.
      subst (λ (s : Script). Tells s course kept served) way.script (joined.tells fronts course fits (way.keeps course (joined.fits course fits) keeps));
}

-- the readers, whether one broke or not
joined-readers : (given : Given) (base : Session) (kept : ℕ) (paced got served : Session) → HasJoined given base kept paced got → DisksServed got served → PutsAll given served → HasJoined given base kept paced served
joined-readers given base kept paced got served joined readers puts =
    let driver-is : served.driver ≡ got.driver = ap (λ (s : Session). s.driver) readers.same in
    let back : (course : Course) → Fits served.driver course → Fits got.driver course = λ course fits. subst (λ (x : Driver). Fits x course) driver-is fits in
    record {
      script = ap (λ (s : Session). s.script) readers.same ∙ joined.script;
      desk = ap (λ (s : Session). s.desk) readers.same ∙ joined.desk;
      of = subst (IsOf base) (sym driver-is) joined.of;
      low = subst (λ (x : Driver). kept ≤ run x) (sym driver-is) joined.low;
      near = subst (λ (x : Driver). run x ≤ kept + 1) (sym driver-is) joined.near;
      many = ap (λ (x : Driver). length x.disks) driver-is ∙ joined.many ∙ sym readers.players;
      puts = puts;
      fits = λ course fits. joined.fits course (back course fits);
      tells = λ fronts course fits keeps.
          Tells-left paced.script course kept got served (ap (λ (x : Driver). x.playback) driver-is) (ap (λ (x : Driver). x.overruns) driver-is) (ap (λ (s : Session). s.tapes) readers.same)
          (joined.tells (λ recorder ring getting here there.
          fronts recorder ring getting (ap (λ (x : Driver). slice_get x.rings recorder) driver-is ∙ here) (ap (λ (s : Session). slice_get s.getting recorder) readers.same ∙ there)) course (back course fits) keeps);
    }

-- a way from where it ends
way-here : (given : Given) (base : Session) (format : Format) (from to : Session) → from.script ≡ to.script → Way given base (playback_of from.script) from to → Way given base (playback_of to.script) to to
way-here given base format from to script way =
    way-none given base (playback_of to.script) to way.of (subst (λ (s : Script). IsNamed (playback_of s) to.driver.playback) script way.named) way.filled way.many way.plays

module _ (of_calls : OfCallsAccepted) (puts_files : PutTheirFiles) (given : Given) (session after : Session) (done many kept : ℕ) (freewheel : Bool) (at : AtPhase session given done) (threads : IsSome session.script.header.threads)
    (fault : ThreadFault done many freewheel kept session after) where
  -- ---- before the cycles

  own : IsFor session given
  own = at.given_kept.own

  grouped-driver : fault.grouped.driver ≡ session.driver
  grouped-driver = ap (λ (s : Session). s.driver) fault.groups.same

  abbrev desk-paced : Desk
  desk-paced = record session.desk { history = fault.grouped.desk.history; phase = suc done; publishing = fault.meets.publishing }

  paced-is : fault.paced ≡ record session { desk = desk-paced; driver = record session.driver { reading = fault.meets.reading; set = fault.paces.period } }
  paced-is =
      fault.paces.same
      ∙ ap (λ (s : Session). record s { driver = record s.driver { set = fault.paces.period } }) fault.meets.same
      ∙ ap (λ (s : Session). record s { desk = record s.desk { publishing = fault.meets.publishing }; driver = record s.driver { reading = fault.meets.reading; set = fault.paces.period } }) fault.groups.same

  rows-paced : fault.meets.reading.rows ≡ session.driver.reading.rows
  rows-paced = ap (λ (r : Reading). r.rows) fault.meets.meets.reader_is ∙ ap (λ (d : Driver). d.reading.rows) grouped-driver

  script-paced : fault.paced.script ≡ session.script
  script-paced = ap (λ (s : Session). s.script) paced-is

  driver-paced : fault.paced.driver ≡ record session.driver { reading = fault.meets.reading; set = fault.paces.period }
  driver-paced = ap (λ (s : Session). s.driver) paced-is

  is-paced : IsOf session fault.paced.driver
  is-paced = subst (IsOf session) (sym driver-paced) (IsOf-set session session.driver fault.meets.reading fault.paces.period rows-paced (IsOf-own session at.ran.one))

  named : IsNamed (playback_of fault.paced.script) fault.paced.driver.playback
  named = subst (λ (s : Session). IsNamed (playback_of s.script) s.driver.playback) (sym paced-is) (record {
    tape = at.files.playback.tape;
    attached = at.files.playback.attached;
    format_is = subst (λ o. IfSome o (λ (tape : Tape). tape.format ≡ playback_of session.script)) at.files.playback.attached at.files.playback_format;
  })

  filled : AreFilled fault.paced
  filled = subst AreFilled (sym paced-is)
      (AreFilled-set session desk-paced fault.meets.reading fault.paces.period
      (AreFilled-one session at.ran.one at.files (λ recorder ring got here there.
      let rest : RingAtRest given session recorder ring got = at.rings threads recorder ring got here there in
      rest.all_got ∙ sym (take-length ring.put) ∙ ap (λ (bs : List RingBlock). take (length bs) ring.put) (sym rest.all_got))))

  players-paced : fault.paced.players ≡ session.players
  players-paced = ap (λ (s : Session). s.players) paced-is

  many-paced : AsMany fault.paced
  many-paced = ap (λ (d : Driver). length d.disks) driver-paced ∙ long session at.ran.one ∙ sym (ap length players-paced)

  plays-paced : PlaysAll given fault.paced
  plays-paced = PlaysAll-alone session fault.paced given players-paced at.plays

  abbrev format : Format
  format = playback_of fault.paced.script

  way : Way given session format fault.paced fault.paced
  way = way-none given session format fault.paced is-paced named filled many-paced plays-paced

  joined : JoinFailed many freewheel kept fault.paced fault.served → HasJoined given session kept fault.paced fault.served
  joined (InFilling in_run count breaks) =
      joined-wheeled given session kept fault.paced fault.served
      (wheeled-tried puts_files given session fault.paced kept fault.paced fault.served fault.paced.script.header.ring (wheeled-whole puts_files given session fault.paced kept fault.paced way count) breaks
      (PutsAll-tries fault.paced.script.header.ring fault.paced fault.served many-paced breaks given plays-paced))
  joined (InRun full driven ended got in_run reads drove ends serves readers) =
      let there : Way given session format fault.paced full = way-read given session format fault.paced fault.paced full fault.paced.script.header.ring way reads in
      let script : fault.paced.script ≡ full.script = sym there.script in
      let here : Way given session (playback_of full.script) full full = way-here given session format fault.paced full script there in
      let run_joined : HasJoined given session kept full got = joined-run puts_files given session many kept full driven ended got (sym script-paced ∙ script) here drove ends serves in
      let players : got.players ≡ full.players = players-are puts_files given session many kept full driven ended got (sym script-paced ∙ script) here drove ends serves in
      joined-readers given session kept fault.paced got fault.served (joined-from given session kept format fault.paced full got there run_joined) readers
      (PutsAll-served puts_files got fault.served given readers (PlaysAll-alone full got given players there.plays))
  joined (InWheel whole wheeled in_wheel fewer wheels fails) =
      joined-wheeled given session kept fault.paced fault.served
      (wheeled-failed puts_files given session fault.paced kept wheeled fault.served (way-many given session format fault.paced whole wheeled wheels way) fails)

  join : HasJoined given session kept fault.paced fault.served
  join = joined fault.joins

  -- ---- behind the join

  abbrev desk : Desk
  desk = record fault.gone.desk { publishing = fault.meets_again.publishing }

  abbrev driver : Driver
  driver = record fault.served.driver { reading = fault.meets_again.reading; rings = fault.renewed.driver.rings; disks = fault.told.driver.disks }

  abbrev last : Session
  last = record fault.served { desk = desk; driver = driver; getting = fault.renewed.getting; players = fault.told.players }

  after-is : after ≡ last
  after-is =
      fault.meets_again.same
      ∙ ap (λ (s : Session). record s { desk = record s.desk { publishing = fault.meets_again.publishing }; driver = record s.driver { reading = fault.meets_again.reading } }) fault.tells.same
      ∙ ap (λ (s : Session). record s { desk = record s.desk { publishing = fault.meets_again.publishing }; driver = record s.driver { reading = fault.meets_again.reading; disks = fault.told.driver.disks }; players = fault.told.players }) fault.renews.same
      ∙ ap (λ (s : Session). record s {
        desk = record s.desk { publishing = fault.meets_again.publishing };
        driver = record s.driver { reading = fault.meets_again.reading; rings = fault.renewed.driver.rings; disks = fault.told.driver.disks };
        getting = fault.renewed.getting;
        players = fault.told.players;
      }) fault.goes.same

  gone-driver : fault.gone.driver ≡ fault.served.driver
  gone-driver = ap (λ (s : Session). s.driver) fault.goes.same

  gone-getting : fault.gone.getting ≡ fault.served.getting
  gone-getting = ap (λ (s : Session). s.getting) fault.goes.same

  renewed-driver : fault.renewed.driver ≡ record fault.served.driver { rings = fault.renewed.driver.rings }
  renewed-driver = ap (λ (s : Session). s.driver) fault.renews.same ∙ ap (λ (d : Driver). record d { rings = fault.renewed.driver.rings }) gone-driver

  renewed-players : fault.renewed.players ≡ fault.served.players
  renewed-players = ap (λ (s : Session). s.players) fault.renews.same ∙ ap (λ (s : Session). s.players) fault.goes.same

  told-driver : fault.told.driver ≡ record fault.served.driver { rings = fault.renewed.driver.rings; disks = fault.told.driver.disks }
  told-driver = ap (λ (s : Session). s.driver) fault.tells.same ∙ ap (λ (d : Driver). record d { disks = fault.told.driver.disks }) renewed-driver

  told-desk : fault.told.desk ≡ fault.gone.desk
  told-desk = ap (λ (s : Session). s.desk) fault.tells.same ∙ ap (λ (s : Session). s.desk) fault.renews.same

  rows-last : fault.meets_again.reading.rows ≡ fault.told.driver.reading.rows
  rows-last = ap (λ (r : Reading). r.rows) fault.meets_again.meets.reader_is

  rows-served : fault.meets_again.reading.rows ≡ fault.served.driver.reading.rows
  rows-served = rows-last ∙ ap (λ (d : Driver). d.reading.rows) told-driver

  all-last : fault.meets_again.publishing.all ≡ fault.told.desk.publishing.all
  all-last = ap (λ (p : Publishing). p.all) fault.meets_again.meets.publisher_is

  published : fault.meets_again.publishing.all ≡ accepted fault.gone.desk.history
  published = all-last ∙ ap (λ (d : Desk). d.publishing.all) told-desk ∙ fault.goes.desk.published

  row-fronts : All (λ (row : TakenRow). IsFront row.changes fault.meets_again.publishing.all) fault.meets_again.reading.rows
  row-fronts =
      subst (λ changes. All (λ (row : TakenRow). IsFront row.changes changes) fault.meets_again.reading.rows) (sym all-last)
      (subst (All (λ (row : TakenRow). IsFront row.changes fault.told.desk.publishing.all)) (sym rows-last) fault.meets_again.meets.met.rows)

  script-last : fault.served.script ≡ session.script
  script-last = join.script ∙ script-paced

  paced-desk : fault.paced.desk.script ≡ session.desk.script
  paced-desk = ap (λ (s : Session). s.desk.script) fault.paces.same ∙ ap (λ (s : Session). s.desk.script) fault.meets.same ∙ ap (λ (s : Session). s.desk.script) fault.groups.same

  desk-script : fault.gone.desk.script ≡ session.script
  desk-script = fault.goes.goes.script ∙ ap (λ (d : Desk). d.script) join.desk ∙ paced-desk ∙ at.ran.one.desk_script

  is-last : IsOf session driver
  is-last =
      IsOf-disks session (record fault.served.driver { reading = fault.meets_again.reading; rings = fault.renewed.driver.rings }) fault.told.driver.disks (fault.tells.disks ∙ ap (λ (d : Driver). length d.disks) renewed-driver)
      (IsOf-rings session (record fault.served.driver { reading = fault.meets_again.reading }) fault.renewed.driver.rings (fault.renews.rings ∙ ap (λ (d : Driver). length d.rings) gone-driver)
      (IsOf-set session fault.served.driver fault.meets_again.reading fault.served.driver.set rows-served join.of))

  abbrev course : Course
  course = course_in given last

  -- what was got of the disks
  tried : DisksBroke 0 fault.renewed fault.told
  tried = tried-told 0 fault.renewed fault.told fault.tells

  many-renewed : AsMany fault.renewed
  many-renewed = ap (λ (d : Driver). length d.disks) renewed-driver ∙ join.many ∙ sym (ap length renewed-players)

  puts-told : PutsAll given fault.told
  puts-told = PutsAll-tells fault.renewed fault.told given many-renewed fault.tells (PutsAll-alone fault.served fault.renewed given renewed-players join.puts)

  disks-last : (disk : ℕ) (got : Getting) → slice_get fault.told.driver.disks disk ≡ Some got → FitsDisk course disk got
  disks-last = FitsDisk-known fault.told given course (many-after 0 fault.renewed fault.told many-renewed tried) puts-told (DisksTell-tried 0 fault.renewed fault.told tried) (IsOver-own last given)

  fits-last : Fits driver course
  fits-last = Fits-own of_calls session last given own script-last fault.goes.desk.legal published desk-script is-last row-fronts disks-last

  fits-told : Fits fault.told.driver course
  fits-told = Fits-set fault.told.driver course fault.meets_again.reading fault.told.driver.set fault.told.driver.rings rows-last
      (subst (λ (d : Driver). Fits (record d { reading = fault.meets_again.reading }) course) (sym told-driver) fits-last)

  fits-served : Fits fault.served.driver course
  fits-served = Fits-set fault.served.driver course fault.served.driver.reading fault.served.driver.set fault.renewed.driver.rings refl
      (subst (λ (d : Driver). Fits d course) renewed-driver
      (Fits-met fault.renewed.driver fault.told.driver course (HasMetOthers-disks 0 fault.renewed fault.told many-renewed tried) fits-told))

  fits-paced : Fits fault.paced.driver course
  fits-paced = join.fits course fits-served

  keeps-paced : Keeps fault.paced.driver course
  keeps-paced = subst (λ (d : Driver). Keeps d course) (sym driver-paced)
      (Keeps-set session.driver course fault.meets.reading fault.paces.period
      (at.given_kept.keeps course (IsOver-own last given)
      (Fits-set session.driver course fault.meets.reading fault.paces.period session.driver.rings rows-paced (subst (λ (d : Driver). Fits d course) driver-paced fits-paced))))

  fronts : AreFrontsOf fault.served
  fronts recorder ring got here there =
      fronts-renewed fault.gone fault.renewed fault.renews recorder ring got (ap (λ (d : Driver). slice_get d.rings recorder) gone-driver ∙ here) (ap (λ gs. slice_get gs recorder) gone-getting ∙ there)

  tells : Tells session.script course kept fault.served
  tells = subst (λ (s : Script). Tells s course kept fault.served) script-paced (join.tells fronts course fits-served keeps-paced)

  script-own : session.script ≡ given.script
  script-own = sym own.script

  stands-last : StandsUnfinished kept (told last) given
  stands-last = record {
    low = join.low;
    near = join.near;
    playback = subst (λ (s : Script). HasUnfinished (playback_of s) (played_so_far course kept) (bytes_in fault.served.driver.playback)) script-own tells.playback;
    records = λ recorder file there.
        let w = slice_get-map (λ (tape : Tape). tape.bytes) fault.served.tapes recorder file there in
        let whole : List RingBlock = kept_blocks course (overruns_on fault.served.driver.overruns recorder) recorder kept in
        subst (λ (s : Script). HasUnfinished (format_at s recorder) (samples_of_blocks whole) file) script-own
        (subst (λ bytes. HasUnfinished (format_at session.script recorder) (samples_of_blocks whole) bytes) w.2 (tells.records recorder w.0 w.1));
  }

  pub StandsUnfinished-phase : StandsUnfinished kept (told after) given
  StandsUnfinished-phase = subst (λ (s : Session). StandsUnfinished kept (told s) given) (sym after-is) stands-last
