-- What the report prints, part by part.
--     report_in-of      it is the report of the one computation over the session's lists
use Rattle.std.proofs.Common.{◌≡◌, ℕ, suc, ◌+◌, ◌<◌, min, List, [], ◌∷◌, length, map, get_or, slice_index_or, refl, sym, ◌∙◌, ap, ap₂, subst, arith}
use Rattle.std.specs.Option.{option_map_or}
use Rattle.std.proofs.lemmas.Option.{get_or_from_slice_get}
use Rattle.jack_types.specs.declared.commands.Change.{Change}
use Rattle.jack_types.specs.declared.commands.Command.{Command}
use Rattle.jack_types.specs.declared.commands.Command.TheVariants.{Open}
use Rattle.jack_types.specs.declared.kinds.Kind.TheVariants.{Meter, Midilog}
use Rattle.jack_types.specs.declared.moments.Moment.{Moment}
use Rattle.jack_types.specs.declared.replies.Overrun.{Overrun}
use Rattle.jack_types.specs.declared.replies.Underrun.{Underrun}
use Rattle.session_model.specs.Courses.{Course, number, played_before}
use Rattle.session_model.specs.Cycles.{memory}
use Rattle.session_model.specs.Disks.{file_blocks}
use Rattle.session_model.specs.Explanations.{Given}
use Rattle.session_model.specs.Histories.{accepted}
use Rattle.session_model.specs.Kinds.{Memory}
use Rattle.session_model.specs.Recorders.{kept_before}
use Rattle.session_model.specs.Reports.{report_of, printed_cycle, printed_disk, printed_recorder, meters_by, events_by, last_log, last_peak}
use Rattle.session_model.specs.Samples.{below}
use Rattle.session_model.specs.Scripts.{Script, phases, turns}
use Rattle.session_model.specs.Transport.{moment}
use Rattle.session_laws.proofs.ActivationLemmas.{get_or-map_below}
use Rattle.session_laws.proofs.ListLemmas.{flat_map-same}
use Rattle.driver_words.specs.Rings.{Getting, Sending}
use Rattle.driver_laws.specs.Drivers.{log_in, memory_in, overruns_on, peak_in, run, underruns_on}
use Rattle.driver_laws.specs.Keeping.{Keeps, kept_blocks}
use Rattle.serial_lanes.specs.Laws.{CyclesTotal}
use Rattle.run_laws.specs.Runs.{RanPhases}
use Rattle.run_laws.specs.Sessions.{KeepsGiven, Session, course_in, printed_of}
use Rattle.run_laws.specs.Told.{cycle_in, disk_in, events_from, meters_from, no_moment, recorder_in, report_in}
use Rattle.run_laws.proofs.CourseLemmas.{IsOver-own}
use Rattle.run_laws.proofs.PlaceLemmas.{map-below, mapped_there, some_at}

-- the blocks kept are as many as the definition counts
abbrev pub KeptAreCounted : Type 0
KeptAreCounted = (course : Course) (losses : List Overrun) (recorder n : ℕ) → length (kept_blocks course losses recorder n) ≡ kept_before course losses recorder (n + 1)

module _ (kept : KeptAreCounted) (total : CyclesTotal) (session : Session) (given : Given) (ran : RanPhases session (length (phases session.script))) (given_kept : KeepsGiven given session) where
  abbrev course : Course
  course = course_in given session

  keeps : Keeps session.driver course
  keeps = given_kept.keeps course (IsOver-own session given) given_kept.fits

  script_is : given.script ≡ session.script
  script_is = given_kept.own.script

  all_cycles : run session.driver ≡ length (turns given.script)
  all_cycles = ran.cycles ∙ total session.script ∙ ap (λ (s : Script). length (turns s)) (sym script_is)

  cycle_at : (i : ℕ) → i < run session.driver → cycle_in session.driver i ≡ printed_cycle course (i + 1)
  cycle_at i h =
      let next : i + 1 ≡ suc i = omega arith in
      let of_number : number course (i + 1) ≡ slice_index_or session.driver.numbers i 0 = ap (λ k. number course k) next in
      let of_moment : slice_index_or session.driver.moments i no_moment ≡ moment course (i + 1) =
      ap (λ (ms : List Moment). get_or ms i no_moment) keeps.moments ∙ get_or-map_below (λ j. moment course (j + 1)) (run session.driver) i no_moment h in
      ap₂ (λ n m. record { number = n; moment = m }) (sym of_number) of_moment

  cycles : (report_in session).cycles ≡ (report_of course session.desk.history (printed_of session).overruns).cycles
  cycles = map-below (cycle_in session.driver) (λ i. printed_cycle course (i + 1)) (run session.driver) cycle_at ∙ ap (λ n. map (λ i. printed_cycle course (i + 1)) (below n)) all_cycles

  memory_is : (birth : ℕ) → memory course (length (turns given.script)) birth ≡ memory_in session.driver birth
  memory_is birth = sym (ap (λ n. memory course n birth) all_cycles) ∙ sym (keeps.driven.memories birth)

  peak_is : (birth : ℕ) → peak_in session.driver birth ≡ last_peak course birth
  peak_is birth = ap (λ o. option_map_or (λ (kept : Memory). kept.peak) o 0) (sym (memory_is birth))

  log_is : (birth : ℕ) → log_in session.driver birth ≡ last_log course birth
  log_is birth = ap (λ o. option_map_or (λ (kept : Memory). kept.log) o []) (sym (memory_is birth))

  meter_by : (birth : ℕ) (command : Command) → meters_from session.driver birth command ≡ meters_by course birth command
  meter_by birth (Open client Meter) = ap (λ n. record { client = client; peak = n } ∷ []) (peak_is birth)
  meter_by birth _ = refl

  event_by : (birth : ℕ) (command : Command) → events_from session.driver birth command ≡ events_by course birth command
  event_by birth (Open client Midilog) = ap (map (λ logged. record { client = client; logged = logged })) (log_is birth)
  event_by birth _ = refl

  module _ (counted : session.counts ≡ map (λ (ring : Sending). length ring.put) session.driver.rings) where
    recorder_at : (r : ℕ) → r < length session.script.header.recorders → recorder_in session r ≡ printed_recorder course (printed_of session).overruns r
    recorder_at r h =
        let losses : List Overrun = overruns_on session.driver.overruns r in
        let lost : slice_index_or (printed_of session).overruns r [] ≡ losses = get_or-map_below (overruns_on session.driver.overruns) (length session.script.header.recorders) r [] h in
        let as_many : length session.driver.rings ≡ length session.script.header.recorders = ran.one.rings.recorders ∙ ap (λ (s : Script). length s.header.recorders) ran.one.driver_script in
        let found = some_at session.driver.rings r (subst (λ n. r < n) (sym as_many) h) in
        let ring : Sending = found.0 in
        let put : ring.put ≡ kept_blocks course losses r (run session.driver) = (keeps.rings r ring found.1).put in
        let count : slice_index_or session.counts r 0 ≡ length ring.put =
        ap (λ ns. get_or ns r 0) counted ∙ get_or_from_slice_get (map (λ (one : Sending). length one.put) session.driver.rings) r (length ring.put) 0 (mapped_there (λ (one : Sending). length one.put) session.driver.rings r ring found.1) in
        let blocks : slice_index_or session.counts r 0 ≡ kept_before course losses r (length (turns given.script) + 1) =
        count ∙ ap length put ∙ kept course losses r (run session.driver) ∙ ap (λ n. kept_before course losses r (n + 1)) all_cycles in
        ap₂ (λ n (os : List Overrun). record { recorder = r; blocks = n; overruns = os }) (blocks ∙ ap (λ (os : List Overrun). kept_before course os r (length (turns given.script) + 1)) (sym lost)) (sym lost)

    recorders : (report_in session).recorders ≡ (report_of course session.desk.history (printed_of session).overruns).recorders
    recorders =
        map-below (recorder_in session) (printed_recorder course (printed_of session).overruns) (length session.script.header.recorders) recorder_at
        ∙ ap (λ n. map (printed_recorder course (printed_of session).overruns) (below n)) (ap (λ (s : Script). length s.header.recorders) (sym script_is))

    disk_at : (d : ℕ) → d < length session.script.header.disks → disk_in session d ≡ printed_disk course d
    disk_at d h =
        let missed : slice_index_or (printed_of session).underruns d [] ≡ underruns_on session.driver.underruns d = get_or-map_below (underruns_on session.driver.underruns) (length session.script.header.disks) d [] h in
        let as_many : length session.driver.disks ≡ length session.script.header.disks = ran.one.rings.disks ∙ ap (λ (s : Script). length s.header.disks) ran.one.driver_script in
        let found = some_at session.driver.disks d (subst (λ n. d < n) (sym as_many) h) in
        let got : Getting = found.0 in
        let count : slice_index_or session.driver.played d 0 ≡ length got.got =
        ap (λ ns. get_or ns d 0) (sym ran.one.rings.gets) ∙ get_or_from_slice_get (map (λ (one : Getting). length one.got) session.driver.disks) d (length got.got) 0 (mapped_there (λ (one : Getting). length one.got) session.driver.disks d got found.1) in
        ap₂ (λ n (us : List Underrun). record { disk = d; blocks = n; underruns = us })
        (count ∙ (keeps.disks d got found.1).count ∙ ap (λ n. min (file_blocks course d) (played_before course d (n + 1))) all_cycles)
        (sym missed)

    disks : (report_in session).disks ≡ (report_of course session.desk.history (printed_of session).overruns).disks
    disks =
        map-below (disk_in session) (printed_disk course) (length session.script.header.disks) disk_at
        ∙ ap (λ n. map (printed_disk course) (below n)) (ap (λ (s : Script). length s.header.disks) (sym script_is))

    pub report_in-of : report_in session ≡ report_of course session.desk.history (printed_of session).overruns
    report_in-of i = record {
      calls = (report_in session).calls;
      cycles = cycles i;
      meters = flat_map-same (λ (change : Change). meters_from session.driver change.number change.command) (λ (change : Change). meters_by course change.number change.command) (λ change. meter_by change.number change.command) (accepted session.desk.history) i;
      events = flat_map-same (λ (change : Change). events_from session.driver change.number change.command) (λ (change : Change). events_by course change.number change.command) (λ change. event_by change.number change.command) (accepted session.desk.history) i;
      recorders = recorders i;
      disks = disks i;
    }
