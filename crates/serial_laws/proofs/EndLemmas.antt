-- What stands behind the end of a serial session.
--     RanPhases-ended      so many phases were run, as before it
--     Ends-ended      the files are those of the one computation over the session's lists
use Rattle.std.proofs.Common.{◌≡◌, ℕ, ◌*◌, ◌<◌, ◌≤◌, List, [], length, map, get_or, slice_get, slice_index_or, ℤ, IfSome, Option, Some, sym, ◌∙◌, ap, ap₂, subst, arith}
use Rattle.std.proofs.lemmas.Option.{get_or_from_slice_get, same_Some, slice_get_within}
use Rattle.jack_types.specs.Recorders.{no_format}
use Rattle.jack_types.specs.declared.files.Format.{Format}
use Rattle.jack_types.specs.declared.replies.Overrun.{Overrun}
use Rattle.session_model.specs.Courses.{Course}
use Rattle.session_model.specs.Explanations.{Given, overruns_of, playback_text, record_text}
use Rattle.session_model.specs.Playback.{played_back, playback_format}
use Rattle.session_model.specs.Recorders.{recorded, recorder_format}
use Rattle.session_model.specs.Rings.{RingBlock, samples_of_blocks}
use Rattle.session_model.specs.Scripts.{Script, phases, turns}
use Rattle.session_model.specs.WaveFiles.{wave_text}
use Rattle.session_laws.proofs.ActivationLemmas.{get_or-map_below}
use Rattle.driver_words.specs.Rings.{items_of}
use Rattle.driver_words.specs.Tapes.{HasSamples, Tape}
use Rattle.run_laws.specs.driver_laws.specs.Drivers.{channels_on, frames_run, overruns_on, run}
use Rattle.run_laws.specs.driver_laws.specs.Keeping.{HasTape, Keeps, kept_blocks, played_so_far}
use Rattle.run_laws.specs.serial_lanes.specs.Laws.{CyclesTotal}
use Rattle.run_laws.specs.Runs.{AtPhase, HasFiles, RanPhases}
use Rattle.run_laws.specs.Sessions.{IsOne, KeepsGiven, Session, course_in, printed_of}
use Rattle.run_laws.specs.Told.{Ends}
use Rattle.run_laws.proofs.CourseLemmas.{IsOver-own}
use Rattle.run_laws.proofs.PlaceLemmas.{mapped_there}
use Rattle.serial_laws.specs.Endings.{EndsAll}
use Rattle.serial_laws.specs.Steps.{IsSound}
use Rattle.serial_laws.proofs.EndKeeps.{KeepsGiven-ended, MeetingKeeps, ended}
use Rattle.serial_laws.proofs.EndRings.{EndedAt, capacities-same, capacity_at, counts-put, ended_at, format-emptied, pairs-stay, puts-same, rings-stay, samples-all}

-- behind all cycles the playback has what the playback file holds
abbrev pub AllPlayedBack : Type 0
AllPlayedBack = (course : Course) → played_so_far course (length (turns course.script)) ≡ played_back course

-- and the blocks kept have the samples of the recorder's file
abbrev pub KeptAreRecorded : Type 0
KeptAreRecorded = (course : Course) (losses : List Overrun) (recorder : ℕ) → samples_of_blocks (kept_blocks course losses recorder (length (turns course.script))) ≡ recorded course losses recorder

IsOne-ended : (session after : Session) → IsOne session → HasFiles session → EndsAll session after → IsOne (ended session after)
IsOne-ended session after one files ends = record {
  lawful = one.lawful;
  desk_script = one.desk_script;
  driver_script = one.driver_script;
  desk = one.desk;
  table = one.table;
  base = one.base;
  rows = record { cycles = one.rows.cycles; numbers = one.rows.numbers; last = one.rows.last; place = one.rows.place; base = one.rows.base };
  rings = record {
    recorders = ends.rings ∙ one.rings.recorders;
    disks = one.rings.disks;
    puts = puts-same session after one files ends ∙ one.rings.puts;
    gets = one.rings.gets;
    own_disks = one.rings.own_disks;
    own = λ recorder ring there.
        let stays = rings-stay session after one files ends recorder ring there in
        let old = one.rings.own recorder stays.0 stays.1 in
        record { samples = stays.2.samples ∙ old.samples; most = stays.2.most ∙ old.most; items = subst (λ (blocks : List RingBlock). items_of blocks ≤ frames_run session.driver * channels_on session.driver.script recorder) (sym stays.2.put) old.items };
  };
  own_recorders = one.own_recorders;
  own_disks = one.own_disks;
  capacity = capacities-same session after one files ends;
  recorder_ends = ends.getting ∙ one.recorder_ends;
  recorder_pairs = pairs-stay session after one files ends;
  disk_ends = one.disk_ends;
  disk_pairs = one.disk_pairs;
}

pub RanPhases-ended : (session after : Session) → IsSound session → (done : ℕ) → RanPhases session done → EndsAll session after → RanPhases after done
RanPhases-ended session after sound done ran ends = subst (λ (s : Session). RanPhases s done) (sym ends.same) there
  where
    there : RanPhases (ended session after) done
    there = record {
      one = IsOne-ended session after ran.one sound.files ends;
      phase = ran.phase;
      used = ran.used;
      cycles = ran.cycles;
      met = record { met = ran.met.met; reader = ran.met.reader; publisher = ran.met.publisher };
      rising = ran.rising;
      within = ran.within;
      misses = record { overruns = ran.misses.overruns; underruns = ran.misses.underruns };
    }

module _ (keeps_met : MeetingKeeps) (played : AllPlayedBack) (kept_recorded : KeptAreRecorded) (total : CyclesTotal) (given : Given) (session after : Session) (sound : IsSound session)
    (at_end : AtPhase session given (length (phases session.script))) (ends : EndsAll session after) where
  abbrev course : Course
  course = course_in given session

  keeps : Keeps session.driver course
  keeps = at_end.given_kept.keeps course (IsOver-own session given) at_end.given_kept.fits

  script_is : given.script ≡ session.script
  script_is = at_end.given_kept.own.script

  all_cycles : run session.driver ≡ length (turns given.script)
  all_cycles = at_end.ran.cycles ∙ total session.script ∙ ap (λ (s : Script). length (turns s)) (sym script_is)

  -- the playback had all that the playback file holds
  playback_whole : IfSome after.playback_file (λ bytes. bytes ≡ playback_text given (printed_of session))
  playback_whole =
      let tape : Tape = at_end.files.playback.tape in
      let attached : session.driver.playback ≡ Some tape = at_end.files.playback.attached in
      let format : tape.format ≡ record { rate = session.script.header.rate; channels = session.script.header.playback; bits = session.script.header.bits } =
      subst (λ (playback : Option Tape). IfSome playback (λ (t : Tape). t.format ≡ record { rate = session.script.header.rate; channels = session.script.header.playback; bits = session.script.header.bits })) attached at_end.files.playback_format in
      let had : HasSamples tape (played_so_far course (run session.driver)) = subst (λ (playback : Option Tape). HasTape playback (played_so_far course (run session.driver))) attached keeps.playback in
      let all : played_so_far course (run session.driver) ≡ played_back course = ap (played_so_far course) all_cycles ∙ played course in
      let format_is : tape.format ≡ playback_format course =
      format ∙ ap (λ (s : Script). record { rate = s.header.rate; channels = s.header.playback; bits = s.header.bits }) (sym script_is) in
      subst (λ (text : List ℕ). IfSome after.playback_file (λ bytes. bytes ≡ text)) (ap₂ (λ (f : Format) (samples : List ℤ). wave_text f samples) format_is all)
      (ends.playback tape attached (played_so_far course (run session.driver)) had)

  -- a recorder's file had all blocks that were kept
  record_whole : (recorder : ℕ) (file : Option (List ℕ)) → slice_get after.record_files recorder ≡ Some file → IfSome file (λ bytes. bytes ≡ record_text given (printed_of session) recorder)
  record_whole recorder file there =
      let one : IsOne session = at_end.ran.one in
      let files : HasFiles session = at_end.files in
      let low : recorder < length session.script.header.recorders = omega (arith, slice_get_within after.record_files recorder file there, ends.records, one.recorder_ends) in
      let at : EndedAt session after recorder = ended_at session after one files ends recorder low in
      let losses : List Overrun = overruns_on session.driver.overruns recorder in
      let had : HasSamples at.before.tape (samples_of_blocks at.before.getting.got) = files.samples recorder at.before.getting at.before.tape at.is_reel.getting at.is_reel.tape in
      let has : HasSamples at.behind.tape (samples_of_blocks at.before.ring.put) =
      samples-all session.script.header.ring at.before at.behind at.gives (capacity_at session after one files ends recorder at.before.ring at.is_reel.ring) had in
      let all : samples_of_blocks at.before.ring.put ≡ recorded course losses recorder =
      ap samples_of_blocks ((keeps.rings recorder at.before.ring at.is_reel.ring).put ∙ ap (kept_blocks course losses recorder) all_cycles) ∙ kept_recorded course losses recorder in
      let printed : recorded course losses recorder ≡ recorded course (overruns_of (printed_of session) recorder) recorder =
      ap (λ (overruns : List Overrun). recorded course overruns recorder) (sym (get_or-map_below (overruns_on session.driver.overruns) (length session.script.header.recorders) recorder [] low)) in
      let format_is : at.behind.tape.format ≡ recorder_format course recorder =
      format-emptied session.script.header.ring at.before at.behind at.gives
      ∙ sym (get_or_from_slice_get (map (λ (tape : Tape). tape.format) session.tapes) recorder at.before.tape.format no_format (mapped_there (λ (tape : Tape). tape.format) session.tapes recorder at.before.tape at.is_reel.tape))
      ∙ ap (λ (formats : List Format). get_or formats recorder no_format) files.formats ∙ ap (λ (s : Script). slice_index_or s.header.recorders recorder no_format) (sym script_is) in
      subst (λ (bytes : Option (List ℕ)). IfSome bytes (λ text. text ≡ record_text given (printed_of session) recorder)) (same_Some at.bytes file (sym at.file ∙ there))
      (subst (λ (whole : List ℕ). IfSome at.bytes (λ text. text ≡ whole)) (ap₂ (λ (f : Format) (samples : List ℤ). wave_text f samples) format_is (all ∙ printed))
      (at.finished (samples_of_blocks at.before.ring.put) has))

  pub Ends-ended : Ends given session after
  Ends-ended = record {
    printed = ap printed_of ends.same;
    ran = RanPhases-ended session after sound (length (phases session.script)) at_end.ran ends;
    given_kept = subst (λ (s : Session). KeepsGiven given s) (sym ends.same) (KeepsGiven-ended session after at_end.ran.one at_end.files ends keeps_met given at_end.given_kept);
    counted = counts-put session after at_end.ran.one at_end.files ends;
    playback = playback_whole;
    records = record_whole;
  }
