-- What a session's calls answer for.
--     IsNewPlayer script disk player      the player of a new ring
--     IsNew      behind `new`
--     HasLists, Runs      behind `run`
--     Ends      behind `end`
--     report_in session      what the report prints, from the desk's and the driver's lists
--     StandsSoFar kept session given      what the stores hold behind a fault, where so many cycles were played
use Rattle.std.specs.Prelude.{◌≡◌, ℕ, ◌+◌, ◌*◌, ◌<◌, ◌≤◌, false, List, [], ◌∷◌, length, map, flat_map, slice_get, slice_index_or, All, IfSome, Option, Some, None, IsNone}
use Rattle.jack_types.specs.declared.commands.Change.{Change}
use Rattle.jack_types.specs.declared.commands.Command.{Command}
use Rattle.jack_types.specs.declared.commands.Command.TheVariants.{Open}
use Rattle.jack_types.specs.declared.kinds.Kind.TheVariants.{Meter, Midilog}
use Rattle.jack_types.specs.declared.moments.Moment.{Moment}
use Rattle.jack_types.specs.declared.moments.TransportState.TheVariants.{Stopped}
use Rattle.session_model.specs.Disks.{Played}
use Rattle.session_model.specs.Explanations.{Given, playback_text, record_text}
use Rattle.session_model.specs.Histories.{Cycles, Legal, accepted}
use Rattle.session_model.specs.Playback.{playback_format}
use Rattle.session_model.specs.Recorders.{Lost, recorder_format}
use Rattle.session_model.specs.Reports.{PrintedCycle, PrintedDisk, PrintedEvent, PrintedMeter, PrintedRecorder, Report, printed_call, report_lines}
use Rattle.session_model.specs.Samples.{below}
use Rattle.session_model.specs.Scripts.{Script, phases}
use Rattle.session_model.specs.Serial.{serial, serial_underruns as underruns_of_serial}
use Rattle.graph_word.specs.Publications.{IsOpening}
use Rattle.driver_words.specs.Rings.{Sending, Getting}
use Rattle.driver_words.specs.Tapes.{HasFront}
use Rattle.session_model.specs.Rings.{samples_of_blocks}
use Rattle.disk_player.specs.Playing.{Playing}
use Rattle.serial_lanes.specs.control_desk.specs.Desks.{IsNewDesk, base_of}
use Rattle.driver_laws.specs.Drivers.{Driver, log_in, overruns_on, peak_in, run, underruns_on}
use Rattle.driver_laws.specs.Keeping.{kept_blocks, played_so_far}
use Rattle.driver_laws.specs.Openings.{IsNew as IsNewDriver}
use Rattle.run_laws.specs.Sessions.{Session, IsGiven, IsOne, KeepsGiven, course_in, printed_of}
use Rattle.run_laws.specs.Runs.{AtPhase, RanPhases}

-- nothing was read or put; its blocks have a period's frames of the disk's channels
pub record IsNewPlayer (script : Script) (disk : ℕ) (player : Playing) : Type 0 where
  pub put : player.sending.put ≡ []
  pub looks : player.sending.least ≡ 0
  pub open_ended : player.sending.ended ≡ false
  pub capacity : player.sending.capacity ≡ script.header.ring
  pub size : player.sending.samples ≡ slice_index_or script.header.disks disk 0 * script.header.period
  pub some : 0 < player.sending.samples
  pub waiting : player.waiting ≡ None
  pub over : player.over ≡ false
  pub failed : player.failed ≡ false

-- behind `new`: nothing was published, run, put, got or attached
pub record IsNew (session : Session) : Type 0 where
  pub one : IsOne session
  pub opening : IsOpening (base_of session.script) session.desk.publishing session.driver.reading
  pub new_desk : IsNewDesk session.script session.desk.publishing session.desk
  pub new_driver : IsNewDriver session.script session.driver.scores session.driver
  pub no_gets : All (λ (got : Getting). got.got ≡ []) session.getting
  pub new_players : (disk : ℕ) (player : Playing) → slice_get session.players disk ≡ Some player → IsNewPlayer session.script disk player
  pub counts : session.counts ≡ map (λ _. 0) session.script.header.recorders
  pub no_tapes : session.tapes ≡ []

-- the history is legal and the numbers are within their bounds
pub record HasLists (session : Session) : Type 0 where
  pub legal : Legal session.script session.desk.history
  pub cycles : Cycles session.script session.desk.history session.driver.numbers

-- behind `run` with Ok, of the session before it: the lists whatever the sources tell, and where they tell what is given, also the losses
pub record Runs (before after : Session) : Type 0 where
  pub script : after.script ≡ before.script
  pub lists : HasLists after
  pub at_end : (given : Given) → IsGiven before given → AtPhase after given (length (phases before.script))
  pub lost : (given : Given) → IsGiven before given → (recorder : ℕ) → recorder < length before.script.header.recorders → Lost (course_in given after) (overruns_on after.driver.overruns recorder) recorder
  pub disks : (given : Given) → IsGiven before given → (disk : ℕ) → disk < length before.script.header.disks → Played (course_in given after) disk
  pub serial_history : IsNone before.script.header.threads → after.desk.history ≡ (serial before.script).history
  pub serial_numbers : IsNone before.script.header.threads → after.driver.numbers ≡ (serial before.script).numbers
  pub serial_overruns : IsNone before.script.header.threads → (given : Given) → IsGiven before given → (printed_of after).overruns ≡ (serial before.script).overruns
  pub serial_underruns : IsNone before.script.header.threads → (given : Given) → IsGiven before given → (printed_of after).underruns ≡ underruns_of_serial given

-- behind `end` with Ok, of the session that was run: the lists stay, and the finished files that are told are those of the one computation over them
pub record Ends (given : Given) (before after : Session) : Type 0 where
  pub printed : printed_of after ≡ printed_of before
  pub ran : RanPhases after (length (phases before.script))
  pub given_kept : KeepsGiven given after
  pub counted : after.counts ≡ map (λ (ring : Sending). length ring.put) after.driver.rings
  pub playback : IfSome after.playback_file (λ bytes. bytes ≡ playback_text given (printed_of before))
  pub records : (recorder : ℕ) (file : Option (List ℕ)) → slice_get after.record_files recorder ≡ Some file → IfSome file (λ bytes. bytes ≡ record_text given (printed_of before) recorder)

-- an accepted `open` of a meter or of a log prints what the driver remembers of its client
abbrev pub meters_from : Driver → ℕ → Command → List PrintedMeter
meters_from driver birth (Open client Meter) = record { client = client; peak = peak_in driver birth } ∷ []
meters_from driver birth _ = []

abbrev pub events_from : Driver → ℕ → Command → List PrintedEvent
events_from driver birth (Open client Midilog) = map (λ logged. record { client = client; logged = logged }) (log_in driver birth)
events_from driver birth _ = []

abbrev pub no_moment : Moment
no_moment = record { cycle = 0; state = Stopped; frame = 0; rate = 0; bbt = None }

-- the cycle at a place, counted from 0
abbrev pub cycle_in : Driver → ℕ → PrintedCycle
cycle_in driver i = record { number = slice_index_or driver.numbers i 0; moment = slice_index_or driver.moments i no_moment }

-- the blocks written for a recorder, and its overruns
abbrev pub recorder_in : Session → ℕ → PrintedRecorder
recorder_in session recorder = record { recorder = recorder; blocks = slice_index_or session.counts recorder 0; overruns = overruns_on session.driver.overruns recorder }

-- the blocks played of a disk, and its underruns
abbrev pub disk_in : Session → ℕ → PrintedDisk
disk_in session disk = record { disk = disk; blocks = slice_index_or session.driver.played disk 0; underruns = underruns_on session.driver.underruns disk }

abbrev pub report_in : Session → Report
report_in session = record {
  calls = map printed_call session.desk.history;
  cycles = map (cycle_in session.driver) (below (run session.driver));
  meters = flat_map (λ (change : Change). meters_from session.driver change.number change.command) (accepted session.desk.history);
  events = flat_map (λ (change : Change). events_from session.driver change.number change.command) (accepted session.desk.history);
  recorders = map (recorder_in session) (below (length session.script.header.recorders));
  disks = map (disk_in session) (below (length session.script.header.disks));
}

-- its bytes
abbrev pub text_in : Session → List ℕ
text_in session = flat_map (λ text. text) (report_lines (report_in session))

-- behind a fault the stores that tell hold fronts of what the first `kept` cycles gave, by the session's own lists: a cycle that failed at the capture was not played, and of one that failed at the playback a front was
pub record StandsSoFar (kept : ℕ) (session : Session) (given : Given) : Type 0 where
  pub low : kept ≤ run session.driver
  pub near : run session.driver ≤ kept + 1
  pub playback : HasFront (playback_format (course_in given session)) (played_so_far (course_in given session) kept) session.playback_file
  pub records : (recorder : ℕ) (file : Option (List ℕ)) → slice_get session.record_files recorder ≡ Some file
      → HasFront (recorder_format (course_in given session) recorder) (samples_of_blocks (kept_blocks (course_in given session) (overruns_on session.driver.overruns recorder) recorder kept)) file
