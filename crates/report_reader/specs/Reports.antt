-- The lines that a report has.
--     report_rows report      its lines, in their order
--     IsPlaced script report      how many lines of a kind there are, and the numbers by which they are counted
use Rattle.std.specs.Prelude.{◌≡◌, ℕ, ◌+◌, ◌*◌, ◌≤◌, List, [], ◌∷◌, ◌++◌, length, map, flat_map, slice_get, Option, Some, None, All}
use Rattle.jack_types.specs.declared.moments.Bbt.{Bbt}
use Rattle.jack_types.specs.declared.replies.Overrun.{Overrun}
use Rattle.jack_types.specs.declared.replies.Reply.{Reply}
use Rattle.jack_types.specs.declared.replies.Reply.TheVariants.{Accepted, Refused, Latency}
use Rattle.jack_types.specs.declared.replies.Underrun.{Underrun}
use Rattle.check_model.specs.Checking.{calls_that, opens_log, opens_meter}
use Rattle.session_model.specs.Reports.{PrintedCall, PrintedCycle, PrintedDisk, PrintedEvent, PrintedMeter, PrintedRecorder, Report}
use Rattle.session_model.specs.Scripts.{Script, planned, turns}
use Rattle.report_reader.specs.declared.rows.Line.{Line}
use Rattle.report_reader.specs.declared.rows.Line.TheVariants.{Report as ReportLine, Call, Cycle, Meter, Midi, Recorder, Overrun as OverrunLine, Disk, Underrun as UnderrunLine, End}
use Rattle.report_reader.specs.declared.rows.Place.{Place}
use Rattle.report_reader.specs.declared.rows.ReplyLine.{ReplyLine}
use Rattle.report_reader.specs.declared.rows.ReplyLine.TheVariants.{Accepted as AcceptedLine, Refused as RefusedLine, Latency as LatencyLine}

abbrev pub reply_row : Reply → ReplyLine
reply_row (Accepted number) = AcceptedLine number
reply_row (Refused refusal) = RefusedLine refusal
reply_row (Latency range) = LatencyLine range.min range.max

abbrev pub call_row : PrintedCall → Line
call_row call = Call (record { lane = call.lane; index = call.index; reply = reply_row call.reply })

abbrev pub place_row : Option Bbt → Option Place
place_row None = None
place_row (Some place) = Some (record { bar = place.bar; beat = place.beat; tick = place.tick })

abbrev pub cycle_row : PrintedCycle → Line
cycle_row cycle = Cycle (record { cycle = cycle.moment.cycle; number = cycle.number; state = cycle.moment.state; frame = cycle.moment.frame; place = place_row cycle.moment.bbt })

abbrev pub meter_row : PrintedMeter → Line
meter_row meter = Meter (record { client = meter.client; peak = meter.peak })

abbrev pub event_row : PrintedEvent → Line
event_row event = Midi (record { client = event.client; cycle = event.logged.cycle; offset = event.logged.event.offset; event = record { offset = 0; size = event.logged.event.size; bytes = event.logged.event.bytes } })

abbrev pub overrun_row : Overrun → Line
overrun_row overrun = OverrunLine (record { file = overrun.recorder; cycle = overrun.cycle; sent = overrun.sent; taken = overrun.taken })

abbrev pub underrun_row : Underrun → Line
underrun_row underrun = UnderrunLine (record { file = underrun.disk; cycle = underrun.cycle; sent = underrun.sent; taken = underrun.taken })

abbrev pub recorder_rows : PrintedRecorder → List Line
recorder_rows recorder = Recorder (record { file = recorder.recorder; blocks = recorder.blocks; losses = length recorder.overruns }) ∷ map overrun_row recorder.overruns

abbrev pub disk_rows : PrintedDisk → List Line
disk_rows disk = Disk (record { file = disk.disk; blocks = disk.blocks; losses = length disk.underruns }) ∷ map underrun_row disk.underruns

abbrev pub report_rows : Report → List Line
report_rows report =
    ReportLine
    ∷ map call_row report.calls
    ++ map cycle_row report.cycles
    ++ map meter_row report.meters
    ++ map event_row report.events
    ++ flat_map recorder_rows report.recorders
    ++ flat_map disk_rows report.disks
    ++ End ∷ []

-- a recorder's lines, and a disk's, have its number, and are no more than one a cycle
pub record IsPlacedRecorder (script : Script) (i : ℕ) (recorder : PrintedRecorder) : Type 0 where
  pub number_is : recorder.recorder ≡ i
  pub few : length recorder.overruns ≤ length (turns script)
  pub each : All (λ (overrun : Overrun). overrun.recorder ≡ i) recorder.overruns

pub record IsPlacedDisk (script : Script) (i : ℕ) (disk : PrintedDisk) : Type 0 where
  pub number_is : disk.disk ≡ i
  pub few : length disk.underruns ≤ length (turns script)
  pub each : All (λ (underrun : Underrun). underrun.disk ≡ i) disk.underruns

pub record IsPlaced (script : Script) (report : Report) : Type 0 where
  pub few_calls : length report.calls ≤ length (planned script)
  pub cycles : length report.cycles ≡ length (turns script)
  pub cycle_each : (i : ℕ) (cycle : PrintedCycle) → slice_get report.cycles i ≡ Some cycle → cycle.moment.cycle ≡ i + 1
  pub few_meters : length report.meters ≤ calls_that opens_meter script
  pub few_events : length report.events ≤ 4096 * calls_that opens_log script
  pub recorders : length report.recorders ≡ length script.header.recorders
  pub recorder_each : (i : ℕ) (recorder : PrintedRecorder) → slice_get report.recorders i ≡ Some recorder → IsPlacedRecorder script i recorder
  pub disks : length report.disks ≡ length script.header.disks
  pub disk_each : (i : ℕ) (disk : PrintedDisk) → slice_get report.disks i ≡ Some disk → IsPlacedDisk script i disk
