-- How far a report was read, line by line.
--     next limits place line      the place behind a line, where it may come there
--     walk limits place lines      the place behind these lines, where each may come
--     rest limits place      lines that make a report whole
--     IsRead script texts place      the texts are lines of the form, and lead from the start to the place
use Rattle.std.specs.Prelude.{◌≡◌, ℕ, zero, suc, ◌+◌, ◌-◌, ◌*◌, ◌&&◌, ◌==◌, nat_lt, nat_le, List, [], ◌∷◌, ◌++◌, length, map, flat_map, Option, Some, None, option_and_then, if◌then◌else◌, All}
use Rattle.jack_types.specs.declared.moments.TransportState.TheVariants.{Stopped}
use Rattle.jack_types.specs.declared.replies.Overrun.{Overrun}
use Rattle.jack_types.specs.declared.replies.Underrun.{Underrun}
use Rattle.check_model.specs.Checking.{calls_that, opens_log, opens_meter}
use Rattle.session_model.specs.Reports.{PrintedCycle, PrintedDisk, PrintedRecorder}
use Rattle.session_model.specs.Scripts.{Script, planned, turns}
use Rattle.report_reader.specs.Forms.{IsLineForm, line_text}
use Rattle.report_reader.specs.Reports.{cycle_row, disk_rows, overrun_row, recorder_rows, underrun_row}
use Rattle.report_reader.specs.declared.rows.Line.{Line}
use Rattle.report_reader.specs.declared.rows.Line.TheVariants.{Report, Call, Cycle, Meter, Midi, Recorder, Overrun as OverrunLine, Disk, Underrun as UnderrunLine, End}
use Rattle.report_laws.specs.declared.places.Limits.{Limits}
use Rattle.report_laws.specs.declared.places.Place.{Place}
use Rattle.report_laws.specs.declared.places.Place.TheVariants.{Start, Calls, Cycles, Meters, Events, Recorders, Disks, Done}

abbrev pub limits_of : Script → Limits
limits_of script = record {
  calls = length (planned script);
  cycles = length (turns script);
  meters = calls_that opens_meter script;
  events = 4096 * calls_that opens_log script;
  recorders = length script.header.recorders;
  disks = length script.header.disks;
}

-- behind so many lines of a kind: one more of it, or, where these may be all, a line of a later kind
abbrev pub in_disks : Limits → ℕ → ℕ → Line → Option Place
in_disks limits disks left (Disk count) =
    if left == 0 && nat_lt disks limits.disks && (count.file == disks) && nat_le count.losses limits.cycles then Some (Disks (disks + 1) count.losses) else None
in_disks limits disks left (UnderrunLine loss) = if nat_lt 0 left && (loss.file + 1 == disks) then Some (Disks disks (left - 1)) else None
in_disks limits disks left End = if left == 0 && (disks == limits.disks) then Some Done else None
in_disks limits disks left _ = None

abbrev pub in_recorders : Limits → ℕ → ℕ → Line → Option Place
in_recorders limits recorders left (Recorder count) =
    if left == 0 && nat_lt recorders limits.recorders && (count.file == recorders) && nat_le count.losses limits.cycles then Some (Recorders (recorders + 1) count.losses) else None
in_recorders limits recorders left (OverrunLine loss) = if nat_lt 0 left && (loss.file + 1 == recorders) then Some (Recorders recorders (left - 1)) else None
in_recorders limits recorders left line = if left == 0 && (recorders == limits.recorders) then in_disks limits 0 0 line else None

abbrev pub in_events : Limits → ℕ → Line → Option Place
in_events limits events (Midi event) = if nat_lt events limits.events then Some (Events (events + 1)) else None
in_events limits events line = in_recorders limits 0 0 line

abbrev pub in_meters : Limits → ℕ → Line → Option Place
in_meters limits meters (Meter meter) = if nat_lt meters limits.meters then Some (Meters (meters + 1)) else None
in_meters limits meters line = in_events limits 0 line

abbrev pub in_cycles : Limits → ℕ → Line → Option Place
in_cycles limits cycles (Cycle cycle) = if nat_lt cycles limits.cycles && (cycle.cycle == cycles + 1) then Some (Cycles (cycles + 1)) else None
in_cycles limits cycles line = if cycles == limits.cycles then in_meters limits 0 line else None

abbrev pub in_calls : Limits → ℕ → Line → Option Place
in_calls limits calls (Call call) = if nat_lt calls limits.calls then Some (Calls (calls + 1)) else None
in_calls limits calls line = in_cycles limits 0 line

abbrev pub at_start : Line → Option Place
at_start Report = Some (Calls 0)
at_start _ = None

abbrev pub next : Limits → Place → Line → Option Place
next limits Start line = at_start line
next limits (Calls calls) line = in_calls limits calls line
next limits (Cycles cycles) line = in_cycles limits cycles line
next limits (Meters meters) line = in_meters limits meters line
next limits (Events events) line = in_events limits events line
next limits (Recorders recorders left) line = in_recorders limits recorders left line
next limits (Disks disks left) line = in_disks limits disks left line
next limits Done line = None

abbrev pub walk : Limits → Place → List Line → Option Place
walk limits place [] = Some place
walk limits place (line ∷ lines) = option_and_then (λ behind. walk limits behind lines) (next limits place line)

-- ---- a way to the end: overruns and underruns that are still told, then no call, no meter and no event, and nothing in a file

abbrev pub overruns_of : ℕ → ℕ → List Overrun
overruns_of recorders zero = []
overruns_of recorders (suc left) = record { recorder = recorders - 1; cycle = 0; sent = 0; taken = 0 } ∷ overruns_of recorders left

abbrev pub underruns_of : ℕ → ℕ → List Underrun
underruns_of disks zero = []
underruns_of disks (suc left) = record { disk = disks - 1; cycle = 0; sent = 0; taken = 0 } ∷ underruns_of disks left

abbrev pub cycles_from : ℕ → ℕ → List PrintedCycle
cycles_from cycles zero = []
cycles_from cycles (suc more) = record { number = 0; moment = record { cycle = cycles + 1; state = Stopped; frame = 0; rate = 0; bbt = None } } ∷ cycles_from (cycles + 1) more

abbrev pub recorders_from : ℕ → ℕ → List PrintedRecorder
recorders_from recorders zero = []
recorders_from recorders (suc more) = record { recorder = recorders; blocks = 0; overruns = [] } ∷ recorders_from (recorders + 1) more

abbrev pub disks_from : ℕ → ℕ → List PrintedDisk
disks_from disks zero = []
disks_from disks (suc more) = record { disk = disks; blocks = 0; underruns = [] } ∷ disks_from (disks + 1) more

abbrev pub rest_disks : Limits → ℕ → ℕ → List Line
rest_disks limits disks left = map underrun_row (underruns_of disks left) ++ (flat_map disk_rows (disks_from disks (limits.disks - disks)) ++ End ∷ [])

abbrev pub rest_recorders : Limits → ℕ → ℕ → List Line
rest_recorders limits recorders left = map overrun_row (overruns_of recorders left) ++ (flat_map recorder_rows (recorders_from recorders (limits.recorders - recorders)) ++ rest_disks limits 0 0)

abbrev pub rest_cycles : Limits → ℕ → List Line
rest_cycles limits cycles = map cycle_row (cycles_from cycles (limits.cycles - cycles)) ++ rest_recorders limits 0 0

abbrev pub rest : Limits → Place → List Line
rest limits Start = Report ∷ rest_cycles limits 0
rest limits (Calls calls) = rest_cycles limits 0
rest limits (Cycles cycles) = rest_cycles limits cycles
rest limits (Meters meters) = rest_recorders limits 0 0
rest limits (Events events) = rest_recorders limits 0 0
rest limits (Recorders recorders left) = rest_recorders limits recorders left
rest limits (Disks disks left) = rest_disks limits disks left
rest limits Done = []

-- ---- texts

abbrev pub IsRead : Script → List (List ℕ) → Place → Type 0
IsRead script texts place = (lines : List Line) × All IsLineForm lines × (texts ≡ map line_text lines) × (walk (limits_of script) Start lines ≡ Some place)
