-- What contracts see of the driver of the cycles.
--     Driver      what is seen of it
--     run driver      how many cycles were run
--     graph_now driver, bench_at driver n, memory_in driver birth      the last cycle's graph, a node's bench, and a client's memory
--     block_in driver recorder      what a recorder heard in the last cycle
--     greatest_period script      the longest of its cycles' periods
--     HasOwnRows, HasOwnRings, HasPlayback      what a driver that may go on has
use Rattle.std.specs.Prelude.{◌≡◌, ℕ, ◌+◌, ◌*◌, ◌≤◌, ◌==◌, Bool, false, List, [], ◌∷◌, fold, length, map, filter, find, position, slice_get, slice_index_or, sum_by, take, ℤ, Option, Some, is_some, max, option_map, if◌then◌else◌}
use Rattle.std.specs.Option.{option_map_or}
use Rattle.std.specs.List.{list_any}
use Rattle.record_ring.specs.jack_types.specs.Recorders.{no_format}
use Rattle.record_ring.specs.jack_types.specs.declared.commands.Change.{Change}
use Rattle.record_ring.specs.jack_types.specs.declared.events.Logged.{Logged}
use Rattle.record_ring.specs.jack_types.specs.declared.moments.Moment.{Moment}
use Rattle.record_ring.specs.jack_types.specs.declared.replies.Overrun.{Overrun}
use Rattle.record_ring.specs.jack_types.specs.declared.replies.Underrun.{Underrun}
use Rattle.record_ring.specs.session_model.specs.Benches.{Bench, no_bench}
use Rattle.record_ring.specs.session_model.specs.Commands.{replay}
use Rattle.record_ring.specs.session_model.specs.Courses.{no_turn, players, is_disk}
use Rattle.record_ring.specs.session_model.specs.Kinds.{Memory, Sound, input_at}
use Rattle.record_ring.specs.session_model.specs.Recorders.{is_tape}
use Rattle.record_ring.specs.session_model.specs.Samples.{below, interleaved}
use Rattle.record_ring.specs.session_model.specs.Scripts.{Phase, Script, ScriptCycle, phases, turns}
use Rattle.record_ring.specs.session_model.specs.State.{State, OpenClient, opening}
use Rattle.record_ring.specs.session_model.specs.Transport.{Row}
use Rattle.cycle_plan.specs.graph_word.specs.declared.view.TakenRow.{TakenRow}
use Rattle.cycle_plan.specs.graph_word.specs.Publications.{IsFront, Reading}
use Rattle.record_ring.specs.driver_words.specs.Rings.{Sending, Getting, items_of}
use Rattle.record_ring.specs.driver_words.specs.Tapes.{Tape}

-- a client's memory, by its birth
pub record Remembered : Type 0 where
  pub birth : ℕ
  pub memory : Memory

-- `content` is what the last cycle took; `left` is what the capture has left, where it tells; `numbers` has one number per cycle run, `moments` what the transport showed
-- in each, and `transport` is its last row; `sent` is how many blocks the cycles put into each recorder's ring, and `played` how
-- many they got from each disk's; `playback` is the file that is written, where one is attached; `set` is the period that is set;
-- `nodes` and `benches` are those of the last cycle, and `memories` those of all clients that were ever active
pub record Driver : Type 0 where
  pub script : Script
  pub scores : List Sound
  pub reading : Reading
  pub content : List Change
  pub left : Option (List ℤ)
  pub numbers : List ℕ
  pub moments : List Moment
  pub transport : Row
  pub overruns : List Overrun
  pub underruns : List Underrun
  pub rings : List Sending
  pub sent : List ℕ
  pub disks : List Getting
  pub played : List ℕ
  pub playback : Option Tape
  pub set : ℕ
  pub failed : Bool
  pub nodes : List OpenClient
  pub benches : List Bench
  pub memories : List Remembered

-- how many cycles were run
abbrev pub run : Driver → ℕ
run driver = length driver.numbers

-- cycle k of a script, counted from 1
abbrev pub turn_of : Script → ℕ → ScriptCycle
turn_of script k = slice_index_or (no_turn ∷ turns script) k no_turn

-- how many frames of the capture a cycle reads: none in a freewheel cycle
abbrev pub frames_read : ScriptCycle → ℕ
frames_read turn = if turn.is_freewheel then 0 else turn.period

-- the graph that these changes make of a script's opening
abbrev pub graph_of : Script → List Change → State
graph_of script changes = replay (opening script.header.capture script.header.playback) changes

-- the content that the last row took; nothing before the first
abbrev pub last_content : List TakenRow → List Change
last_content [] = []
last_content (taken ∷ []) = taken.changes
last_content (taken ∷ next ∷ rows) = last_content (next ∷ rows)

-- all changes that the last cycle had
abbrev pub content_now : Driver → List Change
content_now driver = last_content driver.reading.rows

-- the graph of the last cycle
abbrev pub graph_now : Driver → State
graph_now driver = graph_of driver.script (content_now driver)

-- whether an active client records on the recorder
abbrev pub has_tape : State → ℕ → Bool
has_tape state recorder = is_some (find (λ client. is_tape recorder client.kind) (players state))

-- whether an active client plays the disk's file
abbrev pub has_disk : State → ℕ → Bool
has_disk state disk = list_any (λ client. is_disk disk client.kind) (players state)

-- the overruns of one recorder
abbrev pub overruns_on : List Overrun → ℕ → List Overrun
overruns_on overruns recorder = filter (λ (overrun : Overrun). overrun.recorder == recorder) overruns

-- the underruns of one disk
abbrev pub underruns_on : List Underrun → ℕ → List Underrun
underruns_on underruns disk = filter (λ (underrun : Underrun). underrun.disk == disk) underruns

-- the bench of a node in the last cycle
abbrev pub bench_at : Driver → ℕ → Bench
bench_at driver n = slice_index_or driver.benches n no_bench

-- the memory of the client of this birth, if it was ever active
abbrev pub memory_in : Driver → ℕ → Option Memory
memory_in driver birth = option_map (λ (kept : Remembered). kept.memory) (find (λ (kept : Remembered). kept.birth == birth) driver.memories)

-- its peak, 0 where it was never active
abbrev pub peak_in : Driver → ℕ → ℕ
peak_in driver birth = option_map_or (λ memory. memory.peak) (memory_in driver birth) 0

-- its log, empty where it was never active
abbrev pub log_in : Driver → ℕ → List Logged
log_in driver birth = option_map_or (λ memory. memory.log) (memory_in driver birth) []

-- what the client at a node got in the last cycle, as many channels as the recorder has, interleaved
abbrev pub block_at : Driver → ℕ → ℕ → List ℤ
block_at driver recorder n =
    interleaved driver.set (map (input_at driver.set (bench_at driver n).sounds) (below (slice_index_or driver.script.header.recorders recorder no_format).channels))

-- the block of a recorder in the last cycle: what the client that records on it got; nothing where none does
abbrev pub block_in : Driver → ℕ → List ℤ
block_in driver recorder = option_map_or (block_at driver recorder) (position (λ (client : OpenClient). is_tape recorder client.kind) driver.nodes) []

-- the reader's rows are those that the driver began: one for each cycle, of the number that it took, the last one of the content that it took; what its place holds goes on from that; it is for the script's channels
pub record HasOwnRows (driver : Driver) : Type 0 where
  pub cycles : map (λ (row : TakenRow). row.cycle) driver.reading.rows ≡ map (λ i. i + 1) (below (run driver))
  pub numbers : map (λ (row : TakenRow). length row.changes) driver.reading.rows ≡ driver.numbers
  pub last : content_now driver ≡ driver.content
  pub place : IsFront driver.content driver.reading.held
  pub base : driver.reading.base ≡ record { capture = driver.script.header.capture; playback = driver.script.header.playback }

-- the greatest period of a script, and the frames of the cycles run
abbrev pub greatest_period : Script → ℕ
greatest_period script = fold max script.header.period (map (λ (phase : Phase). phase.period) (phases script))

abbrev pub frames_run : Driver → ℕ
frames_run driver = sum_by (λ (turn : ScriptCycle). turn.period) (take (run driver) (turns driver.script))

abbrev pub channels_on : Script → ℕ → ℕ
channels_on script recorder = (slice_index_or script.header.recorders recorder no_format).channels

-- a recorder's ring takes blocks of the greatest period, 500,000,000 samples together, and has no more of them than the cycles' frames
pub record IsOwnRing (driver : Driver) (recorder : ℕ) (ring : Sending) : Type 0 where
  pub samples : ring.samples ≡ greatest_period driver.script * channels_on driver.script recorder
  pub most : ring.most ≡ 500000000
  pub items : items_of ring.put ≤ frames_run driver * channels_on driver.script recorder

-- a disk's ring has blocks of the greatest period
abbrev pub IsOwnDisk : Driver → ℕ → Getting → Type 0
IsOwnDisk driver disk got = got.samples ≡ greatest_period driver.script * slice_index_or driver.script.header.disks disk 0

-- there is a ring for each recorder and each disk, and what was put into them, and got from them, are its cycles' blocks
pub record HasOwnRings (driver : Driver) : Type 0 where
  pub recorders : length driver.rings ≡ length driver.script.header.recorders
  pub disks : length driver.disks ≡ length driver.script.header.disks
  pub puts : map (λ (ring : Sending). length ring.put) driver.rings ≡ driver.sent
  pub gets : map (λ (got : Getting). length got.got) driver.disks ≡ driver.played
  pub own : (recorder : ℕ) (ring : Sending) → slice_get driver.rings recorder ≡ Some ring → IsOwnRing driver recorder ring
  pub own_disks : (disk : ℕ) (got : Getting) → slice_get driver.disks disk ≡ Some got → IsOwnDisk driver disk got

-- a playback is attached, and no put to it failed
pub record HasPlayback (driver : Driver) : Type 0 where
  pub tape : Tape
  pub attached : driver.playback ≡ Some tape
  pub going : tape.stopped ≡ false
