-- What the driver's cycles have to do with a course.
--     Fits driver course      the course has what the driver took, got and missed so far
--     Keeps driver course      what the driver has is what the course gives
use Rattle.std.specs.Prelude.{◌≡◌, ℕ, ◌+◌, ◌*◌, ◌≤◌, ◌<◌, ◌&&◌, ◌==◌, Bool, true, not, List, length, map, take, drop, filter, flat_map, slice_get, slice_index_or, All, Contains, ℤ, IsTrue, IfSome, Option, Some, min}
use Rattle.std.specs.List.{list_any}
use Rattle.std.specs.List.Sorted.{IsStrictlyIncreasing, IsNonDecreasing}
use Rattle.record_ring.specs.jack_types.specs.declared.commands.Call.{Call}
use Rattle.record_ring.specs.jack_types.specs.declared.commands.Change.{Change}
use Rattle.record_ring.specs.jack_types.specs.declared.replies.Overrun.{Overrun}
use Rattle.record_ring.specs.jack_types.specs.declared.replies.Underrun.{Underrun}
use Rattle.record_ring.specs.session_model.specs.Courses.{Course, DiskFile, turn, frames_before, disk_file, block_channel, is_underrun, is_disk_active, played_before}
use Rattle.record_ring.specs.session_model.specs.Disks.{file_blocks}
use Rattle.record_ring.specs.session_model.specs.Driving.{IsDriven}
use Rattle.record_ring.specs.session_model.specs.Playback.{played_in}
use Rattle.record_ring.specs.session_model.specs.Recorders.{block, is_taping, is_lost, kept_before}
use Rattle.record_ring.specs.session_model.specs.Rings.{RingBlock}
use Rattle.record_ring.specs.session_model.specs.Samples.{below, interleaved}
use Rattle.record_ring.specs.session_model.specs.Scripts.{Script, Planned, planned}
use Rattle.record_ring.specs.session_model.specs.Soundness.{Apart}
use Rattle.record_ring.specs.session_model.specs.Transport.{moment, row}
use Rattle.cycle_plan.specs.graph_word.specs.declared.view.TakenRow.{TakenRow}
use Rattle.record_ring.specs.driver_words.specs.Rings.{Sending, Getting}
use Rattle.record_ring.specs.driver_words.specs.Tapes.{Tape, HasSamples, HasUnfinished}
use Rattle.driver_laws.specs.Drivers.{Driver, run, overruns_on, underruns_on, bench_at, memory_in}

-- the changes are commands of calls of the script, each call taken at most once
pub record AreOfCalls (script : Script) (changes : List Change) : Type 0 where
  pub calls : List Call
  pub commands : map (λ (call : Call). call.command) calls ≡ map (λ (change : Change). change.command) changes
  pub planned_ones : All (Contains (map (λ (plan : Planned). plan.call) (planned script))) calls
  pub once : Apart (λ (call : Call). call) calls

-- a block of a disk's file
abbrev pub file_block : Course → ℕ → ℕ → List ℤ
file_block course disk i =
    let file = disk_file course disk in
    interleaved course.script.header.period (map (block_channel file course.script.header.period i) (below file.channels))

-- what was got is a front of the file's blocks, and all of it where the end was found
pub record FitsDisk (course : Course) (disk : ℕ) (got : Getting) : Type 0 where
  pub blocks : (i : ℕ) (one : RingBlock) → slice_get got.got i ≡ Some one → (i < file_blocks course disk) × (one.samples ≡ file_block course disk i)
  pub whole : got.done ≡ true → length got.got ≡ file_blocks course disk

-- the course has the driver's script and scores, and files of the script's channels; in its first cycles it takes what the driver took, and misses what the driver missed
pub record Fits (driver : Driver) (course : Course) : Type 0 where
  pub script : course.script ≡ driver.script
  pub scores : course.scores ≡ driver.scores
  pub channels : map (λ (file : DiskFile). file.channels) course.disks ≡ course.script.header.disks
  pub of_calls : AreOfCalls course.script course.changes
  pub numbers : driver.numbers ≡ take (run driver) course.numbers
  pub rows : (k : ℕ) (taken : TakenRow) → slice_get driver.reading.rows k ≡ Some taken → taken.changes ≡ take (slice_index_or course.numbers k 0) course.changes
  pub underruns : (disk k : ℕ) → k ≤ run driver → is_underrun course disk k ≡ list_any (λ (underrun : Underrun). underrun.cycle == k) (underruns_on driver.underruns disk)
  pub disks : (disk : ℕ) (got : Getting) → slice_get driver.disks disk ≡ Some got → FitsDisk course disk got

-- in cycle i + 1 the recorder is active, and that is no overrun
abbrev pub is_kept : Course → List Overrun → ℕ → ℕ → Bool
is_kept course losses recorder i = is_taping course recorder (i + 1) && not (is_lost losses (i + 1))

-- the blocks of the first n cycles that are kept
abbrev pub kept_blocks : Course → List Overrun → ℕ → ℕ → List RingBlock
kept_blocks course losses recorder n = map (λ i. record { cycle = i + 1; samples = block course recorder (i + 1) }) (filter (is_kept course losses recorder) (below n))

-- an overrun among the first n cycles: an active one, in which the ring was full by its counts
pub record IsLoss (course : Course) (losses : List Overrun) (recorder n capacity : ℕ) (overrun : Overrun) : Type 0 where
  pub recorder_is : overrun.recorder ≡ recorder
  pub first : 1 ≤ overrun.cycle
  pub last : overrun.cycle ≤ n
  pub active : IsTrue (is_taping course recorder overrun.cycle)
  pub sent : overrun.sent ≡ kept_before course losses recorder overrun.cycle
  pub full : overrun.sent ≡ overrun.taken + capacity

-- a recorder's ring behind n cycles, and its overruns: no later one has a look below `least`
pub record KeepsRing (course : Course) (n recorder : ℕ) (ring : Sending) (losses : List Overrun) : Type 0 where
  pub put : ring.put ≡ kept_blocks course losses recorder n
  pub by_cycle : IsStrictlyIncreasing (map (λ (overrun : Overrun). overrun.cycle) losses)
  pub all : All (IsLoss course losses recorder n ring.capacity) losses
  pub rising : IsNonDecreasing (map (λ (overrun : Overrun). overrun.taken) losses)
  pub least : All (λ (overrun : Overrun). overrun.taken ≤ ring.least) losses
  pub capacity : ring.capacity ≡ course.script.header.ring

-- an underrun among the first n cycles: an active one, which found all that was put played, and the file not at its end
pub record IsMiss (course : Course) (disk n : ℕ) (underrun : Underrun) : Type 0 where
  pub disk_is : underrun.disk ≡ disk
  pub first : 1 ≤ underrun.cycle
  pub last : underrun.cycle ≤ n
  pub active : IsTrue (is_disk_active course disk underrun.cycle)
  pub sent : underrun.sent ≡ played_before course disk underrun.cycle
  pub taken : underrun.taken ≡ underrun.sent
  pub in_file : underrun.sent ≤ file_blocks course disk

-- a disk's ring behind n cycles, and its underruns: a block was got in each active cycle in no underrun, until the file's end
pub record KeepsDisk (course : Course) (n disk : ℕ) (got : Getting) (misses : List Underrun) : Type 0 where
  pub count : length got.got ≡ min (file_blocks course disk) (played_before course disk (n + 1))
  pub behind : file_blocks course disk < played_before course disk (n + 1) → got.done ≡ true
  pub by_cycle : IsStrictlyIncreasing (map (λ (underrun : Underrun). underrun.cycle) misses)
  pub all : All (IsMiss course disk n) misses

-- the `run` cycles among the first n, counted from 0
abbrev pub run_cycles : Course → ℕ → List ℕ
run_cycles course n = filter (λ i. not (turn course (i + 1)).is_freewheel) (below n)

-- what they played
abbrev pub played_so_far : Course → ℕ → List ℤ
played_so_far course n = flat_map (λ i. played_in course (i + 1)) (run_cycles course n)

-- a file that is attached has these samples
abbrev pub HasTape : Option Tape → List ℤ → Type 0
HasTape playback samples = IfSome playback (λ tape. HasSamples tape samples)

-- or what a failed put leaves of them
abbrev pub HasTapeFront : Option Tape → List ℤ → Type 0
HasTapeFront playback samples = IfSome playback (λ tape. HasUnfinished tape.format samples tape.bytes)

-- the rings of the recorders are those of the course
abbrev pub KeepsRings : Driver → Course → Type 0
KeepsRings driver course = (recorder : ℕ) (ring : Sending) → slice_get driver.rings recorder ≡ Some ring → KeepsRing course (run driver) recorder ring (overruns_on driver.overruns recorder)

-- all that the driver has behind its cycles is what the course gives; the capture tells what it has left
pub record Keeps (driver : Driver) (course : Course) : Type 0 where
  pub moments : driver.moments ≡ map (λ i. moment course (i + 1)) (below (run driver))
  pub transport : driver.transport ≡ row course (run driver)
  pub rings : KeepsRings driver course
  pub disks : (disk : ℕ) (got : Getting) → slice_get driver.disks disk ≡ Some got → KeepsDisk course (run driver) disk got (underruns_on driver.underruns disk)
  pub left : driver.left ≡ Some (drop (frames_before course (run driver + 1) * course.script.header.capture) course.capture)
  pub playback : HasTape driver.playback (played_so_far course (run driver))
  pub driven : IsDriven course (run driver) driver.nodes (bench_at driver) (memory_in driver)
