-- What the calls of the driver do.
--     MayCycle driver freewheel      when a cycle may be run
--     PutsOne, GetsOne      what a cycle does at one recorder's ring, and at one disk's
--     StepsOnce driver after      what a cycle appends, whatever course there is
--     PlaysOnce driver after course      that it played what the course gives in this cycle
--     WritesOnce driver after, Written driver after more      what it did to the playback
--     CyclesOnce, CyclesMany      one cycle, and many
--     FailsAtRead, FailsAtWrite      a cycle that failed
--     HasMetOthers driver after      its lent ends met others
use Rattle.std.specs.Prelude.{◌≡◌, ℕ, zero, suc, ◌+◌, ◌*◌, ◌≤◌, ◌<◌, Bool, true, false, List, [], ◌∷◌, ◌++◌, length, drop, slice_get, All, ℤ, Some, None}
use Rattle.record_ring.specs.jack_types.specs.declared.ports.Link.{Link}
use Rattle.record_ring.specs.jack_types.specs.declared.replies.Overrun.{Overrun}
use Rattle.record_ring.specs.jack_types.specs.declared.replies.Underrun.{Underrun}
use Rattle.record_ring.specs.session_model.specs.Activation.{sequential}
use Rattle.record_ring.specs.session_model.specs.Benches.{Bench, bench_after, bench_gives, node_at, IsPlan, IsReady}
use Rattle.record_ring.specs.session_model.specs.Courses.{Course}
use Rattle.record_ring.specs.session_model.specs.Cycles.{player_born}
use Rattle.record_ring.specs.session_model.specs.Driving.{settled_from}
use Rattle.record_ring.specs.session_model.specs.Recorders.{block}
use Rattle.record_ring.specs.session_model.specs.Rings.{RingBlock}
use Rattle.record_ring.specs.session_model.specs.Scripts.{turns}
use Rattle.record_ring.specs.session_model.specs.Transport.{moment, next_row, row, slow_numbers, timeout_of}
use Rattle.cycle_plan.specs.graph_word.specs.Publications.{Reading, Takes, Begins}
use Rattle.record_ring.specs.Rings.{Gets}
use Rattle.record_ring.specs.driver_words.specs.Rings.{Sending, Getting, Puts, IsFull}
use Rattle.record_ring.specs.declared.consumer.Got.TheVariants.{Block, Empty, Ended}
use Rattle.record_ring.specs.driver_words.specs.Tapes.{Tape, SameFile}
use Rattle.driver_laws.specs.Drivers.{Driver, run, turn_of, frames_read, content_now, graph_now, has_tape, has_disk, overruns_on, underruns_on, bench_at, memory_in, block_in, HasOwnRows, HasOwnRings, HasPlayback}
use Rattle.driver_laws.specs.Keeping.{AreOfCalls, Fits, Keeps, HasTape, HasTapeFront, played_so_far}
use Rattle.driver_laws.specs.Playing.{adopted_now, moment_now}

-- the next cycle is there and of this kind, its period is set, a playback is attached, nothing failed, and rows and rings are as the driver's own cycles left them, without an end
pub record MayCycle (driver : Driver) (freewheel : Bool) : Type 0 where
  pub playback : HasPlayback driver
  pub sound : driver.failed ≡ false
  pub left : run driver < length (turns driver.script)
  pub turn_is : (turn_of driver.script (run driver + 1)).is_freewheel ≡ freewheel
  pub period_is : (turn_of driver.script (run driver + 1)).period ≡ driver.set
  pub rows : HasOwnRows driver
  pub rings : HasOwnRings driver
  pub no_end : All (λ (ring : Sending). ring.ended ≡ false) driver.rings

-- one recorder in cycle k: where it is not active nothing; else its block goes in, or there is an overrun with the counts of this put's look
pub data PutsOne (k recorder : ℕ) (active : Bool) (samples : List ℤ) (before after : Sending) (losses losses_after : List Overrun) : Type 0 where
  Idle : active ≡ false → after ≡ before → losses_after ≡ losses → PutsOne k recorder active samples before after losses losses_after
  Went : (look : ℕ) → active ≡ true → Puts before (record { cycle = k; samples = samples }) look after → losses_after ≡ losses → PutsOne k recorder active samples before after losses losses_after
  Lacked : (look : ℕ) → active ≡ true → IsFull before look after
      → losses_after ≡ losses ++ record { recorder = recorder; cycle = k; sent = length before.put; taken = look } ∷ [] → PutsOne k recorder active samples before after losses losses_after

-- one disk in cycle k: where it is not active nothing; else a block is got, or the file's end found, or there is an underrun with the counts of this get
pub data GetsOne (k disk : ℕ) (active : Bool) (before after : Getting) (misses misses_after : List Underrun) : Type 0 where
  Silent : active ≡ false → after ≡ before → misses_after ≡ misses → GetsOne k disk active before after misses misses_after
  Heard : (one : RingBlock) (found : ℕ) → active ≡ true → Gets before after one found Block → misses_after ≡ misses → GetsOne k disk active before after misses misses_after
  Over : (one : RingBlock) (found : ℕ) → active ≡ true → Gets before after one found Ended → misses_after ≡ misses → GetsOne k disk active before after misses misses_after
  Missed : (one : RingBlock) (found : ℕ) → active ≡ true → Gets before after one found (Empty found found)
      → misses_after ≡ misses ++ record { disk = disk; cycle = k; sent = found; taken = found } ∷ [] → GetsOne k disk active before after misses misses_after

-- what a cycle appends, in the driver's own terms: one take and one row; one step of the transport, where what it took is of the script's calls, and what that shows; at each ring what `PutsOne` or `GetsOne` says; overruns and underruns of this cycle alone; the capture's next frames only in a `run` cycle, where it tells them
pub record StepsOnce (driver after : Driver) : Type 0 where
  pub taken : Reading
  pub number : ℕ
  pub takes : Takes driver.reading number taken
  pub begins : Begins taken (run driver + 1) after.reading
  pub numbers : after.numbers ≡ driver.numbers ++ number ∷ []
  pub transport : AreOfCalls driver.script (content_now after)
      → after.transport ≡ next_row driver.transport (adopted_now driver after) (slow_numbers (graph_now after)) (timeout_of (graph_now after) driver.script.header.rate driver.set) driver.set
  pub moments : after.moments ≡ driver.moments ++ moment_now driver after ∷ []
  pub rings : (recorder : ℕ) (ring ring_after : Sending) → slice_get driver.rings recorder ≡ Some ring → slice_get after.rings recorder ≡ Some ring_after
      → PutsOne (run driver + 1) recorder (has_tape (graph_now after) recorder) (block_in after recorder) ring ring_after (overruns_on driver.overruns recorder) (overruns_on after.overruns recorder)
  pub as_many : length after.rings ≡ length driver.rings
  pub overruns : List Overrun
  pub more_overruns : after.overruns ≡ driver.overruns ++ overruns
  pub overruns_now : All (λ (overrun : Overrun). (overrun.cycle ≡ run driver + 1) × (overrun.recorder < length driver.rings)) overruns
  pub disks : (disk : ℕ) (got got_after : Getting) → slice_get driver.disks disk ≡ Some got → slice_get after.disks disk ≡ Some got_after
      → GetsOne (run driver + 1) disk (has_disk (graph_now after) disk) got got_after (underruns_on driver.underruns disk) (underruns_on after.underruns disk)
  pub as_many_disks : length after.disks ≡ length driver.disks
  pub underruns : List Underrun
  pub more_underruns : after.underruns ≡ driver.underruns ++ underruns
  pub underruns_now : All (λ (underrun : Underrun). (underrun.cycle ≡ run driver + 1) × (underrun.disk < length driver.disks)) underruns
  pub left : (left : List ℤ) → driver.left ≡ Some left → after.left ≡ Some (drop (frames_read (turn_of driver.script (run driver + 1)) * driver.script.header.capture) left)
  pub own_rows : HasOwnRows after
  pub own_rings : HasOwnRings after
  pub script : after.script ≡ driver.script
  pub scores : after.scores ≡ driver.scores
  pub set : after.set ≡ driver.set

-- the playback is written in a `run` cycle alone, and stays one file that is attached
pub record WritesOnce (driver after : Driver) : Type 0 where
  pub unwritten : (turn_of driver.script (run driver + 1)).is_freewheel ≡ true → after.playback ≡ driver.playback
  pub playback : HasPlayback after
  pub file : (tape tape_after : Tape) → driver.playback ≡ Some tape → after.playback ≡ Some tape_after → SameFile tape tape_after
  pub failed : after.failed ≡ false

-- in a `run` cycle these samples were written behind whatever the playback had
abbrev pub Written : Driver → Driver → List ℤ → Type 0
Written driver after more = (turn_of driver.script (run driver + 1)).is_freewheel ≡ false → (samples : List ℤ) → HasTape driver.playback samples → HasTape after.playback (samples ++ more)

-- or a front of them was, in a `run` cycle that failed
pub record WrittenFront (driver after : Driver) (more : List ℤ) : Type 0 where
  pub in_run : (turn_of driver.script (run driver + 1)).is_freewheel ≡ false
  pub front : (samples : List ℤ) → HasTape driver.playback samples → HasTapeFront after.playback (samples ++ more)

-- what a cycle played is what the course gives: the transport's row; the blocks of the recorders; and the benches of a plan of this graph, each ready before, and then what the machine's recursion makes of it, with the memories of all that played
pub record PlaysOnce (driver after : Driver) (course : Course) : Type 0 where
  pub moments : after.moments ≡ driver.moments ++ moment course (run driver + 1) ∷ []
  pub transport : after.transport ≡ row course (run driver + 1)
  pub blocks : (recorder : ℕ) → recorder < length driver.rings → has_tape (graph_now after) recorder ≡ true → block_in after recorder ≡ block course recorder (run driver + 1)
  pub links : List Link
  pub before : ℕ → Bench
  pub plan : IsPlan (graph_now after) after.nodes links
  pub ready : IsReady course (settled_from course (run driver) driver.nodes (bench_at driver) (memory_in driver)) after.nodes links before
  pub played : (n : ℕ) → n < length after.nodes → bench_at after n ≡ sequential bench_after bench_gives links before n
  pub remembered : (n : ℕ) → n < length after.nodes → memory_in after (node_at after.nodes n).birth ≡ Some (bench_at after n).memory
  pub others : (birth : ℕ) → player_born (graph_now after) birth ≡ None → memory_in after birth ≡ memory_in driver birth

-- one cycle: whatever course fits behind it, if the driver kept it before, it keeps it behind
pub record CyclesOnce (driver after : Driver) : Type 0 where
  pub steps : StepsOnce driver after
  pub writes : WritesOnce driver after
  pub keeps : (course : Course) → Fits after course → Keeps driver course → Keeps after course

-- many cycles, one after another
abbrev pub CyclesMany : ℕ → Driver → Driver → Type 0
CyclesMany zero driver after = after ≡ driver
CyclesMany (suc n) driver after = (between : Driver) × CyclesMany n driver between × CyclesOnce between after

-- all but the playback is what the course gives, and the playback has a front of it
pub record KeepsBut (driver : Driver) (course : Course) : Type 0 where
  pub rest : Keeps (record driver { playback = None }) course
  pub front : HasTapeFront driver.playback (played_so_far course (run driver))

-- a cycle that failed at the capture took its row, and put, got and wrote nothing
pub record FailsAtRead (driver after : Driver) : Type 0 where
  pub taken : Reading
  pub number : ℕ
  pub takes : Takes driver.reading number taken
  pub begins : Begins taken (run driver + 1) after.reading
  pub numbers : after.numbers ≡ driver.numbers ++ number ∷ []
  pub failed : after.failed ≡ true
  pub same : after ≡ record driver { reading = after.reading; numbers = after.numbers; moments = after.moments; transport = after.transport; left = after.left; failed = true }

-- one that failed at the playback did all but that
pub record FailsAtWrite (driver after : Driver) : Type 0 where
  pub steps : StepsOnce driver after
  pub failed : after.failed ≡ true
  pub keeps : (course : Course) → Fits after course → Keeps driver course → KeepsBut after course

-- a ring whose ends met: the same blocks, and a bound that did not fall
pub record RingStays (before after : Sending) : Type 0 where
  pub put : after.put ≡ before.put
  pub capacity : after.capacity ≡ before.capacity
  pub samples : after.samples ≡ before.samples
  pub most : after.most ≡ before.most
  pub least : before.least ≤ after.least

-- a disk's ring whose ends met: the same blocks, and its end found or not
pub record DiskStays (before after : Getting) : Type 0 where
  pub samples : after.samples ≡ before.samples
  pub got : after.got ≡ before.got
  pub done : after.done ≡ before.done

-- the ends that a driver lends met others: its lists stay
pub record HasMetOthers (driver after : Driver) : Type 0 where
  pub rows : after.reading.rows ≡ driver.reading.rows
  pub rings : (recorder : ℕ) (ring : Sending) → slice_get after.rings recorder ≡ Some ring → (old : Sending) × (slice_get driver.rings recorder ≡ Some old) × RingStays old ring
  pub disks : (disk : ℕ) (got : Getting) → slice_get after.disks disk ≡ Some got → (old : Getting) × (slice_get driver.disks disk ≡ Some old) × DiskStays old got
  pub back : (disk : ℕ) (old : Getting) → slice_get driver.disks disk ≡ Some old → (got : Getting) × (slice_get after.disks disk ≡ Some got) × DiskStays old got
  pub same : after ≡ record driver { reading = after.reading; rings = after.rings; disks = after.disks }
