-- What a cycle plays, in the driver's own terms: read from the samples that its capture has left, from its rings and from its benches.
--     settled_now driver after left      what is settled before the cycle's clients play
--     played_now driver after left      what the playback gets
--     PlaysOwn driver after left      the cycle played so
use Rattle.std.specs.Prelude.{◌≡◌, ℕ, ◌+◌, ◌*◌, ◌<◌, ◌==◌, Bool, List, [], ◌∷◌, ◌++◌, length, map, drop, slice_get, slice_index, slice_index_or, ℤ, Option, Some, None, unwrap_or, if◌then◌else◌}
use Rattle.std.specs.List.{list_any}
use Rattle.std.specs.Option.{option_map_or}
use Rattle.record_ring.specs.jack_types.specs.declared.commands.Change.{Change}
use Rattle.record_ring.specs.jack_types.specs.declared.kinds.Kind.{Kind}
use Rattle.record_ring.specs.jack_types.specs.declared.kinds.Kind.TheVariants.{Disk}
use Rattle.record_ring.specs.jack_types.specs.declared.moments.Moment.{Moment}
use Rattle.record_ring.specs.jack_types.specs.declared.ports.Link.{Link}
use Rattle.record_ring.specs.jack_types.specs.declared.replies.Underrun.{Underrun}
use Rattle.record_ring.specs.session_model.specs.Activation.{sequential}
use Rattle.record_ring.specs.session_model.specs.Benches.{Bench, bench_after, bench_gives, node_at, outputs_of, IsPlan, IsReady}
use Rattle.record_ring.specs.session_model.specs.Courses.{Course}
use Rattle.record_ring.specs.session_model.specs.Cycles.{Signals, Settled, edges_into, no_signals, player_born}
use Rattle.record_ring.specs.session_model.specs.Driving.{kept_from}
use Rattle.record_ring.specs.session_model.specs.Kinds.{Memory, first}
use Rattle.record_ring.specs.session_model.specs.Rings.{RingBlock}
use Rattle.record_ring.specs.session_model.specs.Samples.{below, interleaved, mix, sample, silence, channels_of}
use Rattle.record_ring.specs.session_model.specs.State.{Connection, playback_port}
use Rattle.record_ring.specs.session_model.specs.Transport.{next_row, shown, slow_numbers, timeout_of, active_master}
use Rattle.record_ring.specs.driver_words.specs.Rings.{Getting}
use Rattle.driver_laws.specs.Drivers.{Driver, run, turn_of, content_now, graph_now, underruns_on, bench_at, memory_in}

-- a course of the driver's script and scores, for what reads nothing else of a course
abbrev pub own_course : Driver → Course
own_course driver = record { script = driver.script; capture = []; disks = []; scores = driver.scores; changes = []; numbers = []; underruns = [] }

-- the number that the last cycle took, 0 before the first
abbrev pub last_number : Driver → ℕ
last_number driver = slice_index (0 ∷ driver.numbers) (run driver)

-- the changes that the next cycle takes and the last one did not
abbrev pub adopted_now : Driver → Driver → List Change
adopted_now driver after = drop (last_number driver) (content_now after)

-- what the transport shows in the cycle
abbrev pub moment_now : Driver → Driver → Moment
moment_now driver after = shown (run driver + 1) after.transport driver.script.header.rate (active_master (graph_now after))

-- what a capture port gives: the channel of the next frames left, zeros past their end; silence in a freewheel cycle
abbrev pub capture_now : Driver → List ℤ → ℕ → List ℤ
capture_now driver left channel =
    if (turn_of driver.script (run driver + 1)).is_freewheel then silence driver.set
    else map (λ i. sample left (i * driver.script.header.capture + channel)) (below driver.set)

-- what is settled of the last cycle, for its outputs: those of clients alone are kept
abbrev pub settled_last : Driver → Settled
settled_last driver = record {
  graph = graph_now driver;
  moment = shown 0 driver.transport 0 None;
  frames = (turn_of driver.script (run driver)).period;
  capture = λ channel. [];
  before = no_signals 0;
  memory = λ client. first driver.scores client.kind;
}

-- what feedback edges give: the last benches' outputs, where the period is the same and the port was there
abbrev pub kept_now : Driver → Driver → Signals
kept_now driver after = kept_from (turn_of driver.script (run driver)).period (graph_now driver) (outputs_of (settled_last driver) driver.nodes (bench_at driver)) (graph_now after) driver.set

-- the samples of the block that the cycle got from a disk's ring, none where it got no block
abbrev pub samples_got : Option Getting → Option Getting → List ℤ
samples_got (Some before) (Some after) = option_map_or (λ (one : RingBlock). one.samples) (slice_get after.got (length before.got)) []
samples_got _ _ = []

-- whether the cycle was an underrun of the disk
abbrev pub is_missed : Driver → Driver → ℕ → Bool
is_missed driver after disk = list_any (λ (underrun : Underrun). underrun.cycle == run driver + 1) (underruns_on after.underruns disk)

-- what the disk's player is given: the channels of the block that was got, zeros behind the file's end, nothing in an underrun
abbrev pub fed_now : Driver → Driver → ℕ → List (List ℤ)
fed_now driver after disk =
    if is_missed driver after disk then []
    else channels_of (slice_index_or driver.script.header.disks disk 0) driver.set (samples_got (slice_get driver.disks disk) (slice_get after.disks disk))

-- a disk's player is given its block, and no other client is
abbrev pub with_fed : (ℕ → List (List ℤ)) → Kind → Memory → Memory
with_fed fed (Disk disk) memory = record memory { fed = fed disk }
with_fed fed _ memory = memory

-- what is settled before the clients play; a client's memory is its own, or the first of its kind where it was never active
abbrev pub settled_now : Driver → Driver → List ℤ → Settled
settled_now driver after left = record {
  graph = graph_now after;
  moment = moment_now driver after;
  frames = driver.set;
  capture = capture_now driver left;
  before = kept_now driver after;
  memory = λ client. with_fed (fed_now driver after) client.kind (unwrap_or (memory_in driver client.birth) (first driver.scores client.kind));
}

-- what a playback port gets: the mix of what its edges' sources give now
abbrev pub mixed_now : Driver → Driver → List ℤ → List ℕ → List ℤ
mixed_now driver after left port =
    mix driver.set (map (λ (edge : Connection). (outputs_of (settled_now driver after left) after.nodes (bench_at after)).audio edge.source) (edges_into (graph_now after) port))

-- the playback ports, interleaved
abbrev pub played_now : Driver → Driver → List ℤ → List ℤ
played_now driver after left = interleaved driver.set (map (mixed_now driver after left) (map (λ i. (playback_port i).name) (below driver.script.header.playback)))

-- a cycle over so many samples left: the period set is the cycle's, and where there is a disk the script's first one; one step of the transport; the benches of a plan of this graph, each ready before, and then what the machine's recursion makes of it, with the memories of all that played
pub record PlaysOwn (driver after : Driver) (left : List ℤ) : Type 0 where
  pub period : (turn_of driver.script (run driver + 1)).period ≡ driver.set
  pub full : (disk : ℕ) → disk < length driver.disks → driver.set ≡ driver.script.header.period
  pub transport : after.transport ≡ next_row driver.transport (adopted_now driver after) (slow_numbers (graph_now after)) (timeout_of (graph_now after) driver.script.header.rate driver.set) driver.set
  pub moments : after.moments ≡ driver.moments ++ moment_now driver after ∷ []
  pub links : List Link
  pub before : ℕ → Bench
  pub plan : IsPlan (graph_now after) after.nodes links
  pub ready : IsReady (own_course driver) (settled_now driver after left) after.nodes links before
  pub played : (n : ℕ) → n < length after.nodes → bench_at after n ≡ sequential bench_after bench_gives links before n
  pub remembered : (n : ℕ) → n < length after.nodes → memory_in after (node_at after.nodes n).birth ≡ Some (bench_at after n).memory
  pub others : (birth : ℕ) → player_born (graph_now after) birth ≡ None → memory_in after birth ≡ memory_in driver birth
