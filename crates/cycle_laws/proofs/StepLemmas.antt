-- What the calls of a cycle leave is one step of the driver.
--     graph-is      its graph is the plan's
--     puts      at each ring the blocks were put as by the driver
--     frames-is      the frames of one cycle more
--     StepsOnce-turned      it is a step
use Rattle.std.proofs.Common.{◌≡◌, ℕ, ◌+◌, ◌*◌, ◌≤◌, Bool, true, false, List, [], ◌∷◌, ◌++◌, drop, length, map, position, All, slice_get, ℤ, Some, refl, sym, ◌∙◌, ap, ap₂, subst}
use Rattle.std.proofs.lemmas.Option.{get_or_from_slice_get, slice_get_within}
use Rattle.jack_types.specs.declared.commands.Change.{Change}
use Rattle.jack_types.specs.declared.moments.Moment.{Moment}
use Rattle.session_model.specs.Courses.{is_disk, players}
use Rattle.session_model.specs.Kinds.{Sound, input_at}
use Rattle.session_model.specs.Recorders.{is_tape}
use Rattle.session_model.specs.Scripts.{Script}
use Rattle.session_model.specs.State.{OpenClient, State}
use Rattle.session_model.specs.Transport.{active_master, next_row, shown, slow_numbers, timeout_of}
use Rattle.client_kinds.specs.Scores.{Score}
use Rattle.port_registry.specs.Registered.{open_clients}
use Rattle.plan_transport.specs.cycle_plan.specs.Plans.{Planned, state_of_plan}
use Rattle.driver_words.specs.Feeding.{AreForPeriods, Fed}
use Rattle.driver_words.specs.Rings.{Getting, Sending}
use Rattle.transport.specs.Standings.{HasTarget, Standing}
use Rattle.cycle_blocks.specs.bench_rack.specs.Racks.{bench_at as bench_of_rack}
use Rattle.playback_laws.specs.device_periods.specs.Captures.{Captured}
use Rattle.plan_transport.specs.driver_laws.specs.Cycling.{GetsOne, MayCycle, PutsOne, StepsOnce}
use Rattle.plan_transport.specs.driver_laws.specs.Drivers.{HasOwnRings, HasOwnRows, IsOwnDisk, bench_at, block_in, channels_on, content_now, frames_read, frames_run, graph_now, greatest_period, has_disk, has_tape, overruns_on, turn_of, underruns_on}
use Rattle.plan_transport.specs.driver_laws.specs.Keeping.{AreOfCalls}
use Rattle.plan_transport.specs.driver_laws.specs.Playing.{adopted_now, last_number, moment_now}
use Rattle.cycle_blocks.specs.recorder_rings.specs.Sending.{channels_at, no_ring, ring_at}
use Rattle.cycle_blocks.specs.Blocks.{block_by, is_taped}
use Rattle.disk_feeds.specs.Cycling.{is_fed}
use Rattle.cycle_laws.specs.Gears.{Gear, IsGear, driver_of}
use Rattle.cycle_laws.specs.Turnings.{Turns}
use Rattle.cycle_laws.proofs.BlockLemmas.{block-same, frames-of_freewheel, frames-of_run, left-read, left-rest}
use Rattle.cycle_laws.proofs.DiskLemmas.{disks-are, disks-own}
use Rattle.cycle_laws.proofs.FrameLemmas.{frames-after}
use Rattle.cycle_laws.proofs.ListLemmas.{any-permuted, found-permuted}
use Rattle.cycle_laws.proofs.RingLemmas.{HasOwnRings-next, block-length, grows, puts-same}
use Rattle.cycle_laws.proofs.RowLemmas.{HasOwnRows-next, graph-planned}
use Rattle.cycle_laws.proofs.SeenLemmas.{sounds-seen}
use Rattle.cycle_laws.proofs.SendLemmas.{channels-are}

module _ (sounding : Score → Sound) (freewheel : Bool) (before after : Gear) (plan : Planned) (moment : Moment) (is : IsGear sounding before) (may : MayCycle (driver_of sounding before) freewheel) (turned : Turns sounding freewheel before plan moment after) where
  -- the graph of the cycle is the plan's
  pub graph-is : graph_now (driver_of sounding after) ≡ state_of_plan plan
  graph-is = graph-planned (driver_of sounding before) (driver_of sounding after) turned.number turned.taken turned.takes turned.begins may.rows turned.numbers turned.script plan turned.content turned.base

  own-rows : HasOwnRows (driver_of sounding after)
  own-rows = HasOwnRows-next (driver_of sounding before) (driver_of sounding after) turned.number turned.taken turned.takes turned.begins may.rows turned.numbers turned.script (ap (λ (p : Planned). p.changes) turned.plan_is ∙ turned.content)

  pub frames-is : frames_run (driver_of sounding after) ≡ frames_run (driver_of sounding before) + before.set
  frames-is = frames-after (driver_of sounding before) may.left may.period_is (driver_of sounding after) turned.number turned.script turned.numbers

  taped : (recorder : ℕ) → is_taped (open_clients plan.nodes) recorder ≡ has_tape (graph_now (driver_of sounding after)) recorder
  taped recorder =
      sym (found-permuted (λ (client : OpenClient). is_tape recorder client.kind) (players (state_of_plan plan)) (open_clients plan.nodes) turned.planned.moved)
      ∙ ap (λ (state : State). has_tape state recorder) (sym graph-is)

  fed : (disk : ℕ) → is_fed (open_clients plan.nodes) disk ≡ has_disk (graph_now (driver_of sounding after)) disk
  fed disk =
      sym (any-permuted (λ (client : OpenClient). is_disk disk client.kind) (players (state_of_plan plan)) (open_clients plan.nodes) turned.planned.moved)
      ∙ ap (λ (state : State). has_disk state disk) (sym graph-is)

  nodes-are : open_clients plan.nodes ≡ open_clients after.stage.staged.nodes
  nodes-are = ap open_clients (sym turned.stands.stands.nodes)

  channels-is : (recorder : ℕ) → channels_at before.rings recorder ≡ channels_on after.script recorder
  channels-is recorder =
      channels-are before.rings (driver_of sounding before) may.rings.own is.rings_channels recorder
      ∙ ap (λ (s : Script). channels_on s recorder) (sym turned.script)

  heard : (recorder : ℕ) → block_by after.stage.staged.racked (open_clients plan.nodes) before.set (channels_at before.rings recorder) recorder ≡ block_in (driver_of sounding after) recorder
  heard recorder =
      block-same before.set after.set (channels_at before.rings recorder) (channels_on after.script recorder)
      (λ n. (bench_of_rack after.stage.staged.racked n).kept.sounds) (λ n. (bench_at (driver_of sounding after) n).sounds)
      (position (λ (client : OpenClient). is_tape recorder client.kind) (open_clients plan.nodes)) (position (λ (client : OpenClient). is_tape recorder client.kind) (open_clients after.stage.staged.nodes))
      (sym turned.set) (channels-is recorder) (λ n. sym (sounds-seen sounding after n))
      (ap (position (λ (client : OpenClient). is_tape recorder client.kind)) nodes-are)

  -- at each ring the blocks were put as by the driver
  pub puts : (recorder : ℕ) (ring ring_after : Sending) → slice_get before.rings.rings recorder ≡ Some ring → slice_get after.rings.rings recorder ≡ Some ring_after
      → PutsOne (length before.numbers + 1) recorder (has_tape (graph_now (driver_of sounding after)) recorder) (block_in (driver_of sounding after) recorder) ring ring_after (overruns_on before.rings.overruns recorder) (overruns_on after.rings.overruns recorder)
  puts recorder ring ring_after here there =
      puts-same (length before.numbers + 1) recorder (is_taped (open_clients plan.nodes) recorder) (has_tape (graph_now (driver_of sounding after)) recorder)
      (block_by after.stage.staged.racked (open_clients plan.nodes) before.set (channels_at before.rings recorder) recorder) (block_in (driver_of sounding after) recorder)
      (ring_at before.rings recorder) ring (ring_at after.rings recorder) ring_after (overruns_on before.rings.overruns recorder) (overruns_on after.rings.overruns recorder)
      (taped recorder) (heard recorder) (get_or_from_slice_get before.rings.rings recorder ring no_ring here) (get_or_from_slice_get after.rings.rings recorder ring_after no_ring there)
      (turned.sends.each recorder (slice_get_within before.rings.rings recorder ring here))

  block-fits : (recorder : ℕ) → length (block_in (driver_of sounding after) recorder) ≤ before.set * channels_on before.script recorder
  block-fits recorder =
      subst (λ n. length (block_in (driver_of sounding after) recorder) ≤ n)
      (ap₂ (λ a b. a * b) turned.set (ap (λ (s : Script). channels_on s recorder) turned.script))
      (block-length after.set (channels_on after.script recorder) (λ n. input_at after.set (bench_at (driver_of sounding after) n).sounds) (position (λ (client : OpenClient). is_tape recorder client.kind) (open_clients after.stage.staged.nodes)))

  -- the disks' rings are for the greatest period yet
  own-disks : (AreForPeriods before.disks → AreForPeriods after.disks) → (disk : ℕ) (got : Getting) → slice_get after.disks.disks disk ≡ Some got → IsOwnDisk (driver_of sounding after) disk got
  own-disks ready = disks-own after.disks (driver_of sounding after)
      (ap (λ (f : Fed). f.channels) turned.gets.same ∙ is.disks.channels ∙ ap (λ (s : Script). s.header.disks) (sym turned.script))
      (ap (λ (f : Fed). f.period) turned.gets.same ∙ is.disks.period ∙ ap greatest_period (sym turned.script))
      (ready (disks-are before.disks (driver_of sounding before) is.disks.channels is.disks.period may.rings.own_disks))

  own-rings : (AreForPeriods before.disks → AreForPeriods after.disks) → HasOwnRings (driver_of sounding after)
  own-rings ready = HasOwnRings-next (driver_of sounding before) (driver_of sounding after) may.rings turned.script frames-is turned.sends.as_many turned.gets.as_many (turned.gets.counted may.rings.gets) (own-disks ready) (turned.sends.counted may.rings.puts)
      (block_in (driver_of sounding after)) block-fits
      (λ recorder ring ring_after here there. grows (length before.numbers + 1) recorder (has_tape (graph_now (driver_of sounding after)) recorder) (block_in (driver_of sounding after) recorder) ring ring_after
      (overruns_on before.rings.overruns recorder) (overruns_on after.rings.overruns recorder) (puts recorder ring ring_after here there))

  left-is : (left : List ℤ) → before.capture.reading.left ≡ Some left
      → after.capture.reading.left ≡ Some (drop (frames_read (turn_of before.script (length before.numbers + 1)) * before.script.header.capture) left)
  left-is left told = go freewheel refl
    where
      go : (b : Bool) → freewheel ≡ b → after.capture.reading.left ≡ Some (drop (frames_read (turn_of before.script (length before.numbers + 1)) * before.script.header.capture) left)
      go true e = left-rest left before.capture.reading.left after.capture.reading.left before.script.header.capture (frames_read (turn_of before.script (length before.numbers + 1)))
          (frames-of_freewheel (turn_of before.script (length before.numbers + 1)) (may.turn_is ∙ e))
          (ap (λ (c : Captured). c.reading.left) (turned.rests e)) told
      go false e = left-read left before.capture.reading.left after.capture.reading.left after.capture.channels before.capture.reading.format.channels before.script.header.capture
          before.set (frames_read (turn_of before.script (length before.numbers + 1))) (turned.reads e) is.capture_channels
          (sym (frames-of_run (turn_of before.script (length before.numbers + 1)) (may.turn_is ∙ e) ∙ may.period_is)) told

  content-is : content_now (driver_of sounding after) ≡ plan.changes
  content-is = own-rows.last ∙ ap (λ (p : Planned). p.changes) turned.plan_is

  -- one step of the transport
  transport-is : (AreOfCalls before.script plan.changes → All HasTarget (drop (last_number (driver_of sounding before)) plan.changes)) → AreOfCalls before.script (content_now (driver_of sounding after))
      → after.transport.row
      ≡ next_row before.transport.row (adopted_now (driver_of sounding before) (driver_of sounding after)) (slow_numbers (graph_now (driver_of sounding after))) (timeout_of (graph_now (driver_of sounding after)) before.script.header.rate before.set) before.set
  transport-is targets of_calls =
      turned.row (targets (subst (AreOfCalls before.script) content-is of_calls))
      ∙ ap₂ (λ (changes : List Change) state. next_row before.transport.row (drop (last_number (driver_of sounding before)) changes) (slow_numbers state) (timeout_of state before.transport.rate before.set) before.set)
      (sym content-is) (sym graph-is)
      ∙ ap (λ rate. next_row before.transport.row (adopted_now (driver_of sounding before) (driver_of sounding after)) (slow_numbers (graph_now (driver_of sounding after))) (timeout_of (graph_now (driver_of sounding after)) rate before.set) before.set) is.rate

  -- and what it shows
  moment-is : moment ≡ moment_now (driver_of sounding before) (driver_of sounding after)
  moment-is =
      turned.moment_is
      ∙ ap₂ (λ cycles rate. shown cycles after.transport.row rate (active_master (state_of_plan plan)))
      (ap (λ (s : Standing). s.cycles) turned.standing ∙ ap (λ cycles. cycles + 1) (is.in_step may.sound).cycles) is.rate
      ∙ ap (λ state. shown (length before.numbers + 1) after.transport.row before.script.header.rate (active_master state)) (sym graph-is)

  pub StepsOnce-turned : (AreOfCalls before.script plan.changes → All HasTarget (drop (last_number (driver_of sounding before)) plan.changes))
      → ((disk : ℕ) (got got_after : Getting) → slice_get before.disks.disks disk ≡ Some got → slice_get after.disks.disks disk ≡ Some got_after
      → GetsOne (length before.numbers + 1) disk (is_fed (open_clients plan.nodes) disk) got got_after (underruns_on before.disks.underruns disk) (underruns_on after.disks.underruns disk))
      → (AreForPeriods before.disks → AreForPeriods after.disks) → StepsOnce (driver_of sounding before) (driver_of sounding after)
  StepsOnce-turned targets gets ready = record {
    taken = turned.taken;
    number = turned.number;
    takes = turned.takes;
    begins = turned.begins;
    numbers = turned.numbers;
    transport = transport-is targets;
    moments = turned.moments ∙ ap (λ m. before.moments ++ m ∷ []) moment-is;
    rings = puts;
    as_many = turned.sends.as_many;
    overruns = turned.sends.overruns;
    more_overruns = turned.sends.more;
    overruns_now = turned.sends.now;
    disks = λ disk got got_after here there.
        subst (λ (b : Bool). GetsOne (length before.numbers + 1) disk b got got_after (underruns_on before.disks.underruns disk) (underruns_on after.disks.underruns disk)) (fed disk) (gets disk got got_after here there);
    as_many_disks = turned.gets.as_many;
    underruns = turned.gets.underruns;
    more_underruns = turned.gets.more;
    underruns_now = turned.gets.now;
    left = left-is;
    own_rows = own-rows;
    own_rings = own-rings ready;
    script = turned.script;
    scores = ap (map sounding) turned.scores;
    set = turned.set;
  }
