-- What is settled before the clients of a cycle play, in the driver's own terms and in those of its parts.
--     content-now, base-now, graph-now      the changes, the channels and the graph of the cycle are its plan's
--     moment-now      what the transport shows
--     goes-on      the plan goes on from the one before
--     channels-now      as many channels as the script's capture
--     settled-now      all that is settled
use Rattle.std.proofs.Common.{◌≡◌, ℕ, ◌+◌, ◌*◌, ◌<◌, cond, Bool, true, false, List, [], length, map, replicate, ℤ, Option, Some, refl, sym, ◌∙◌, ap, ap₂, subst}
use Rattle.std.specs.Prelude.{slice_index_or, unwrap_or}
use Rattle.jack_types.specs.declared.commands.Change.{Change}
use Rattle.jack_types.specs.declared.events.Event.{Event}
use Rattle.jack_types.specs.declared.moments.Moment.{Moment}
use Rattle.session_model.specs.Benches.{Bench, node_at, outputs_of}
use Rattle.session_model.specs.Commands.{replay}
use Rattle.session_model.specs.Driving.{kept_from}
use Rattle.session_model.specs.Kinds.{Memory, Sound, first}
use Rattle.session_model.specs.Samples.{below, sample, silence}
use Rattle.session_model.specs.Scripts.{Script}
use Rattle.session_model.specs.State.{OpenClient, State, opening}
use Rattle.session_model.specs.Transport.{active_master, shown}
use Rattle.client_kinds.specs.Scores.{Score}
use Rattle.port_registry.specs.Registered.{open_clients}
use Rattle.plan_transport.specs.cycle_plan.specs.Plans.{Planned, state_of_plan}
use Rattle.graph_word.specs.declared.plans.Base.{Base}
use Rattle.graph_word.specs.Publications.{IsFront, Reading}
use Rattle.transport.specs.Standings.{Standing}
use Rattle.playback_laws.specs.device_periods.specs.Captures.{Captured, Reads}
use Rattle.driver_words.specs.Feeding.{fed_at}
use Rattle.driver_words.specs.Hearings.{log_at}
use Rattle.plan_transport.specs.driver_laws.specs.Cycling.{MayCycle, StepsOnce}
use Rattle.plan_transport.specs.driver_laws.specs.Drivers.{Driver, bench_at, content_now, graph_now, graph_of, run}
use Rattle.plan_transport.specs.driver_laws.specs.Keeping.{AreOfCalls}
use Rattle.plan_transport.specs.driver_laws.specs.Playing.{capture_now, fed_now, kept_now, moment_now, settled_last, settled_now, with_fed}
use Rattle.playback_laws.specs.client_wiring.specs.Keeping.{GoesOn}
use Rattle.midi_wiring.specs.Keeping.{BringsCarried, Gave}
use Rattle.client_seats.specs.Seatings.{memory_of}
use Rattle.client_seats.proofs.SeatLemmas.{bench-within}
use Rattle.event_laws.specs.Machine.{BringsEvents}
use Rattle.play_laws.specs.Plays.{IsSettledOn, bench_of, with_log}
use Rattle.cycle_laws.specs.Gears.{Gear, IsGear, IsInStep, driver_of}
use Rattle.cycle_laws.specs.Turnings.{Turns}
use Rattle.cycle_laws.proofs.FrontLemmas.{front-front}
use Rattle.cycle_laws.proofs.SeenLemmas.{audio-seen, bench-seen, memory-logged, memory-own, outputs-same}

module _ (sounding : Score → Sound) {freewheel : Bool} {before after : Gear} {plan : Planned} {moment : Moment} (gear : IsGear sounding before) (may : MayCycle (driver_of sounding before) freewheel) (turns : Turns sounding freewheel before plan moment after)
    (steps : StepsOnce (driver_of sounding before) (driver_of sounding after)) where
  abbrev driver : Driver
  driver = driver_of sounding before

  abbrev played : Driver
  played = driver_of sounding after

  in_step : IsInStep sounding before
  in_step = gear.in_step may.sound

  pub content-now : content_now played ≡ plan.changes
  content-now = steps.own_rows.last ∙ ap (λ (p : Planned). p.changes) turns.plan_is

  -- the plan is for the script's channels
  pub base-now : plan.base ≡ record { capture = before.script.header.capture; playback = before.script.header.playback }
  base-now = turns.base ∙ ap (λ (r : Reading). r.base) turns.takes.same ∙ may.rows.base

  pub graph-now : graph_now played ≡ state_of_plan plan
  graph-now =
      ap₂ (λ (script : Script) (changes : List Change). graph_of script changes) turns.script content-now
      ∙ ap (λ (base : Base). replay (opening base.capture base.playback) plan.changes) (sym base-now)

  graph-last : graph_now driver ≡ state_of_plan before.stage.plan
  graph-last =
      ap (graph_of before.script) may.rows.last
      ∙ ap (λ (base : Base). replay (opening base.capture base.playback) before.stage.plan.changes) (sym gear.base)

  pub moment-now : moment ≡ moment_now driver played
  moment-now =
      turns.moment_is
      ∙ ap₂ (λ cycles rate. shown cycles after.transport.row rate (active_master (state_of_plan plan)))
      (ap (λ (s : Standing). s.cycles) turns.standing ∙ ap (λ cycles. cycles + 1) in_step.cycles) gear.rate
      ∙ ap (λ state. shown (run driver + 1) after.transport.row before.script.header.rate (active_master state)) (sym graph-now)

  -- the audio that feedback edges give is read from the stage's benches
  kept-now : (port : List ℕ) → (kept_now driver played).audio port
      ≡ (kept_from before.stage.staged.period (state_of_plan before.stage.plan) (outputs_of (settled_last driver) (open_clients before.stage.staged.nodes) (bench_of sounding before.stage.staged)) (state_of_plan plan) before.set).audio port
  kept-now port =
      ap₂ (λ period last. kept_at period last (graph_now played) (outputs_of (settled_last driver) driver.nodes (bench_at driver)).audio) (sym in_step.period) graph-last
      ∙ ap₂ (kept_at before.stage.staged.period (state_of_plan before.stage.plan)) graph-now (outputs-same (settled_last driver) driver.nodes (bench_at driver) (bench_of sounding before.stage.staged) (audio-seen sounding before))
    where
      kept_at : ℕ → State → State → (List ℕ → List ℤ) → List ℤ
      kept_at period last state audio = (kept_from period last (record { audio = audio; midi = λ _. [] }) state before.set).audio port

  -- the plan goes on from the one that the stage played last
  pub goes-on : GoesOn before.stage.plan plan
  goes-on = record {
    planned_last = gear.stands.stands.planned;
    planned = turns.planned;
    base = base-now ∙ sym gear.base;
    front = front-front before.stage.plan.changes before.reading.held plan.changes may.rows.place (subst (IsFront before.reading.held) (sym turns.content) turns.takes.front);
  }

  -- each bench of the last plan gave on its MIDI outputs what was heard
  gave-last : before.stage.staged.is_staffed ≡ true → Gave before.stage.plan before.events (bench_at driver)
  gave-last staffed n low =
      ap (λ (bench : Bench). bench.midi) (bench-seen sounding before n
      (bench-within (open_clients before.stage.plan.nodes) before.stage.staged.racked before.stage.staged.owned n n gear.stands.stands.seating ((gear.stands.staffed staffed).has n low)))

  -- the events that feedback edges give are told by the plans
  midi-kept : (port : List ℕ) → (kept_now driver played).midi port
      ≡ (kept_from before.events.period (state_of_plan before.stage.plan) (outputs_of (settled_last driver) (open_clients before.stage.plan.nodes) (bench_at driver)) (state_of_plan plan) before.set).midi port
  midi-kept port =
      ap₂ (λ period last. kept_of period last driver.nodes (graph_now played)) (sym in_step.heard) graph-last
      ∙ ap₂ (kept_of before.events.period (state_of_plan before.stage.plan)) (ap open_clients gear.stands.stands.nodes) graph-now
    where
      kept_of : ℕ → State → List OpenClient → State → List Event
      kept_of period last nodes state = (kept_from period last (outputs_of (settled_last driver) nodes (bench_at driver)) state before.set).midi port

  -- so feedback edges bring what outputs carried
  pub events-now : before.stage.staged.is_staffed ≡ true → BringsCarried before.stage.plan plan before.events after.events before.set → (left : List ℤ) → BringsEvents plan (settled_now driver played left) after.events
  events-now staffed brings left edge listed end back = midi-kept edge.source ∙ brings edge listed end back (settled_last driver) (bench_at driver) graph-last (gave-last staffed)

  -- a client of the plan
  abbrev client : ℕ → OpenClient
  client n = node_at (open_clients plan.nodes) n

  -- its memory is its own, or the first of its kind, with its log and its disk's block
  memory-now : AreOfCalls before.script before.stage.plan.changes
      → ((n : ℕ) → n < length plan.nodes → (memory : Memory) → with_fed (fed_now driver played) (client n).kind memory ≡ with_fed (fed_at after.disks) (client n).kind memory)
      → (left : List ℤ) (n : ℕ) → n < length plan.nodes
      → (settled_now driver played left).memory (client n)
      ≡ with_fed (fed_at after.disks) (client n).kind (with_log (log_at before.events (client n).birth)
      (unwrap_or (memory_of before.stage.staged.racked before.stage.staged.owned (client n).birth) (first (map sounding before.stage.staged.owned.scores) (client n).kind)))
  memory-now of_last fed left n low =
      ap (with_fed (fed_now driver played) (client n).kind)
      (ap (λ held. unwrap_or held (first driver.scores (client n).kind)) (memory-logged sounding before (client n).birth)
      ∙ memory-own (log_at before.events (client n).birth) (memory_of before.stage.staged.racked before.stage.staged.owned (client n).birth) driver.scores (client n).kind (gear.logs of_last (client n).birth))
      ∙ fed n low (with_log (log_at before.events (client n).birth)
      (unwrap_or (memory_of before.stage.staged.racked before.stage.staged.owned (client n).birth) (first driver.scores (client n).kind)))

  module _ (left : List ℤ) (told : driver.left ≡ Some left)
      (as_many_read : (left : List ℤ) (rest : Option (List ℤ)) (channels : List (List ℤ)) (count frames : ℕ) → Reads (Some left) rest channels count frames → length channels ≡ count)
      (was_read : (left : List ℤ) (rest : Option (List ℤ)) (channels : List (List ℤ)) (count frames c : ℕ) → Reads (Some left) rest channels count frames → c < count
      → slice_index_or channels c [] ≡ map (λ i. sample left (i * count + c)) (below frames))
      (rested : (channels : List (List ℤ)) (count frames : ℕ) → channels ≡ replicate count (silence frames) → (length channels ≡ count) × ((c : ℕ) → c < count → slice_index_or channels c [] ≡ silence frames)) where
    abbrev count : ℕ
    count = before.capture.reading.format.channels

    of-run : freewheel ≡ false → Reads (Some left) after.capture.reading.left after.capture.channels count before.set
    of-run run_is = subst (λ l. Reads l after.capture.reading.left after.capture.channels count before.set) told (turns.reads run_is)

    of-freewheel : freewheel ≡ true → after.capture.channels ≡ replicate count (silence before.set)
    of-freewheel rests_is = ap (λ (c : Captured). c.channels) (turns.rests rests_is)

    as-many : length after.capture.channels ≡ count
    as-many = go freewheel refl
      where
        go : (b : Bool) → freewheel ≡ b → length after.capture.channels ≡ count
        go true e = (rested after.capture.channels count before.set (of-freewheel e)).0
        go false e = as_many_read left after.capture.reading.left after.capture.channels count before.set (of-run e)

    pub channels-now : length after.capture.channels ≡ before.script.header.capture
    channels-now = as-many ∙ gear.capture_channels

    -- a channel of the cycle, by its kind
    abbrev channel_in : Bool → ℕ → ℕ → List ℤ
    channel_in rests count channel = cond rests (silence before.set) (map (λ i. sample left (i * count + channel)) (below before.set))

    pub captured-now : (channel : ℕ) → channel < length after.capture.channels → capture_now driver left channel ≡ slice_index_or after.capture.channels channel []
    captured-now channel low = ap₂ (λ rests count. channel_in rests count channel) may.turn_is (sym gear.capture_channels) ∙ go freewheel refl
      where
        within : channel < count
        within = subst (λ k. channel < k) as-many low

        go : (b : Bool) → freewheel ≡ b → channel_in freewheel count channel ≡ slice_index_or after.capture.channels channel []
        go true e = ap (λ b. channel_in b count channel) e ∙ sym ((rested after.capture.channels count before.set (of-freewheel e)).1 channel within)
        go false e = ap (λ b. channel_in b count channel) e ∙ sym (was_read left after.capture.reading.left after.capture.channels count before.set channel (of-run e) within)

    pub settled-now : AreOfCalls before.script before.stage.plan.changes
        → ((n : ℕ) → n < length plan.nodes → (memory : Memory) → with_fed (fed_now driver played) (client n).kind memory ≡ with_fed (fed_at after.disks) (client n).kind memory)
        → BringsEvents plan (settled_now driver played left) after.events
        → IsSettledOn sounding before.stage.staged before.stage.plan plan moment before.set after.capture.channels before.events after.events after.disks (settled_now driver played left)
    settled-now of_last fed events = record {
      graph = graph-now;
      moment_is = sym moment-now;
      frames = refl;
      capture = captured-now;
      at_last = settled_last driver;
      graph_last = graph-last;
      frames_last = sym in_step.period;
      before = kept-now;
      events = events;
      memory = memory-now of_last fed left;
    }
