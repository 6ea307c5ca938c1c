-- A cycle that played what its driver's own rings, capture and benches say played what each course gives that fits and was kept.
--     PlaysOnce-own      from the driver's own terms to a course's
--     played-now      and so the playback's samples
use Rattle.std.proofs.Common.{◌≡◌, ℕ, suc, ◌+◌, ◌*◌, ◌<◌, ◌==◌, ◌&&◌, Bool, true, cond, List, [], ◌∷◌, ◌++◌, length, map, drop, ℤ, Some, unwrap_or, Contains, refl, sym, ◌∙◌, ap, ap₂, subst, arith, eq-eqb}
use Rattle.std.specs.List.{list_any}
use Rattle.std.specs.Str.{bytes_eq}
use Rattle.std.proofs.lemmas.List.Folds.{list_any-from_Any}
use Rattle.record_ring.specs.jack_types.specs.declared.kinds.Kind.{Kind}
use Rattle.record_ring.specs.jack_types.specs.declared.kinds.Kind.TheVariants.{Disk}
use Rattle.record_ring.specs.jack_types.specs.declared.moments.Moment.{Moment}
use Rattle.record_ring.specs.session_model.specs.Benches.{Bench, Task, node_at, outputs_of, task_of, IsPlan, IsReady}
use Rattle.record_ring.specs.session_model.specs.Courses.{Course, turn, graph, period, captured, frames_before, players, is_disk}
use Rattle.record_ring.specs.session_model.specs.Cycles.{Signals, Settled, cycle, edges_into, input_of, no_signals, was_there, with_block, player_born}
use Rattle.record_ring.specs.session_model.specs.Driving.{kept_from, settled_from, IsDriven}
use Rattle.record_ring.specs.session_model.specs.Kinds.{Memory, Sound, first}
use Rattle.record_ring.specs.session_model.specs.Playback.{played_in}
use Rattle.record_ring.specs.session_model.specs.Recorders.{block}
use Rattle.record_ring.specs.session_model.specs.Samples.{below, interleaved, mix, silence}
use Rattle.record_ring.specs.session_model.specs.Scripts.{Script}
use Rattle.record_ring.specs.session_model.specs.State.{State, OpenClient, Connection, playback_port}
use Rattle.record_ring.specs.session_model.specs.Transport.{moment, row}
use Rattle.cycle_plan.specs.session_laws.proofs.CycleLemmas.{find-contains}
use Rattle.cycle_plan.specs.session_laws.proofs.DrivingLemmas.{cycle-graph, cycle-frames, input_of-is_mixed}
use Rattle.cycle_plan.specs.session_laws.proofs.FeedbackLemmas.{FeedbackInside}
use Rattle.cycle_plan.specs.session_laws.proofs.PlaceLemmas.{map-after, map-same}
use Rattle.cycle_plan.specs.session_laws.proofs.PlanLemmas.{FeedbackInside-graph}
use Rattle.driver_laws.specs.Drivers.{Driver, run, turn_of, graph_now, has_disk, bench_at, memory_in}
use Rattle.driver_laws.specs.Keeping.{Fits, Keeps}
use Rattle.driver_laws.specs.Cycling.{StepsOnce, PlaysOnce}
use Rattle.driver_laws.specs.Playing.{own_course, moment_now, capture_now, settled_last, kept_now, fed_now, with_fed, settled_now, mixed_now, played_now, PlaysOwn}
use Rattle.driver_laws.proofs.CaptureLemmas.{channel_of, captured-left}
use Rattle.driver_laws.proofs.DrivenLemmas.{IsDriven-played}
use Rattle.driver_laws.proofs.FedLemmas.{fed-now}
use Rattle.driver_laws.proofs.StepLemmas.{graph-of_row, script-same}
use Rattle.driver_laws.proofs.TapeLemmas.{IsOneOfEach, block-in}
use Rattle.driver_laws.proofs.TaskLemmas.{AgreeBack, outputs-plain, outputs-plain_midi, task_of-same}
use Rattle.driver_laws.proofs.TransportLemmas.{graph-last, period-now, period-last, row-now, moment-now}

-- a disk's player is active
plays_disk : (state : State) (client : OpenClient) (disk : ℕ) → Contains (players state) client → client.kind ≡ Disk disk → has_disk state disk ≡ true
plays_disk state client disk member kind = list_any-found (λ (c : OpenClient). is_disk disk c.kind) (players state) client member (ap (is_disk disk) kind ∙ eq-eqb disk disk refl)
  where
    list_any-found : {X : Type 0} (test : X → Bool) (xs : List X) (x : X) → Contains xs x → test x ≡ true → list_any test xs ≡ true
    list_any-found test xs x m e = list_any-from_Any test xs (m.0, x, m.1, m.2, e)

-- what outputs give rests on graph, frames and capture
abbrev outputs_by : State → ℕ → (ℕ → List ℤ) → Moment → List OpenClient → (ℕ → Bench) → List ℕ → List ℤ
outputs_by state frames capture moment nodes benches port =
    (outputs_of (record { graph = state; moment = moment; frames = frames; capture = capture; before = no_signals 0; memory = λ client. first [] client.kind }) nodes benches).audio port

module _ (driver after : Driver) (steps : StepsOnce driver after) (left : List ℤ) (own : PlaysOwn driver after left) (course : Course) (fits : Fits after course) (keeps : Keeps driver course) (told : driver.left ≡ Some left) where
  next : suc (run driver) ≡ run driver + 1
  next = omega arith

  script_is : course.script ≡ driver.script
  script_is = script-same driver after steps course fits

  state_is : graph course (suc (run driver)) ≡ graph_now after
  state_is = graph-of_row driver after steps course fits

  frames_are : period course (suc (run driver)) ≡ driver.set
  frames_are = period-now driver after steps course fits own.period

  row_is : after.transport ≡ row course (suc (run driver))
  row_is = row-now driver after steps course fits own.period keeps.transport own.transport

  moment_is : moment_now driver after ≡ moment course (suc (run driver))
  moment_is = moment-now driver after steps course fits row_is ∙ ap (moment course) (sym next)

  left_is : drop (frames_before course (suc (run driver)) * course.script.header.capture) course.capture ≡ left
  left_is = ap (λ m. drop (frames_before course m * course.script.header.capture) course.capture) next ∙ some-same (sym keeps.left ∙ told)
    where
      some-same : {xs ys : List ℤ} → Some xs ≡ Some ys → xs ≡ ys
      some-same e = cc

  capture_is : captured course (suc (run driver)) ≡ capture_now driver left
  capture_is i = λ channel. one channel i
    where
      one : (channel : ℕ) → captured course (suc (run driver)) channel ≡ capture_now driver left channel
      one channel =
          captured-left course (suc (run driver)) channel
          ∙ ap₂ (λ frames samples. channel_of (turn course (suc (run driver))) frames course.script.header.capture samples channel) frames_are left_is
          ∙ ap₂ (λ (s : Script) m. channel_of (turn_of s m) driver.set s.header.capture left channel) script_is next

  -- ---- what feedback edges give

  abbrev before_from : Signals
  before_from = kept_from (period course (run driver)) (graph course (run driver)) (outputs_of (cycle course (run driver)).settled driver.nodes (bench_at driver)) (graph course (suc (run driver))) (period course (suc (run driver)))

  inside : FeedbackInside (graph course (suc (run driver))).edges
  inside = FeedbackInside-graph course (suc (run driver))

  last_frames : (cycle course (run driver)).settled.frames ≡ (turn_of driver.script (run driver)).period
  last_frames = cycle-frames course (run driver) ∙ period-last driver after steps course fits

  last_graph : (cycle course (run driver)).settled.graph ≡ graph_now driver
  last_graph = cycle-graph course (run driver) ∙ graph-last driver after steps course fits

  agree : AgreeBack (graph course (suc (run driver))).edges before_from (kept_now driver after)
  agree = record {
    audio = λ edge m mark.
        ap (λ samples. cond (period course (run driver) == period course (suc (run driver)) && was_there (graph course (run driver)) (graph course (suc (run driver))) edge.source) samples (silence (period course (suc (run driver)))))
        (outputs-plain (cycle course (run driver)).settled (settled_last driver) driver.nodes (bench_at driver) edge.source last_graph last_frames (inside edge m mark).0)
        ∙ ap₂ (λ last frames. cond (last == frames && was_there (graph course (run driver)) (graph course (suc (run driver))) edge.source) ((outputs_of (settled_last driver) driver.nodes (bench_at driver)).audio edge.source) (silence frames))
        (period-last driver after steps course fits) frames_are
        ∙ ap₂ (λ state now. cond ((turn_of driver.script (run driver)).period == driver.set && was_there state now edge.source) ((outputs_of (settled_last driver) driver.nodes (bench_at driver)).audio edge.source) (silence driver.set))
        (graph-last driver after steps course fits) state_is;
    midi = λ edge m mark.
        ap (λ events. cond (period course (run driver) == period course (suc (run driver)) && was_there (graph course (run driver)) (graph course (suc (run driver))) edge.source) events [])
        (outputs-plain_midi (cycle course (run driver)).settled (settled_last driver) driver.nodes (bench_at driver) edge.source last_graph)
        ∙ ap₂ (λ last frames. cond (last == frames && was_there (graph course (run driver)) (graph course (suc (run driver))) edge.source) ((outputs_of (settled_last driver) driver.nodes (bench_at driver)).midi edge.source) [])
        (period-last driver after steps course fits) frames_are
        ∙ ap₂ (λ state now. cond ((turn_of driver.script (run driver)).period == driver.set && was_there state now edge.source) ((outputs_of (settled_last driver) driver.nodes (bench_at driver)).midi edge.source) [])
        (graph-last driver after steps course fits) state_is;
  }

  -- ---- tasks and memories

  abbrev at : Settled
  at = settled_from course (run driver) driver.nodes (bench_at driver) (memory_in driver)

  -- what is settled, of these parts
  abbrev made : State → Moment → ℕ → (ℕ → List ℤ) → Settled
  made state moment frames capture = record {
    graph = state;
    moment = moment;
    frames = frames;
    capture = capture;
    before = kept_now driver after;
    memory = (settled_now driver after left).memory;
  }

  task_is : (n : ℕ) → task_of (own_course driver) (settled_now driver after left) after.nodes own.links n ≡ task_of course at after.nodes own.links n
  task_is n =
      ap₂ (λ (s : Script) (scores : List Sound). task_of (record { script = s; capture = []; disks = []; scores = scores; changes = []; numbers = []; underruns = [] }) (settled_now driver after left) after.nodes own.links n)
      (sym script_is) (sym (fits.scores ∙ steps.scores))
      ∙ ap₂ (λ state moment. task_of course (made state moment driver.set (capture_now driver left)) after.nodes own.links n) (sym state_is) moment_is
      ∙ ap₂ (λ frames capture. task_of course (made (graph course (suc (run driver))) (moment course (suc (run driver))) frames capture) after.nodes own.links n) (sym frames_are) (sym capture_is)
      ∙ sym (task_of-same course at (kept_now driver after) (settled_now driver after left).memory after.nodes own.links n agree)

  player : (n : ℕ) → n < length after.nodes → Contains (players (graph_now after)) (node_at after.nodes n)
  player n h = find-contains (λ (c : OpenClient). bytes_eq c.name (node_at after.nodes n).name) (players (graph_now after)) (node_at after.nodes n) (own.plan.named n h)

  memory_is : (n : ℕ) → n < length after.nodes → (settled_now driver after left).memory (node_at after.nodes n) ≡ at.memory (node_at after.nodes n)
  memory_is n h =
      ap (λ (scores : List Sound). with_fed (fed_now driver after) client.kind (unwrap_or (memory_in driver client.birth) (first scores client.kind))) (sym (fits.scores ∙ steps.scores))
      ∙ go client.kind refl (unwrap_or (memory_in driver client.birth) (first course.scores client.kind))
    where
      client : OpenClient
      client = node_at after.nodes n

      go : (kind : Kind) → (node_at after.nodes n).kind ≡ kind → (memory : Memory) → with_fed (fed_now driver after) kind memory ≡ with_block course (suc (run driver)) kind memory
      go (Disk disk) e memory =
          let active : has_disk (graph_now after) disk ≡ true = plays_disk (graph_now after) (node_at after.nodes n) disk (player n h) e in
          ap (λ blocks. record memory { fed = blocks }) (sym (fed-now driver after steps course fits keeps own.period own.full disk active))
      go _ e memory = refl

  ready : IsReady course at after.nodes own.links own.before
  ready = record {
    task = λ n h. own.ready.task n h ∙ ap (λ (task : Task). Some task) (task_is n);
    memory = λ n h. own.ready.memory n h ∙ memory_is n h;
  }

  driven : IsDriven course (suc (run driver)) after.nodes (bench_at after) (memory_in after)
  driven =
      let back : graph_now after ≡ graph course (suc (run driver)) = sym state_is in
      IsDriven-played course (run driver) driver.nodes (bench_at driver) (memory_in driver) keeps.driven after.nodes own.links own.before (bench_at after) (memory_in after)
      (subst (λ state. IsPlan state after.nodes own.links) back own.plan) ready own.played own.remembered
      (λ birth none. own.others birth (ap (λ state. player_born state birth) back ∙ none))

  -- ---- the playback

  mixed_is : (i : ℕ) → mixed_now driver after left (playback_port i).name ≡ input_of course (suc (run driver)) (playback_port i).name
  mixed_is i =
      let port : List ℕ = (playback_port i).name in
      ap₂ (λ frames capture. mix frames (map (λ (edge : Connection). outputs_by (graph_now after) frames capture (moment_now driver after) after.nodes (bench_at after) edge.source) (edges_into (graph_now after) port))) (sym frames_are) (sym capture_is)
      ∙ ap (λ state. mix (period course (suc (run driver))) (map (λ (edge : Connection). outputs_by state (period course (suc (run driver))) (captured course (suc (run driver))) (moment_now driver after) after.nodes (bench_at after) edge.source) (edges_into state port))) (sym state_is)
      ∙ sym (input_of-is_mixed course (run driver) after.nodes (bench_at after) (memory_in after) driven port inside refl)

  -- what was to be written is what the playback gets
  pub played-now : played_now driver after left ≡ played_in course (run driver + 1)
  played-now =
      ap (interleaved driver.set) (
      map-after (mixed_now driver after left) (λ i. (playback_port i).name) (below driver.script.header.playback)
      ∙ map-same (λ i. mixed_now driver after left (playback_port i).name) (λ i. input_of course (suc (run driver)) (playback_port i).name) (below driver.script.header.playback) mixed_is
      ∙ sym (map-after (input_of course (suc (run driver))) (λ i. (playback_port i).name) (below driver.script.header.playback)))
      ∙ ap₂ (λ frames (s : Script). interleaved frames (map (input_of course (suc (run driver))) (map (λ i. (playback_port i).name) (below s.header.playback)))) (sym frames_are) (sym script_is)
      ∙ ap (played_in course) next

  -- the cycle played what the course gives
  pub PlaysOnce-own : IsOneOfEach (graph_now after) → PlaysOnce driver after course
  PlaysOnce-own one = record {
    moments = own.moments ∙ ap (λ m. driver.moments ++ m ∷ []) (moment_is ∙ ap (moment course) next);
    transport = row_is ∙ ap (row course) next;
    blocks = λ recorder low on.
        block-in after course (run driver) own.links own.plan driven one fits.script state_is (frames_are ∙ sym steps.set) recorder on ∙ ap (block course recorder) next;
    links = own.links;
    before = own.before;
    plan = own.plan;
    ready = ready;
    played = own.played;
    remembered = own.remembered;
    others = own.others;
  }
