-- A stage that performed a plan, with what was heard of events put on its benches, played the plan's cycle.
--     others-stay      whoever is no client of the plan has the memory that it had
--     never-goes      whoever has no memory is no client of the plan, and had none
--     scores-known, audio-known      before the crew plays, each bench has its guest's score, and knows its audio
--     ready      with its events it has its client's task and memory
--     plays      so what the crew leaves in the benches is the plan's cycle
use Rattle.std.proofs.Common.{◌≡◌, ℕ, ◌≤◌, ◌<◌, ◌==◌, ◌⊎◌, inl, inr, List, length, Some, None, option_map, refl, sym, ◌∙◌, ap, ap₂, subst, arith, map}
use Rattle.std.specs.Prelude.{ℤ, slice_index_or, unwrap_or}
use Rattle.std.proofs.lemmas.Bool.{cases_lt, eqb-true}
use Rattle.std.proofs.lemmas.List.{get_or_default, get_or-map}
use Rattle.jack_types.specs.declared.events.Logged.{Logged}
use Rattle.jack_types.specs.declared.kinds.Kind.{Kind}
use Rattle.jack_types.specs.declared.kinds.Kind.TheVariants.{Guest, Disk}
use Rattle.jack_types.specs.declared.moments.Moment.{Moment}
use Rattle.session_model.specs.Activation.{given_to, sequential}
use Rattle.session_model.specs.Benches.{Bench, IsReady, Task, bench_after, bench_gives, node_at, task_of}
use Rattle.session_model.specs.Courses.{Course}
use Rattle.session_model.specs.Cycles.{Settled, audio_outputs, player_born}
use Rattle.session_model.specs.Kinds.{Memory, Sound, first}
use Rattle.session_model.specs.Samples.{silence}
use Rattle.session_model.specs.State.{OpenClient, system_name}
use Rattle.client_kinds.specs.Scores.{Score}
use Rattle.client_kinds.specs.Standings.{HasGuest, HasScore, Standing}
use Rattle.port_registry.specs.Registered.{open_clients}
use Rattle.port_registry.proofs.PlaceLemmas.{find-none}
use Rattle.event_laws.specs.cycle_plan.specs.Plans.{IsPlanned, Planned, state_of_plan}
use Rattle.event_laws.specs.client_benches.specs.Seen.{HasScores, Remembered as Kept, Seen, bench_in, kept_after, kept_gives, task_in}
use Rattle.event_laws.specs.client_wiring.specs.Keeping.{GoesOn, SetsFeedback}
use Rattle.event_laws.specs.client_wiring.specs.Wirings.{Wired, wired_of}
use Rattle.event_laws.specs.client_wiring.specs.declared.joints.Origin.TheVariants.{Captured}
use Rattle.bench_rack.specs.Racks.{bench_at}
use Rattle.client_seats.specs.Owners.{Owned, owner_at}
use Rattle.client_seats.specs.Seatings.{HasNoPast, IsNobodys, IsScored, IsSeating, memory_of, standing_at}
use Rattle.client_seats.proofs.MemoryLemmas.{found_past, memory-owned, owned_or_not}
use Rattle.client_seats.proofs.PlaceLemmas.{open_within, within_open}
use Rattle.client_tasks.specs.Fillings.{known_at, last_place}
use Rattle.client_tasks.specs.Tasks.{IsSet, joint_at, turn_of}
use Rattle.driver_words.specs.Feeding.{Fed, fed_at}
use Rattle.driver_words.specs.Hearings.{Heard, log_at}
use Rattle.driver_laws.specs.Drivers.{Remembered}
use Rattle.driver_laws.specs.Playing.{with_fed}
use Rattle.task_laws.proofs.PlayingLemmas.{idle-kept}
use Rattle.event_laws.specs.Crews.{KnowsAudio, heard_task, set_events, with_events, with_midi_of}
pub use Rattle.stage_laws.proofs.BirthLemmas.{node-opened}
use Rattle.stage_laws.specs.Performances.{PerformsPlan}
use Rattle.stage_laws.specs.Stages.{IsStaffed, Staged}
use Rattle.play_laws.specs.Plays.{IsSettledOn, PlaysPlan, with_log}
use Rattle.play_laws.specs.Sources.{HasSources}
use Rattle.play_laws.proofs.BoundLemmas.{captured-within, given-within}
use Rattle.play_laws.proofs.ReadyLemmas.{routes-known, task-ready}
use Rattle.play_laws.proofs.SourceLemmas.{source}

some_is : {X : Type 0} {a b : X} → Some a ≡ Some b → a ≡ b
some_is e = cc

none_some : {X : Type 0} {x : X} → None ≡ Some x → ⊥
none_some k = cc

-- a bench that has its guest, if it asks one, has its score, whatever it is fed
with-score : (standing : Standing) (memory : Memory) (scores : List Score) → HasGuest standing.kind standing.score → IsScored standing scores → HasScore (record standing { memory = memory }) scores
with-score standing memory scores = go standing.kind
  where
    go : (kind : Kind) → HasGuest kind standing.score → IsScored (record standing { kind = kind }) scores → HasScore (record standing { kind = kind; memory = memory }) scores
    go (Guest guest) h scored = scored h
    go _ h scored = tt

-- a memory gets its log and its block in either order
log-fed : (log : List Logged) (fed : ℕ → List (List ℤ)) (kind : Kind) (memory : Memory) → with_log log (with_fed fed kind memory) ≡ with_fed fed kind (with_log log memory)
log-fed log fed (Disk disk) memory = refl
log-fed log fed _ memory = refl

module _ (sounding : Score → Sound) (old : Staged) (last plan : Planned) (moment : Moment) (period : ℕ) (channels : List (List ℤ)) (disks : Fed) (new : Staged)
    (performs : PerformsPlan sounding old last plan moment period channels disks new) where
  abbrev nodes : List OpenClient
  nodes = open_clients plan.nodes

  abbrev scores : List Score
  scores = old.owned.scores

  -- what each bench remembers when the crew begins
  abbrev begun : ℕ → Kept
  begun n = (bench_at performs.fed n).kept

  begun-past : (p : ℕ) → length plan.nodes ≤ p → begun p ≡ (bench_at performs.filled p).kept
  begun-past p h = ap (λ (bench : Seen). bench.kept) (performs.feeds.others p h)

  idle-past : (p : ℕ) → length plan.nodes ≤ p → (begun p).turn ≡ None
  idle-past p h = ap (λ (kept : Kept). kept.turn) (begun-past p h) ∙ performs.fills.idle p h

  -- an idle bench stays as it is
  stays : (p : ℕ) → length plan.nodes ≤ p → (bench_at new.racked p).kept ≡ begun p
  stays p h = by_crew (cases_lt p performs.crew)
    where
      by_crew : (p < performs.crew) ⊎ (performs.crew ≤ p) → (bench_at new.racked p).kept ≡ begun p
      by_crew (inl k) = performs.performs.each p k ∙ idle-kept sounding (begun p) (given_to (kept_after sounding) (kept_gives sounding) plan.links begun p) (idle-past p h)
      by_crew (inr k) = ap (λ (bench : Seen). bench.kept) (performs.performs.others p k)

  memories : (birth : ℕ) → memory_of new.racked new.owned birth ≡ memory_of new.racked performs.cast.owned birth
  memories birth = ap (λ (owned : Owned). memory_of new.racked owned birth) performs.owned

  module _ (seating : IsSeating new.racked performs.cast.owned) where
    remembers : (n : ℕ) → n < length plan.nodes → memory_of new.racked new.owned (node_at nodes n).birth ≡ Some (bench_at new.racked n).kept.standing.memory
    remembers n h = memories (node_at nodes n).birth ∙ memory-owned new.racked performs.cast.owned seating n (node_at nodes n).birth (performs.casts.has n h).owner

    pub others-stay : (birth : ℕ) → ((n : ℕ) → n < length plan.nodes → (node_at (open_clients plan.nodes) n).birth ≡ birth → ⊥) → memory_of new.racked new.owned birth ≡ memory_of old.racked old.owned birth
    others-stay birth not_node = memories birth ∙ by_owner (owned_or_not performs.cast.owned.births birth) ∙ performs.casts.others birth not_node
      where
        by_owner : ((p : ℕ) × (owner_at performs.cast.owned p ≡ Some birth)) ⊎ IsNobodys performs.cast.owned birth
            → memory_of new.racked performs.cast.owned birth ≡ memory_of performs.cast.racked performs.cast.owned birth
        by_owner (inl o) =
            memory-owned new.racked performs.cast.owned seating o.0 birth o.1
            ∙ ap (λ (kept : Kept). Some kept.standing.memory) (stays o.0 beyond ∙ begun-past o.0 beyond)
            ∙ ap (λ (standing : Standing). Some standing.memory) (performs.fills.standings o.0)
            ∙ sym (memory-owned performs.cast.racked performs.cast.owned performs.casts.seating o.0 birth o.1)
          where
            by_place : (o.0 < length plan.nodes) ⊎ (length plan.nodes ≤ o.0) → length plan.nodes ≤ o.0
            by_place (inl k) = absurd (not_node o.0 k (some_is (sym (performs.casts.has o.0 k).owner ∙ o.1)))
            by_place (inr k) = k

            beyond : length plan.nodes ≤ o.0
            beyond = by_place (cases_lt o.0 (length plan.nodes))
        by_owner (inr none) =
            ap (option_map (λ (kept : Remembered). kept.memory))
            (found_past performs.cast.owned.births new.racked.benches performs.cast.owned.past birth none ∙ sym (found_past performs.cast.owned.births performs.cast.racked.benches performs.cast.owned.past birth none))

    pub never-goes : (birth : ℕ) → memory_of new.racked new.owned birth ≡ None
        → (memory_of old.racked old.owned birth ≡ None) × ((n : ℕ) → n < length plan.nodes → (node_at (open_clients plan.nodes) n).birth ≡ birth → ⊥)
    never-goes birth none = (sym (others-stay birth not_node) ∙ none, not_node)
      where
        not_node : (n : ℕ) → n < length plan.nodes → (node_at nodes n).birth ≡ birth → ⊥
        not_node n h e = none_some (sym none ∙ ap (memory_of new.racked new.owned) (sym e) ∙ remembers n h)

  pub scores-known : (n : ℕ) → HasScores old.owned.scores (bench_at performs.fed n).kept
  scores-known n turn e = by_place (cases_lt n (length plan.nodes))
    where
      by_place : (n < length plan.nodes) ⊎ (length plan.nodes ≤ n) → HasScore (begun n).standing scores
      by_place (inl h) =
          subst (λ (bench : Seen). HasScore bench.kept.standing scores) (sym (performs.feeds.each n h))
          (with-score (standing_at performs.filled n) (with_fed (fed_at disks) (standing_at performs.filled n).kind (standing_at performs.filled n).memory) scores
          (subst (λ (standing : Standing). HasGuest standing.kind standing.score) (sym (performs.fills.standings n)) (performs.casts.has n h).guest)
          (subst (λ standing. IsScored standing scores) (sym (performs.fills.standings n)) (subst (IsScored (standing_at performs.cast.racked n)) performs.casts.scores (performs.casts.seating.scored n))))
      by_place (inr h) = absurd (none_some (sym (idle-past n h) ∙ e))

  kind-is : (n : ℕ) → n < length plan.nodes → (begun n).standing.kind ≡ (node_at nodes n).kind
  kind-is n h = ap (λ (bench : Seen). bench.kept.standing.kind) (performs.feeds.each n h) ∙ ap (λ (standing : Standing). standing.kind) (performs.fills.standings n) ∙ (performs.casts.has n h).kind

  -- ---- before a play

  abbrev sources : ℕ → List ℤ
  sources = known_at performs.cast.racked channels (silence period) performs.places (wired_of plan).joints

  -- its block changes nothing of what a bench is set to do
  are-set : (n : ℕ) → n < length plan.nodes → IsSet (wired_of plan) plan.links moment period sources n (bench_at performs.fed n)
  are-set n h =
      let is = performs.fills.set n h in
      subst (IsSet (wired_of plan) plan.links moment period sources n) (sym (performs.feeds.each n h)) (record { turn = is.turn; wires = is.wires; routes = is.routes })

  -- it knows what its client's connections carry of audio
  pub audio-known : (n : ℕ) → IsPlanned plan → KnowsAudio plan n (bench_at performs.fed n).kept
  audio-known n planned = by_place (cases_lt n (length plan.nodes))
    where
      by_place : (n < length plan.nodes) ⊎ (length plan.nodes ≤ n) → KnowsAudio plan n (begun n)
      by_place (inl h) = routes-known plan moment period n sources (bench_at performs.fed n) planned h (are-set n h)
      by_place (inr h) = λ turn e. absurd (none_some (sym (idle-past n h) ∙ e))

  module _ (course : Course) (logs now : Heard) (at : Settled) (seating : IsSeating old.racked old.owned) (wired_last : old.wiring ≡ wired_of last) (staffed : IsStaffed old last) (goes : GoesOn last plan) (feedback : SetsFeedback last plan)
      (settled : IsSettledOn sounding old last plan moment period channels logs now disks at) (scores_are : course.scores ≡ map sounding old.owned.scores)
      (as_many : length channels ≡ length (audio_outputs (state_of_plan plan) system_name)) (no_past : HasNoPast (open_clients plan.nodes) old.owned)
      (heard : (n : ℕ) (task : Task) → task.kind ≡ (node_at (open_clients plan.nodes) n).kind → heard_task plan now n task ≡ with_midi_of (task_of course at (open_clients plan.nodes) plan.links n) task) where
    -- with the events that were heard put on it
    abbrev before : ℕ → Bench
    before n = set_events plan logs now n (bench_in course.scores (begun n))

    place-of : (i : ℕ) → i < length (wired_of plan).joints → old.period ≡ period → slice_index_or performs.places i None ≡ last_place (wired_of last).given (joint_at (wired_of plan).joints i)
    place-of i h same =
        ap (λ xs. slice_index_or xs i None) (performs.are_places.same same ∙ performs.casts.last_is ∙ ap (map (last_place (wired_of last).given)) (ap (λ (w : Wired). w.joints) performs.casts.wiring))
        ∙ get_or-map (last_place (wired_of last).given) (wired_of plan).joints i (record { node = 0; input = 0; origin = Captured 0 }) None h

    sources-are : (n : ℕ) → n < length plan.nodes → HasSources at nodes (wired_of plan).joints n sources
    sources-are n h i within of_node =
        source sounding old last plan moment period channels logs now disks at feedback staffed wired_last settled performs.cast performs.casts
        (λ joint channel m o. subst (λ k. channel < k) (sym as_many) (captured-within plan goes.planned joint channel m o))
        (given-within last goes.planned_last)
        (joint_at (wired_of plan).joints i) (joint_at (wired_of plan).joints i).origin (i, within, get_or_default (wired_of plan).joints i (joint_at (wired_of plan).joints i) (record { node = 0; input = 0; origin = Captured 0 }) within) refl
        (slice_index_or performs.places i None) (λ same. place-of i within same, λ other. performs.are_places.other other i)

    task_is : (n : ℕ) → n < length plan.nodes → (before n).task ≡ Some (task_of course at nodes plan.links n)
    task_is n h =
        ap (λ turn. option_map (heard_task plan now n) (option_map (task_in course.scores (begun n)) turn)) is.turn
        ∙ ap Some (heard n (task_in course.scores (begun n) (turn_of (wired_of plan) plan.links at.moment at.frames n)) (kind-is n h) ∙ task-ready plan at n sources (bench_at performs.fed n) course goes.planned settled.graph h is (sources-are n h) (kind-is n h))
      where
        is : IsSet (wired_of plan) plan.links at.moment at.frames sources n (bench_at performs.fed n)
        is =
            subst (λ m. IsSet (wired_of plan) plan.links m at.frames sources n (bench_at performs.fed n)) (sym settled.moment_is)
            (subst (λ f. IsSet (wired_of plan) plan.links moment f sources n (bench_at performs.fed n)) (sym settled.frames) (are-set n h))

    memory_is : (n : ℕ) → n < length plan.nodes → (before n).memory ≡ at.memory (node_at nodes n)
    memory_is n h =
        ap (λ (bench : Seen). with_log log bench.kept.standing.memory) (performs.feeds.each n h)
        ∙ log-fed log (fed_at disks) (standing_at performs.filled n).kind (standing_at performs.filled n).memory
        ∙ ap (λ (standing : Standing). with_fed (fed_at disks) standing.kind (with_log log standing.memory)) (performs.fills.standings n)
        ∙ ap₂ (λ kind memory. with_fed (fed_at disks) kind (with_log log memory)) (performs.casts.has n h).kind (by_owner (owned_or_not old.owned.births birth))
        ∙ sym (settled.memory n h)
      where
        birth : ℕ
        birth = (node_at nodes n).birth

        log : List Logged
        log = log_at logs birth

        new_one : Memory
        new_one = first (map sounding scores) (node_at nodes n).kind

        nothing : IsNobodys old.owned birth → memory_of old.racked old.owned birth ≡ None
        nothing none =
            ap (option_map (λ (kept : Remembered). kept.memory))
            (found_past old.owned.births old.racked.benches old.owned.past birth none
            ∙ find-none (λ (kept : Remembered). kept.birth == birth) old.owned.past (λ kept c t. no_past n kept (open_within plan.nodes n h) c (sym (eqb-true kept.birth birth t))))

        by_owner : ((p : ℕ) × (owner_at old.owned p ≡ Some birth)) ⊎ IsNobodys old.owned birth → (standing_at performs.cast.racked n).memory ≡ unwrap_or (memory_of old.racked old.owned birth) new_one
        by_owner (inl o) =
            ap (λ (standing : Standing). standing.memory) (performs.casts.standings n o.0 h o.1)
            ∙ ap (λ memory. unwrap_or memory new_one) (sym (memory-owned old.racked old.owned seating o.0 birth o.1))
        by_owner (inr none) = performs.casts.fresh n h none ∙ ap (λ memory. unwrap_or memory new_one) (sym (nothing none))

    pub ready : IsReady course at (open_clients plan.nodes) plan.links (λ n. set_events plan logs now n (bench_in course.scores (bench_at performs.fed n).kept))
    ready = record { task = λ n h. task_is n (within_open plan.nodes n h); memory = λ n h. memory_is n (within_open plan.nodes n h) }

    pub plays : IsSeating new.racked performs.cast.owned
        → ((n : ℕ) → n < length plan.nodes
        → with_events plan now n (bench_in course.scores (sequential (kept_after sounding) (kept_gives sounding) plan.links (λ m. (bench_at performs.fed m).kept) n))
        ≡ sequential bench_after bench_gives plan.links (λ m. set_events plan logs now m (bench_in course.scores (bench_at performs.fed m).kept)) n)
        → PlaysPlan sounding course old plan at now new
    plays seated heard_played = record {
      before = before;
      ready = ready;
      played = λ n h.
          ap (λ sounds. with_events plan now n (bench_in sounds (bench_at new.racked n).kept)) sounds_are
          ∙ ap (λ kept. with_events plan now n (bench_in course.scores kept)) (performs.performs.each n (omega (arith, h, performs.performs.few)))
          ∙ heard_played n h;
      remembered = λ n h. ap (option_map (with_log (log_at now (node_at nodes n).birth))) (remembers seated n h);
      others = λ birth none. others-stay seated birth (λ n h e. none_some (sym none ∙ ap (player_born (state_of_plan plan)) (sym e) ∙ goes.planned.is_plan.born n (open_within plan.nodes n h)));
    }
      where
        sounds_are : map sounding new.owned.scores ≡ course.scores
        sounds_are = ap (map sounding) (ap (λ (owned : Owned). owned.scores) performs.owned ∙ performs.casts.scores) ∙ sym scores_are
