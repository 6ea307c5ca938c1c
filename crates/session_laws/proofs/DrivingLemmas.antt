-- From one cycle of the driver to the next.
--     IsDriven-none      before the first cycle
--     IsDriven-grown      what the course gets later changes nothing
--     IsDriven-next      behind one more cycle of the crew
--     block-is_got, input_of-is_mixed      a recorder's block and a playback port's input, read from the benches
use Rattle.std.proofs.Common.{Contains, List, None, Option, Some, [], ap, ap₂, arith, eqb-true, length, map, refl, subst, suc, sym, true, true≢false, unwrap_or, zero, ℕ, ◌<◌, ◌==◌, ◌∙◌, ◌≡◌}
use Rattle.std.proofs.lemmas.List.{get_or_default}
use Rattle.session_model.specs.jack_types.specs.declared.commands.Change.{Change}
use Rattle.session_model.specs.jack_types.specs.declared.ports.Link.{Link}
use Rattle.std.specs.Str.{bytes_eq}
use Rattle.session_model.specs.jack_types.specs.Names.{client_part}
use Rattle.session_model.specs.jack_types.specs.declared.ports.Mark.{Mark}
use Rattle.session_model.specs.jack_types.specs.declared.ports.Mark.TheVariants.{Direct, Feedback}
use Rattle.session_model.specs.jack_types.specs.declared.replies.Underrun.{Underrun}
use Rattle.session_model.specs.Activation.{Machine, AtHome, place_of, IsSequential}
use Rattle.session_model.specs.Benches.{Signal, Bench, bench_after, bench_gives, node_at, outputs_of, IsPlan, IsReady, HaveCycle}
use Rattle.session_model.specs.Courses.{Course, graph, period, captured, players}
use Rattle.session_model.specs.Cycles.{carried, edges_into, input_of, Signals, Settled, Cycle, cycle, previous, settled_after, with_block, player_born}
use Rattle.session_model.specs.Driving.{kept_from, settled_from, IsDriven}
use Rattle.session_model.specs.Kinds.{Memory, first, input_at}
use Rattle.session_model.specs.Recorders.{taping, block, block_of, recorder_format}
use Rattle.session_model.specs.Samples.{below, interleaved, mix}
use Rattle.session_model.specs.State.{State, OpenClient, Connection, system_client, is_system}
use Rattle.session_model.specs.Transport.{moment}
use Rattle.session_laws.proofs.CourseLemmas.{IsSameUpTo, later, cycle-same}
use Rattle.session_laws.proofs.CycleLemmas.{bytes_same, map_filter-same, find-passes, find-contains}
use Rattle.session_laws.proofs.FeedbackLemmas.{FeedbackInside}
use Rattle.session_laws.proofs.PlayedLemmas.{HaveCycle-cycle, HaveCycle-none, memory-kept}

pub cycle-graph : (course : Course) (k : ℕ) → (cycle course k).settled.graph ≡ graph course k
cycle-graph course zero = refl
cycle-graph course (suc k) = refl

pub cycle-frames : (course : Course) (k : ℕ) → (cycle course k).settled.frames ≡ period course k
cycle-frames course zero = refl
cycle-frames course (suc k) = refl

pub IsDriven-none : (course : Course) (benches : ℕ → Bench) → IsDriven course 0 [] benches (λ birth. None)
IsDriven-none course benches = record { played = HaveCycle-none course benches; memories = λ birth. refl }

-- what the course gets later changes nothing
pub IsDriven-grown : (course : Course) (k : ℕ) (nodes : List OpenClient) (benches : ℕ → Bench) (held : ℕ → Option Memory) (changes : List Change) (numbers : List ℕ) (underruns : List (List Underrun))
    → IsSameUpTo course (later course changes numbers underruns) k → IsDriven course k nodes benches held → IsDriven (later course changes numbers underruns) k nodes benches held
IsDriven-grown course k nodes benches held changes numbers underruns same driven =
    let one : cycle course k ≡ cycle (later course changes numbers underruns) k = cycle-same course changes numbers underruns k same k (omega arith) in record {
      played = subst (λ (made : Cycle). HaveCycle made nodes benches) one driven.played;
      memories = λ birth. driven.memories birth ∙ ap (λ (made : Cycle). made.memory birth) one;
    }

module _ (course : Course) (k : ℕ) (old_nodes : List OpenClient) (old_benches : ℕ → Bench) (held : ℕ → Option Memory) (driven : IsDriven course k old_nodes old_benches held) where
  -- the driver reads what is settled from its benches
  pub settled_from-is_settled : settled_from course k old_nodes old_benches held ≡ settled_after course (suc k) (cycle course k)
  settled_from-is_settled = ap₂ settled_by before_same (λ i birth. driven.memories birth i)
    where
      settled_by : Signals → (ℕ → Option Memory) → Settled
      settled_by before memories = record {
        graph = graph course (suc k);
        moment = moment course (suc k);
        frames = period course (suc k);
        capture = captured course (suc k);
        before = before;
        memory = λ client. with_block course (suc k) client.kind (unwrap_or (memories client.birth) (first course.scores client.kind));
      }

      kept_by : ℕ → State → Signals → Signals
      kept_by frames state outputs = kept_from frames state outputs (graph course (suc k)) (period course (suc k))

      outputs : outputs_of (cycle course k).settled old_nodes old_benches ≡ (cycle course k).now
      outputs i = record { audio = λ port. driven.played.audio port i; midi = λ port. driven.played.midi port i }

      before_same : kept_by (period course k) (graph course k) (outputs_of (cycle course k).settled old_nodes old_benches) ≡ previous (cycle course k) (graph course (suc k)) (period course (suc k))
      before_same =
          ap (kept_by (period course k) (graph course k)) outputs
          ∙ ap₂ (λ frames state. kept_by frames state (cycle course k).now) (sym (cycle-frames course k)) (sym (cycle-graph course k))

  -- behind one more cycle
  pub IsDriven-next : (nodes : List OpenClient) (links : List Link) (before benches : ℕ → Bench) (machine : Machine) (values : ℕ → Option (List Signal)) (now_held : ℕ → Option Memory)
      → IsPlan (graph course (suc k)) nodes links
      → IsReady course (settled_from course k old_nodes old_benches held) nodes links before
      → IsSequential bench_after bench_gives links before machine benches values
      → ((n : ℕ) → n < length nodes → (n < length machine.places) × (place_of machine n ≡ AtHome))
      → ((n : ℕ) → n < length nodes → now_held (node_at nodes n).birth ≡ Some (benches n).memory)
      → ((birth : ℕ) → player_born (graph course (suc k)) birth ≡ None → now_held birth ≡ held birth)
      → IsDriven course (suc k) nodes benches now_held
  IsDriven-next nodes links before benches machine values now_held plan ready sequential_now home players_held others_held = record {
    played = played;
    memories = λ birth. go birth (player_born (graph course (suc k)) birth) refl;
  }
    where
      played : HaveCycle (cycle course (suc k)) nodes benches
      played = HaveCycle-cycle course k nodes links before benches machine values plan (subst (λ at. IsReady course at nodes links before) settled_from-is_settled ready) sequential_now home

      -- the memory of a player's birth
      of_player : (birth : ℕ) (client : OpenClient) → client.birth ≡ birth → Contains nodes client → now_held birth ≡ (cycle course (suc k)).memory birth
      of_player birth client e m =
          let here : node_at nodes m.0 ≡ client = get_or_default nodes m.0 system_client client m.1 ∙ m.2 in
          let at_birth : (node_at nodes m.0).birth ≡ birth = ap (λ (c : OpenClient). c.birth) here ∙ e in
          subst (λ b. now_held b ≡ (cycle course (suc k)).memory b) at_birth (players_held m.0 m.1 ∙ sym (played.memory m.0 m.1))

      go : (birth : ℕ) (player : Option OpenClient) → player_born (graph course (suc k)) birth ≡ player → now_held birth ≡ (cycle course (suc k)).memory birth
      go birth None e = others_held birth e ∙ driven.memories birth ∙ sym (memory-kept course k birth e)
      go birth (Some client) e = of_player birth client
          (eqb-true client.birth birth (find-passes (λ (c : OpenClient). c.birth == birth) (players (graph course (suc k))) client e))
          (plan.every client (find-contains (λ (c : OpenClient). c.birth == birth) (players (graph course (suc k))) client e))

module _ (course : Course) (k : ℕ) (nodes : List OpenClient) (benches : ℕ → Bench) (held : ℕ → Option Memory) (driven : IsDriven course (suc k) nodes benches held) where
  -- a recorder's block is what its client's bench got
  pub block-is_got : (recorder n : ℕ) → n < length nodes → taping course recorder (suc k) ≡ Some (node_at nodes n)
      → block course recorder (suc k) ≡ interleaved (period course (suc k)) (map (input_at (period course (suc k)) (benches n).sounds) (below (recorder_format course recorder).channels))
  block-is_got recorder n h e =
      ap (block_of course (recorder_format course recorder).channels (suc k)) e
      ∙ ap (λ sounds. interleaved (period course (suc k)) (map (input_at (period course (suc k)) sounds) (below (recorder_format course recorder).channels))) (sym (driven.played.sounds n h))

  -- what the playback ports get is mixed from the benches' outputs
  pub input_of-is_mixed : (port : List ℕ) → FeedbackInside (graph course (suc k)).edges → is_system (client_part port) ≡ true
      → input_of course (suc k) port ≡ mix (period course (suc k)) (map (λ (edge : Connection). (outputs_of (cycle course (suc k)).settled nodes benches).audio edge.source) (edges_into (graph course (suc k)) port))
  input_of-is_mixed port inside playback =
      sym (driven.played.mix port)
      ∙ ap (mix (period course (suc k))) (map_filter-same (λ (edge : Connection). bytes_eq edge.destination port)
      (λ (edge : Connection). (carried (outputs_of (cycle course (suc k)).settled nodes benches) (cycle course (suc k)).settled.before edge.mark).audio edge.source)
      (λ (edge : Connection). (outputs_of (cycle course (suc k)).settled nodes benches).audio edge.source)
      (graph course (suc k)).edges
      (λ edge m t. direct edge m (bytes_same edge.destination port t) edge.mark refl))
    where
      direct : (edge : Connection) → Contains (graph course (suc k)).edges edge → edge.destination ≡ port → (mark : Mark) → edge.mark ≡ mark
          → (carried (outputs_of (cycle course (suc k)).settled nodes benches) (cycle course (suc k)).settled.before mark).audio edge.source ≡ (outputs_of (cycle course (suc k)).settled nodes benches).audio edge.source
      direct edge m into Direct e = refl
      direct edge m into Feedback e = absurd (true≢false (sym playback ∙ sym (ap (λ name. is_system (client_part name)) into) ∙ (inside edge m e).1))
