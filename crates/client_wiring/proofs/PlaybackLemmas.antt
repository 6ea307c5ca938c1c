-- A plan's wiring says what is played back.
--     SetsPlayback-wired      so does the wiring of every plan
use Rattle.std.proofs.Common.{◌≡◌, ℕ, ℤ, ◌<◌, Bool, true, false, cond, ◌==◌, List, length, map, filter, filter_map, get_or, Contains, Option, Some, None, refl, sym, ◌∙◌, ap, subst, arith, true≢false, eq-eqb, eqb-true}
use Rattle.std.specs.Option.{option_map, option_map_or}
use Rattle.std.specs.Str.{bytes_eq}
use Rattle.std.proofs.lemmas.List.{get_or_default, length-map}
use Rattle.std.proofs.lemmas.List.Quantifiers.{position-Some}
use Rattle.jack_types.specs.Names.{client_part}
use Rattle.jack_types.specs.declared.ports.Link.{Link}
use Rattle.session_model.specs.Benches.{Bench, IsPlan, fixed_audio, node_at, outputs_of, place_in, port_place}
use Rattle.session_model.specs.Commands.{replay}
use Rattle.session_model.specs.Cycles.{Settled, at_port, audio_inputs, audio_outputs, captured_at, edges_into, midi_outputs}
use Rattle.session_model.specs.Samples.{below, silence}
use Rattle.session_model.specs.Soundness.{IsEnd, IsSound}
use Rattle.session_model.specs.State.{Connection, OpenClient, OpenPort, State, capture_port, is_system, playback_port, system_name}
use Rattle.cycle_plan.specs.session_laws.proofs.ActivationLemmas.{get_or-map_below, length-below}
use Rattle.cycle_plan.specs.session_laws.proofs.CycleLemmas.{bytes_same}
use Rattle.cycle_plan.specs.session_laws.proofs.FeedbackLemmas.{FeedbackInside, FeedbackInside-opening, FeedbackInside-replay}
use Rattle.cycle_plan.specs.session_laws.proofs.GraphLemmas.{route-audio}
use Rattle.cycle_plan.specs.session_laws.proofs.PlanLemmas.{IsSound-opening}
use Rattle.cycle_plan.specs.session_laws.proofs.SoundLemmas.{IsSound-replay}
use Rattle.cycle_plan.specs.session_laws.proofs.WiredLemmas.{AreWired, AreWired-opening, AreWired-replay}
use Rattle.cycle_plan.specs.port_registry.specs.Registered.{open_clients}
use Rattle.cycle_plan.specs.Plans.{IsPlanned, Planned, opening_of, state_of_plan}
use Rattle.cycle_plan.proofs.NetworkLemmas.{bool-same}
use Rattle.client_wiring.specs.declared.joints.Heard.{Heard}
use Rattle.client_wiring.specs.Wirings.{SetsPlayback, heard_at, heard_of, heard_on, sound_by, sound_from, sound_of, source_place, wired_of}
use Rattle.client_wiring.proofs.DeviceLemmas.{playback_ports}
use Rattle.client_wiring.proofs.ListLemmas.{take-whole}
use Rattle.client_wiring.proofs.NameLemmas.{bytes-turned}
use Rattle.client_wiring.proofs.OverLemmas.{device_of_none, name-of_place}
use Rattle.client_wiring.proofs.TaskLemmas.{edge-sound, input-listed, input-place, input-sound, passes, place-index, same-made}

-- what is true of the state of every plan
pub wired-plan : (plan : Planned) → AreWired (state_of_plan plan)
wired-plan plan = AreWired-replay (opening_of plan.base) plan.changes (AreWired-opening plan.base.capture plan.base.playback)

pub inside-plan : (plan : Planned) → FeedbackInside (state_of_plan plan).edges
inside-plan plan = FeedbackInside-replay (opening_of plan.base) plan.changes (FeedbackInside-opening plan.base.capture plan.base.playback)

pub sound-plan : (plan : Planned) → IsPlanned plan → IsSound (state_of_plan plan) (length plan.changes)
sound-plan plan p = subst (λ cs. IsSound (replay (opening_of plan.base) cs) (length plan.changes)) (take-whole plan.changes)
    (IsSound-replay (opening_of plan.base) plan.changes (IsSound-opening plan.base.capture plan.base.playback (omega (arith, p.few_capture)) (omega (arith, p.few_playback))) p.lawful (length plan.changes) (omega arith))

module _ (state : State) (nodes : List OpenClient) (links : List Link) (plan : IsPlan state nodes links) (number : ℕ) (sound : IsSound state number) (wired_so : AreWired state) (inside : FeedbackInside state.edges) where
  -- what an edge of audio brings in a cycle of this graph
  module _ (at : Settled) (benches : ℕ → Bench) where
    abbrev now : Settled
    now = record at { graph = state }

    pub given-is : (edge : Connection) → IsEnd state false true edge.source → (outputs_of (record at { graph = state }) nodes benches).audio edge.source ≡ sound_from (record at { graph = state }) benches (sound_of state nodes edge)
    given-is edge end = go (place_in nodes (client_part edge.source)) refl
      where
        told : ((j : ℕ) × (j < length (audio_outputs state (client_part edge.source))) × (port_place (audio_outputs state (client_part edge.source)) edge.source ≡ Some j)) × (port_place (midi_outputs state (client_part edge.source)) edge.source ≡ None)
        told = route-audio state number sound edge.source end

        place : source_place state edge ≡ told.0.0
        place = place-index (λ (port : OpenPort). bytes_eq port.name edge.source) (audio_outputs state (client_part edge.source)) told.0.0 told.0.2

        captured : is_system (client_part edge.source) ≡ true → fixed_audio (record at { graph = state }) edge.source ≡ at.capture (source_place state edge)
        captured e =
            ap (λ b. cond b (captured_at now edge.source) (silence at.frames)) e
            ∙ ap (λ o. option_map_or at.capture o (silence at.frames)) told.0.2
            ∙ ap at.capture (sym place)

        played : ℕ → Option ℕ → List ℤ
        played a found = option_map_or (λ j. get_or (benches a).audio j (silence at.frames)) found (silence at.frames)

        go : (from : Option ℕ) → place_in nodes (client_part edge.source) ≡ from
            → option_map_or (λ n. at_port (silence at.frames) (audio_outputs state (node_at nodes n).name) (benches n).audio edge.source) from (fixed_audio (record at { graph = state }) edge.source)
            ≡ sound_from (record at { graph = state }) benches (sound_by (source_place state edge) from)
        go None e = captured (device_of_none state nodes links plan false true edge.source end e)
        go (Some a) e =
            ap (λ name. played a (port_place (audio_outputs state name) edge.source)) (name-of_place state nodes links plan (client_part edge.source) a e).1
            ∙ ap (played a) told.0.2
            ∙ ap (λ k. get_or (benches a).audio k (silence at.frames)) (sym place)

    module _ (playback c : ℕ) (ports : audio_inputs state system_name ≡ map playback_port (below playback)) (low : c < playback) where
      abbrev port : OpenPort
      port = get_or (audio_inputs state system_name) c (capture_port 0)

      port-is : get_or (audio_inputs state system_name) c (capture_port 0) ≡ playback_port c
      port-is = ap (λ xs. get_or xs c (capture_port 0)) ports ∙ get_or-map_below playback_port playback c (capture_port 0) low

      within : c < length (audio_inputs state system_name)
      within =
          let many : length (audio_inputs state system_name) ≡ length (below playback) = ap length ports ∙ length-map (below playback) playback_port in
          let all : length (below playback) ≡ playback = length-below playback in
          omega (arith, low, many, all)

      listed : Contains (audio_inputs state system_name) (get_or (audio_inputs state system_name) c (capture_port 0))
      listed = (c, within, get_or_default (audio_inputs state system_name) c port (capture_port 0) within)

      place : port_place (audio_inputs state system_name) (playback_port c).name ≡ Some c
      place = ap (λ (p : OpenPort). port_place (audio_inputs state system_name) p.name) (sym port-is) ∙ input-place state nodes links plan number sound wired_so inside system_name c (capture_port 0) within

      abbrev here : Heard → Bool
      here heard = heard.channel == c

      abbrev made : Option ℕ → Connection → Option Heard
      made found edge = option_map (heard_on (sound_of state nodes edge)) found

      joined : (edge : Connection) → bytes_eq edge.destination (playback_port c).name ≡ true → heard_of state nodes edge ≡ Some (heard_on (sound_of state nodes edge) c)
      joined edge t = ap (λ found. made found edge) (ap (port_place (audio_inputs state system_name)) (bytes_same edge.destination (playback_port c).name t) ∙ place)

      back : (edge : Connection) → passes here (heard_of state nodes edge) ≡ true → bytes_eq edge.destination (playback_port c).name ≡ true
      back edge = go (port_place (audio_inputs state system_name) edge.destination) refl
        where
          go : (found : Option ℕ) → port_place (audio_inputs state system_name) edge.destination ≡ found → passes here (option_map (heard_on (sound_of state nodes edge)) found) ≡ true
              → bytes_eq edge.destination (playback_port c).name ≡ true
          go None f t = absurd (true≢false (sym t))
          go (Some k) f t =
              let same : k ≡ c = eqb-true k c t in
              let there = position-Some (λ (p : OpenPort). bytes_eq p.name edge.destination) (audio_inputs state system_name) c (capture_port 0) (f ∙ ap Some same) in
              bytes-turned edge.destination (playback_port c).name ∙ ap (λ (p : OpenPort). bytes_eq p.name edge.destination) (sym port-is) ∙ there.1

      some-one : {X : Type 0} (x y : X) → Some x ≡ Some y → x ≡ y
      some-one x y f = cc

      pub heard-are : map (λ (edge : Connection). (outputs_of (record at { graph = state }) nodes benches).audio edge.source) (edges_into state (playback_port c).name)
          ≡ map (λ (heard : Heard). sound_from (record at { graph = state }) benches heard.sound) (filter (λ (heard : Heard). heard.channel == c) (filter_map (heard_of state nodes) state.edges))
      heard-are =
          same-made (λ (edge : Connection). (outputs_of (record at { graph = state }) nodes benches).audio edge.source) (λ (heard : Heard). sound_from (record at { graph = state }) benches heard.sound)
          (λ (edge : Connection). bytes_eq edge.destination (playback_port c).name) here (heard_of state nodes) state.edges
          (λ edge m. bool-same (bytes_eq edge.destination (playback_port c).name) (passes here (heard_of state nodes edge)) (λ t. ap (passes here) (joined edge t) ∙ eq-eqb c c refl) (back edge))
          (λ edge x m t made. given-is edge (source edge m t)
          ∙ ap (λ (heard : Heard). sound_from now benches heard.sound) (some-one (heard_on (sound_of state nodes edge) c) x (sym (joined edge t) ∙ made)))
        where
          source : (edge : Connection) → Contains state.edges edge → bytes_eq edge.destination (playback_port c).name ≡ true → IsEnd state false true edge.source
          source edge m t =
              edge-sound state nodes links plan number sound wired_so inside edge m port
              (input-listed state nodes links plan number sound wired_so inside system_name port listed) (input-sound state nodes links plan number sound wired_so inside system_name port listed)
              (bytes_same edge.destination (playback_port c).name t ∙ ap (λ (p : OpenPort). p.name) (sym port-is))

-- ---- every plan

pub SetsPlayback-wired : (plan : Planned) → IsPlanned plan → SetsPlayback plan (wired_of plan)
SetsPlayback-wired plan p at benches c same low =
    subst (λ (now : Settled). map (λ (edge : Connection). (outputs_of now (open_clients plan.nodes) benches).audio edge.source) (edges_into now.graph (playback_port c).name)
    ≡ map (λ (heard : Heard). sound_from now benches heard.sound) (heard_at (wired_of plan) c))
    (ap (λ (graph : State). (let now : Settled = record at { graph = graph } in now)) (sym same))
    (heard-are (state_of_plan plan) (open_clients plan.nodes) plan.links p.is_plan (length plan.changes) (sound-plan plan p) (wired-plan plan) (inside-plan plan) at benches
    plan.base.playback c (playback_ports plan.base.capture plan.base.playback plan.changes) low)
