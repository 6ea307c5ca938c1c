-- A plan's MIDI wiring says what the MIDI inputs of its clients' work get.
--     SetsEvents-wired      so does the wiring of every plan
use Rattle.std.proofs.Common.{◌≡◌, ℕ, ◌<◌, Bool, true, false, not, ◌&&◌, ◌==◌, List, [], length, map, get_or, Contains, Option, Some, None, refl, sym, ◌∙◌, ap, ap₂, subst, arith, true≢false, eq-eqb, eqb-true}
use Rattle.std.specs.Str.{bytes_eq}
use Rattle.std.proofs.lemmas.List.{get_or-map, get_or_default, length-map}
use Rattle.std.proofs.lemmas.List.Quantifiers.{position-Some}
use Rattle.std.proofs.lemmas.List.Sums.{position_or_len_is}
use Rattle.jack_types.specs.Names.{client_part}
use Rattle.jack_types.specs.declared.events.Event.{Event}
use Rattle.jack_types.specs.declared.ports.Mark.{Mark}
use Rattle.jack_types.specs.declared.ports.Mark.TheVariants.{Direct, Feedback}
use Rattle.session_model.specs.Benches.{Part, Signal, direct_part, marked_part, merged, midi_part, node_at, place_in, port_place, task_of}
use Rattle.session_model.specs.Commands.{is_audio, is_input, ports_of}
use Rattle.session_model.specs.Courses.{Course}
use Rattle.session_model.specs.Cycles.{Settled, edges_into, midi_inputs}
use Rattle.session_model.specs.Events.{merge}
use Rattle.session_model.specs.Samples.{below}
use Rattle.session_model.specs.Soundness.{Apart, IsEnd, IsSound}
use Rattle.session_model.specs.State.{Connection, OpenClient, OpenPort, State, capture_port, system_client}
use Rattle.session_laws.proofs.CycleLemmas.{bytes_same, filter-passes}
use Rattle.session_laws.proofs.FeedbackLemmas.{FeedbackInside}
use Rattle.session_laws.proofs.LoopLemmas.{and_parts, and_true}
use Rattle.session_laws.proofs.PlaceLemmas.{filter-contains, position-found}
use Rattle.session_laws.proofs.PlanLemmas.{Distinct-from_Apart}
use Rattle.session_laws.proofs.SoundLemmas.{Apart-filter, Apart-same}
use Rattle.session_laws.proofs.WiredLemmas.{AreWired}
use Rattle.port_registry.specs.Registered.{open_client, open_clients}
use Rattle.client_wiring.specs.cycle_plan.specs.Plans.{IsPlanned, Planned, state_of_plan}
use Rattle.client_wiring.specs.cycle_plan.proofs.NetworkLemmas.{bool-same, fails}
use Rattle.client_wiring.specs.Wirings.{source_birth}
use Rattle.client_wiring.proofs.OverLemmas.{device_of_none, name-of_place}
use Rattle.client_wiring.proofs.PlaybackLemmas.{inside-plan, sound-plan, wired-plan}
use Rattle.client_wiring.proofs.TaskLemmas.{passes, same-made}
use Rattle.midi_wiring.specs.declared.joints.MidiJoint.{MidiJoint}
use Rattle.midi_wiring.specs.declared.joints.MidiWidths.{MidiWidths}
use Rattle.midi_wiring.specs.Hearings.{brought, heard_at, heard_by}
use Rattle.driver_words.specs.Hearings.{Heard}
use Rattle.midi_wiring.specs.Setting.{HandsOver, SetsEvents}
use Rattle.midi_wiring.specs.Wirings.{midi_from, midi_from_of, midi_joint_into, midi_joint_of, midi_widths_of, midi_wired_of}
use Rattle.midi_wiring.proofs.ListLemmas.{map-twice, same-places}
use Rattle.midi_wiring.proofs.PortLemmas.{bytes-turned}
use lib.Pointwise.{bytes_decides}

some-one : {X : Type 0} (x y : X) → Some x ≡ Some y → x ≡ y
some-one x y f = cc

module _ (plan : Planned) (p : IsPlanned plan) where
  abbrev state : State
  state = state_of_plan plan

  abbrev nodes : List OpenClient
  nodes = open_clients plan.nodes

  sound : IsSound (state_of_plan plan) (length plan.changes)
  sound = sound-plan plan p

  inside : FeedbackInside (state_of_plan plan).edges
  inside = inside-plan plan

  wired_so : AreWired (state_of_plan plan)
  wired_so = wired-plan plan

  inside-nodes : (n : ℕ) → n < length plan.nodes → n < length (open_clients plan.nodes)
  inside-nodes n low = let same : length (open_clients plan.nodes) ≡ length plan.nodes = length-map plan.nodes open_client in omega (arith, low, same)

  -- ---- the ports of a client have names of their own
  module _ (name : List ℕ) where
    abbrev owned : OpenPort → Bool
    owned port = bytes_eq (client_part port.name) name

    abbrev is_midi_input : OpenPort → Bool
    is_midi_input port = not (is_audio port) && is_input port

    inputs-apart : Apart (λ (port : OpenPort). port.name) (midi_inputs (state_of_plan plan) name)
    inputs-apart = Apart-filter (λ (port : OpenPort). port.name) is_midi_input (ports_of state name) (Apart-filter (λ (port : OpenPort). port.name) owned state.ports sound.port_names)

    input-owned : (port : OpenPort) → Contains (midi_inputs (state_of_plan plan) name) port → client_part port.name ≡ name
    input-owned port m = bytes_same (client_part port.name) name (filter-passes owned state.ports port (filter-contains is_midi_input (ports_of state name) port m))

    input-listed : (port : OpenPort) → Contains (midi_inputs (state_of_plan plan) name) port → Contains (state_of_plan plan).ports port
    input-listed port m = filter-contains owned state.ports port (filter-contains is_midi_input (ports_of state name) port m)

    input-midi : (port : OpenPort) → Contains (midi_inputs (state_of_plan plan) name) port → is_audio port ≡ false
    input-midi port m = untrue (is_audio port) (and_parts (not (is_audio port)) (is_input port) (filter-passes is_midi_input (ports_of state name) port m)).0
      where
        untrue : (b : Bool) → not b ≡ true → b ≡ false
        untrue true e = absurd (true≢false (sym e))
        untrue false e = refl

    input-place : (i : ℕ) (d : OpenPort) → i < length (midi_inputs (state_of_plan plan) name) → port_place (midi_inputs (state_of_plan plan) name) (get_or (midi_inputs (state_of_plan plan) name) i d).name ≡ Some i
    input-place i d within =
        let it : OpenPort = get_or (midi_inputs state name) i d in
        let listed : Contains (midi_inputs state name) it = (i, within, get_or_default (midi_inputs state name) i it d within) in
        let same : bytes_eq it.name it.name ≡ true = (bytes_decides it.name it.name).1 refl in
        position-found (λ (port : OpenPort). bytes_eq port.name it.name) (midi_inputs state name) it listed same
        ∙ ap Some (position_or_len_is (λ (port : OpenPort). bytes_eq port.name it.name) (midi_inputs state name) i d (omega (arith, within))
        (λ k less. fails (bytes_eq (get_or (midi_inputs state name) k d).name it.name)
        (λ t. let one : k ≡ i = Distinct-from_Apart (λ (port : OpenPort). port.name) (midi_inputs state name) inputs-apart k i d (omega (arith, less, within)) within (bytes_same (get_or (midi_inputs state name) k d).name it.name t) in
        omega (arith, less, one)))
        (λ h. same))

  -- an edge into a MIDI input comes from a MIDI output
  pub edge-midi : (edge : Connection) → Contains (state_of_plan plan).edges edge → (port : OpenPort) → Contains (state_of_plan plan).ports port → is_audio port ≡ false → edge.destination ≡ port.name → IsEnd (state_of_plan plan) false false edge.source
  edge-midi edge m port listed midi e =
      let ends = wired_so edge m in
      let one : ends.2.port ≡ port = Apart-same (λ (a : OpenPort). a.name) state.ports ends.2.port port sound.port_names ends.2.listed listed (ends.2.named ∙ e) in
      let told : ends.0 ≡ false = sym ends.2.type_is ∙ ap is_audio one ∙ midi in
      subst (λ b. IsEnd state false b edge.source) told ends.1

  -- the same, from a place among the MIDI inputs of its client
  pub joined-midi : (edge : Connection) → Contains (state_of_plan plan).edges edge → (i : ℕ) → port_place (midi_inputs (state_of_plan plan) (client_part edge.destination)) edge.destination ≡ Some i → IsEnd (state_of_plan plan) false false edge.source
  joined-midi edge m i e =
      let w = position-Some (λ (port : OpenPort). bytes_eq port.name edge.destination) inputs i (capture_port 0) e in
      let here : Contains (midi_inputs (state_of_plan plan) (client_part edge.destination)) port = (i, w.0, get_or_default inputs i port (capture_port 0) w.0) in
      edge-midi edge m port (input-listed (client_part edge.destination) port here) (input-midi (client_part edge.destination) port here) (sym (bytes_same port.name edge.destination w.1))
    where
      inputs : List OpenPort
      inputs = midi_inputs (state_of_plan plan) (client_part edge.destination)

      port : OpenPort
      port = get_or (midi_inputs (state_of_plan plan) (client_part edge.destination)) i (capture_port 0)

  -- ---- what connections bring
  module _ (at : Settled) (heard : Heard) (n : ℕ) (given : List (List Signal)) (low : n < length (open_clients plan.nodes)) (h : HandsOver plan at heard n given) where
    brings : (edge : Connection) → Contains (state_of_plan plan).edges edge → IsEnd (state_of_plan plan) false false edge.source → place_in (open_clients plan.nodes) (client_part edge.destination) ≡ Some n
        → midi_part given (marked_part (state_of_plan plan) (open_clients plan.nodes) plan.links n edge (at.before.midi edge.source) [] edge.mark) ≡ brought heard (midi_from_of (state_of_plan plan) (open_clients plan.nodes) edge)
    brings edge m end into = go edge.mark (place_in nodes (client_part edge.source)) refl refl
      where
        part : Option ℕ → List Event
        part from = midi_part given (direct_part (state_of_plan plan) (open_clients plan.nodes) plan.links n edge [] from)

        go : (mark : Mark) (from : Option ℕ) → edge.mark ≡ mark → place_in (open_clients plan.nodes) (client_part edge.source) ≡ from
            → midi_part given (marked_part (state_of_plan plan) (open_clients plan.nodes) plan.links n edge (at.before.midi edge.source) [] mark) ≡ brought heard (midi_from (source_birth (state_of_plan plan) edge) mark from)
        go Direct (Some a) f g = ap part g ∙ h.played edge a m end f g into
        go Direct None f g = ap part g
        go Feedback (Some a) f g = h.kept edge m end f
        go Feedback None f g = absurd (true≢false (sym (device_of_none state nodes plan.links p.is_plan false false edge.source end g) ∙ (inside edge m f).0))

    input-heard : (i : ℕ) → i < length (midi_inputs (state_of_plan plan) (node_at (open_clients plan.nodes) n).name)
        → merge (map (midi_part given) (map (λ (edge : Connection). marked_part (state_of_plan plan) (open_clients plan.nodes) plan.links n edge (at.before.midi edge.source) [] edge.mark) (edges_into (state_of_plan plan) (get_or (midi_inputs (state_of_plan plan) (node_at (open_clients plan.nodes) n).name) i (capture_port 0)).name)))
        ≡ heard_at (midi_wired_of plan) heard n i
    input-heard i within =
        ap merge
        (map-twice (midi_part given) part (edges_into state port.name)
        ∙ same-made (λ (edge : Connection). midi_part given (part edge)) (λ (joint : MidiJoint). brought heard joint.from) (λ (edge : Connection). bytes_eq edge.destination port.name) here (midi_joint_of state nodes) state.edges
        (λ edge m. bool-same (bytes_eq edge.destination port.name) (passes here (midi_joint_of state nodes edge)) (λ t. ap (passes here) (joined edge t) ∙ self edge) (back edge))
        (λ edge x m t made. brings edge m (edge-midi edge m port (input-listed name port listed) (input-midi name port listed) (bytes_same edge.destination port.name t)) (goes edge t)
        ∙ ap (λ (j : MidiJoint). brought heard j.from) (some-one (joint edge) x (sym (joined edge t) ∙ made))))
      where
        name : List ℕ
        name = (node_at (open_clients plan.nodes) n).name

        part : Connection → Part (List Event)
        part edge = marked_part (state_of_plan plan) (open_clients plan.nodes) plan.links n edge (at.before.midi edge.source) [] edge.mark

        port : OpenPort
        port = get_or (midi_inputs (state_of_plan plan) (node_at (open_clients plan.nodes) n).name) i (capture_port 0)

        listed : Contains (midi_inputs (state_of_plan plan) (node_at (open_clients plan.nodes) n).name) port
        listed = (i, within, get_or_default (midi_inputs state name) i port (capture_port 0) within)

        here : MidiJoint → Bool
        here joint = joint.node == n && joint.input == i

        joint : Connection → MidiJoint
        joint edge = record { node = n; input = i; from = midi_from_of (state_of_plan plan) (open_clients plan.nodes) edge }

        self : (edge : Connection) → here (joint edge) ≡ true
        self edge = and_true (n == n) (i == i) (eq-eqb n n refl) (eq-eqb i i refl)

        owner : (edge : Connection) → bytes_eq edge.destination port.name ≡ true → client_part edge.destination ≡ (node_at (open_clients plan.nodes) n).name
        owner edge t = ap client_part (bytes_same edge.destination port.name t) ∙ input-owned name port listed

        goes : (edge : Connection) → bytes_eq edge.destination port.name ≡ true → place_in (open_clients plan.nodes) (client_part edge.destination) ≡ Some n
        goes edge t = ap (place_in nodes) (owner edge t) ∙ (p.is_plan).placed n low

        joined : (edge : Connection) → bytes_eq edge.destination port.name ≡ true → midi_joint_of (state_of_plan plan) (open_clients plan.nodes) edge ≡ Some (joint edge)
        joined edge t =
            ap₂ (midi_joint_into (midi_from_of state nodes edge)) (goes edge t)
            (ap₂ (λ client destination. port_place (midi_inputs state client) destination) (owner edge t) (bytes_same edge.destination port.name t) ∙ input-place name i (capture_port 0) within)

        back : (edge : Connection) → passes here (midi_joint_of (state_of_plan plan) (open_clients plan.nodes) edge) ≡ true → bytes_eq edge.destination port.name ≡ true
        back edge = go (place_in nodes (client_part edge.destination)) (port_place (midi_inputs state (client_part edge.destination)) edge.destination) refl refl
          where
            go : (node its : Option ℕ) → place_in (open_clients plan.nodes) (client_part edge.destination) ≡ node → port_place (midi_inputs (state_of_plan plan) (client_part edge.destination)) edge.destination ≡ its
                → passes here (midi_joint_into (midi_from_of (state_of_plan plan) (open_clients plan.nodes) edge) node its) ≡ true → bytes_eq edge.destination port.name ≡ true
            go None its f g t = absurd (true≢false (sym t))
            go (Some m) None f g t = absurd (true≢false (sym t))
            go (Some m) (Some k) f g t =
                let both = and_parts (m == n) (k == i) t in
                let node : m ≡ n = eqb-true m n both.0 in
                let its : k ≡ i = eqb-true k i both.1 in
                let its_name : (node_at nodes n).name ≡ client_part edge.destination = (name-of_place state nodes plan.links p.is_plan (client_part edge.destination) n (f ∙ ap Some node)).1 in
                let found : port_place (midi_inputs state (node_at nodes n).name) edge.destination ≡ Some i = ap (λ client. port_place (midi_inputs state client) edge.destination) its_name ∙ g ∙ ap Some its in
                let there = position-Some (λ (q : OpenPort). bytes_eq q.name edge.destination) (midi_inputs state (node_at nodes n).name) i (capture_port 0) found in
                bytes-turned edge.destination port.name ∙ there.1

  widths-at : (n : ℕ) → n < length plan.nodes → get_or (map (midi_widths_of (state_of_plan plan)) (open_clients plan.nodes)) n (record { inputs = 0; outputs = 0 }) ≡ midi_widths_of (state_of_plan plan) (node_at (open_clients plan.nodes) n)
  widths-at n low = get_or-map (midi_widths_of (state_of_plan plan)) (open_clients plan.nodes) n system_client (record { inputs = 0; outputs = 0 }) (inside-nodes n low)

  -- all inputs of a node
  merged-are : (course : Course) (at : Settled) (heard : Heard) (n : ℕ) (given : List (List Signal)) → n < length plan.nodes → HandsOver plan at heard n given
      → merged (task_of course (record at { graph = state_of_plan plan }) (open_clients plan.nodes) plan.links n) given ≡ heard_by (midi_wired_of plan) heard n
  merged-are course at heard n given low h =
      map-twice (λ parts. merge (map (midi_part given) parts)) parts inputs
      ∙ same-places (λ (port : OpenPort). merge (map (midi_part given) (parts port))) (heard_at (midi_wired_of plan) heard n) inputs (capture_port 0) (input-heard at heard n given (inside-nodes n low) h)
      ∙ ap (λ k. map (heard_at (midi_wired_of plan) heard n) (below k)) (sym (ap (λ (w : MidiWidths). w.inputs) (widths-at n low)))
    where
      inputs : List OpenPort
      inputs = midi_inputs (state_of_plan plan) (node_at (open_clients plan.nodes) n).name

      parts : OpenPort → List (Part (List Event))
      parts port = map (λ (edge : Connection). marked_part (state_of_plan plan) (open_clients plan.nodes) plan.links n edge (at.before.midi edge.source) [] edge.mark) (edges_into (state_of_plan plan) port.name)

  pub SetsEvents-wired : SetsEvents plan (midi_wired_of plan)
  SetsEvents-wired = record {
    inputs = λ n low. ap (λ (w : MidiWidths). w.inputs) (widths-at n low);
    outputs = λ n low. ap (λ (w : MidiWidths). w.outputs) (widths-at n low);
    merged_is = λ course at heard n given low same h.
        subst (λ (now : Settled). merged (task_of course now (open_clients plan.nodes) plan.links n) given ≡ heard_by (midi_wired_of plan) heard n)
        (ap (λ (graph : State). (let now : Settled = record at { graph = graph } in now)) (sym same))
        (merged-are course at heard n given low h);
  }
