-- An edge of a plan by its ends is what the definitions see of it.
--     carried-named, joint-named, heard-named      what links carry, where connections bring their audio, and what is played back
--     given-named      which audio output of a node a port is
use Rattle.std.proofs.Common.{◌≡◌, ℕ, ◌<◌, ◌≤◌, Bool, true, false, not, ◌&&◌, ◌==◌, All, List, [], ◌∷◌, length, map, filter, filter_map, get_or, take, Contains, Option, Some, None, refl, sym, ◌∙◌, ap, ap₂, subst, arith, true≢false, eq-eqb, eqb-true}
use Rattle.std.specs.Option.{option_map, option_map_or}
use Rattle.std.specs.Str.{bytes_eq}
use Rattle.std.proofs.lemmas.List.{get_or_default, length-map}
use Rattle.std.proofs.lemmas.List.Quantifiers.{position-Some}
use Rattle.std.proofs.lemmas.List.Sorted.{Contains-permutation, IsPermutation-sym}
use Rattle.jack_types.specs.Names.{client_part}
use Rattle.jack_types.specs.declared.ports.Client.{Client}
use Rattle.jack_types.specs.declared.ports.Edge.{Edge}
use Rattle.jack_types.specs.declared.ports.Link.{Link}
use Rattle.jack_types.specs.declared.ports.Mark.{Mark}
use Rattle.jack_types.specs.declared.ports.Mark.TheVariants.{Direct, Feedback}
use Rattle.jack_types.specs.declared.ports.Node.TheVariants.{Client as ClientNode}
use Rattle.jack_types.specs.declared.ports.Port.{Port}
use Rattle.jack_types.specs.declared.ports.PortId.{PortId}
use Rattle.jack_types.specs.declared.ports.PortKind.{PortKind}
use Rattle.jack_types.specs.declared.ports.PortKind.TheVariants.{Audio, Midi}
use Rattle.jack_types.specs.declared.ports.Way.{Way}
use Rattle.jack_types.specs.declared.ports.Way.TheVariants.{In, Out}
use Rattle.session_model.specs.Benches.{IsPlan, link_place, place_in, port_place}
use Rattle.session_model.specs.Commands.{is_audio, is_input, ports_of}
use Rattle.session_model.specs.Courses.{players}
use Rattle.session_model.specs.Cycles.{audio_inputs, audio_outputs, midi_outputs}
use Rattle.session_model.specs.Ids.{connection, connections, name_with, open_port, open_ports, same_id_node, way_of}
use Rattle.session_model.specs.Soundness.{Apart, IsEnd}
use Rattle.session_model.specs.State.{Connection, OpenClient, OpenPort, State, is_system, port_named, system_client, system_name}
use Rattle.cycle_plan.specs.session_laws.proofs.CycleLemmas.{bytes_same, filter-passes}
use Rattle.cycle_plan.specs.session_laws.proofs.LoopLemmas.{Contains-first, Contains-later, and_parts}
use Rattle.cycle_plan.specs.session_laws.proofs.PlanLemmas.{find-one}
use Rattle.cycle_plan.specs.session_laws.proofs.SoundLemmas.{Apart-same, contains-map, map-contains}
use Rattle.cycle_plan.specs.session_laws.proofs.PlaceLemmas.{filter-contains}
use Rattle.cycle_plan.specs.session_laws.proofs.WiredLemmas.{AreWired, AreWired-opening, AreWired-replay}
use Rattle.cycle_plan.specs.connection_set.specs.Connections.{IsIdOf, no_edge}
use Rattle.cycle_plan.specs.feedback_edges.specs.Marking.{AreAmong, IsEndOf, IsNode, node_number}
use Rattle.cycle_plan.specs.feedback_edges.proofs.NameLemmas.{same_id_node-is, same_id_node-self}
use Rattle.cycle_plan.specs.port_registry.specs.Registered.{IsRegistered, Registered, open_client, open_clients}
use Rattle.cycle_plan.specs.Graphs.{state_of}
use Rattle.cycle_plan.specs.Plans.{IsPlanned, Planned, opening_of, state_of_plan}
use Rattle.cycle_plan.proofs.NetworkLemmas.{AreAmong-network, at_client, fails}
use Rattle.client_wiring.specs.declared.ends.End.{End}
use Rattle.client_wiring.specs.declared.joints.Carried.{Carried}
use Rattle.client_wiring.specs.declared.joints.Heard.{Heard}
use Rattle.client_wiring.specs.declared.joints.Widths.{Widths}
use Rattle.client_wiring.specs.declared.joints.Origin.TheVariants.{Handed}
use Rattle.client_wiring.specs.declared.joints.Output.{Output}
use Rattle.client_wiring.specs.declared.joints.Output.TheVariants.{Audio as AudioOutput, Midi as MidiOutput}
use Rattle.client_wiring.specs.Ends.{IsEndAt, carried_from, given_from, given_with, heard_from, heard_with, joint_from, joint_with, origin_by, origin_with, output_at, output_by, sound_at}
use Rattle.client_wiring.specs.Tables.{AreCounts, ArePlaces, class_place, in_class, joined, node_place, number_in_class, widths_by}
use Rattle.client_wiring.specs.Wirings.{carried_by, carried_on, given_by, given_of, heard_of, heard_on, joint_into, joint_of, origin_from, origin_of, output_of, port_index, sound_by, sound_of, source_birth, source_place, widths_of}
use Rattle.client_wiring.proofs.NameLemmas.{Owns, Tells, audio_inputs-tell, audio_outputs-tell, bytes-turned, found-named, midi_outputs-tell, named-one, node-one, own-ports, place-named, place-none, position-nowhere}
use Rattle.client_wiring.proofs.ListLemmas.{few-below, position-called}
use Rattle.client_wiring.proofs.OverLemmas.{connection-counted, device_of_none}
use lib.Pointwise.{bytes_decides}

-- a test for the kind and the way of a port
turned : (test : OpenPort → Bool) (kind k : PortKind) (way w : Way) → k ≡ kind → w ≡ way → Tells test kind way → Tells test k w
turned test kind k way w f g tells port = (λ t. let told = (tells port).0 t in (told.0 ∙ sym f, told.1 ∙ sym g), λ h. (tells port).1 (h.0 ∙ f, h.1 ∙ g))

module _ (plan : Planned) (p : IsPlanned plan) where
  abbrev held : Registered
  held = plan.network.held

  abbrev state : State
  state = state_of plan.network

  abbrev nodes : List OpenClient
  nodes = open_clients plan.nodes

  registered : IsRegistered plan.network.held
  registered = p.network.registered

  -- a node is no device
  others : (client : Client) → Contains plan.nodes client → is_system client.name ≡ false
  others client m = untrue (is_system client.name) (and_parts client.active (not (is_system client.name)) passes).1
    where
      plays : OpenClient → Bool
      plays c = c.active && not (is_system c.name)

      among : Contains (players (state_of_plan plan)) (open_client client)
      among = Contains-permutation (open_clients plan.nodes) (players (state_of_plan plan)) (open_client client) (IsPermutation-sym (players (state_of_plan plan)) (open_clients plan.nodes) p.moved) (map-contains open_client plan.nodes client m)

      passes : (client.active && not (is_system client.name)) ≡ true
      passes = filter-passes plays (state_of_plan plan).clients (open_client client) among

      untrue : (b : Bool) → not b ≡ true → b ≡ false
      untrue true e = absurd (true≢false (sym e))
      untrue false e = refl

  -- the node of a port, by ids and by names
  node-named : (port : Port) → Contains plan.network.held.ports port → node_place plan.nodes port.node ≡ place_in (open_clients plan.nodes) (client_part port.name)
  node-named port q =
      position-called (λ (client : OpenClient). bytes_eq client.name (client_part port.name)) (λ (client : Client). same_id_node port.node (ClientNode client.id)) open_client plan.nodes
      (λ client m. at_client plan.network.held registered client (p.listed client m) (others client m) port q ∙ bytes-turned (client_part port.name) client.name)

  module _ (id : PortId) (end : End) (e : IsEndAt plan.network.held.ports plan.nodes id end) where
    listed : Contains plan.network.held.ports e.port
    listed = (e.index, e.within, e.there)

    name-is : name_with plan.network.held.ports id ≡ e.port.name
    name-is =
        ap (λ o. option_map_or (λ (port : Port). port.name) o [])
        (find-one (λ (port : Port). port.id.0 == id.0) plan.network.held.ports e.port listed (eq-eqb e.port.id.0 id.0 e.its_id)
        (λ other n t. Apart-same (λ (port : Port). port.id.0) plan.network.held.ports other e.port registered.port_ids n listed (eqb-true other.id.0 id.0 t ∙ sym e.its_id)))

    way-is : (way : Way) → IsEndOf plan.network.held.ports way id → way_of e.port ≡ way
    way-is way w = ap way_of (Apart-same (λ (port : Port). port.id.0) plan.network.held.ports e.port w.0 registered.port_ids listed w.1 (e.its_id ∙ sym w.2)) ∙ w.3

    node-is : end.node ≡ place_in (open_clients plan.nodes) (client_part (name_with plan.network.held.ports id))
    node-is = e.node ∙ node-named e.port listed ∙ ap (λ n. place_in (open_clients plan.nodes) (client_part n)) (sym name-is)

    -- an output
    output-is : way_of e.port ≡ Out → output_at end ≡ output_of (state_of plan.network) (name_with plan.network.held.ports id)
    output-is out = ap₂ output_by e.kind e.place ∙ go e.port.kind refl ∙ ap (output_of (state_of plan.network)) (sym name-is)
      where
        outputs : OpenPort → Bool
        outputs port = is_audio port && not (is_input port)

        midi : OpenPort → Bool
        midi port = not (is_audio port) && not (is_input port)

        failing : e.port.kind ≡ Midi → outputs (open_port e.port) ≡ false
        failing f = fails (outputs (open_port e.port)) (λ t. apart (sym f ∙ ((audio_outputs-tell (open_port e.port)).0 t).0))
          where
            apart : Midi ≡ Audio → ⊥
            apart n = cc

        go : (k : PortKind) → e.port.kind ≡ k → output_by k (class_place plan.network.held.ports e.index e.port) ≡ output_of (state_of plan.network) e.port.name
        go Audio f =
            sym (ap (λ o. option_map_or AudioOutput o (MidiOutput (port_index (midi_outputs (state_of plan.network) (client_part e.port.name)) e.port.name)))
            (found-named plan.network.held registered e.index e.port e.within e.there outputs (turned outputs Audio e.port.kind Out (way_of e.port) f out audio_outputs-tell)))
        go Midi f =
            ap MidiOutput (sym (place-named plan.network.held registered e.index e.port e.within e.there midi (turned midi Midi e.port.kind Out (way_of e.port) f out midi_outputs-tell)))
            ∙ sym (ap (λ o. option_map_or AudioOutput o (MidiOutput (port_index (midi_outputs (state_of plan.network) (client_part e.port.name)) e.port.name)))
            (place-none plan.network.held registered e.index e.port e.within e.there outputs (failing f)))

    -- the place of an audio output
    source-is : way_of e.port ≡ Out → e.port.kind ≡ Audio
        → end.place ≡ port_index (audio_outputs (state_of plan.network) (client_part (name_with plan.network.held.ports id))) (name_with plan.network.held.ports id)
    source-is out f =
        e.place
        ∙ sym (place-named plan.network.held registered e.index e.port e.within e.there outputs (turned outputs Audio e.port.kind Out (way_of e.port) f out audio_outputs-tell))
        ∙ ap (λ n. port_index (audio_outputs (state_of plan.network) (client_part n)) n) (sym name-is)
      where
        outputs : OpenPort → Bool
        outputs port = is_audio port && not (is_input port)

    -- the place of an input among the audio inputs
    input-is : way_of e.port ≡ In → e.port.kind ≡ Audio
        → port_place (audio_inputs (state_of plan.network) (client_part (name_with plan.network.held.ports id))) (name_with plan.network.held.ports id) ≡ Some end.place
    input-is into f =
        ap (λ n. port_place (audio_inputs (state_of plan.network) (client_part n)) n) name-is
        ∙ found-named plan.network.held registered e.index e.port e.within e.there inputs (turned inputs Audio e.port.kind In (way_of e.port) f into audio_inputs-tell)
        ∙ ap Some (sym e.place)
      where
        inputs : OpenPort → Bool
        inputs port = is_audio port && is_input port

    input-none : e.port.kind ≡ Midi → port_place (audio_inputs (state_of plan.network) (client_part (name_with plan.network.held.ports id))) (name_with plan.network.held.ports id) ≡ None
    input-none f =
        ap (λ n. port_place (audio_inputs (state_of plan.network) (client_part n)) n) name-is
        ∙ place-none plan.network.held registered e.index e.port e.within e.there inputs (fails (inputs (open_port e.port)) (λ t. apart (sym f ∙ ((audio_inputs-tell (open_port e.port)).0 t).0)))
      where
        inputs : OpenPort → Bool
        inputs port = is_audio port && is_input port

        apart : Midi ≡ Audio → ⊥
        apart n = cc

    -- its birth
    birth-is : end.birth ≡ option_map_or (λ (port : OpenPort). port.birth) (port_named (state_of plan.network) (name_with plan.network.held.ports id)) 0
    birth-is = e.birth ∙ sym (ap (λ o. option_map_or (λ (port : OpenPort). port.birth) o 0) (ap (port_named (state_of plan.network)) name-is ∙ there))
      where
        there : port_named (state_of plan.network) e.port.name ≡ Some (open_port e.port)
        there =
            find-one (λ (other : OpenPort). bytes_eq other.name e.port.name) (open_ports plan.network.held.ports) (open_port e.port) (map-contains open_port plan.network.held.ports e.port listed)
            ((bytes_decides e.port.name e.port.name).1 refl)
            (λ other n t. named-one plan.network.held registered e.index e.port e.within e.there other n (bytes_same other.name e.port.name t))

    -- it is no audio input of the device
    playback-none : (client_part e.port.name ≡ system_name → e.port.kind ≡ Audio → ⊥) → port_place (audio_inputs (state_of plan.network) system_name) (name_with plan.network.held.ports id) ≡ None
    playback-none unless =
        ap (port_place (audio_inputs (state_of plan.network) system_name)) name-is
        ∙ position-nowhere (λ (other : OpenPort). bytes_eq other.name e.port.name) (audio_inputs (state_of plan.network) system_name) here
      where
        inputs : OpenPort → Bool
        inputs port = is_audio port && is_input port

        devices : OpenPort → Bool
        devices port = bytes_eq (client_part port.name) system_name

        here : (other : OpenPort) → Contains (audio_inputs (state_of plan.network) system_name) other → bytes_eq other.name e.port.name ≡ true → ⊥
        here other m t =
            let inside : Contains (ports_of (state_of plan.network) system_name) other = filter-contains inputs (ports_of (state_of plan.network) system_name) other m in
            let one : other ≡ open_port e.port = named-one plan.network.held registered e.index e.port e.within e.there other (filter-contains devices (open_ports plan.network.held.ports) other inside) (bytes_same other.name e.port.name t) in
            unless (ap (λ (port : OpenPort). client_part port.name) (sym one) ∙ bytes_same (client_part other.name) system_name (filter-passes devices (open_ports plan.network.held.ports) other inside))
            (ap (λ (port : OpenPort). port.kind) (sym one) ∙ ((audio_inputs-tell other).0 (filter-passes inputs (ports_of (state_of plan.network) system_name) other m)).0)

    -- what kind of port has a name
    audio-there : (is_in is_sound : Bool) (other : IsEnd (state_of plan.network) is_in is_sound (name_with plan.network.held.ports id)) → is_audio (open_port e.port) ≡ is_sound
    audio-there is_in is_sound other =
        ap is_audio (sym (named-one plan.network.held registered e.index e.port e.within e.there other.port other.listed (other.named ∙ name-is))) ∙ other.type_is

    is_audio-kind : e.port.kind ≡ Audio → is_audio (open_port e.port) ≡ true
    is_audio-kind f = ap (λ k. is_audio (record { name = e.port.name; way = way_of e.port; kind = k; birth = e.port.birth })) f

    kind-is_audio : is_audio (open_port e.port) ≡ true → e.port.kind ≡ Audio
    kind-is_audio t = go e.port.kind t
      where
        go : (k : PortKind) → is_audio (record { name = e.port.name; way = way_of e.port; kind = k; birth = e.port.birth }) ≡ true → k ≡ Audio
        go Audio h = refl
        go Midi h = absurd (true≢false (sym h))

  module _ (edge : Edge) (m : Contains plan.network.set.edges edge) (source destination : End)
      (s : IsEndAt plan.network.held.ports plan.nodes edge.source source) (d : IsEndAt plan.network.held.ports plan.nodes edge.destination destination) where
    abbrev named : Connection
    named = connection plan.network.held.ports edge

    -- what a link carries of it
    pub carried-named : carried_from plan.links edge.mark source destination ≡ carried_by (state_of plan.network) (open_clients plan.nodes) plan.links (connection plan.network.held.ports edge)
    carried-named =
        ap₂ with_output (output-is edge.source source s (way-is edge.source source s Out (p.network.ends.sources edge m)))
        (ap₂ (joined edge.mark) (node-is edge.source source s) (node-is edge.destination destination d))
      where
        with_output : Output → Option Link → Option Carried
        with_output output link = option_map (carried_on plan.links output) link

    wired : AreWired (state_of plan.network)
    wired = subst AreWired (sym p.state) (AreWired-replay (opening_of plan.base) plan.changes (AreWired-opening plan.base.capture plan.base.playback))

    -- the source of an edge into an audio input gives audio
    source-audio : d.port.kind ≡ Audio → s.port.kind ≡ Audio
    source-audio f =
        let ends = wired (connection plan.network.held.ports edge) (map-contains (connection plan.network.held.ports) plan.network.set.edges edge m) in
        let sound : ends.0 ≡ true = sym (audio-there edge.destination destination d true ends.0 ends.2) ∙ is_audio-kind edge.destination destination d f in
        kind-is_audio edge.source source s (audio-there edge.source source s false ends.0 ends.1 ∙ sound)

    -- what goes into a playback port
    pub heard-named : heard_from source destination ≡ heard_of (state_of plan.network) (open_clients plan.nodes) (connection plan.network.held.ports edge)
    heard-named =
        ap₂ (heard_with (sound_at source) destination.place) d.kind (node-is edge.destination destination d)
        ∙ go d.port.kind (place_in (open_clients plan.nodes) (client_part (name_with plan.network.held.ports edge.destination))) refl refl
      where
        into : way_of d.port ≡ In
        into = way-is edge.destination destination d In (p.network.ends.destinations edge m)

        name : List ℕ
        name = name_with plan.network.held.ports edge.destination

        sound : d.port.kind ≡ Audio → sound_at source ≡ sound_of (state_of plan.network) (open_clients plan.nodes) (connection plan.network.held.ports edge)
        sound f = ap₂ sound_by (source-is edge.source source s (way-is edge.source source s Out (p.network.ends.sources edge m)) (source-audio f)) (node-is edge.source source s)

        with_place : Option ℕ → Option Heard
        with_place channel = option_map (heard_on (sound_of (state_of plan.network) (open_clients plan.nodes) (connection plan.network.held.ports edge))) channel

        none : (client_part d.port.name ≡ system_name → d.port.kind ≡ Audio → ⊥) → None ≡ heard_of (state_of plan.network) (open_clients plan.nodes) (connection plan.network.held.ports edge)
        none unless = sym (ap with_place (playback-none edge.destination destination d unless))

        no_midi : d.port.kind ≡ Midi → client_part d.port.name ≡ system_name → d.port.kind ≡ Audio → ⊥
        no_midi f c g = apart (sym f ∙ g)
          where
            apart : Midi ≡ Audio → ⊥
            apart n = cc

        device : d.port.kind ≡ Audio → place_in (open_clients plan.nodes) (client_part (name_with plan.network.held.ports edge.destination)) ≡ None
            → client_part (name_with plan.network.held.ports edge.destination) ≡ system_name
        device f g =
            let ends = wired (connection plan.network.held.ports edge) (map-contains (connection plan.network.held.ports) plan.network.set.edges edge m) in
            bytes_same (client_part (name_with plan.network.held.ports edge.destination)) system_name
            (device_of_none (state_of plan.network) (open_clients plan.nodes) plan.links is_plan true ends.0 (name_with plan.network.held.ports edge.destination) ends.2 g)
          where
            is_plan : IsPlan (state_of plan.network) (open_clients plan.nodes) plan.links
            is_plan = subst (λ s. IsPlan s (open_clients plan.nodes) plan.links) (sym p.state) p.is_plan

        no_node : (n : ℕ) → place_in (open_clients plan.nodes) (client_part (name_with plan.network.held.ports edge.destination)) ≡ Some n → client_part d.port.name ≡ system_name → d.port.kind ≡ Audio → ⊥
        no_node n g c f =
            let w = position-Some (λ (client : OpenClient). bytes_eq client.name (client_part name)) (open_clients plan.nodes) n system_client g in
            let at : Contains (open_clients plan.nodes) (get_or (open_clients plan.nodes) n system_client) = (n, w.0, get_or_default (open_clients plan.nodes) n (get_or (open_clients plan.nodes) n system_client) system_client w.0) in
            let client = contains-map open_client plan.nodes (get_or (open_clients plan.nodes) n system_client) at in
            let named : client.0.name ≡ system_name = ap (λ (o : OpenClient). o.name) client.2 ∙ bytes_same (get_or (open_clients plan.nodes) n system_client).name (client_part name) w.1 ∙ ap client_part (name-is edge.destination destination d) ∙ c in
            true≢false (sym ((bytes_decides client.0.name system_name).1 named) ∙ others client.0 client.1)

        go : (k : PortKind) (node : Option ℕ) → d.port.kind ≡ k → place_in (open_clients plan.nodes) (client_part (name_with plan.network.held.ports edge.destination)) ≡ node
            → heard_with (sound_at source) destination.place k node ≡ heard_of (state_of plan.network) (open_clients plan.nodes) (connection plan.network.held.ports edge)
        go Midi None f g = none (no_midi f)
        go Midi (Some n) f g = none (no_midi f)
        go Audio (Some n) f g = none (no_node n g)
        go Audio None f g =
            ap (λ s. Some (heard_on s destination.place)) (sound f)
            ∙ sym (ap with_place (ap (λ c. port_place (audio_inputs (state_of plan.network) c) name) (sym (device f g)) ∙ input-is edge.destination destination d into f))

    module _ (index : ℕ) (within : index < length plan.network.set.edges) (there : get_or plan.network.set.edges index edge ≡ edge) (carried : List Carried)
        (so_far : carried ≡ filter_map (carried_by (state_of plan.network) (open_clients plan.nodes) plan.links) (connections plan.network.held.ports (take index plan.network.set.edges))) where
      origin-named : (n : ℕ) → place_in (open_clients plan.nodes) (client_part (name_with plan.network.held.ports edge.destination)) ≡ Some n → d.port.kind ≡ Audio
          → origin_by plan.links edge.mark source n carried ≡ origin_of (state_of plan.network) (open_clients plan.nodes) plan.links n (connection plan.network.held.ports edge)
      origin-named n at f =
          ap₂ (λ place node. origin_with plan.links place source.birth n carried edge.mark node)
          (source-is edge.source source s (way-is edge.source source s Out (p.network.ends.sources edge m)) (source-audio f)) (node-is edge.source source s)
          ∙ ap (λ birth. origin_with plan.links (source_place (state_of plan.network) (connection plan.network.held.ports edge)) birth n carried edge.mark (place_in (open_clients plan.nodes) (client_part (name_with plan.network.held.ports edge.source)))) (birth-is edge.source source s)
          ∙ go edge.mark (place_in (open_clients plan.nodes) (client_part (name_with plan.network.held.ports edge.source))) refl refl
        where
          go : (mark : Mark) (from : Option ℕ) → edge.mark ≡ mark → place_in (open_clients plan.nodes) (client_part (name_with plan.network.held.ports edge.source)) ≡ from
              → origin_with plan.links (source_place (state_of plan.network) (connection plan.network.held.ports edge)) (source_birth (state_of plan.network) (connection plan.network.held.ports edge)) n carried mark from
              ≡ origin_from (state_of plan.network) (open_clients plan.nodes) plan.links n (connection plan.network.held.ports edge) mark from
          go Direct (Some a) g h = ap (Handed (link_place plan.links a n)) (connection-counted plan p edge index within there carried so_far a n g h at)
          go Feedback (Some a) g h = refl
          go Direct None g h = refl
          go Feedback None g h = refl

      pub joint-named : joint_from plan.links edge.mark source destination carried ≡ joint_of (state_of plan.network) (open_clients plan.nodes) plan.links (connection plan.network.held.ports edge)
      joint-named =
          ap₂ (joint_with plan.links edge.mark source destination.place carried) d.kind (node-is edge.destination destination d)
          ∙ go d.port.kind (place_in (open_clients plan.nodes) (client_part (name_with plan.network.held.ports edge.destination))) refl refl
        where
          into : way_of d.port ≡ In
          into = way-is edge.destination destination d In (p.network.ends.destinations edge m)

          its : Option ℕ
          its = port_place (audio_inputs (state_of plan.network) (client_part (name_with plan.network.held.ports edge.destination))) (name_with plan.network.held.ports edge.destination)

          go : (k : PortKind) (node : Option ℕ) → d.port.kind ≡ k → place_in (open_clients plan.nodes) (client_part (name_with plan.network.held.ports edge.destination)) ≡ node
              → joint_with plan.links edge.mark source destination.place carried k node
              ≡ joint_into (state_of plan.network) (open_clients plan.nodes) plan.links (connection plan.network.held.ports edge) node its
          go Audio None f g = refl
          go Midi None f g = refl
          go Midi (Some n) f g = sym (ap (joint_into (state_of plan.network) (open_clients plan.nodes) plan.links (connection plan.network.held.ports edge) (Some n)) (input-none edge.destination destination d f))
          go Audio (Some n) f g =
              ap (λ origin. Some (record { node = n; input = destination.place; origin = origin })) (origin-named n g f)
              ∙ sym (ap (joint_into (state_of plan.network) (open_clients plan.nodes) plan.links (connection plan.network.held.ports edge) (Some n)) (input-is edge.destination destination d into f))

-- a port of a plan's that is an audio output of a node
module _ (plan : Planned) (p : IsPlanned plan) (index : ℕ) (port : Port) (within : index < length plan.network.held.ports) (there : get_or plan.network.held.ports index port ≡ port)
    (places : List ℕ) (are : ArePlaces plan.network.held.ports places) where
  pub given-named : given_from plan.nodes places port ≡ given_of (state_of plan.network) (open_clients plan.nodes) (open_port port)
  given-named =
      ap₂ (λ place node. given_with port.birth place port.kind (way_of port) node) (are index port within there) (node-named plan p port (index, within, there))
      ∙ go port.kind (way_of port) refl refl
    where
      outputs : OpenPort → Bool
      outputs other = is_audio other && not (is_input other)

      node : Option ℕ
      node = place_in (open_clients plan.nodes) (client_part port.name)

      by_none : (birth : ℕ) (o : Option ℕ) → None ≡ given_by birth o None
      by_none birth None = refl
      by_none birth (Some n) = refl

      none : outputs (open_port port) ≡ false → None ≡ given_of (state_of plan.network) (open_clients plan.nodes) (open_port port)
      none f = by_none port.birth node ∙ sym (ap (given_by port.birth node) (place-none plan.network.held p.network.registered index port within there outputs f))

      failing : (port.kind ≡ Audio → way_of port ≡ Out → ⊥) → outputs (open_port port) ≡ false
      failing unless = fails (outputs (open_port port)) (λ t. let told = (audio_outputs-tell (open_port port)).0 t in unless told.0 told.1)

      no_midi : Midi ≡ Audio → ⊥
      no_midi n = cc

      no_input : In ≡ Out → ⊥
      no_input n = cc

      nothing : (birth place : ℕ) (w : Way) (o : Option ℕ) → given_with birth place Midi w o ≡ None
      nothing birth place In None = refl
      nothing birth place In (Some n) = refl
      nothing birth place Out None = refl
      nothing birth place Out (Some n) = refl

      input : (birth place : ℕ) (o : Option ℕ) → given_with birth place Audio In o ≡ None
      input birth place None = refl
      input birth place (Some n) = refl

      output : (birth place : ℕ) (o : Option ℕ) → given_with birth place Audio Out o ≡ given_by birth o (Some place)
      output birth place None = refl
      output birth place (Some n) = refl

      go : (k : PortKind) (w : Way) → port.kind ≡ k → way_of port ≡ w
          → given_with port.birth (class_place plan.network.held.ports index port) k w (place_in (open_clients plan.nodes) (client_part port.name)) ≡ given_of (state_of plan.network) (open_clients plan.nodes) (open_port port)
      go Midi w f g = nothing port.birth (class_place plan.network.held.ports index port) w node ∙ none (failing (λ a o. no_midi (sym f ∙ a)))
      go Audio In f g = input port.birth (class_place plan.network.held.ports index port) node ∙ none (failing (λ a o. no_input (sym g ∙ o)))
      go Audio Out f g =
          output port.birth (class_place plan.network.held.ports index port) node
          ∙ sym (ap (given_by port.birth node) (found-named plan.network.held p.network.registered index port within there outputs (turned outputs Audio port.kind Out (way_of port) f g audio_outputs-tell)))

-- one port of a plan's, told by the plan's calls
pub given-step : (plan : Planned) (p : IsPlanned plan) (ports : List Port) (clients : List Client) → ports ≡ plan.network.held.ports → clients ≡ plan.nodes → (places : List ℕ) → ArePlaces plan.network.held.ports places
    → (i : ℕ) (port : Port) → i < length ports → port ≡ get_or ports i port
    → given_from clients places port ≡ given_of (state_of plan.network) (open_clients plan.nodes) (open_port (get_or plan.network.held.ports i port))
given-step plan p ports clients ports_are clients_are places are i port h is =
    ap (λ cs. given_from cs places port) clients_are
    ∙ given-named plan p i port (subst (λ (ps : List Port). i < length ps) ports_are h) there places are
    ∙ ap (λ q. given_of (state_of plan.network) (open_clients plan.nodes) (open_port q)) (sym there)
  where
    there : get_or plan.network.held.ports i port ≡ port
    there = ap (λ (ps : List Port). get_or ps i port) (sym ports_are) ∙ sym is

-- one edge of a plan's, told by the plan's calls
module _ (plan : Planned) (p : IsPlanned plan) (i : ℕ) (h : i < length plan.network.set.edges) (source destination : End)
    (ports : List Port) (clients : List Client) (edges : List Edge) (links : List Link)
    (ports_are : ports ≡ plan.network.held.ports) (clients_are : clients ≡ plan.nodes) (edges_are : edges ≡ plan.network.set.edges) (links_are : links ≡ plan.links)
    (s : IsEndAt ports clients (get_or edges i no_edge).source source) (d : IsEndAt ports clients (get_or edges i no_edge).destination destination) where
  abbrev edge : Edge
  edge = get_or plan.network.set.edges i no_edge

  there : get_or plan.network.set.edges i (get_or plan.network.set.edges i no_edge) ≡ get_or plan.network.set.edges i no_edge
  there = get_or_default plan.network.set.edges i (get_or plan.network.set.edges i no_edge) no_edge h

  end-moved : (side : Edge → PortId) (end : End) → IsEndAt ports clients (side (get_or edges i no_edge)) end → IsEndAt plan.network.held.ports plan.nodes (side (get_or plan.network.set.edges i no_edge)) end
  end-moved side end e =
      subst (λ es. IsEndAt plan.network.held.ports plan.nodes (side (get_or es i no_edge)) end) edges_are
      (subst (λ cs. IsEndAt plan.network.held.ports cs (side (get_or edges i no_edge)) end) clients_are
      (subst (λ ps. IsEndAt ps clients (side (get_or edges i no_edge)) end) ports_are e))

  pub carried-step : carried_from links (get_or edges i no_edge).mark source destination
      ≡ carried_by (state_of plan.network) (open_clients plan.nodes) plan.links (connection plan.network.held.ports (get_or plan.network.set.edges i no_edge))
  carried-step =
      ap₂ (λ ls (es : List Edge). carried_from ls (get_or es i no_edge).mark source destination) links_are edges_are
      ∙ carried-named plan p edge (i, h, there) source destination (end-moved (λ e. e.source) source s) (end-moved (λ e. e.destination) destination d)

  pub heard-step : heard_from source destination ≡ heard_of (state_of plan.network) (open_clients plan.nodes) (connection plan.network.held.ports (get_or plan.network.set.edges i no_edge))
  heard-step = heard-named plan p edge (i, h, there) source destination (end-moved (λ e. e.source) source s) (end-moved (λ e. e.destination) destination d)

  pub joint-step : (carried : List Carried) → carried ≡ filter_map (carried_by (state_of plan.network) (open_clients plan.nodes) plan.links) (connections plan.network.held.ports (take i plan.network.set.edges))
      → joint_from links (get_or edges i no_edge).mark source destination carried
      ≡ joint_of (state_of plan.network) (open_clients plan.nodes) plan.links (connection plan.network.held.ports (get_or plan.network.set.edges i no_edge))
  joint-step carried so_far =
      ap₂ (λ ls (es : List Edge). joint_from ls (get_or es i no_edge).mark source destination carried) links_are edges_are
      ∙ joint-named plan p edge (i, h, there) source destination (end-moved (λ e. e.source) source s) (end-moved (λ e. e.destination) destination d) i h there carried so_far

-- the ports of a plan's edges
module _ (plan : Planned) (p : IsPlanned plan) (ports : List Port) (ports_are : ports ≡ plan.network.held.ports) where
  among-is : AreAmong plan.network.held.ports plan.network.set.edges
  among-is = AreAmong-network plan.network.held p.network.registered plan.network.set.edges p.network.ends

  pub ids-low : All (λ (port : Port). port.id.0 < 2064) ports
  ids-low = subst (All (λ (port : Port). port.id.0 < 2064)) (sym ports_are) among-is.ids

  pub nodes-low : All (λ (port : Port). IsNode port.node) ports
  nodes-low = subst (All (λ (port : Port). IsNode port.node)) (sym ports_are) among-is.nodes

  pub ids-apart : Apart (λ (port : Port). port.id.0) ports
  ids-apart = subst (Apart (λ (port : Port). port.id.0)) (sym ports_are) p.network.registered.port_ids

  pub ports-few : length ports ≤ 2064
  ports-few = few-below ports 2064 ids-apart (λ port m. let w = ids-low m.0 port m.1 in subst (λ (q : Port). q.id.0 < 2064) m.2 w)

  module _ (edges : List Edge) (edges_are : edges ≡ plan.network.set.edges) (i : ℕ) (h : i < length edges) where
    listed-edge : Contains plan.network.set.edges (get_or edges i no_edge)
    listed-edge = subst (λ es. Contains es (get_or edges i no_edge)) edges_are (i, h, get_or_default edges i (get_or edges i no_edge) no_edge h)

    pub source-listed : IsIdOf ports (get_or edges i no_edge).source
    source-listed = subst (λ ps. IsIdOf ps (get_or edges i no_edge).source) (sym ports_are) (among-is.sources (get_or edges i no_edge) listed-edge)

    pub destination-listed : IsIdOf ports (get_or edges i no_edge).destination
    destination-listed = subst (λ ps. IsIdOf ps (get_or edges i no_edge).destination) (sym ports_are) (among-is.destinations (get_or edges i no_edge) listed-edge)

-- how many audio inputs and outputs a node's client has
module _ (plan : Planned) (p : IsPlanned plan) (counts : List ℕ) (are : AreCounts plan.network.held.ports counts) where
  owns-client : (client : Client) → Contains plan.nodes client → (way : Way) → Owns plan.network.held p.network.registered (ClientNode client.id) way client.name
  owns-client client m way port q w = (
    λ e. bytes_same (client_part port.name) client.name (sym at ∙ ap (λ node. same_id_node node (ClientNode client.id)) (node-one port.node (ClientNode client.id) e) ∙ same_id_node-self (ClientNode client.id)),
    λ e. ap node_number (same_id_node-is port.node (ClientNode client.id) (at ∙ (bytes_decides (client_part port.name) client.name).1 e)),
  )
    where
      at : same_id_node port.node (ClientNode client.id) ≡ bytes_eq (client_part port.name) client.name
      at = at_client plan.network.held p.network.registered client (p.listed client m) (others plan p client m) port q

  low-id : (client : Client) → Contains plan.nodes client → client.id.0 ≤ 64
  low-id client m = p.network.registered.client_ids_within client (p.listed client m)

  width-is : (client : Client) → Contains plan.nodes client → widths_by counts client ≡ widths_of (state_of plan.network) (open_client client)
  width-is client m = ap₂ made (count In (λ port. is_audio port && is_input port) audio_inputs-tell (omega (arith, low-id client m))) (count Out (λ port. is_audio port && not (is_input port)) audio_outputs-tell (omega (arith, low-id client m)))
    where
      made : ℕ → ℕ → Widths
      made inputs outputs = record { inputs = inputs; outputs = outputs }

      count : (way : Way) (test : OpenPort → Bool) → Tells test Audio way → number_in_class (ClientNode client.id) Audio way < 268
          → get_or counts (number_in_class (ClientNode client.id) Audio way) 0 ≡ length (filter test (filter (λ (port : OpenPort). bytes_eq (client_part port.name) client.name) (open_ports plan.network.held.ports)))
      count way test tells below =
          are (number_in_class (ClientNode client.id) Audio way) below
          ∙ sym (length-map (filter (in_class (number_in_class (ClientNode client.id) Audio way)) plan.network.held.ports) open_port)
          ∙ ap length (sym (own-ports plan.network.held p.network.registered (ClientNode client.id) Audio way client.name (owns-client client m way) test tells))

  pub widths-named : map (widths_by counts) plan.nodes ≡ map (widths_of (state_of_plan plan)) (open_clients plan.nodes)
  widths-named = go plan.nodes (λ c m. m) ∙ ap (λ s. map (widths_of s) (open_clients plan.nodes)) p.state
    where
      go : (some : List Client) → ((c : Client) → Contains some c → Contains plan.nodes c) → map (widths_by counts) some ≡ map (widths_of (state_of plan.network)) (open_clients some)
      go [] among = refl
      go (c ∷ some) among = ap₂ (λ w ws. w ∷ ws) (width-is c (among c (Contains-first c some))) (go some (λ x m. among x (Contains-later c x some m)))

pub low-client : (plan : Planned) → IsPlanned plan → (clients : List Client) → clients ≡ plan.nodes → (i : ℕ) (d : Client) → i < length clients → (get_or clients i d).id.0 ≤ 64
low-client plan p clients are i d h =
    p.network.registered.client_ids_within (get_or clients i d) (p.listed (get_or clients i d) (subst (λ cs. Contains cs (get_or clients i d)) are (i, h, get_or_default clients i (get_or clients i d) d h)))
