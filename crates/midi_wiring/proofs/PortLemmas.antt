-- Ports and edges of a plan by their ids are what the definitions see of them.
--     given-step, joint-step      which MIDI output a port is, and which connection an edge is
--     widths-named      how many MIDI inputs and outputs the nodes' clients have
use Rattle.std.proofs.Common.{◌≡◌, ℕ, ◌<◌, ◌≤◌, Bool, true, false, cond, not, ◌&&◌, ◌==◌, All, List, [], ◌∷◌, count_by, length, map, filter, get_or, position, take, Contains, Option, Some, None, refl, sym, ◌∙◌, ap, ap₂, subst, arith, true≢false, eq-eqb, eqb-true}
use Rattle.std.specs.List.{position_or_len}
use Rattle.std.specs.Option.{option_map, option_map_or}
use Rattle.std.specs.Str.{bytes_eq}
use Rattle.std.proofs.lemmas.List.{get_or_default, length-map}
use Rattle.std.proofs.lemmas.List.Quantifiers.{position-Some}
use Rattle.std.proofs.lemmas.List.Sums.{length-filter}
use Rattle.std.proofs.lemmas.List.Sorted.{Contains-permutation, IsPermutation-sym}
use Rattle.jack_types.specs.Names.{client_part}
use Rattle.jack_types.specs.declared.ports.Client.{Client}
use Rattle.jack_types.specs.declared.ports.Edge.{Edge}
use Rattle.jack_types.specs.declared.ports.Node.TheVariants.{Client as ClientNode}
use Rattle.jack_types.specs.declared.ports.Port.{Port}
use Rattle.jack_types.specs.declared.ports.PortId.{PortId}
use Rattle.jack_types.specs.declared.ports.PortKind.{PortKind}
use Rattle.jack_types.specs.declared.ports.PortKind.TheVariants.{Audio, Midi}
use Rattle.jack_types.specs.declared.ports.Way.{Way}
use Rattle.jack_types.specs.declared.ports.Way.TheVariants.{In, Out}
use Rattle.session_model.specs.Benches.{place_in, port_place}
use Rattle.session_model.specs.Commands.{is_audio, is_input, ports_of}
use Rattle.session_model.specs.Courses.{players}
use Rattle.session_model.specs.Cycles.{midi_inputs}
use Rattle.session_model.specs.Ids.{connection, name_with, open_port, open_ports, same_id_node, way_of}
use Rattle.session_model.specs.Soundness.{Apart}
use Rattle.session_model.specs.State.{OpenClient, OpenPort, is_system, port_named}
use Rattle.session_laws.proofs.CycleLemmas.{bytes_same, filter-passes}
use Rattle.session_laws.proofs.ListLemmas.{filter-twice}
use Rattle.session_laws.proofs.LoopLemmas.{Contains-first, Contains-later, and_parts}
use Rattle.session_laws.proofs.PlaceLemmas.{filter-contains, filter-keeps, position-found}
use Rattle.session_laws.proofs.PlanLemmas.{Distinct-from_Apart, find-one}
use Rattle.session_laws.proofs.SoundLemmas.{Apart-same, contains-map, map-contains}
use Rattle.connection_set.specs.Connections.{IsIdOf, no_edge}
use Rattle.feedback_edges.specs.Marking.{AreAmong, IsEndOf}
use Rattle.feedback_edges.proofs.NameLemmas.{same_id_node-is}
use Rattle.port_registry.specs.Registered.{IsRegistered, open_client, open_clients, system_entry}
use Rattle.client_wiring.specs.cycle_plan.specs.Graphs.{state_of}
use Rattle.client_wiring.specs.cycle_plan.specs.Plans.{IsPlanned, Planned, state_of_plan}
use Rattle.client_wiring.specs.cycle_plan.proofs.NetworkLemmas.{AreAmong-network, at_client, bool-same, fails}
use Rattle.client_wiring.specs.Tables.{node_place}
use Rattle.midi_wiring.specs.declared.joints.MidiFrom.{MidiFrom}
use Rattle.midi_wiring.specs.declared.joints.MidiWidths.{MidiWidths}
use Rattle.midi_wiring.specs.Ends.{IsPortAt, from_by, given_from, given_with, is_midi_by, is_midi_of, joint_from, joint_with, widths_by}
use Rattle.midi_wiring.specs.Wirings.{midi_from, midi_from_of, midi_given_at, midi_given_of, midi_joint_into, midi_joint_of, midi_widths_of}
use Rattle.client_wiring.proofs.ListLemmas.{few-below, place-map, position-called, stands}
use lib.Pointwise.{bytes_decides}

pub bytes-turned : (a b : List ℕ) → bytes_eq a b ≡ bytes_eq b a
bytes-turned a b = bool-same (bytes_eq a b) (bytes_eq b a) (λ t. (bytes_decides b a).1 (sym (bytes_same a b t))) (λ t. (bytes_decides a b).1 (sym (bytes_same b a t)))

-- no place where none passes
pub position-nowhere : {X : Type 0} (test : X → Bool) (xs : List X) → ((x : X) → Contains xs x → test x ≡ true → ⊥) → position test xs ≡ None
position-nowhere {X} test xs h = go (position test xs) refl
  where
    filled : (ys : List X) → ((x : X) → Contains ys x → test x ≡ true → ⊥) → (i : ℕ) → position test ys ≡ Some i → ⊥
    filled [] k i e = absurd (nothing e)
      where
        nothing : None ≡ Some i → ⊥
        nothing p = cc
    filled (y ∷ ys) k i e =
        let w = position-Some test (y ∷ ys) i y e in
        k (get_or (y ∷ ys) i y) (i, w.0, get_or_default (y ∷ ys) i (get_or (y ∷ ys) i y) y w.0) w.1

    go : (o : Option ℕ) → position test xs ≡ o → position test xs ≡ None
    go None e = e
    go (Some i) e = absurd (filled xs h i e)

-- the tests of `midi_inputs` and of `midi_outputs`
abbrev is_midi_way : Way → OpenPort → Bool
is_midi_way In port = not (is_audio port) && is_input port
is_midi_way Out port = not (is_audio port) && not (is_input port)

midi-is : (way : Way) (kind : PortKind) (w : Way) (name : List ℕ) (birth : ℕ) → is_midi_by way kind w ≡ is_midi_way way (record { name = name; way = w; kind = kind; birth = birth })
midi-is In Audio In name birth = refl
midi-is In Audio Out name birth = refl
midi-is In Midi In name birth = refl
midi-is In Midi Out name birth = refl
midi-is Out Audio In name birth = refl
midi-is Out Audio Out name birth = refl
midi-is Out Midi In name birth = refl
midi-is Out Midi Out name birth = refl

given-is : (birth : ℕ) (name : List ℕ) (kind : PortKind) (way : Way) (node : Option ℕ)
    → given_with birth kind way node
    ≡ cond (not (is_audio (record { name = name; way = way; kind = kind; birth = birth })) && not (is_input (record { name = name; way = way; kind = kind; birth = birth }))) (option_map (midi_given_at birth) node) None
given-is birth name Audio In None = refl
given-is birth name Audio In (Some n) = refl
given-is birth name Audio Out None = refl
given-is birth name Audio Out (Some n) = refl
given-is birth name Midi In None = refl
given-is birth name Midi In (Some n) = refl
given-is birth name Midi Out None = refl
given-is birth name Midi Out (Some n) = refl

module _ (plan : Planned) (p : IsPlanned plan) where
  registered : IsRegistered plan.network.held
  registered = p.network.registered

  -- a node is no device
  others : (client : Client) → Contains plan.nodes client → is_system client.name ≡ false
  others client m = untrue (is_system client.name) (and_parts client.active (not (is_system client.name)) passes).1
    where
      plays : OpenClient → Bool
      plays c = c.active && not (is_system c.name)

      among : Contains (players (state_of_plan plan)) (open_client client)
      among = Contains-permutation (open_clients plan.nodes) (players (state_of_plan plan)) (open_client client) (IsPermutation-sym (players (state_of_plan plan)) (open_clients plan.nodes) p.moved) (map-contains open_client plan.nodes client m)

      passes : (client.active && not (is_system client.name)) ≡ true
      passes = filter-passes plays (state_of_plan plan).clients (open_client client) among

      untrue : (b : Bool) → not b ≡ true → b ≡ false
      untrue true e = absurd (true≢false (sym e))
      untrue false e = refl

  -- a port is at a client's node exactly where its name says so
  at-client : (client : Client) → Contains plan.nodes client → (port : Port) → Contains plan.network.held.ports port → same_id_node port.node (ClientNode client.id) ≡ bytes_eq (client_part port.name) client.name
  at-client client m port q = at_client plan.network.held registered client (p.listed client m) (others client m) port q

  -- the node of a port, by ids and by names
  node-named : (port : Port) → Contains plan.network.held.ports port → node_place plan.nodes port.node ≡ place_in (open_clients plan.nodes) (client_part port.name)
  node-named port q =
      position-called (λ (client : OpenClient). bytes_eq client.name (client_part port.name)) (λ (client : Client). same_id_node port.node (ClientNode client.id)) open_client plan.nodes
      (λ client m. at-client client m port q ∙ bytes-turned (client_part port.name) client.name)

  -- the MIDI ports of a node's client, by names and by its node
  own-ports : (client : Client) → Contains plan.nodes client → (way : Way)
      → filter (is_midi_way way) (filter (λ (port : OpenPort). bytes_eq (client_part port.name) client.name) (open_ports plan.network.held.ports)) ≡ open_ports (filter (is_midi_of (ClientNode client.id) way) plan.network.held.ports)
  own-ports client m way = filter-twice (is_midi_way way) (λ (port : OpenPort). bytes_eq (client_part port.name) client.name) (open_ports plan.network.held.ports) ∙ called plan.network.held.ports (λ a k. k)
    where
      test : OpenPort → Bool
      test port = bytes_eq (client_part port.name) client.name && is_midi_way way port

      test-is : (a : Port) → Contains plan.network.held.ports a → test (open_port a) ≡ is_midi_of (ClientNode client.id) way a
      test-is a k = ap₂ (λ b c. b && c) (sym (at-client client m a k)) (sym (midi-is way a.kind (way_of a) a.name a.birth))

      called : (some : List Port) → ((a : Port) → Contains some a → Contains plan.network.held.ports a) → filter test (open_ports some) ≡ open_ports (filter (is_midi_of (ClientNode client.id) way) some)
      called [] among = refl
      called (a ∷ some) among = go (test (open_port a)) (is_midi_of (ClientNode client.id) way a) (test-is a (among a (Contains-first a some))) (called some (λ b k. among b (Contains-later a b some k)))
        where
          go : (b c : Bool) → b ≡ c → filter test (open_ports some) ≡ open_ports (filter (is_midi_of (ClientNode client.id) way) some)
              → cond b (open_port a ∷ filter test (open_ports some)) (filter test (open_ports some))
              ≡ open_ports (cond c (a ∷ filter (is_midi_of (ClientNode client.id) way) some) (filter (is_midi_of (ClientNode client.id) way) some))
          go true true e rest = ap (λ ports. open_port a ∷ ports) rest
          go false false e rest = rest
          go true false e rest = absurd (true≢false e)
          go false true e rest = absurd (true≢false (sym e))

  -- a port of its name is that one
  named-one : (port : Port) → Contains plan.network.held.ports port → (other : OpenPort) → Contains (open_ports plan.network.held.ports) other → other.name ≡ port.name → other ≡ open_port port
  named-one port q other m e =
      let w = contains-map open_port plan.network.held.ports other m in
      sym w.2 ∙ ap open_port (Apart-same (λ (a : Port). a.name) plan.network.held.ports w.0 port registered.port_names w.1 q (ap (λ (a : OpenPort). a.name) w.2 ∙ e))

  -- an audio port is no MIDI input
  input-none : (port : Port) → Contains plan.network.held.ports port → port.kind ≡ Audio → port_place (midi_inputs (state_of plan.network) (client_part port.name)) port.name ≡ None
  input-none port q f = position-nowhere (λ (other : OpenPort). bytes_eq other.name port.name) (midi_inputs (state_of plan.network) (client_part port.name)) here
    where
      failing : is_midi_way In (open_port port) ≡ false
      failing = sym (midi-is In port.kind (way_of port) port.name port.birth) ∙ ap (λ k. is_midi_by In k (way_of port)) f ∙ none (way_of port)
        where
          none : (w : Way) → is_midi_by In Audio w ≡ false
          none In = refl
          none Out = refl

      here : (other : OpenPort) → Contains (midi_inputs (state_of plan.network) (client_part port.name)) other → bytes_eq other.name port.name ≡ true → ⊥
      here other m t =
          let inside = filter-contains (is_midi_way In) (ports_of (state_of plan.network) (client_part port.name)) other m in
          let one : other ≡ open_port port = named-one port q other (filter-contains (λ (o : OpenPort). bytes_eq (client_part o.name) (client_part port.name)) (open_ports plan.network.held.ports) other inside) (bytes_same other.name port.name t) in
          true≢false (sym (filter-passes (is_midi_way In) (ports_of (state_of plan.network) (client_part port.name)) other m) ∙ ap (is_midi_way In) one ∙ failing)

  -- a MIDI input of a node stands behind those before it
  input-is : (index : ℕ) (port : Port) → index < length plan.network.held.ports → get_or plan.network.held.ports index port ≡ port → (n : ℕ) → node_place plan.nodes port.node ≡ Some n → port.kind ≡ Midi → way_of port ≡ In
      → port_place (midi_inputs (state_of plan.network) (client_part port.name)) port.name ≡ Some (count_by (is_midi_of port.node In) (take index plan.network.held.ports))
  input-is index port within there n at f into =
      position-found is_it (midi_inputs (state_of plan.network) (client_part port.name)) (open_port port) among ((bytes_decides port.name port.name).1 refl)
      ∙ ap Some
      (ap (λ name. position_or_len is_it (filter (is_midi_way In) (filter (λ (o : OpenPort). bytes_eq (client_part o.name) name) (open_ports plan.network.held.ports)))) (sym named)
      ∙ ap (position_or_len is_it) (own-ports client known In)
      ∙ place-map is_it open_port (filter (is_midi_of (ClientNode client.id) In) plan.network.held.ports)
      ∙ stands (λ (a : Port). bytes_eq a.name port.name) (is_midi_of (ClientNode client.id) In) plan.network.held.ports index port within there passes ((bytes_decides port.name port.name).1 refl) first
      ∙ length-filter (is_midi_of (ClientNode client.id) In) (take index plan.network.held.ports)
      ∙ ap (λ node. count_by (is_midi_of node In) (take index plan.network.held.ports)) (sym same))
    where
      listed : Contains plan.network.held.ports port
      listed = (index, within, there)

      is_it : OpenPort → Bool
      is_it other = bytes_eq other.name port.name

      client : Client
      client = get_or plan.nodes n system_entry

      place : (n < length plan.nodes) × (same_id_node port.node (ClientNode (get_or plan.nodes n system_entry).id) ≡ true) × ((k : ℕ) → k < n → same_id_node port.node (ClientNode (get_or plan.nodes k system_entry).id) ≡ false)
      place = position-Some (λ (c : Client). same_id_node port.node (ClientNode c.id)) plan.nodes n system_entry at

      known : Contains plan.nodes (get_or plan.nodes n system_entry)
      known = (n, place.0, get_or_default plan.nodes n (get_or plan.nodes n system_entry) system_entry place.0)

      same : port.node ≡ ClientNode (get_or plan.nodes n system_entry).id
      same = same_id_node-is port.node (ClientNode client.id) place.1

      named : (get_or plan.nodes n system_entry).name ≡ client_part port.name
      named = sym (bytes_same (client_part port.name) client.name (sym (at-client client known port listed) ∙ place.1))

      midi : is_midi_by In port.kind (way_of port) ≡ true
      midi = ap₂ (is_midi_by In) f into

      passes : is_midi_of (ClientNode (get_or plan.nodes n system_entry).id) In port ≡ true
      passes = ap₂ (λ b c. b && c) place.1 midi

      among : Contains (midi_inputs (state_of plan.network) (client_part port.name)) (open_port port)
      among =
          filter-keeps (is_midi_way In) (ports_of (state_of plan.network) (client_part port.name)) (open_port port)
          (filter-keeps (λ (o : OpenPort). bytes_eq (client_part o.name) (client_part port.name)) (open_ports plan.network.held.ports) (open_port port) (map-contains open_port plan.network.held.ports port listed) ((bytes_decides (client_part port.name) (client_part port.name)).1 refl))
          (sym (midi-is In port.kind (way_of port) port.name port.birth) ∙ midi)

      first : (j : ℕ) → j < index → bytes_eq (get_or plan.network.held.ports j port).name port.name ≡ false
      first j less = fails (bytes_eq (get_or plan.network.held.ports j port).name port.name) twice
        where
          twice : bytes_eq (get_or plan.network.held.ports j port).name port.name ≡ true → ⊥
          twice t =
              let one : j ≡ index = Distinct-from_Apart (λ (a : Port). a.name) plan.network.held.ports registered.port_names j index port (omega (arith, less, within)) within
              (bytes_same (get_or plan.network.held.ports j port).name port.name t ∙ sym (ap (λ (a : Port). a.name) there)) in
              omega (arith, less, one)

  -- an end of an edge
  module _ (id : PortId) (index : ℕ) (e : IsPortAt plan.network.held.ports id index) where
    listed : Contains plan.network.held.ports e.port
    listed = (index, e.within, e.there)

    name-is : name_with plan.network.held.ports id ≡ e.port.name
    name-is =
        ap (λ o. option_map_or (λ (port : Port). port.name) o [])
        (find-one (λ (port : Port). port.id.0 == id.0) plan.network.held.ports e.port listed (eq-eqb e.port.id.0 id.0 e.its_id)
        (λ other n t. Apart-same (λ (port : Port). port.id.0) plan.network.held.ports other e.port registered.port_ids n listed (eqb-true other.id.0 id.0 t ∙ sym e.its_id)))

    way-is : (way : Way) → IsEndOf plan.network.held.ports way id → way_of e.port ≡ way
    way-is way w = ap way_of (Apart-same (λ (port : Port). port.id.0) plan.network.held.ports e.port w.0 registered.port_ids listed w.1 (e.its_id ∙ sym w.2)) ∙ w.3

    node-is : node_place plan.nodes e.port.node ≡ place_in (open_clients plan.nodes) (client_part (name_with plan.network.held.ports id))
    node-is = node-named e.port listed ∙ ap (λ n. place_in (open_clients plan.nodes) (client_part n)) (sym name-is)

    birth-is : e.port.birth ≡ option_map_or (λ (port : OpenPort). port.birth) (port_named (state_of plan.network) (name_with plan.network.held.ports id)) 0
    birth-is = sym (ap (λ o. option_map_or (λ (port : OpenPort). port.birth) o 0) (ap (port_named (state_of plan.network)) name-is ∙ there))
      where
        there : port_named (state_of plan.network) e.port.name ≡ Some (open_port e.port)
        there =
            find-one (λ (other : OpenPort). bytes_eq other.name e.port.name) (open_ports plan.network.held.ports) (open_port e.port) (map-contains open_port plan.network.held.ports e.port listed)
            ((bytes_decides e.port.name e.port.name).1 refl)
            (λ other n t. named-one e.port listed other n (bytes_same other.name e.port.name t))

  -- an edge by its ends
  joint-named : (edge : Edge) → Contains plan.network.set.edges edge → (i k : ℕ) (s : IsPortAt plan.network.held.ports edge.source i) (d : IsPortAt plan.network.held.ports edge.destination k)
      → joint_from plan.nodes (take k plan.network.held.ports) s.port d.port edge.mark ≡ midi_joint_of (state_of plan.network) (open_clients plan.nodes) (connection plan.network.held.ports edge)
  joint-named edge m i k s d =
      ap (λ from. joint_with from its_input d.port.kind (node_place plan.nodes d.port.node)) from-is
      ∙ go d.port.kind (node_place plan.nodes d.port.node) refl refl
      ∙ ap (λ node. midi_joint_into from node its_place) (node-is edge.destination k d)
    where
      from : MidiFrom
      from = midi_from_of (state_of plan.network) (open_clients plan.nodes) (connection plan.network.held.ports edge)

      its_input : ℕ
      its_input = count_by (is_midi_of d.port.node In) (take k plan.network.held.ports)

      its_place : Option ℕ
      its_place = port_place (midi_inputs (state_of plan.network) (client_part (name_with plan.network.held.ports edge.destination))) (name_with plan.network.held.ports edge.destination)

      from-is : from_by plan.nodes s.port edge.mark ≡ midi_from_of (state_of plan.network) (open_clients plan.nodes) (connection plan.network.held.ports edge)
      from-is = ap₂ (λ birth node. midi_from birth edge.mark node) (birth-is edge.source i s) (node-is edge.source i s)

      by-name : port_place (midi_inputs (state_of plan.network) (client_part (name_with plan.network.held.ports edge.destination))) (name_with plan.network.held.ports edge.destination)
          ≡ port_place (midi_inputs (state_of plan.network) (client_part d.port.name)) d.port.name
      by-name = ap (λ n. port_place (midi_inputs (state_of plan.network) (client_part n)) n) (name-is edge.destination k d)

      go : (kind : PortKind) (node : Option ℕ) → d.port.kind ≡ kind → node_place plan.nodes d.port.node ≡ node → joint_with from its_input kind node ≡ midi_joint_into from node its_place
      go Audio None f g = refl
      go Midi None f g = refl
      go Audio (Some n) f g = sym (ap (midi_joint_into from (Some n)) (by-name ∙ input-none d.port (listed edge.destination k d) f))
      go Midi (Some n) f g =
          sym (ap (midi_joint_into from (Some n)) (by-name ∙ input-is k d.port d.within d.there n g f (way-is edge.destination k d In (p.network.ends.destinations edge m))))

  -- a port that is a MIDI output of a node
  given-named : (port : Port) → Contains plan.network.held.ports port → given_from plan.nodes port ≡ midi_given_of (open_clients plan.nodes) (open_port port)
  given-named port q = ap (given_with port.birth port.kind (way_of port)) (node-named port q) ∙ given-is port.birth port.name port.kind (way_of port) (place_in (open_clients plan.nodes) (client_part port.name))

  -- the widths of a node's client
  width-is : (client : Client) → Contains plan.nodes client → widths_by plan.network.held.ports client ≡ midi_widths_of (state_of plan.network) (open_client client)
  width-is client m = ap₂ made (count In) (count Out)
    where
      made : ℕ → ℕ → MidiWidths
      made inputs outputs = record { inputs = inputs; outputs = outputs }

      count : (way : Way) → count_by (is_midi_of (ClientNode client.id) way) plan.network.held.ports
          ≡ length (filter (is_midi_way way) (filter (λ (port : OpenPort). bytes_eq (client_part port.name) client.name) (open_ports plan.network.held.ports)))
      count way =
          sym (length-filter (is_midi_of (ClientNode client.id) way) plan.network.held.ports)
          ∙ sym (length-map (filter (is_midi_of (ClientNode client.id) way) plan.network.held.ports) open_port)
          ∙ ap length (sym (own-ports client m way))

  pub widths-named : map (widths_by plan.network.held.ports) plan.nodes ≡ map (midi_widths_of (state_of_plan plan)) (open_clients plan.nodes)
  widths-named = go plan.nodes (λ c m. m) ∙ ap (λ s. map (midi_widths_of s) (open_clients plan.nodes)) p.state
    where
      go : (some : List Client) → ((c : Client) → Contains some c → Contains plan.nodes c) → map (widths_by plan.network.held.ports) some ≡ map (midi_widths_of (state_of plan.network)) (open_clients some)
      go [] among = refl
      go (c ∷ some) among = ap₂ (λ w ws. w ∷ ws) (width-is c (among c (Contains-first c some))) (go some (λ x m. among x (Contains-later c x some m)))

-- one port of a plan's, told by the plan's calls
pub given-step : (plan : Planned) (p : IsPlanned plan) (ports : List Port) (clients : List Client) → ports ≡ plan.network.held.ports → clients ≡ plan.nodes
    → (i : ℕ) (port : Port) → i < length ports → port ≡ get_or ports i port
    → given_from clients port ≡ midi_given_of (open_clients plan.nodes) (open_port (get_or plan.network.held.ports i port))
given-step plan p ports clients ports_are clients_are i port h is =
    ap (λ cs. given_from cs port) clients_are
    ∙ given-named plan p port (i, subst (λ (ps : List Port). i < length ps) ports_are h, there)
    ∙ ap (λ q. midi_given_of (open_clients plan.nodes) (open_port q)) (sym there)
  where
    there : get_or plan.network.held.ports i port ≡ port
    there = ap (λ (ps : List Port). get_or ps i port) (sym ports_are) ∙ sym is

-- one edge of a plan's, told by the plan's calls
pub joint-step : (plan : Planned) (p : IsPlanned plan) (ports : List Port) (clients : List Client) (edges : List Edge) → ports ≡ plan.network.held.ports → clients ≡ plan.nodes → edges ≡ plan.network.set.edges
    → (i : ℕ) → i < length edges → (a b : ℕ) (source destination : Port) → IsPortAt ports (get_or edges i no_edge).source a → IsPortAt ports (get_or edges i no_edge).destination b
    → source ≡ get_or ports a source → destination ≡ get_or ports b destination
    → joint_from clients (take b ports) source destination (get_or edges i no_edge).mark
    ≡ midi_joint_of (state_of plan.network) (open_clients plan.nodes) (connection plan.network.held.ports (get_or plan.network.set.edges i no_edge))
joint-step plan p ports clients edges ports_are clients_are edges_are i h a b source destination s d is_source is_destination =
    ap₂ (λ x y. joint_from clients (take b ports) x y edge.mark) (one source a s.port s.within is_source s.there) (one destination b d.port d.within is_destination d.there)
    ∙ ap (λ cs. joint_from cs (take b ports) s.port d.port edge.mark) clients_are
    ∙ ap (λ (ps : List Port). joint_from plan.nodes (take b ps) s.port d.port edge.mark) ports_are
    ∙ joint-named plan p edge listed a b (moved edge.source a s) (moved edge.destination b d)
    ∙ ap (λ (es : List Edge). midi_joint_of (state_of plan.network) (open_clients plan.nodes) (connection plan.network.held.ports (get_or es i no_edge))) edges_are
  where
    edge : Edge
    edge = get_or edges i no_edge

    listed : Contains plan.network.set.edges (get_or edges i no_edge)
    listed = subst (λ (es : List Edge). Contains es (get_or edges i no_edge)) edges_are (i, h, get_or_default edges i (get_or edges i no_edge) no_edge h)

    one : (x : Port) (k : ℕ) (y : Port) → k < length ports → x ≡ get_or ports k x → get_or ports k y ≡ y → x ≡ y
    one x k y within is there = is ∙ get_or_default ports k x y within ∙ there

    moved : (id : PortId) (k : ℕ) (e : IsPortAt ports id k) → IsPortAt plan.network.held.ports id k
    moved id k e = record {
      port = e.port;
      within = subst (λ (ps : List Port). k < length ps) ports_are e.within;
      there = subst (λ (ps : List Port). get_or ps k e.port ≡ e.port) ports_are e.there;
      its_id = e.its_id;
    }

-- the ports of a plan's edges
module _ (plan : Planned) (p : IsPlanned plan) (ports : List Port) (ports_are : ports ≡ plan.network.held.ports) where
  among-is : AreAmong plan.network.held.ports plan.network.set.edges
  among-is = AreAmong-network plan.network.held p.network.registered plan.network.set.edges p.network.ends

  pub ids-low : All (λ (port : Port). port.id.0 < 2064) ports
  ids-low = subst (All (λ (port : Port). port.id.0 < 2064)) (sym ports_are) among-is.ids

  pub ids-apart : Apart (λ (port : Port). port.id.0) ports
  ids-apart = subst (Apart (λ (port : Port). port.id.0)) (sym ports_are) p.network.registered.port_ids

  pub ports-few : length ports ≤ 2064
  ports-few = few-below ports 2064 ids-apart (λ port m. let w = ids-low m.0 port m.1 in subst (λ (q : Port). q.id.0 < 2064) m.2 w)

  module _ (edges : List Edge) (edges_are : edges ≡ plan.network.set.edges) (i : ℕ) (h : i < length edges) where
    listed-edge : Contains plan.network.set.edges (get_or edges i no_edge)
    listed-edge = subst (λ es. Contains es (get_or edges i no_edge)) edges_are (i, h, get_or_default edges i (get_or edges i no_edge) no_edge h)

    pub source-listed : IsIdOf ports (get_or edges i no_edge).source
    source-listed = subst (λ ps. IsIdOf ps (get_or edges i no_edge).source) (sym ports_are) (among-is.sources (get_or edges i no_edge) listed-edge)

    pub destination-listed : IsIdOf ports (get_or edges i no_edge).destination
    destination-listed = subst (λ ps. IsIdOf ps (get_or edges i no_edge).destination) (sym ports_are) (among-is.destinations (get_or edges i no_edge) listed-edge)
