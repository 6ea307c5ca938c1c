-- A network as `latency_ranges` asks for it.
--     IsGraph-network      its ports and edges
--     IsStateOf-network      its state, with the delays of its clients
--     delays-short, ports-few      the numbers are small
--     told-at, told-none      the range at the place of a name
--     reply-told, reply-no_port, after-told      a question for a latency
use Rattle.std.proofs.Common.{◌≡◌, ℕ, ◌<◌, ◌≤◌, Bool, true, false, cond, ◌==◌, List, [], ◌∷◌, length, map, find, position, get_or, slice_get, take, All, Option, Some, None, is_none, Contains, refl, sym, ◌∙◌, ap, ap₂, subst, arith, true≢false, eq-eqb, eqb-true, ne_eqb, eqb, ◌⊎◌, inl, inr}
use Rattle.std.specs.Option.{option_map, option_map_or}
use Rattle.std.specs.List.{AllByRecursion, IsDistinct, list_any}
use Rattle.std.specs.Str.{bytes_eq}
use Rattle.std.proofs.lemmas.Map.Steps.{length-le_from_distinct_below}
use Rattle.std.proofs.lemmas.List.{get_or-map, get_or-take}
use Rattle.std.proofs.lemmas.List.Elements.{All-cons, All-head, All-tail}
use Rattle.std.proofs.lemmas.Option.{get_or_from_slice_get, slice_get_within}
use lib.ListN.{length-map}
use lib.Pointwise.{bytes_decides}
use Rattle.jack_types.specs.Names.{client_part}
use Rattle.jack_types.specs.declared.commands.Command.TheVariants.{Latency}
use Rattle.jack_types.specs.declared.ports.Client.{Client}
use Rattle.jack_types.specs.declared.ports.Delay.{Delay}
use Rattle.jack_types.specs.declared.ports.Edge.{Edge}
use Rattle.jack_types.specs.declared.ports.Mode.{Mode}
use Rattle.jack_types.specs.declared.ports.Node.{Node}
use Rattle.jack_types.specs.declared.ports.Node.TheVariants.{Client as ClientNode}
use Rattle.jack_types.specs.declared.ports.Port.{Port}
use Rattle.jack_types.specs.declared.ports.Range.{Range}
use Rattle.jack_types.specs.declared.ports.Way.{Way}
use Rattle.jack_types.specs.declared.ports.Way.TheVariants.{In, Out}
use Rattle.jack_types.specs.declared.replies.Refusal.TheVariants.{NoPort}
use Rattle.jack_types.specs.declared.replies.Reply.TheVariants.{Refused, Latency as Told}
use Rattle.session_model.specs.Commands.{after, refusal}
use Rattle.session_model.specs.Ids.{delay_at, open_port, same_id_node, way_of}
use Rattle.session_model.specs.Latencies.{delay_in, delay_of_kind, latency, no_range}
use Rattle.session_model.specs.Replies.{reply, reply_by}
use Rattle.session_model.specs.Soundness.{Apart}
use Rattle.session_model.specs.State.{OpenClient, OpenPort, State, is_system, port_named}
use Rattle.session_laws.proofs.CycleLemmas.{bytes_same}
use Rattle.session_laws.proofs.LoopLemmas.{Contains-first, Contains-later, or_cases}
use Rattle.session_laws.proofs.PlanLemmas.{find-one}
use Rattle.session_laws.proofs.SoundLemmas.{Apart-same}
use Rattle.session_laws.proofs.FilterLemmas.{find-map_after}
use Rattle.cycle_plan.specs.port_registry.proofs.PlaceLemmas.{position-at, position-at-some, position-find, position-find_none}
use Rattle.cycle_plan.specs.port_registry.specs.Registered.{IsPlaced, IsRegistered, Registered, has_name, is_named, node_for, open_client, system_node}
use Rattle.latency_ranges.specs.Graphs.{IsGraph, IsStateOf, is_device, latencies_in}
use Rattle.cycle_plan.specs.Graphs.{IsNetwork, Network, state_of}
use Rattle.cycle_plan.proofs.NetworkLemmas.{client_named-is, same_node-placed}
use Rattle.graph_replies.specs.Told.{delay_of, latency_told}

node-device : (s : Bool) (w : Way) (node : Node) → is_device node ≡ false → is_device (cond s (system_node w) node) ≡ s
node-device true In node h = refl
node-device true Out node h = refl
node-device false w node h = h

-- ---- ids of ports

abbrev id_of : Port → ℕ
id_of port = port.id.0

distinct-ids : (ports : List Port) → Apart id_of ports → IsDistinct eqb (map id_of ports)
unfolding IsDistinct
distinct-ids [] h = tt
distinct-ids (port ∷ ports) h = (others ports (λ other m. h.0 other m), distinct-ids ports h.1)
  where
    others : (ps : List Port) → ((other : Port) → Contains ps other → port.id.0 ≡ other.id.0 → ⊥) → AllByRecursion (λ n. eqb port.id.0 n ≡ false) (map id_of ps)
    others [] f = tt
    others (p ∷ ps) f = (ne_eqb port.id.0 p.id.0 (f p (Contains-first p ps)), others ps (λ other m. f other (Contains-later p other ps m)))

ids-below : (ports : List Port) → ((port : Port) → Contains ports port → port.id.0 < 2064) → (q : ℕ) → list_any (eqb q) (map id_of ports) ≡ true → q < 2064
ids-below [] f q e = absurd (true≢false (sym e))
ids-below (port ∷ ports) f q e = go (or_cases (eqb q port.id.0) (list_any (eqb q) (map id_of ports)) e) (λ t. ids-below ports (λ other m. f other (Contains-later port other ports m)) q t)
  where
    go : (eqb q port.id.0 ≡ true) ⊎ (list_any (eqb q) (map id_of ports) ≡ true) → (list_any (eqb q) (map id_of ports) ≡ true → q < 2064) → q < 2064
    go (inl t) rest = subst (λ n. n < 2064) (sym (eqb-true q port.id.0 t)) (f port (Contains-first port ports))
    go (inr t) rest = rest t

module _ (network : Network) (is : IsNetwork network) where
  devices : (port : Port) → Contains network.held.ports port → is_device port.node ≡ is_system (client_part port.name)
  devices port m =
      let one : IsPlaced network.held.clients port = is.registered.placed port m in
      ap is_device one.noded ∙ node-device (is_system one.client.name) (way_of port) (ClientNode one.client.id) refl ∙ ap is_system one.named

  graph-here : IsGraph network.held.ports network.set.edges
  graph-here = record {
    ids = is.registered.port_ids;
    names = is.registered.port_names;
    devices = devices;
    nodes = same_node-placed network.held is.registered;
    sources = is.ends.sources;
    destinations = is.ends.destinations;
  }

  pub IsGraph-network : (ports : List Port) (edges : List Edge) → ports ≡ network.held.ports → edges ≡ network.set.edges → IsGraph ports edges
  IsGraph-network ports edges p q = subst (λ ps. IsGraph ps edges) (sym p) (subst (IsGraph network.held.ports) (sym q) graph-here)

  -- the delay at a client's node
  delay-client : (client : Client) → Contains network.held.clients client → delay_at (map delay_of network.held.clients) (ClientNode client.id) ≡ delay_of_kind client.kind
  delay-client client m =
      delays network.held.clients
      ∙ ap (λ (o : Option Client). option_map_or (λ (c : Client). delay_of_kind c.kind) o 0)
      (find-one (λ (c : Client). c.id.0 == client.id.0) network.held.clients client m (eq-eqb client.id.0 client.id.0 refl)
      (λ other k t. Apart-same (λ (c : Client). c.id.0) network.held.clients other client is.registered.client_ids k m (eqb-true other.id.0 client.id.0 t)))
    where
      delays : (clients : List Client) → delay_at (map delay_of clients) (ClientNode client.id) ≡ option_map_or (λ (c : Client). delay_of_kind c.kind) (find (λ (c : Client). c.id.0 == client.id.0) clients) 0
      delays [] = refl
      delays (c ∷ clients) = go (c.id.0 == client.id.0) (delays clients)
        where
          go : (b : Bool) → delay_at (map delay_of clients) (ClientNode client.id) ≡ option_map_or (λ (d : Client). delay_of_kind d.kind) (find (λ (d : Client). d.id.0 == client.id.0) clients) 0
              → option_map_or (λ (delay : Delay). delay.frames) (cond b (Some (delay_of c)) (find (λ (delay : Delay). same_id_node delay.node (ClientNode client.id)) (map delay_of clients))) 0
              ≡ option_map_or (λ (d : Client). delay_of_kind d.kind) (cond b (Some c) (find (λ (d : Client). d.id.0 == client.id.0) clients)) 0
          go true e = refl
          go false e = e

  delay-name : (client : Client) → Contains network.held.clients client → delay_in (state_of network) client.name ≡ delay_of_kind client.kind
  delay-name client m =
      ap (λ (o : Option OpenClient). option_map_or (λ (found : OpenClient). delay_of_kind found.kind) o 0)
      (client_named-is network client.name
      ∙ ap (option_map open_client)
      (find-one (has_name client.name) network.held.clients client m ((bytes_decides client.name client.name).1 refl)
      (λ other k t. Apart-same (λ (c : Client). c.name) network.held.clients other client is.registered.client_names k m (bytes_same other.name client.name t))))

  delays-are : (port : Port) → Contains network.held.ports port → is_device port.node ≡ false → delay_in (state_of network) (client_part port.name) ≡ delay_at (map delay_of network.held.clients) port.node
  delays-are port m other =
      let one : IsPlaced network.held.clients port = is.registered.placed port m in
      ap (delay_in (state_of network)) (sym one.named) ∙ delay-name one.client one.listed ∙ sym (delay-client one.client one.listed)
      ∙ ap (delay_at (map delay_of network.held.clients)) (sym (here (is_system one.client.name) one (sym (devices port m ∙ ap is_system (sym one.named)) ∙ other) refl))
    where
      here : (s : Bool) (one : IsPlaced network.held.clients port) → is_system one.client.name ≡ false → is_system one.client.name ≡ s → port.node ≡ ClientNode one.client.id
      here s one away e = one.noded ∙ ap (λ b. cond b (system_node (way_of port)) (ClientNode one.client.id)) away

  state-here : (delays : List Delay) → delays ≡ map delay_of network.held.clients → IsStateOf (state_of network) network.held.ports network.set.edges delays
  state-here delays e = record {
    ports_are = refl;
    edges_are = refl;
    delays_are = λ port m other. delays-are port m other ∙ ap (λ ds. delay_at ds port.node) (sym e);
  }

  pub IsStateOf-network : (ports : List Port) (edges : List Edge) (delays : List Delay) → ports ≡ network.held.ports → edges ≡ network.set.edges → delays ≡ map delay_of network.held.clients → IsStateOf (state_of network) ports edges delays
  IsStateOf-network ports edges delays p q e = subst (λ ps. IsStateOf (state_of network) ps edges delays) (sym p) (subst (λ es. IsStateOf (state_of network) network.held.ports es delays) (sym q) (state-here delays e))

  pub ports-few : length network.held.ports ≤ 2064
  ports-few =
      let size : length (map id_of network.held.ports) ≡ length network.held.ports = length-map network.held.ports id_of in
      let few : length (map id_of network.held.ports) ≤ 2064 = length-le_from_distinct_below (map id_of network.held.ports) 2064 (distinct-ids network.held.ports is.registered.port_ids) (ids-below network.held.ports is.registered.port_ids_below) in
      omega (arith, size, few)

-- the range at a port's place
pub told-at : (network : Network) (mode : Mode) (name : List ℕ) (place : ℕ) (table : List Range) (d : Range) → position (is_named name) network.held.ports ≡ Some place
    → take (length network.held.ports) table ≡ latencies_in (state_of network) mode network.held.ports → Some (get_or table place d) ≡ latency_told (state_of network) mode name
told-at network mode name place table d at ranges =
    ap Some
    (sym (get_or-take (length ports) table place d low) ∙ ap (λ rs. get_or rs place d) ranges ∙ get_or-map (λ (p : Port). latency (state_of network) mode p.name) ports place port d low
    ∙ ap (λ (p : Port). latency (state_of network) mode p.name) same ∙ ap (latency (state_of network) mode) named)
    ∙ ap (option_map (λ (p : OpenPort). latency (state_of network) mode name)) (sym found)
  where
    ports : List Port
    ports = network.held.ports

    here : (x : Port) × (slice_get ports place ≡ Some x)
    here = position-at-some (is_named name) ports place at

    port : Port
    port = here.0

    low : place < length ports
    low = slice_get_within ports place port here.1

    same : get_or ports place port ≡ port
    same = get_or_from_slice_get ports place port port here.1

    named : port.name ≡ name
    named = bytes_same port.name name (ap (is_named name) (sym same) ∙ (position-at (is_named name) ports place port at).1)

    found : port_named (state_of network) name ≡ Some (open_port port)
    found = find-map_after open_port (λ (p : OpenPort). bytes_eq p.name name) ports ∙ ap (option_map open_port) (sym (position-find (is_named name) ports place at) ∙ here.1)

pub told-none : (network : Network) (mode : Mode) (name : List ℕ) → position (is_named name) network.held.ports ≡ None → latency_told (state_of network) mode name ≡ None
told-none network mode name none =
    ap (option_map (λ (p : OpenPort). latency (state_of network) mode name))
    (find-map_after open_port (λ (p : OpenPort). bytes_eq p.name name) network.held.ports ∙ ap (option_map open_port) (position-find_none (is_named name) network.held.ports none))

pub delays-short : (clients : List Client) (delays : List Delay) → delays ≡ map delay_of clients → All (λ (c : OpenClient). delay_of_kind c.kind ≤ 4096) (map open_client clients) → All (λ (delay : Delay). delay.frames ≤ 4096) delays
delays-short clients delays e h = subst (All (λ (delay : Delay). delay.frames ≤ 4096)) (sym e) (go clients h)
  where
    go : (cs : List Client) → All (λ (c : OpenClient). delay_of_kind c.kind ≤ 4096) (map open_client cs) → All (λ (delay : Delay). delay.frames ≤ 4096) (map delay_of cs)
    go [] q = λ k d b. absurd (none b)
      where
        none : {k : ℕ} → k < 0 → ⊥
        none b = omega arith
    go (c ∷ cs) q =
        All-cons (λ (delay : Delay). delay.frames ≤ 4096) (delay_of c) (map delay_of cs) (All-head (λ (o : OpenClient). delay_of_kind o.kind ≤ 4096) (open_client c) (map open_client cs) q)
        (go cs (All-tail (λ (o : OpenClient). delay_of_kind o.kind ≤ 4096) (open_client c) (map open_client cs) q))

-- a question for a latency
pub reply-told : (state : State) (number : ℕ) (mode : Mode) (name : List ℕ) (range : Range) → Some range ≡ latency_told state mode name → Told range ≡ reply state number (Latency mode name)
reply-told state number mode name range e = go (port_named state name) e
  where
    go : (o : Option OpenPort) → Some range ≡ option_map (λ (p : OpenPort). latency state mode name) o → Told range ≡ reply_by state number (Latency mode name) (cond (is_none o) (Some NoPort) None)
    go None q = absurd (lost q)
      where
        lost : Some range ≡ None → ⊥
        lost f = cc
    go (Some port) q = ap Told (same q)
      where
        same : Some range ≡ Some (latency state mode name) → range ≡ latency state mode name
        same f = cc

pub reply-no_port : (state : State) (number : ℕ) (mode : Mode) (name : List ℕ) → None ≡ latency_told state mode name → Refused NoPort ≡ reply state number (Latency mode name)
reply-no_port state number mode name e = go (port_named state name) e
  where
    go : (o : Option OpenPort) → None ≡ option_map (λ (p : OpenPort). latency state mode name) o → Refused NoPort ≡ reply_by state number (Latency mode name) (cond (is_none o) (Some NoPort) None)
    go None q = refl
    go (Some port) q = absurd (lost q)
      where
        lost : None ≡ Some (latency state mode name) → ⊥
        lost f = cc

-- it changes nothing
pub after-told : (state : State) (number : ℕ) (mode : Mode) (name : List ℕ) → after state number (Latency mode name) ≡ state
after-told state number mode name = go (is_none (refusal state (Latency mode name)))
  where
    go : (b : Bool) → cond b state state ≡ state
    go true = refl
    go false = refl
