-- Ports and edges of a network, by ids and by names.
--     same_node-placed      two ports are at one node exactly where their names say so
--     at_client      a port is at a client's node exactly where its name says so
--     AreAmong-network, AreNamed-network, StandsFor-network      what the calls on edges ask for
use Rattle.std.proofs.Common.{◌≡◌, ℕ, ◌+◌, ◌<◌, ◌≤◌, Bool, true, false, cond, ◌&&◌, ◌==◌, ◌⊎◌, inl, inr, List, [], ◌∷◌, find, Contains, Option, Some, None, is_none, is_some, refl, sym, ◌∙◌, ap, ap₂, subst, arith, true≢false, eq-eqb, eqb-true}
use Rattle.std.specs.Option.{option_map, option_map_or}
use Rattle.std.specs.Str.{bytes_eq}
use Rattle.graph_word.specs.jack_types.specs.Names.{client_part}
use Rattle.graph_word.specs.jack_types.specs.declared.ports.Client.{Client}
use Rattle.graph_word.specs.jack_types.specs.declared.ports.Edge.{Edge}
use Rattle.graph_word.specs.jack_types.specs.declared.ports.Node.TheVariants.{Client as ClientNode}
use Rattle.graph_word.specs.jack_types.specs.declared.ports.Port.{Port}
use Rattle.graph_word.specs.jack_types.specs.declared.ports.PortId.{PortId}
use Rattle.graph_word.specs.jack_types.specs.declared.ports.Way.{Way}
use Rattle.graph_word.specs.jack_types.specs.declared.ports.Way.TheVariants.{In, Out}
use Rattle.graph_word.specs.jack_types.specs.declared.commands.Command.TheVariants.{Close, Deactivate, Unregister}
use Rattle.graph_word.specs.jack_types.specs.declared.replies.Refusal.TheVariants.{IsSystem, NoClient, NoPort, NotActive}
use Rattle.graph_word.specs.session_model.specs.Commands.{applies, refusal}
use Rattle.graph_word.specs.session_model.specs.Ids.{open_port, same_id_node, way_of}
use Rattle.graph_word.specs.session_model.specs.Soundness.{Apart}
use Rattle.graph_word.specs.session_model.specs.Transport.{active_master}
use Rattle.graph_word.specs.session_model.specs.State.{Master, is_active_in, NamedNode, CaptureNode, PlaybackNode, ClientNode as NamedClient, OpenClient, OpenPort, client_named, is_system, same_node}
use Rattle.port_registry.specs.session_laws.proofs.CycleLemmas.{bytes_same, find-contains, find-passes}
use Rattle.port_registry.specs.session_laws.proofs.ListLemmas.{Each-from_contains}
use Rattle.port_registry.specs.session_laws.proofs.SerialLossLemmas.{All-from_each}
use Rattle.port_registry.specs.session_laws.proofs.LoopLemmas.{Contains-first, Contains-later, Contains-cases}
use Rattle.port_registry.specs.session_laws.proofs.SoundLemmas.{Apart-same}
use Rattle.feedback_edges.specs.connection_set.specs.Connections.{IsIdOf, StandsFor}
use Rattle.feedback_edges.specs.Marking.{AreAmong, AreNamed, IsEndOf, IsNode, named_node, node_by_name}
use Rattle.port_registry.specs.session_laws.proofs.FilterLemmas.{find-map_after}
use Rattle.port_registry.proofs.RegisteredLemmas.{find_none-fresh}
use Rattle.port_registry.specs.Registered.{IsPlaced, IsRegistered, Registered, client_by, is_of, node_for, open_client, open_clients, port_by, system_node, has_name}
use Rattle.cycle_plan.specs.Graphs.{HaveEnds, Network, state_of, numbers_of}
use lib.Pointwise.{bytes_decides}

-- a test that is not passed fails
pub fails : (b : Bool) → (b ≡ true → ⊥) → b ≡ false
fails true f = absurd (f refl)
fails false f = refl

pub bool-same : (a b : Bool) → (a ≡ true → b ≡ true) → (b ≡ true → a ≡ true) → a ≡ b
bool-same true b f g = sym (f refl)
bool-same false true f g = g refl
bool-same false false f g = refl

-- where a name is that of `system`, an equal one is too
module _ (held : Registered) (r : IsRegistered held) where
  client-same_name : (a b : Client) → Contains held.clients a → Contains held.clients b → a.name ≡ b.name → a ≡ b
  client-same_name a b p q e = Apart-same (λ (c : Client). c.name) held.clients a b r.client_names p q e

  client-same_id : (a b : Client) → Contains held.clients a → Contains held.clients b → a.id.0 ≡ b.id.0 → a ≡ b
  client-same_id a b p q e = Apart-same (λ (c : Client). c.id.0) held.clients a b r.client_ids p q e

  -- two clients have one id exactly where they have one name
  pub id-name : (a b : Client) → Contains held.clients a → Contains held.clients b → (a.id.0 == b.id.0) ≡ bytes_eq a.name b.name
  id-name a b p q = bool-same (a.id.0 == b.id.0) (bytes_eq a.name b.name)
      (λ t. (bytes_decides a.name b.name).1 (ap (λ (c : Client). c.name) (client-same_id a b p q (eqb-true a.id.0 b.id.0 t))))
      (λ t. eq-eqb a.id.0 b.id.0 (ap (λ (c : Client). c.id.0) (client-same_name a b p q (bytes_same a.name b.name t))))

  -- the node of a client's port by the client's name
  abbrev named_by : Bool → Way → List ℕ → NamedNode
  named_by system In name = cond system PlaybackNode (NamedClient name)
  named_by system Out name = cond system CaptureNode (NamedClient name)

  abbrev named : Way → List ℕ → NamedNode
  named way name = named_by (is_system name) way name

  -- the nodes of two clients' ports, by ids and by names
  same_node-clients : (a b : Client) → Contains held.clients a → Contains held.clients b → (v w : Way) → same_id_node (node_for a v) (node_for b w) ≡ same_node (named v a.name) (named w b.name)
  same_node-clients a b p q v w = go (is_system a.name) (is_system b.name) v w
    where
      go : (s t : Bool) (v w : Way) → same_id_node (cond s (system_node v) (ClientNode a.id)) (cond t (system_node w) (ClientNode b.id)) ≡ same_node (named_by s v a.name) (named_by t w b.name)
      go true true In In = refl
      go true true In Out = refl
      go true true Out In = refl
      go true true Out Out = refl
      go true false In In = refl
      go true false In Out = refl
      go true false Out In = refl
      go true false Out Out = refl
      go false true In In = refl
      go false true In Out = refl
      go false true Out In = refl
      go false true Out Out = refl
      go false false In In = id-name a b p q
      go false false In Out = id-name a b p q
      go false false Out In = id-name a b p q
      go false false Out Out = id-name a b p q

  named_node-is : (port : Port) (client : Client) → client.name ≡ client_part port.name → named_node port ≡ named (way_of port) client.name
  named_node-is port client e = go (way_of port) ∙ ap (named (way_of port)) (sym e)
    where
      go : (w : Way) → node_by_name w port.name ≡ named w (client_part port.name)
      go In = refl
      go Out = refl

  pub same_node-placed : (a b : Port) → Contains held.ports a → Contains held.ports b → same_id_node a.node b.node ≡ same_node (named_node a) (named_node b)
  same_node-placed a b p q =
      let one : IsPlaced held.clients a = r.placed a p in
      let two : IsPlaced held.clients b = r.placed b q in
      ap₂ same_id_node one.noded two.noded
      ∙ same_node-clients one.client two.client one.listed two.listed (way_of a) (way_of b)
      ∙ sym (ap₂ same_node (named_node-is a one.client one.named) (named_node-is b two.client two.named))

  -- a port is at a client's node exactly where its name says so
  pub at_client : (client : Client) → Contains held.clients client → is_system client.name ≡ false → (port : Port) → Contains held.ports port → same_id_node port.node (ClientNode client.id) ≡ is_of client.name port
  at_client client p other port q =
      ap (λ n. same_id_node n (ClientNode client.id)) one.noded
      ∙ go (is_system one.client.name) refl
      ∙ ap (λ n. bytes_eq n client.name) one.named
    where
      one : IsPlaced held.clients port
      one = r.placed port q

      apart : is_system one.client.name ≡ true → bytes_eq one.client.name client.name ≡ false
      apart s = fails (bytes_eq one.client.name client.name) (λ e. true≢false (sym s ∙ ap is_system (bytes_same one.client.name client.name e) ∙ other))

      device : (w : Way) → same_id_node (system_node w) (ClientNode client.id) ≡ false
      device In = refl
      device Out = refl

      go : (s : Bool) → is_system one.client.name ≡ s → same_id_node (cond s (system_node (way_of port)) (ClientNode one.client.id)) (ClientNode client.id) ≡ bytes_eq one.client.name client.name
      go true e = device (way_of port) ∙ sym (apart e)
      go false e = id-name one.client client one.listed p

  IsNode-placed : (port : Port) → Contains held.ports port → IsNode port.node
  IsNode-placed port q = subst IsNode (sym one.noded) (go (is_system one.client.name) (way_of port))
    where
      one : IsPlaced held.clients port
      one = r.placed port q

      low : one.client.id.0 + 2 < 67
      low = let within : one.client.id.0 ≤ 64 = r.client_ids_within one.client one.listed in omega (arith, within)

      go : (s : Bool) (w : Way) → IsNode (cond s (system_node w) (ClientNode one.client.id))
      go true In = omega arith
      go true Out = omega arith
      go false w = low

  pub node-is_node : (port : Port) → Contains held.ports port → IsNode port.node
  node-is_node port q = IsNode-placed port q

  -- a port is active where its client is
  module _ (edges : List Edge) (ends : HaveEnds held.ports edges) where
    owned : (way : Way) (id : PortId) → IsEndOf held.ports way id → IsIdOf held.ports id
    owned way id end = (end.0, end.1, eq-eqb (end.0).id.0 id.0 end.2)

    pub AreAmong-network : AreAmong held.ports edges
    AreAmong-network = record {
      ids = All-from_each (λ (port : Port). port.id.0 < 2064) held.ports (Each-from_contains (λ (port : Port). port.id.0 < 2064) held.ports r.port_ids_below);
      nodes = All-from_each (λ (port : Port). IsNode port.node) held.ports (Each-from_contains (λ (port : Port). IsNode port.node) held.ports IsNode-placed);
      sources = λ edge m. owned Out edge.source (ends.sources edge m);
      destinations = λ edge m. owned In edge.destination (ends.destinations edge m);
    }

    pub AreNamed-network : AreNamed held.ports edges
    AreNamed-network = record {
      apart = λ a b p q e. Apart-same (λ (port : Port). port.id.0) held.ports a b r.port_ids p q e;
      nodes = same_node-placed;
      sources = ends.sources;
      destinations = ends.destinations;
    }

  -- whether a client is active, by its name
  active-named : (clients : List Client) (client : Client) → Apart (λ (c : Client). c.name) clients → Contains clients client
      → is_some (find (λ (c : OpenClient). bytes_eq c.name client.name && c.active) (open_clients clients)) ≡ client.active
  active-named [] client apart m = absurd (none m.1)
    where
      none : {n : ℕ} → n < 0 → ⊥
      none p = omega arith
  active-named (c ∷ cs) client apart m = at (Contains-cases c client cs m) (λ k. active-named cs client apart.1 k)
    where
      none-active : (ds : List Client) → ((d : Client) → Contains ds d → bytes_eq d.name client.name ≡ false) → is_some (find (λ (d : OpenClient). bytes_eq d.name client.name && d.active) (open_clients ds)) ≡ false
      none-active [] f = refl
      none-active (d ∷ ds) f = ap (λ b. is_some (cond (b && d.active) (Some (open_client d)) (find (λ (e : OpenClient). bytes_eq e.name client.name && e.active) (open_clients ds)))) (f d (Contains-first d ds)) ∙ none-active ds (λ e k. f e (Contains-later d e ds k))

      by : (b : Bool) → is_some (find (λ (d : OpenClient). bytes_eq d.name client.name && d.active) (open_clients cs)) ≡ false
          → is_some (cond b (Some (open_client c)) (find (λ (d : OpenClient). bytes_eq d.name client.name && d.active) (open_clients cs))) ≡ b
      by true rest = refl
      by false rest = rest

      at : (c ≡ client) ⊎ Contains cs client → (Contains cs client → is_some (find (λ (d : OpenClient). bytes_eq d.name client.name && d.active) (open_clients cs)) ≡ client.active)
          → is_some (cond (bytes_eq c.name client.name && c.active) (Some (open_client c)) (find (λ (d : OpenClient). bytes_eq d.name client.name && d.active) (open_clients cs))) ≡ client.active
      at (inl e) rest =
          ap (λ b. is_some (cond (b && c.active) (Some (open_client c)) (find (λ (d : OpenClient). bytes_eq d.name client.name && d.active) (open_clients cs)))) ((bytes_decides c.name client.name).1 (ap (λ (d : Client). d.name) e))
          ∙ by c.active (none-active cs (λ d k. fails (bytes_eq d.name client.name) (λ t. apart.0 d k (ap (λ (d : Client). d.name) e ∙ sym (bytes_same d.name client.name t)))))
          ∙ ap (λ (d : Client). d.active) e
      at (inr k) rest =
          ap (λ b. is_some (cond (b && c.active) (Some (open_client c)) (find (λ (d : OpenClient). bytes_eq d.name client.name && d.active) (open_clients cs))))
          (fails (bytes_eq c.name client.name) (λ t. apart.0 client k (bytes_same c.name client.name t)))
          ∙ rest k

  pub activity-named : (port : Port) → Contains held.ports port → port.active ≡ is_some (find (λ (c : OpenClient). bytes_eq c.name (client_part port.name) && c.active) (open_clients held.clients))
  activity-named port q =
      one.activity
      ∙ sym (active-named held.clients one.client r.client_names one.listed)
      ∙ ap (λ n. is_some (find (λ (c : OpenClient). bytes_eq c.name n && c.active) (open_clients held.clients))) one.named
    where
      one : IsPlaced held.clients port
      one = r.placed port q

pub StandsFor-network : (network : Network) → IsRegistered network.held → HaveEnds network.held.ports network.set.edges → StandsFor (state_of network) network.held.ports network.set.edges
StandsFor-network network r ends = record {
  ports_are = refl;
  edges_are = refl;
  ids = r.port_ids;
  names = r.port_names;
  sources = (AreAmong-network network.held r network.set.edges ends).sources;
  destinations = (AreAmong-network network.held r network.set.edges ends).destinations;
  activity = activity-named network.held r;
}

-- the client of a name, by ids and by names
pub client_named-is : (network : Network) (name : List ℕ) → client_named (state_of network) name ≡ option_map open_client (client_by network.held name)
client_named-is network name = find-map_after open_client (λ (client : OpenClient). bytes_eq client.name name) network.held.clients

pub refusal-change : (network : Network) (name : List ℕ) → refusal (state_of network) (Close name) ≡ cond (is_none (client_by network.held name)) (Some NoClient) (cond (is_system name) (Some IsSystem) None)
refusal-change network name = ap (λ b. cond b (Some NoClient) (cond (is_system name) (Some IsSystem) None)) (ap is_none (client_named-is network name) ∙ go (client_by network.held name))
  where
    go : (o : Option Client) → is_none (option_map open_client o) ≡ is_none o
    go None = refl
    go (Some client) = refl

-- where nothing has the name
pub refusal-no_client : (network : Network) (name : List ℕ) → client_by network.held name ≡ None → refusal (state_of network) (Deactivate name) ≡ Some NoClient
refusal-no_client network name none =
    ap (λ o. cond (is_none o) (Some NoClient) (find (applies (state_of network) (Deactivate name)) (IsSystem ∷ NotActive ∷ []))) (client_named-is network name ∙ ap (option_map open_client) none)

pub refusal-no_port : (network : Network) (name : List ℕ) → port_by network.held name ≡ None → refusal (state_of network) (Unregister name) ≡ Some NoPort
refusal-no_port network name none =
    ap (λ o. cond (is_none o) (Some NoPort) (find (applies (state_of network) (Unregister name)) (IsSystem ∷ [])))
    (find-map_after open_port (λ (port : OpenPort). bytes_eq port.name name) network.held.ports ∙ ap (option_map open_port) none)

-- whether a client is active, by the registry
pub active-is : (network : Network) → IsRegistered network.held → (name : List ℕ) → is_active_in (state_of network) name ≡ option_map_or (λ (client : Client). client.active) (client_by network.held name) false
active-is network r name = go (client_by network.held name) refl
  where
    none-there : (clients : List Client) → ((client : Client) → Contains clients client → bytes_eq client.name name ≡ false) → is_some (find (λ (c : OpenClient). bytes_eq c.name name && c.active) (open_clients clients)) ≡ false
    none-there [] f = refl
    none-there (client ∷ clients) f =
        ap (λ b. is_some (cond (b && client.active) (Some (open_client client)) (find (λ (c : OpenClient). bytes_eq c.name name && c.active) (open_clients clients)))) (f client (Contains-first client clients))
        ∙ none-there clients (λ c m. f c (Contains-later client c clients m))

    go : (o : Option Client) → client_by network.held name ≡ o → is_active_in (state_of network) name ≡ option_map_or (λ (client : Client). client.active) o false
    go None e = none-there network.held.clients (λ client m. fails (bytes_eq client.name name) (λ t. find_none-fresh (has_name name) network.held.clients client e m t))
    go (Some client) e =
        ap (λ n. is_active_in (state_of network) n) (sym (bytes_same client.name name (find-passes (has_name name) network.held.clients client e)))
        ∙ active-named network.held r network.held.clients client r.client_names (find-contains (has_name name) network.held.clients client e)

pub active-numbers : (network : Network) → IsRegistered network.held → (held : Master) → network.master ≡ Some held
    → numbers_of (active_master (state_of network)) ≡ cond (option_map_or (λ (client : Client). client.active) (client_by network.held held.client) false) (Some (held.mbpm, held.beats, held.ticks)) None
active-numbers network r held e =
    ap (λ (m : Option Master). numbers_of (active_master (record (state_of network) { master = m }))) e
    ∙ go (is_active_in (state_of network) held.client)
    ∙ ap (λ b. cond b (Some (held.mbpm, held.beats, held.ticks)) None) (active-is network r held.client)
  where
    go : (b : Bool) → numbers_of (cond b (Some held) None) ≡ cond b (Some (held.mbpm, held.beats, held.ticks)) None
    go true = refl
    go false = refl
