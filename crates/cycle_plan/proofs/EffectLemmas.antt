-- What each command makes of a network is what it makes of the state.
use Rattle.std.proofs.Common.{◌≡◌, ℕ, ◌≤◌, Bool, true, false, cond, not, ◌&&◌, ◌||◌, ◌⊎◌, inl, inr, List, [], ◌∷◌, ◌++◌, length, filter, fold, Contains, Option, Some, None, is_none, Result, Ok, Err, OnErr, refl, sym, ◌∙◌, ap, ap₂, subst, arith, true≢false}
use Rattle.std.specs.Bool.{⊤}
use Rattle.std.specs.Str.{bytes_eq}
use Rattle.std.proofs.lemmas.List.{length-map}
use Rattle.graph_word.specs.jack_types.specs.declared.commands.Command.{Command}
use Rattle.graph_word.specs.jack_types.specs.declared.commands.Command.TheVariants.{Close, Deactivate, Unregister, Connect, Disconnect}
use Rattle.graph_word.specs.jack_types.specs.declared.ports.Client.{Client}
use Rattle.graph_word.specs.jack_types.specs.declared.ports.Edge.{Edge}
use Rattle.graph_word.specs.jack_types.specs.declared.ports.Mark.{Mark}
use Rattle.graph_word.specs.jack_types.specs.declared.ports.Node.TheVariants.{Client as ClientNode}
use Rattle.graph_word.specs.jack_types.specs.declared.ports.Port.{Port}
use Rattle.graph_word.specs.jack_types.specs.declared.ports.PortKind.TheVariants.{Audio}
use Rattle.graph_word.specs.jack_types.specs.declared.ports.Way.{Way}
use Rattle.graph_word.specs.jack_types.specs.declared.ports.Way.TheVariants.{In, Out}
use Rattle.graph_word.specs.jack_types.specs.declared.replies.No.{No}
use Rattle.graph_word.specs.jack_types.specs.declared.replies.No.TheVariants.{Memory, Refused}
use Rattle.graph_word.specs.jack_types.specs.declared.replies.Refusal.{Refusal}
use Rattle.graph_word.specs.jack_types.specs.declared.replies.Refusal.TheVariants.{Exists, Full, Inactive, IsSystem, NoClient, NoDestination, NoSource, NotActive, NotInput, NotOutput, TypeDiffers}
use Rattle.graph_word.specs.session_model.specs.Commands.{after, applies, edges_left, effect, is_input, master_without, refusal, refusals_of, touches}
use Rattle.graph_word.specs.session_model.specs.Ids.{connection, connections, open_port, way_of}
use Rattle.graph_word.specs.session_model.specs.Loops.{mark_of}
use Rattle.graph_word.specs.session_model.specs.State.{Connection, Master, State, is_system}
use Rattle.port_registry.specs.session_laws.proofs.CycleLemmas.{bytes_same, filter-passes, find-contains, find-passes}
use Rattle.port_registry.specs.session_laws.proofs.LoopLemmas.{Contains-first, Contains-later}
use Rattle.port_registry.specs.session_laws.proofs.SoundLemmas.{Apart-same, map-contains, refused_not}
use Rattle.feedback_edges.specs.connection_set.specs.Connections.{RefusesConnect, RefusesDisconnect, TakesConnection, TakesPort, applies_to, connect_refusal, disconnect_refusal, is_at, joins, without_edge, without_port}
use Rattle.feedback_edges.specs.Marking.{AreAmong, IsEndOf}
use Rattle.port_registry.proofs.RegisteredLemmas.{at_end, find_none-fresh}
use Rattle.port_registry.specs.Answers.{Answers, AnswersExactly, IsMemory}
use Rattle.port_registry.specs.Registered.{IsRegistered, Registered, client_by, has_name, is_named, is_of, port_by, state_of as registry_state, with_active, without_client, without_port as without_port_of}
use Rattle.cycle_plan.specs.Graphs.{HaveEnds, IsApplied, IsNetwork, Network, state_of}
use Rattle.cycle_plan.specs.Rewiring.{Joins, Leaves, without_edges_at, without_memory}
use Rattle.cycle_plan.proofs.EndLemmas.{HaveEnds-filter, HaveEnds-marked, HaveEnds-moved, IsAmong, client_left-apart, client_left-ends, client_left-is, connections-moved, dropped-among, edges_left-is}
use Rattle.cycle_plan.proofs.MovedLemmas.{Stays, Stays-active, device-closed, device-unregistered, device_ports, moved-closed, moved-unregistered}
use Rattle.cycle_plan.proofs.NetworkLemmas.{AreAmong-network, AreNamed-network, StandsFor-network}

-- a command that nothing refuses, and one that is refused
pub applied : {T : Type 0} (before : Network) (number : ℕ) (command : Command) (result : T) (behind : Network) → refusal (state_of before) command ≡ None → state_of behind ≡ effect (state_of before) number command
    → IsApplied {T = T} before number command (Ok result) behind
applied before number command result behind none e = record {
  answer = none;
  effect = e ∙ ap (λ (r : Option Refusal). cond (is_none r) (effect (state_of before) number command) (state_of before)) (sym none);
  same = tt;
}

pub refused : {T : Type 0} (before : Network) (number : ℕ) (command : Command) (given : Refusal) → refusal (state_of before) command ≡ Some given → IsApplied {T = T} before number command (Err given) before
refused before number command given e = record {
  answer = e;
  effect = ap (λ (r : Option Refusal). cond (is_none r) (effect (state_of before) number command) (state_of before)) (sym e);
  same = refl;
}

-- the same where the network behind is known to be the one before
pub refused_over : {T : Type 0} (before : Network) (number : ℕ) (command : Command) (given : Refusal) → refusal (state_of before) command ≡ Some given → (behind : Network) → behind ≡ before
    → IsApplied {T = T} before number command (Err given) behind
refused_over {T} before number command given e behind same = subst (λ n. IsApplied {T = T} before number command (Err given) n) (sym same) (refused before number command given e)

same_states : (a b : State) → a.clients ≡ b.clients → a.ports ≡ b.ports → a.edges ≡ b.edges → a.master ≡ b.master → a.timeout ≡ b.timeout → a ≡ b
same_states a b clients ports edges master timeout i = record { clients = clients i; ports = ports i; edges = edges i; master = master i; timeout = timeout i }

-- what the registry's call made of its state
registry-effect : (old new : Registered) (number : ℕ) (command : Command) → refusal (registry_state old) command ≡ None → registry_state new ≡ after (registry_state old) number command
    → registry_state new ≡ effect (registry_state old) number command
registry-effect old new number command none e = e ∙ ap (λ (r : Option Refusal). cond (is_none r) (effect (registry_state old) number command) (registry_state old)) none

-- ---- what is true of every network stays true

pub network-kept : (before : Network) → IsNetwork before → (held : Registered) → IsRegistered held → device_ports held.ports ≤ device_ports before.held.ports
    → held.client_room ≡ before.held.client_room → held.port_room ≡ before.held.port_room
    → (edges : List Edge) → HaveEnds held.ports edges → (room : ℕ) → before.set.room ≤ room → (master : Option Master) (timeout : Option ℕ)
    → IsNetwork (record { held = held; set = record { edges = edges; room = room }; master = master; timeout = timeout })
network-kept before is held registered device client_room port_room edges ends room wider master timeout = record {
  registered = registered;
  few_device_ports = let few : device_ports before.held.ports ≤ 16 = is.few_device_ports in omega (arith, device, few);
  ends = ends;
  client_room = subst (λ n. 65 ≤ n) (sym client_room) is.client_room;
  port_room = subst (λ n. 2064 ≤ n) (sym port_room) is.port_room;
  edge_room = let old : 512 ≤ before.set.room = is.edge_room in omega (arith, old, wider);
}

-- ---- only the registry changes

module _ (before : Network) (is : IsNetwork before) (held : Registered) (registered : IsRegistered held) (stays : Stays before.held held) where
  pub registry_only-edges : connections held.ports before.set.edges ≡ connections before.held.ports before.set.edges
  registry_only-edges = connections-moved before.held.ports held.ports is.registered.port_ids registered.port_ids before.set.edges is.ends (λ edge m port p t. stays.moved port p)

  pub registry_only-ends : HaveEnds held.ports before.set.edges
  registry_only-ends = HaveEnds-moved before.held.ports held.ports is.registered.port_ids registered.port_ids before.set.edges is.ends (λ edge m port p t. stays.moved port p)

  pub registry_only-network : IsNetwork (record before { held = held })
  registry_only-network = network-kept before is held registered stays.device stays.client_room stays.port_room before.set.edges registry_only-ends before.set.room (omega arith) before.master before.timeout

  registry_only : (number : ℕ) (command : Command) → refusal (registry_state before.held) command ≡ None → registry_state held ≡ after (registry_state before.held) number command
      → effect (state_of before) number command ≡ record (state_of before) { clients = (effect (registry_state before.held) number command).clients; ports = (effect (registry_state before.held) number command).ports }
      → state_of (record before { held = held }) ≡ effect (state_of before) number command
  registry_only number command none now shape =
      same_states (state_of (record before { held = held }))
      (record (state_of before) { clients = (effect (registry_state before.held) number command).clients; ports = (effect (registry_state before.held) number command).ports })
      (ap (λ (s : State). s.clients) stepped) (ap (λ (s : State). s.ports) stepped) registry_only-edges refl refl
      ∙ sym shape
    where
      stepped : registry_state held ≡ effect (registry_state before.held) number command
      stepped = registry-effect before.held held number command none now

  -- a call of the registry alone, whatever its answer
  pub registry-applied : {T : Type 0} (number : ℕ) (command : Command) (result : Result T Refusal) → AnswersExactly (refusal (registry_state before.held) command) result
      → registry_state held ≡ after (registry_state before.held) number command → OnErr result (held ≡ before.held)
      → refusal (state_of before) command ≡ refusal (registry_state before.held) command
      → effect (state_of before) number command ≡ record (state_of before) { clients = (effect (registry_state before.held) number command).clients; ports = (effect (registry_state before.held) number command).ports }
      → IsApplied {T = T} before number command result (record before { held = held })
  registry-applied number command (Ok x) answer now same asks shape = applied before number command x (record before { held = held }) (asks ∙ answer) (registry_only number command answer now shape)
  registry-applied number command (Err given) answer now same asks shape = refused_over before number command given (asks ∙ answer) (record before { held = held }) (ap (λ (h : Registered). record before { held = h }) same)

  -- and one that might have lacked memory
  pub roomy-applied : {T : Type 0} (number : ℕ) (command : Command) (answered : Result T No) → (IsMemory answered → ⊥) → Answers (refusal (registry_state before.held) command) answered
      → registry_state held ≡ after (registry_state before.held) number command → OnErr answered (held ≡ before.held)
      → refusal (state_of before) command ≡ refusal (registry_state before.held) command
      → effect (state_of before) number command ≡ record (state_of before) { clients = (effect (registry_state before.held) number command).clients; ports = (effect (registry_state before.held) number command).ports }
      → IsApplied {T = ⊤} before number command (without_memory answered) (record before { held = held })
  roomy-applied number command (Ok x) room answer now same asks shape = registry-applied number command (Ok tt) answer now tt asks shape
  roomy-applied number command (Err (Refused given)) room answer now same asks shape = registry-applied number command (Err given) answer now same asks shape
  roomy-applied number command (Err Memory) room answer now same asks shape = absurd (room refl)

-- ---- a client closes

module _ (held : Registered) (name : List ℕ) (client : Client) (found : client_by held name ≡ Some client) where
  pub client-name : client.name ≡ name
  client-name = bytes_same client.name name (find-passes (has_name name) held.clients client found)

  pub client-listed : Contains held.clients client
  client-listed = find-contains (has_name name) held.clients client found

  pub client-other : is_system name ≡ false → is_system client.name ≡ false
  client-other other = ap is_system client-name ∙ other

module _ (before : Network) (is : IsNetwork before) (name : List ℕ) (client : Client) (found : client_by before.held name ≡ Some client) (other : is_system name ≡ false) where
  its-name : client.name ≡ name
  its-name = client-name before.held name client found

  listed : Contains before.held.clients client
  listed = client-listed before.held name client found

  not-system : is_system client.name ≡ false
  not-system = client-other before.held name client found other

  module _ (dropped new : List Edge) (count : ℕ) (many : count ≡ length before.set.edges) (drops : dropped ≡ fold (without_edges_at (ClientNode client.id)) before.set.edges before.held.ports)
      (leaves : Leaves before.held.ports count dropped new) (held : Registered) (held_is : held ≡ without_client name before.held) (registered : IsRegistered held) where
    apart : (edge : Edge) → Contains new edge → (port : Port) → Contains before.held.ports port → is_at port.id edge ≡ true → IsAmong held.ports port
    apart edge m port p t =
        moved-closed name before.held held held_is port p
        (ap (λ n. is_of n port) (sym its-name)
        ∙ client_left-apart before.held is.registered client listed not-system before.set.edges dropped new is.ends drops count many leaves edge m port p t)

    old_ends : HaveEnds before.held.ports new
    old_ends = client_left-ends before.held is.registered client listed not-system before.set.edges dropped new is.ends drops count many leaves

    closed-ends : HaveEnds held.ports new
    closed-ends = HaveEnds-moved before.held.ports held.ports is.registered.port_ids registered.port_ids new old_ends apart

    closed-edges : connections held.ports new ≡ edges_left (λ edge. not (touches name edge)) (connections before.held.ports before.set.edges)
    closed-edges =
        connections-moved before.held.ports held.ports is.registered.port_ids registered.port_ids new old_ends apart
        ∙ client_left-is before.held is.registered client listed not-system before.set.edges dropped new is.ends drops count many leaves
        ∙ ap (λ n. edges_left (λ edge. not (touches n edge)) (connections before.held.ports before.set.edges)) its-name

    pub closed-network : (room : ℕ) → room ≡ before.set.room → (master : Option Master)
        → IsNetwork (record { held = held; set = record { edges = new; room = room }; master = master; timeout = before.timeout })
    closed-network room same master =
        network-kept before is held registered (device-closed name before.held held held_is) (ap (λ (h : Registered). h.client_room) held_is) (ap (λ (h : Registered). h.port_room) held_is) new closed-ends room (omega (arith, same)) master before.timeout

    pub closed-state : (number room : ℕ) (master : Option Master) → refusal (registry_state before.held) (Close name) ≡ None → registry_state held ≡ after (registry_state before.held) number (Close name)
        → master ≡ master_without name before.master
        → state_of (record { held = held; set = record { edges = new; room = room }; master = master; timeout = before.timeout }) ≡ effect (state_of before) number (Close name)
    closed-state number room master none now left =
        same_states (state_of (record { held = held; set = record { edges = new; room = room }; master = master; timeout = before.timeout })) (effect (state_of before) number (Close name))
        (ap (λ (s : State). s.clients) stepped) (ap (λ (s : State). s.ports) stepped) closed-edges left refl
      where
        stepped : registry_state held ≡ effect (registry_state before.held) number (Close name)
        stepped = registry-effect before.held held number (Close name) none now

-- where a command is accepted, no refusal of its applies
not-refused : (state : State) (command : Command) (other : Refusal) → refusal state command ≡ None → Contains (refusals_of command) other → applies state command other ≡ false
not-refused state command other none m = refused_not state command (refusals_of command) other (ap is_none none) m

-- ---- a client becomes inactive

module _ (before : Network) (is : IsNetwork before) (name : List ℕ) (client : Client) (found : client_by before.held name ≡ Some client)
    (held : Registered) (held_is : held ≡ with_active name false before.held) (registered : IsRegistered held) (none : refusal (registry_state before.held) (Deactivate name) ≡ None) where
  abbrev inactive : Client
  inactive = record client { active = false }

  inactive-listed : Contains held.clients inactive
  inactive-listed =
      subst (λ (h : Registered). Contains h.clients inactive) (sym held_is)
      (subst (λ c. Contains (with_active name false before.held).clients c)
      (ap (λ b. cond b inactive client) (find-passes (has_name name) before.held.clients client found))
      (map-contains (λ (c : Client). cond (has_name name c) (record c { active = false }) c) before.held.clients client (client-listed before.held name client found)))

  inactive-other : is_system inactive.name ≡ false
  inactive-other = client-other before.held name client found
      (not-refused (registry_state before.held) (Deactivate name) IsSystem none (Contains-later NoClient IsSystem (IsSystem ∷ NotActive ∷ []) (Contains-first IsSystem (NotActive ∷ []))))

  inactive-ends : HaveEnds held.ports before.set.edges
  inactive-ends = registry_only-ends before is held registered (Stays-active name false before.held held held_is)

  inactive-edges : connections held.ports before.set.edges ≡ connections before.held.ports before.set.edges
  inactive-edges = registry_only-edges before is held registered (Stays-active name false before.held held held_is)

  module _ (dropped : List Edge) (drops : dropped ≡ fold (without_edges_at (ClientNode client.id)) before.set.edges held.ports) where
    pub deactivated-among : AreAmong held.ports dropped
    deactivated-among = dropped-among held registered inactive inactive-listed inactive-other before.set.edges dropped inactive-ends drops

    module _ (new : List Edge) (count : ℕ) (many : count ≡ length before.set.edges) (leaves : Leaves held.ports count dropped new) where
      pub deactivated-network : (room : ℕ) → room ≡ before.set.room → (master : Option Master)
          → IsNetwork (record { held = held; set = record { edges = new; room = room }; master = master; timeout = before.timeout })
      deactivated-network room same master =
          network-kept before is held registered (Stays-active name false before.held held held_is).device (ap (λ (h : Registered). h.client_room) held_is) (ap (λ (h : Registered). h.port_room) held_is) new
          (client_left-ends held registered inactive inactive-listed inactive-other before.set.edges dropped new inactive-ends drops count many leaves)
          room (omega (arith, same)) master before.timeout

      pub deactivated-state : (number room : ℕ) (master : Option Master) → registry_state held ≡ after (registry_state before.held) number (Deactivate name) → master ≡ master_without name before.master
          → state_of (record { held = held; set = record { edges = new; room = room }; master = master; timeout = before.timeout }) ≡ effect (state_of before) number (Deactivate name)
      deactivated-state number room master now left =
          same_states (state_of (record { held = held; set = record { edges = new; room = room }; master = master; timeout = before.timeout })) (effect (state_of before) number (Deactivate name))
          (ap (λ (s : State). s.clients) stepped) (ap (λ (s : State). s.ports) stepped) edges left refl
        where
          stepped : registry_state held ≡ effect (registry_state before.held) number (Deactivate name)
          stepped = registry-effect before.held held number (Deactivate name) none now

          edges : connections held.ports new ≡ edges_left (λ edge. not (touches name edge)) (connections before.held.ports before.set.edges)
          edges =
              client_left-is held registered inactive inactive-listed inactive-other before.set.edges dropped new inactive-ends drops count many leaves
              ∙ ap₂ (λ n es. edges_left (λ edge. not (touches n edge)) es) (client-name before.held name client found) inactive-edges

-- ---- a port goes

module _ (held : Registered) (name : List ℕ) (port : Port) (found : port_by held name ≡ Some port) where
  pub port-name : port.name ≡ name
  port-name = bytes_same port.name name (find-passes (is_named name) held.ports port found)

  pub port-listed : Contains held.ports port
  port-listed = find-contains (is_named name) held.ports port found

module _ (before : Network) (is : IsNetwork before) (name : List ℕ) (port : Port) (found : port_by before.held name ≡ Some port)
    (held : Registered) (held_is : held ≡ without_port_of name before.held) (registered : IsRegistered held) (dropped : List Edge) (drops : dropped ≡ without_port port.id before.set.edges) where
  its-port_name : port.name ≡ name
  its-port_name = port-name before.held name port found

  its-port_listed : Contains before.held.ports port
  its-port_listed = port-listed before.held name port found

  old_dropped-ends : HaveEnds before.held.ports dropped
  old_dropped-ends = subst (HaveEnds before.held.ports) (sym drops) (HaveEnds-filter before.held.ports (λ edge. not (is_at port.id edge)) before.set.edges is.ends)

  other-port : (edge : Edge) → Contains dropped edge → (p : Port) → Contains before.held.ports p → is_at p.id edge ≡ true → IsAmong held.ports p
  other-port edge m p q t = moved-unregistered name before.held held held_is p q (go (is_named name p) refl)
    where
      stays : not (is_at port.id edge) ≡ true
      stays = filter-passes (λ e. not (is_at port.id e)) before.set.edges edge (subst (λ es. Contains es edge) drops m)

      go : (b : Bool) → is_named name p ≡ b → b ≡ false
      go false e = refl
      go true e =
          let same : p ≡ port = Apart-same (λ (x : Port). x.name) before.held.ports p port is.registered.port_names q its-port_listed (bytes_same p.name name e ∙ sym its-port_name) in
          absurd (true≢false (sym stays ∙ ap not (subst (λ (x : Port). is_at x.id edge ≡ true) same t)))

  dropped-ends : HaveEnds held.ports dropped
  dropped-ends = HaveEnds-moved before.held.ports held.ports is.registered.port_ids registered.port_ids dropped old_dropped-ends other-port

  pub unregistered-among : AreAmong held.ports dropped
  unregistered-among = AreAmong-network held registered dropped dropped-ends

  module _ (taken : TakesPort before.set.edges port.id dropped) (new : List Edge) (count : ℕ) (many : count ≡ length before.set.edges) (leaves : Leaves held.ports count dropped new) where
    pub unregistered-network : (room : ℕ) → room ≡ before.set.room → IsNetwork (record { held = held; set = record { edges = new; room = room }; master = before.master; timeout = before.timeout })
    unregistered-network room same =
        network-kept before is held registered (device-unregistered name before.held held held_is) (ap (λ (h : Registered). h.client_room) held_is) (ap (λ (h : Registered). h.port_room) held_is) new
        (HaveEnds-marked new dropped leaves.ends held.ports dropped-ends) room (omega (arith, same)) before.master before.timeout

    pub unregistered-state : (number room : ℕ) → refusal (registry_state before.held) (Unregister name) ≡ None → registry_state held ≡ after (registry_state before.held) number (Unregister name)
        → state_of (record { held = held; set = record { edges = new; room = room }; master = before.master; timeout = before.timeout }) ≡ effect (state_of before) number (Unregister name)
    unregistered-state number room none now =
        same_states (state_of (record { held = held; set = record { edges = new; room = room }; master = before.master; timeout = before.timeout })) (effect (state_of before) number (Unregister name))
        (ap (λ (s : State). s.clients) stepped) (ap (λ (s : State). s.ports) stepped) edges refl refl
      where
        stepped : registry_state held ≡ effect (registry_state before.held) number (Unregister name)
        stepped = registry-effect before.held held number (Unregister name) none now

        edges : connections held.ports new ≡ edges_left (λ edge. not (bytes_eq edge.source name || bytes_eq edge.destination name)) (connections before.held.ports before.set.edges)
        edges =
            edges_left-is held.ports (λ edge. not (bytes_eq edge.source name || bytes_eq edge.destination name)) (connections before.held.ports before.set.edges) dropped new count
            (many ∙ sym (length-map before.set.edges (connection before.held.ports)))
            (AreNamed-network held registered dropped dropped-ends)
            (connections-moved before.held.ports held.ports is.registered.port_ids registered.port_ids dropped old_dropped-ends other-port
            ∙ taken (state_of before) before.held.ports port (StandsFor-network before is.registered is.ends) its-port_listed refl
            ∙ ap (λ n. filter (λ (edge : Connection). not (bytes_eq edge.source n || bytes_eq edge.destination n)) (connections before.held.ports before.set.edges)) its-port_name)
            leaves

-- ---- a connection goes

without-ends : (ports : List Port) (source destination : Option Port) (edges : List Edge) → HaveEnds ports edges → HaveEnds ports (without_edge source destination edges)
without-ends ports None destination edges ends = ends
without-ends ports (Some source) None edges ends = ends
without-ends ports (Some source) (Some destination) edges ends = HaveEnds-filter ports (λ edge. not (joins source.id destination.id edge)) edges ends

module _ (before : Network) (is : IsNetwork before) (from to : List ℕ) (source destination : Option Port) (named : source ≡ port_by before.held from) (aimed : destination ≡ port_by before.held to)
    (dropped : List Edge) (drops : dropped ≡ without_edge source destination before.set.edges) where
  disconnected-ends : HaveEnds before.held.ports dropped
  disconnected-ends = subst (HaveEnds before.held.ports) (sym drops) (without-ends before.held.ports source destination before.set.edges is.ends)

  pub disconnected-among : AreAmong before.held.ports dropped
  disconnected-among = AreAmong-network before.held is.registered dropped disconnected-ends

  module _ (taken : TakesConnection before.set.edges source destination dropped) (new : List Edge) (count : ℕ) (many : count ≡ length before.set.edges) (leaves : Leaves before.held.ports count dropped new) where
    pub disconnected-network : (room : ℕ) → room ≡ before.set.room → IsNetwork (record before { set = record { edges = new; room = room } })
    disconnected-network room same =
        network-kept before is before.held is.registered (omega arith) refl refl new
        (HaveEnds-marked new dropped leaves.ends before.held.ports disconnected-ends) room (omega (arith, same)) before.master before.timeout

    pub disconnected-state : (number room : ℕ) → state_of (record before { set = record { edges = new; room = room } }) ≡ effect (state_of before) number (Disconnect from to)
    disconnected-state number room =
        same_states (state_of (record before { set = record { edges = new; room = room } })) (effect (state_of before) number (Disconnect from to)) refl refl edges refl refl
      where
        edges : connections before.held.ports new ≡ edges_left (λ edge. not (bytes_eq edge.source from && bytes_eq edge.destination to)) (connections before.held.ports before.set.edges)
        edges =
            edges_left-is before.held.ports (λ edge. not (bytes_eq edge.source from && bytes_eq edge.destination to)) (connections before.held.ports before.set.edges) dropped new count
            (many ∙ sym (length-map before.set.edges (connection before.held.ports)))
            (AreNamed-network before.held is.registered dropped disconnected-ends)
            (taken (state_of before) before.held.ports from to (StandsFor-network before is.registered is.ends) named aimed)
            leaves

-- ---- a connection comes

module _ (before : Network) (is : IsNetwork before) (from to : List ℕ) (source destination : Port) (named : Some source ≡ port_by before.held from) (aimed : Some destination ≡ port_by before.held to)
    (granted : connect_refusal before.set.edges (Some source) (Some destination) ≡ None) where
  pub source-listed : Contains before.held.ports source
  source-listed = find-contains (is_named from) before.held.ports source (sym named)

  pub destination-listed : Contains before.held.ports destination
  destination-listed = find-contains (is_named to) before.held.ports destination (sym aimed)

  source-name : source.name ≡ from
  source-name = bytes_same source.name from (find-passes (is_named from) before.held.ports source (sym named))

  destination-name : destination.name ≡ to
  destination-name = bytes_same destination.name to (find-passes (is_named to) before.held.ports destination (sym aimed))

  way-in : (w : Way) → is_input (record { name = []; way = w; kind = Audio; birth = 0 }) ≡ true → w ≡ In
  way-in In e = refl
  way-in Out e = absurd (true≢false (sym e))

  way-out : (w : Way) → is_input (record { name = []; way = w; kind = Audio; birth = 0 }) ≡ false → w ≡ Out
  way-out Out e = refl
  way-out In e = absurd (true≢false e)

  abbrev further : List Refusal
  further = TypeDiffers ∷ Inactive ∷ Exists ∷ Full ∷ []

  abbrev behind : List Refusal
  behind = NotInput ∷ TypeDiffers ∷ Inactive ∷ Exists ∷ Full ∷ []

  pub source-way : way_of source ≡ Out
  source-way = go (is_input (open_port source)) refl
    where
      go : (b : Bool) → is_input (open_port source) ≡ b → way_of source ≡ Out
      go false e = way-out (way_of source) e
      go true e = absurd (find_none-fresh (applies_to before.set.edges (Some source) (Some destination)) (refusals_of (Connect [] [])) NotOutput granted
          (Contains-later NoSource NotOutput (NoDestination ∷ NotOutput ∷ behind) (Contains-later NoDestination NotOutput (NotOutput ∷ behind) (Contains-first NotOutput behind))) e)

  pub destination-way : way_of destination ≡ In
  destination-way = go (is_input (open_port destination)) refl
    where
      go : (b : Bool) → is_input (open_port destination) ≡ b → way_of destination ≡ In
      go true e = way-in (way_of destination) e
      go false e = absurd (find_none-fresh (applies_to before.set.edges (Some source) (Some destination)) (refusals_of (Connect [] [])) NotInput granted
          (Contains-later NoSource NotInput (NoDestination ∷ NotOutput ∷ behind) (Contains-later NoDestination NotInput (NotOutput ∷ behind) (Contains-later NotOutput NotInput behind (Contains-first NotInput further)))) (ap not e))

  module _ (new : List Edge) (joins_them : Joins before.held.ports source destination before.set.edges new) where
    abbrev last : Edge
    last = record { source = source.id; destination = destination.id; mark = joins_them.mark }

    connected-ends : HaveEnds before.held.ports new
    connected-ends = record {
      sources = λ edge m. first edge (at_end before.set.edges last edge (subst (λ es. Contains es edge) joins_them.made m));
      destinations = λ edge m. second edge (at_end before.set.edges last edge (subst (λ es. Contains es edge) joins_them.made m));
    }
      where
        first : (edge : Edge) → Contains before.set.edges edge ⊎ (last ≡ edge) → IsEndOf before.held.ports Out edge.source
        first edge (inl m) = is.ends.sources edge m
        first edge (inr e) = (source, source-listed, ap (λ (x : Edge). x.source.0) e, source-way)

        second : (edge : Edge) → Contains before.set.edges edge ⊎ (last ≡ edge) → IsEndOf before.held.ports In edge.destination
        second edge (inl m) = is.ends.destinations edge m
        second edge (inr e) = (destination, destination-listed, ap (λ (x : Edge). x.destination.0) e, destination-way)

    pub connected-network : (room : ℕ) → before.set.room ≤ room → IsNetwork (record before { set = record { edges = new; room = room } })
    connected-network room wider = network-kept before is before.held is.registered (omega arith) refl refl new connected-ends room wider before.master before.timeout

    pub connected-state : (number room : ℕ) → state_of (record before { set = record { edges = new; room = room } }) ≡ effect (state_of before) number (Connect from to)
    connected-state number room =
        same_states (state_of (record before { set = record { edges = new; room = room } })) (effect (state_of before) number (Connect from to)) refl refl
        (joins_them.effect (state_of before) before.held.ports from to (StandsFor-network before is.registered is.ends) named aimed
        ∙ ap (λ (m : Mark). connections before.held.ports before.set.edges ++ record { source = from; destination = to; mark = m } ∷ [])
        (joins_them.marked (AreNamed-network before.held is.registered before.set.edges is.ends) source-listed destination-listed source-way destination-way
        ∙ ap₂ (mark_of (connections before.held.ports before.set.edges)) source-name destination-name))
        refl refl

-- ---- refusals of connections

module _ (before : Network) (is : IsNetwork before) (from to : List ℕ) (source destination : Option Port) (named : source ≡ port_by before.held from) (aimed : destination ≡ port_by before.held to) (o : Option Refusal) where
  pub connect-refusal : RefusesConnect before.set.edges source destination → connect_refusal before.set.edges source destination ≡ o → refusal (state_of before) (Connect from to) ≡ o
  connect-refusal refuses e = sym (refuses (state_of before) before.held.ports from to (StandsFor-network before is.registered is.ends) named aimed) ∙ e

  pub disconnect-refusal : RefusesDisconnect before.set.edges source destination → disconnect_refusal before.set.edges source destination ≡ o → refusal (state_of before) (Disconnect from to) ≡ o
  disconnect-refusal refuses e = sym (refuses (state_of before) before.held.ports from to (StandsFor-network before is.registered is.ends) named aimed) ∙ e
