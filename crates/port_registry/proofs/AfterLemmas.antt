-- What each call makes of a registry is what the command makes of the state.
use Rattle.std.proofs.Common.{◌≡◌, ℕ, Bool, true, false, cond, not, if◌then◌else◌, List, [], ◌∷◌, ◌++◌, map, filter, Option, Some, None, is_none, Result, Ok, Err, OnOk, OnErr, refl, sym, ◌∙◌, ap, subst}
use Rattle.std.specs.Str.{bytes_eq}
use Rattle.session_laws.specs.jack_types.specs.Names.{client_part}
use Rattle.session_laws.specs.jack_types.specs.Ports.{way_flags}
use Rattle.session_laws.specs.jack_types.specs.declared.commands.Command.{Command}
use Rattle.session_laws.specs.jack_types.specs.declared.commands.Command.TheVariants.{Open, Close, Activate, Deactivate, Register, Unregister, Slow}
use Rattle.session_laws.specs.jack_types.specs.declared.kinds.Kind.{Kind}
use Rattle.session_laws.specs.jack_types.specs.declared.ports.Client.{Client}
use Rattle.session_laws.specs.jack_types.specs.declared.ports.ClientId.{ClientId}
use Rattle.session_laws.specs.jack_types.specs.declared.ports.Node.TheVariants.{Client as ClientNode}
use Rattle.session_laws.specs.jack_types.specs.declared.ports.Port.{Port}
use Rattle.session_laws.specs.jack_types.specs.declared.ports.PortFlags.{PortFlags}
use Rattle.session_laws.specs.jack_types.specs.declared.ports.PortId.{PortId}
use Rattle.session_laws.specs.jack_types.specs.declared.ports.PortKind.{PortKind}
use Rattle.session_laws.specs.jack_types.specs.declared.ports.Way.{Way}
use Rattle.session_laws.specs.jack_types.specs.declared.ports.Way.TheVariants.{In, Out}
use Rattle.session_laws.specs.jack_types.specs.declared.replies.Refusal.{Refusal}
use Rattle.session_laws.specs.session_model.specs.Commands.{effect, after, refusal}
use Rattle.session_laws.specs.session_model.specs.Ids.{open_port, open_ports, way_of}
use Rattle.session_laws.specs.session_model.specs.State.{State, OpenClient, OpenPort}
use Rattle.port_registry.specs.Registered.{Registered, open_client, open_clients, state_of, has_name, is_named, is_of, with_opened, without_client, with_active, with_slow, with_port, without_port, client_port}
use Rattle.session_laws.proofs.FilterLemmas.{map-push, map-filter_after, map-changed, map-unchanged}

-- a state without edges, of these clients and ports
state_with : List OpenClient → List OpenPort → State
state_with clients ports = record { clients = clients; ports = ports; edges = []; master = None; timeout = None }

same_states : (a b : List OpenClient) (p q : List OpenPort) → a ≡ b → p ≡ q → state_with a p ≡ state_with b q
unfolding state_with
same_states a b p q e f i = record { clients = e i; ports = f i; edges = []; master = None; timeout = None }

-- the direction shows in the flags
pub way_of-client_port : (id : PortId) (name : List ℕ) (way : Way) (kind : PortKind) (birth : ℕ) (client : Client) → way_of (client_port id name way kind birth client) ≡ way
way_of-client_port id name In kind birth client = refl
way_of-client_port id name Out kind birth client = refl

-- a port as a client registers it
pub registered-port : (id : PortId) (name : List ℕ) (way : Way) (kind : PortKind) (birth : ℕ) (client : Client) (flags : PortFlags) → flags.0 ≡ way_flags way
    → (let port : Port = record { id = id; name = name; birth = birth; node = ClientNode client.id; flags = flags; kind = kind; active = client.active } in port) ≡ client_port id name way kind birth client
registered-port id name way kind birth client flags e i = record { id = id; name = name; birth = birth; node = ClientNode client.id; flags = record { 0 = e i }; kind = kind; active = client.active }

module _ (held : Registered) where
  effect-opened : (id : ClientId) (name : List ℕ) (kind : Kind) (birth : ℕ) → state_of (with_opened id name kind birth held) ≡ effect (state_of held) birth (Open name kind)
  unfolding state_with
  effect-opened id name kind birth = same_states _ _ _ _ (map-push open_client held.clients _) refl

  effect-closed : (name : List ℕ) (number : ℕ) → state_of (without_client name held) ≡ effect (state_of held) number (Close name)
  unfolding state_with
  effect-closed name number = same_states _ _ _ _
      (map-filter_after open_client (λ old. not (bytes_eq old.name name)) held.clients)
      (map-filter_after open_port (λ port. not (bytes_eq (client_part port.name) name)) held.ports)

  changed_ports : (name : List ℕ) (active : Bool) → open_ports (with_active name active held).ports ≡ open_ports held.ports
  changed_ports name active = map-unchanged open_port (λ port. if is_of name port then record port { active = active } else port) (λ port. go port (is_of name port)) held.ports
    where
      go : (port : Port) (b : Bool) → open_port (cond b (record port { active = active }) port) ≡ open_port port
      go port true = refl
      go port false = refl

  changed_clients : (name : List ℕ) (active : Bool) → open_clients (with_active name active held).clients ≡ map (λ (old : OpenClient). if bytes_eq old.name name then record old { active = active } else old) (open_clients held.clients)
  changed_clients name active = map-changed open_client (λ client. if has_name name client then record client { active = active } else client)
      (λ (old : OpenClient). if bytes_eq old.name name then record old { active = active } else old) (λ client. go client (has_name name client)) held.clients
    where
      go : (client : Client) (b : Bool) → open_client (cond b (record client { active = active }) client) ≡ cond b (record (open_client client) { active = active }) (open_client client)
      go client true = refl
      go client false = refl

  effect-activated : (name : List ℕ) (number : ℕ) → state_of (with_active name true held) ≡ effect (state_of held) number (Activate name)
  unfolding state_with
  effect-activated name number = same_states _ _ _ _ (changed_clients name true) (changed_ports name true)

  effect-deactivated : (name : List ℕ) (number : ℕ) → state_of (with_active name false held) ≡ effect (state_of held) number (Deactivate name)
  unfolding state_with
  effect-deactivated name number = same_states _ _ _ _ (changed_clients name false) (changed_ports name false)

  effect-slowed : (name : List ℕ) (cycles number : ℕ) → state_of (with_slow name cycles held) ≡ effect (state_of held) number (Slow name cycles)
  unfolding state_with
  effect-slowed name cycles number = same_states _ _ _ _
      (map-changed open_client (λ client. if has_name name client then record client { slow = cycles } else client)
      (λ (old : OpenClient). if bytes_eq old.name name then record old { slow = cycles } else old) (λ client. go client (has_name name client)) held.clients)
      refl
    where
      go : (client : Client) (b : Bool) → open_client (cond b (record client { slow = cycles }) client) ≡ cond b (record (open_client client) { slow = cycles }) (open_client client)
      go client true = refl
      go client false = refl

  effect-registered : (id : PortId) (name : List ℕ) (way : Way) (kind : PortKind) (birth : ℕ) (client : Client)
      → state_of (with_port (client_port id name way kind birth client) held) ≡ effect (state_of held) birth (Register name way kind)
  unfolding state_with
  effect-registered id name way kind birth client = same_states _ _ _ _ refl
      (map-push open_port held.ports (client_port id name way kind birth client)
      ∙ ap (λ (w : Way). open_ports held.ports ++ (let port : OpenPort = record { name = name; way = w; kind = kind; birth = birth } in port) ∷ []) (way_of-client_port id name way kind birth client))

  effect-unregistered : (name : List ℕ) (number : ℕ) → state_of (without_port name held) ≡ effect (state_of held) number (Unregister name)
  unfolding state_with
  effect-unregistered name number = same_states _ _ _ _ refl (map-filter_after open_port (λ port. not (bytes_eq port.name name)) held.ports)

  -- where nothing refuses, the state behind is what the command makes of it
  accepted : (new : State) (number : ℕ) (command : Command) → refusal (state_of held) command ≡ None → new ≡ effect (state_of held) number command → new ≡ after (state_of held) number command
  accepted new number command none e = e ∙ ap (λ (r : Option Refusal). if is_none r then effect (state_of held) number command else state_of held) (sym none)

  pub after-refused : (number : ℕ) (command : Command) (given : Refusal) → refusal (state_of held) command ≡ Some given → state_of held ≡ after (state_of held) number command
  after-refused number command given e = ap (λ (r : Option Refusal). if is_none r then effect (state_of held) number command else state_of held) (sym e)

  pub after-opened : (id : ClientId) (name : List ℕ) (kind : Kind) (birth : ℕ) → refusal (state_of held) (Open name kind) ≡ None → state_of (with_opened id name kind birth held) ≡ after (state_of held) birth (Open name kind)
  after-opened id name kind birth none = accepted _ birth (Open name kind) none (effect-opened id name kind birth)

  pub after-closed : (name : List ℕ) (number : ℕ) → refusal (state_of held) (Close name) ≡ None → state_of (without_client name held) ≡ after (state_of held) number (Close name)
  after-closed name number none = accepted _ number (Close name) none (effect-closed name number)

  pub after-activated : (name : List ℕ) (number : ℕ) → refusal (state_of held) (Activate name) ≡ None → state_of (with_active name true held) ≡ after (state_of held) number (Activate name)
  after-activated name number none = accepted _ number (Activate name) none (effect-activated name number)

  pub after-deactivated : (name : List ℕ) (number : ℕ) → refusal (state_of held) (Deactivate name) ≡ None → state_of (with_active name false held) ≡ after (state_of held) number (Deactivate name)
  after-deactivated name number none = accepted _ number (Deactivate name) none (effect-deactivated name number)

  pub after-slowed : (name : List ℕ) (cycles number : ℕ) → refusal (state_of held) (Slow name cycles) ≡ None → state_of (with_slow name cycles held) ≡ after (state_of held) number (Slow name cycles)
  after-slowed name cycles number none = accepted _ number (Slow name cycles) none (effect-slowed name cycles number)

  pub after-registered : (id : PortId) (name : List ℕ) (way : Way) (kind : PortKind) (birth : ℕ) (client : Client) → refusal (state_of held) (Register name way kind) ≡ None
      → state_of (with_port (client_port id name way kind birth client) held) ≡ after (state_of held) birth (Register name way kind)
  after-registered id name way kind birth client none = accepted _ birth (Register name way kind) none (effect-registered id name way kind birth client)

  pub after-unregistered : (name : List ℕ) (number : ℕ) → refusal (state_of held) (Unregister name) ≡ None → state_of (without_port name held) ≡ after (state_of held) number (Unregister name)
  after-unregistered name number none = accepted _ number (Unregister name) none (effect-unregistered name number)
