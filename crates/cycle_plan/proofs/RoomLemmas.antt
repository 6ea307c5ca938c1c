-- There is room for each port and client that nothing refuses.
--     ports-below      where a port may be registered, there are fewer than 2,064
use Rattle.std.proofs.Common.{◌≡◌, ℕ, Option, Some, None, is_none, Result, Ok, Err, IfOk, OnErr, suc, ◌+◌, ◌*◌, ◌<◌, ◌≤◌, Bool, true, false, cond, not, ◌⊎◌, inl, inr, List, [], ◌∷◌, length, filter, map, count_by, Contains, refl, sym, ◌∙◌, ap, ap₂, subst, arith, true≢false, length-append}
use Rattle.std.specs.Option.{option_map}
use Rattle.std.specs.Str.{bytes_eq}
use Rattle.std.proofs.lemmas.List.{length-map}
use Rattle.graph_word.specs.jack_types.specs.Names.{client_part}
use Rattle.graph_word.specs.jack_types.specs.declared.commands.Command.TheVariants.{Open, Register}
use Rattle.graph_word.specs.jack_types.specs.declared.kinds.Kind.{Kind}
use Rattle.graph_word.specs.jack_types.specs.declared.ports.Client.{Client}
use Rattle.graph_word.specs.jack_types.specs.declared.ports.ClientId.{ClientId}
use Rattle.graph_word.specs.jack_types.specs.declared.ports.Edge.{Edge}
use Rattle.graph_word.specs.jack_types.specs.declared.ports.PortId.{PortId}
use Rattle.graph_word.specs.jack_types.specs.declared.ports.PortKind.{PortKind}
use Rattle.graph_word.specs.jack_types.specs.declared.replies.No.{No}
use Rattle.graph_word.specs.jack_types.specs.declared.replies.Refusal.{Refusal}
use Rattle.graph_word.specs.jack_types.specs.declared.replies.Refusal.TheVariants.{IsSystem, NameTaken, NoClient, PortsFull}
use Rattle.graph_word.specs.jack_types.specs.declared.ports.Port.{Port}
use Rattle.graph_word.specs.jack_types.specs.declared.ports.Way.{Way}
use Rattle.graph_word.specs.jack_types.specs.declared.ports.Way.TheVariants.{In, Out}
use Rattle.graph_word.specs.session_model.specs.Commands.{applies, is_input, is_way, refusal, refusals_of}
use Rattle.graph_word.specs.session_model.specs.Ids.{open_port}
use Rattle.graph_word.specs.session_model.specs.Samples.{below}
use Rattle.graph_word.specs.session_model.specs.State.{OpenClient, is_system, system_name}
use Rattle.port_registry.specs.session_laws.proofs.CycleLemmas.{bytes_same, filter-passes, find-contains, find-passes}
use Rattle.port_registry.specs.session_laws.proofs.ListLemmas.{Contains-filtered}
use Rattle.port_registry.specs.session_laws.proofs.LoopLemmas.{Contains-cases, Contains-first, Contains-later}
use Rattle.port_registry.specs.session_laws.proofs.SequentialLemmas.{length-below}
use Rattle.port_registry.specs.session_laws.proofs.SoundLemmas.{refused_not}
use Rattle.port_registry.specs.session_laws.proofs.FilterLemmas.{count-cons, find-map_after, length-filter_within}
use Rattle.port_registry.proofs.RefusalLemmas.{open-few, register-few}
use Rattle.port_registry.specs.Answers.{Answers, IsMemory}
use Rattle.port_registry.specs.Registered.{IsPlaced, IsRegistered, Registered, client_by, client_port, has_name, is_of, open_client, state_of as registry_state, system_entry, system_port, system_ports, unlisted, with_opened, with_port}
use Rattle.cycle_plan.specs.Graphs.{HaveEnds}
use Rattle.cycle_plan.proofs.MovedLemmas.{Stays, Stays-opened, Stays-registered, Stays-same, device_ports, length-fewer}
use lib.Pointwise.{bytes_decides}

none_below : {n : ℕ} → n < 0 → ⊥
none_below p = omega arith

-- a number for each client, added up
abbrev sum_of : (Client → ℕ) → List Client → ℕ
sum_of f [] = 0
sum_of f (client ∷ clients) = f client + sum_of f clients

sum_of-one : (f : Client → ℕ) (clients : List Client) (client : Client) → Contains clients client → f client ≤ sum_of f clients
sum_of-one f [] client m = absurd (none_below m.1)
sum_of-one f (first ∷ clients) client m = go (Contains-cases first client clients m) (λ k. sum_of-one f clients client k)
  where
    go : (first ≡ client) ⊎ Contains clients client → (Contains clients client → f client ≤ sum_of f clients) → f client ≤ f first + sum_of f clients
    go (inl e) rest = let same : f first ≡ f client = ap f e in omega (arith, same)
    go (inr k) rest = let more : f client ≤ sum_of f clients = rest k in omega (arith, more)

sum_of-three : (f g h : Client → ℕ) (most : ℕ) → ((client : Client) → f client + g client + h client ≤ most) → (clients : List Client) → sum_of f clients + sum_of g clients + sum_of h clients ≤ most * length clients
sum_of-three f g h most each [] = omega arith
sum_of-three f g h most each (client ∷ clients) =
    let here : f client + g client + h client ≤ most = each client in
    let rest : sum_of f clients + sum_of g clients + sum_of h clients ≤ most * length clients = sum_of-three f g h most each clients in
    grind (arith, here, rest)

-- the ports that pass a test, and those that do not
length-split : (test : Port → Bool) (ports : List Port) → length ports ≡ length (filter test ports) + length (filter (λ port. not (test port)) ports)
length-split test [] = refl
length-split test (port ∷ ports) = go (test port) (length-split test ports)
  where
    go : (b : Bool) → length ports ≡ length (filter test ports) + length (filter (λ p. not (test p)) ports)
        → suc (length ports) ≡ length (cond b (port ∷ filter test ports) (filter test ports)) + length (cond (not b) (port ∷ filter (λ p. not (test p)) ports) (filter (λ p. not (test p)) ports))
    go true e = omega (arith, e)
    go false e = omega (arith, e)

-- the ports of each client, added up
ports-sum : (bound : Client → ℕ) (clients : List Client) (ports : List Port) → ((port : Port) → Contains ports port → (client : Client) × Contains clients client × (is_of client.name port ≡ true))
    → ((client : Client) → Contains clients client → length (filter (is_of client.name) ports) ≤ bound client) → length ports ≤ sum_of bound clients
ports-sum bound [] [] owned each = omega arith
ports-sum bound [] (port ∷ ports) owned each = absurd (none_below (owned port (Contains-first port ports)).1.1)
ports-sum bound (client ∷ clients) ports owned each =
    let parts : length ports ≡ length (filter (is_of client.name) ports) + length (filter (λ port. not (is_of client.name port)) ports) = length-split (is_of client.name) ports in
    let here : length (filter (is_of client.name) ports) ≤ bound client = each client (Contains-first client clients) in
    let rest : length (filter (λ port. not (is_of client.name port)) ports) ≤ sum_of bound clients = ports-sum bound clients (filter (λ port. not (is_of client.name port)) ports) others fewer in
    omega (arith, parts, here, rest)
  where
    others : (port : Port) → Contains (filter (λ p. not (is_of client.name p)) ports) port → (other : Client) × Contains clients other × (is_of other.name port ≡ true)
    others port m = go (owned port (Contains-filtered (λ p. not (is_of client.name p)) ports port m))
      where
        go : ((other : Client) × Contains (client ∷ clients) other × (is_of other.name port ≡ true)) → (other : Client) × Contains clients other × (is_of other.name port ≡ true)
        go w = by (Contains-cases client w.0 clients w.1)
          where
            by : (client ≡ w.0) ⊎ Contains clients w.0 → (other : Client) × Contains clients other × (is_of other.name port ≡ true)
            by (inl e) = absurd (true≢false (sym (filter-passes (λ p. not (is_of client.name p)) ports port m) ∙ ap not (ap (λ (c : Client). is_of c.name port) e ∙ w.2)))
            by (inr k) = (w.0, k, w.2)

    fewer : (other : Client) → Contains clients other → length (filter (is_of other.name) (filter (λ p. not (is_of client.name p)) ports)) ≤ bound other
    fewer other m =
        let less : length (filter (is_of other.name) (filter (λ p. not (is_of client.name p)) ports)) ≤ length (filter (is_of other.name) ports) = length-fewer (is_of other.name) (λ p. not (is_of client.name p)) ports in
        let all : length (filter (is_of other.name) ports) ≤ bound other = each other (Contains-later client other clients m) in
        omega (arith, less, all)

-- the ports of a list are its inputs and its outputs
length-ways : (ports : List Port) → length ports ≡ count_by (λ port. is_way In (open_port port)) ports + count_by (λ port. is_way Out (open_port port)) ports
length-ways [] = refl
length-ways (port ∷ ports) =
    let ins : count_by (λ (p : Port). is_way In (open_port p)) (port ∷ ports) ≡ cond (is_way In (open_port port)) 1 0 + count_by (λ (p : Port). is_way In (open_port p)) ports = count-cons (λ (p : Port). is_way In (open_port p)) port ports in
    let outs : count_by (λ (p : Port). is_way Out (open_port p)) (port ∷ ports) ≡ cond (is_way Out (open_port port)) 1 0 + count_by (λ (p : Port). is_way Out (open_port p)) ports = count-cons (λ (p : Port). is_way Out (open_port p)) port ports in
    let one : cond (is_way In (open_port port)) 1 0 + cond (is_way Out (open_port port)) 1 0 ≡ 1 = go (is_input (open_port port)) in
    omega (arith, ins, outs, one, length-ways ports)
  where
    go : (b : Bool) → cond b 1 0 + cond (not b) 1 0 ≡ 1
    go true = refl
    go false = refl

module _ (held : Registered) (r : IsRegistered held) (device : device_ports held.ports ≤ 16) where
  few-each : (name : List ℕ) → length (filter (is_of name) held.ports) ≤ 32
  few-each name =
      let all : length (filter (is_of name) held.ports) ≡ count_by (λ port. is_way In (open_port port)) (filter (is_of name) held.ports) + count_by (λ port. is_way Out (open_port port)) (filter (is_of name) held.ports) = length-ways (filter (is_of name) held.ports) in
      let ins : count_by (λ port. is_way In (open_port port)) (filter (is_of name) held.ports) ≤ 16 = r.few_ports name In in
      let outs : count_by (λ port. is_way Out (open_port port)) (filter (is_of name) held.ports) ≤ 16 = r.few_ports name Out in
      omega (arith, all, ins, outs)

  owned-by : (port : Port) → Contains held.ports port → (client : Client) × Contains held.clients client × (is_of client.name port ≡ true)
  owned-by port p = let one : IsPlaced held.clients port = r.placed port p in (one.client, one.listed, (bytes_decides (client_part port.name) one.client.name).1 (sym one.named))

  -- a client that lacks ports of a direction
  module _ (name : List ℕ) (client : Client) (listed : Contains held.clients client) (named : client.name ≡ name) (other : is_system name ≡ false)
      (way : Way) (few : count_by (λ port. is_way way (open_port port)) (filter (is_of name) held.ports) < 16) where
    abbrev lacks_device : Client → ℕ
    lacks_device c = cond (is_system c.name) 16 0

    abbrev lacks_one : Client → ℕ
    lacks_one c = cond (is_system c.name) 0 (cond (bytes_eq c.name name) 1 0)

    abbrev bound : Client → ℕ
    bound c = cond (is_system c.name) 16 (cond (bytes_eq c.name name) 31 32)

    few-here : length (filter (is_of name) held.ports) ≤ 31
    few-here =
        let all : length (filter (is_of name) held.ports) ≡ count_by (λ port. is_way In (open_port port)) (filter (is_of name) held.ports) + count_by (λ port. is_way Out (open_port port)) (filter (is_of name) held.ports) = length-ways (filter (is_of name) held.ports) in
        let ins : count_by (λ port. is_way In (open_port port)) (filter (is_of name) held.ports) ≤ 16 = r.few_ports name In in
        let outs : count_by (λ port. is_way Out (open_port port)) (filter (is_of name) held.ports) ≤ 16 = r.few_ports name Out in
        go way few all ins outs
      where
        go : (w : Way) → count_by (λ port. is_way w (open_port port)) (filter (is_of name) held.ports) < 16
            → length (filter (is_of name) held.ports) ≡ count_by (λ port. is_way In (open_port port)) (filter (is_of name) held.ports) + count_by (λ port. is_way Out (open_port port)) (filter (is_of name) held.ports)
            → count_by (λ port. is_way In (open_port port)) (filter (is_of name) held.ports) ≤ 16 → count_by (λ port. is_way Out (open_port port)) (filter (is_of name) held.ports) ≤ 16
            → length (filter (is_of name) held.ports) ≤ 31
        go In less all ins outs = omega (arith, less, all, outs)
        go Out less all ins outs = omega (arith, less, all, ins)

    within : (c : Client) → length (filter (is_of c.name) held.ports) ≤ bound c
    within c = go (is_system c.name) refl (bytes_eq c.name name) refl
      where
        go : (s : Bool) → is_system c.name ≡ s → (t : Bool) → bytes_eq c.name name ≡ t → length (filter (is_of c.name) held.ports) ≤ cond s 16 (cond t 31 32)
        go true e t f = subst (λ n. length (filter (is_of n) held.ports) ≤ 16) (sym (bytes_same c.name system_name e)) device
        go false e true f = subst (λ n. length (filter (is_of n) held.ports) ≤ 31) (sym (bytes_same c.name name f)) few-here
        go false e false f = few-each c.name

    pub ports-below : length held.ports < 2064
    ports-below =
        let all : length held.ports ≤ sum_of bound held.clients = ports-sum bound held.clients held.ports owned-by (λ c m. within c) in
        let three : sum_of bound held.clients + sum_of lacks_device held.clients + sum_of lacks_one held.clients ≤ 32 * length held.clients = sum_of-three bound lacks_device lacks_one 32 at-most held.clients in
        let sixteen : 16 ≤ sum_of lacks_device held.clients = sum_of-one lacks_device held.clients system_entry (find-contains (has_name system_name) held.clients system_entry r.system) in
        let one : lacks_one client ≤ sum_of lacks_one held.clients = sum_of-one lacks_one held.clients client listed in
        let is_one : lacks_one client ≡ 1 = ones in
        let clients : length held.clients ≤ 65 = r.few_clients in
        omega (arith, all, three, sixteen, one, is_one, clients)
      where
        at-most : (c : Client) → bound c + lacks_device c + lacks_one c ≤ 32
        at-most c = go (is_system c.name) (bytes_eq c.name name)
          where
            go : (s t : Bool) → cond s 16 (cond t 31 32) + cond s 16 0 + cond s 0 (cond t 1 0) ≤ 32
            go true t = omega arith
            go false true = omega arith
            go false false = omega arith

        ones : lacks_one client ≡ 1
        ones = ap (λ n. cond (is_system n) 0 (cond (bytes_eq n name) 1 0)) named ∙ ap (λ s. cond s 0 (cond (bytes_eq name name) 1 0)) other ∙ ap (λ t. cond t 1 0) ((bytes_decides name name).1 refl)

-- what is granted to open, or to register, has room
module _ (held : Registered) (r : IsRegistered held) where
  is-memory : {T : Type 0} (o : Option Refusal) (answered : Result T No) → IsMemory answered → Answers o answered → o ≡ None
  is-memory {T} o answered memory answer = subst (λ (a : Result T No). Answers o a) memory answer

  pub open-room : {T : Type 0} (name : List ℕ) (kind : Kind) (answered : Result T No) → 65 ≤ held.client_room → Answers (refusal (registry_state held) (Open name kind)) answered
      → (length held.clients < held.client_room → IsMemory answered → ⊥) → IsMemory answered → ⊥
  open-room name kind answered wide answer room memory =
      let few : length held.clients ≤ 64 = open-few held r name kind (is-memory (refusal (registry_state held) (Open name kind)) answered memory answer) in
      room (omega (arith, few, wide)) memory

  module _ (name : List ℕ) (way : Way) (kind : PortKind) (none : refusal (registry_state held) (Register name way kind) ≡ None) where
    not-refused : (other : Refusal) → Contains (refusals_of (Register name way kind)) other → applies (registry_state held) (Register name way kind) other ≡ false
    not-refused other m = refused_not (registry_state held) (Register name way kind) (refusals_of (Register name way kind)) other (ap is_none none) m

    pub register-other : is_system (client_part name) ≡ false
    register-other = not-refused IsSystem (Contains-later NoClient IsSystem (IsSystem ∷ NameTaken ∷ PortsFull ∷ []) (Contains-first IsSystem (NameTaken ∷ PortsFull ∷ [])))

    pub register-client : (client : Client) × (client_by held (client_part name) ≡ Some client)
    register-client = go (client_by held (client_part name)) refl
      where
        there : is_none (client_by held (client_part name)) ≡ false
        there = sym (ap is_none (find-map_after open_client (λ (client : OpenClient). bytes_eq client.name (client_part name)) held.clients) ∙ mapped (client_by held (client_part name)))
            ∙ not-refused NoClient (Contains-first NoClient (IsSystem ∷ NameTaken ∷ PortsFull ∷ []))
          where
            mapped : (o : Option Client) → is_none (option_map open_client o) ≡ is_none o
            mapped None = refl
            mapped (Some client) = refl

        go : (o : Option Client) → client_by held (client_part name) ≡ o → (client : Client) × (client_by held (client_part name) ≡ Some client)
        go None e = absurd (true≢false (ap is_none (sym e) ∙ there))
        go (Some client) e = (client, e)

  pub register-room : {T : Type 0} (name : List ℕ) (way : Way) (kind : PortKind) (answered : Result T No) → device_ports held.ports ≤ 16 → 2064 ≤ held.port_room → Answers (refusal (registry_state held) (Register name way kind)) answered
      → (length held.ports < held.port_room → IsMemory answered → ⊥) → IsMemory answered → ⊥
  register-room name way kind answered device wide answer room memory =
      let none : refusal (registry_state held) (Register name way kind) ≡ None = is-memory (refusal (registry_state held) (Register name way kind)) answered memory answer in
      let w = register-client name way kind none in
      let low : length held.ports < 2064 = ports-below held r device (client_part name) w.0 (find-contains (has_name (client_part name)) held.clients w.0 w.1) (bytes_same (w.0).name (client_part name) (find-passes (has_name (client_part name)) held.clients w.0 w.1))
      (register-other name way kind none) way (register-few held r name way kind none) in
      room (omega (arith, low, wide)) memory

  -- whatever was answered, no port went
  pub Stays-answered_register : (new : Registered) (name : List ℕ) (way : Way) (kind : PortKind) (birth : ℕ) (answered : Result PortId No) → Answers (refusal (registry_state held) (Register name way kind)) answered
      → IfOk answered (λ (id : PortId). (client : Client) → client_by held (client_part name) ≡ Some client → new ≡ with_port (client_port id name way kind birth client) held) → OnErr answered (new ≡ held) → Stays held new
  Stays-answered_register new name way kind birth (Ok id) answer made same =
      let w = register-client name way kind answer in
      Stays-registered (client_port id name way kind birth w.0) held new (made w.0 w.1) (register-other name way kind answer)
  Stays-answered_register new name way kind birth (Err refused) answer made same = Stays-same held new same

pub Stays-answered_open : (held new : Registered) (name : List ℕ) (kind : Kind) (birth : ℕ) (answered : Result ClientId No) → IfOk answered (λ (id : ClientId). new ≡ with_opened id name kind birth held) → OnErr answered (new ≡ held) → Stays held new
Stays-answered_open held new name kind birth (Ok id) made same = Stays-opened id name kind birth held new made
Stays-answered_open held new name kind birth (Err other) made same = Stays-same held new same

-- the device's ports at opening
pub device-opening : (ports : List Port) (capture playback : ℕ) → map unlisted ports ≡ system_ports capture playback → capture ≤ 8 → playback ≤ 8 → device_ports ports ≤ 16
device-opening ports capture playback e few fewer =
    let all : length ports ≡ capture + playback =
    sym (length-map ports unlisted) ∙ ap length e ∙ length-append (map (system_port Out) (below capture)) (map (system_port In) (below playback))
    ∙ ap₂ ◌+◌ (length-map (below capture) (system_port Out) ∙ length-below capture) (length-map (below playback) (system_port In) ∙ length-below playback) in
    let some : length (filter (is_of system_name) ports) ≤ length ports = length-filter_within (is_of system_name) ports in
    omega (arith, all, some, few, fewer)

pub HaveEnds-none : (ports : List Port) (edges : List Edge) → edges ≡ [] → HaveEnds ports edges
HaveEnds-none ports edges none = record {
  sources = λ edge m. absurd (none_below (subst (λ es. Contains es edge) none m).1);
  destinations = λ edge m. absurd (none_below (subst (λ es. Contains es edge) none m).1);
}
