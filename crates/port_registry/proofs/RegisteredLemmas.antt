-- What is true of every registry stays true as clients and ports come, go and change.
use Rattle.std.proofs.Common.{◌≡◌, ℕ, zero, suc, ◌+◌, ◌<◌, ◌≤◌, Bool, true, false, cond, not, ◌&&◌, if◌then◌else◌, List, [], ◌∷◌, ◌++◌, length, map, filter, find, count_by, slice_get, Contains, Option, Some, None, is_some, ◌⊎◌, inl, inr, refl, sym, ◌∙◌, ap, subst, arith, true≢false, length-append}
use Rattle.std.specs.Option.{option_map}
use Rattle.std.specs.Str.{bytes_eq}
use Rattle.session_laws.specs.jack_types.specs.Names.{client_part}
use Rattle.session_laws.specs.jack_types.specs.declared.kinds.Kind.{Kind}
use Rattle.session_laws.specs.jack_types.specs.declared.ports.Client.{Client}
use Rattle.session_laws.specs.jack_types.specs.declared.ports.ClientId.{ClientId}
use Rattle.session_laws.specs.jack_types.specs.declared.ports.Node.{Node}
use Rattle.session_laws.specs.jack_types.specs.declared.ports.Node.TheVariants.{Client as ClientNode}
use Rattle.session_laws.specs.jack_types.specs.declared.ports.Port.{Port}
use Rattle.session_laws.specs.jack_types.specs.declared.ports.PortId.{PortId}
use Rattle.session_laws.specs.jack_types.specs.declared.ports.PortKind.{PortKind}
use Rattle.session_laws.specs.jack_types.specs.declared.ports.Way.{Way}
use Rattle.session_laws.specs.jack_types.specs.declared.ports.Way.TheVariants.{In, Out}
use Rattle.session_laws.specs.session_model.specs.Commands.{is_way}
use Rattle.session_laws.specs.session_model.specs.Ids.{open_port, way_of}
use Rattle.session_laws.specs.session_model.specs.Soundness.{Apart}
use Rattle.session_laws.specs.session_model.specs.State.{is_system, system_name}
use Rattle.session_laws.proofs.CycleLemmas.{bytes_same}
use Rattle.session_laws.proofs.LoopLemmas.{Contains-cases, Contains-later, Contains-first}
use Rattle.session_laws.proofs.LoopFreeLemmas.{Contains-append_cases, Contains-append_left, Contains-append_right}
use Rattle.session_laws.proofs.PlaceLemmas.{filter-contains, filter-keeps}
use Rattle.session_laws.proofs.SoundLemmas.{Apart-filter, Apart-push, Apart-map, map-contains, contains-map}
use lib.Pointwise.{bytes_decides}
use Rattle.port_registry.specs.Registered.{Registered, IsRegistered, IsPlaced, open_client, has_name, is_named, is_of, node_for, system_node, system_entry, client_by, port_by, with_opened, without_client, with_active, with_slow, with_port, without_port, client_port}
use Rattle.port_registry.proofs.AfterLemmas.{way_of-client_port}
use Rattle.session_laws.proofs.FilterLemmas.{count-fewer, count-changed, count-cons, count-append, filter-push, find-push_kept, find-filter_kept, find-changed, length-filter_within}
use Rattle.port_registry.proofs.PlaceLemmas.{some_same, none_some, IsOnlyAt, Apart-place}

none_below : {n : ℕ} → n < 0 → ⊥
none_below p = omega arith

pub told : (b : Bool) → (b ≡ true → ⊥) → b ≡ false
told true h = absurd (h refl)
told false h = refl

-- filters keep what passes only
pub filter-passed : {X : Type 0} (test : X → Bool) (xs : List X) (x : X) → Contains (filter test xs) x → test x ≡ true
filter-passed test [] x m = absurd (none_below m.1)
filter-passed {X} test (y ∷ ys) x m = go (test y) refl m (filter-passed test ys x)
  where
    go : (b : Bool) → test y ≡ b → Contains (cond b (y ∷ filter test ys) (filter test ys)) x → (Contains (filter test ys) x → test x ≡ true) → test x ≡ true
    go true e k rest = elim (Contains-cases y x (filter test ys) k) [ inl same ↦ subst (λ z. test z ≡ true) same e | inr later ↦ rest later ]
    go false e k rest = rest k

-- the item at the end, or one before
pub at_end : {X : Type 0} (xs : List X) (new x : X) → Contains (xs ++ new ∷ []) x → Contains xs x ⊎ (new ≡ x)
at_end {X} xs new x m = go (Contains-append_cases xs (new ∷ []) x m)
  where
    last : (new ≡ x) ⊎ Contains [] x → Contains xs x ⊎ (new ≡ x)
    last (inl e) = inr e
    last (inr k) = absurd (none_below k.1)

    go : Contains xs x ⊎ Contains (new ∷ []) x → Contains xs x ⊎ (new ≡ x)
    go (inl k) = inl k
    go (inr k) = last (Contains-cases new x [] k)

-- nothing of the name where nothing is found
pub find_none-fresh : {X : Type 0} (test : X → Bool) (xs : List X) (x : X) → find test xs ≡ None → Contains xs x → test x ≡ true → ⊥
find_none-fresh test [] x h m e = none_below m.1
find_none-fresh {X} test (y ∷ ys) x h m e = go (test y) refl h (Contains-cases y x ys m) (λ k n. find_none-fresh test ys x k n e)
  where
    go : (b : Bool) → test y ≡ b → cond b (Some y) (find test ys) ≡ None → (y ≡ x) ⊎ Contains ys x → (find test ys ≡ None → Contains ys x → ⊥) → ⊥
    go true t k at rest = none_some (sym k)
    go false t k (inl p) rest = true≢false (sym e ∙ ap test (sym p) ∙ t)
    go false t k (inr n) rest = rest k n

another : (name other : List ℕ) → is_system name ≡ false → bytes_eq other system_name ≡ true → bytes_eq other name ≡ true → ⊥
another name other h s t = true≢false (sym ((bytes_decides name system_name).1 (sym (bytes_same other name t) ∙ bytes_same other system_name s)) ∙ h)

module _ (held : Registered) (r : IsRegistered held) where
  pub only_named : (name : List ℕ) (i : ℕ) (client : Client) → slice_get held.clients i ≡ Some client → has_name name client ≡ true → IsOnlyAt (has_name name) held.clients i
  only_named name i client e h k other f t = Apart-place (λ (c : Client). c.name) held.clients k i other client r.client_names f e (bytes_same other.name name t ∙ sym (bytes_same client.name name h))

  -- whatever the room is
  roomed : (client_room port_room : ℕ) → IsRegistered (record { clients = held.clients; ports = held.ports; client_room = client_room; port_room = port_room })
  roomed client_room port_room = record {
    system = r.system;
    client_names = r.client_names;
    client_ids = r.client_ids;
    port_names = r.port_names;
    port_ids = r.port_ids;
    placed = r.placed;
    client_ids_within = r.client_ids_within;
    port_ids_below = r.port_ids_below;
    few_clients = r.few_clients;
    few_ports = r.few_ports;
  }

  pub IsRegistered-same : (clients : List Client) (ports : List Port) (client_room port_room : ℕ) → clients ≡ held.clients → ports ≡ held.ports
      → IsRegistered (record { clients = clients; ports = ports; client_room = client_room; port_room = port_room })
  IsRegistered-same clients ports client_room port_room e f =
      subst (λ cs. IsRegistered (record { clients = cs; ports = ports; client_room = client_room; port_room = port_room })) (sym e)
      (subst (λ ps. IsRegistered (record { clients = held.clients; ports = ps; client_room = client_room; port_room = port_room })) (sym f) (roomed client_room port_room))

  -- ---- a client comes

  pub IsRegistered-opened : (id : ClientId) (name : List ℕ) (kind : Kind) (birth : ℕ) → client_by held name ≡ None → ((client : Client) → Contains held.clients client → client.id.0 ≡ id.0 → ⊥) → id.0 ≤ 64 → length held.clients ≤ 64
      → IsRegistered (with_opened id name kind birth held)
  IsRegistered-opened id name kind birth none unused low few = record {
    system = find-push_kept (has_name system_name) held.clients new system_entry r.system;
    client_names = Apart-push (λ (c : Client). c.name) held.clients new r.client_names (λ x m e. find_none-fresh (has_name name) held.clients x none m ((bytes_decides x.name name).1 e));
    client_ids = Apart-push (λ (c : Client). c.id.0) held.clients new r.client_ids unused;
    port_names = r.port_names;
    port_ids = r.port_ids;
    placed = λ port m. more (r.placed port m);
    client_ids_within = λ client m. within client (at_end held.clients new client m);
    port_ids_below = r.port_ids_below;
    few_clients = longer;
    few_ports = r.few_ports;
  }
    where
      new : Client
      new = record { id = id; name = name; birth = birth; kind = kind; active = false; slow = 0 }

      longer : length (held.clients ++ new ∷ []) ≤ 65
      longer = let pushed : length (held.clients ++ new ∷ []) ≡ length held.clients + 1 = length-append held.clients (new ∷ []) in omega (arith, pushed, few)

      more : {port : Port} → IsPlaced held.clients port → IsPlaced (held.clients ++ new ∷ []) port
      more p = record { client = p.client; listed = Contains-append_left held.clients (new ∷ []) p.client p.listed; named = p.named; noded = p.noded; activity = p.activity }

      within : (client : Client) → Contains held.clients client ⊎ (new ≡ client) → client.id.0 ≤ 64
      within client (inl m) = r.client_ids_within client m
      within client (inr e) = subst (λ (c : Client). c.id.0 ≤ 64) e low

  -- ---- a client goes

  pub IsRegistered-closed : (name : List ℕ) → is_system name ≡ false → IsRegistered (without_client name held)
  IsRegistered-closed name other = record {
    system = find-filter_kept (has_name system_name) stays (λ client s. stays-system client s) held.clients ∙ r.system;
    client_names = Apart-filter (λ (c : Client). c.name) stays held.clients r.client_names;
    client_ids = Apart-filter (λ (c : Client). c.id.0) stays held.clients r.client_ids;
    port_names = Apart-filter (λ (p : Port). p.name) port_stays held.ports r.port_names;
    port_ids = Apart-filter (λ (p : Port). p.id.0) port_stays held.ports r.port_ids;
    placed = λ port m. fewer port (filter-passed port_stays held.ports port m) (r.placed port (filter-contains port_stays held.ports port m));
    client_ids_within = λ client m. r.client_ids_within client (filter-contains stays held.clients client m);
    port_ids_below = λ port m. r.port_ids_below port (filter-contains port_stays held.ports port m);
    few_clients = let shorter : length (filter stays held.clients) ≤ length held.clients = length-filter_within stays held.clients in let most : length held.clients ≤ 65 = r.few_clients in omega (arith, shorter, most);
    few_ports = λ client way. below (count-fewer (λ port. is_way way (open_port port)) (is_of client) port_stays held.ports) (r.few_ports client way);
  }
    where
      stays : Client → Bool
      stays client = not (has_name name client)

      port_stays : Port → Bool
      port_stays port = not (is_of name port)

      stays-system : (client : Client) → has_name system_name client ≡ true → stays client ≡ true
      stays-system client s = ap not (told (has_name name client) (λ t. another name client.name other s t))

      below : {a b : ℕ} → a ≤ b → b ≤ 16 → a ≤ 16
      below h k = omega (arith, h, k)

      passed : (b : Bool) → not b ≡ true → b ≡ false
      passed true h = absurd (true≢false (sym h))
      passed false h = refl

      fewer : (port : Port) → port_stays port ≡ true → IsPlaced held.clients port → IsPlaced (filter stays held.clients) port
      fewer port s p = record {
        client = p.client;
        listed = filter-keeps stays held.clients p.client p.listed (ap not (ap (λ n. bytes_eq n name) p.named ∙ passed (is_of name port) s));
        named = p.named;
        noded = p.noded;
        activity = p.activity;
      }

  -- ---- a client's slow number

  pub IsRegistered-slowed : (name : List ℕ) (cycles : ℕ) → is_system name ≡ false → IsRegistered (with_slow name cycles held)
  IsRegistered-slowed name cycles other = record {
    system = find-changed (has_name system_name) change (λ client. ap (λ n. bytes_eq n system_name) (same-name client)) held.clients ∙ ap (option_map change) r.system ∙ ap Some same-system;
    client_names = Apart-map (λ (c : Client). c.name) change same-name held.clients r.client_names;
    client_ids = Apart-map (λ (c : Client). c.id.0) change same-id held.clients r.client_ids;
    port_names = r.port_names;
    port_ids = r.port_ids;
    placed = λ port m. moved (r.placed port m);
    client_ids_within = λ client m. let w = contains-map change held.clients client m in subst (λ (c : Client). c.id.0 ≤ 64) w.2 (subst (λ n. n ≤ 64) (sym (same-id w.0)) (r.client_ids_within w.0 w.1));
    port_ids_below = r.port_ids_below;
    few_clients = subst (λ n. n ≤ 65) (sym (length-mapped held.clients)) r.few_clients;
    few_ports = r.few_ports;
  }
    where
      change : Client → Client
      change client = if has_name name client then record client { slow = cycles } else client

      same-name : (client : Client) → (change client).name ≡ client.name
      same-name client = go (has_name name client)
        where
          go : (b : Bool) → (cond b (record client { slow = cycles }) client).name ≡ client.name
          go true = refl
          go false = refl

      same-id : (client : Client) → (change client).id.0 ≡ client.id.0
      same-id client = go (has_name name client)
        where
          go : (b : Bool) → (cond b (record client { slow = cycles }) client).id.0 ≡ client.id.0
          go true = refl
          go false = refl

      same-active : (client : Client) → (change client).active ≡ client.active
      same-active client = go (has_name name client)
        where
          go : (b : Bool) → (cond b (record client { slow = cycles }) client).active ≡ client.active
          go true = refl
          go false = refl

      same-node : (client : Client) (way : Way) → node_for client way ≡ node_for (change client) way
      same-node client way = go (has_name name client)
        where
          go : (b : Bool) → node_for client way ≡ node_for (cond b (record client { slow = cycles }) client) way
          go true = refl
          go false = refl

      same-system : change system_entry ≡ system_entry
      same-system = ap (λ b. cond b (record system_entry { slow = cycles }) system_entry) (told (has_name name system_entry) (λ t. another name system_name other ((bytes_decides system_name system_name).1 refl) t))

      length-mapped : (clients : List Client) → length (map change clients) ≡ length clients
      length-mapped [] = refl
      length-mapped (c ∷ cs) = ap suc (length-mapped cs)

      moved : {port : Port} → IsPlaced held.clients port → IsPlaced (map change held.clients) port
      moved {port} p = record {
        client = change p.client;
        listed = map-contains change held.clients p.client p.listed;
        named = same-name p.client ∙ p.named;
        noded = p.noded ∙ same-node p.client (way_of port);
        activity = p.activity ∙ sym (same-active p.client);
      }

  -- ---- a client and its ports become active or not

  pub IsRegistered-active : (name : List ℕ) (active : Bool) → is_system name ≡ false → IsRegistered (with_active name active held)
  IsRegistered-active name active other = record {
    system = find-changed (has_name system_name) change (λ client. ap (λ n. bytes_eq n system_name) (same-name client)) held.clients ∙ ap (option_map change) r.system ∙ ap Some same-system;
    client_names = Apart-map (λ (c : Client). c.name) change same-name held.clients r.client_names;
    client_ids = Apart-map (λ (c : Client). c.id.0) change same-id held.clients r.client_ids;
    port_names = Apart-map (λ (p : Port). p.name) port_change port-name held.ports r.port_names;
    port_ids = Apart-map (λ (p : Port). p.id.0) port_change port-id held.ports r.port_ids;
    placed = λ port m. let w = contains-map port_change held.ports port m in subst (λ (p : Port). IsPlaced (map change held.clients) p) w.2 (moved w.0 (r.placed w.0 w.1));
    client_ids_within = λ client m. let w = contains-map change held.clients client m in subst (λ (c : Client). c.id.0 ≤ 64) w.2 (subst (λ n. n ≤ 64) (sym (same-id w.0)) (r.client_ids_within w.0 w.1));
    port_ids_below = λ port m. let w = contains-map port_change held.ports port m in subst (λ (p : Port). p.id.0 < 2064) w.2 (subst (λ n. n < 2064) (sym (port-id w.0)) (r.port_ids_below w.0 w.1));
    few_clients = subst (λ n. n ≤ 65) (sym (length-mapped held.clients)) r.few_clients;
    few_ports = λ client way. subst (λ n. n ≤ 16) (sym (count-changed (λ port. is_way way (open_port port)) (is_of client) port_change (same-way way) (same-of client) held.ports)) (r.few_ports client way);
  }
    where
      change : Client → Client
      change client = if has_name name client then record client { active = active } else client

      port_change : Port → Port
      port_change port = if is_of name port then record port { active = active } else port

      same-name : (client : Client) → (change client).name ≡ client.name
      same-name client = go (has_name name client)
        where
          go : (b : Bool) → (cond b (record client { active = active }) client).name ≡ client.name
          go true = refl
          go false = refl

      same-id : (client : Client) → (change client).id.0 ≡ client.id.0
      same-id client = go (has_name name client)
        where
          go : (b : Bool) → (cond b (record client { active = active }) client).id.0 ≡ client.id.0
          go true = refl
          go false = refl

      same-node : (client : Client) (way : Way) → node_for client way ≡ node_for (change client) way
      same-node client way = go (has_name name client)
        where
          go : (b : Bool) → node_for client way ≡ node_for (cond b (record client { active = active }) client) way
          go true = refl
          go false = refl

      port-name : (port : Port) → (port_change port).name ≡ port.name
      port-name port = go (is_of name port)
        where
          go : (b : Bool) → (cond b (record port { active = active }) port).name ≡ port.name
          go true = refl
          go false = refl

      port-id : (port : Port) → (port_change port).id.0 ≡ port.id.0
      port-id port = go (is_of name port)
        where
          go : (b : Bool) → (cond b (record port { active = active }) port).id.0 ≡ port.id.0
          go true = refl
          go false = refl

      same-way : (way : Way) (port : Port) → is_way way (open_port (port_change port)) ≡ is_way way (open_port port)
      same-way way port = go (is_of name port)
        where
          go : (b : Bool) → is_way way (open_port (cond b (record port { active = active }) port)) ≡ is_way way (open_port port)
          go true = refl
          go false = refl

      same-of : (client : List ℕ) (port : Port) → is_of client (port_change port) ≡ is_of client port
      same-of client port = ap (λ n. bytes_eq (client_part n) client) (port-name port)

      same-system : change system_entry ≡ system_entry
      same-system = ap (λ b. cond b (record system_entry { active = active }) system_entry) (told (has_name name system_entry) (λ t. another name system_name other ((bytes_decides system_name system_name).1 refl) t))

      length-mapped : (clients : List Client) → length (map change clients) ≡ length clients
      length-mapped [] = refl
      length-mapped (c ∷ cs) = ap suc (length-mapped cs)

      moved : (port : Port) → IsPlaced held.clients port → IsPlaced (map change held.clients) (port_change port)
      moved port p = go (is_of name port) (ap (λ n. bytes_eq n name) p.named)
        where
          go : (b : Bool) → has_name name p.client ≡ b → IsPlaced (map change held.clients) (cond b (record port { active = active }) port)
          go true e = record {
            client = change p.client;
            listed = map-contains change held.clients p.client p.listed;
            named = same-name p.client ∙ p.named;
            noded = p.noded ∙ same-node p.client (way_of port);
            activity = ap (λ b. (cond b (record p.client { active = active }) p.client).active) (sym e);
          }
          go false e = record {
            client = change p.client;
            listed = map-contains change held.clients p.client p.listed;
            named = same-name p.client ∙ p.named;
            noded = p.noded ∙ same-node p.client (way_of port);
            activity = p.activity ∙ ap (λ b. (cond b (record p.client { active = active }) p.client).active) (sym e);
          }

  -- ---- a port comes

  pub IsRegistered-registered : (id : PortId) (name : List ℕ) (way : Way) (kind : PortKind) (birth : ℕ) (client : Client) → Contains held.clients client → client.name ≡ client_part name → is_system (client_part name) ≡ false
      → port_by held name ≡ None → Apart (λ (p : Port). p.id.0) (held.ports ++ client_port id name way kind birth client ∷ []) → id.0 < 2064
      → count_by (λ port. is_way way (open_port port)) (filter (is_of (client_part name)) held.ports) < 16
      → IsRegistered (with_port (client_port id name way kind birth client) held)
  IsRegistered-registered id name way kind birth client member of other none apart low few = record {
    system = r.system;
    client_names = r.client_names;
    client_ids = r.client_ids;
    port_names = Apart-push (λ (p : Port). p.name) held.ports new r.port_names (λ x m e. find_none-fresh (is_named name) held.ports x none m ((bytes_decides x.name name).1 e));
    port_ids = apart;
    placed = λ port m. at port (at_end held.ports new port m);
    client_ids_within = r.client_ids_within;
    port_ids_below = λ port m. low_at port (at_end held.ports new port m);
    few_clients = r.few_clients;
    few_ports = λ one to. counted one to;
  }
    where
      new : Port
      new = client_port id name way kind birth client

      here : IsPlaced held.clients new
      here = record {
        client = client;
        listed = member;
        named = of;
        noded = ap (λ b. cond b (system_node (way_of new)) (ClientNode client.id)) (sym (ap is_system of ∙ other));
        activity = refl;
      }

      at : (port : Port) → Contains held.ports port ⊎ (new ≡ port) → IsPlaced held.clients port
      at port (inl m) = r.placed port m
      at port (inr e) = subst (λ (p : Port). IsPlaced held.clients p) e here

      low_at : (port : Port) → Contains held.ports port ⊎ (new ≡ port) → port.id.0 < 2064
      low_at port (inl m) = r.port_ids_below port m
      low_at port (inr e) = subst (λ (p : Port). p.id.0 < 2064) e low

      goes : Way → Port → Bool
      goes to port = is_way to (open_port port)

      total : (one : List ℕ) (to : Way) → count_by (goes to) (filter (is_of one) (held.ports ++ new ∷ [])) ≡ count_by (goes to) (filter (is_of one) held.ports) + count_by (goes to) (cond (is_of one new) (new ∷ []) [])
      total one to = ap (count_by (goes to)) (filter-push (is_of one) held.ports new) ∙ count-append (goes to) (filter (is_of one) held.ports) (cond (is_of one new) (new ∷ []) [])

      one_more : (to : Way) → count_by (goes to) (new ∷ []) ≤ 1
      one_more to = rw (count-cons (goes to) new []) (go (goes to new))
        where
          go : (b : Bool) → cond b 1 0 + 0 ≤ 1
          go true = omega arith
          go false = omega arith

      ours : (to : Way) → goes to new ≡ true → to ≡ way
      ours to h = by to way (subst (λ w. is_way to (record { name = name; way = w; kind = kind; birth = birth }) ≡ true) (way_of-client_port id name way kind birth client) h)
        where
          by : (a b : Way) → is_way a (record { name = name; way = b; kind = kind; birth = birth }) ≡ true → a ≡ b
          by In In e = refl
          by Out Out e = refl
          by In Out e = absurd (true≢false (sym e))
          by Out In e = absurd (true≢false (sym e))

      counted : (one : List ℕ) (to : Way) → count_by (λ port. is_way to (open_port port)) (filter (is_of one) (held.ports ++ new ∷ [])) ≤ 16
      counted one to = go (is_of one new) refl (goes to new) refl
        where
          go : (b : Bool) → is_of one new ≡ b → (g : Bool) → goes to new ≡ g → count_by (goes to) (filter (is_of one) (held.ports ++ new ∷ [])) ≤ 16
          go false e g f = subst (λ n. n ≤ 16) (sym (total one to ∙ ap (λ b. count_by (goes to) (filter (is_of one) held.ports) + count_by (goes to) (cond b (new ∷ []) [])) e)) (let old : count_by (goes to) (filter (is_of one) held.ports) ≤ 16 = r.few_ports one to in omega (arith, old))
          go true e false f =
              let none_here : count_by (goes to) (new ∷ []) ≡ 0 = count-cons (goes to) new [] ∙ ap (λ b. cond b 1 0 + 0) f in
              let old : count_by (goes to) (filter (is_of one) held.ports) ≤ 16 = r.few_ports one to in
              let all : count_by (goes to) (filter (is_of one) (held.ports ++ new ∷ [])) ≡ count_by (goes to) (filter (is_of one) held.ports) + count_by (goes to) (new ∷ [])
              = total one to ∙ ap (λ b. count_by (goes to) (filter (is_of one) held.ports) + count_by (goes to) (cond b (new ∷ []) [])) e in
              omega (arith, none_here, old, all)
          go true e true f =
              let same : client_part name ≡ one = bytes_same (client_part name) one e in
              let room : count_by (goes to) (filter (is_of one) held.ports) < 16 = subst (λ w. count_by (goes w) (filter (is_of one) held.ports) < 16) (sym (ours to f)) (subst (λ c. count_by (goes way) (filter (is_of c) held.ports) < 16) same few) in
              let single : count_by (goes to) (new ∷ []) ≤ 1 = one_more to in
              let all : count_by (goes to) (filter (is_of one) (held.ports ++ new ∷ [])) ≡ count_by (goes to) (filter (is_of one) held.ports) + count_by (goes to) (new ∷ [])
              = total one to ∙ ap (λ b. count_by (goes to) (filter (is_of one) held.ports) + count_by (goes to) (cond b (new ∷ []) [])) e in
              omega (arith, room, single, all)

  -- ---- a port goes

  pub IsRegistered-unregistered : (name : List ℕ) → IsRegistered (without_port name held)
  IsRegistered-unregistered name = record {
    system = r.system;
    client_names = r.client_names;
    client_ids = r.client_ids;
    port_names = Apart-filter (λ (p : Port). p.name) (λ port. not (is_named name port)) held.ports r.port_names;
    port_ids = Apart-filter (λ (p : Port). p.id.0) (λ port. not (is_named name port)) held.ports r.port_ids;
    placed = λ port m. r.placed port (filter-contains (λ p. not (is_named name p)) held.ports port m);
    client_ids_within = r.client_ids_within;
    port_ids_below = λ port m. r.port_ids_below port (filter-contains (λ p. not (is_named name p)) held.ports port m);
    few_clients = r.few_clients;
    few_ports = λ client way. below (count-fewer (λ port. is_way way (open_port port)) (is_of client) (λ port. not (is_named name port)) held.ports) (r.few_ports client way);
  }
    where
      below : {a b : ℕ} → a ≤ b → b ≤ 16 → a ≤ 16
      below h k = omega (arith, h, k)
