-- What is true of a registry's fields stays true, call by call.
use Rattle.std.proofs.Common.{◌≡◌, ℕ, suc, cond, ◌+◌, ◌<◌, ◌≤◌, Bool, true, false, not, if◌then◌else◌, List, [], ◌∷◌, ◌++◌, length, map, filter, find, fold, position, remove, set, slice_get, get_or, count_by, Contains, Option, Some, None, refl, sym, ◌∙◌, ap, ap₂, subst, arith}
use Rattle.arrayvec.specs.ArrayVec.{ArrayVec}
use Rattle.std.proofs.lemmas.Option.{slice_get-get_or, get_or_from_slice_get}
use Rattle.session_laws.specs.jack_types.specs.Names.{client_part}
use Rattle.session_laws.specs.jack_types.specs.declared.commands.Command.TheVariants.{Open, Close, Register}
use Rattle.session_laws.specs.jack_types.specs.declared.kinds.Kind.{Kind}
use Rattle.session_laws.specs.jack_types.specs.declared.ports.Client.{Client}
use Rattle.session_laws.specs.jack_types.specs.declared.ports.ClientId.{ClientId}
use Rattle.session_laws.specs.jack_types.specs.declared.ports.Port.{Port}
use Rattle.session_laws.specs.jack_types.specs.declared.ports.PortId.{PortId}
use Rattle.session_laws.specs.jack_types.specs.declared.ports.PortKind.{PortKind}
use Rattle.session_laws.specs.jack_types.specs.declared.ports.Way.{Way}
use Rattle.session_laws.specs.jack_types.specs.declared.ports.Way.TheVariants.{In, Out}
use Rattle.session_laws.specs.session_model.specs.Commands.{refusal, is_way, is_input}
use Rattle.session_laws.specs.session_model.specs.Ids.{open_port}
use Rattle.session_laws.specs.session_model.specs.Soundness.{Apart}
use Rattle.session_laws.specs.session_model.specs.State.{is_system}
use Rattle.session_laws.proofs.CycleLemmas.{bytes_same}
use Rattle.session_laws.proofs.LoopLemmas.{Contains-first}
use Rattle.session_laws.proofs.PlaceLemmas.{filter-contains}
use lib.Pointwise.{bytes_decides}
use Rattle.session_laws.proofs.LoopFreeLemmas.{Contains-append_right}
use Rattle.port_registry.specs.Kept.{ids_in, items_of, AreFree, IsKept}
use Rattle.port_registry.specs.Listings.{bears, without_id, without_number, with_number_active}
use Rattle.port_registry.specs.Registered.{Registered, IsRegistered, has_name, is_named, is_of, client_by, port_by, client_port, state_of, with_opened, without_client, with_active, with_slow, with_port, without_port}
use Rattle.port_registry.proofs.KeptLemmas.{two_clients, lists-long, ports-closed, ports-active, ports-unregistered, list-at, indexed-opened, indexed-closed, indexed-active, indexed-slowed, indexed-registered, indexed-unregistered, clients-closed, clients-set, its_name_is, free-popped, free-pushed, free-changed}
use Rattle.port_registry.proofs.PlaceLemmas.{some_same, slice_get-contains, slice_get-below, slice_get-map_some, length-mapped, position-at, position-at-some}
use Rattle.port_registry.proofs.RefusalLemmas.{open-fresh, open-few, register-fresh, register-few}
use Rattle.session_laws.proofs.FilterLemmas.{count-cons}
use Rattle.port_registry.proofs.RegisteredLemmas.{IsRegistered-same, IsRegistered-opened, IsRegistered-closed, IsRegistered-active, IsRegistered-slowed, IsRegistered-registered, IsRegistered-unregistered}

at_most : {a b c : ℕ} → a ≤ b → b ≤ c → a ≤ c
at_most h k = omega (arith, h, k)

pub same_held : (a b : List Client) (p q : List Port) (client_room port_room : ℕ) → a ≡ b → p ≡ q
    → (let x : Registered = record { clients = a; ports = p; client_room = client_room; port_room = port_room } in x) ≡ (let y : Registered = record { clients = b; ports = q; client_room = client_room; port_room = port_room } in y)
same_held a b p q client_room port_room e f i = record { clients = e i; ports = f i; client_room = client_room; port_room = port_room }

module _ (held : Registered) (lists : List (ArrayVec ℕ)) (free : List ℕ) (cc lc pc : ℕ) (kept : IsKept held lists free cc lc pc) where
  abbrev pub over : List Client → List Port → Registered
  over clients ports = record { clients = clients; ports = ports; client_room = held.client_room; port_room = held.port_room }

  pub free-some : (name : List ℕ) (kind : Kind) → refusal (state_of held) (Open name kind) ≡ None → 0 < length free
  free-some name kind none =
      let few : length held.clients ≤ 64 = open-few held kept.registered name kind none in
      let total : length free + length held.clients ≡ 65 = kept.unused.all_ids in
      omega (arith, few, total)

  pub IsKept-opened : (name : List ℕ) (kind : Kind) (birth id : ℕ) → refusal (state_of held) (Open name kind) ≡ None → (clients : List Client) (longer : List (ArrayVec ℕ)) (front : List ℕ) (list : ArrayVec ℕ) (cd ld : ℕ)
      → clients ≡ (with_opened (record { 0 = id }) name kind birth held).clients → list.items ≡ [] → longer ≡ lists ++ list ∷ [] → free ≡ front ++ id ∷ [] → cc ≤ cd → lc ≤ ld
      → IsKept (over clients held.ports) longer front cd ld pc
  IsKept-opened name kind birth id none clients longer front list cd ld e empty l f c d = record {
    registered = IsRegistered-same (with_opened (record { 0 = id }) name kind birth held) opened clients held.ports held.client_room held.port_room e refl;
    indexed = ap items_of l ∙ indexed-opened held kept.registered lists list new kept.indexed fresh empty ∙ ap (map (ids_in held.ports)) (sym e);
    unused = subst (λ cs. AreFree front cs) (sym e) (free-popped held kept.registered front id new (subst (λ ns. AreFree ns held.clients) f kept.unused) refl);
    fits_clients = at_most kept.fits_clients c;
    fits_lists = at_most kept.fits_lists d;
    fits_ports = kept.fits_ports;
    most_ports = kept.most_ports;
  }
    where
      new : Client
      new = record { id = record { 0 = id }; name = name; birth = birth; kind = kind; active = false; slow = 0 }

      fresh : client_by held name ≡ None
      fresh = open-fresh held kept.registered name kind none

      there : Contains free id
      there = subst (λ ns. Contains ns id) (sym f) (Contains-append_right front (id ∷ []) id (Contains-first id []))

      opened : IsRegistered (with_opened (record { 0 = id }) name kind birth held)
      opened = IsRegistered-opened held kept.registered (record { 0 = id }) name kind birth fresh (λ client m same. kept.unused.unused id there client m same) (kept.unused.within id there) (open-few held kept.registered name kind none)

  module _ (name : List ℕ) (i : ℕ) (client : Client) (list : ArrayVec ℕ) (p : position (has_name name) held.clients ≡ Some i) (e : slice_get held.clients i ≡ Some client) (l : slice_get lists i ≡ Some list) (other : is_system name ≡ false) where
    pub theirs_is : list.items ≡ ids_in held.ports client
    theirs_is = list-at held kept.registered lists kept.indexed i list client l e

    ports-gone : (ports : List Port) → ports ≡ fold without_number held.ports list.items → ports ≡ (without_client name held).ports
    ports-gone ports f = f ∙ ap (fold without_number held.ports) theirs_is ∙ ports-closed held kept.registered client ∙ ap (λ n. filter (λ port. not (is_of n port)) held.ports) (its_name_is held kept.registered name i client p e)

    pub closed-is : (clients : List Client) (ports : List Port) → clients ≡ remove held.clients i → ports ≡ fold without_number held.ports list.items → over clients ports ≡ without_client name held
    closed-is clients ports f g = same_held clients (without_client name held).clients ports (without_client name held).ports held.client_room held.port_room (f ∙ clients-closed held kept.registered name i client p e) (ports-gone ports g)

    pub IsKept-closed : (clients : List Client) (ports : List Port) (fewer : List (ArrayVec ℕ)) (more : List ℕ) (cd ld pd : ℕ) → clients ≡ remove held.clients i → ports ≡ fold without_number held.ports list.items → fewer ≡ remove lists i → more ≡ free ++ client.id.0 ∷ []
        → cc ≤ cd → lc ≤ ld → pc ≤ pd → IsKept (over clients ports) fewer more cd ld pd
    IsKept-closed clients ports fewer more cd ld pd f g h m c d q = subst (λ x. IsKept x fewer more cd ld pd) (sym (closed-is clients ports f g)) (record {
      registered = IsRegistered-closed held kept.registered name other;
      indexed = ap items_of h ∙ indexed-closed held kept.registered name i client p e lists kept.indexed;
      unused = subst (λ ns. AreFree ns (without_client name held).clients) (sym m) (free-pushed held kept.registered free name i client kept.unused p e);
      fits_clients = at_most kept.fits_clients c;
      fits_lists = at_most kept.fits_lists d;
      fits_ports = at_most kept.fits_ports q;
      most_ports = kept.most_ports;
    })

    pub active-is : (active : Bool) (clients : List Client) (ports : List Port) → clients ≡ set held.clients i (record client { active = active }) → ports ≡ fold (with_number_active active) held.ports list.items → over clients ports ≡ with_active name active held
    active-is active clients ports f g = same_held clients (with_active name active held).clients ports (with_active name active held).ports held.client_room held.port_room
        (f ∙ clients-set held kept.registered name i client p e (λ (c : Client). record c { active = active }))
        (g ∙ ap (fold (with_number_active active) held.ports) theirs_is ∙ ports-active held kept.registered client active ∙ ap (λ n. map (λ (port : Port). if is_of n port then record port { active = active } else port) held.ports) (its_name_is held kept.registered name i client p e))

    pub IsKept-active : (active : Bool) (clients : List Client) (ports : List Port) (cd pd : ℕ) → clients ≡ set held.clients i (record client { active = active }) → ports ≡ fold (with_number_active active) held.ports list.items
        → cc ≤ cd → pc ≤ pd → IsKept (over clients ports) lists free cd lc pd
    IsKept-active active clients ports cd pd f g c q = subst (λ x. IsKept x lists free cd lc pd) (sym (active-is active clients ports f g)) (record {
      registered = IsRegistered-active held kept.registered name active other;
      indexed = indexed-active held kept.registered lists name active kept.indexed;
      unused = free-changed held kept.registered free (λ (x : Client). if has_name name x then record x { active = active } else x) (λ x. same x (has_name name x)) kept.unused;
      fits_clients = at_most kept.fits_clients c;
      fits_lists = kept.fits_lists;
      fits_ports = at_most kept.fits_ports q;
      most_ports = kept.most_ports;
    })
      where
        same : (x : Client) (b : Bool) → (if b then record x { active = active } else x).id.0 ≡ x.id.0
        same x true = refl
        same x false = refl

  pub list_there : (i : ℕ) (client : Client) (d : ArrayVec ℕ) → slice_get held.clients i ≡ Some client → slice_get lists i ≡ Some (get_or lists i d)
  list_there i client d e = slice_get-get_or lists i d (let low : i < length held.clients = slice_get-below held.clients i client e in let long : length lists ≡ length held.clients = lists-long held kept.registered lists kept.indexed in omega (arith, low, long))

  pub room_to_free : (name : List ℕ) (i : ℕ) → position (has_name name) held.clients ≡ Some i → is_system name ≡ false → length free < 64
  room_to_free name i p other =
      let two : 2 ≤ length held.clients = two_clients held kept.registered name i p other in
      let total : length free + length held.clients ≡ 65 = kept.unused.all_ids in
      omega (arith, two, total)

  module _ (name : List ℕ) (i : ℕ) (client : Client) (p : position (has_name name) held.clients ≡ Some i) (e : slice_get held.clients i ≡ Some client) (other : is_system name ≡ false) where
    pub slowed-is : (cycles : ℕ) (clients : List Client) → clients ≡ set held.clients i (record client { slow = cycles }) → over clients held.ports ≡ with_slow name cycles held
    slowed-is cycles clients f = same_held clients (with_slow name cycles held).clients held.ports held.ports held.client_room held.port_room (f ∙ clients-set held kept.registered name i client p e (λ (c : Client). record c { slow = cycles })) refl

    pub IsKept-slowed : (cycles : ℕ) (clients : List Client) (cd : ℕ) → clients ≡ set held.clients i (record client { slow = cycles }) → cc ≤ cd → IsKept (over clients held.ports) lists free cd lc pc
    IsKept-slowed cycles clients cd f c = subst (λ x. IsKept x lists free cd lc pc) (sym (slowed-is cycles clients f)) (record {
      registered = IsRegistered-slowed held kept.registered name cycles other;
      indexed = indexed-slowed held kept.registered lists name cycles kept.indexed;
      unused = free-changed held kept.registered free (λ (x : Client). if has_name name x then record x { slow = cycles } else x) (λ x. same x (has_name name x)) kept.unused;
      fits_clients = at_most kept.fits_clients c;
      fits_lists = kept.fits_lists;
      fits_ports = kept.fits_ports;
      most_ports = kept.most_ports;
    })
      where
        same : (x : Client) (b : Bool) → (if b then record x { slow = cycles } else x).id.0 ≡ x.id.0
        same x true = refl
        same x false = refl

  -- ---- ports

  pub IsKept-same : (ports : List Port) (pd : ℕ) → ports ≡ held.ports → pc ≤ pd → IsKept (over held.clients ports) lists free cc lc pd
  IsKept-same ports pd e q = subst (λ ps. IsKept (over held.clients ps) lists free cc lc pd) (sym e) (record {
    registered = IsRegistered-same held kept.registered held.clients held.ports held.client_room held.port_room refl refl;
    indexed = kept.indexed;
    unused = kept.unused;
    fits_clients = kept.fits_clients;
    fits_lists = kept.fits_lists;
    fits_ports = at_most kept.fits_ports q;
    most_ports = kept.most_ports;
  })

  module _ (name : List ℕ) (i : ℕ) (client : Client) (list : ArrayVec ℕ) (p : position (has_name (client_part name)) held.clients ≡ Some i) (e : slice_get held.clients i ≡ Some client) (l : slice_get lists i ≡ Some list) where
    names_it : client.name ≡ client_part name
    names_it = its_name_is held kept.registered (client_part name) i client p e

    ids_are : list.items ≡ ids_in held.ports client
    ids_are = list-at held kept.registered lists kept.indexed i list client l e

    module _ (way : Way) (kind : PortKind) (birth : ℕ) (none : refusal (state_of held) (Register name way kind) ≡ None) where
      both_ways : (ps : List Port) → length ps ≡ count_by (λ port. is_way In (open_port port)) ps + count_by (λ port. is_way Out (open_port port)) ps
      both_ways [] = refl
      both_ways (q ∷ ps) = ap suc (both_ways ps) ∙ go (is_input (open_port q)) ∙ sym (ap₂ (λ a b. a + b) (count-cons (λ port. is_way In (open_port port)) q ps) (count-cons (λ port. is_way Out (open_port port)) q ps))
        where
          go : (b : Bool) → suc (count_by (λ port. is_way In (open_port port)) ps + count_by (λ port. is_way Out (open_port port)) ps)
              ≡ (cond b 1 0 + count_by (λ port. is_way In (open_port port)) ps) + (cond (not b) 1 0 + count_by (λ port. is_way Out (open_port port)) ps)
          go true = omega arith
          go false = omega arith

      pub room_to_list : length list.items < 32
      room_to_list =
          let long : length list.items ≡ length (filter (is_of client.name) held.ports) = ap length ids_are ∙ length-mapped (λ (q : Port). q.id.0) (filter (is_of client.name) held.ports) in
          let parts : length (filter (is_of client.name) held.ports) ≡ count_by (λ port. is_way In (open_port port)) (filter (is_of client.name) held.ports) + count_by (λ port. is_way Out (open_port port)) (filter (is_of client.name) held.ports) = both_ways (filter (is_of client.name) held.ports) in
          let ins : count_by (λ port. is_way In (open_port port)) (filter (is_of client.name) held.ports) ≤ 16 = kept.registered.few_ports client.name In in
          let outs : count_by (λ port. is_way Out (open_port port)) (filter (is_of client.name) held.ports) ≤ 16 = kept.registered.few_ports client.name Out in
          go way (subst (λ n. count_by (λ port. is_way way (open_port port)) (filter (is_of n) held.ports) < 16) (sym names_it) (register-few held kept.registered name way kind none)) long parts ins outs
        where
          go : (w : Way) → count_by (λ port. is_way w (open_port port)) (filter (is_of client.name) held.ports) < 16 → length list.items ≡ length (filter (is_of client.name) held.ports)
              → length (filter (is_of client.name) held.ports) ≡ count_by (λ port. is_way In (open_port port)) (filter (is_of client.name) held.ports) + count_by (λ port. is_way Out (open_port port)) (filter (is_of client.name) held.ports)
              → count_by (λ port. is_way In (open_port port)) (filter (is_of client.name) held.ports) ≤ 16 → count_by (λ port. is_way Out (open_port port)) (filter (is_of client.name) held.ports) ≤ 16 → length list.items < 32
          go In few long parts ins outs = omega (arith, few, long, parts, outs)
          go Out few long parts ins outs = omega (arith, few, long, parts, ins)

      pub IsKept-registered : is_system (client_part name) ≡ false → (id : ℕ) (ports : List Port) (longer : List (ArrayVec ℕ)) (more : ArrayVec ℕ) (ld pd : ℕ) → ports ≡ held.ports ++ client_port (record { 0 = id }) name way kind birth client ∷ []
          → Apart (λ (q : Port). q.id.0) ports → id < 2064 → longer ≡ set lists i more → more.items ≡ list.items ++ id ∷ [] → lc ≤ ld → pc ≤ pd → IsKept (over held.clients ports) longer free cc ld pd
      IsKept-registered other id ports longer more ld pd f apart low g items d q = subst (λ ps. IsKept (over held.clients ps) longer free cc ld pd) (sym f) (record {
        registered = IsRegistered-registered held kept.registered (record { 0 = id }) name way kind birth client (slice_get-contains held.clients i client e) names_it other (register-fresh held kept.registered name way kind none)
            (subst (λ ps. Apart (λ (x : Port). x.id.0) ps) f apart) low (register-few held kept.registered name way kind none);
        indexed = ap items_of g ∙ indexed-registered held kept.registered (client_part name) i client p e lists more (client_port (record { 0 = id }) name way kind birth client) kept.indexed ((bytes_decides (client_part name) (client_part name)).1 refl)
            (items ∙ ap (λ xs. xs ++ id ∷ []) ids_are);
        unused = kept.unused;
        fits_clients = kept.fits_clients;
        fits_lists = at_most kept.fits_lists d;
        fits_ports = at_most kept.fits_ports q;
        most_ports = kept.most_ports;
      })

    module _ (j : ℕ) (q : position (is_named name) (filter (is_of client.name) held.ports) ≡ Some j) where
      gone : (d : ℕ) (ports : List Port) → ports ≡ without_id held.ports (record { 0 = get_or list.items j d }) → ports ≡ (without_port name held).ports
      gone d ports f = go (position-at-some (is_named name) theirs j q)
        where
          theirs : List Port
          theirs = filter (is_of client.name) held.ports

          go : (x : Port) × (slice_get theirs j ≡ Some x) → ports ≡ (without_port name held).ports
          go w =
              let t = position-at (is_named name) theirs j w.0 q in
              let named : w.0.name ≡ name = bytes_same w.0.name name (ap (is_named name) (some_same (sym w.1 ∙ t.0)) ∙ t.1) in
              let at : get_or list.items j d ≡ w.0.id.0 = ap (λ xs. get_or xs j d) ids_are ∙ get_or_from_slice_get (ids_in held.ports client) j w.0.id.0 d (slice_get-map_some (λ (x : Port). x.id.0) theirs j w.0 w.1) in
              f ∙ ap (λ n. without_id held.ports (record { 0 = n })) at ∙ ports-unregistered held kept.registered w.0 (filter-contains (is_of client.name) held.ports w.0 (slice_get-contains theirs j w.0 w.1)) ∙ ap (λ n. filter (λ port. not (is_named n port)) held.ports) named

      pub unregistered-is : (d : ℕ) (ports : List Port) → ports ≡ without_id held.ports (record { 0 = get_or list.items j d }) → over held.clients ports ≡ without_port name held
      unregistered-is d ports f = same_held held.clients held.clients ports (without_port name held).ports held.client_room held.port_room refl (gone d ports f)

      pub found_within : j < length list.items
      found_within = subst (λ xs. j < length xs) (sym ids_are) (slice_get-below (ids_in held.ports client) j _ (slice_get-map_some (λ (x : Port). x.id.0) (filter (is_of client.name) held.ports) j _ (position-at-some (is_named name) (filter (is_of client.name) held.ports) j q).1))

      pub IsKept-unregistered : (d : ℕ) (ports : List Port) (fewer : List (ArrayVec ℕ)) (less : ArrayVec ℕ) (ld pd : ℕ) → ports ≡ without_id held.ports (record { 0 = get_or list.items j d }) → fewer ≡ set lists i less → less.items ≡ remove list.items j
          → lc ≤ ld → pc ≤ pd → IsKept (over held.clients ports) fewer free cc ld pd
      IsKept-unregistered d ports fewer less ld pd f g items c h = subst (λ x. IsKept x fewer free cc ld pd) (sym (unregistered-is d ports f)) (record {
        registered = IsRegistered-unregistered held kept.registered name;
        indexed = ap items_of g ∙ indexed-unregistered held kept.registered (client_part name) i client p e lists less name j kept.indexed refl q (items ∙ ap (λ xs. remove xs j) ids_are);
        unused = kept.unused;
        fits_clients = kept.fits_clients;
        fits_lists = at_most kept.fits_lists c;
        fits_ports = at_most kept.fits_ports h;
        most_ports = kept.most_ports;
      })
