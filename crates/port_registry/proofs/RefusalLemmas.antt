-- What refuses a command, as a registry tests it.
use Rattle.std.proofs.Common.{◌≡◌, ℕ, zero, suc, ◌+◌, ◌-◌, ◌<◌, ◌≤◌, Bool, true, false, cond, not, ◌&&◌, nat_eq, nat_lt, nat_le, if◌then◌else◌, List, [], ◌∷◌, ◌++◌, length, map, filter, find, position, count_by, slice_get, Contains, Option, Some, None, is_some, is_none, ◌⊎◌, inl, inr, refl, sym, ◌∙◌, ap, ap₂, subst, arith, true≢false}
use Rattle.std.specs.Option.{option_map, option_map_or}
use Rattle.std.specs.Str.{bytes_eq}
use Rattle.std.proofs.lemmas.Bool.Decides.{nat_tests}
use Rattle.session_laws.specs.jack_types.specs.Names.{client_part}
use Rattle.session_laws.specs.jack_types.specs.declared.commands.Command.TheVariants.{Open, Close, Activate, Deactivate, Register, Unregister, Slow}
use Rattle.session_laws.specs.jack_types.specs.declared.kinds.Kind.{Kind}
use Rattle.session_laws.specs.jack_types.specs.declared.ports.Client.{Client}
use Rattle.session_laws.specs.jack_types.specs.declared.ports.Port.{Port}
use Rattle.session_laws.specs.jack_types.specs.declared.ports.PortId.{PortId}
use Rattle.session_laws.specs.jack_types.specs.declared.ports.PortKind.{PortKind}
use Rattle.session_laws.specs.jack_types.specs.declared.ports.Way.{Way}
use Rattle.session_laws.specs.jack_types.specs.declared.replies.Refusal.{Refusal}
use Rattle.session_laws.specs.jack_types.specs.declared.replies.Refusal.TheVariants.{NoClient, NoPort, IsOpen, IsSystem, NameTaken, AlreadyActive, NotActive, ClientsFull, PortsFull, InUse}
use Rattle.session_laws.specs.session_model.specs.Commands.{refusal, refusals_of, applies, shares, is_way, ports_of}
use Rattle.session_laws.specs.session_model.specs.Ids.{open_port, open_ports, port_with}
use Rattle.session_laws.specs.session_model.specs.Soundness.{Apart}
use Rattle.session_laws.specs.session_model.specs.State.{OpenClient, OpenPort, is_system, system_name, is_active_in, client_named, port_named}
use Rattle.session_laws.proofs.CycleLemmas.{bytes_same}
use Rattle.session_laws.proofs.LoopLemmas.{Contains-cases, Contains-later, Contains-first}
use Rattle.session_laws.proofs.PlaceLemmas.{filter-contains}
use Rattle.session_laws.proofs.SoundLemmas.{refused_not}
use lib.Pointwise.{bytes_decides}
use Rattle.port_registry.specs.Kept.{ids_in}
use Rattle.port_registry.specs.Listings.{ids_of, bears, bears_name, has_way}
use Rattle.port_registry.specs.Registered.{Registered, IsRegistered, IsPlaced, open_client, open_clients, state_of, has_name, is_named, is_of, system_entry}
use Rattle.session_laws.proofs.FilterLemmas.{count-cons, count-same, count-map_after, find-filter_kept, find-map_after, map-filter_after, some-mapped}
use Rattle.port_registry.proofs.PlaceLemmas.{some_same, none_some, position-at, position-find, position-find_none, position-at-some, position-map_after, position-same, find-none, IsOnlyAt, slice_get-contains, slice_get-map_some}
use Rattle.port_registry.proofs.RegisteredLemmas.{only_named, find_none-fresh}

-- a thing is found where it has a place
pub found-placed : {X : Type 0} (test : X → Bool) (xs : List X) → is_some (find test xs) ≡ is_some (position test xs)
found-placed test xs = go (position test xs) refl
  where
    go : (o : Option ℕ) → position test xs ≡ o → is_some (find test xs) ≡ is_some o
    go None e = ap is_some (position-find_none test xs e)
    go (Some i) e = let w = position-at-some test xs i e in ap is_some (sym (position-find test xs i e) ∙ w.1)

module _ (held : Registered) (r : IsRegistered held) where
  client-found : (name : List ℕ) → is_some (client_named (state_of held) name) ≡ is_some (position (has_name name) held.clients)
  client-found name = ap is_some (find-map_after open_client (λ (c : OpenClient). bytes_eq c.name name) held.clients) ∙ some-mapped open_client (find (has_name name) held.clients) ∙ found-placed (has_name name) held.clients

  none_is : {X : Type 0} (o : Option X) → is_none o ≡ not (is_some o)
  none_is None = refl
  none_is (Some x) = refl

  client-missing : (name : List ℕ) → is_none (client_named (state_of held) name) ≡ not (is_some (position (has_name name) held.clients))
  client-missing name = none_is (client_named (state_of held) name) ∙ ap not (client-found name)

  -- ---- how many clients there are besides `system`

  abbrev is_other : OpenClient → Bool
  is_other client = not (is_system client.name)

  all-others : (clients : List Client) → ((client : Client) → Contains clients client → is_system client.name ≡ true → ⊥) → count_by is_other (map open_client clients) ≡ length clients
  all-others [] h = refl
  all-others (c ∷ cs) h = count-cons is_other (open_client c) (map open_client cs) ∙ go (is_system c.name) refl (all-others cs (λ client m. h client (Contains-later c client cs m)))
    where
      go : (b : Bool) → is_system c.name ≡ b → count_by is_other (map open_client cs) ≡ length cs → cond (not b) 1 0 + count_by is_other (map open_client cs) ≡ length (c ∷ cs)
      go true e rest = absurd (h c (Contains-first c cs) e)
      go false e rest = omega (arith, rest)

  count-others : (clients : List Client) → Apart (λ (client : Client). client.name) clients → (s : Client) → find (has_name system_name) clients ≡ Some s → count_by is_other (map open_client clients) + 1 ≡ length clients
  count-others [] apart s h = absurd (none_some h)
  count-others (c ∷ cs) apart s h = ap (λ n. n + 1) (count-cons is_other (open_client c) (map open_client cs)) ∙ go (is_system c.name) refl h (count-others cs apart.1 s)
    where
      lone : is_system c.name ≡ true → (client : Client) → Contains cs client → is_system client.name ≡ true → ⊥
      lone e client m f = apart.0 client m (bytes_same c.name system_name e ∙ sym (bytes_same client.name system_name f))

      go : (b : Bool) → is_system c.name ≡ b → cond b (Some c) (find (has_name system_name) cs) ≡ Some s → (find (has_name system_name) cs ≡ Some s → count_by is_other (map open_client cs) + 1 ≡ length cs)
          → cond (not b) 1 0 + count_by is_other (map open_client cs) + 1 ≡ length (c ∷ cs)
      go true e k rest = let all : count_by is_other (map open_client cs) ≡ length cs = all-others cs (lone e) in omega (arith, all)
      go false e k rest = let others : count_by is_other (map open_client cs) + 1 ≡ length cs = rest k in omega (arith, others)

  clients-full : nat_le 64 (count_by is_other (open_clients held.clients)) ≡ nat_lt 64 (length held.clients)
  clients-full = by (count_by is_other (open_clients held.clients)) (length held.clients) (count-others held.clients r.client_names system_entry r.system)
    where
      by : (a b : ℕ) → a + 1 ≡ b → nat_le 64 a ≡ nat_lt 64 b
      by a b e = ap (nat_le 64) (let low : a ≡ b - 1 = omega (arith, e) in low) ∙ shifted b (omega (arith, e))
        where
          shifted : (n : ℕ) → 0 < n → nat_le 64 (n - 1) ≡ nat_lt 64 n
          shifted n h = grind (arith, nat_tests)

  -- ---- opening

  in-use : (kind : Kind) → is_some (find (λ (c : OpenClient). shares c.kind kind) (open_clients held.clients)) ≡ is_some (position (λ (c : Client). shares c.kind kind) held.clients)
  in-use kind = ap is_some (find-map_after open_client (λ (c : OpenClient). shares c.kind kind) held.clients) ∙ some-mapped open_client (find (λ (c : Client). shares c.kind kind) held.clients) ∙ found-placed (λ (c : Client). shares c.kind kind) held.clients

  pub refusal_open : (name : List ℕ) (kind : Kind) → refusal (state_of held) (Open name kind)
      ≡ cond (is_some (position (has_name name) held.clients)) (Some IsOpen) (cond (nat_lt 64 (length held.clients)) (Some ClientsFull) (cond (is_some (position (λ (c : Client). shares c.kind kind) held.clients)) (Some InUse) None))
  refusal_open name kind =
      ap (λ b. cond b (Some IsOpen) (cond (nat_le 64 (count_by is_other (open_clients held.clients))) (Some ClientsFull) (cond (is_some (find (λ (c : OpenClient). shares c.kind kind) (open_clients held.clients))) (Some InUse) None))) (client-found name)
      ∙ ap₂ (λ f u. cond (is_some (position (has_name name) held.clients)) (Some IsOpen) (cond f (Some ClientsFull) (cond u (Some InUse) None))) clients-full (in-use kind)

  module _ (name : List ℕ) (kind : Kind) where
    pub open-taken : is_some (position (has_name name) held.clients) ≡ true → refusal (state_of held) (Open name kind) ≡ Some IsOpen
    open-taken h = refusal_open name kind ∙ ap (λ b. cond b (Some IsOpen) (cond (nat_lt 64 (length held.clients)) (Some ClientsFull) (cond (is_some (position (λ (c : Client). shares c.kind kind) held.clients)) (Some InUse) None))) h

    past-taken : is_some (position (has_name name) held.clients) ≡ false → refusal (state_of held) (Open name kind) ≡ cond (nat_lt 64 (length held.clients)) (Some ClientsFull) (cond (is_some (position (λ (c : Client). shares c.kind kind) held.clients)) (Some InUse) None)
    past-taken h = refusal_open name kind ∙ ap (λ b. cond b (Some IsOpen) (cond (nat_lt 64 (length held.clients)) (Some ClientsFull) (cond (is_some (position (λ (c : Client). shares c.kind kind) held.clients)) (Some InUse) None))) h

    pub open-full : is_some (position (has_name name) held.clients) ≡ false → 64 < length held.clients → refusal (state_of held) (Open name kind) ≡ Some ClientsFull
    open-full h k = past-taken h ∙ ap (λ b. cond b (Some ClientsFull) (cond (is_some (position (λ (c : Client). shares c.kind kind) held.clients)) (Some InUse) None)) (above (length held.clients) k)
      where
        above : (n : ℕ) → 64 < n → nat_lt 64 n ≡ true
        above n q = grind (arith, nat_tests)

    past-full : is_some (position (has_name name) held.clients) ≡ false → length held.clients ≤ 64 → refusal (state_of held) (Open name kind) ≡ cond (is_some (position (λ (c : Client). shares c.kind kind) held.clients)) (Some InUse) None
    past-full h k = past-taken h ∙ ap (λ b. cond b (Some ClientsFull) (cond (is_some (position (λ (c : Client). shares c.kind kind) held.clients)) (Some InUse) None)) (below (length held.clients) k)
      where
        below : (n : ℕ) → n ≤ 64 → nat_lt 64 n ≡ false
        below n q = grind (arith, nat_tests)

    pub open-used : is_some (position (has_name name) held.clients) ≡ false → length held.clients ≤ 64 → is_some (position (λ (c : Client). shares c.kind kind) held.clients) ≡ true → refusal (state_of held) (Open name kind) ≡ Some InUse
    open-used h k u = past-full h k ∙ ap (λ b. cond b (Some InUse) None) u

    pub open-granted : is_some (position (has_name name) held.clients) ≡ false → length held.clients ≤ 64 → is_some (position (λ (c : Client). shares c.kind kind) held.clients) ≡ false → refusal (state_of held) (Open name kind) ≡ None
    open-granted h k u = past-full h k ∙ ap (λ b. cond b (Some InUse) None) u

    -- what is granted is neither open nor too much
    pub open-fresh : refusal (state_of held) (Open name kind) ≡ None → find (has_name name) held.clients ≡ None
    open-fresh h = go (find (has_name name) held.clients) refl
      where
        go : (o : Option Client) → find (has_name name) held.clients ≡ o → o ≡ None
        go None e = refl
        go (Some c) e = absurd (none_some (sym h ∙ open-taken (sym (found-placed (has_name name) held.clients) ∙ ap is_some e)))

    pub open-few : refusal (state_of held) (Open name kind) ≡ None → length held.clients ≤ 64
    open-few h = go (nat_lt 64 (length held.clients)) refl
      where
        few : (n : ℕ) → nat_lt 64 n ≡ false → n ≤ 64
        few n q = grind (arith, nat_tests)

        many : (n : ℕ) → nat_lt 64 n ≡ true → 64 < n
        many n q = grind (arith, nat_tests)

        fresh : is_some (position (has_name name) held.clients) ≡ false
        fresh = sym (found-placed (has_name name) held.clients) ∙ ap is_some (open-fresh h)

        go : (b : Bool) → nat_lt 64 (length held.clients) ≡ b → length held.clients ≤ 64
        go true e = absurd (none_some (sym h ∙ open-full fresh (many (length held.clients) e)))
        go false e = few (length held.clients) e

  -- ---- changing a client

  pub change-missing : (name : List ℕ) → position (has_name name) held.clients ≡ None → refusal (state_of held) (Close name) ≡ Some NoClient
  change-missing name h = ap (λ b. cond b (Some NoClient) (cond (is_system name) (Some IsSystem) None)) (client-missing name ∙ ap (λ o. not (is_some o)) h)

  pub change-system : (name : List ℕ) (i : ℕ) → position (has_name name) held.clients ≡ Some i → is_system name ≡ true → refusal (state_of held) (Close name) ≡ Some IsSystem
  change-system name i h k = ap (λ b. cond b (Some NoClient) (cond (is_system name) (Some IsSystem) None)) (client-missing name ∙ ap (λ o. not (is_some o)) h) ∙ ap (λ b. cond b (Some IsSystem) None) k

  pub change-granted : (name : List ℕ) (i : ℕ) → position (has_name name) held.clients ≡ Some i → is_system name ≡ false → refusal (state_of held) (Close name) ≡ None
  change-granted name i h k = ap (λ b. cond b (Some NoClient) (cond (is_system name) (Some IsSystem) None)) (client-missing name ∙ ap (λ o. not (is_some o)) h) ∙ ap (λ b. cond b (Some IsSystem) None) k

  pub refusal_change : (name : List ℕ) → refusal (state_of held) (Close name) ≡ cond (not (is_some (position (has_name name) held.clients))) (Some NoClient) (cond (is_system name) (Some IsSystem) None)
  refusal_change name = ap (λ b. cond b (Some NoClient) (cond (is_system name) (Some IsSystem) None)) (client-missing name)

  refusal_then : (name : List ℕ) (more : Option Refusal) → refusal (state_of held) (Close name) ≡ None → cond (is_none (client_named (state_of held) name)) (Some NoClient) (cond (is_system name) (Some IsSystem) more) ≡ more
  refusal_then name more h = go (is_none (client_named (state_of held) name)) (is_system name) h
    where
      go : (a b : Bool) → cond a (Some NoClient) (cond b (Some IsSystem) None) ≡ None → cond a (Some NoClient) (cond b (Some IsSystem) more) ≡ more
      go true b e = absurd (none_some (sym e))
      go false true e = absurd (none_some (sym e))
      go false false e = refl

  refusal_first : (name : List ℕ) (given : Refusal) (more : Option Refusal) → refusal (state_of held) (Close name) ≡ Some given → cond (is_none (client_named (state_of held) name)) (Some NoClient) (cond (is_system name) (Some IsSystem) more) ≡ Some given
  refusal_first name given more h = go (is_none (client_named (state_of held) name)) (is_system name) h
    where
      go : (a b : Bool) → cond a (Some NoClient) (cond b (Some IsSystem) None) ≡ Some given → cond a (Some NoClient) (cond b (Some IsSystem) more) ≡ Some given
      go true b e = e
      go false true e = e
      go false false e = absurd (none_some e)

  -- an active client is found among the clients of its name
  active-at : (name : List ℕ) (i : ℕ) (client : Client) → position (has_name name) held.clients ≡ Some i → slice_get held.clients i ≡ Some client → is_active_in (state_of held) name ≡ client.active
  active-at name i client p e = ap is_some (find-map_after open_client (λ (c : OpenClient). bytes_eq c.name name && c.active) held.clients) ∙ some-mapped open_client (find (λ (c : Client). has_name name c && c.active) held.clients)
      ∙ among held.clients i e (position-test held.clients i p e) (only_named held r name i client e (position-test held.clients i p e))
    where
      position-test : (cs : List Client) (k : ℕ) → position (has_name name) cs ≡ Some k → slice_get cs k ≡ Some client → has_name name client ≡ true
      position-test cs k q f = let w = position-at (has_name name) cs k client q in ap (has_name name) (some_same (sym f ∙ w.0)) ∙ w.1

      none_active : (cs : List Client) → ((k : ℕ) (c : Client) → slice_get cs k ≡ Some c → has_name name c ≡ true → ⊥) → is_some (find (λ (c : Client). has_name name c && c.active) cs) ≡ false
      none_active [] h = refl
      none_active (c ∷ cs) h = go (has_name name c) refl (none_active cs (λ k d f t. h (suc k) d f t))
        where
          go : (b : Bool) → has_name name c ≡ b → is_some (find (λ (d : Client). has_name name d && d.active) cs) ≡ false → is_some (cond (b && c.active) (Some c) (find (λ (d : Client). has_name name d && d.active) cs)) ≡ false
          go true t rest = absurd (h 0 c refl t)
          go false t rest = rest

      among : (cs : List Client) (k : ℕ) → slice_get cs k ≡ Some client → has_name name client ≡ true → IsOnlyAt (has_name name) cs k → is_some (find (λ (c : Client). has_name name c && c.active) cs) ≡ client.active
      among [] k f t only = absurd (none_some f)
      among (c ∷ cs) zero f t only =
          ap (λ (d : Client). is_some (cond (has_name name d && d.active) (Some d) (find (λ (d : Client). has_name name d && d.active) cs))) (some_same f)
          ∙ ap (λ b. is_some (cond (b && client.active) (Some client) (find (λ (d : Client). has_name name d && d.active) cs))) t
          ∙ by client.active
        where
          clash : {k : ℕ} → suc k ≡ 0 → ⊥
          clash q = omega (arith, q)

          by : (b : Bool) → is_some (cond b (Some client) (find (λ (d : Client). has_name name d && d.active) cs)) ≡ b
          by true = refl
          by false = none_active cs (λ j d g u. clash (only (suc j) d g u))
      among (c ∷ cs) (suc k) f t only = go (has_name name c) refl (among cs k f t (λ j d g u. before j d g u))
        where
          before : (j : ℕ) (d : Client) → slice_get cs j ≡ Some d → has_name name d ≡ true → j ≡ k
          before j d g u = let q : suc j ≡ suc k = only (suc j) d g u in omega (arith, q)

          clash : 0 ≡ suc k → ⊥
          clash q = omega (arith, q)

          go : (b : Bool) → has_name name c ≡ b → is_some (find (λ (d : Client). has_name name d && d.active) cs) ≡ client.active → is_some (cond (b && c.active) (Some c) (find (λ (d : Client). has_name name d && d.active) cs)) ≡ client.active
          go true u rest = absurd (clash (only 0 c refl u))
          go false u rest = rest

  module _ (name : List ℕ) (i : ℕ) (client : Client) (p : position (has_name name) held.clients ≡ Some i) (e : slice_get held.clients i ≡ Some client) (none : refusal (state_of held) (Close name) ≡ None) where
    pub refusal_activate : refusal (state_of held) (Activate name) ≡ cond client.active (Some AlreadyActive) None
    refusal_activate = refusal_then name _ none ∙ ap (λ b. cond b (Some AlreadyActive) None) (active-at name i client p e)

    pub refusal_deactivate : refusal (state_of held) (Deactivate name) ≡ cond (not client.active) (Some NotActive) None
    refusal_deactivate = refusal_then name _ none ∙ ap (λ b. cond (not b) (Some NotActive) None) (active-at name i client p e)

  pub refusal_activate_first : (name : List ℕ) (given : Refusal) → refusal (state_of held) (Close name) ≡ Some given → refusal (state_of held) (Activate name) ≡ Some given
  refusal_activate_first name given h = refusal_first name given _ h

  pub refusal_deactivate_first : (name : List ℕ) (given : Refusal) → refusal (state_of held) (Close name) ≡ Some given → refusal (state_of held) (Deactivate name) ≡ Some given
  refusal_deactivate_first name given h = refusal_first name given _ h

  pub refusal_register_first : (name : List ℕ) (way : Way) (kind : PortKind) (given : Refusal) → refusal (state_of held) (Close (client_part name)) ≡ Some given → refusal (state_of held) (Register name way kind) ≡ Some given
  refusal_register_first name way kind given h = refusal_first (client_part name) given _ h

  -- ---- ports by the list of their client

  -- an id finds its port
  pub port-found : (port : Port) → Contains held.ports port → port_with held.ports port.id ≡ Some port
  port-found port m = go held.ports r.port_ids m
    where
      go : (ps : List Port) → Apart (λ (q : Port). q.id.0) ps → Contains ps port → port_with ps port.id ≡ Some port
      go [] a c = absurd (none c.1)
        where
          none : {n : ℕ} → n < 0 → ⊥
          none q = omega arith
      go (q ∷ ps) a c = by (bears port.id q) refl (Contains-cases q port ps c) (go ps a.1)
        where
          by : (b : Bool) → bears port.id q ≡ b → (q ≡ port) ⊎ Contains ps port → (Contains ps port → port_with ps port.id ≡ Some port) → cond b (Some q) (port_with ps port.id) ≡ Some port
          by true t (inl s) rest = ap Some s
          by true t (inr k) rest = absurd (a.0 port k (same q t))
            where
              same : (x : Port) → bears port.id x ≡ true → x.id.0 ≡ port.id.0
              same x u = grind (arith, nat_tests)
          by false t (inl s) rest = absurd (true≢false (sym (self q s) ∙ t))
            where
              self : (x : Port) → x ≡ port → bears port.id x ≡ true
              self x u = ap (bears port.id) u ∙ own port.id.0
                where
                  own : (n : ℕ) → nat_eq n n ≡ true
                  own n = grind (arith, nat_tests)
          by false t (inr k) rest = rest k

  -- the place of the first id whose port passes is that of the first port that passes
  place-by_ids : (test : Port → Bool) (ps : List Port) → ((port : Port) → Contains ps port → Contains held.ports port)
      → position (λ (n : ℕ). option_map_or test (port_with held.ports (record { 0 = n })) false) (ids_of ps) ≡ position test ps
  place-by_ids test ps among = position-map_after (λ (port : Port). port.id.0) (λ n. option_map_or test (port_with held.ports (record { 0 = n })) false) ps
      ∙ position-same (λ (port : Port). option_map_or test (port_with held.ports (record { 0 = port.id.0 })) false) test ps (λ port m. ap (λ o. option_map_or test o false) (port-found port (among port m)))

  of_client : (name : List ℕ) (port : Port) → is_named name port ≡ true → is_of (client_part name) port ≡ true
  of_client name port t = (bytes_decides (client_part port.name) (client_part name)).1 (ap client_part (bytes_same port.name name t))

  module _ (name : List ℕ) (client : Client) (of : client.name ≡ client_part name) where
    abbrev theirs : List Port
    theirs = filter (is_of client.name) held.ports

    pub find-theirs : find (is_named name) theirs ≡ find (is_named name) held.ports
    find-theirs = find-filter_kept (is_named name) (is_of client.name) (λ port t. ap (λ n. bytes_eq (client_part port.name) n) of ∙ of_client name port t) held.ports

    pub place-theirs : position (bears_name held.ports name) (ids_in held.ports client) ≡ position (is_named name) theirs
    place-theirs = place-by_ids (is_named name) theirs (λ port m. filter-contains (is_of client.name) held.ports port m)

    pub named-taken : is_some (port_named (state_of held) name) ≡ is_some (position (bears_name held.ports name) (ids_in held.ports client))
    named-taken = ap is_some (find-map_after open_port (λ (port : OpenPort). bytes_eq port.name name) held.ports) ∙ some-mapped open_port (find (is_named name) held.ports)
        ∙ ap is_some (sym find-theirs) ∙ found-placed (is_named name) theirs ∙ ap is_some (sym place-theirs)

    pub count-theirs : (way : Way) → count_by (is_way way) (ports_of (state_of held) (client_part name)) ≡ count_by (has_way held.ports way) (ids_in held.ports client)
    count-theirs way = ap (λ n. count_by (is_way way) (ports_of (state_of held) n)) (sym of)
        ∙ ap (count_by (is_way way)) (sym (map-filter_after open_port (λ (port : OpenPort). bytes_eq (client_part port.name) client.name) held.ports))
        ∙ count-map_after open_port (is_way way) theirs
        ∙ sym (count-map_after (λ (port : Port). port.id.0) (has_way held.ports way) theirs ∙ count-same (λ (port : Port). has_way held.ports way port.id.0) (λ port. is_way way (open_port port)) theirs
        (λ port m. ap (λ o. option_map_or (λ (q : Port). is_way way (open_port q)) o false) (port-found port (filter-contains (is_of client.name) held.ports port m))))

    pub refusal_register : (way : Way) (kind : PortKind) → refusal (state_of held) (Close (client_part name)) ≡ None → refusal (state_of held) (Register name way kind)
        ≡ cond (is_some (position (bears_name held.ports name) (ids_in held.ports client))) (Some NameTaken) (cond (nat_le 16 (count_by (has_way held.ports way) (ids_in held.ports client))) (Some PortsFull) None)
    refusal_register way kind none = refusal_then (client_part name) _ none
        ∙ ap₂ (λ b n. cond b (Some NameTaken) (cond (nat_le 16 n) (Some PortsFull) None)) named-taken (count-theirs way)

    pub refusal_unregister : refusal (state_of held) (Unregister name) ≡ cond (not (is_some (position (bears_name held.ports name) (ids_in held.ports client)))) (Some NoPort) (cond (is_system (client_part name)) (Some IsSystem) None)
    refusal_unregister = ap (λ b. cond b (Some NoPort) (cond (is_system (client_part name)) (Some IsSystem) None)) (none_is (port_named (state_of held) name) ∙ ap not named-taken)

    module _ (way : Way) (kind : PortKind) (none : refusal (state_of held) (Close (client_part name)) ≡ None) where
      pub register-taken : is_some (position (bears_name held.ports name) (ids_in held.ports client)) ≡ true → refusal (state_of held) (Register name way kind) ≡ Some NameTaken
      register-taken h = refusal_register way kind none ∙ ap (λ b. cond b (Some NameTaken) (cond (nat_le 16 (count_by (has_way held.ports way) (ids_in held.ports client))) (Some PortsFull) None)) h

      past_taken : is_some (position (bears_name held.ports name) (ids_in held.ports client)) ≡ false → refusal (state_of held) (Register name way kind) ≡ cond (nat_le 16 (count_by (has_way held.ports way) (ids_in held.ports client))) (Some PortsFull) None
      past_taken h = refusal_register way kind none ∙ ap (λ b. cond b (Some NameTaken) (cond (nat_le 16 (count_by (has_way held.ports way) (ids_in held.ports client))) (Some PortsFull) None)) h

      pub register-full : is_some (position (bears_name held.ports name) (ids_in held.ports client)) ≡ false → 16 ≤ count_by (has_way held.ports way) (ids_in held.ports client) → refusal (state_of held) (Register name way kind) ≡ Some PortsFull
      register-full h k = past_taken h ∙ ap (λ b. cond b (Some PortsFull) None) (above (count_by (has_way held.ports way) (ids_in held.ports client)) k)
        where
          above : (n : ℕ) → 16 ≤ n → nat_le 16 n ≡ true
          above n q = grind (arith, nat_tests)

      pub register-granted : is_some (position (bears_name held.ports name) (ids_in held.ports client)) ≡ false → count_by (has_way held.ports way) (ids_in held.ports client) < 16 → refusal (state_of held) (Register name way kind) ≡ None
      register-granted h k = past_taken h ∙ ap (λ b. cond b (Some PortsFull) None) (below (count_by (has_way held.ports way) (ids_in held.ports client)) k)
        where
          below : (n : ℕ) → n < 16 → nat_le 16 n ≡ false
          below n q = grind (arith, nat_tests)

    pub unregister-missing : position (bears_name held.ports name) (ids_in held.ports client) ≡ None → refusal (state_of held) (Unregister name) ≡ Some NoPort
    unregister-missing h = refusal_unregister ∙ ap (λ o. cond (not (is_some o)) (Some NoPort) (cond (is_system (client_part name)) (Some IsSystem) None)) h

    module _ (j : ℕ) (h : position (bears_name held.ports name) (ids_in held.ports client) ≡ Some j) where
      pub unregister-past : refusal (state_of held) (Unregister name) ≡ cond (is_system (client_part name)) (Some IsSystem) None
      unregister-past = refusal_unregister ∙ ap (λ o. cond (not (is_some o)) (Some NoPort) (cond (is_system (client_part name)) (Some IsSystem) None)) h

    -- the port of the first id that passes is the port of the name
    pub port-by_ids : (j id : ℕ) → position (bears_name held.ports name) (ids_in held.ports client) ≡ Some j → slice_get (ids_in held.ports client) j ≡ Some id → port_with held.ports (record { 0 = id }) ≡ find (is_named name) held.ports
    port-by_ids j id p e = go (slice_get theirs j) refl
      where
        at : slice_get theirs j ≡ find (is_named name) held.ports
        at = position-find (is_named name) theirs j (sym place-theirs ∙ p) ∙ find-theirs

        go : (o : Option Port) → slice_get theirs j ≡ o → port_with held.ports (record { 0 = id }) ≡ find (is_named name) held.ports
        go None f = absurd (none_there (position-at-some (is_named name) theirs j (sym place-theirs ∙ p)) f)
          where
            none_there : (x : Port) × (slice_get theirs j ≡ Some x) → slice_get theirs j ≡ None → ⊥
            none_there w g = none_some (sym g ∙ w.1)
        go (Some port) f =
            let same : id ≡ port.id.0 = some_same (sym e ∙ slice_get-map_some (λ (q : Port). q.id.0) theirs j port f) in
            ap (λ n. port_with held.ports (record { 0 = n })) same ∙ port-found port (filter-contains (is_of client.name) held.ports port (slice_get-contains theirs j port f)) ∙ sym f ∙ at

    pub port-not_theirs : position (bears_name held.ports name) (ids_in held.ports client) ≡ None → find (is_named name) held.ports ≡ None
    port-not_theirs p = sym find-theirs ∙ position-find_none (is_named name) theirs (sym place-theirs ∙ p)

  -- no port of the name without a client of its part
  pub port-of_none : (name : List ℕ) → position (has_name (client_part name)) held.clients ≡ None → find (is_named name) held.ports ≡ None
  port-of_none name p = find-none (is_named name) held.ports (λ port m t. lone port t (r.placed port m))
    where
      lone : (port : Port) → is_named name port ≡ true → IsPlaced held.clients port → ⊥
      lone port t placed = find_none-fresh (has_name (client_part name)) held.clients placed.client (position-find_none (has_name (client_part name)) held.clients p) placed.listed
          ((bytes_decides placed.client.name (client_part name)).1 (placed.named ∙ ap client_part (bytes_same port.name name t)))

  pub refusal_unregister_none : (name : List ℕ) → position (has_name (client_part name)) held.clients ≡ None → refusal (state_of held) (Unregister name) ≡ Some NoPort
  refusal_unregister_none name p = ap (λ b. cond b (Some NoPort) (cond (is_system (client_part name)) (Some IsSystem) None)) missing
    where
      missing : is_none (port_named (state_of held) name) ≡ true
      missing = ap is_none (find-map_after open_port (λ (port : OpenPort). bytes_eq port.name name) held.ports) ∙ ap (λ o. is_none (option_map open_port o)) (port-of_none name p)

  -- what is granted to register is not there yet, and its client has fewer than 16 of its direction
  module _ (name : List ℕ) (way : Way) (kind : PortKind) (none : refusal (state_of held) (Register name way kind) ≡ None) where
    not_refused : (other : Refusal) → Contains (refusals_of (Register name way kind)) other → applies (state_of held) (Register name way kind) other ≡ false
    not_refused other m = refused_not (state_of held) (Register name way kind) (refusals_of (Register name way kind)) other (ap is_none none) m

    pub register-fresh : find (is_named name) held.ports ≡ None
    register-fresh = go (find (is_named name) held.ports) refl
      where
        there : is_some (find (is_named name) held.ports) ≡ false
        there = sym (ap is_some (find-map_after open_port (λ (port : OpenPort). bytes_eq port.name name) held.ports) ∙ some-mapped open_port (find (is_named name) held.ports))
            ∙ not_refused NameTaken (Contains-later NoClient NameTaken (IsSystem ∷ NameTaken ∷ PortsFull ∷ []) (Contains-later IsSystem NameTaken (NameTaken ∷ PortsFull ∷ []) (Contains-first NameTaken (PortsFull ∷ []))))

        go : (o : Option Port) → find (is_named name) held.ports ≡ o → o ≡ None
        go None e = refl
        go (Some port) e = absurd (true≢false (ap is_some (sym e) ∙ there))

    pub register-few : count_by (λ port. is_way way (open_port port)) (filter (is_of (client_part name)) held.ports) < 16
    register-few = below (count_by (λ port. is_way way (open_port port)) (filter (is_of (client_part name)) held.ports))
        (ap (nat_le 16) (sym (ap (count_by (is_way way)) (sym (map-filter_after open_port (λ (port : OpenPort). bytes_eq (client_part port.name) (client_part name)) held.ports)) ∙ count-map_after open_port (is_way way) (filter (is_of (client_part name)) held.ports)))
        ∙ not_refused PortsFull (Contains-later NoClient PortsFull (IsSystem ∷ NameTaken ∷ PortsFull ∷ []) (Contains-later IsSystem PortsFull (NameTaken ∷ PortsFull ∷ []) (Contains-later NameTaken PortsFull (PortsFull ∷ []) (Contains-first PortsFull [])))))
      where
        below : (n : ℕ) → nat_le 16 n ≡ false → n < 16
        below n h = grind (arith, nat_tests)
