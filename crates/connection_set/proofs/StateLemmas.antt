-- A set of connections by ids says what the definitions say by names.
--     connect_refusal-is_refusal, disconnect_refusal-is_refusal      the refusals are those of the commands
--     connections-insert, connections-without_edge, connections-without_port      and so are the edges behind a call
use Rattle.std.proofs.Common.{◌≡◌, ℕ, Bool, true, false, cond, not, ◌&&◌, ◌||◌, ◌==◌, nat_le, List, [], ◌∷◌, ◌++◌, length, map, filter, find, Contains, Option, Some, None, is_none, is_some, refl, sym, ◌∙◌, ap, ap₂, true≢false, eq-eqb, eqb-true}
use Rattle.std.specs.List.{list_any}
use Rattle.std.specs.Option.{option_map_or, option_map}
use Rattle.std.specs.Str.{bytes_eq}
use Rattle.std.proofs.lemmas.List.{map-append, length-map}
use Rattle.session_laws.specs.jack_types.specs.Names.{client_part}
use Rattle.session_laws.specs.jack_types.specs.declared.commands.Command.TheVariants.{Connect, Disconnect}
use Rattle.session_laws.specs.jack_types.specs.declared.ports.Edge.{Edge}
use Rattle.session_laws.specs.jack_types.specs.declared.ports.Mark.{Mark}
use Rattle.session_laws.specs.jack_types.specs.declared.ports.Port.{Port}
use Rattle.session_laws.specs.jack_types.specs.declared.ports.PortId.{PortId}
use Rattle.session_laws.specs.jack_types.specs.declared.replies.Refusal.{Refusal}
use Rattle.session_laws.specs.jack_types.specs.declared.replies.Refusal.TheVariants.{NoSource, NoDestination, NotOutput, NotInput, TypeDiffers, Inactive, Exists, Full, NotConnected}
use Rattle.session_laws.specs.session_model.specs.Commands.{refusal, applies, is_input, types_differ}
use Rattle.session_laws.specs.session_model.specs.Ids.{open_port, connection, connections, port_with, name_with}
use Rattle.session_laws.specs.session_model.specs.State.{State, OpenPort, Connection, port_named, edge_between, is_active_in}
use Rattle.session_laws.proofs.CycleLemmas.{bytes_same, find-passes, find-contains}
use Rattle.session_laws.proofs.LoopLemmas.{Contains-first, Contains-later}
use Rattle.session_laws.proofs.PlanLemmas.{find-one}
use Rattle.session_laws.proofs.SoundLemmas.{Apart-same}
use Rattle.connection_set.specs.Connections.{same_id, joins, is_at, are_joined, are_active, applies_to, connect_refusal, disconnect_refusal, without_edge, without_port, IsNamed, IsIdOf, StandsFor, RefusesConnect, RefusesDisconnect, MakesConnection, TakesConnection, TakesPort}
use lib.Pointwise.{bytes_decides}

find-map : {X Y : Type 0} (f : X → Y) (test : Y → Bool) (xs : List X) → find test (map f xs) ≡ option_map f (find (λ x. test (f x)) xs)
find-map f test [] = refl
find-map f test (x ∷ xs) = go (test (f x)) (find-map f test xs)
  where
    go : (b : Bool) → find test (map f xs) ≡ option_map f (find (λ y. test (f y)) xs) → cond b (Some (f x)) (find test (map f xs)) ≡ option_map f (cond b (Some x) (find (λ y. test (f y)) xs))
    go true rest = refl
    go false rest = rest

-- two tests that agree on a list find the same there
find-same : {X : Type 0} (p q : X → Bool) (xs : List X) → ((x : X) → Contains xs x → p x ≡ q x) → find p xs ≡ find q xs
find-same p q [] h = refl
find-same p q (x ∷ xs) h = ap₂ (λ b rest. cond b (Some x) rest) (h x (Contains-first x xs)) (find-same p q xs (λ y m. h y (Contains-later x y xs m)))

-- two equations of tests that hold in both directions
bool-same : (a b : Bool) → (a ≡ true → b ≡ true) → (b ≡ true → a ≡ true) → a ≡ b
bool-same true b f g = sym (f refl)
bool-same false true f g = g refl
bool-same false false f g = refl

module _ (state : State) (ports : List Port) (edges : List Edge) (stands : StandsFor state ports edges) where
  looked_up : (name : List ℕ) (port : Option Port) → IsNamed ports name port → port_named state name ≡ option_map open_port port
  looked_up name port named =
      ap (λ ps. find (λ (p : OpenPort). bytes_eq p.name name) ps) (sym stands.ports_are)
      ∙ find-map open_port (λ (p : OpenPort). bytes_eq p.name name) ports
      ∙ ap (option_map open_port) (sym named)

  -- an id of a port of this list is its own
  port_with-is : (port : Port) (id : PortId) → Contains ports port → same_id port.id id ≡ true → port_with ports id ≡ Some port
  port_with-is port id listed same = find-one (λ (p : Port). p.id.0 == id.0) ports port listed same
      (λ other there t. Apart-same (λ (p : Port). p.id.0) ports other port stands.ids there listed
      (eqb-true other.id.0 id.0 t ∙ sym (eqb-true port.id.0 id.0 same)))

  -- an end's name is a port's exactly where its id is the port's
  same-name : (id : PortId) (port : Port) → IsIdOf ports id → Contains ports port → bytes_eq (name_with ports id) port.name ≡ same_id id port.id
  same-name id port owned listed =
      ap (λ found. bytes_eq (option_map_or (λ (p : Port). p.name) found []) port.name) (port_with-is owned.0 id owned.1 owned.2)
      ∙ bool-same (bytes_eq (owned.0).name port.name) (same_id id port.id) by_name by_id
    where
      at : (owned.0).id.0 ≡ id.0
      at = eqb-true (owned.0).id.0 id.0 owned.2

      by_name : bytes_eq (owned.0).name port.name ≡ true → same_id id port.id ≡ true
      by_name t =
          let one : owned.0 ≡ port = Apart-same (λ (p : Port). p.name) ports owned.0 port stands.names owned.1 listed (bytes_same (owned.0).name port.name t) in
          eq-eqb id.0 port.id.0 (sym at ∙ ap (λ (p : Port). p.id.0) one)

      by_id : same_id id port.id ≡ true → bytes_eq (owned.0).name port.name ≡ true
      by_id t =
          let one : owned.0 ≡ port = Apart-same (λ (p : Port). p.id.0) ports owned.0 port stands.ids owned.1 listed (at ∙ eqb-true id.0 port.id.0 t) in
          (bytes_decides (owned.0).name port.name).1 (ap (λ (p : Port). p.name) one)

  abbrev goes : Port → Port → Connection → Bool
  goes source destination edge = bytes_eq edge.source source.name && bytes_eq edge.destination destination.name

  -- edges among those of the set
  abbrev OfSet : List Edge → Type 0
  OfSet some = (edge : Edge) → Contains some edge → Contains edges edge

  same-joins : (source destination : Port) → Contains ports source → Contains ports destination → (edge : Edge) → Contains edges edge
      → goes source destination (connection ports edge) ≡ joins source.id destination.id edge
  same-joins source destination a b edge m = ap₂ (λ x y. x && y) (same-name edge.source source (stands.sources edge m) a) (same-name edge.destination destination (stands.destinations edge m) b)

  same-is_at : (port : Port) → Contains ports port → (edge : Edge) → Contains edges edge
      → (bytes_eq (connection ports edge).source port.name || bytes_eq (connection ports edge).destination port.name) ≡ is_at port.id edge
  same-is_at port a edge m = ap₂ (λ x y. x || y) (same-name edge.source port (stands.sources edge m) a) (same-name edge.destination port (stands.destinations edge m) a)

  list_any-found : (test : Edge → Bool) (some : List Edge) → list_any test some ≡ is_some (find test some)
  list_any-found test [] = refl
  list_any-found test (edge ∷ some) = go (test edge) (list_any-found test some)
    where
      go : (b : Bool) → list_any test some ≡ is_some (find test some) → (b || list_any test some) ≡ is_some (cond b (Some edge) (find test some))
      go true rest = refl
      go false rest = rest

  is_some-map : {X Y : Type 0} (f : X → Y) (o : Option X) → is_some (option_map f o) ≡ is_some o
  is_some-map f None = refl
  is_some-map f (Some x) = refl

  joined-found : (source destination : Port) → Contains ports source → Contains ports destination
      → list_any (joins source.id destination.id) edges ≡ is_some (edge_between state source.name destination.name)
  joined-found source destination a b =
      list_any-found (joins source.id destination.id) edges
      ∙ ap is_some (find-same (joins source.id destination.id) (λ edge. goes source destination (connection ports edge)) edges (λ edge m. sym (same-joins source destination a b edge m)))
      ∙ sym (is_some-map (connection ports) (find (λ edge. goes source destination (connection ports edge)) edges))
      ∙ ap is_some (sym (find-map (connection ports) (goes source destination) edges))
      ∙ ap (λ es. is_some (find (goes source destination) es)) stands.edges_are

  -- the filter by names is the filter by ids
  filtered : (p : Connection → Bool) (q : Edge → Bool) (some : List Edge) → ((edge : Edge) → Contains some edge → p (connection ports edge) ≡ q edge)
      → connections ports (filter q some) ≡ filter p (connections ports some)
  filtered p q [] h = refl
  filtered p q (edge ∷ some) h = go (q edge) (p (connection ports edge)) (h edge (Contains-first edge some)) (filtered p q some (λ e m. h e (Contains-later edge e some m)))
    where
      go : (a b : Bool) → b ≡ a → connections ports (filter q some) ≡ filter p (connections ports some)
          → map (connection ports) (cond a (edge ∷ filter q some) (filter q some)) ≡ cond b (connection ports edge ∷ filter p (connections ports some)) (filter p (connections ports some))
      go true true e rest = ap (λ es. connection ports edge ∷ es) rest
      go false false e rest = rest
      go true false e rest = absurd (true≢false (sym e))
      go false true e rest = absurd (true≢false e)

  -- two names that were looked up
  module _ (from to : List ℕ) (source destination : Option Port) (named : IsNamed ports from source) (aimed : IsNamed ports to destination) where
    there : (name : List ℕ) (port : Port) → Some port ≡ find (λ (p : Port). bytes_eq p.name name) ports → Contains ports port × (port.name ≡ name)
    there name port e = (
      find-contains (λ (p : Port). bytes_eq p.name name) ports port (sym e),
      bytes_same port.name name (find-passes (λ (p : Port). bytes_eq p.name name) ports port (sym e)),
    )

    joined-is : (found given : Option Port) → source ≡ found → destination ≡ given → is_some found ≡ true → is_some given ≡ true → are_joined edges found given ≡ is_some (edge_between state from to)
    joined-is None given e f p q = absurd (true≢false (sym p))
    joined-is (Some a) None e f p q = absurd (true≢false (sym q))
    joined-is (Some a) (Some b) e f p q =
        let first : Contains ports a × (a.name ≡ from) = there from a (sym e ∙ named) in
        let second : Contains ports b × (b.name ≡ to) = there to b (sym f ∙ aimed) in
        joined-found a b first.0 second.0 ∙ ap₂ (λ x y. is_some (edge_between state x y)) first.1 second.1

    active-is : (found given : Option Port) → source ≡ found → destination ≡ given → is_some found ≡ true → is_some given ≡ true
        → are_active found given ≡ (is_active_in state (client_part from) && is_active_in state (client_part to))
    active-is None given e f p q = absurd (true≢false (sym p))
    active-is (Some a) None e f p q = absurd (true≢false (sym q))
    active-is (Some a) (Some b) e f p q =
        let first : Contains ports a × (a.name ≡ from) = there from a (sym e ∙ named) in
        let second : Contains ports b × (b.name ≡ to) = there to b (sym f ∙ aimed) in
        ap₂ (λ x y. x && y)
        (stands.activity a first.0 ∙ ap (λ name. is_active_in state (client_part name)) first.1)
        (stands.activity b second.0 ∙ ap (λ name. is_active_in state (client_part name)) second.1)

    none-map : {X Y : Type 0} (f : X → Y) (o : Option X) → is_none o ≡ is_none (option_map f o)
    none-map f None = refl
    none-map f (Some x) = refl

    or-map : (test : OpenPort → Bool) (o : Option Port) → option_map_or (λ port. test (open_port port)) o false ≡ option_map_or test (option_map open_port o) false
    or-map test None = refl
    or-map test (Some x) = refl

    no-source : is_none source ≡ is_none (port_named state from)
    no-source = none-map open_port source ∙ ap is_none (sym (looked_up from source named))

    no-destination : is_none destination ≡ is_none (port_named state to)
    no-destination = none-map open_port destination ∙ ap is_none (sym (looked_up to destination aimed))

    no-output : option_map_or (λ (port : Port). is_input (open_port port)) source false ≡ option_map_or is_input (port_named state from) false
    no-output = or-map is_input source ∙ ap (λ o. option_map_or is_input o false) (sym (looked_up from source named))

    no-input : option_map_or (λ (port : Port). not (is_input (open_port port))) destination false ≡ option_map_or (λ (port : OpenPort). not (is_input port)) (port_named state to) false
    no-input = or-map (λ (port : OpenPort). not (is_input port)) destination ∙ ap (λ o. option_map_or (λ (port : OpenPort). not (is_input port)) o false) (sym (looked_up to destination aimed))

    differs : types_differ (option_map open_port source) (option_map open_port destination) ≡ types_differ (port_named state from) (port_named state to)
    differs = ap₂ types_differ (sym (looked_up from source named)) (sym (looked_up to destination aimed))

    full : nat_le 512 (length edges) ≡ nat_le 512 (length state.edges)
    full = ap (nat_le 512) (sym (length-map edges (connection ports)) ∙ ap length stands.edges_are)

    some-of : {X : Type 0} (o : Option X) → is_none o ≡ false → is_some o ≡ true
    some-of None h = absurd (true≢false h)
    some-of (Some x) h = refl

    -- tests that agree where the earlier two failed
    first-two : (a b c d : Bool) (x y : Refusal) (rest other : Option Refusal) → a ≡ c → b ≡ d → (a ≡ false → b ≡ false → rest ≡ other)
        → cond a (Some x) (cond b (Some y) rest) ≡ cond c (Some x) (cond d (Some y) other)
    first-two true b c d x y rest other e f g = ap (λ t. cond t (Some x) (cond d (Some y) other)) e
    first-two false true c d x y rest other e f g = ap₂ (λ t u. cond t (Some x) (cond u (Some y) other)) e f
    first-two false false c d x y rest other e f g = g refl refl ∙ ap₂ (λ t u. cond t (Some x) (cond u (Some y) other)) e f

    pub connect_refusal-is_refusal : connect_refusal edges source destination ≡ refusal state (Connect from to)
    connect_refusal-is_refusal =
        first-two (is_none source) (is_none destination) (is_none (port_named state from)) (is_none (port_named state to)) NoSource NoDestination
        (find (applies_to edges source destination) later) (find (applies state (Connect from to)) later)
        no-source no-destination
        (λ p q. ap₂ (λ b rest. cond b (Some NotOutput) rest) no-output
        (ap₂ (λ b rest. cond b (Some NotInput) rest) no-input
        (ap₂ (λ b rest. cond b (Some TypeDiffers) rest) differs
        (ap₂ (λ b rest. cond b (Some Inactive) rest) (ap not (active-is source destination refl refl (some-of source p) (some-of destination q)))
        (ap₂ (λ b rest. cond b (Some Exists) rest) (joined-is source destination refl refl (some-of source p) (some-of destination q))
        (ap (λ b. cond b (Some Full) None) full))))))
      where
        later : List Refusal
        later = NotOutput ∷ NotInput ∷ TypeDiffers ∷ Inactive ∷ Exists ∷ Full ∷ []

    pub disconnect_refusal-is_refusal : disconnect_refusal edges source destination ≡ refusal state (Disconnect from to)
    disconnect_refusal-is_refusal =
        first-two (is_none source) (is_none destination) (is_none (port_named state from)) (is_none (port_named state to)) NoSource NoDestination
        (cond (not (are_joined edges source destination)) (Some NotConnected) None) (cond (is_none (edge_between state from to)) (Some NotConnected) None)
        no-source no-destination
        (λ p q. ap (λ b. cond b (Some NotConnected) None) (ap not (joined-is source destination refl refl (some-of source p) (some-of destination q)) ∙ not-some (edge_between state from to)))
      where
        not-some : (o : Option Connection) → not (is_some o) ≡ is_none o
        not-some None = refl
        not-some (Some edge) = refl

    -- the edges behind a removal, by names
    pub connections-without_edge : disconnect_refusal edges source destination ≡ None
        → connections ports (without_edge source destination edges) ≡ filter (λ (edge : Connection). not (bytes_eq edge.source from && bytes_eq edge.destination to)) state.edges
    connections-without_edge accepted = go source destination refl refl accepted
      where
        go : (found given : Option Port) → source ≡ found → destination ≡ given → disconnect_refusal edges found given ≡ None
            → connections ports (without_edge found given edges) ≡ filter (λ (edge : Connection). not (bytes_eq edge.source from && bytes_eq edge.destination to)) state.edges
        go None given e f h = cc
        go (Some a) None e f h = cc
        go (Some a) (Some b) e f h =
            let first : Contains ports a × (a.name ≡ from) = there from a (sym e ∙ named) in
            let second : Contains ports b × (b.name ≡ to) = there to b (sym f ∙ aimed) in
            filtered (λ (edge : Connection). not (bytes_eq edge.source a.name && bytes_eq edge.destination b.name)) (λ edge. not (joins a.id b.id edge)) edges
            (λ edge m. ap not (same-joins a b first.0 second.0 edge m))
            ∙ ap₂ (λ x y. filter (λ (edge : Connection). not (bytes_eq edge.source x && bytes_eq edge.destination y)) (connections ports edges)) first.1 second.1
            ∙ ap (filter (λ (edge : Connection). not (bytes_eq edge.source from && bytes_eq edge.destination to))) stands.edges_are

    -- and behind a new connection
    pub connections-insert : (a b : Port) (mark : Mark) → source ≡ Some a → destination ≡ Some b
        → connections ports (edges ++ record { source = a.id; destination = b.id; mark = mark } ∷ []) ≡ state.edges ++ record { source = from; destination = to; mark = mark } ∷ []
    connections-insert a b mark e f =
        let first : Contains ports a × (a.name ≡ from) = there from a (sym e ∙ named) in
        let second : Contains ports b × (b.name ≡ to) = there to b (sym f ∙ aimed) in
        map-append (connection ports) edges (record { source = a.id; destination = b.id; mark = mark } ∷ [])
        ∙ ap₂ (λ old new. old ++ new ∷ []) stands.edges_are
        (ap₂ (λ (x y : List ℕ). let c : Connection = record { source = x; destination = y; mark = mark } in c) (own a first.0 ∙ first.1) (own b second.0 ∙ second.1))
      where
        own : (port : Port) → Contains ports port → name_with ports port.id ≡ port.name
        own port m = ap (λ found. option_map_or (λ (p : Port). p.name) found []) (port_with-is port port.id m (eq-eqb port.id.0 port.id.0 refl))

  -- the edges behind a port's end, by names
  pub connections-without_port : (port : Port) → Contains ports port
      → connections ports (without_port port.id edges) ≡ filter (λ (edge : Connection). not (bytes_eq edge.source port.name || bytes_eq edge.destination port.name)) state.edges
  connections-without_port port m =
      filtered (λ (edge : Connection). not (bytes_eq edge.source port.name || bytes_eq edge.destination port.name)) (λ edge. not (is_at port.id edge)) edges
      (λ edge k. ap not (same-is_at port m edge k))
      ∙ ap (filter (λ (edge : Connection). not (bytes_eq edge.source port.name || bytes_eq edge.destination port.name))) stands.edges_are

pub refuses_connect : (edges : List Edge) (source destination : Option Port) → RefusesConnect edges source destination
refuses_connect edges source destination state ports from to stands named aimed = connect_refusal-is_refusal state ports edges stands from to source destination named aimed

pub refuses_disconnect : (edges : List Edge) (source destination : Option Port) → RefusesDisconnect edges source destination
refuses_disconnect edges source destination state ports from to stands named aimed = disconnect_refusal-is_refusal state ports edges stands from to source destination named aimed

pub makes_connection : (old : List Edge) (source destination : Port) (mark : Mark) (new : List Edge)
    → new ≡ old ++ record { source = source.id; destination = destination.id; mark = mark } ∷ [] → MakesConnection old source destination mark new
makes_connection old source destination mark new made state ports from to stands named aimed =
    ap (connections ports) made ∙ connections-insert state ports old stands from to (Some source) (Some destination) named aimed source destination mark refl refl

pub takes_connection : (old : List Edge) (source destination : Option Port) (new : List Edge)
    → disconnect_refusal old source destination ≡ None → new ≡ without_edge source destination old → TakesConnection old source destination new
takes_connection old source destination new accepted left state ports from to stands named aimed =
    ap (connections ports) left ∙ connections-without_edge state ports old stands from to source destination named aimed accepted

pub takes_port : (old : List Edge) (id : PortId) (new : List Edge) → new ≡ without_port id old → TakesPort old id new
takes_port old id new left state ports port stands listed same =
    ap (connections ports) left ∙ ap (λ i. connections ports (without_port i old)) (sym same) ∙ connections-without_port state ports old stands port listed
