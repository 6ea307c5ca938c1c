-- Which edges a link carries, and where an edge stands among them.
--     between-is      an edge is between two nodes exactly where their link carries it
--     connection-counted      an edge's place among those between its nodes is the number of earlier connections of their link
use Rattle.std.proofs.Common.{◌≡◌, ℕ, ◌+◌, ◌<◌, Bool, true, false, cond, not, ◌&&◌, ◌==◌, List, [], ◌∷◌, length, filter, filter_map, get_or, take, count_by, Contains, Option, Some, None, refl, sym, ◌∙◌, ap, ap₂, subst, arith, eq-eqb, eqb-true}
use Rattle.std.specs.List.{cons_option, position_or_len}
use Rattle.std.specs.Option.{option_map}
use Rattle.std.specs.Str.{bytes_eq}
use Rattle.std.proofs.Math.ListN.{get_or-map as get_or-made}
use Rattle.std.proofs.lemmas.List.{length-map}
use Rattle.std.proofs.lemmas.List.Quantifiers.{position-Some}
use Rattle.jack_types.specs.Names.{client_part}
use Rattle.jack_types.specs.declared.ports.Edge.{Edge}
use Rattle.jack_types.specs.declared.ports.Link.{Link}
use Rattle.jack_types.specs.declared.ports.Mark.{Mark}
use Rattle.jack_types.specs.declared.ports.Port.{Port}
use Rattle.jack_types.specs.declared.ports.Mark.TheVariants.{Direct, Feedback}
use Rattle.session_model.specs.Activation.{no_link}
use Rattle.session_model.specs.Benches.{IsPlan, edge_place, edges_between, node_at, place_in}
use Rattle.session_model.specs.Courses.{players}
use Rattle.session_model.specs.Soundness.{IsEnd}
use Rattle.session_model.specs.Ids.{connection, connections, name_with}
use Rattle.session_model.specs.State.{Connection, OpenClient, State, is_direct, is_system, system_client}
use Rattle.cycle_plan.specs.session_laws.proofs.CycleLemmas.{bytes_same}
use Rattle.cycle_plan.specs.session_laws.proofs.EdgeLemmas.{AreApart, AreApart-opening, AreApart-replay, ends_of}
use Rattle.cycle_plan.specs.session_laws.proofs.LoopLemmas.{Contains-first, Contains-later, and_parts, and_true}
use Rattle.cycle_plan.specs.session_laws.proofs.PlaceLemmas.{filter-keeps, position-found, position-passes}
use Rattle.cycle_plan.specs.session_laws.proofs.PlanLemmas.{Distinct-from_Apart}
use Rattle.cycle_plan.specs.session_laws.proofs.SoundLemmas.{map-contains}
use Rattle.cycle_plan.specs.session_laws.proofs.FilterLemmas.{count-cons}
use Rattle.cycle_plan.specs.port_registry.specs.Registered.{open_clients}
use Rattle.cycle_plan.specs.Graphs.{state_of}
use Rattle.cycle_plan.specs.Layouts.{link_between, same_link}
use Rattle.cycle_plan.specs.Plans.{IsPlanned, Planned, link_in, opening_of}
use Rattle.cycle_plan.proofs.NetworkLemmas.{bool-same, fails}
use Rattle.client_wiring.specs.declared.joints.Carried.{Carried}
use Rattle.client_wiring.specs.Tables.{is_over, link_numbered}
use Rattle.client_wiring.specs.Wirings.{carried_by, carried_on, output_of}
use Rattle.client_wiring.proofs.ListLemmas.{Contains-front, stands, take-made}
use lib.Pointwise.{bytes_decides}

pub same_link-is : (a b : Link) → same_link a b ≡ true → a ≡ b
same_link-is a b h =
    let both = and_parts (a.from == b.from) (a.to == b.to) h in
    ap₂ link_numbered (eqb-true a.from b.from both.0) (eqb-true a.to b.to both.1)

pub same_link-self : (a : Link) → same_link a a ≡ true
same_link-self a = and_true (a.from == a.from) (a.to == a.to) (eq-eqb a.from a.from refl) (eq-eqb a.to a.to refl)

-- links at one place are one
pub one-link : (links : List Link) (a b : Link) → Contains links a → Contains links b → position_or_len (same_link a) links ≡ position_or_len (same_link b) links → a ≡ b
one-link links a b p q e =
    let at-a = (position-passes (same_link a) links a no_link p (same_link-self a)).1 in
    let at-b = (position-passes (same_link b) links b no_link q (same_link-self b)).1 in
    same_link-is a (get_or links (position_or_len (same_link a) links) no_link) at-a
    ∙ ap (λ k. get_or links k no_link) e
    ∙ sym (same_link-is b (get_or links (position_or_len (same_link b) links) no_link) at-b)

-- whether a link carries what an edge makes
abbrev pub carries : ℕ → Option Carried → Bool
carries l None = false
carries l (Some carried) = is_over l carried

-- the connections of a link are the edges that it carries
pub counted-over : {X : Type 0} (l : ℕ) (made : X → Option Carried) (xs : List X) (test : X → Bool) → ((x : X) → Contains xs x → test x ≡ carries l (made x))
    → count_by (is_over l) (filter_map made xs) ≡ length (filter test xs)
counted-over l made [] test agree = refl
counted-over l made (x ∷ xs) test agree = go (made x) (test x) (agree x (Contains-first x xs)) (counted-over l made xs test (λ y m. agree y (Contains-later x y xs m)))
  where
    none : (n : ℕ) → 0 + n ≡ n
    none n = omega arith

    go : (o : Option Carried) (b : Bool) → b ≡ carries l o → count_by (is_over l) (filter_map made xs) ≡ length (filter test xs)
        → count_by (is_over l) (cons_option o (filter_map made xs)) ≡ length (cond b (x ∷ filter test xs) (filter test xs))
    go None b e rest = rest ∙ ap (λ c. length (cond c (x ∷ filter test xs) (filter test xs))) (sym e)
    go (Some carried) b e rest =
        count-cons (is_over l) carried (filter_map made xs)
        ∙ ap (λ c. cond c 1 0 + count_by (is_over l) (filter_map made xs)) (sym e)
        ∙ by b
      where
        by : (c : Bool) → cond c 1 0 + count_by (is_over l) (filter_map made xs) ≡ length (cond c (x ∷ filter test xs) (filter test xs))
        by true = omega (arith, rest)
        by false = none (count_by (is_over l) (filter_map made xs)) ∙ rest

-- whether an edge is direct and between the clients at two nodes
abbrev pub is_between : List OpenClient → ℕ → ℕ → Connection → Bool
is_between nodes a n edge = is_direct edge.mark && (bytes_eq (client_part edge.source) (node_at nodes a).name && bytes_eq (client_part edge.destination) (node_at nodes n).name)

module _ (state : State) (nodes : List OpenClient) (links : List Link) (plan : IsPlan state nodes links) where
  -- a name's node
  place-of_name : (name : List ℕ) (a : ℕ) → a < length nodes → bytes_eq name (node_at nodes a).name ≡ true → place_in nodes name ≡ Some a
  place-of_name name a low t = ap (place_in nodes) (bytes_same name (node_at nodes a).name t) ∙ plan.placed a low

  pub name-of_place : (name : List ℕ) (a : ℕ) → place_in nodes name ≡ Some a → (a < length nodes) × ((node_at nodes a).name ≡ name)
  name-of_place name a e =
      let w = position-Some (λ (client : OpenClient). bytes_eq client.name name) nodes a system_client e in
      (w.0, bytes_same (node_at nodes a).name name w.1)

  -- what comes from no node, or goes into none, is the device's
  pub device_of_none : (is_in is_sound : Bool) (name : List ℕ) → IsEnd state is_in is_sound name → place_in nodes (client_part name) ≡ None → is_system (client_part name) ≡ true
  device_of_none is_in is_sound name end none = go (is_system (client_part name)) refl
    where
      plays : OpenClient → Bool
      plays client = client.active && not (is_system client.name)

      nowhere : (i : ℕ) → None ≡ Some i → ⊥
      nowhere i f = cc

      go : (b : Bool) → is_system (client_part name) ≡ b → is_system (client_part name) ≡ true
      go true e = e
      go false e =
          let player : Contains (players state) end.client = filter-keeps plays state.clients end.client end.open_client (and_true end.client.active (not (is_system end.client.name)) end.active (ap not (ap is_system end.client_is ∙ e))) in
          let found = position-found (λ (client : OpenClient). bytes_eq client.name (client_part name)) nodes end.client (plan.every end.client player) ((bytes_decides end.client.name (client_part name)).1 end.client_is) in
          absurd (nowhere (position_or_len (λ (client : OpenClient). bytes_eq client.name (client_part name)) nodes) (sym none ∙ found))

  -- an edge between two nodes has their link
  pub link-of_between : (a n : ℕ) (edge : Connection) → a < length nodes → n < length nodes → is_between nodes a n edge ≡ true → link_in nodes edge ≡ Some (link_numbered a n)
  link-of_between a n edge low less t =
      let outer = and_parts (is_direct edge.mark) (bytes_eq (client_part edge.source) (node_at nodes a).name && bytes_eq (client_part edge.destination) (node_at nodes n).name) t in
      let inner = and_parts (bytes_eq (client_part edge.source) (node_at nodes a).name) (bytes_eq (client_part edge.destination) (node_at nodes n).name) outer.1 in
      ap (λ b. cond b (link_between (place_in nodes (client_part edge.source)) (place_in nodes (client_part edge.destination))) None) outer.0
      ∙ ap₂ link_between (place-of_name (client_part edge.source) a low inner.0) (place-of_name (client_part edge.destination) n less inner.1)

  -- and an edge with a link is between its nodes
  pub between-of_link : (a n : ℕ) (edge : Connection) → link_in nodes edge ≡ Some (link_numbered a n)
      → (is_between nodes a n edge ≡ true) × (edge.mark ≡ Direct) × (place_in nodes (client_part edge.source) ≡ Some a) × (place_in nodes (client_part edge.destination) ≡ Some n)
  between-of_link a n edge e = go edge.mark (place_in nodes (client_part edge.source)) (place_in nodes (client_part edge.destination)) refl refl refl e
    where
      apart : (l : Link) → None ≡ Some l → ⊥
      apart l f = cc

      named : (name : List ℕ) (k : ℕ) → place_in nodes name ≡ Some k → bytes_eq name (node_at nodes k).name ≡ true
      named name k f = (bytes_decides name (node_at nodes k).name).1 (sym (name-of_place name k f).1)

      one : (x y : Link) → Some x ≡ Some y → x ≡ y
      one x y f = cc

      go : (mark : Mark) (from to : Option ℕ) → edge.mark ≡ mark → place_in nodes (client_part edge.source) ≡ from → place_in nodes (client_part edge.destination) ≡ to
          → cond (is_direct mark) (link_between from to) None ≡ Some (link_numbered a n)
          → (is_between nodes a n edge ≡ true) × (edge.mark ≡ Direct) × (place_in nodes (client_part edge.source) ≡ Some a) × (place_in nodes (client_part edge.destination) ≡ Some n)
      go Feedback from to f g h k = absurd (apart (link_numbered a n) k)
      go Direct None to f g h k = absurd (apart (link_numbered a n) k)
      go Direct (Some x) None f g h k = absurd (apart (link_numbered a n) k)
      go Direct (Some x) (Some y) f g h k =
          let same : link_numbered x y ≡ link_numbered a n = one (link_numbered x y) (link_numbered a n) k in
          let from : place_in nodes (client_part edge.source) ≡ Some a = g ∙ ap (λ (l : Link). Some l.from) same in
          let to : place_in nodes (client_part edge.destination) ≡ Some n = h ∙ ap (λ (l : Link). Some l.to) same in (
            and_true (is_direct edge.mark) (bytes_eq (client_part edge.source) (node_at nodes a).name && bytes_eq (client_part edge.destination) (node_at nodes n).name) (ap is_direct f)
                (and_true (bytes_eq (client_part edge.source) (node_at nodes a).name) (bytes_eq (client_part edge.destination) (node_at nodes n).name) (named (client_part edge.source) a from) (named (client_part edge.destination) n to)),
            f,
            from,
            to,
          )

  -- an edge is between two nodes exactly where their link carries it
  pub between-is : (a n : ℕ) → a < length nodes → n < length nodes → Contains links (link_numbered a n) → (edge : Connection) → Contains state.edges edge
      → is_between nodes a n edge ≡ carries (position_or_len (same_link (link_numbered a n)) links) (carried_by state nodes links edge)
  between-is a n low less there edge m = go (link_in nodes edge) refl
    where
      apart : (l : Link) → None ≡ Some l → ⊥
      apart l f = cc

      one : (x y : Link) → Some x ≡ Some y → x ≡ y
      one x y f = cc

      P : ℕ
      P = position_or_len (same_link (link_numbered a n)) links

      made : Option Link → Option Carried
      made link = option_map (carried_on links (output_of state edge.source)) link

      go : (o : Option Link) → link_in nodes edge ≡ o → is_between nodes a n edge ≡ carries (position_or_len (same_link (link_numbered a n)) links) (carried_by state nodes links edge)
      go None e =
          fails (is_between nodes a n edge) (λ t. apart (link_numbered a n) (sym e ∙ link-of_between a n edge low less t))
          ∙ sym (ap (λ o. carries P (made o)) e)
      go (Some l) e =
          bool-same (is_between nodes a n edge) (position_or_len (same_link l) links == P)
          (λ t. let same : l ≡ link_numbered a n = one l (link_numbered a n) (sym e ∙ link-of_between a n edge low less t) in
          eq-eqb (position_or_len (same_link l) links) P (ap (λ link. position_or_len (same_link link) links) same))
          (λ t. let ends = between-of_link l.from l.to edge e in
          let listed : Contains links l = plan.joined edge l.from l.to m ends.1 ends.2 ends.3 in
          let same : l ≡ link_numbered a n = one-link links l (link_numbered a n) listed there (eqb-true (position_or_len (same_link l) links) P t) in
          (between-of_link a n edge (e ∙ ap Some same)).0)
          ∙ sym (ap (λ o. carries P (made o)) e)

-- the place of an edge among those between its nodes
pub connection-counted : (plan : Planned) → IsPlanned plan → (edge : Edge) (index : ℕ) → index < length plan.network.set.edges → get_or plan.network.set.edges index edge ≡ edge
    → (carried : List Carried) → carried ≡ filter_map (carried_by (state_of plan.network) (open_clients plan.nodes) plan.links) (connections plan.network.held.ports (take index plan.network.set.edges))
    → (a n : ℕ) → edge.mark ≡ Direct → place_in (open_clients plan.nodes) (client_part (name_with plan.network.held.ports edge.source)) ≡ Some a → place_in (open_clients plan.nodes) (client_part (name_with plan.network.held.ports edge.destination)) ≡ Some n
    → count_by (is_over (position_or_len (same_link (link_numbered a n)) plan.links)) carried
    ≡ edge_place (connection plan.network.held.ports edge) (edges_between (state_of plan.network) (node_at (open_clients plan.nodes) a).name (node_at (open_clients plan.nodes) n).name)
connection-counted plan p edge index within there carried so_far a n direct from to =
    ap (count_by (is_over P)) so_far
    ∙ counted-over P (carried_by state nodes plan.links) (connections ports (take index edges)) (is_between nodes a n) (λ c m. between-is state nodes plan.links is_plan a n low less listed c (among c m))
    ∙ ap (λ cs. length (filter (is_between nodes a n) cs)) (take-made (connection ports) index edges)
    ∙ sym (stands same_ends (is_between nodes a n) (connections ports edges) index (connection ports edge)
    (let many : length (connections ports edges) ≡ length edges = length-map edges (connection ports) in omega (arith, within, many))
    (get_or-made (connection ports) edges index edge ∙ ap (connection ports) there)
    (between-of_link state nodes plan.links is_plan a n (connection ports edge) link).0
    (and_true (bytes_eq (connection ports edge).source (connection ports edge).source) (bytes_eq (connection ports edge).destination (connection ports edge).destination)
    ((bytes_decides (connection ports edge).source (connection ports edge).source).1 refl) ((bytes_decides (connection ports edge).destination (connection ports edge).destination).1 refl))
    first)
  where
    ports : List Port
    ports = plan.network.held.ports

    edges : List Edge
    edges = plan.network.set.edges

    nodes : List OpenClient
    nodes = open_clients plan.nodes

    state : State
    state = state_of plan.network

    P : ℕ
    P = position_or_len (same_link (link_numbered a n)) plan.links

    is_plan : IsPlan (state_of plan.network) (open_clients plan.nodes) plan.links
    is_plan = subst (λ s. IsPlan s (open_clients plan.nodes) plan.links) (sym p.state) p.is_plan

    apart : AreApart (state_of plan.network).edges
    apart = subst (λ (s : State). AreApart s.edges) (sym p.state) (AreApart-replay (opening_of plan.base) plan.changes (AreApart-opening plan.base.capture plan.base.playback))

    low : a < length (open_clients plan.nodes)
    low = (name-of_place (state_of plan.network) (open_clients plan.nodes) plan.links is_plan (client_part (name_with ports edge.source)) a from).0

    less : n < length (open_clients plan.nodes)
    less = (name-of_place (state_of plan.network) (open_clients plan.nodes) plan.links is_plan (client_part (name_with ports edge.destination)) n to).0

    inside : Contains (state_of plan.network).edges (connection plan.network.held.ports edge)
    inside = map-contains (connection plan.network.held.ports) plan.network.set.edges edge (index, within, there)

    listed : Contains plan.links (link_numbered a n)
    listed = is_plan.joined (connection plan.network.held.ports edge) a n inside direct from to

    link : link_in (open_clients plan.nodes) (connection plan.network.held.ports edge) ≡ Some (link_numbered a n)
    link = ap (λ b. cond b (link_between (place_in nodes (client_part (name_with ports edge.source))) (place_in nodes (client_part (name_with ports edge.destination)))) None) (ap is_direct direct) ∙ ap₂ link_between from to

    among : (c : Connection) → Contains (connections plan.network.held.ports (take index plan.network.set.edges)) c → Contains (state_of plan.network).edges c
    among c m = Contains-front index (connections ports edges) c (subst (λ cs. Contains cs c) (take-made (connection ports) index edges) m)

    same_ends : Connection → Bool
    same_ends other = bytes_eq other.source (connection plan.network.held.ports edge).source && bytes_eq other.destination (connection plan.network.held.ports edge).destination

    first : (j : ℕ) → j < index → same_ends (get_or (connections plan.network.held.ports plan.network.set.edges) j (connection plan.network.held.ports edge)) ≡ false
    first j before = fails (same_ends (get_or (connections ports edges) j (connection ports edge))) twice
      where
        here : Connection
        here = connection plan.network.held.ports edge

        other : Connection
        other = get_or (connections plan.network.held.ports plan.network.set.edges) j (connection plan.network.held.ports edge)

        twice : same_ends (get_or (connections plan.network.held.ports plan.network.set.edges) j (connection plan.network.held.ports edge)) ≡ true → ⊥
        twice t =
            let both = and_parts (bytes_eq other.source here.source) (bytes_eq other.destination here.destination) t in
            let many : length (connections ports edges) ≡ length edges = length-map edges (connection ports) in
            let ends : ends_of other ≡ ends_of here = ap₂ (λ (x y : List ℕ). (x, y)) (bytes_same other.source here.source both.0) (bytes_same other.destination here.destination both.1) in
            let one : j ≡ index = Distinct-from_Apart ends_of (connections ports edges) apart j index here (omega (arith, before, within, many)) (omega (arith, within, many))
            (ends ∙ ap ends_of (sym (get_or-made (connection ports) edges index edge ∙ ap (connection ports) there))) in
            omega (arith, one, before)
