-- Ports come, change and go: what their edges are by names, and that each still has its ends.
--     connections-moved, HaveEnds-moved      where each end is among the new ports under its name
--     connections-filter      some of the edges, by names
--     edges_left-is      edges that were left, and marked anew
--     without_client-is      the edges of a client's ports, by ids and by names
use Rattle.std.proofs.Common.{◌≡◌, ℕ, suc, ◌<◌, ◌≤◌, Bool, true, false, cond, not, ◌&&◌, ◌||◌, ◌==◌, nat_lt, ◌⊎◌, inl, inr, List, [], ◌∷◌, length, map, filter, fold, Contains, refl, sym, ◌∙◌, ap, ap₂, subst, arith, true≢false, eq-eqb, eqb-true}
use Rattle.std.specs.List.{list_any}
use Rattle.std.specs.Option.{option_map_or}
use Rattle.std.specs.Str.{bytes_eq}
use Rattle.std.proofs.lemmas.Bool.Decides.{nat_tests}
use Rattle.std.proofs.lemmas.List.{length-map}
use Rattle.graph_word.specs.jack_types.specs.Names.{client_part}
use Rattle.graph_word.specs.jack_types.specs.declared.ports.Client.{Client}
use Rattle.graph_word.specs.jack_types.specs.declared.ports.Edge.{Edge}
use Rattle.graph_word.specs.jack_types.specs.declared.ports.Node.TheVariants.{Client as ClientNode}
use Rattle.graph_word.specs.jack_types.specs.declared.ports.Port.{Port}
use Rattle.graph_word.specs.jack_types.specs.declared.ports.PortId.{PortId}
use Rattle.graph_word.specs.jack_types.specs.declared.ports.Way.{Way}
use Rattle.graph_word.specs.jack_types.specs.declared.ports.Way.TheVariants.{In, Out}
use Rattle.graph_word.specs.session_model.specs.Commands.{edges_left, touches}
use Rattle.graph_word.specs.session_model.specs.Ids.{connection, connections, name_with, same_id_node, way_of}
use Rattle.graph_word.specs.session_model.specs.Loops.{remark}
use Rattle.graph_word.specs.session_model.specs.Soundness.{Apart}
use Rattle.graph_word.specs.session_model.specs.State.{Connection, is_system}
use Rattle.port_registry.specs.session_laws.proofs.ListLemmas.{Contains-filtered, filter-twice}
use Rattle.port_registry.specs.session_laws.proofs.CycleLemmas.{filter-passes}
use Rattle.port_registry.specs.session_laws.proofs.LoopLemmas.{Contains-cases, Contains-first, Contains-later, and_parts, and_true, or_cases, or_left, or_right}
use Rattle.port_registry.specs.session_laws.proofs.PlanLemmas.{find-one}
use Rattle.port_registry.specs.session_laws.proofs.SoundLemmas.{Apart-same, contains-map, map-contains}
use Rattle.feedback_edges.specs.connection_set.specs.Connections.{is_at, same_id, without_port}
use Rattle.feedback_edges.specs.Marking.{AreAmong, AreNamed, IsEndOf, ends_by_id}
use Rattle.port_registry.specs.Registered.{IsRegistered, Registered, is_of}
use Rattle.cycle_plan.specs.Graphs.{HaveEnds}
use Rattle.cycle_plan.specs.Rewiring.{Leaves, marked_anew, without_edges_at}
use Rattle.cycle_plan.proofs.NetworkLemmas.{AreAmong-network, AreNamed-network, at_client, bool-same}

none_below : {n : ℕ} → n < 0 → ⊥
none_below p = omega arith

-- the name of an id's port
pub name_with-is : (ports : List Port) → Apart (λ (port : Port). port.id.0) ports → (port : Port) (id : PortId) → Contains ports port → port.id.0 ≡ id.0 → name_with ports id ≡ port.name
name_with-is ports apart port id m e =
    ap (λ o. option_map_or (λ (p : Port). p.name) o [])
    (find-one (λ (p : Port). p.id.0 == id.0) ports port m (eq-eqb port.id.0 id.0 e)
    (λ other n t. Apart-same (λ (p : Port). p.id.0) ports other port apart n m (eqb-true other.id.0 id.0 t ∙ sym e)))

-- the same port, among these
abbrev pub IsAmong : List Port → Port → Type 0
IsAmong ports port = (other : Port) × Contains ports other × (other.id.0 ≡ port.id.0) × (other.name ≡ port.name) × (way_of other ≡ way_of port)

module _ (old new : List Port) (old_apart : Apart (λ (port : Port). port.id.0) old) (new_apart : Apart (λ (port : Port). port.id.0) new) (edges : List Edge) (ends : HaveEnds old edges)
    (moved : (edge : Edge) → Contains edges edge → (port : Port) → Contains old port → is_at port.id edge ≡ true → IsAmong new port) where
  at_source : (edge : Edge) (m : Contains edges edge) → IsAmong new (ends.sources edge m).0
  at_source edge m = moved edge m (ends.sources edge m).0 (ends.sources edge m).1
      (or_left (same_id edge.source ((ends.sources edge m).0).id) (same_id edge.destination ((ends.sources edge m).0).id) (eq-eqb edge.source.0 (((ends.sources edge m).0).id).0 (sym (ends.sources edge m).2)))

  at_destination : (edge : Edge) (m : Contains edges edge) → IsAmong new (ends.destinations edge m).0
  at_destination edge m = moved edge m (ends.destinations edge m).0 (ends.destinations edge m).1
      (or_right (same_id edge.source ((ends.destinations edge m).0).id) (same_id edge.destination ((ends.destinations edge m).0).id) (eq-eqb edge.destination.0 (((ends.destinations edge m).0).id).0 (sym (ends.destinations edge m).2)))

  end-moved : (way : Way) (id : PortId) (end : IsEndOf old way id) → IsAmong new end.0 → IsEndOf new way id
  end-moved way id end among = (among.0, among.1, among.2 ∙ end.2, among.4 ∙ end.3)

  name-moved : (way : Way) (id : PortId) (end : IsEndOf old way id) → IsAmong new end.0 → name_with new id ≡ name_with old id
  name-moved way id end among =
      name_with-is new new_apart among.0 id among.1 (among.2 ∙ end.2)
      ∙ among.3
      ∙ sym (name_with-is old old_apart end.0 id end.1 end.2)

  pub HaveEnds-moved : HaveEnds new edges
  HaveEnds-moved = record {
    sources = λ edge m. end-moved Out edge.source (ends.sources edge m) (at_source edge m);
    destinations = λ edge m. end-moved In edge.destination (ends.destinations edge m) (at_destination edge m);
  }

  connection-moved : (edge : Edge) → Contains edges edge → connection new edge ≡ connection old edge
  connection-moved edge m i = record {
    source = name-moved Out edge.source (ends.sources edge m) (at_source edge m) i;
    destination = name-moved In edge.destination (ends.destinations edge m) (at_destination edge m) i;
    mark = edge.mark;
  }

  pub connections-moved : connections new edges ≡ connections old edges
  connections-moved = go edges (λ edge m. m)
    where
      go : (some : List Edge) → ((edge : Edge) → Contains some edge → Contains edges edge) → connections new some ≡ connections old some
      go [] among = refl
      go (edge ∷ some) among = ap₂ (λ c cs. c ∷ cs) (connection-moved edge (among edge (Contains-first edge some))) (go some (λ e m. among e (Contains-later edge e some m)))

-- some of the edges
pub HaveEnds-filter : (ports : List Port) (test : Edge → Bool) (edges : List Edge) → HaveEnds ports edges → HaveEnds ports (filter test edges)
HaveEnds-filter ports test edges ends = record {
  sources = λ edge m. ends.sources edge (Contains-filtered test edges edge m);
  destinations = λ edge m. ends.destinations edge (Contains-filtered test edges edge m);
}

pub connections-filter : (ports : List Port) (p : Connection → Bool) (q : Edge → Bool) (edges : List Edge) → ((edge : Edge) → Contains edges edge → p (connection ports edge) ≡ q edge)
    → connections ports (filter q edges) ≡ filter p (connections ports edges)
connections-filter ports p q [] h = refl
connections-filter ports p q (edge ∷ edges) h = go (q edge) (p (connection ports edge)) (h edge (Contains-first edge edges)) (connections-filter ports p q edges (λ e m. h e (Contains-later edge e edges m)))
  where
    go : (a b : Bool) → b ≡ a → connections ports (filter q edges) ≡ filter p (connections ports edges)
        → map (connection ports) (cond a (edge ∷ filter q edges) (filter q edges)) ≡ cond b (connection ports edge ∷ filter p (connections ports edges)) (filter p (connections ports edges))
    go true true e rest = ap (λ es. connection ports edge ∷ es) rest
    go false false e rest = rest
    go true false e rest = absurd (true≢false (sym e))
    go false true e rest = absurd (true≢false e)

-- an edge of the new ones has the ends of one that was left
module _ (new left : List Edge) (same : ends_by_id new ≡ ends_by_id left) where
  abbrev pair : Edge → ℕ × ℕ
  pair edge = (edge.source.0, edge.destination.0)

  pub left_edge : (edge : Edge) → Contains new edge → (other : Edge) × Contains left other × (other.source.0 ≡ edge.source.0) × (other.destination.0 ≡ edge.destination.0)
  left_edge edge m =
      let w = contains-map pair left (pair edge) (subst (λ es. Contains es (pair edge)) same (map-contains pair new edge m)) in
      (w.0, w.1, ap (λ (e : ℕ × ℕ). e.0) w.2, ap (λ (e : ℕ × ℕ). e.1) w.2)

  end-same : (ports : List Port) (way : Way) (a b : PortId) → a.0 ≡ b.0 → IsEndOf ports way a → IsEndOf ports way b
  end-same ports way a b e w = (w.0, w.1, w.2 ∙ e, w.3)

  pub HaveEnds-marked : (ports : List Port) → HaveEnds ports left → HaveEnds ports new
  HaveEnds-marked ports ends = record {
    sources = λ edge m. let w = left_edge edge m in end-same ports Out (w.0).source edge.source w.2 (ends.sources w.0 w.1);
    destinations = λ edge m. let w = left_edge edge m in end-same ports In (w.0).destination edge.destination w.3 (ends.destinations w.0 w.1);
  }

  -- an end of a new edge is one of an edge that was left
  pub at-marked : (port : PortId) (edge : Edge) (m : Contains new edge) → is_at port edge ≡ true → is_at port (left_edge edge m).0 ≡ true
  at-marked port edge m h =
      let w = left_edge edge m in
      ap₂ (λ a b. (a == port.0) || (b == port.0)) w.2 w.3 ∙ h

-- where no item went, the list is the same
filter-whole : {X : Type 0} (test : X → Bool) (xs : List X) → length xs ≤ length (filter test xs) → filter test xs ≡ xs
filter-whole test [] h = refl
filter-whole test (x ∷ xs) h = go (test x) h (shorter test xs) (λ k. filter-whole test xs k)
  where
    shorter : {X : Type 0} (test : X → Bool) (ys : List X) → length (filter test ys) ≤ length ys
    shorter test [] = omega arith
    shorter test (y ∷ ys) = by (test y) (shorter test ys)
      where
        by : (b : Bool) → length (filter test ys) ≤ length ys → length (cond b (y ∷ filter test ys) (filter test ys)) ≤ suc (length ys)
        by true k = omega (arith, k)
        by false k = omega (arith, k)

    go : (b : Bool) → suc (length xs) ≤ length (cond b (x ∷ filter test xs) (filter test xs)) → length (filter test xs) ≤ length xs → (length xs ≤ length (filter test xs) → filter test xs ≡ xs)
        → cond b (x ∷ filter test xs) (filter test xs) ≡ x ∷ xs
    go true k n rest = ap (λ ys. x ∷ ys) (rest (omega (arith, k)))
    go false k n rest = absurd (omega (arith, k, n))

-- edges that were left of others, and marked anew where one went
pub edges_left-is : (ports : List Port) (p : Connection → Bool) (old : List Connection) (left new : List Edge) (before : ℕ) → before ≡ length old → AreNamed ports left
    → connections ports left ≡ filter p old → Leaves ports before left new → connections ports new ≡ edges_left p old
edges_left-is ports p old left new before many named passed leaves =
    leaves.marks named
    ∙ ap₂ marked_anew many passed
    ∙ go (nat_lt (length (filter p old)) (length old)) refl
  where
    go : (b : Bool) → nat_lt (length (filter p old)) (length old) ≡ b → cond b (remark (filter p old)) (filter p old) ≡ cond b (remark (filter p old)) old
    go true e = refl
    go false e = filter-whole p old (grind (arith, nat_tests))

-- the edges but those of a client's ports
module _ (held : Registered) (r : IsRegistered held) (client : Client) (listed : Contains held.clients client) (other : is_system client.name ≡ false) where
  abbrev at_port : Edge → Port → Bool
  at_port edge port = same_id_node port.node (ClientNode client.id) && is_at port.id edge

  abbrev at_its : List Port → Edge → Bool
  at_its ports edge = list_any (at_port edge) ports

  not_or : (a b : Bool) → (not a && not b) ≡ not (a || b)
  not_or true b = refl
  not_or false b = refl

  filter-same_test : (p q : Edge → Bool) → ((edge : Edge) → p edge ≡ q edge) → (edges : List Edge) → filter p edges ≡ filter q edges
  filter-same_test p q h [] = refl
  filter-same_test p q h (edge ∷ edges) = ap₂ (λ b es. cond b (edge ∷ es) es) (h edge) (filter-same_test p q h edges)

  filter-none_test : (edges : List Edge) → filter (λ (edge : Edge). true) edges ≡ edges
  filter-none_test [] = refl
  filter-none_test (edge ∷ edges) = ap (λ es. edge ∷ es) (filter-none_test edges)

  pub dropped-is : (ports : List Port) (edges : List Edge) → fold (without_edges_at (ClientNode client.id)) edges ports ≡ filter (λ edge. not (at_its ports edge)) edges
  dropped-is [] edges = sym (filter-none_test edges)
  dropped-is (port ∷ ports) edges =
      dropped-is ports (without_edges_at (ClientNode client.id) edges port)
      ∙ go (same_id_node port.node (ClientNode client.id))
    where
      go : (b : Bool) → filter (λ edge. not (at_its ports edge)) (cond b (without_port port.id edges) edges) ≡ filter (λ edge. not ((b && is_at port.id edge) || at_its ports edge)) edges
      go true =
          filter-twice (λ edge. not (at_its ports edge)) (λ edge. not (is_at port.id edge)) edges
          ∙ filter-same_test (λ edge. not (is_at port.id edge) && not (at_its ports edge)) (λ edge. not (is_at port.id edge || at_its ports edge)) (λ edge. not_or (is_at port.id edge) (at_its ports edge)) edges
      go false = refl

  any-found : (test : Port → Bool) (ports : List Port) → list_any test ports ≡ true → (port : Port) × Contains ports port × (test port ≡ true)
  any-found test [] h = absurd (true≢false (sym h))
  any-found test (port ∷ ports) h = go (or_cases (test port) (list_any test ports) h) (any-found test ports)
    where
      go : (test port ≡ true) ⊎ (list_any test ports ≡ true) → (list_any test ports ≡ true → (p : Port) × Contains ports p × (test p ≡ true)) → (p : Port) × Contains (port ∷ ports) p × (test p ≡ true)
      go (inl t) rest = (port, Contains-first port ports, t)
      go (inr t) rest = let w = rest t in (w.0, Contains-later port w.0 ports w.1, w.2)

  pub found-any : (test : Port → Bool) (ports : List Port) (port : Port) → Contains ports port → test port ≡ true → list_any test ports ≡ true
  found-any test [] port m t = absurd (none_below m.1)
  found-any test (first ∷ ports) port m t = go (Contains-cases first port ports m) (λ k. found-any test ports port k t)
    where
      go : (first ≡ port) ⊎ Contains ports port → (Contains ports port → list_any test ports ≡ true) → (test first || list_any test ports) ≡ true
      go (inl e) rest = or_left (test first) (list_any test ports) (ap test e ∙ t)
      go (inr k) rest = or_right (test first) (list_any test ports) (rest k)

  -- the end of an edge is at the client exactly where its name says so
  module _ (edges : List Edge) (ends : HaveEnds held.ports edges) where
    one_port : (a b : Port) → Contains held.ports a → Contains held.ports b → a.id.0 ≡ b.id.0 → a ≡ b
    one_port a b p q e = Apart-same (λ (port : Port). port.id.0) held.ports a b r.port_ids p q e

    name-of : (way : Way) (id : PortId) (end : IsEndOf held.ports way id) → bytes_eq (client_part (name_with held.ports id)) client.name ≡ is_of client.name end.0
    name-of way id end = ap (λ n. bytes_eq (client_part n) client.name) (name_with-is held.ports r.port_ids end.0 id end.1 end.2)

    pub touches-is : (edge : Edge) → Contains edges edge → touches client.name (connection held.ports edge) ≡ at_its held.ports edge
    touches-is edge m =
        ap₂ (λ a b. a || b) (name-of Out edge.source source) (name-of In edge.destination destination)
        ∙ bool-same (is_of client.name source.0 || is_of client.name destination.0) (at_its held.ports edge) forward back
      where
        source : IsEndOf held.ports Out edge.source
        source = ends.sources edge m

        destination : IsEndOf held.ports In edge.destination
        destination = ends.destinations edge m

        at : (port : Port) → Contains held.ports port → is_of client.name port ≡ true → is_at port.id edge ≡ true → at_its held.ports edge ≡ true
        at port p t u = found-any (at_port edge) held.ports port p (and_true (same_id_node port.node (ClientNode client.id)) (is_at port.id edge) (at_client held r client listed other port p ∙ t) u)

        forward : (is_of client.name source.0 || is_of client.name destination.0) ≡ true → at_its held.ports edge ≡ true
        forward t = by (or_cases (is_of client.name source.0) (is_of client.name destination.0) t)
          where
            by : (is_of client.name source.0 ≡ true) ⊎ (is_of client.name destination.0 ≡ true) → at_its held.ports edge ≡ true
            by (inl u) = at source.0 source.1 u (or_left (same_id edge.source (source.0).id) (same_id edge.destination (source.0).id) (eq-eqb edge.source.0 ((source.0).id).0 (sym source.2)))
            by (inr u) = at destination.0 destination.1 u (or_right (same_id edge.source (destination.0).id) (same_id edge.destination (destination.0).id) (eq-eqb edge.destination.0 ((destination.0).id).0 (sym destination.2)))

        back : at_its held.ports edge ≡ true → (is_of client.name source.0 || is_of client.name destination.0) ≡ true
        back t =
            let w = any-found (at_port edge) held.ports t in
            let both = and_parts (same_id_node (w.0).node (ClientNode client.id)) (is_at (w.0).id edge) w.2 in
            let of : is_of client.name w.0 ≡ true = sym (at_client held r client listed other w.0 w.1) ∙ both.0 in
            by w.0 w.1 of (or_cases (same_id edge.source (w.0).id) (same_id edge.destination (w.0).id) both.1)
          where
            by : (port : Port) → Contains held.ports port → is_of client.name port ≡ true → (same_id edge.source port.id ≡ true) ⊎ (same_id edge.destination port.id ≡ true) → (is_of client.name source.0 || is_of client.name destination.0) ≡ true
            by port p of (inl u) =
                let same : port ≡ source.0 = one_port port source.0 p source.1 (sym (eqb-true edge.source.0 port.id.0 u) ∙ sym source.2) in
                or_left (is_of client.name source.0) (is_of client.name destination.0) (subst (λ q. is_of client.name q ≡ true) same of)
            by port p of (inr u) =
                let same : port ≡ destination.0 = one_port port destination.0 p destination.1 (sym (eqb-true edge.destination.0 port.id.0 u) ∙ sym destination.2) in
                or_right (is_of client.name source.0) (is_of client.name destination.0) (subst (λ q. is_of client.name q ≡ true) same of)

    pub without_client-is : connections held.ports (filter (λ edge. not (at_its held.ports edge)) edges) ≡ filter (λ edge. not (touches client.name edge)) (connections held.ports edges)
    without_client-is = connections-filter held.ports (λ edge. not (touches client.name edge)) (λ edge. not (at_its held.ports edge)) edges (λ edge m. ap not (touches-is edge m))

    -- no edge that is left has an end at the client
    pub apart-left : (edge : Edge) → Contains (filter (λ edge. not (at_its held.ports edge)) edges) edge → (port : Port) → Contains held.ports port → is_at port.id edge ≡ true → is_of client.name port ≡ false
    apart-left edge m port p t = no (is_of client.name port) refl
      where
        stays : not (at_its held.ports edge) ≡ true
        stays = filter-passes (λ e. not (at_its held.ports e)) edges edge m

        at : is_of client.name port ≡ true → at_its held.ports edge ≡ true
        at u = found-any (at_port edge) held.ports port p (and_true (same_id_node port.node (ClientNode client.id)) (is_at port.id edge) (at_client held r client listed other port p ∙ u) t)

        no : (b : Bool) → is_of client.name port ≡ b → b ≡ false
        no false e = refl
        no true e = absurd (true≢false (sym stays ∙ ap not (at e)))

-- what is left behind the removal of a client's edges, marked anew
module _ (held : Registered) (r : IsRegistered held) (client : Client) (listed : Contains held.clients client) (other : is_system client.name ≡ false)
    (edges dropped new : List Edge) (ends : HaveEnds held.ports edges) (drops : dropped ≡ fold (without_edges_at (ClientNode client.id)) edges held.ports) (before : ℕ) (many : before ≡ length edges)
    (leaves : Leaves held.ports before dropped new) where
  stays : Edge → Bool
  stays edge = not (at_its held r client listed other held.ports edge)

  dropped-filter : dropped ≡ filter (λ edge. not (at_its held r client listed other held.ports edge)) edges
  dropped-filter = drops ∙ dropped-is held r client listed other held.ports edges

  dropped-ends : HaveEnds held.ports dropped
  dropped-ends = subst (HaveEnds held.ports) (sym dropped-filter) (HaveEnds-filter held.ports (λ edge. not (at_its held r client listed other held.ports edge)) edges ends)

  pub client_left-ends : HaveEnds held.ports new
  client_left-ends = HaveEnds-marked new dropped leaves.ends held.ports dropped-ends

  pub client_left-is : connections held.ports new ≡ edges_left (λ edge. not (touches client.name edge)) (connections held.ports edges)
  client_left-is =
      edges_left-is held.ports (λ edge. not (touches client.name edge)) (connections held.ports edges) dropped new before (many ∙ sym (length-map edges (connection held.ports)))
      (AreNamed-network held r dropped dropped-ends)
      (ap (connections held.ports) dropped-filter ∙ without_client-is held r client listed other edges ends)
      leaves

  pub client_left-apart : (edge : Edge) → Contains new edge → (port : Port) → Contains held.ports port → is_at port.id edge ≡ true → is_of client.name port ≡ false
  client_left-apart edge m port p t =
      let w = left_edge new dropped leaves.ends edge m in
      apart-left held r client listed other edges ends w.0 (subst (λ es. Contains es w.0) dropped-filter w.1) port p (at-marked new dropped leaves.ends port.id edge m t)

pub dropped-among : (held : Registered) (r : IsRegistered held) (client : Client) → Contains held.clients client → is_system client.name ≡ false
    → (edges dropped : List Edge) → HaveEnds held.ports edges → dropped ≡ fold (without_edges_at (ClientNode client.id)) edges held.ports → AreAmong held.ports dropped
dropped-among held r client listed other edges dropped ends drops =
    AreAmong-network held r dropped
    (subst (HaveEnds held.ports) (sym (drops ∙ dropped-is held r client listed other held.ports edges)) (HaveEnds-filter held.ports (λ edge. not (at_its held r client listed other held.ports edge)) edges ends))
