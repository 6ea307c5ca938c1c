-- Where nodes are those of their names, the loop test by ids is that by names.
use Rattle.std.proofs.Common.{◌≡◌, ℕ, Bool, true, false, cond, ◌&&◌, ◌||◌, ◌==◌, ◌↔◌, List, [], ◌∷◌, map, filter, Contains, Some, refl, sym, ◌∙◌, ap, ap₂, subst, true≢false, eq-eqb, eqb-true}
use Rattle.std.specs.Option.{option_map_or}
use Rattle.connection_set.specs.jack_types.specs.declared.ports.Edge.{Edge}
use Rattle.connection_set.specs.jack_types.specs.declared.ports.Mark.TheVariants.{Direct, Feedback}
use Rattle.connection_set.specs.jack_types.specs.declared.ports.Node.{Node}
use Rattle.connection_set.specs.jack_types.specs.declared.ports.Node.TheVariants.{Capture, Playback, Client}
use Rattle.connection_set.specs.jack_types.specs.declared.ports.Port.{Port}
use Rattle.connection_set.specs.jack_types.specs.declared.ports.PortId.{PortId}
use Rattle.connection_set.specs.jack_types.specs.declared.ports.Way.{Way}
use Rattle.connection_set.specs.jack_types.specs.declared.ports.Way.TheVariants.{In, Out}
use Rattle.connection_set.specs.session_model.specs.Ids.{node_with, name_with, port_with, node_links, connection, connections, same_id_node, way_of}
use Rattle.connection_set.specs.session_model.specs.Loops.{Leads, leads, direct_links, closes_loop}
use Rattle.connection_set.specs.session_model.specs.State.{same_node, source_node, destination_node, Connection, is_direct}
use Rattle.connection_set.specs.session_laws.proofs.LoopLemmas.{Contains-first, Contains-later, leads-is_Leads}
use Rattle.connection_set.specs.session_laws.proofs.PlanLemmas.{find-one}
use Rattle.connection_set.specs.session_laws.proofs.SoundLemmas.{contains-map, map-contains}
use Rattle.feedback_edges.specs.Marking.{AreNamed, IsEndOf, named_node, node_by_name, ends_by_id, AreAmong}
use Rattle.connection_set.specs.Connections.{IsIdOf}

pub same_id_node-is : (a b : Node) → same_id_node a b ≡ true → a ≡ b
same_id_node-is Capture Capture h = refl
same_id_node-is Capture Playback h = absurd (true≢false (sym h))
same_id_node-is Capture (Client b) h = absurd (true≢false (sym h))
same_id_node-is Playback Capture h = absurd (true≢false (sym h))
same_id_node-is Playback Playback h = refl
same_id_node-is Playback (Client b) h = absurd (true≢false (sym h))
same_id_node-is (Client a) Capture h = absurd (true≢false (sym h))
same_id_node-is (Client a) Playback h = absurd (true≢false (sym h))
same_id_node-is (Client a) (Client b) h = ap (λ n. Client (record { 0 = n })) (eqb-true a.0 b.0 h)

pub same_id_node-self : (a : Node) → same_id_node a a ≡ true
same_id_node-self Capture = refl
same_id_node-self Playback = refl
same_id_node-self (Client a) = eq-eqb a.0 a.0 refl

module _ (ports : List Port) (edges : List Edge) (named : AreNamed ports edges) where
  found : (port : Port) (id : PortId) → Contains ports port → port.id.0 ≡ id.0 → port_with ports id ≡ Some port
  found port id listed same = find-one (λ (p : Port). p.id.0 == id.0) ports port listed (eq-eqb port.id.0 id.0 same)
      (λ other there t. named.apart other port there listed (eqb-true other.id.0 id.0 t ∙ sym same))

  node-at : (way : Way) (id : PortId) (end : IsEndOf ports way id) → node_with ports id ≡ (end.0).node
  node-at way id end = ap (λ o. option_map_or (λ (p : Port). p.node) o Capture) (found end.0 id end.1 end.2)

  name-at : (way : Way) (id : PortId) (end : IsEndOf ports way id) → node_by_name way (name_with ports id) ≡ named_node end.0
  name-at way id end =
      ap (λ o. node_by_name way (option_map_or (λ (p : Port). p.name) o [])) (found end.0 id end.1 end.2)
      ∙ ap (λ w. node_by_name w (end.0).name) (sym end.3)

  -- the test on the links of some of the edges
  leads-some : (some : List Edge) → ((edge : Edge) → Contains some edge → Contains edges edge) → (a b : Port) → Contains ports a → Contains ports b
      → leads same_id_node (node_links ports some) a.node b.node ≡ leads same_node (direct_links (connections ports some)) (named_node a) (named_node b)
  leads-some [] among a b p q = named.nodes a b p q
  leads-some (edge ∷ some) among a b p q = go (is_direct edge.mark) (λ x y r s. leads-some some (λ e m. among e (Contains-later edge e some m)) x y r s)
    where
      source : IsEndOf ports Out edge.source
      source = named.sources edge (among edge (Contains-first edge some))

      destination : IsEndOf ports In edge.destination
      destination = named.destinations edge (among edge (Contains-first edge some))

      go : (direct : Bool) → ((x y : Port) → Contains ports x → Contains ports y → leads same_id_node (node_links ports some) x.node y.node ≡ leads same_node (direct_links (connections ports some)) (named_node x) (named_node y))
          → leads same_id_node (map (λ (e : Edge). (node_with ports e.source, node_with ports e.destination)) (cond direct (edge ∷ filter (λ (e : Edge). is_direct e.mark) some) (filter (λ (e : Edge). is_direct e.mark) some))) a.node b.node
          ≡ leads same_node (map (λ (c : Connection). (source_node c.source, destination_node c.destination)) (cond direct (connection ports edge ∷ filter (λ (c : Connection). is_direct c.mark) (connections ports some)) (filter (λ (c : Connection). is_direct c.mark) (connections ports some)))) (named_node a) (named_node b)
      go false rest = rest a b p q
      go true rest =
          ap₂ (λ x y. x || y) (rest a b p q)
          (ap₂ (λ x y. x && y)
          (ap (leads same_id_node (node_links ports some) a.node) (node-at Out edge.source source)
          ∙ rest a source.0 p source.1
          ∙ ap (leads same_node (direct_links (connections ports some)) (named_node a)) (sym (name-at Out edge.source source)))
          (ap (λ n. leads same_id_node (node_links ports some) n b.node) (node-at In edge.destination destination)
          ∙ rest destination.0 b destination.1 q
          ∙ ap (λ n. leads same_node (direct_links (connections ports some)) n (named_node b)) (sym (name-at In edge.destination destination))))

  pub leads-by_name : (a b : Port) → Contains ports a → Contains ports b
      → leads same_id_node (node_links ports edges) a.node b.node ≡ leads same_node (direct_links (connections ports edges)) (named_node a) (named_node b)
  leads-by_name a b p q = leads-some edges (λ edge m. m) a b p q

  -- a new edge closes a loop by names exactly where its nodes do
  pub closes_loop-by_name : (source destination : Port) → Contains ports source → Contains ports destination → way_of source ≡ Out → way_of destination ≡ In
      → closes_loop (connections ports edges) source.name destination.name ≡ leads same_id_node (node_links ports edges) destination.node source.node
  closes_loop-by_name source destination p q out into =
      ap₂ (leads same_node (direct_links (connections ports edges))) (ap (λ w. node_by_name w destination.name) (sym into)) (ap (λ w. node_by_name w source.name) (sym out))
      ∙ sym (leads-by_name destination source q p)

  -- and so does an edge of the list
  pub closes_edge-by_name : (edge : Edge) → Contains edges edge
      → closes_loop (connections ports edges) (name_with ports edge.source) (name_with ports edge.destination) ≡ leads same_id_node (node_links ports edges) (node_with ports edge.destination) (node_with ports edge.source)
  closes_edge-by_name edge m =
      ap₂ (leads same_node (direct_links (connections ports edges))) (name-at In edge.destination (named.destinations edge m)) (name-at Out edge.source (named.sources edge m))
      ∙ sym (leads-by_name (named.destinations edge m).0 (named.sources edge m).0 (named.destinations edge m).1 (named.sources edge m).1)
      ∙ sym (ap₂ (leads same_id_node (node_links ports edges)) (node-at In edge.destination (named.destinations edge m)) (node-at Out edge.source (named.sources edge m)))

-- a mark from the test
pub marked : (links : List (Node × Node)) (from to : Node) (closes : Bool) (direct : Bool) → closes ≡ leads same_id_node links from to
    → (direct ≡ false → Leads links from to) → (direct ≡ true → Leads links from to → ⊥) → cond direct Direct Feedback ≡ cond closes Feedback Direct
marked links from to closes direct e led other = go closes direct e led other
  where
    test : (leads same_id_node links from to ≡ true) ↔ Leads links from to
    test = leads-is_Leads same_id_node same_id_node-is same_id_node-self links from to

    go : (a b : Bool) → a ≡ leads same_id_node links from to → (b ≡ false → Leads links from to) → (b ≡ true → Leads links from to → ⊥) → cond b Direct Feedback ≡ cond a Feedback Direct
    go true false p f g = refl
    go false true p f g = refl
    go true true p f g = absurd (g refl (test.0 (sym p)))
    go false false p f g = absurd (true≢false (sym (test.1 (f refl)) ∙ sym p))

-- edges with the same ends are among the ports alike
module _ (new old : List Edge) (same : ends_by_id new ≡ ends_by_id old) where
  abbrev ends : Edge → ℕ × ℕ
  ends edge = (edge.source.0, edge.destination.0)

  old_edge : (edge : Edge) → Contains new edge → (other : Edge) × Contains old other × (ends other ≡ ends edge)
  old_edge edge m = contains-map ends old (ends edge) (subst (λ es. Contains es (ends edge)) same (map-contains ends new edge m))

  owned : (ports : List Port) (a b : PortId) → a.0 ≡ b.0 → IsIdOf ports a → IsIdOf ports b
  owned ports a b e w = (w.0, w.1, subst (λ n. ((w.0).id.0 == n) ≡ true) e w.2)

  end_of : (ports : List Port) (way : Way) (a b : PortId) → a.0 ≡ b.0 → IsEndOf ports way a → IsEndOf ports way b
  end_of ports way a b e w = (w.0, w.1, w.2 ∙ e, w.3)

  pub AreAmong-same : (ports : List Port) → AreAmong ports old → AreAmong ports new
  AreAmong-same ports among = record {
    ids = among.ids;
    nodes = among.nodes;
    sources = λ edge m. let w = old_edge edge m in owned ports (w.0).source edge.source (ap (λ (e : ℕ × ℕ). e.0) w.2) (among.sources w.0 w.1);
    destinations = λ edge m. let w = old_edge edge m in owned ports (w.0).destination edge.destination (ap (λ (e : ℕ × ℕ). e.1) w.2) (among.destinations w.0 w.1);
  }

  pub AreNamed-same : (ports : List Port) → AreNamed ports old → AreNamed ports new
  AreNamed-same ports named = record {
    apart = named.apart;
    nodes = named.nodes;
    sources = λ edge m. let w = old_edge edge m in end_of ports Out (w.0).source edge.source (ap (λ (e : ℕ × ℕ). e.0) w.2) (named.sources w.0 w.1);
    destinations = λ edge m. let w = old_edge edge m in end_of ports In (w.0).destination edge.destination (ap (λ (e : ℕ × ℕ). e.1) w.2) (named.destinations w.0 w.1);
  }
