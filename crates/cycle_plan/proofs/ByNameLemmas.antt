-- The layout of a network by ids is that of its state by names.
--     nodes_of-is, links_of-is      nodes and links are those of the state
--     IsLoopFree-network      where direct edges form no loop by names, they form none by ids
use Rattle.std.proofs.Common.{◌≡◌, ℕ, ◌+◌, ◌<◌, ◌≤◌, Bool, true, false, cond, not, ◌&&◌, ◌||◌, ◌==◌, nat_lt, ◌⊎◌, inl, inr, List, [], ◌∷◌, length, map, filter, filter_map, find, fold, position, Contains, Option, Some, None, refl, sym, ◌∙◌, ap, ap₂, subst, arith, true≢false, eq-eqb, eqb-true}
use Rattle.std.specs.List.{cons_option, position_or_len}
use Rattle.std.specs.Option.{option_map_or}
use Rattle.std.specs.Str.{bytes_eq}
use Rattle.std.proofs.lemmas.Bool.Decides.{nat_tests}
use Rattle.std.proofs.lemmas.List.{length-map}
use Rattle.graph_word.specs.jack_types.specs.Names.{client_part}
use Rattle.graph_word.specs.jack_types.specs.declared.ports.Client.{Client}
use Rattle.graph_word.specs.jack_types.specs.declared.ports.ClientId.{ClientId}
use Rattle.graph_word.specs.jack_types.specs.declared.ports.Edge.{Edge}
use Rattle.graph_word.specs.jack_types.specs.declared.ports.Link.{Link}
use Rattle.graph_word.specs.jack_types.specs.declared.ports.Node.{Node}
use Rattle.graph_word.specs.jack_types.specs.declared.ports.Node.TheVariants.{Capture, Playback, Client as ClientNode}
use Rattle.graph_word.specs.jack_types.specs.declared.ports.Port.{Port}
use Rattle.graph_word.specs.jack_types.specs.declared.ports.PortId.{PortId}
use Rattle.graph_word.specs.jack_types.specs.declared.ports.Way.{Way}
use Rattle.graph_word.specs.jack_types.specs.declared.ports.Way.TheVariants.{In, Out}
use Rattle.graph_word.specs.session_model.specs.Benches.{place_in}
use Rattle.graph_word.specs.session_model.specs.Courses.{players}
use Rattle.graph_word.specs.session_model.specs.Ids.{connection, connections, name_with, node_links, node_with, port_with, same_id_node, way_of}
use Rattle.graph_word.specs.session_model.specs.Loops.{IsPath, direct_links, leads}
use Rattle.graph_word.specs.session_model.specs.Soundness.{Apart}
use Rattle.graph_word.specs.session_model.specs.State.{NamedNode, CaptureNode, PlaybackNode, ClientNode as NamedClient, Connection, OpenClient, State, destination_node, is_direct, is_system, same_node, source_node, system_name}
use Rattle.port_registry.specs.session_laws.specs.LoopFree.{HasNoLoop, IsLoopFree}
use Rattle.port_registry.specs.session_laws.proofs.CycleLemmas.{bytes_same, find-contains, filter-passes}
use Rattle.port_registry.specs.session_laws.proofs.ListLemmas.{Contains-filtered, Each, Each-contains, Each-from_contains}
use Rattle.port_registry.specs.session_laws.proofs.LoopLemmas.{Contains-first, Contains-later, and_parts}
use Rattle.port_registry.specs.session_laws.proofs.PlanLemmas.{find-one}
use Rattle.port_registry.specs.session_laws.proofs.SoundLemmas.{Apart-same, map-contains}
use Rattle.feedback_edges.specs.Marking.{IsEndOf}
use Rattle.port_registry.specs.Registered.{IsPlaced, IsRegistered, Registered, has_name, node_for, open_client, open_clients, system_entry, system_node}
use Rattle.cycle_plan.specs.Graphs.{HaveEnds, IsNetwork, Network, state_of}
use Rattle.cycle_plan.specs.Layouts.{distinct, is_player, leads_to, link_between, link_of, ordered, place_of, with_node}
use Rattle.cycle_plan.specs.Plans.{leads_in, link_in, links_of, nodes_of}
use Rattle.cycle_plan.proofs.EndLemmas.{name_with-is}
use Rattle.cycle_plan.proofs.NetworkLemmas.{fails, id-name}
use lib.Pointwise.{bytes_decides}

-- a link whose nodes are called otherwise
abbrev called_pair : {N M : Type 0} → (N → M) → N × N → M × M
called_pair call link = (call link.0, call link.1)

-- the test for a path, of nodes that are called otherwise
module _ {N M : Type 0} (same : N → N → Bool) (same_called : M → M → Bool) (call : N → M) (Good : N → Type 0) (agree : (x y : N) → Good x → Good y → same_called (call x) (call y) ≡ same x y) where
  leads-called : (links : List (N × N)) → Each (λ (link : N × N). Good link.0 × Good link.1) links → (a b : N) → Good a → Good b → leads same_called (map (called_pair call) links) (call a) (call b) ≡ leads same links a b
  leads-called [] good a b p q = agree a b p q
  leads-called (link ∷ links) good a b p q =
      ap₂ (λ x y. x || y) (leads-called links good.1 a b p q)
      (ap₂ (λ x y. x && y) (leads-called links good.1 a link.0 p good.0.0) (leads-called links good.1 link.1 b good.0.1 q))

path-called : {N M : Type 0} (call : N → M) (links : List (N × N)) (a : N) (path : List N) (b : N) → IsPath links a path b → IsPath (map (called_pair call) links) (call a) (map call path) (call b)
path-called call links a [] b h = ap call h
path-called call links a (next ∷ path) b h = (map-contains (called_pair call) links (a, next) h.0, path-called call links next path b h.1)

-- the order, of items that are called otherwise
module _ {X Y : Type 0} (lead : X → X → Bool) (lead_called : Y → Y → Bool) (call : X → Y) where
  with_node-called : (x : X) (nodes : List X) → ((y : X) → Contains nodes y → lead_called (call x) (call y) ≡ lead x y) → map call (with_node lead x nodes) ≡ with_node lead_called (call x) (map call nodes)
  with_node-called x [] h = refl
  with_node-called x (node ∷ nodes) h = go (lead x node) (lead_called (call x) (call node)) (h node (Contains-first node nodes)) (with_node-called x nodes (λ y m. h y (Contains-later node y nodes m)))
    where
      go : (a b : Bool) → b ≡ a → map call (with_node lead x nodes) ≡ with_node lead_called (call x) (map call nodes)
          → map call (cond a (x ∷ node ∷ nodes) (node ∷ with_node lead x nodes)) ≡ cond b (call x ∷ call node ∷ map call nodes) (call node ∷ with_node lead_called (call x) (map call nodes))
      go true true e rest = refl
      go false false e rest = ap (λ ys. call node ∷ ys) rest
      go true false e rest = absurd (true≢false (sym e))
      go false true e rest = absurd (true≢false e)

  Each-with_node : (P : X → Type 0) (x : X) (nodes : List X) → P x → Each P nodes → Each P (with_node lead x nodes)
  Each-with_node P x [] p h = (p, tt)
  Each-with_node P x (node ∷ nodes) p h = go (lead x node) (Each-with_node P x nodes p h.1)
    where
      go : (b : Bool) → Each P (with_node lead x nodes) → Each P (cond b (x ∷ node ∷ nodes) (node ∷ with_node lead x nodes))
      go true rest = (p, h)
      go false rest = (h.0, rest)

  fold-called : (P : X → Type 0) → ((x y : X) → P x → P y → lead_called (call x) (call y) ≡ lead x y) → (nodes xs : List X) → Each P nodes → Each P xs
      → map call (fold (λ ns x. with_node lead x ns) nodes xs) ≡ fold (λ ns y. with_node lead_called y ns) (map call nodes) (map call xs)
  fold-called P agree nodes [] p q = refl
  fold-called P agree nodes (x ∷ xs) p q =
      fold-called P agree (with_node lead x nodes) xs (Each-with_node P x nodes q.0 p) q.1
      ∙ ap (λ ns. fold (λ ms y. with_node lead_called y ms) ns (map call xs)) (with_node-called x nodes (λ y m. agree x y q.0 (Each-contains P nodes y p m)))

  ordered-called : (P : X → Type 0) → ((x y : X) → P x → P y → lead_called (call x) (call y) ≡ lead x y) → (xs : List X) → Each P xs → map call (ordered lead xs) ≡ ordered lead_called (map call xs)
  ordered-called P agree xs q = fold-called P agree [] xs tt q

  Each-fold : (P : X → Type 0) (nodes xs : List X) → Each P nodes → Each P xs → Each P (fold (λ ns x. with_node lead x ns) nodes xs)
  Each-fold P nodes [] p q = p
  Each-fold P nodes (x ∷ xs) p q = Each-fold P (with_node lead x nodes) xs (Each-with_node P x nodes q.0 p) q.1

  Each-ordered : (P : X → Type 0) (xs : List X) → Each P xs → Each P (ordered lead xs)
  Each-ordered P xs q = Each-fold P [] xs tt q

-- places
place-same : {X : Type 0} (p q : X → Bool) (xs : List X) → ((x : X) → Contains xs x → p x ≡ q x) → position_or_len p xs ≡ position_or_len q xs
place-same p q [] h = refl
place-same p q (x ∷ xs) h = ap₂ (λ b n. cond (not b) (1 + n) 0) (h x (Contains-first x xs)) (place-same p q xs (λ y m. h y (Contains-later x y xs m)))

place-map : {X Y : Type 0} (p : Y → Bool) (f : X → Y) (xs : List X) → position_or_len p (map f xs) ≡ position_or_len (λ x. p (f x)) xs
place-map p f [] = refl
place-map p f (x ∷ xs) = ap (λ n. cond (not (p (f x))) (1 + n) 0) (place-map p f xs)

position-same : {X : Type 0} (p q : X → Bool) (xs : List X) → ((x : X) → Contains xs x → p x ≡ q x) → position p xs ≡ position q xs
position-same p q xs h = ap (λ n. cond (nat_lt n (length xs)) (Some n) None) (place-same p q xs h)

position-map : {X Y : Type 0} (p : Y → Bool) (f : X → Y) (xs : List X) → position p (map f xs) ≡ position (λ x. p (f x)) xs
position-map p f xs = ap₂ (λ n m. cond (nat_lt n m) (Some n) None) (place-map p f xs) (length-map xs f)

position-nowhere : {X : Type 0} (xs : List X) → position (λ (x : X). false) xs ≡ None
position-nowhere {X} xs = ap (λ n. cond (nat_lt n (length xs)) (Some n) None) (all xs) ∙ go (length xs)
  where
    all : (ys : List X) → position_or_len (λ (x : X). false) ys ≡ length ys
    all [] = refl
    all (y ∷ ys) = ap (λ n. 1 + n) (all ys) ∙ omega arith

    go : (n : ℕ) → cond (nat_lt n n) (Some n) None ≡ None
    go n = ap (λ b. cond b (Some n) None) (irreflexive n)
      where
        irreflexive : (k : ℕ) → nat_lt k k ≡ false
        irreflexive k = grind (arith, nat_tests)

filter_map-called : {X Y Z : Type 0} (g : X → Option Z) (h : Y → Option Z) (call : X → Y) (xs : List X) → ((x : X) → Contains xs x → g x ≡ h (call x)) → filter_map g xs ≡ filter_map h (map call xs)
filter_map-called g h call [] agree = refl
filter_map-called g h call (x ∷ xs) agree = ap₂ cons_option (agree x (Contains-first x xs)) (filter_map-called g h call xs (λ y m. agree y (Contains-later x y xs m)))

abbrev pair_of : NamedNode → NamedNode → NamedNode × NamedNode
pair_of a b = (a, b)

module _ (held : Registered) (r : IsRegistered held) where
  -- the name of a node
  abbrev name_for : ℕ → List ℕ
  name_for id = option_map_or (λ (client : Client). client.name) (find (λ (client : Client). client.id.0 == id) held.clients) []

  abbrev call : Node → NamedNode
  call Capture = CaptureNode
  call Playback = PlaybackNode
  call (ClientNode id) = NamedClient (name_for id.0)

  -- capture, playback, or an open client
  abbrev IsOpenNode : Node → Type 0
  IsOpenNode Capture = Unit {0}
  IsOpenNode Playback = Unit {0}
  IsOpenNode (ClientNode id) = (client : Client) × Contains held.clients client × (client.id.0 ≡ id.0)

  name_for-is : (client : Client) (id : ℕ) → Contains held.clients client → client.id.0 ≡ id → name_for id ≡ client.name
  name_for-is client id m e =
      ap (λ o. option_map_or (λ (c : Client). c.name) o [])
      (find-one (λ (c : Client). c.id.0 == id) held.clients client m (eq-eqb client.id.0 id e)
      (λ other n t. Apart-same (λ (c : Client). c.id.0) held.clients other client r.client_ids n m (eqb-true other.id.0 id t ∙ sym e)))

  call-agrees : (x y : Node) → IsOpenNode x → IsOpenNode y → same_node (call x) (call y) ≡ same_id_node x y
  call-agrees Capture Capture p q = refl
  call-agrees Capture Playback p q = refl
  call-agrees Capture (ClientNode b) p q = refl
  call-agrees Playback Capture p q = refl
  call-agrees Playback Playback p q = refl
  call-agrees Playback (ClientNode b) p q = refl
  call-agrees (ClientNode a) Capture p q = refl
  call-agrees (ClientNode a) Playback p q = refl
  call-agrees (ClientNode a) (ClientNode b) p q =
      ap₂ bytes_eq (name_for-is p.0 a.0 p.1 p.2) (name_for-is q.0 b.0 q.1 q.2)
      ∙ sym (id-name held r p.0 q.0 p.1 q.1)
      ∙ ap₂ (λ m n. m == n) p.2 q.2

  node_with-is : (port : Port) (id : PortId) → Contains held.ports port → port.id.0 ≡ id.0 → node_with held.ports id ≡ port.node
  node_with-is port id m e =
      ap (λ o. option_map_or (λ (p : Port). p.node) o Capture)
      (find-one (λ (p : Port). p.id.0 == id.0) held.ports port m (eq-eqb port.id.0 id.0 e)
      (λ other n t. Apart-same (λ (p : Port). p.id.0) held.ports other port r.port_ids n m (eqb-true other.id.0 id.0 t ∙ sym e)))

  -- the node of an end, by its name
  abbrev node_by : Bool → Way → List ℕ → NamedNode
  node_by device In client = cond device PlaybackNode (NamedClient client)
  node_by device Out client = cond device CaptureNode (NamedClient client)

  abbrev node_called : Way → List ℕ → NamedNode
  node_called way client = node_by (is_system client) way client

  module _ (way : Way) (id : PortId) (end : IsEndOf held.ports way id) where
    placed : IsPlaced held.clients end.0
    placed = r.placed end.0 end.1

    end-node : node_with held.ports id ≡ node_for placed.client way
    end-node = node_with-is end.0 id end.1 end.2 ∙ placed.noded ∙ ap (node_for placed.client) end.3

    end-client : client_part (name_with held.ports id) ≡ placed.client.name
    end-client = ap client_part (name_with-is held.ports r.port_ids end.0 id end.1 end.2) ∙ sym placed.named

    end-open : IsOpenNode (node_with held.ports id)
    end-open = subst IsOpenNode (sym end-node) (go (is_system placed.client.name) way)
      where
        go : (b : Bool) (w : Way) → IsOpenNode (cond b (system_node w) (ClientNode placed.client.id))
        go true In = tt
        go true Out = tt
        go false w = (placed.client, placed.listed, refl)

    end-called : call (node_with held.ports id) ≡ node_called way (client_part (name_with held.ports id))
    end-called = ap call end-node ∙ go (is_system placed.client.name) way ∙ ap (node_called way) (sym end-client)
      where
        go : (b : Bool) (w : Way) → call (cond b (system_node w) (ClientNode placed.client.id)) ≡ node_by b w placed.client.name
        go true In = refl
        go true Out = refl
        go false In = ap NamedClient (name_for-is placed.client placed.client.id.0 placed.listed refl)
        go false Out = ap NamedClient (name_for-is placed.client placed.client.id.0 placed.listed refl)

  -- a client that plays, by its id and by its name
  id-system : (client : Client) → Contains held.clients client → (client.id.0 == 0) ≡ is_system client.name
  id-system client m = id-name held r client system_entry m (find-contains (has_name system_name) held.clients system_entry r.system)

  pub players-is : open_clients (filter is_player held.clients) ≡ filter (λ (client : OpenClient). client.active && not (is_system client.name)) (open_clients held.clients)
  players-is = go held.clients (λ client m. m)
    where
      go : (clients : List Client) → ((client : Client) → Contains clients client → Contains held.clients client)
          → map open_client (filter is_player clients) ≡ filter (λ (client : OpenClient). client.active && not (is_system client.name)) (map open_client clients)
      go [] among = refl
      go (client ∷ clients) among = by (is_player client) (client.active && not (is_system client.name)) (ap (λ b. client.active && not b) (id-system client (among client (Contains-first client clients)))) (go clients (λ c m. among c (Contains-later client c clients m)))
        where
          by : (a b : Bool) → a ≡ b → map open_client (filter is_player clients) ≡ filter (λ (c : OpenClient). c.active && not (is_system c.name)) (map open_client clients)
              → map open_client (cond a (client ∷ filter is_player clients) (filter is_player clients)) ≡ cond b (open_client client ∷ filter (λ (c : OpenClient). c.active && not (is_system c.name)) (map open_client clients)) (filter (λ (c : OpenClient). c.active && not (is_system c.name)) (map open_client clients))
          by true true e rest = ap (λ cs. open_client client ∷ cs) rest
          by false false e rest = rest
          by true false e rest = absurd (true≢false e)
          by false true e rest = absurd (true≢false (sym e))

  -- an open client other than `system`
  abbrev IsOther : Client → Type 0
  IsOther client = Contains held.clients client × (is_system client.name ≡ false)

  player-other : (client : Client) → Contains (filter is_player held.clients) client → IsOther client
  player-other client m = (listed, not_system (is_system client.name) (ap not (sym (id-system client listed)) ∙ (and_parts client.active (not (client.id.0 == 0)) (filter-passes is_player held.clients client m)).1))
    where
      listed : Contains held.clients client
      listed = Contains-filtered is_player held.clients client m

      not_system : (b : Bool) → not b ≡ true → b ≡ false
      not_system true e = absurd (true≢false (sym e))
      not_system false e = refl

  module _ (edges : List Edge) (ends : HaveEnds held.ports edges) where
    -- the links by ids, called by names
    links-called : (some : List Edge) → ((edge : Edge) → Contains some edge → Contains edges edge) → map (called_pair call) (node_links held.ports some) ≡ direct_links (connections held.ports some)
    links-called [] among = refl
    links-called (edge ∷ some) among = go (is_direct edge.mark) (links-called some (λ e m. among e (Contains-later edge e some m)))
      where
        here : Contains edges edge
        here = among edge (Contains-first edge some)

        go : (b : Bool) → map (called_pair call) (node_links held.ports some) ≡ direct_links (connections held.ports some)
            → map (called_pair call) (map (λ (e : Edge). (node_with held.ports e.source, node_with held.ports e.destination)) (cond b (edge ∷ filter (λ (e : Edge). is_direct e.mark) some) (filter (λ (e : Edge). is_direct e.mark) some)))
            ≡ map (λ (c : Connection). (source_node c.source, destination_node c.destination)) (cond b (connection held.ports edge ∷ filter (λ (c : Connection). is_direct c.mark) (connections held.ports some)) (filter (λ (c : Connection). is_direct c.mark) (connections held.ports some)))
        go false rest = rest
        go true rest = ap₂ (λ l ls. l ∷ ls) (ap₂ pair_of (end-called Out edge.source (ends.sources edge here)) (end-called In edge.destination (ends.destinations edge here))) rest

    links-open : (some : List Edge) → ((edge : Edge) → Contains some edge → Contains edges edge) → Each (λ (link : Node × Node). IsOpenNode link.0 × IsOpenNode link.1) (node_links held.ports some)
    links-open [] among = tt
    links-open (edge ∷ some) among = go (is_direct edge.mark) (links-open some (λ e m. among e (Contains-later edge e some m)))
      where
        here : Contains edges edge
        here = among edge (Contains-first edge some)

        go : (b : Bool) → Each (λ (link : Node × Node). IsOpenNode link.0 × IsOpenNode link.1) (node_links held.ports some)
            → Each (λ (link : Node × Node). IsOpenNode link.0 × IsOpenNode link.1) (map (λ (e : Edge). (node_with held.ports e.source, node_with held.ports e.destination)) (cond b (edge ∷ filter (λ (e : Edge). is_direct e.mark) some) (filter (λ (e : Edge). is_direct e.mark) some)))
        go false rest = rest
        go true rest = ((end-open Out edge.source (ends.sources edge here), end-open In edge.destination (ends.destinations edge here)), rest)

    pub IsLoopFree-network : HasNoLoop (connections held.ports edges) → IsLoopFree (node_links held.ports edges)
    IsLoopFree-network free a next path loop =
        free (call a) (call next) (map call path)
        (subst (λ links. IsPath links (call a) (call next ∷ map call path) (call a)) (links-called edges (λ edge m. m)) (path-called call (node_links held.ports edges) a (next ∷ path) a loop))

    leads-by_name : (a b : Client) → Contains held.clients a → Contains held.clients b → leads same_node (direct_links (connections held.ports edges)) (NamedClient a.name) (NamedClient b.name) ≡ leads_to held.ports edges a b
    leads-by_name a b p q =
        ap₂ (leads same_node (direct_links (connections held.ports edges))) (sym (ap NamedClient (name_for-is a a.id.0 p refl))) (sym (ap NamedClient (name_for-is b b.id.0 q refl)))
        ∙ ap (λ links. leads same_node links (call (ClientNode a.id)) (call (ClientNode b.id))) (sym (links-called edges (λ edge m. m)))
        ∙ leads-called same_id_node same_node call IsOpenNode call-agrees (node_links held.ports edges) (links-open edges (λ edge m. m)) (ClientNode a.id) (ClientNode b.id) (a, p, refl) (b, q, refl)

    -- where a node stands
    module _ (nodes : List Client) (among : Each IsOther nodes) where
      place-client : (client : Client) → Contains held.clients client → (device : Bool) → is_system client.name ≡ device → (way : Way)
          → place_of nodes (cond device (system_node way) (ClientNode client.id)) ≡ place_in (open_clients nodes) client.name
      place-client client m true e way =
          device way
          ∙ sym (position-nowhere nodes)
          ∙ sym (position-same (λ (node : Client). bytes_eq node.name client.name) (λ (node : Client). false) nodes
          (λ node n. fails (bytes_eq node.name client.name) (λ t. true≢false (sym e ∙ ap is_system (sym (bytes_same node.name client.name t)) ∙ (Each-contains IsOther nodes node among n).1))))
          ∙ sym (position-map (λ (node : OpenClient). bytes_eq node.name client.name) open_client nodes)
        where
          device : (w : Way) → place_of nodes (system_node w) ≡ None
          device In = refl
          device Out = refl
      place-client client m false e way =
          position-same (λ (node : Client). node.id.0 == client.id.0) (λ (node : Client). bytes_eq node.name client.name) nodes (λ node n. id-name held r node client (Each-contains IsOther nodes node among n).0 m)
          ∙ sym (position-map (λ (node : OpenClient). bytes_eq node.name client.name) open_client nodes)

      place-end : (way : Way) (id : PortId) (end : IsEndOf held.ports way id) → place_of nodes (node_with held.ports id) ≡ place_in (open_clients nodes) (client_part (name_with held.ports id))
      place-end way id end =
          ap (place_of nodes) (end-node way id end)
          ∙ place-client (placed way id end).client (placed way id end).listed (is_system (placed way id end).client.name) refl way
          ∙ ap (place_in (open_clients nodes)) (sym (end-client way id end))

      pub link-is : (edge : Edge) → Contains edges edge → link_of held.ports nodes edge ≡ link_in (open_clients nodes) (connection held.ports edge)
      link-is edge m = go (is_direct edge.mark)
        where
          go : (b : Bool) → cond b (link_between (place_of nodes (node_with held.ports edge.source)) (place_of nodes (node_with held.ports edge.destination))) None
              ≡ cond b (link_between (place_in (open_clients nodes) (client_part (name_with held.ports edge.source))) (place_in (open_clients nodes) (client_part (name_with held.ports edge.destination)))) None
          go true = ap₂ link_between (place-end Out edge.source (ends.sources edge m)) (place-end In edge.destination (ends.destinations edge m))
          go false = refl

      pub links-is : filter_map (link_of held.ports nodes) edges ≡ filter_map (link_in (open_clients nodes)) (connections held.ports edges)
      links-is = filter_map-called (link_of held.ports nodes) (link_in (open_clients nodes)) (connection held.ports) edges link-is

    others : Each IsOther (filter is_player held.clients)
    others = Each-from_contains IsOther (filter is_player held.clients) player-other

    pub order-others : Each IsOther (ordered (leads_to held.ports edges) (filter is_player held.clients))
    order-others = Each-ordered (leads_to held.ports edges) (λ (a b : OpenClient). false) open_client IsOther (filter is_player held.clients) others

    pub order-is : open_clients (ordered (leads_to held.ports edges) (filter is_player held.clients))
        ≡ ordered (λ (a b : OpenClient). leads same_node (direct_links (connections held.ports edges)) (NamedClient a.name) (NamedClient b.name)) (open_clients (filter is_player held.clients))
    order-is =
        ordered-called (leads_to held.ports edges) (λ (a b : OpenClient). leads same_node (direct_links (connections held.ports edges)) (NamedClient a.name) (NamedClient b.name)) open_client IsOther
        (λ a b p q. leads-by_name a b p.0 q.0) (filter is_player held.clients) others

-- nodes and links of a network are those of its state
module _ (network : Network) (is : IsNetwork network) (nodes : List Client) (ordered_so : nodes ≡ ordered (leads_to network.held.ports network.set.edges) (filter is_player network.held.clients)) where
  pub nodes_of-is : open_clients nodes ≡ nodes_of (state_of network)
  nodes_of-is =
      ap open_clients ordered_so
      ∙ order-is network.held is.registered network.set.edges is.ends
      ∙ ap (ordered (leads_in (state_of network))) (players-is network.held is.registered)

  are_others : Each (IsOther network.held is.registered) nodes
  are_others = subst (Each (IsOther network.held is.registered)) (sym ordered_so) (order-others network.held is.registered network.set.edges is.ends)

  -- each node is an open client
  pub listed-are : (client : Client) → Contains nodes client → Contains network.held.clients client
  listed-are client m = (Each-contains (IsOther network.held is.registered) nodes client are_others m).0

  pub links_of-is : distinct (filter_map (link_of network.held.ports nodes) network.set.edges) ≡ links_of (state_of network)
  links_of-is = ap distinct (links-is network.held is.registered network.set.edges is.ends nodes are_others ∙ ap (λ ns. filter_map (link_in ns) (state_of network).edges) nodes_of-is)

  -- the link of an edge, by ids and by names
  pub link_in-is : (edge : Edge) → Contains network.set.edges edge → link_of network.held.ports nodes edge ≡ link_in (open_clients nodes) (connection network.held.ports edge)
  link_in-is edge m = link-is network.held is.registered network.set.edges is.ends nodes are_others edge m
