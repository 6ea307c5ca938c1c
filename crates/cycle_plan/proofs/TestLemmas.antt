-- What is laid out by numbers is what is laid out by nodes.
use Rattle.std.proofs.Common.{◌≡◌, ℕ, ◌+◌, ◌<◌, Bool, true, false, cond, ◌==◌, ◌↔◌, List, [], ◌∷◌, length, filter_map, position, get_or, All, Contains, Option, None, refl, sym, ◌∙◌, ap, ap₂, subst, arith, true≢false, eq-eqb, eqb-true}
use Rattle.std.specs.List.{cons_option, position_or_len}
use Rattle.graph_word.specs.jack_types.specs.declared.ports.Client.{Client}
use Rattle.graph_word.specs.jack_types.specs.declared.ports.Edge.{Edge}
use Rattle.graph_word.specs.jack_types.specs.declared.ports.Link.{Link}
use Rattle.graph_word.specs.jack_types.specs.declared.ports.Node.{Node}
use Rattle.graph_word.specs.jack_types.specs.declared.ports.Node.TheVariants.{Capture, Playback, Client as ClientNode}
use Rattle.graph_word.specs.jack_types.specs.declared.ports.Port.{Port}
use Rattle.graph_word.specs.session_model.specs.Ids.{node_links, node_with, same_id_node}
use Rattle.graph_word.specs.session_model.specs.Loops.{Leads}
use Rattle.graph_word.specs.session_model.specs.State.{is_direct}
use Rattle.port_registry.specs.session_laws.proofs.LoopLemmas.{Contains-first, Contains-later, leads-is_Leads}
use Rattle.feedback_edges.specs.Marking.{AreAmong, node_number}
use Rattle.feedback_edges.specs.Search.{IsTable, number_links}
use Rattle.feedback_edges.proofs.NameLemmas.{same_id_node-is, same_id_node-self}
use Rattle.feedback_edges.proofs.TableLemmas.{Leads-nodes, Leads-numbers, sources_below, destinations_below}
use Rattle.cycle_plan.proofs.NodeLemmas.{position-none}
use Rattle.cycle_plan.specs.Layouts.{distinct, leads_to, link_between, link_of, ordered, place_of}
use Rattle.cycle_plan.specs.Searching.{ArePlaces, client_number, link_at_numbers, numbers_lead, place_number}

bool-same : (a b : Bool) → (a ≡ true → b ≡ true) → (b ≡ true → a ≡ true) → a ≡ b
bool-same true b f g = sym (f refl)
bool-same false true f g = g refl
bool-same false false f g = refl

-- a test by numbers is the one by nodes
lead-same : (ports : List Port) (edges : List Edge) (table : List ℕ) → AreAmong ports edges → IsTable ports table → (a b : Client) → numbers_lead table edges a b ≡ leads_to ports edges a b
lead-same ports edges table among held a b =
    bool-same (numbers_lead table edges a b) (leads_to ports edges a b)
    (λ t. by_node.1 (Leads-nodes ports edges table (ClientNode a.id) (ClientNode b.id) among held (by_number.0 t)))
    (λ t. by_number.1 (Leads-numbers ports edges table (ClientNode a.id) (ClientNode b.id) among held (by_node.0 t)))
  where
    by_node : (leads_to ports edges a b ≡ true) ↔ Leads (node_links ports edges) (ClientNode a.id) (ClientNode b.id)
    by_node = leads-is_Leads same_id_node same_id_node-is same_id_node-self (node_links ports edges) (ClientNode a.id) (ClientNode b.id)

    by_number : (numbers_lead table edges a b ≡ true) ↔ Leads (number_links table edges) (client_number a) (client_number b)
    by_number = leads-is_Leads (λ m n. m == n) (λ m n h. eqb-true m n h) (λ n. eq-eqb n n refl) (number_links table edges) (client_number a) (client_number b)

pub ordered-same : (ports : List Port) (edges : List Edge) (table : List ℕ) (clients : List Client) → AreAmong ports edges → IsTable ports table
    → ordered (numbers_lead table edges) clients ≡ ordered (leads_to ports edges) clients
ordered-same ports edges table clients among held = λ i. ordered (λ a b. lead-same ports edges table among held a b i) clients

-- two tests that agree find one place
position-same : (p q : Client → Bool) (nodes : List Client) → ((x : Client) → p x ≡ q x) → position p nodes ≡ position q nodes
position-same p q nodes same = λ i. position (λ x. same x i) nodes

none-passes : (p : Client → Bool) (nodes : List Client) → ((x : Client) → p x ≡ false) → position p nodes ≡ None
none-passes p nodes fails = position-same p (λ x. false) nodes fails ∙ never nodes
  where
    long : (xs : List Client) → position_or_len (λ (x : Client). false) xs ≡ length xs
    long [] = refl
    long (x ∷ xs) = let rest : position_or_len (λ (y : Client). false) xs ≡ length xs = long xs in omega (arith, rest)

    never : (xs : List Client) → position (λ (x : Client). false) xs ≡ None
    never xs = let whole : position_or_len (λ (x : Client). false) xs ≡ length xs = long xs in position-none (λ (x : Client). false) xs (omega (arith, whole))

place-same : (nodes : List Client) (node : Node) → place_number nodes (node_number node) ≡ place_of nodes node
place-same nodes Capture = none-passes (λ (x : Client). client_number x == 0) nodes (λ x. bool-same (client_number x == 0) false (λ t. let e : client_number x ≡ 0 = eqb-true (client_number x) 0 t in absurd (omega (arith, e))) (λ t. absurd (true≢false (sym t))))
place-same nodes Playback = none-passes (λ (x : Client). client_number x == 1) nodes (λ x. bool-same (client_number x == 1) false (λ t. let e : client_number x ≡ 1 = eqb-true (client_number x) 1 t in absurd (omega (arith, e))) (λ t. absurd (true≢false (sym t))))
place-same nodes (ClientNode id) =
    position-same (λ (x : Client). client_number x == id.0 + 2) (λ (x : Client). x.id.0 == id.0) nodes
    (λ x. bool-same (client_number x == id.0 + 2) (x.id.0 == id.0)
    (λ t. let e : client_number x ≡ id.0 + 2 = eqb-true (client_number x) (id.0 + 2) t in eq-eqb x.id.0 id.0 (omega (arith, e)))
    (λ t. let e : x.id.0 ≡ id.0 = eqb-true x.id.0 id.0 t in eq-eqb (client_number x) (id.0 + 2) (omega (arith, e))))

filter_map-same : (f g : Edge → Option Link) (edges : List Edge) → ((edge : Edge) → Contains edges edge → f edge ≡ g edge) → filter_map f edges ≡ filter_map g edges
filter_map-same f g [] same = refl
filter_map-same f g (edge ∷ edges) same =
    ap₂ cons_option (same edge (Contains-first edge edges)) (filter_map-same f g edges (λ e m. same e (Contains-later edge e edges m)))

pub links-same : (ports : List Port) (edges : List Edge) (table : List ℕ) (nodes : List Client) (places : List (Option ℕ)) → AreAmong ports edges → IsTable ports table → All (λ n. n < 67) table → length table ≡ 2064
    → ArePlaces nodes places → (others : List Client) → nodes ≡ others
    → distinct (filter_map (link_at_numbers table places) edges) ≡ distinct (filter_map (link_of ports others) edges)
links-same ports edges table nodes places among held low size kept others same =
    ap distinct (filter_map-same (link_at_numbers table places) (link_of ports nodes) edges one) ∙ ap (λ ns. distinct (filter_map (link_of ports ns) edges)) same
  where
    at : (id : ℕ) → id < 2064 → get_or places (get_or table id 0) None ≡ place_number nodes (get_or table id 0)
    at id h = kept (get_or table id 0) (low id 0 (omega (arith, h, size)))

    one : (edge : Edge) → Contains edges edge → link_at_numbers table places edge ≡ link_of ports nodes edge
    one edge m = go (is_direct edge.mark)
      where
        source : edge.source.0 < 2064
        source = subst (λ (e : Edge). e.source.0 < 2064) m.2 (sources_below ports edges among m.0 edge m.1)

        destination : edge.destination.0 < 2064
        destination = subst (λ (e : Edge). e.destination.0 < 2064) m.2 (destinations_below ports edges among m.0 edge m.1)

        from : get_or places (get_or table edge.source.0 0) None ≡ place_of nodes (node_with ports edge.source)
        from = at edge.source.0 source ∙ ap (place_number nodes) (held edge.source.0 source) ∙ place-same nodes (node_with ports edge.source)

        to : get_or places (get_or table edge.destination.0 0) None ≡ place_of nodes (node_with ports edge.destination)
        to = at edge.destination.0 destination ∙ ap (place_number nodes) (held edge.destination.0 destination) ∙ place-same nodes (node_with ports edge.destination)

        go : (direct : Bool)
            → cond direct (link_between (get_or places (get_or table edge.source.0 0) None) (get_or places (get_or table edge.destination.0 0) None)) None
            ≡ cond direct (link_between (place_of nodes (node_with ports edge.source)) (place_of nodes (node_with ports edge.destination))) None
        go true = ap₂ link_between from to
        go false = refl
