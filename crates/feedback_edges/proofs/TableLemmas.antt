-- A table of nodes' numbers, and the ends of edges in it.
use Rattle.std.proofs.Common.{replicate, IsTrue, ◌↔◌, ◌≡◌, ℕ, suc, ◌+◌, ◌<◌, Bool, true, false, cond, ◌==◌, ◌⊎◌, inl, inr, List, [], ◌∷◌, length, map, filter, find, set, get_or, drop, All, Contains, Some, refl, sym, ◌∙◌, ap, ap₂, subst, arith, true≢false, eq-eqb, eqb-true, get_or-set_same, get_or-set_other, add-one}
use Rattle.std.specs.Option.{option_map_or}
use Rattle.std.proofs.Math.Seq.{drop-cons}
use Rattle.std.proofs.lemmas.Bool.{cases_eq}
use Rattle.std.proofs.lemmas.List.{get_or_default, get_or-replicate, drop_all}
use Rattle.std.proofs.lemmas.List.Elements.{All-replicate}
use Rattle.connection_set.specs.jack_types.specs.declared.ports.Edge.{Edge}
use Rattle.connection_set.specs.jack_types.specs.declared.ports.Node.{Node}
use Rattle.connection_set.specs.jack_types.specs.declared.ports.Node.TheVariants.{Capture, Playback, Client}
use Rattle.connection_set.specs.jack_types.specs.declared.ports.Port.{Port}
use Rattle.connection_set.specs.jack_types.specs.declared.ports.PortId.{PortId}
use Rattle.connection_set.specs.session_model.specs.Ids.{node_with, node_links}
use Rattle.connection_set.specs.session_model.specs.Loops.{IsPath, Leads}
use Rattle.connection_set.specs.session_model.specs.State.{is_direct}
use Rattle.connection_set.specs.session_laws.proofs.SoundLemmas.{contains-map, map-contains}
use Rattle.connection_set.specs.session_laws.proofs.PlaceLemmas.{map-after}
use Rattle.connection_set.specs.session_laws.proofs.CycleLemmas.{map_filter-same}
use Rattle.connection_set.specs.Connections.{IsIdOf}
use Rattle.feedback_edges.specs.Marking.{node_number, AreAmong}
use Rattle.feedback_edges.specs.Search.{number_with, IsTable, link_by, number_links}

-- one port more in front of those that the table holds
pub table_more : (ports : List Port) (p : ℕ) (d : Port) (table : List ℕ) → p < length ports → length table ≡ 2064 → (get_or ports p d).id.0 < 2064
    → ((id : ℕ) → id < 2064 → get_or table id 0 ≡ number_with (drop (p + 1) ports) id)
    → (id : ℕ) → id < 2064 → get_or (set table (get_or ports p d).id.0 (node_number (get_or ports p d).node)) id 0 ≡ number_with (drop p ports) id
table_more ports p d table within size low held id h = at ∙ ap (λ ps. number_with ps id) (sym (drop-cons ports p d within))
  where
    port : Port
    port = get_or ports p d

    rest : List Port
    rest = drop (suc p) ports

    table_rest : get_or table id 0 ≡ number_with rest id
    table_rest = held id h ∙ ap (λ k. number_with (drop k ports) id) (add-one p)

    inside : port.id.0 < length table
    inside = omega (arith, low, size)

    go : (b : Bool) → (port.id.0 == id) ≡ b → (port.id.0 ≡ id) ⊎ (port.id.0 ≡ id → ⊥)
        → get_or (set table port.id.0 (node_number port.node)) id 0 ≡ node_number (option_map_or (λ (q : Port). q.node) (cond b (Some port) (find (λ (q : Port). q.id.0 == id) rest)) Capture)
    go true e (inl same) = subst (λ k. get_or (set table port.id.0 (node_number port.node)) k 0 ≡ node_number port.node) same (get_or-set_same table port.id.0 (node_number port.node) 0 inside)
    go true e (inr other) = absurd (other (eqb-true port.id.0 id e))
    go false e (inl same) = absurd (true≢false (sym (eq-eqb port.id.0 id same) ∙ e))
    go false e (inr other) = get_or-set_other table port.id.0 id (node_number port.node) 0 (λ same. other (sym same)) ∙ table_rest

    at : get_or (set table port.id.0 (node_number port.node)) id 0 ≡ number_with (port ∷ rest) id
    at = go (port.id.0 == id) refl (cases_eq port.id.0 id)

pub number-one : (a b : Node) → node_number a ≡ node_number b → a ≡ b
number-one Capture Capture e = refl
number-one Capture Playback e = absurd (omega (arith, e))
number-one Capture (Client b) e = absurd (omega (arith, e))
number-one Playback Capture e = absurd (omega (arith, e))
number-one Playback Playback e = refl
number-one Playback (Client b) e = absurd (omega (arith, e))
number-one (Client a) Capture e = absurd (omega (arith, e))
number-one (Client a) Playback e = absurd (omega (arith, e))
number-one (Client a) (Client b) e = let same : a.0 ≡ b.0 = omega (arith, e) in ap (λ n. Client (record { 0 = n })) same

abbrev pair : Node × Node → ℕ × ℕ
pair link = (node_number link.0, node_number link.1)

-- paths over numbers are paths over nodes
path_of_nodes : (links : List (Node × Node)) (a : Node) (path : List Node) (b : Node) → IsPath links a path b → IsPath (map pair links) (node_number a) (map node_number path) (node_number b)
path_of_nodes links a [] b h = ap node_number h
path_of_nodes links a (next ∷ path) b h = (map-contains pair links (a, next) h.0, path_of_nodes links next path b h.1)

path_of_numbers : (links : List (Node × Node)) (path : List ℕ) (a b : Node) → IsPath (map pair links) (node_number a) path (node_number b) → Leads links a b
path_of_numbers links [] a b h = ([], number-one a b h)
path_of_numbers links (next ∷ path) a b h = go (contains-map pair links (node_number a, next) h.0) (λ c k. path_of_numbers links path c b k)
  where
    go : ((link : Node × Node) × Contains links link × (pair link ≡ (node_number a, next)))
        → ((c : Node) → IsPath (map pair links) (node_number c) path (node_number b) → Leads links c b) → Leads links a b
    go w rest =
        let from : (w.0).0 ≡ a = number-one (w.0).0 a (ap (λ (l : ℕ × ℕ). l.0) w.2) in
        let to : node_number (w.0).1 ≡ next = ap (λ (l : ℕ × ℕ). l.1) w.2 in
        let on : Leads links (w.0).1 b = rest (w.0).1 (subst (λ n. IsPath (map pair links) n path (node_number b)) (sym to) h.1) in
        let first : Contains links (a, (w.0).1) = subst (λ x. Contains links (x, (w.0).1)) from w.1 in
        ((w.0).1 ∷ on.0, (first, on.1))

-- the number of an end of an edge among the ports
end-below : (ports : List Port) (id : PortId) → All (λ (port : Port). port.id.0 < 2064) ports → IsIdOf ports id → id.0 < 2064
end-below ports id low w =
    let at : (w.0).id.0 < 2064 = subst (λ (port : Port). port.id.0 < 2064) (w.1).2 (low (w.1).0 w.0 (w.1).1) in
    let same : (w.0).id.0 ≡ id.0 = eqb-true (w.0).id.0 id.0 w.2 in
    omega (arith, at, same)

pub sources_below : (ports : List Port) (edges : List Edge) → AreAmong ports edges → All (λ (edge : Edge). edge.source.0 < 2064) edges
sources_below ports edges among k d h = end-below ports (get_or edges k d).source among.ids (among.sources (get_or edges k d) (k, h, get_or_default edges k (get_or edges k d) d h))

pub destinations_below : (ports : List Port) (edges : List Edge) → AreAmong ports edges → All (λ (edge : Edge). edge.destination.0 < 2064) edges
destinations_below ports edges among k d h = end-below ports (get_or edges k d).destination among.ids (among.destinations (get_or edges k d) (k, h, get_or_default edges k (get_or edges k d) d h))

-- the links of the table are those of the nodes
number_links-are : (ports : List Port) (edges : List Edge) (table : List ℕ) → AreAmong ports edges → IsTable ports table → number_links table edges ≡ map pair (node_links ports edges)
number_links-are ports edges table among held =
    map_filter-same (λ (edge : Edge). is_direct edge.mark) (link_by table) (λ (edge : Edge). pair (node_with ports edge.source, node_with ports edge.destination)) edges
    (λ edge m direct. ap₂ (λ (a b : ℕ). (a, b)) (held edge.source.0 (end-below ports edge.source among.ids (among.sources edge m)))
    (held edge.destination.0 (end-below ports edge.destination among.ids (among.destinations edge m))))
    ∙ sym (map-after pair (λ (edge : Edge). (node_with ports edge.source, node_with ports edge.destination)) (filter (λ (edge : Edge). is_direct edge.mark) edges))

pub Leads-nodes : (ports : List Port) (edges : List Edge) (table : List ℕ) (from to : Node) → AreAmong ports edges → IsTable ports table
    → Leads (number_links table edges) (node_number from) (node_number to) → Leads (node_links ports edges) from to
Leads-nodes ports edges table from to among held h =
    let moved : Leads (map pair (node_links ports edges)) (node_number from) (node_number to) = subst (λ links. Leads links (node_number from) (node_number to)) (number_links-are ports edges table among held) h in
    path_of_numbers (node_links ports edges) moved.0 from to moved.1

pub Leads-numbers : (ports : List Port) (edges : List Edge) (table : List ℕ) (from to : Node) → AreAmong ports edges → IsTable ports table
    → Leads (node_links ports edges) from to → Leads (number_links table edges) (node_number from) (node_number to)
Leads-numbers ports edges table from to among held h =
    subst (λ links. Leads links (node_number from) (node_number to)) (sym (number_links-are ports edges table among held)) (map node_number h.0, path_of_nodes (node_links ports edges) from h.0 to h.1)

-- a table of zeros holds no ports
pub table_none : (ports : List Port) (n : ℕ) → (id : ℕ) → id < n → get_or (replicate n 0) id 0 ≡ number_with (drop (length ports) ports) id
table_none ports n id h = get_or-replicate n id 0 0 h ∙ ap (λ ps. number_with ps id) (sym (drop_all (length ports) ports (omega arith)))

pub zeros_low : (n most : ℕ) → 0 < most → All (λ k. k < most) (replicate n 0)
zeros_low n most h = All-replicate (λ k. k < most) n 0 h

-- the answer of the search, as one over nodes
pub leads_both : (ports : List Port) (edges : List Edge) (table : List ℕ) (from to : Node) (a b : ℕ) (answer : Bool) → AreAmong ports edges → IsTable ports table → a ≡ node_number from → b ≡ node_number to
    → (IsTrue answer ↔ Leads (number_links table edges) a b) → (IsTrue answer ↔ Leads (node_links ports edges) from to)
leads_both ports edges table from to a b answer among held e f both = (
  λ t. Leads-nodes ports edges table from to among held (subst (λ n. Leads (number_links table edges) n (node_number to)) e (subst (Leads (number_links table edges) a) f (both.0 t))),
  λ h. both.1 (subst (λ n. Leads (number_links table edges) n b) (sym e) (subst (Leads (number_links table edges) (node_number from)) (sym f) (Leads-numbers ports edges table from to among held h))),
)
