-- Marking anew, one place after the other.
use Rattle.std.proofs.Common.{◌≡◌, ◌↔◌, Contains, ℕ, zero, suc, ◌+◌, ◌<◌, Bool, true, false, cond, List, [], ◌∷◌, ◌++◌, length, set, get_or, take, drop, refl, sym, ◌∙◌, ap, ap₂, subst, arith, true≢false, add-one}
use Rattle.std.proofs.Math.Seq.{drop-cons}
use Rattle.std.proofs.lemmas.List.{take_more, take_more_set, take_all, take-append-drop, drop_all, drop-set-lt, get_or_default, get_or-map, length-map, map-set}
use Rattle.connection_set.specs.jack_types.specs.declared.ports.Mark.{Mark}
use Rattle.connection_set.specs.jack_types.specs.declared.ports.Mark.TheVariants.{Direct, Feedback}
use Rattle.connection_set.specs.jack_types.specs.declared.ports.Edge.{Edge}
use Rattle.connection_set.specs.jack_types.specs.declared.ports.Port.{Port}
use Rattle.connection_set.specs.session_model.specs.Ids.{connection, connections, node_links, node_with, same_id_node}
use Rattle.connection_set.specs.session_model.specs.Loops.{Leads, leads, closes_loop, mark_of, tested_edge, remark_from}
use Rattle.connection_set.specs.session_model.specs.State.{Connection, is_direct}
use Rattle.connection_set.specs.session_laws.proofs.LoopLemmas.{leads-is_Leads}
use Rattle.connection_set.specs.Connections.{edge_at, no_edge, with_direct}
use Rattle.feedback_edges.specs.Marking.{AreAmong, AreNamed, ends_by_id, node_number}
use Rattle.feedback_edges.specs.Search.{IsTable, link_by, number_links, ClosesNone}
use Rattle.feedback_edges.proofs.NameLemmas.{AreAmong-same, AreNamed-same, closes_edge-by_name, same_id_node-is, same_id_node-self}
use Rattle.feedback_edges.proofs.TableLemmas.{sources_below, destinations_below, Leads-nodes, Leads-numbers}

no_connection : Connection
no_connection = record { source = []; destination = []; mark = Direct }

-- the edges before a place, then the edge there, then the rest
pub whole : (edges : List Connection) (p : ℕ) (d : Connection) → p < length edges → take p edges ++ get_or edges p d ∷ drop (p + 1) edges ≡ edges
whole edges p d h =
    ap (λ rest. take p edges ++ rest) (ap (λ k. get_or edges p d ∷ drop k edges) (add-one p) ∙ sym (drop-cons edges p d h)) ∙ take-append-drop p edges

-- an edge that stays as it is
pub remark-stays : (edges : List Connection) (p : ℕ) (d : Connection) → p < length edges → tested_edge (take p edges) (get_or edges p d) (drop (p + 1) edges) ≡ get_or edges p d
    → remark_from (take p edges) (drop p edges) ≡ remark_from (take (p + 1) edges) (drop (p + 1) edges)
remark-stays edges p d h stays =
    ap (remark_from (take p edges)) (drop-cons edges p d h)
    ∙ ap (λ k. remark_from (take p edges ++ tested_edge (take p edges) (get_or edges p d) (drop k edges) ∷ []) (drop k edges)) (sym (add-one p))
    ∙ ap (λ e. remark_from (take p edges ++ e ∷ []) (drop (p + 1) edges)) stays
    ∙ ap (λ tested. remark_from tested (drop (p + 1) edges)) (sym (take_more edges p d h))

-- an edge that is changed
pub remark-changed : (edges : List Connection) (p : ℕ) (d new : Connection) → p < length edges → tested_edge (take p edges) (get_or edges p d) (drop (p + 1) edges) ≡ new
    → remark_from (take p edges) (drop p edges) ≡ remark_from (take (p + 1) (set edges p new)) (drop (p + 1) (set edges p new))
remark-changed edges p d new h changed =
    ap (remark_from (take p edges)) (drop-cons edges p d h)
    ∙ ap (λ k. remark_from (take p edges ++ tested_edge (take p edges) (get_or edges p d) (drop k edges) ∷ []) (drop k edges)) (sym (add-one p))
    ∙ ap (λ e. remark_from (take p edges ++ e ∷ []) (drop (p + 1) edges)) changed
    ∙ ap₂ remark_from (sym (take_more_set edges p new h)) (sym (drop-set-lt (p + 1) edges p new (omega arith)))

-- what the test gives, by the mark that a new edge would get
pub tested-direct : (edges : List Connection) (p : ℕ) (d : Connection) → is_direct (get_or edges p d).mark ≡ true → tested_edge (take p edges) (get_or edges p d) (drop (p + 1) edges) ≡ get_or edges p d
tested-direct edges p d e = ap (λ b. cond b (get_or edges p d) (record (get_or edges p d) { mark = mark_of (take p edges ++ get_or edges p d ∷ drop (p + 1) edges) (get_or edges p d).source (get_or edges p d).destination })) e

pub tested-marked : (edges : List Connection) (p : ℕ) (d : Connection) (mark : Mark) → p < length edges → is_direct (get_or edges p d).mark ≡ false
    → mark_of edges (get_or edges p d).source (get_or edges p d).destination ≡ mark
    → tested_edge (take p edges) (get_or edges p d) (drop (p + 1) edges) ≡ record (get_or edges p d) { mark = mark }
tested-marked edges p d mark h e m =
    ap (λ b. cond b (get_or edges p d) (record (get_or edges p d) { mark = mark_of (take p edges ++ get_or edges p d ∷ drop (p + 1) edges) (get_or edges p d).source (get_or edges p d).destination })) e
    ∙ ap (λ es. let c : Connection = record (get_or edges p d) { mark = mark_of es (get_or edges p d).source (get_or edges p d).destination } in c) (whole edges p d h)
    ∙ ap (λ k. let c : Connection = record (get_or edges p d) { mark = k } in c) m

pub remark-done : (edges : List Connection) (n : ℕ) → length edges ≡ n → remark_from (take n edges) (drop n edges) ≡ edges
remark-done edges n e = ap₂ remark_from (take_all n edges (omega (arith, e))) (drop_all n edges (omega (arith, e)))

not-true : (b : Bool) → (b ≡ true → ⊥) → b ≡ false
not-true true h = absurd (h refl)
not-true false h = refl

feedback : (mark : Mark) → is_direct mark ≡ false → Feedback ≡ mark
feedback Direct h = absurd (true≢false h)
feedback Feedback h = refl

module _ (ports : List Port) (table : List ℕ) (edges : List Edge) (p : ℕ) (within : p < length edges) (among : AreAmong ports edges) (named : AreNamed ports edges) (held : IsTable ports table) where
  abbrev edge : Edge
  edge = edge_at edges p

  abbrev names : List Connection
  names = connections ports edges

  here : Contains edges (edge_at edges p)
  here = (p, within, get_or_default edges p (edge_at edges p) no_edge within)

  low : p < length (connections ports edges)
  low = let size : length (connections ports edges) ≡ length edges = length-map edges (connection ports) in omega (arith, within, size)

  at : get_or (connections ports edges) p no_connection ≡ connection ports (edge_at edges p)
  at = get_or-map (connection ports) edges p no_edge no_connection within

  from : (link_by table (edge_at edges p)).0 ≡ node_number (node_with ports (edge_at edges p).source)
  from = held (edge_at edges p).source.0 (sources_below ports edges among p no_edge within)

  to : (link_by table (edge_at edges p)).1 ≡ node_number (node_with ports (edge_at edges p).destination)
  to = held (edge_at edges p).destination.0 (destinations_below ports edges among p no_edge within)

  abbrev closes : Bool
  closes = closes_loop (connections ports edges) (get_or (connections ports edges) p no_connection).source (get_or (connections ports edges) p no_connection).destination

  closes-is : closes_loop (connections ports edges) (get_or (connections ports edges) p no_connection).source (get_or (connections ports edges) p no_connection).destination
      ≡ leads same_id_node (node_links ports edges) (node_with ports (edge_at edges p).destination) (node_with ports (edge_at edges p).source)
  closes-is = ap (λ (c : Connection). closes_loop (connections ports edges) c.source c.destination) at ∙ closes_edge-by_name ports edges named (edge_at edges p) here

  test : (leads same_id_node (node_links ports edges) (node_with ports (edge_at edges p).destination) (node_with ports (edge_at edges p).source) ≡ true)
      ↔ Leads (node_links ports edges) (node_with ports (edge_at edges p).destination) (node_with ports (edge_at edges p).source)
  test = leads-is_Leads same_id_node same_id_node-is same_id_node-self (node_links ports edges) (node_with ports (edge_at edges p).destination) (node_with ports (edge_at edges p).source)

  closes-leads : closes ≡ true → Leads (number_links table edges) (link_by table (edge_at edges p)).1 (link_by table (edge_at edges p)).0
  closes-leads h =
      let over : Leads (number_links table edges) (node_number (node_with ports (edge_at edges p).destination)) (node_number (node_with ports (edge_at edges p).source)) =
      Leads-numbers ports edges table (node_with ports (edge_at edges p).destination) (node_with ports (edge_at edges p).source) among held (test.0 (sym closes-is ∙ h)) in
      subst (λ n. Leads (number_links table edges) n (link_by table (edge_at edges p)).0) (sym to) (subst (Leads (number_links table edges) (node_number (node_with ports (edge_at edges p).destination))) (sym from) over)

  leads-closes : Leads (number_links table edges) (link_by table (edge_at edges p)).1 (link_by table (edge_at edges p)).0 → closes ≡ true
  leads-closes h =
      closes-is ∙ test.1 (Leads-nodes ports edges table (node_with ports (edge_at edges p).destination) (node_with ports (edge_at edges p).source) among held
      (subst (λ n. Leads (number_links table edges) n (node_number (node_with ports (edge_at edges p).source))) to (subst (Leads (number_links table edges) (link_by table (edge_at edges p)).1) from h)))

  mark-at : (get_or (connections ports edges) p no_connection).mark ≡ (edge_at edges p).mark
  mark-at = ap (λ (c : Connection). c.mark) at

  made : connections ports (with_direct p edges) ≡ set (connections ports edges) p (record (get_or (connections ports edges) p no_connection) { mark = Direct })
  made =
      map-set (connection ports) edges p (record (edge_at edges p) { mark = Direct })
      ∙ ap (λ (c : Connection). set (connections ports edges) p (record c { mark = Direct })) (sym at)

  -- a feedback edge that closes no loop is made direct
  pub step-direct : ClosesNone table edges (edge_at edges p)
      → remark_from (take p (connections ports edges)) (drop p (connections ports edges)) ≡ remark_from (take (p + 1) (connections ports (with_direct p edges))) (drop (p + 1) (connections ports (with_direct p edges)))
  step-direct h =
      remark-changed (connections ports edges) p no_connection (record (get_or (connections ports edges) p no_connection) { mark = Direct }) low
      (tested-marked (connections ports edges) p no_connection Direct low (ap is_direct mark-at ∙ h.0) (ap (λ b. cond b Feedback Direct) (not-true closes (λ c. h.1 (closes-leads c)))))
      ∙ ap (λ es. remark_from (take (p + 1) es) (drop (p + 1) es)) (sym made)

  -- another edge stays
  pub step-stays : (ClosesNone table edges (edge_at edges p) → ⊥)
      → remark_from (take p (connections ports edges)) (drop p (connections ports edges)) ≡ remark_from (take (p + 1) (connections ports edges)) (drop (p + 1) (connections ports edges))
  step-stays h = remark-stays (connections ports edges) p no_connection low (go (is_direct (edge_at edges p).mark) refl closes refl)
    where
      go : (b : Bool) → is_direct (edge_at edges p).mark ≡ b → (c : Bool) → closes ≡ c
          → tested_edge (take p (connections ports edges)) (get_or (connections ports edges) p no_connection) (drop (p + 1) (connections ports edges)) ≡ get_or (connections ports edges) p no_connection
      go true e c f = tested-direct (connections ports edges) p no_connection (ap is_direct mark-at ∙ e)
      go false e true f =
          tested-marked (connections ports edges) p no_connection Feedback low (ap is_direct mark-at ∙ e) (ap (λ b. cond b Feedback Direct) f)
          ∙ ap (λ m. let c : Connection = record (get_or (connections ports edges) p no_connection) { mark = m } in c) (feedback (get_or (connections ports edges) p no_connection).mark (ap is_direct mark-at ∙ e))
      go false e false f = absurd (h (e, λ l. true≢false (sym (leads-closes l) ∙ f)))

set-own : {X : Type 0} (xs : List X) (i : ℕ) (d : X) → set xs i (get_or xs i d) ≡ xs
set-own [] i d = refl
set-own (x ∷ xs) zero d = refl
set-own (x ∷ xs) (suc i) d = ap (λ ys. x ∷ ys) (set-own xs i d)

-- one mark changed leaves the ends
pub ends-direct : (edges : List Edge) (p : ℕ) → ends_by_id (with_direct p edges) ≡ ends_by_id edges
ends-direct edges p =
    map-set (λ (e : Edge). (e.source.0, e.destination.0)) edges p (record (edge_at edges p) { mark = Direct })
    ∙ sym (map-set (λ (e : Edge). (e.source.0, e.destination.0)) edges p (edge_at edges p))
    ∙ ap ends_by_id (set-own edges p no_edge)

pub same-length : (new old : List Edge) → ends_by_id new ≡ ends_by_id old → length new ≡ length old
same-length new old e =
    sym (length-map new (λ (e : Edge). (e.source.0, e.destination.0))) ∙ ap length e ∙ length-map old (λ (e : Edge). (e.source.0, e.destination.0))

-- a step of the loop, from the edges at its beginning
module _ (ports : List Port) (table : List ℕ) (initial old : List Edge) (p : ℕ) (within : p < length old) (among : AreAmong ports initial) (held : IsTable ports table) (same : ends_by_id old ≡ ends_by_id initial) (whole_marks : List Connection) where
  pub kept-direct : ClosesNone table old (edge_at old p)
      → (AreNamed ports initial → remark_from (take p (connections ports old)) (drop p (connections ports old)) ≡ whole_marks)
      → AreNamed ports initial → remark_from (take (p + 1) (connections ports (with_direct p old))) (drop (p + 1) (connections ports (with_direct p old))) ≡ whole_marks
  kept-direct h marks named = sym (step-direct ports table old p within (AreAmong-same old initial same ports among) (AreNamed-same old initial same ports named) held h) ∙ marks named

  pub kept-stays : (ClosesNone table old (edge_at old p) → ⊥)
      → (AreNamed ports initial → remark_from (take p (connections ports old)) (drop p (connections ports old)) ≡ whole_marks)
      → AreNamed ports initial → remark_from (take (p + 1) (connections ports old)) (drop (p + 1) (connections ports old)) ≡ whole_marks
  kept-stays h marks named = sym (step-stays ports table old p within (AreAmong-same old initial same ports among) (AreNamed-same old initial same ports named) held h) ∙ marks named
