-- The nodes of a layout are the players in another order, and its links go upward.
--     IsPermutation-ordered      the order takes nobody away, and adds nobody
--     AreLinks-laid_out      where direct edges form no loop, the links are distinct and go upward
--     joins_edges      the links are those of the direct edges between nodes, and no others
use Rattle.std.proofs.Common.{◌≡◌, ℕ, zero, suc, ◌<◌, Bool, true, false, cond, ◌||◌, ◌==◌, ◌↔◌, ◌⊎◌, inl, inr, List, [], ◌∷◌, ◌++◌, length, filter, filter_map, fold, get_or, Contains, IsPermutation, Option, Some, None, refl, sym, ◌∙◌, ap, ap₂, subst, arith, true≢false, eq-eqb, eqb-true, append-nil, append_assoc}
use Rattle.std.specs.List.{cons_option, list_any}
use Rattle.std.proofs.lemmas.Bool.{cases_order}
use Rattle.std.proofs.lemmas.List.{get_or_default}
use Rattle.std.proofs.lemmas.List.Quantifiers.{position-Some}
use Rattle.std.proofs.lemmas.List.Sorted.{IsPermutation-refl, IsPermutation-cons, IsPermutation-middle, IsPermutation-trans, IsPermutation-push_more, IsPermutation-sym}
use Rattle.graph_word.specs.jack_types.specs.declared.ports.Client.{Client}
use Rattle.graph_word.specs.jack_types.specs.declared.ports.Edge.{Edge}
use Rattle.graph_word.specs.jack_types.specs.declared.ports.Link.{Link}
use Rattle.graph_word.specs.jack_types.specs.declared.ports.Node.{Node}
use Rattle.graph_word.specs.jack_types.specs.declared.ports.Node.TheVariants.{Capture, Playback, Client as ClientNode}
use Rattle.graph_word.specs.jack_types.specs.declared.ports.Port.{Port}
use Rattle.graph_word.specs.session_model.specs.Activation.{AreLinks}
use Rattle.graph_word.specs.session_model.specs.Ids.{node_links, node_with, same_id_node}
use Rattle.graph_word.specs.session_model.specs.Loops.{IsPath, Leads}
use Rattle.graph_word.specs.session_model.specs.Soundness.{Apart}
use Rattle.graph_word.specs.session_model.specs.State.{is_direct}
use Rattle.port_registry.specs.session_laws.proofs.LoopLemmas.{Contains-first, Contains-later, Contains-cases, IsPath-append, and_parts, and_true, or_cases, or_left, or_right, leads-is_Leads}
use Rattle.port_registry.specs.session_laws.proofs.LoopFreeLemmas.{Contains-append_cases, Contains-append_left, Contains-append_right}
use Rattle.port_registry.specs.session_laws.proofs.ListLemmas.{Each, Ordered, Ordered-append, Each-contains, Each-from_contains, Contains-kept}
use Rattle.port_registry.specs.session_laws.proofs.SoundLemmas.{Apart-filter, map-contains}
use Rattle.port_registry.specs.session_laws.specs.LoopFree.{IsLoopFree}
use Rattle.feedback_edges.proofs.NameLemmas.{same_id_node-is, same_id_node-self}
use Rattle.cycle_plan.specs.Layouts.{is_player, with_node, ordered, leads_to, place_of, link_between, link_of, same_link, with_link, distinct, JoinsEdges}
use Rattle.cycle_plan.proofs.NodeLemmas.{no_client}

none_below : {n : ℕ} → n < 0 → ⊥
none_below p = omega arith

module _ {Y : Type 0} (lead : Y → Y → Bool) where
  with-permuted : (client : Y) (nodes : List Y) → IsPermutation (client ∷ nodes) (with_node lead client nodes)
  with-permuted client [] = IsPermutation-refl (client ∷ [])
  with-permuted client (node ∷ nodes) = go (lead client node) (with-permuted client nodes)
    where
      swapped : IsPermutation (client ∷ node ∷ nodes) (node ∷ client ∷ nodes)
      swapped = IsPermutation-sym (node ∷ client ∷ nodes) (client ∷ node ∷ nodes) (IsPermutation-middle (node ∷ []) client nodes)

      go : (b : Bool) → IsPermutation (client ∷ nodes) (with_node lead client nodes) → IsPermutation (client ∷ node ∷ nodes) (cond b (client ∷ node ∷ nodes) (node ∷ with_node lead client nodes))
      go true rest = IsPermutation-refl (client ∷ node ∷ nodes)
      go false rest = IsPermutation-trans (client ∷ node ∷ nodes) (node ∷ client ∷ nodes) (node ∷ with_node lead client nodes) swapped (IsPermutation-cons node (client ∷ nodes) (with_node lead client nodes) rest)

  fold-permuted : (done nodes clients : List Y) → IsPermutation done nodes → IsPermutation (done ++ clients) (fold (λ ns client. with_node lead client ns) nodes clients)
  fold-permuted done nodes [] h = subst (λ xs. IsPermutation xs nodes) (sym (append-nil done)) h
  fold-permuted done nodes (client ∷ clients) h =
      subst (λ xs. IsPermutation xs (fold (λ ns c. with_node lead c ns) (with_node lead client nodes) clients)) (append_assoc done (client ∷ []) clients)
      (fold-permuted (done ++ client ∷ []) (with_node lead client nodes) clients (IsPermutation-push_more done nodes (with_node lead client nodes) client h (with-permuted client nodes)))

  pub IsPermutation-ordered : (clients : List Y) → IsPermutation clients (ordered lead clients)
  IsPermutation-ordered clients = fold-permuted [] [] clients (IsPermutation-refl [])

  -- nobody leads to one before it
  abbrev Before : Y → Y → Type 0
  Before a b = lead b a ≡ false

  Each-with_node : (P : Y → Type 0) (client : Y) (nodes : List Y) → P client → Each P nodes → Each P (with_node lead client nodes)
  Each-with_node P client [] p h = (p, tt)
  Each-with_node P client (node ∷ nodes) p h = go (lead client node) (Each-with_node P client nodes p h.1)
    where
      go : (b : Bool) → Each P (with_node lead client nodes) → Each P (cond b (client ∷ node ∷ nodes) (node ∷ with_node lead client nodes))
      go true rest = (p, h)
      go false rest = (h.0, rest)

  module _ (through : (a b c : Y) → lead a b ≡ true → lead b c ≡ true → lead a c ≡ true) where
    Ordered-with_node : (client : Y) (nodes : List Y) → Ordered Before nodes → ((node : Y) → Contains nodes node → lead client node ≡ true → lead node client ≡ false) → Ordered Before (with_node lead client nodes)
    Ordered-with_node client [] h one_way = (tt, tt)
    Ordered-with_node client (node ∷ nodes) h one_way = go (lead client node) refl (Ordered-with_node client nodes h.1 (λ n m. one_way n (Contains-later node n nodes m)))
      where
        not-true : (b : Bool) → (b ≡ true → ⊥) → b ≡ false
        not-true true f = absurd (f refl)
        not-true false f = refl

        later : lead client node ≡ true → (other : Y) → Contains nodes other → lead other client ≡ false
        later e other m = not-true (lead other client) (λ t. true≢false (sym (through other client node t e) ∙ Each-contains (λ b. lead b node ≡ false) nodes other h.0 m))

        go : (b : Bool) → lead client node ≡ b → Ordered Before (with_node lead client nodes) → Ordered Before (cond b (client ∷ node ∷ nodes) (node ∷ with_node lead client nodes))
        go true e rest = ((one_way node (Contains-first node nodes) e, Each-from_contains (λ b. lead b client ≡ false) nodes (later e)), h)
        go false e rest = (Each-with_node (λ b. lead b node ≡ false) client nodes e h.0, rest)

    -- clients of which no two lead to each other
    abbrev OneWay : List Y → List Y → Type 0
    OneWay nodes clients = (node client : Y) → Contains nodes node → Contains clients client → lead client node ≡ true → lead node client ≡ false

    Contains-with_node : (client : Y) (nodes : List Y) (x : Y) → Contains (with_node lead client nodes) x → (client ≡ x) ⊎ Contains nodes x
    Contains-with_node client nodes x m = Each-contains (λ y. (client ≡ y) ⊎ Contains nodes y) (with_node lead client nodes) x
        (Each-with_node (λ y. (client ≡ y) ⊎ Contains nodes y) client nodes (inl refl) (Each-from_contains (λ y. (client ≡ y) ⊎ Contains nodes y) nodes (λ y k. inr k))) m

    fold-ordered : (nodes clients : List Y) → Ordered Before nodes → OneWay nodes clients → Ordered (λ a b. lead b a ≡ true → lead a b ≡ false) clients
        → Ordered Before (fold (λ ns client. with_node lead client ns) nodes clients)
    fold-ordered nodes [] h one_way pairs = h
    fold-ordered nodes (client ∷ clients) h one_way pairs =
        fold-ordered (with_node lead client nodes) clients
        (Ordered-with_node client nodes h (λ node m e. one_way node client m (Contains-first client clients) e))
        (λ node other m k e. go node other k e (Contains-with_node client nodes node m))
        pairs.1
      where
        go : (node other : Y) → Contains clients other → lead other node ≡ true → (client ≡ node) ⊎ Contains nodes node → lead node other ≡ false
        go node other k e (inl same) =
            let first : lead other client ≡ true → lead client other ≡ false = Each-contains (λ b. lead b client ≡ true → lead client b ≡ false) clients other pairs.0 k in
            subst (λ x. lead other x ≡ true → lead x other ≡ false) same first e
        go node other k e (inr m) = one_way node other m (Contains-later client other clients k) e

    pub Ordered-ordered : (clients : List Y) → Ordered (λ a b. lead b a ≡ true → lead a b ≡ false) clients → Ordered Before (ordered lead clients)
    Ordered-ordered clients pairs = fold-ordered [] clients tt (λ node client m k e. absurd (none_below m.1)) pairs

Ordered-at : {X : Type 0} (R : X → X → Type 0) (xs : List X) (i j : ℕ) (d : X) → Ordered R xs → i < j → j < length xs → R (get_or xs i d) (get_or xs j d)
Ordered-at R [] i j d h p q = absurd (none_below q)
Ordered-at R (x ∷ xs) i zero d h p q = absurd (none_below p)
Ordered-at R (x ∷ xs) zero (suc j) d h p q =
    Each-contains (R x) xs (get_or xs j d) h.0 (j, omega (arith, q), get_or_default xs j (get_or xs j d) d (omega (arith, q)))
Ordered-at R (x ∷ xs) (suc i) (suc j) d h p q = Ordered-at R xs i j d h.1 (omega (arith, p)) (omega (arith, q))

-- each link is kept once
same_link-is : (a b : Link) → same_link a b ≡ true → a ≡ b
same_link-is a b h =
    let both = and_parts (a.from == b.from) (a.to == b.to) h in
    let made : ℕ → ℕ → Link = λ (from to : ℕ). record { from = from; to = to } in
    ap₂ made (eqb-true a.from b.from both.0) (eqb-true a.to b.to both.1)

same_link-self : (a : Link) → same_link a a ≡ true
same_link-self a = and_true (a.from == a.from) (a.to == a.to) (eq-eqb a.from a.from refl) (eq-eqb a.to a.to refl)

any-contains : (test : Link → Bool) (links : List Link) → list_any test links ≡ true → (x : Link) × Contains links x × (test x ≡ true)
any-contains test [] h = absurd (true≢false (sym h))
any-contains test (link ∷ links) h = go (or_cases (test link) (list_any test links) h) (any-contains test links)
  where
    go : (test link ≡ true) ⊎ (list_any test links ≡ true) → (list_any test links ≡ true → (x : Link) × Contains links x × (test x ≡ true)) → (x : Link) × Contains (link ∷ links) x × (test x ≡ true)
    go (inl p) rest = (link, Contains-first link links, p)
    go (inr p) rest = let w = rest p in (w.0, Contains-later link w.0 links w.1, w.2)

contains-any : (test : Link → Bool) (links : List Link) (x : Link) → Contains links x → test x ≡ true → list_any test links ≡ true
contains-any test [] x m t = absurd (none_below m.1)
contains-any test (link ∷ links) x m t = go (Contains-cases link x links m) (λ k. contains-any test links x k t)
  where
    go : (link ≡ x) ⊎ Contains links x → (Contains links x → list_any test links ≡ true) → (test link || list_any test links) ≡ true
    go (inl e) rest = or_left (test link) (list_any test links) (ap test e ∙ t)
    go (inr k) rest = or_right (test link) (list_any test links) (rest k)

with_link-contains : (links : List Link) (link x : Link) → Contains (with_link links link) x → Contains links x ⊎ (link ≡ x)
with_link-contains links link x = go (list_any (same_link link) links)
  where
    one : Contains links x ⊎ Contains (link ∷ []) x → Contains links x ⊎ (link ≡ x)
    one (inl m) = inl m
    one (inr m) = last (Contains-cases link x [] m)
      where
        last : (link ≡ x) ⊎ Contains [] x → Contains links x ⊎ (link ≡ x)
        last (inl e) = inr e
        last (inr k) = absurd (none_below k.1)

    go : (b : Bool) → Contains (cond b links (links ++ link ∷ [])) x → Contains links x ⊎ (link ≡ x)
    go true m = inl m
    go false m = one (Contains-append_cases links (link ∷ []) x m)

contains-with_link : (links : List Link) (link x : Link) → Contains links x → Contains (with_link links link) x
contains-with_link links link x m = go (list_any (same_link link) links)
  where
    go : (b : Bool) → Contains (cond b links (links ++ link ∷ [])) x
    go true = m
    go false = Contains-append_left links (link ∷ []) x m

with_link-own : (links : List Link) (link : Link) → Contains (with_link links link) link
with_link-own links link = go (list_any (same_link link) links) refl
  where
    go : (b : Bool) → list_any (same_link link) links ≡ b → Contains (cond b links (links ++ link ∷ [])) link
    go true e = let w = any-contains (same_link link) links e in subst (λ x. Contains links x) (sym (same_link-is link w.0 w.2)) w.1
    go false e = Contains-append_right links (link ∷ []) link (Contains-first link [])

fold-contains : (links more : List Link) (x : Link) → Contains (fold with_link links more) x → Contains links x ⊎ Contains more x
fold-contains links [] x m = inl m
fold-contains links (link ∷ more) x m = go (fold-contains (with_link links link) more x m)
  where
    two : Contains links x ⊎ (link ≡ x) → Contains links x ⊎ Contains (link ∷ more) x
    two (inl k) = inl k
    two (inr e) = inr (subst (λ y. Contains (link ∷ more) y) e (Contains-first link more))

    go : Contains (with_link links link) x ⊎ Contains more x → Contains links x ⊎ Contains (link ∷ more) x
    go (inl k) = two (with_link-contains links link x k)
    go (inr k) = inr (Contains-later link x more k)

contains-fold : (links more : List Link) (x : Link) → Contains links x → Contains (fold with_link links more) x
contains-fold links [] x m = m
contains-fold links (link ∷ more) x m = contains-fold (with_link links link) more x (contains-with_link links link x m)

more-fold : (links more : List Link) (x : Link) → Contains more x → Contains (fold with_link links more) x
more-fold links [] x m = absurd (none_below m.1)
more-fold links (link ∷ more) x m = go (Contains-cases link x more m) (λ k. more-fold (with_link links link) more x k)
  where
    go : (link ≡ x) ⊎ Contains more x → (Contains more x → Contains (fold with_link (with_link links link) more) x) → Contains (fold with_link (with_link links link) more) x
    go (inl e) rest = subst (λ y. Contains (fold with_link (with_link links link) more) y) e (contains-fold (with_link links link) more link (with_link-own links link))
    go (inr k) rest = rest k

abbrev Unlike : Link → Link → Type 0
Unlike a b = a ≡ b → ⊥

Ordered-with_link : (links : List Link) (link : Link) → Ordered Unlike links → Ordered Unlike (with_link links link)
Ordered-with_link links link h = go (list_any (same_link link) links) refl
  where
    go : (b : Bool) → list_any (same_link link) links ≡ b → Ordered Unlike (cond b links (links ++ link ∷ []))
    go true e = h
    go false e =
        Ordered-append Unlike (λ x. Contains links x) (λ y. link ≡ y)
        (λ x y m same together. true≢false (sym (contains-any (same_link link) links x m (subst (λ z. same_link link z ≡ true) (same ∙ sym together) (same_link-self link))) ∙ e))
        links (link ∷ []) h (Each-from_contains (λ x. Contains links x) links (λ x m. m)) (tt, tt) (refl, tt)

Ordered-fold : (links more : List Link) → Ordered Unlike links → Ordered Unlike (fold with_link links more)
Ordered-fold links [] h = h
Ordered-fold links (link ∷ more) h = Ordered-fold (with_link links link) more (Ordered-with_link links link h)

-- what a filtered map has
filter_map-contains : (made : Edge → Option Link) (edges : List Edge) (x : Link) → Contains (filter_map made edges) x → (edge : Edge) × Contains edges edge × (made edge ≡ Some x)
filter_map-contains made [] x m = absurd (none_below m.1)
filter_map-contains made (edge ∷ edges) x m = go (made edge) refl m (filter_map-contains made edges x)
  where
    later : ((e : Edge) × Contains edges e × (made e ≡ Some x)) → (e : Edge) × Contains (edge ∷ edges) e × (made e ≡ Some x)
    later w = (w.0, Contains-later edge w.0 edges w.1, w.2)

    here : (link : Link) → made edge ≡ Some link → (link ≡ x) ⊎ Contains (filter_map made edges) x → (Contains (filter_map made edges) x → (e : Edge) × Contains edges e × (made e ≡ Some x)) → (e : Edge) × Contains (edge ∷ edges) e × (made e ≡ Some x)
    here link e (inl same) rest = (edge, Contains-first edge edges, e ∙ ap Some same)
    here link e (inr k) rest = later (rest k)

    go : (o : Option Link) → made edge ≡ o → Contains (cons_option o (filter_map made edges)) x → (Contains (filter_map made edges) x → (e : Edge) × Contains edges e × (made e ≡ Some x)) → (e : Edge) × Contains (edge ∷ edges) e × (made e ≡ Some x)
    go None e k rest = later (rest k)
    go (Some link) e k rest = here link e (Contains-cases link x (filter_map made edges) k) rest

contains-filter_map : (made : Edge → Option Link) (edges : List Edge) (edge : Edge) (x : Link) → Contains edges edge → made edge ≡ Some x → Contains (filter_map made edges) x
contains-filter_map made [] edge x m e = absurd (none_below m.1)
contains-filter_map made (first ∷ edges) edge x m e = go (Contains-cases first edge edges m) (made first) refl (λ k. contains-filter_map made edges edge x k e)
  where
    go : (first ≡ edge) ⊎ Contains edges edge → (o : Option Link) → made first ≡ o → (Contains edges edge → Contains (filter_map made edges) x) → Contains (cons_option o (filter_map made edges)) x
    go (inl same) None f rest = let no-link : None ≡ Some x = sym f ∙ ap made same ∙ e in cc
    go (inl same) (Some link) f rest = subst (λ y. Contains (y ∷ filter_map made edges) x) (some-one x link (sym e ∙ sym (ap made same) ∙ f)) (Contains-first x (filter_map made edges))
      where
        some-one : (a b : Link) → Some a ≡ Some b → a ≡ b
        some-one a b p = cc
    go (inr k) None f rest = rest k
    go (inr k) (Some link) f rest = Contains-later link x (filter_map made edges) (rest k)

pub joins_edges : (ports : List Port) (nodes : List Client) (edges : List Edge) (links : List Link) → links ≡ distinct (filter_map (link_of ports nodes) edges) → JoinsEdges ports nodes edges links
joins_edges ports nodes edges links made link = (
  λ m. filter_map-contains (link_of ports nodes) edges link (from_fold (fold-contains [] (filter_map (link_of ports nodes) edges) link (subst (λ ls. Contains ls link) made m))),
  λ w. subst (λ ls. Contains ls link) (sym made) (more-fold [] (filter_map (link_of ports nodes) edges) link (contains-filter_map (link_of ports nodes) edges w.0 link w.1 w.2)),
)
  where
    from_fold : Contains [] link ⊎ Contains (filter_map (link_of ports nodes) edges) link → Contains (filter_map (link_of ports nodes) edges) link
    from_fold (inl k) = absurd (none_below k.1)
    from_fold (inr k) = k

place-node : (nodes : List Client) (node : Node) (a : ℕ) (d : Client) → place_of nodes node ≡ Some a → (a < length nodes) × (node ≡ ClientNode (get_or nodes a d).id)
place-node nodes Capture a d e = cc
place-node nodes Playback a d e = cc
place-node nodes (ClientNode id) a d e =
    let w = position-Some (λ (client : Client). client.id.0 == id.0) nodes a d e in
    (w.0, ap (λ n. ClientNode (record { 0 = n })) (sym (eqb-true (get_or nodes a d).id.0 id.0 w.1)))

-- the two places of an edge's link
ends-of : (ports : List Port) (nodes : List Client) (edge : Edge) (link : Link) → link_of ports nodes edge ≡ Some link
    → (is_direct edge.mark ≡ true) × (place_of nodes (node_with ports edge.source) ≡ Some link.from) × (place_of nodes (node_with ports edge.destination) ≡ Some link.to)
ends-of ports nodes edge link = go (is_direct edge.mark) (place_of nodes (node_with ports edge.source)) (place_of nodes (node_with ports edge.destination))
  where
    some-from : (a b : ℕ) → (let l : Option Link = Some (record { from = a; to = b }) in l) ≡ Some link → (Some a ≡ Some link.from) × (Some b ≡ Some link.to)
    some-from a b e =
        let same : (let l : Link = record { from = a; to = b } in l) ≡ link = cc in
        (ap (λ (l : Link). Some l.from) same, ap (λ (l : Link). Some l.to) same)

    go : (direct : Bool) (from to : Option ℕ) → cond direct (link_between from to) None ≡ Some link → (direct ≡ true) × (from ≡ Some link.from) × (to ≡ Some link.to)
    go false from to e = cc
    go true None to e = cc
    go true (Some a) None e = cc
    go true (Some a) (Some b) e = let w = some-from a b e in (refl, w.0, w.1)

module _ (ports : List Port) (edges : List Edge) where
  decides : (a b : Client) → (leads_to ports edges a b ≡ true) ↔ Leads (node_links ports edges) (ClientNode a.id) (ClientNode b.id)
  decides a b = leads-is_Leads same_id_node same_id_node-is same_id_node-self (node_links ports edges) (ClientNode a.id) (ClientNode b.id)

  through : (a b c : Client) → leads_to ports edges a b ≡ true → leads_to ports edges b c ≡ true → leads_to ports edges a c ≡ true
  through a b c p q =
      let u = (decides a b).0 p in
      let v = (decides b c).0 q in
      (decides a c).1 (u.0 ++ v.0, IsPath-append (node_links ports edges) (ClientNode a.id) u.0 (ClientNode b.id) v.0 (ClientNode c.id) u.1 v.1)

  module _ (free : IsLoopFree (node_links ports edges)) where
    one_way : (a b : Client) → (a.id.0 ≡ b.id.0 → ⊥) → leads_to ports edges b a ≡ true → leads_to ports edges a b ≡ false
    one_way a b apart p = not-true (leads_to ports edges a b) (λ q. go ((decides a b).0 q).0 ((decides a b).0 q).1)
      where
        not-true : (t : Bool) → (t ≡ true → ⊥) → t ≡ false
        not-true true f = absurd (f refl)
        not-true false f = refl

        back : Leads (node_links ports edges) (ClientNode b.id) (ClientNode a.id)
        back = (decides b a).0 p

        id_of : Node → ℕ
        id_of Capture = 0
        id_of Playback = 0
        id_of (ClientNode id) = id.0

        go : (path : List Node) → IsPath (node_links ports edges) (ClientNode a.id) path (ClientNode b.id) → ⊥
        go [] h = apart (ap id_of h)
        go (next ∷ path) h = free (ClientNode a.id) next (path ++ back.0) (IsPath-append (node_links ports edges) (ClientNode a.id) (next ∷ path) (ClientNode b.id) back.0 (ClientNode a.id) h back.1)

    pairs : (clients : List Client) → Apart (λ (client : Client). client.id.0) clients → Ordered (λ a b. leads_to ports edges b a ≡ true → leads_to ports edges a b ≡ false) clients
    pairs [] h = tt
    pairs (client ∷ clients) h =
        (Each-from_contains (λ b. leads_to ports edges b client ≡ true → leads_to ports edges client b ≡ false) clients (λ b m. one_way client b (h.0 b m)), pairs clients h.1)

    -- a direct edge between two nodes goes upward
    rises : (nodes : List Client) (a b : ℕ) (d : Client) → Ordered (λ x y. leads_to ports edges y x ≡ false) nodes → a < length nodes → b < length nodes
        → Contains (node_links ports edges) (ClientNode (get_or nodes a d).id, ClientNode (get_or nodes b d).id) → a < b
    rises nodes a b d h p q m = go (cases_order a b)
      where
        lead : leads_to ports edges (get_or nodes a d) (get_or nodes b d) ≡ true
        lead = (decides (get_or nodes a d) (get_or nodes b d)).1 (ClientNode (get_or nodes b d).id ∷ [], (m, refl))

        go : (a ≡ b) ⊎ ((a < b) ⊎ (b < a)) → a < b
        go (inl e) = absurd (free (ClientNode (get_or nodes a d).id) (ClientNode (get_or nodes b d).id) [] (m, ap (λ k. ClientNode (get_or nodes k d).id) (sym e)))
        go (inr (inl less)) = less
        go (inr (inr more)) = absurd (true≢false (sym lead ∙ Ordered-at (λ x y. leads_to ports edges y x ≡ false) nodes b a d h more p))

    pub AreLinks-laid_out : (clients nodes : List Client) (links : List Link) → Apart (λ (client : Client). client.id.0) clients
        → nodes ≡ ordered (leads_to ports edges) (filter is_player clients) → links ≡ distinct (filter_map (link_of ports nodes) edges) → AreLinks (length nodes) links
    AreLinks-laid_out clients nodes links apart placed made = record {
      upward = λ k d h. (at k d h).0;
      within = λ k d h. (at k d h).1;
      distinct = λ i j d p q. Ordered-at Unlike links i j d (subst (Ordered Unlike) (sym made) (Ordered-fold [] (filter_map (link_of ports nodes) edges) tt)) p q;
    }
      where
        in_order : Ordered (λ x y. leads_to ports edges y x ≡ false) nodes
        in_order = subst (Ordered (λ x y. leads_to ports edges y x ≡ false)) (sym placed)
            (Ordered-ordered (leads_to ports edges) through (filter is_player clients) (pairs (filter is_player clients) (Apart-filter (λ (client : Client). client.id.0) is_player clients apart)))

        at : (k : ℕ) (d : Link) → k < length links → ((get_or links k d).from < (get_or links k d).to) × ((get_or links k d).to < length nodes)
        at k d h =
            let w = (joins_edges ports nodes edges links made (get_or links k d)).0 (k, h, get_or_default links k (get_or links k d) d h) in
            let e = ends-of ports nodes w.0 (get_or links k d) w.2 in
            let from = place-node nodes (node_with ports (w.0).source) (get_or links k d).from no_client e.1 in
            let to = place-node nodes (node_with ports (w.0).destination) (get_or links k d).to no_client e.2 in
            let link : Contains (node_links ports edges) (node_with ports (w.0).source, node_with ports (w.0).destination) =
            map-contains (λ (edge : Edge). (node_with ports edge.source, node_with ports edge.destination)) (filter (λ (edge : Edge). is_direct edge.mark) edges) w.0
            (Contains-kept (λ (edge : Edge). is_direct edge.mark) edges w.0 e.0 w.1) in (
              rises nodes (get_or links k d).from (get_or links k d).to no_client in_order from.0 to.0
                  (subst (λ n. Contains (node_links ports edges) (n, ClientNode (get_or nodes (get_or links k d).to no_client).id)) from.1
                  (subst (λ n. Contains (node_links ports edges) (node_with ports (w.0).source, n)) to.1 link)),
              to.0,
            )
