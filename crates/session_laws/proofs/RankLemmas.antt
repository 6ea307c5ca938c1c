-- Where direct edges form no loop, clients have ranks that rise along them, each below the number of clients.
--     inner edges      the names of the clients that direct edges join, but for edges into the playback ports
--     rank names edges client      how many of the names lead to the client
--     IsOneSolution-cycle      so the values of each cycle are the one solution of its equations
use Rattle.std.proofs.Common.{◌≡◌, ℕ, suc, ◌^◌, ◌<◌, ◌≤◌, ◌⊎◌, inl, inr, Bool, true, false, cond, not, ◌&&◌, List, [], ◌∷◌, ◌++◌, length, map, filter, find, Contains, Option, Some, None, is_some, refl, sym, ◌∙◌, ap, subst, arith, true≢false}
use Rattle.std.specs.Prelude.{take, if◌then◌else◌}
use Rattle.std.specs.Str.{bytes_eq}
use Rattle.session_model.specs.jack_types.specs.Names.{client_part}
use Rattle.session_model.specs.Courses.{Course, graph, number, first_state}
use Rattle.session_model.specs.Cycles.{cycle}
use Rattle.session_model.specs.Loops.{IsPath, leads, direct_links}
use Rattle.session_model.specs.Replies.{AreLawful}
use Rattle.session_model.specs.State.{State, NamedNode, CaptureNode, PlaybackNode, ClientNode, OpenClient, Connection, is_direct, is_system, system_client}
use Rattle.session_laws.proofs.CycleLemmas.{bytes_same, filter-passes, find-passes, find-contains, IsOneSolution-signals}
use Rattle.session_laws.proofs.ListLemmas.{Each-contains, Contains-kept}
use Rattle.session_laws.proofs.LoopFreeLemmas.{HasNoLoop-replay, HasNoLoop-opening, contains-direct_links, filter-among}
use Rattle.session_laws.proofs.LoopLemmas.{and_parts, and_true, Contains-cases, IsPath-append, Leads-of_leads, leads-of_path}
use Rattle.session_laws.proofs.OpenLemmas.{client_names, IsOfOpen, BelongsToOpen-replay, BelongsToOpen-opening}
use Rattle.session_laws.proofs.PlanLemmas.{filter-fewer, IsSound-graph}
use Rattle.session_laws.proofs.SoundLemmas.{map-contains, contains-map, find-none}
use Rattle.session_laws.specs.LoopFree.{HasNoLoop}
use Rattle.session_laws.specs.Solutions.{Rises, IsOneSolution}
use lib.ListN.{length-map}
use lib.Pointwise.{bytes_decides}

bytes_self : (a : List ℕ) → bytes_eq a a ≡ true
bytes_self a = (bytes_decides a a).1 refl

abbrev is_inner : Connection → Bool
is_inner edge = is_direct edge.mark && not (is_system (client_part edge.destination))

abbrev pub joined : Connection → List ℕ × List ℕ
joined edge = (client_part edge.source, client_part edge.destination)

abbrev pub inner : List Connection → List (List ℕ × List ℕ)
inner edges = map joined (filter is_inner edges)

abbrev leads_to : List Connection → List ℕ → List ℕ → Bool
leads_to edges client other = leads bytes_eq (inner edges) other client && not (bytes_eq other client)

abbrev pub rank : List (List ℕ) → List Connection → List ℕ → ℕ
rank names edges client = length (filter (leads_to edges client) names)

-- as many of a list pass a test that is weaker, and more where one passes it that did not
module _ {X : Type 0} (p q : X → Bool) (weaker : (x : X) → p x ≡ true → q x ≡ true) where
  filter-le : (xs : List X) → length (filter p xs) ≤ length (filter q xs)
  filter-le [] = omega arith
  filter-le (x ∷ xs) = go (p x) (q x) refl refl (filter-le xs)
    where
      go : (b c : Bool) → p x ≡ b → q x ≡ c → length (filter p xs) ≤ length (filter q xs) → length (cond b (x ∷ filter p xs) (filter p xs)) ≤ length (cond c (x ∷ filter q xs) (filter q xs))
      go true true e f h = omega (arith, h)
      go true false e f h = absurd (true≢false (sym (weaker x e) ∙ f))
      go false true e f h = omega (arith, h)
      go false false e f h = h

  filter-less : (xs : List X) (a : X) → Contains xs a → p a ≡ false → q a ≡ true → length (filter p xs) < length (filter q xs)
  filter-less [] a m e f = absurd (none m.1)
    where
      none : {n : ℕ} → n < 0 → ⊥
      none h = omega arith
  filter-less (x ∷ xs) a m e f = go (p x) (q x) refl refl (Contains-cases x a xs m) (λ k. filter-less xs a k e f) (filter-le xs)
    where
      go : (b c : Bool) → p x ≡ b → q x ≡ c → (x ≡ a) ⊎ Contains xs a → (Contains xs a → length (filter p xs) < length (filter q xs)) → length (filter p xs) ≤ length (filter q xs)
          → length (cond b (x ∷ filter p xs) (filter p xs)) < length (cond c (x ∷ filter q xs) (filter q xs))
      go true c t u (inl s) rest most = absurd (true≢false (sym t ∙ ap p s ∙ e))
      go false false t u (inl s) rest most = absurd (true≢false (sym f ∙ ap q (sym s) ∙ u))
      go false true t u (inl s) rest most = omega (arith, most)
      go true true t u (inr k) rest most = let h : length (filter p xs) < length (filter q xs) = rest k in omega (arith, h)
      go true false t u (inr k) rest most = absurd (true≢false (sym (weaker x t) ∙ u))
      go false true t u (inr k) rest most = omega (arith, most)
      go false false t u (inr k) rest most = rest k

-- the node that a client's outputs go out from
abbrev node_of : List ℕ → NamedNode
node_of client = if is_system client then CaptureNode else ClientNode client

module _ (edges : List Connection) where
  -- an inner link stands for a direct edge whose destination is no playback port
  of_inner : (a b : List ℕ) → Contains (inner edges) (a, b) → (edge : Connection) × Contains edges edge × (is_inner edge ≡ true) × (joined edge ≡ (a, b))
  of_inner a b h =
      let w = contains-map joined (filter is_inner edges) (a, b) h in
      (w.0, filter-among is_inner edges w.0 w.1, passes w.0 w.1, w.2)
    where
      passes : (edge : Connection) → Contains (filter is_inner edges) edge → is_inner edge ≡ true
      passes edge m = filter-passes is_inner edges edge m

  inner-direct : (a b : List ℕ) → Contains (inner edges) (a, b) → Contains (direct_links edges) (node_of a, node_of b)
  inner-direct a b h =
      let w = of_inner a b h in
      let parts = and_parts (is_direct w.0.mark) (not (is_system (client_part w.0.destination))) w.2 in
      let plain : is_system (client_part w.0.destination) ≡ false = not_true (is_system (client_part w.0.destination)) parts.1 in
      let direct = contains-direct_links edges w.0 w.1 parts.0 in
      subst (λ (l : List ℕ × List ℕ). Contains (direct_links edges) (node_of l.0, node_of l.1)) w.3
      (subst (λ (node : NamedNode). Contains (direct_links edges) (node_of (client_part w.0.source), node)) (same_node_of (client_part w.0.destination) (is_system (client_part w.0.destination)) plain) direct)
    where
      same_node_of : (client : List ℕ) (b : Bool) → b ≡ false → cond b PlaybackNode (ClientNode client) ≡ cond b CaptureNode (ClientNode client)
      same_node_of client true h = absurd (true≢false h)
      same_node_of client false h = refl

      not_true : (b : Bool) → not b ≡ true → b ≡ false
      not_true false h = refl
      not_true true h = absurd (true≢false (sym h))

  path-direct : (a : List ℕ) (path : List (List ℕ)) (b : List ℕ) → IsPath (inner edges) a path b → IsPath (direct_links edges) (node_of a) (map node_of path) (node_of b)
  path-direct a [] b h = ap node_of h
  path-direct a (next ∷ path) b h = (inner-direct a next h.0, path-direct next path b h.1)

module _ (names : List (List ℕ)) (edges : List Connection) (free : HasNoLoop edges) (ends : (edge : Connection) → Contains edges edge → IsOfOpen names edge) where
  no_return : (a : List ℕ) (path : List (List ℕ)) (b : List ℕ) → IsPath (inner edges) a (path ++ b ∷ []) a → ⊥
  no_return a [] b h = free (node_of a) (node_of b) [] (path-direct edges a (b ∷ []) a h)
  no_return a (next ∷ path) b h = free (node_of a) (node_of next) (map node_of (path ++ b ∷ [])) (path-direct edges a (next ∷ path ++ b ∷ []) a h)

  -- what leads to a client leads on to what it feeds
  leads_to-more : (a b : List ℕ) → Contains (inner edges) (a, b) → (other : List ℕ) → leads_to edges a other ≡ true → leads_to edges b other ≡ true
  leads_to-more a b link other h =
      let parts = and_parts (leads bytes_eq (inner edges) other a) (not (bytes_eq other a)) h in
      let way = Leads-of_leads bytes_eq bytes_same bytes_self (inner edges) other a parts.0 in
      let longer : IsPath (inner edges) other (way.0 ++ b ∷ []) b = IsPath-append (inner edges) other way.0 a (b ∷ []) b way.1 (link, refl) in
      and_true (leads bytes_eq (inner edges) other b) (not (bytes_eq other b))
      (leads-of_path bytes_eq bytes_same bytes_self (inner edges) other (way.0 ++ b ∷ []) b longer)
      (apart (bytes_eq other b) refl way.0 longer)
    where
      apart : (c : Bool) → bytes_eq other b ≡ c → (path : List (List ℕ)) → IsPath (inner edges) other (path ++ b ∷ []) b → not c ≡ true
      apart false e path way = refl
      apart true e path way = absurd (no_return other path b (subst (λ x. IsPath (inner edges) other (path ++ b ∷ []) x) (sym (bytes_same other b e)) way))

  rank-rises : (a b : List ℕ) → Contains (inner edges) (a, b) → Contains names a → rank names edges a < rank names edges b
  rank-rises a b link here =
      filter-less (leads_to edges a) (leads_to edges b) (leads_to-more a b link) names a here
      (false_behind (leads bytes_eq (inner edges) a a) (bytes_eq a a) (bytes_self a))
      (and_true (leads bytes_eq (inner edges) a b) (not (bytes_eq a b)) (leads-of_path bytes_eq bytes_same bytes_self (inner edges) a (b ∷ []) b (link, refl)) (apart (bytes_eq a b) refl))
    where
      false_behind : (p q : Bool) → q ≡ true → (p && not q) ≡ false
      false_behind true true h = refl
      false_behind false true h = refl
      false_behind p false h = absurd (true≢false (sym h))

      apart : (c : Bool) → bytes_eq a b ≡ c → not c ≡ true
      apart false e = refl
      apart true e = absurd (no_return a [] b (link, sym (bytes_same a b e)))

  -- what is led to over a link is a client that is there
  led-there : (a next : List ℕ) (path : List (List ℕ)) (b : List ℕ) → IsPath (inner edges) a (next ∷ path) b → Contains names b
  led-there a next [] b h =
      let w = of_inner edges a next h.0 in
      subst (λ x. Contains names x) (ap (λ (l : List ℕ × List ℕ). l.1) w.3 ∙ h.1) (ends w.0 w.1).1
  led-there a next (other ∷ path) b h = led-there next other path b h.1

  rank-below : (first : List ℕ) → Contains names first → (client : List ℕ) → rank names edges client < length names
  rank-below first here client = go (find (λ x. bytes_eq x client) names) refl
    where
      itself : (x : List ℕ) → bytes_eq x client ≡ true → leads_to edges client x ≡ false
      itself x e = behind (leads bytes_eq (inner edges) x client) (bytes_eq x client) e
        where
          behind : (p q : Bool) → q ≡ true → (p && not q) ≡ false
          behind true true h = refl
          behind false true h = refl
          behind p false h = absurd (true≢false (sym h))

      not_there : find (λ x. bytes_eq x client) names ≡ None → leads_to edges client first ≡ false
      not_there e = at (leads_to edges client first) refl
        where
          walked : (path : List (List ℕ)) → IsPath (inner edges) first path client → not (bytes_eq first client) ≡ true → ⊥
          walked [] h k = true≢false (sym k ∙ ap not (subst (λ x. bytes_eq first x ≡ true) h (bytes_self first)))
          walked (next ∷ path) h k = find-none (λ x. bytes_eq x client) names client (ap is_some e) (led-there first next path client h) (bytes_self client)

          at : (b : Bool) → leads_to edges client first ≡ b → leads_to edges client first ≡ false
          at false h = h
          at true h =
              let parts = and_parts (leads bytes_eq (inner edges) first client) (not (bytes_eq first client)) h in
              let way = Leads-of_leads bytes_eq bytes_same bytes_self (inner edges) first client parts.0 in
              absurd (walked way.0 way.1 parts.1)

      go : (found : Option (List ℕ)) → find (λ x. bytes_eq x client) names ≡ found → rank names edges client < length names
      go (Some x) e = filter-fewer (leads_to edges client) names x (find-contains (λ x. bytes_eq x client) names x e) (itself x (find-passes (λ x. bytes_eq x client) names x e))
      go None e = filter-fewer (leads_to edges client) names first here (not_there e)

-- the values of each cycle are the one solution of its equations
pub IsOneSolution-cycle : (course : Course) (k : ℕ) → course.script.header.capture < 2 ^ 63 → course.script.header.playback < 2 ^ 63 → AreLawful (first_state course) course.changes
    → number course (suc k) ≤ length course.changes → IsOneSolution course (cycle course (suc k)).settled (cycle course (suc k)).now
IsOneSolution-cycle course k capture playback lawful within =
    IsOneSolution-signals course (cycle course (suc k)).settled (rank names state.edges) rises (length state.clients) (λ port. below (client_part port))
  where
    state : State
    state = graph course (suc k)

    names : List (List ℕ)
    names = client_names state.clients

    free : HasNoLoop state.edges
    free = HasNoLoop-replay (first_state course) (take (number course (suc k)) course.changes) (HasNoLoop-opening course.script.header.capture course.script.header.playback)

    open_ends : (edge : Connection) → Contains state.edges edge → IsOfOpen names edge
    open_ends edge m =
        Each-contains (IsOfOpen names) state.edges edge
        (BelongsToOpen-replay (first_state course) (take (number course (suc k)) course.changes) (BelongsToOpen-opening course.script.header.capture course.script.header.playback)).edges m

    here : Contains names system_client.name
    here = map-contains (λ (client : OpenClient). client.name) state.clients system_client (IsSound-graph course (suc k) capture playback lawful within).system

    below : (client : List ℕ) → rank names state.edges client < length state.clients
    below client = subst (λ n. rank names state.edges client < n) (length-map state.clients (λ (c : OpenClient). c.name)) (rank-below names state.edges free open_ends system_client.name here client)

    rises : Rises (rank names state.edges) state
    rises edge m direct apart =
        rank-rises names state.edges free open_ends (client_part edge.source) (client_part edge.destination)
        (map-contains joined (filter is_inner state.edges) edge (Contains-kept is_inner state.edges edge (and_true (is_direct edge.mark) (not (is_system (client_part edge.destination))) (ap is_direct direct) (ap not apart)) m))
        (open_ends edge m).0
