-- Direct edges never form a loop.
--     IsLoopFree links      no list of nodes leads from a node to itself, but for the empty one
--     HasNoLoop-replay      so it is of the direct edges of each state that changes led to
use Rattle.std.proofs.Common.{◌≡◌, ℕ, ◌<◌, Bool, true, false, cond, ◌&&◌, ◌⊎◌, inl, inr, List, [], ◌∷◌, ◌++◌, length, map, filter, Contains, is_none, nat_lt, refl, sym, ◌∙◌, ap, subst, arith, true≢false, append-nil}
use Rattle.session_model.specs.jack_types.specs.declared.commands.Change.{Change}
use Rattle.session_model.specs.jack_types.specs.declared.commands.Command.{Command}
use Rattle.session_model.specs.jack_types.specs.declared.commands.Command.TheVariants.{Open, Close, Activate, Deactivate, Register, Unregister, Connect, Disconnect, Start, Stop, Locate, Timeout, Slow, Timebase, TimebaseIf, Release, Latency}
use Rattle.session_model.specs.jack_types.specs.declared.ports.Mark.TheVariants.{Direct, Feedback}
use Rattle.session_model.specs.Commands.{effect, after, replay, edges_left, refusal}
use Rattle.session_model.specs.Loops.{IsPath, leads, direct_links, closes_loop, mark_of, tested_edge, remark_from, remark}
use Rattle.session_model.specs.State.{State, NamedNode, CaptureNode, PlaybackNode, ClientNode, same_node, Connection, source_node, destination_node, is_direct, opening}
use Rattle.session_laws.proofs.LoopLemmas.{or_cases, and_parts, Contains-later, Contains-first, Contains-cases, IsPath-append, Leads-of_leads, leads-of_path}
use lib.Pointwise.{bytes_decides}
pub use Rattle.session_laws.specs.LoopFree.{IsLoopFree, HasNoLoop}

-- links among others
abbrev pub AreAmong : {X : Type 0} → List X → List X → Type 0
AreAmong {X} xs ys = (x : X) → Contains xs x → Contains ys x

module _ {N : Type 0} where
  pub IsPath-among : (links others : List (N × N)) → AreAmong links others → (a : N) (path : List N) (b : N) → IsPath links a path b → IsPath others a path b
  IsPath-among links others among a [] b h = h
  IsPath-among links others among a (next ∷ path) b h = (among (a, next) h.0, IsPath-among links others among next path b h.1)

  pub IsLoopFree-among : (links others : List (N × N)) → AreAmong links others → IsLoopFree others → IsLoopFree links
  IsLoopFree-among links others among free a next path h = free a next path (IsPath-among links others among a (next ∷ path) a h)

module _ {N : Type 0} (same : N → N → Bool) (same_is : (a b : N) → same a b ≡ true → a ≡ b) (same_self : (a : N) → same a a ≡ true) where
  -- a link that closes no loop may be added
  pub IsLoopFree-more : (link : N × N) (links : List (N × N)) → IsLoopFree links → (leads same links link.1 link.0 ≡ true → ⊥) → IsLoopFree (link ∷ links)
  IsLoopFree-more link links free apart a next path h =
      go (Contains-cases link (a, next) links h.0)
      (or_cases (leads same links next a) (leads same links next link.0 && leads same links link.1 a) (leads-of_path same same_is same_self (link ∷ links) next path a h.1))
    where
      by_link : link ≡ (a, next) → leads same links next link.0 ≡ true → ⊥
      by_link e p = apart (subst (λ (l : N × N). leads same links l.1 link.0 ≡ true) (sym e) p)

      back_to : link ≡ (a, next) → leads same links next a ≡ true → leads same links next link.0 ≡ true
      back_to e p = subst (λ (l : N × N). leads same links next l.0 ≡ true) (sym e) p

      go : (link ≡ (a, next)) ⊎ Contains links (a, next) → (leads same links next a ≡ true) ⊎ ((leads same links next link.0 && leads same links link.1 a) ≡ true) → ⊥
      go (inl e) (inl p) = by_link e (back_to e p)
      go (inl e) (inr p) = by_link e (and_parts (leads same links next link.0) (leads same links link.1 a) p).0
      go (inr m) (inl p) =
          let w = Leads-of_leads same same_is same_self links next a p in
          free a next w.0 (m, w.1)
      go (inr m) (inr p) =
          let ps : (leads same links next link.0 ≡ true) × (leads same links link.1 a ≡ true) = and_parts (leads same links next link.0) (leads same links link.1 a) p in
          let u = Leads-of_leads same same_is same_self links link.1 a ps.1 in
          let v = Leads-of_leads same same_is same_self links next link.0 ps.0 in
          apart (leads-of_path same same_is same_self links link.1 (u.0 ++ next ∷ v.0) link.0 (IsPath-append links link.1 u.0 a (next ∷ v.0) link.0 u.1 (m, v.1)))

-- nodes are told apart by their test
pub same_node-is : (a b : NamedNode) → same_node a b ≡ true → a ≡ b
same_node-is CaptureNode CaptureNode h = refl
same_node-is CaptureNode PlaybackNode h = absurd (true≢false (sym h))
same_node-is CaptureNode (ClientNode b) h = absurd (true≢false (sym h))
same_node-is PlaybackNode CaptureNode h = absurd (true≢false (sym h))
same_node-is PlaybackNode PlaybackNode h = refl
same_node-is PlaybackNode (ClientNode b) h = absurd (true≢false (sym h))
same_node-is (ClientNode a) CaptureNode h = absurd (true≢false (sym h))
same_node-is (ClientNode a) PlaybackNode h = absurd (true≢false (sym h))
same_node-is (ClientNode a) (ClientNode b) h = ap ClientNode ((bytes_decides a b).0 h)

pub same_node-self : (a : NamedNode) → same_node a a ≡ true
same_node-self CaptureNode = refl
same_node-self PlaybackNode = refl
same_node-self (ClientNode a) = (bytes_decides a a).1 refl

abbrev pub link_of : Connection → NamedNode × NamedNode
link_of edge = (source_node edge.source, destination_node edge.destination)

-- the direct links of one edge in front
direct_links-cons : (edge : Connection) (edges : List Connection) → direct_links (edge ∷ edges) ≡ cond (is_direct edge.mark) (link_of edge ∷ direct_links edges) (direct_links edges)
direct_links-cons edge edges = go (is_direct edge.mark)
  where
    go : (b : Bool) → map link_of (cond b (edge ∷ filter (λ e. is_direct e.mark) edges) (filter (λ e. is_direct e.mark) edges)) ≡ cond b (link_of edge ∷ direct_links edges) (direct_links edges)
    go true = refl
    go false = refl

-- the edge is direct and in the list exactly where its link is: what the list of edges gives
pub direct_links-contains : (edges : List Connection) (x : NamedNode × NamedNode) → Contains (direct_links edges) x → (edge : Connection) × Contains edges edge × (is_direct edge.mark ≡ true) × (link_of edge ≡ x)
direct_links-contains [] x h = absurd (none h.1)
  where
    none : {n : ℕ} → n < 0 → ⊥
    none p = omega arith
direct_links-contains (edge ∷ edges) x h = go (is_direct edge.mark) refl h (direct_links-contains edges x)
  where
    later : ((e : Connection) × Contains edges e × (is_direct e.mark ≡ true) × (link_of e ≡ x)) → (e : Connection) × Contains (edge ∷ edges) e × (is_direct e.mark ≡ true) × (link_of e ≡ x)
    later w = (w.0, Contains-later edge w.0 edges w.1, w.2, w.3)

    here : is_direct edge.mark ≡ true → (link_of edge ≡ x) ⊎ Contains (direct_links edges) x → (Contains (direct_links edges) x → (e : Connection) × Contains edges e × (is_direct e.mark ≡ true) × (link_of e ≡ x))
        → (e : Connection) × Contains (edge ∷ edges) e × (is_direct e.mark ≡ true) × (link_of e ≡ x)
    here d (inl p) rest = (edge, Contains-first edge edges, d, p)
    here d (inr m) rest = later (rest m)

    go : (b : Bool) → is_direct edge.mark ≡ b → Contains (map link_of (cond b (edge ∷ filter (λ e. is_direct e.mark) edges) (filter (λ e. is_direct e.mark) edges))) x
        → (Contains (direct_links edges) x → (e : Connection) × Contains edges e × (is_direct e.mark ≡ true) × (link_of e ≡ x))
        → (e : Connection) × Contains (edge ∷ edges) e × (is_direct e.mark ≡ true) × (link_of e ≡ x)
    go true d m rest = here d (Contains-cases (link_of edge) x (direct_links edges) m) rest
    go false d m rest = later (rest m)

pub contains-direct_links : (edges : List Connection) (edge : Connection) → Contains edges edge → is_direct edge.mark ≡ true → Contains (direct_links edges) (link_of edge)
contains-direct_links [] edge h d = absurd (none h.1)
  where
    none : {n : ℕ} → n < 0 → ⊥
    none p = omega arith
contains-direct_links (first ∷ edges) edge h d = go (is_direct first.mark) refl (Contains-cases first edge edges h) (contains-direct_links edges edge)
  where
    go : (b : Bool) → is_direct first.mark ≡ b → (first ≡ edge) ⊎ Contains edges edge → (Contains edges edge → is_direct edge.mark ≡ true → Contains (direct_links edges) (link_of edge))
        → Contains (map link_of (cond b (first ∷ filter (λ e. is_direct e.mark) edges) (filter (λ e. is_direct e.mark) edges))) (link_of edge)
    go true e (inl p) rest = subst (λ x. Contains (link_of first ∷ direct_links edges) x) (ap link_of p) (Contains-first (link_of first) (direct_links edges))
    go true e (inr m) rest = Contains-later (link_of first) (link_of edge) (direct_links edges) (rest m d)
    go false e (inl p) rest = absurd (true≢false (sym d ∙ sym (ap (λ (c : Connection). is_direct c.mark) p) ∙ e))
    go false e (inr m) rest = rest m d

-- edges among others have links among theirs
pub direct_links-among : (edges others : List Connection) → AreAmong edges others → AreAmong (direct_links edges) (direct_links others)
direct_links-among edges others among x h =
    let w = direct_links-contains edges x h in
    subst (λ l. Contains (direct_links others) l) w.3 (contains-direct_links others w.0 (among w.0 w.1) w.2)

pub HasNoLoop-among : (edges others : List Connection) → AreAmong edges others → HasNoLoop others → HasNoLoop edges
HasNoLoop-among edges others among free = IsLoopFree-among (direct_links edges) (direct_links others) (direct_links-among edges others among) free

HasNoLoop-more : (edge : Connection) (edges : List Connection) → HasNoLoop edges → (is_direct edge.mark ≡ true → closes_loop edges edge.source edge.destination ≡ false) → HasNoLoop (edge ∷ edges)
HasNoLoop-more edge edges free apart = go (is_direct edge.mark) refl
  where
    go : (b : Bool) → is_direct edge.mark ≡ b → IsLoopFree (map link_of (cond b (edge ∷ filter (λ e. is_direct e.mark) edges) (filter (λ e. is_direct e.mark) edges)))
    go true d = IsLoopFree-more same_node same_node-is same_node-self (link_of edge) (direct_links edges) free (λ t. true≢false (sym t ∙ apart d))
    go false d = free

-- what the mark of a new edge says
mark_of-apart : (edges : List Connection) (source destination : List ℕ) → is_direct (mark_of edges source destination) ≡ true → closes_loop edges source destination ≡ false
mark_of-apart edges source destination h = go (closes_loop edges source destination) h
  where
    go : (b : Bool) → is_direct (cond b Feedback Direct) ≡ true → b ≡ false
    go true p = absurd (true≢false (sym p))
    go false p = refl

module _ {X : Type 0} where
  pub Contains-append_cases : (xs ys : List X) (x : X) → Contains (xs ++ ys) x → Contains xs x ⊎ Contains ys x
  Contains-append_cases [] ys x h = inr h
  Contains-append_cases (y ∷ xs) ys x h = go (Contains-cases y x (xs ++ ys) h) (Contains-append_cases xs ys x)
    where
      shifted : Contains xs x ⊎ Contains ys x → Contains (y ∷ xs) x ⊎ Contains ys x
      shifted (inl m) = inl (Contains-later y x xs m)
      shifted (inr m) = inr m

      go : (y ≡ x) ⊎ Contains (xs ++ ys) x → (Contains (xs ++ ys) x → Contains xs x ⊎ Contains ys x) → Contains (y ∷ xs) x ⊎ Contains ys x
      go (inl e) rest = inl (subst (λ z. Contains (y ∷ xs) z) e (Contains-first y xs))
      go (inr m) rest = shifted (rest m)

  pub Contains-append_left : (xs ys : List X) (x : X) → Contains xs x → Contains (xs ++ ys) x
  Contains-append_left [] ys x h = absurd (none h.1)
    where
      none : {n : ℕ} → n < 0 → ⊥
      none p = omega arith
  Contains-append_left (y ∷ xs) ys x h = go (Contains-cases y x xs h) (Contains-append_left xs ys x)
    where
      go : (y ≡ x) ⊎ Contains xs x → (Contains xs x → Contains (xs ++ ys) x) → Contains (y ∷ xs ++ ys) x
      go (inl e) rest = subst (λ z. Contains (y ∷ xs ++ ys) z) e (Contains-first y (xs ++ ys))
      go (inr m) rest = Contains-later y x (xs ++ ys) (rest m)

  pub Contains-append_right : (xs ys : List X) (x : X) → Contains ys x → Contains (xs ++ ys) x
  Contains-append_right [] ys x h = h
  Contains-append_right (y ∷ xs) ys x h = Contains-later y x (xs ++ ys) (Contains-append_right xs ys x h)

  pub filter-among : (test : X → Bool) (xs : List X) → AreAmong (filter test xs) xs
  filter-among test [] x h = h
  filter-among test (y ∷ xs) x h = go (test y) h (filter-among test xs x)
    where
      here : (y ≡ x) ⊎ Contains (filter test xs) x → (Contains (filter test xs) x → Contains xs x) → Contains (y ∷ xs) x
      here (inl e) rest = subst (λ z. Contains (y ∷ xs) z) e (Contains-first y xs)
      here (inr m) rest = Contains-later y x xs (rest m)

      go : (b : Bool) → Contains (cond b (y ∷ filter test xs) (filter test xs)) x → (Contains (filter test xs) x → Contains xs x) → Contains (y ∷ xs) x
      go true m rest = here (Contains-cases y x (filter test xs) m) rest
      go false m rest = Contains-later y x xs (rest m)

  -- one element changed: those before it, it, and those behind it are among it and the whole list
  pub changed-among : (before : List X) (old new : X) (behind : List X) → AreAmong ((before ++ new ∷ []) ++ behind) (new ∷ before ++ old ∷ behind)
  changed-among before old new behind x h = front (Contains-append_cases (before ++ new ∷ []) behind x h)
    where
      at_new : (y : X) → Contains (y ∷ []) x → y ≡ x
      at_new y m = one (Contains-cases y x [] m)
        where
          none : {n : ℕ} → n < 0 → ⊥
          none p = omega arith

          one : (y ≡ x) ⊎ Contains [] x → y ≡ x
          one (inl e) = e
          one (inr k) = absurd (none k.1)

      before_or_new : Contains before x ⊎ Contains (new ∷ []) x → Contains (new ∷ before ++ old ∷ behind) x
      before_or_new (inl m) = Contains-later new x (before ++ old ∷ behind) (Contains-append_left before (old ∷ behind) x m)
      before_or_new (inr m) = subst (λ z. Contains (new ∷ before ++ old ∷ behind) z) (at_new new m) (Contains-first new (before ++ old ∷ behind))

      front : Contains (before ++ new ∷ []) x ⊎ Contains behind x → Contains (new ∷ before ++ old ∷ behind) x
      front (inl m) = before_or_new (Contains-append_cases before (new ∷ []) x m)
      front (inr m) = Contains-later new x (before ++ old ∷ behind) (Contains-append_right before (old ∷ behind) x (Contains-later old x behind m))

HasNoLoop-remark_from : (tested edges : List Connection) → HasNoLoop (tested ++ edges) → HasNoLoop (remark_from tested edges)
HasNoLoop-remark_from tested [] free = subst HasNoLoop (append-nil tested) free
HasNoLoop-remark_from tested (edge ∷ edges) free =
    HasNoLoop-remark_from (tested ++ tested_edge tested edge edges ∷ []) edges
    (HasNoLoop-among ((tested ++ tested_edge tested edge edges ∷ []) ++ edges) (tested_edge tested edge edges ∷ tested ++ edge ∷ edges)
    (changed-among tested edge (tested_edge tested edge edges) edges)
    (go (is_direct edge.mark) refl))
  where
    same_again : AreAmong (edge ∷ tested ++ edge ∷ edges) (tested ++ edge ∷ edges)
    same_again x h = again (Contains-cases edge x (tested ++ edge ∷ edges) h)
      where
        again : (edge ≡ x) ⊎ Contains (tested ++ edge ∷ edges) x → Contains (tested ++ edge ∷ edges) x
        again (inl e) = subst (λ z. Contains (tested ++ edge ∷ edges) z) e (Contains-append_right tested (edge ∷ edges) edge (Contains-first edge edges))
        again (inr m) = m

    go : (b : Bool) → is_direct edge.mark ≡ b → HasNoLoop (cond b edge (record edge { mark = mark_of (tested ++ edge ∷ edges) edge.source edge.destination }) ∷ tested ++ edge ∷ edges)
    go true d = HasNoLoop-among (edge ∷ tested ++ edge ∷ edges) (tested ++ edge ∷ edges) same_again free
    go false d = HasNoLoop-more (record edge { mark = mark_of (tested ++ edge ∷ edges) edge.source edge.destination }) (tested ++ edge ∷ edges) free (mark_of-apart (tested ++ edge ∷ edges) edge.source edge.destination)

pub HasNoLoop-remark : (edges : List Connection) → HasNoLoop edges → HasNoLoop (remark edges)
HasNoLoop-remark edges free = HasNoLoop-remark_from [] edges free

pub HasNoLoop-edges_left : (stays : Connection → Bool) (edges : List Connection) → HasNoLoop edges → HasNoLoop (edges_left stays edges)
HasNoLoop-edges_left stays edges free = go (nat_lt (length (filter stays edges)) (length edges))
  where
    go : (b : Bool) → HasNoLoop (cond b (remark (filter stays edges)) edges)
    go true = HasNoLoop-remark (filter stays edges) (HasNoLoop-among (filter stays edges) edges (filter-among stays edges) free)
    go false = free

HasNoLoop-connect : (edges : List Connection) (source destination : List ℕ) → HasNoLoop edges → HasNoLoop (edges ++ record { source = source; destination = destination; mark = mark_of edges source destination } ∷ [])
HasNoLoop-connect edges source destination free = HasNoLoop-among (edges ++ new ∷ []) (new ∷ edges) last_first (HasNoLoop-more new edges free (mark_of-apart edges source destination))
  where
    new : Connection
    new = record { source = source; destination = destination; mark = mark_of edges source destination }

    last_first : AreAmong (edges ++ new ∷ []) (new ∷ edges)
    last_first x h = go (Contains-append_cases edges (new ∷ []) x h)
      where
        none : {n : ℕ} → n < 0 → ⊥
        none p = omega arith

        one : (new ≡ x) ⊎ Contains [] x → Contains (new ∷ edges) x
        one (inl e) = subst (λ z. Contains (new ∷ edges) z) e (Contains-first new edges)
        one (inr k) = absurd (none k.1)

        go : Contains edges x ⊎ Contains (new ∷ []) x → Contains (new ∷ edges) x
        go (inl m) = Contains-later new x edges m
        go (inr m) = one (Contains-cases new x [] m)

pub HasNoLoop-effect : (state : State) (number : ℕ) (command : Command) → HasNoLoop state.edges → HasNoLoop (effect state number command).edges
HasNoLoop-effect state number (Open client kind) free = free
HasNoLoop-effect state number (Close client) free = HasNoLoop-edges_left _ state.edges free
HasNoLoop-effect state number (Activate client) free = free
HasNoLoop-effect state number (Deactivate client) free = HasNoLoop-edges_left _ state.edges free
HasNoLoop-effect state number (Register port way kind) free = free
HasNoLoop-effect state number (Unregister port) free = HasNoLoop-edges_left _ state.edges free
HasNoLoop-effect state number (Connect source destination) free = HasNoLoop-connect state.edges source destination free
HasNoLoop-effect state number (Disconnect source destination) free = HasNoLoop-edges_left _ state.edges free
HasNoLoop-effect state number Start free = free
HasNoLoop-effect state number Stop free = free
HasNoLoop-effect state number (Locate frame) free = free
HasNoLoop-effect state number (Timeout cycles) free = free
HasNoLoop-effect state number (Slow client cycles) free = free
HasNoLoop-effect state number (Timebase client mbpm beats ticks) free = free
HasNoLoop-effect state number (TimebaseIf client mbpm beats ticks) free = free
HasNoLoop-effect state number (Release client) free = free
HasNoLoop-effect state number (Latency mode port) free = free

HasNoLoop-after : (state : State) (number : ℕ) (command : Command) → HasNoLoop state.edges → HasNoLoop (after state number command).edges
HasNoLoop-after state number command free = go (is_none (refusal state command))
  where
    go : (b : Bool) → HasNoLoop (cond b (effect state number command) state).edges
    go true = HasNoLoop-effect state number command free
    go false = free

pub HasNoLoop-replay : (state : State) (changes : List Change) → HasNoLoop state.edges → HasNoLoop (replay state changes).edges
HasNoLoop-replay state [] free = free
HasNoLoop-replay state (change ∷ changes) free = HasNoLoop-replay (after state change.number change.command) changes (HasNoLoop-after state change.number change.command free)

pub HasNoLoop-opening : (capture playback : ℕ) → HasNoLoop (opening capture playback).edges
HasNoLoop-opening capture playback a next path h = none h.0.1
  where
    none : {n : ℕ} → n < 0 → ⊥
    none p = omega arith
