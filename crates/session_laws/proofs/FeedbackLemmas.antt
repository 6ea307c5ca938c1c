-- No feedback edge comes from a capture port or goes into a playback port: only clients' outputs are kept from cycle to cycle, and only for clients.
--     FeedbackInside edges      both ends of each feedback edge are clients'
--     FeedbackInside-replay      so it is in each state that changes led to
use Rattle.std.proofs.Common.{◌≡◌, ℕ, ◌<◌, Bool, true, false, cond, ◌⊎◌, inl, inr, List, [], ◌∷◌, ◌++◌, length, filter, Contains, is_none, nat_lt, refl, sym, ◌∙◌, ap, subst, arith, true≢false, append-nil}
use Rattle.session_model.specs.jack_types.specs.Names.{client_part}
use Rattle.session_model.specs.jack_types.specs.declared.commands.Change.{Change}
use Rattle.session_model.specs.jack_types.specs.declared.commands.Command.{Command}
use Rattle.session_model.specs.jack_types.specs.declared.commands.Command.TheVariants.{Open, Close, Activate, Deactivate, Register, Unregister, Connect, Disconnect, Start, Stop, Locate, Timeout, Slow, Timebase, TimebaseIf, Release, Latency}
use Rattle.session_model.specs.jack_types.specs.declared.ports.Mark.{Mark}
use Rattle.session_model.specs.jack_types.specs.declared.ports.Mark.TheVariants.{Direct, Feedback}
use Rattle.session_model.specs.Commands.{effect, after, replay, edges_left, refusal}
use Rattle.session_model.specs.Loops.{IsPath, leads, direct_links, closes_loop, mark_of, tested_edge, remark_from, remark}
use Rattle.session_model.specs.State.{State, NamedNode, CaptureNode, PlaybackNode, ClientNode, same_node, Connection, source_node, destination_node, is_direct, is_system, opening}
use Rattle.session_laws.proofs.LoopLemmas.{Contains-cases, Leads-of_leads}
use Rattle.session_laws.proofs.LoopFreeLemmas.{same_node-is, same_node-self, direct_links-contains, Contains-append_cases, AreAmong, filter-among, changed-among}

abbrev is_capture : NamedNode → Bool
is_capture CaptureNode = true
is_capture _ = false

-- nothing goes into the capture
into_capture : (port : List ℕ) → is_capture (destination_node port) ≡ false
into_capture port = go (is_system (client_part port))
  where
    go : (b : Bool) → is_capture (cond b PlaybackNode (ClientNode (client_part port))) ≡ false
    go true = refl
    go false = refl

-- a path's end is its start, or something links to it
path_end : {N : Type 0} (links : List (N × N)) (a : N) (path : List N) (b : N) → IsPath links a path b → (a ≡ b) ⊎ ((x : N) × Contains links (x, b))
path_end links a [] b h = inl h
path_end {N} links a (next ∷ path) b h = go (path_end links next path b h.1)
  where
    go : (next ≡ b) ⊎ ((x : N) × Contains links (x, b)) → (a ≡ b) ⊎ ((x : N) × Contains links (x, b))
    go (inl e) = let P : N → Type 0 = λ z. Contains links (a, z) in inr (a, subst P e h.0)
    go (inr w) = inr w

closes_loop-capture : (edges : List Connection) (source destination : List ℕ) → closes_loop edges source destination ≡ true → is_system (client_part source) ≡ false
closes_loop-capture edges source destination h = go (is_system (client_part source)) refl
  where
    none : (node : NamedNode) → is_capture node ≡ false → node ≡ CaptureNode → ⊥
    none node f e = true≢false (sym (ap is_capture e) ∙ f)

    ends : (destination_node destination ≡ CaptureNode) ⊎ ((x : NamedNode) × Contains (direct_links edges) (x, CaptureNode)) → ⊥
    ends (inl e) = none (destination_node destination) (into_capture destination) e
    ends (inr w) =
        let edge = direct_links-contains edges (w.0, CaptureNode) w.1 in
        none (destination_node edge.0.destination) (into_capture edge.0.destination) (ap (λ (link : NamedNode × NamedNode). link.1) edge.3)

    go : (b : Bool) → is_system (client_part source) ≡ b → is_system (client_part source) ≡ false
    go false e = e
    go true e =
        let from : source_node source ≡ CaptureNode = ap (λ c. cond c CaptureNode (ClientNode (client_part source))) e in
        let leads_there : leads same_node (direct_links edges) (destination_node destination) CaptureNode ≡ true = subst (λ node. leads same_node (direct_links edges) (destination_node destination) node ≡ true) from h in
        let w = Leads-of_leads same_node same_node-is same_node-self (direct_links edges) (destination_node destination) CaptureNode leads_there in
        absurd (ends (path_end (direct_links edges) (destination_node destination) w.0 CaptureNode w.1))

abbrev is_playback : NamedNode → Bool
is_playback PlaybackNode = true
is_playback _ = false

-- nothing comes from the playback
from_playback : (port : List ℕ) → is_playback (source_node port) ≡ false
from_playback port = go (is_system (client_part port))
  where
    go : (b : Bool) → is_playback (cond b CaptureNode (ClientNode (client_part port))) ≡ false
    go true = refl
    go false = refl

closes_loop-playback : (edges : List Connection) (source destination : List ℕ) → closes_loop edges source destination ≡ true → is_system (client_part destination) ≡ false
closes_loop-playback edges source destination h = go (is_system (client_part destination)) refl
  where
    none : (node : NamedNode) → is_playback node ≡ false → node ≡ PlaybackNode → ⊥
    none node f e = true≢false (sym (ap is_playback e) ∙ f)

    starts : (path : List NamedNode) → IsPath (direct_links edges) PlaybackNode path (source_node source) → ⊥
    starts [] e = none (source_node source) (from_playback source) (sym e)
    starts (next ∷ path) p =
        let edge = direct_links-contains edges (PlaybackNode, next) p.0 in
        none (source_node edge.0.source) (from_playback edge.0.source) (ap (λ (link : NamedNode × NamedNode). link.0) edge.3)

    go : (b : Bool) → is_system (client_part destination) ≡ b → is_system (client_part destination) ≡ false
    go false e = e
    go true e =
        let into : destination_node destination ≡ PlaybackNode = ap (λ c. cond c PlaybackNode (ClientNode (client_part destination))) e in
        let leads_there : leads same_node (direct_links edges) PlaybackNode (source_node source) ≡ true = subst (λ node. leads same_node (direct_links edges) node (source_node source) ≡ true) into h in
        let w = Leads-of_leads same_node same_node-is same_node-self (direct_links edges) PlaybackNode (source_node source) leads_there in
        absurd (starts w.0 w.1)

-- both ports are clients'
abbrev pub IsInside : Connection → Type 0
IsInside edge = (is_system (client_part edge.source) ≡ false) × (is_system (client_part edge.destination) ≡ false)

-- both ends of each feedback edge are clients'
abbrev pub FeedbackInside : List Connection → Type 0
FeedbackInside edges = (edge : Connection) → Contains edges edge → edge.mark ≡ Feedback → IsInside edge

FeedbackInside-among : (edges others : List Connection) → AreAmong edges others → FeedbackInside others → FeedbackInside edges
FeedbackInside-among edges others among h edge m e = h edge (among edge m) e

direct-feedback : {A : Type 0} → Direct ≡ Feedback → A
direct-feedback e = absurd (true≢false (ap is_direct e))

mark_of-feedback : (edges : List Connection) (source destination : List ℕ) → mark_of edges source destination ≡ Feedback → (is_system (client_part source) ≡ false) × (is_system (client_part destination) ≡ false)
mark_of-feedback edges source destination h = go (closes_loop edges source destination) refl h
  where
    go : (b : Bool) → closes_loop edges source destination ≡ b → cond b Feedback Direct ≡ Feedback → (is_system (client_part source) ≡ false) × (is_system (client_part destination) ≡ false)
    go true e k = (closes_loop-capture edges source destination e, closes_loop-playback edges source destination e)
    go false e k = direct-feedback k

FeedbackInside-cons : (edge : Connection) (edges : List Connection) → (edge.mark ≡ Feedback → IsInside edge) → FeedbackInside edges → FeedbackInside (edge ∷ edges)
FeedbackInside-cons edge edges first h other m = go (Contains-cases edge other edges m)
  where
    go : (edge ≡ other) ⊎ Contains edges other → other.mark ≡ Feedback → IsInside other
    go (inl e) = subst (λ (x : Connection). x.mark ≡ Feedback → IsInside x) e first
    go (inr k) = h other k

FeedbackInside-remark_from : (tested edges : List Connection) → FeedbackInside (tested ++ edges) → FeedbackInside (remark_from tested edges)
FeedbackInside-remark_from tested [] h = subst FeedbackInside (append-nil tested) h
FeedbackInside-remark_from tested (edge ∷ edges) h =
    FeedbackInside-remark_from (tested ++ tested_edge tested edge edges ∷ []) edges
    (FeedbackInside-among ((tested ++ tested_edge tested edge edges ∷ []) ++ edges) (tested_edge tested edge edges ∷ tested ++ edge ∷ edges) (changed-among tested edge (tested_edge tested edge edges) edges)
    (FeedbackInside-cons (tested_edge tested edge edges) (tested ++ edge ∷ edges) (go (is_direct edge.mark) refl) h))
  where
    direct : (mark : Mark) → is_direct mark ≡ true → mark ≡ Feedback → IsInside edge
    direct Direct t e = direct-feedback e
    direct Feedback t e = absurd (true≢false (sym t))

    go : (b : Bool) → is_direct edge.mark ≡ b
        → (cond b edge (record edge { mark = mark_of (tested ++ edge ∷ edges) edge.source edge.destination })).mark ≡ Feedback
        → IsInside (cond b edge (record edge { mark = mark_of (tested ++ edge ∷ edges) edge.source edge.destination }))
    go true t e = direct edge.mark t e
    go false t e = mark_of-feedback (tested ++ edge ∷ edges) edge.source edge.destination e

FeedbackInside-edges_left : (stays : Connection → Bool) (edges : List Connection) → FeedbackInside edges → FeedbackInside (edges_left stays edges)
FeedbackInside-edges_left stays edges h = go (nat_lt (length (filter stays edges)) (length edges))
  where
    go : (b : Bool) → FeedbackInside (cond b (remark (filter stays edges)) edges)
    go true = FeedbackInside-remark_from [] (filter stays edges) (FeedbackInside-among (filter stays edges) edges (filter-among stays edges) h)
    go false = h

FeedbackInside-connect : (edges : List Connection) (source destination : List ℕ) → FeedbackInside edges → FeedbackInside (edges ++ record { source = source; destination = destination; mark = mark_of edges source destination } ∷ [])
FeedbackInside-connect edges source destination h other m = go (Contains-append_cases edges (new ∷ []) other m)
  where
    new : Connection
    new = record { source = source; destination = destination; mark = mark_of edges source destination }

    none : {n : ℕ} → n < 0 → ⊥
    none p = omega arith

    go : Contains edges other ⊎ Contains (new ∷ []) other → other.mark ≡ Feedback → IsInside other
    go (inl k) = h other k
    go (inr k) = FeedbackInside-cons new [] (mark_of-feedback edges source destination) (λ x n. absurd (none n.1)) other k

pub FeedbackInside-effect : (state : State) (number : ℕ) (command : Command) → FeedbackInside state.edges → FeedbackInside (effect state number command).edges
FeedbackInside-effect state number (Close client) h = FeedbackInside-edges_left _ state.edges h
FeedbackInside-effect state number (Deactivate client) h = FeedbackInside-edges_left _ state.edges h
FeedbackInside-effect state number (Unregister port) h = FeedbackInside-edges_left _ state.edges h
FeedbackInside-effect state number (Connect source destination) h = FeedbackInside-connect state.edges source destination h
FeedbackInside-effect state number (Disconnect source destination) h = FeedbackInside-edges_left _ state.edges h
FeedbackInside-effect state number (Open client kind) h = h
FeedbackInside-effect state number (Activate client) h = h
FeedbackInside-effect state number (Register port way kind) h = h
FeedbackInside-effect state number Start h = h
FeedbackInside-effect state number Stop h = h
FeedbackInside-effect state number (Locate frame) h = h
FeedbackInside-effect state number (Timeout cycles) h = h
FeedbackInside-effect state number (Slow client cycles) h = h
FeedbackInside-effect state number (Timebase client mbpm beats ticks) h = h
FeedbackInside-effect state number (TimebaseIf client mbpm beats ticks) h = h
FeedbackInside-effect state number (Release client) h = h
FeedbackInside-effect state number (Latency mode port) h = h

FeedbackInside-after : (state : State) (number : ℕ) (command : Command) → FeedbackInside state.edges → FeedbackInside (after state number command).edges
FeedbackInside-after state number command h = go (is_none (refusal state command))
  where
    go : (b : Bool) → FeedbackInside (cond b (effect state number command) state).edges
    go true = FeedbackInside-effect state number command h
    go false = h

pub FeedbackInside-replay : (state : State) (changes : List Change) → FeedbackInside state.edges → FeedbackInside (replay state changes).edges
FeedbackInside-replay state [] h = h
FeedbackInside-replay state (change ∷ changes) h = FeedbackInside-replay (after state change.number change.command) changes (FeedbackInside-after state change.number change.command h)

pub FeedbackInside-opening : (capture playback : ℕ) → FeedbackInside (opening capture playback).edges
FeedbackInside-opening capture playback edge m e = absurd (none m.1)
  where
    none : {n : ℕ} → n < 0 → ⊥
    none p = omega arith
