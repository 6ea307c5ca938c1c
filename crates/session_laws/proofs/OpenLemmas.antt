-- Ports and edges belong to open clients.
--     BelongsToOpen-replay      in each state that changes led to
use Rattle.std.proofs.Common.{◌≡◌, ℕ, suc, ◌+◌, ◌≤◌, Bool, true, false, cond, not, ◌&&◌, ◌||◌, List, [], ◌∷◌, ◌++◌, length, map, filter, find, Contains, Option, Some, None, is_none, nat_lt, if◌then◌else◌, refl, sym, ◌∙◌, ap, ap₂, subst, arith, true≢false}
use Rattle.std.specs.Str.{bytes_eq}
use lib.Pointwise.{bytes_decides}
use Rattle.std.proofs.lemmas.Bool.Decides.{nat_tests}
use Rattle.std.proofs.lemmas.List.Elements.{Contains-append_left}
use Rattle.session_model.specs.jack_types.specs.Names.{client_part}
use Rattle.session_model.specs.jack_types.specs.declared.commands.Change.{Change}
use Rattle.session_model.specs.jack_types.specs.declared.commands.Command.{Command}
use Rattle.session_model.specs.jack_types.specs.declared.commands.Command.TheVariants.{Open, Close, Activate, Deactivate, Register, Unregister, Connect, Disconnect, Start, Stop, Locate, Timeout, Slow, Timebase, TimebaseIf, Release, Latency}
use Rattle.session_model.specs.jack_types.specs.declared.replies.Refusal.{Refusal}
use Rattle.session_model.specs.jack_types.specs.declared.replies.Refusal.TheVariants.{NoClient, IsSystem, NameTaken, PortsFull, NoSource, NoDestination, NotOutput, NotInput, TypeDiffers, Inactive, Exists, Full}
use Rattle.session_model.specs.Commands.{refusal, applies, effect, after, replay, edges_left, touches, with_client}
use Rattle.session_model.specs.Loops.{mark_of, tested_edge, remark_from, remark}
use Rattle.session_model.specs.Samples.{below}
use Rattle.session_model.specs.State.{State, OpenClient, OpenPort, Connection, is_direct, client_named, port_named, opening, capture_port, playback_port}
use Rattle.session_model.specs.jack_types.specs.declared.ports.Mode.{Mode}
use Rattle.session_model.specs.Latencies.{Wiring, wiring_of, range_of}
use Rattle.session_laws.proofs.CycleLemmas.{find-passes, find-contains}
use Rattle.session_laws.proofs.LatencyLemmas.{range_at, range_at-enough, range_at-is}
use Rattle.session_laws.proofs.LoopFreeLemmas.{HasNoLoop, HasNoLoop-replay, HasNoLoop-opening}
use Rattle.session_laws.proofs.ListLemmas.{Each, Each-weaker, Each-both, Each-all, Each-append, Each-map, Each-filter, Each-filter_kept, Each-contains, Contains-kept, Contains-map}

abbrev pub client_names : List OpenClient → List (List ℕ)
client_names clients = map (λ (client : OpenClient). client.name) clients

abbrev pub IsOfOpen : List (List ℕ) → Connection → Type 0
IsOfOpen names edge = Contains names (client_part edge.source) × Contains names (client_part edge.destination)

-- the clients of ports and of edges are open
pub record BelongsToOpen (state : State) : Type 0 where
  pub ports : Each (λ (port : OpenPort). Contains (client_names state.clients) (client_part port.name)) state.ports
  pub edges : Each (IsOfOpen (client_names state.clients)) state.edges

-- ---- marks keep the ends of edges

module _ (names : List (List ℕ)) where
  remark_from-open : (tested edges : List Connection) → Each (IsOfOpen names) tested → Each (IsOfOpen names) edges → Each (IsOfOpen names) (remark_from tested edges)
  remark_from-open tested [] h k = h
  remark_from-open tested (edge ∷ edges) h k =
      remark_from-open (tested ++ tested_edge tested edge edges ∷ []) edges (Each-append (IsOfOpen names) tested (tested_edge tested edge edges ∷ []) h (go (is_direct edge.mark), tt)) k.1
    where
      go : (b : Bool) → IsOfOpen names (if b then edge else record edge { mark = mark_of (tested ++ edge ∷ edges) edge.source edge.destination })
      go true = k.0
      go false = k.0

  filter-whole : (test : Connection → Bool) (edges : List Connection) → length edges ≤ length (filter test edges) → Each (λ edge. test edge ≡ true) edges
  filter-whole test [] h = tt
  filter-whole test (edge ∷ edges) h = go (test edge) refl h (filter-whole test edges) (shorter edges)
    where
      shorter : (es : List Connection) → length (filter test es) ≤ length es
      shorter [] = omega arith
      shorter (e ∷ es) = by (test e) (shorter es)
        where
          by : (b : Bool) → length (filter test es) ≤ length es → length (cond b (e ∷ filter test es) (filter test es)) ≤ length (e ∷ es)
          by true q = omega (arith, q)
          by false q = omega (arith, q)

      go : (b : Bool) → test edge ≡ b → length (edge ∷ edges) ≤ length (cond b (edge ∷ filter test edges) (filter test edges))
          → (length edges ≤ length (filter test edges) → Each (λ e. test e ≡ true) edges) → length (filter test edges) ≤ length edges → Each (λ e. test e ≡ true) (edge ∷ edges)
      go true e q later short = (e, later (omega (arith, q)))
      go false e q later short = absurd (omega (arith, q, short))

  -- what is left has the ends of edges that stay
  edges_left-open : (stays : Connection → Bool) (edges : List Connection) → Each (λ edge. stays edge ≡ true → IsOfOpen names edge) edges → Each (IsOfOpen names) (edges_left stays edges)
  edges_left-open stays edges h = go (nat_lt (length (filter stays edges)) (length edges)) refl
    where
      left : Each (IsOfOpen names) (filter stays edges)
      left =
          Each-both (λ edge. stays edge ≡ true) (λ edge. stays edge ≡ true → IsOfOpen names edge) (IsOfOpen names) (λ edge t f. f t) (filter stays edges)
          (Each-filter (λ edge. stays edge ≡ true) stays edges (λ edge t. t)) (Each-filter_kept (λ edge. stays edge ≡ true → IsOfOpen names edge) stays edges h)

      go : (b : Bool) → nat_lt (length (filter stays edges)) (length edges) ≡ b → Each (IsOfOpen names) (if b then remark (filter stays edges) else edges)
      go true e = remark_from-open [] (filter stays edges) tt left
      go false e =
          let whole : length edges ≤ length (filter stays edges) = grind (arith, nat_tests) in
          Each-both (λ edge. stays edge ≡ true) (λ edge. stays edge ≡ true → IsOfOpen names edge) (IsOfOpen names) (λ edge t f. f t) edges (filter-whole stays edges whole) h

-- ---- changes

with_client-names : (name : List ℕ) (change : OpenClient → OpenClient) → ((client : OpenClient) → (change client).name ≡ client.name) → (clients : List OpenClient) → client_names (with_client name change clients) ≡ client_names clients
with_client-names name change same [] = refl
with_client-names name change same (client ∷ clients) = ap₂ (λ n ns. n ∷ ns) (go (bytes_eq client.name name)) (with_client-names name change same clients)
  where
    go : (b : Bool) → (if b then change client else client).name ≡ client.name
    go true = same client
    go false = refl

find-past : {X : Type 0} (test : X → Bool) (x : X) (xs : List X) → find test (x ∷ xs) ≡ None → (test x ≡ false) × (find test xs ≡ None)
find-past {X = X} test x xs h = go (test x) refl h
  where
    some-none : (y : X) → Some y ≡ None → ⊥
    some-none y e = cc

    go : (b : Bool) → test x ≡ b → cond b (Some x) (find test xs) ≡ None → (test x ≡ false) × (find test xs ≡ None)
    go true e k = absurd (some-none x k)
    go false e k = (e, k)

is-there : {X : Type 0} (o : Option X) → is_none o ≡ false → (x : X) × (o ≡ Some x)
is-there None h = absurd (true≢false h)
is-there (Some x) h = (x, refl)

-- a client or port that is named is there
client-there : (state : State) (name : List ℕ) → is_none (client_named state name) ≡ false → Contains (client_names state.clients) name
client-there state name h =
    let w = is-there (client_named state name) h in
    let same : (w.0).name ≡ name = (bytes_decides (w.0).name name).0 (find-passes (λ (client : OpenClient). bytes_eq client.name name) state.clients w.0 w.1) in
    subst (λ n. Contains (client_names state.clients) n) same (Contains-map (λ (client : OpenClient). client.name) state.clients w.0 (find-contains (λ (client : OpenClient). bytes_eq client.name name) state.clients w.0 w.1))

port-there : (state : State) (name : List ℕ) → BelongsToOpen state → is_none (port_named state name) ≡ false → Contains (client_names state.clients) (client_part name)
port-there state name open_ports h =
    let w = is-there (port_named state name) h in
    let same : (w.0).name ≡ name = (bytes_decides (w.0).name name).0 (find-passes (λ (port : OpenPort). bytes_eq port.name name) state.ports w.0 w.1) in
    subst (λ n. Contains (client_names state.clients) (client_part n)) same
    (Each-contains (λ (port : OpenPort). Contains (client_names state.clients) (client_part port.name)) state.ports w.0 open_ports.ports (find-contains (λ (port : OpenPort). bytes_eq port.name name) state.ports w.0 w.1))

same-clients : (state : State) (clients : List OpenClient) (edges : List Connection) → client_names clients ≡ client_names state.clients → Each (IsOfOpen (client_names state.clients)) edges → BelongsToOpen state
    → (ports : List OpenPort) → Each (λ (port : OpenPort). Contains (client_names state.clients) (client_part port.name)) ports
    → Each (λ (port : OpenPort). Contains (client_names clients) (client_part port.name)) ports × Each (IsOfOpen (client_names clients)) edges
same-clients state clients edges same h old ports k = (
  subst (λ ns. Each (λ (port : OpenPort). Contains ns (client_part port.name)) ports) (sym same) k,
  subst (λ ns. Each (IsOfOpen ns) edges) (sym same) h,
)

any-edge : (names : List (List ℕ)) (stays : Connection → Bool) (edges : List Connection) → Each (IsOfOpen names) edges → Each (λ edge. stays edge ≡ true → IsOfOpen names edge) edges
any-edge names stays edges h = Each-weaker (IsOfOpen names) (λ edge. stays edge ≡ true → IsOfOpen names edge) (λ edge o t. o) edges h

module _ (state : State) (number : ℕ) (old : BelongsToOpen state) where
  abbrev names : List (List ℕ)
  names = client_names state.clients

  -- names that are still open when a client was closed
  still : (client : List ℕ) (name : List ℕ) → bytes_eq name client ≡ false → Contains names name → Contains (client_names (filter (λ (other : OpenClient). not (bytes_eq other.name client)) state.clients)) name
  still client name apart c = filtered state.clients c
    where
      filtered : (clients : List OpenClient) → Contains (client_names clients) name → Contains (client_names (filter (λ (other : OpenClient). not (bytes_eq other.name client)) clients)) name
      filtered clients k =
          subst (λ ns. Contains ns name) (names-filter clients)
          (Contains-kept (λ other. not (bytes_eq other client)) (client_names clients) name (ap not apart) k)
        where
          names-filter : (cs : List OpenClient) → filter (λ other. not (bytes_eq other client)) (client_names cs) ≡ client_names (filter (λ (other : OpenClient). not (bytes_eq other.name client)) cs)
          names-filter [] = refl
          names-filter (x ∷ cs) = go (not (bytes_eq x.name client)) (names-filter cs)
            where
              go : (b : Bool) → filter (λ other. not (bytes_eq other client)) (client_names cs) ≡ client_names (filter (λ (other : OpenClient). not (bytes_eq other.name client)) cs)
                  → cond b (x.name ∷ filter (λ other. not (bytes_eq other client)) (client_names cs)) (filter (λ other. not (bytes_eq other client)) (client_names cs))
                  ≡ client_names (cond b (x ∷ filter (λ (other : OpenClient). not (bytes_eq other.name client)) cs) (filter (λ (other : OpenClient). not (bytes_eq other.name client)) cs))
              go true e = ap (λ ns. x.name ∷ ns) e
              go false e = e

  not-true : (b : Bool) → not b ≡ true → b ≡ false
  not-true true h = absurd (true≢false (sym h))
  not-true false h = refl

  neither : (a b : Bool) → not (a || b) ≡ true → (a ≡ false) × (b ≡ false)
  neither true b h = absurd (true≢false (sym h))
  neither false b h = (refl, not-true b h)

  closed : (client : List ℕ) → BelongsToOpen (effect state number (Close client))
  closed client = record {
    ports =
        Each-both (λ (port : OpenPort). not (bytes_eq (client_part port.name) client) ≡ true) (λ (port : OpenPort). Contains names (client_part port.name))
        (λ (port : OpenPort). Contains (client_names (filter (λ (other : OpenClient). not (bytes_eq other.name client)) state.clients)) (client_part port.name))
        (λ port t c. still client (client_part port.name) (not-true (bytes_eq (client_part port.name) client) t) c)
        (filter (λ (port : OpenPort). not (bytes_eq (client_part port.name) client)) state.ports)
        (Each-filter (λ (port : OpenPort). not (bytes_eq (client_part port.name) client) ≡ true) (λ (port : OpenPort). not (bytes_eq (client_part port.name) client)) state.ports (λ port t. t))
        (Each-filter_kept (λ (port : OpenPort). Contains names (client_part port.name)) (λ (port : OpenPort). not (bytes_eq (client_part port.name) client)) state.ports old.ports);
    edges =
        edges_left-open (client_names (filter (λ (other : OpenClient). not (bytes_eq other.name client)) state.clients)) (λ edge. not (touches client edge)) state.edges
        (Each-weaker (IsOfOpen names) (λ edge. not (touches client edge) ≡ true → IsOfOpen (client_names (filter (λ (other : OpenClient). not (bytes_eq other.name client)) state.clients)) edge)
        (λ edge o t.
        let apart = neither (bytes_eq (client_part edge.source) client) (bytes_eq (client_part edge.destination) client) t in
        (still client (client_part edge.source) apart.0 o.0, still client (client_part edge.destination) apart.1 o.1))
        state.edges old.edges);
  }

  opened : (client : OpenClient) → Each (λ (port : OpenPort). Contains (client_names (state.clients ++ client ∷ [])) (client_part port.name)) state.ports × Each (IsOfOpen (client_names (state.clients ++ client ∷ []))) state.edges
  opened client = (
    Each-weaker (λ (port : OpenPort). Contains names (client_part port.name)) (λ (port : OpenPort). Contains (client_names (state.clients ++ client ∷ [])) (client_part port.name)) (λ port c. more (client_part port.name) c) state.ports old.ports,
    Each-weaker (IsOfOpen names) (IsOfOpen (client_names (state.clients ++ client ∷ []))) (λ edge o. (more (client_part edge.source) o.0, more (client_part edge.destination) o.1)) state.edges old.edges,
  )
    where
      appended : (cs : List OpenClient) → client_names (cs ++ client ∷ []) ≡ client_names cs ++ client.name ∷ []
      appended [] = refl
      appended (x ∷ cs) = ap (λ ns. x.name ∷ ns) (appended cs)

      more : (name : List ℕ) → Contains names name → Contains (client_names (state.clients ++ client ∷ [])) name
      more name c = subst (λ ns. Contains ns name) (sym (appended state.clients)) (Contains-append_left names (client.name ∷ []) name c)

  BelongsToOpen-effect : (command : Command) → refusal state command ≡ None → BelongsToOpen (effect state number command)
  BelongsToOpen-effect (Open client kind) h =
      let w = opened (record { name = client; kind = kind; birth = number; active = false; slow = 0 }) in record { ports = w.0; edges = w.1 }
  BelongsToOpen-effect (Close client) h = closed client
  BelongsToOpen-effect (Activate client) h =
      let same = with_client-names client (λ (c : OpenClient). record c { active = true }) (λ c. refl) state.clients in
      let w = same-clients state (with_client client (λ (c : OpenClient). record c { active = true }) state.clients) state.edges same old.edges old state.ports old.ports in
      record { ports = w.0; edges = w.1 }
  BelongsToOpen-effect (Deactivate client) h =
      let same = with_client-names client (λ (c : OpenClient). record c { active = false }) (λ c. refl) state.clients in
      let left = edges_left-open names (λ edge. not (touches client edge)) state.edges (any-edge names (λ edge. not (touches client edge)) state.edges old.edges) in
      let w = same-clients state (with_client client (λ (c : OpenClient). record c { active = false }) state.clients) (edges_left (λ edge. not (touches client edge)) state.edges) same left old state.ports old.ports in
      record { ports = w.0; edges = w.1 }
  BelongsToOpen-effect (Register port way kind) h =
      let known : Contains names (client_part port) = client-there state (client_part port) (find-past (applies state (Register port way kind)) NoClient (IsSystem ∷ NameTaken ∷ PortsFull ∷ []) h).0 in
      record {
        ports = Each-append (λ (p : OpenPort). Contains names (client_part p.name)) state.ports (record { name = port; way = way; kind = kind; birth = number } ∷ []) old.ports (known, tt);
        edges = old.edges;
      }
  BelongsToOpen-effect (Unregister port) h =
      let stays : Connection → Bool = λ (edge : Connection). not (bytes_eq edge.source port || bytes_eq edge.destination port) in
      record {
        ports = Each-filter_kept (λ (p : OpenPort). Contains names (client_part p.name)) (λ (p : OpenPort). not (bytes_eq p.name port)) state.ports old.ports;
        edges = edges_left-open names stays state.edges (any-edge names stays state.edges old.edges);
      }
  BelongsToOpen-effect (Connect source destination) h =
      let first = find-past (applies state (Connect source destination)) NoSource (NoDestination ∷ NotOutput ∷ NotInput ∷ TypeDiffers ∷ Inactive ∷ Exists ∷ Full ∷ []) h in
      let second = find-past (applies state (Connect source destination)) NoDestination (NotOutput ∷ NotInput ∷ TypeDiffers ∷ Inactive ∷ Exists ∷ Full ∷ []) first.1 in
      record {
        ports = old.ports;
        edges = Each-append (IsOfOpen names) state.edges (record { source = source; destination = destination; mark = mark_of state.edges source destination } ∷ []) old.edges
            ((port-there state source old first.0, port-there state destination old second.0), tt);
      }
  BelongsToOpen-effect (Disconnect source destination) h =
      let stays : Connection → Bool = λ (edge : Connection). not (bytes_eq edge.source source && bytes_eq edge.destination destination) in
      record { ports = old.ports; edges = edges_left-open names stays state.edges (any-edge names stays state.edges old.edges) }
  BelongsToOpen-effect (Slow client cycles) h =
      let same = with_client-names client (λ (c : OpenClient). record c { slow = cycles }) (λ c. refl) state.clients in
      let w = same-clients state (with_client client (λ (c : OpenClient). record c { slow = cycles }) state.clients) state.edges same old.edges old state.ports old.ports in
      record { ports = w.0; edges = w.1 }
  BelongsToOpen-effect Start h = record { ports = old.ports; edges = old.edges }
  BelongsToOpen-effect Stop h = record { ports = old.ports; edges = old.edges }
  BelongsToOpen-effect (Locate frame) h = record { ports = old.ports; edges = old.edges }
  BelongsToOpen-effect (Timeout cycles) h = record { ports = old.ports; edges = old.edges }
  BelongsToOpen-effect (Timebase client mbpm beats ticks) h = record { ports = old.ports; edges = old.edges }
  BelongsToOpen-effect (TimebaseIf client mbpm beats ticks) h = record { ports = old.ports; edges = old.edges }
  BelongsToOpen-effect (Release client) h = record { ports = old.ports; edges = old.edges }
  BelongsToOpen-effect (Latency mode port) h = record { ports = old.ports; edges = old.edges }

  BelongsToOpen-after : (command : Command) → BelongsToOpen (after state number command)
  BelongsToOpen-after command = go (refusal state command) refl
    where
      go : (r : Option Refusal) → refusal state command ≡ r → BelongsToOpen (if is_none r then effect state number command else state)
      go None e = BelongsToOpen-effect command e
      go (Some r) e = old

pub BelongsToOpen-replay : (state : State) (changes : List Change) → BelongsToOpen state → BelongsToOpen (replay state changes)
BelongsToOpen-replay state [] h = h
BelongsToOpen-replay state (change ∷ changes) h = BelongsToOpen-replay (after state change.number change.command) changes (BelongsToOpen-after state change.number h change.command)

pub BelongsToOpen-opening : (capture playback : ℕ) → BelongsToOpen (opening capture playback)
BelongsToOpen-opening capture playback = record {
  ports = Each-append P (map capture_port (below capture)) (map playback_port (below playback))
      (Each-map P capture_port (below capture) (Each-all (λ i. P (capture_port i)) (λ i. (0, omega arith, refl)) (below capture)))
      (Each-map P playback_port (below playback) (Each-all (λ i. P (playback_port i)) (λ i. (0, omega arith, refl)) (below playback)));
  edges = tt;
}
  where
    P : OpenPort → Type 0
    P port = Contains (client_names (opening capture playback).clients) (client_part port.name)

-- ---- the ends of edges are open ports

abbrev pub port_names : List OpenPort → List (List ℕ)
port_names ports = map (λ (port : OpenPort). port.name) ports

abbrev pub HasEnds : List (List ℕ) → Connection → Type 0
HasEnds ports edge = Contains ports edge.source × Contains ports edge.destination

-- ends that edges keep when marks are made anew
module _ (P : Connection → Type 0) (by_ends : (a b : Connection) → a.source ≡ b.source → a.destination ≡ b.destination → P a → P b) where
  remark_from-keeps : (tested edges : List Connection) → Each P tested → Each P edges → Each P (remark_from tested edges)
  remark_from-keeps tested [] h k = h
  remark_from-keeps tested (edge ∷ edges) h k =
      remark_from-keeps (tested ++ tested_edge tested edge edges ∷ []) edges (Each-append P tested (tested_edge tested edge edges ∷ []) h (go (is_direct edge.mark), tt)) k.1
    where
      go : (b : Bool) → P (if b then edge else record edge { mark = mark_of (tested ++ edge ∷ edges) edge.source edge.destination })
      go true = k.0
      go false = by_ends edge (record edge { mark = mark_of (tested ++ edge ∷ edges) edge.source edge.destination }) refl refl k.0

  edges_left-keeps : (stays : Connection → Bool) (edges : List Connection) → Each (λ edge. stays edge ≡ true → P edge) edges → Each P (edges_left stays edges)
  edges_left-keeps stays edges h = go (nat_lt (length (filter stays edges)) (length edges)) refl
    where
      left : Each P (filter stays edges)
      left =
          Each-both (λ edge. stays edge ≡ true) (λ edge. stays edge ≡ true → P edge) P (λ edge t f. f t) (filter stays edges)
          (Each-filter (λ edge. stays edge ≡ true) stays edges (λ edge t. t)) (Each-filter_kept (λ edge. stays edge ≡ true → P edge) stays edges h)

      go : (b : Bool) → nat_lt (length (filter stays edges)) (length edges) ≡ b → Each P (if b then remark (filter stays edges) else edges)
      go true e = remark_from-keeps [] (filter stays edges) tt left
      go false e =
          let whole : length edges ≤ length (filter stays edges) = grind (arith, nat_tests) in
          Each-both (λ edge. stays edge ≡ true) (λ edge. stays edge ≡ true → P edge) P (λ edge t f. f t) edges (filter-whole [] stays edges whole) h

ends-same : (ports : List (List ℕ)) (a b : Connection) → a.source ≡ b.source → a.destination ≡ b.destination → HasEnds ports a → HasEnds ports b
ends-same ports a b s t h = (subst (λ n. Contains ports n) s h.0, subst (λ n. Contains ports n) t h.1)

-- a name that stays when ports are filtered by their names
names-kept : (test : List ℕ → Bool) (ports : List OpenPort) (name : List ℕ) → test name ≡ true → Contains (port_names ports) name → Contains (port_names (filter (λ (port : OpenPort). test port.name) ports)) name
names-kept test ports name t c = subst (λ ns. Contains ns name) (filtered ports) (Contains-kept test (port_names ports) name t c)
  where
    filtered : (ps : List OpenPort) → filter test (port_names ps) ≡ port_names (filter (λ (port : OpenPort). test port.name) ps)
    filtered [] = refl
    filtered (p ∷ ps) = go (test p.name) (filtered ps)
      where
        go : (b : Bool) → filter test (port_names ps) ≡ port_names (filter (λ (port : OpenPort). test port.name) ps)
            → cond b (p.name ∷ filter test (port_names ps)) (filter test (port_names ps)) ≡ port_names (cond b (p ∷ filter (λ (port : OpenPort). test port.name) ps) (filter (λ (port : OpenPort). test port.name) ps))
        go true e = ap (λ ns. p.name ∷ ns) e
        go false e = e

named-port : (state : State) (name : List ℕ) → is_none (port_named state name) ≡ false → Contains (port_names state.ports) name
named-port state name h =
    let w = is-there (port_named state name) h in
    let same : (w.0).name ≡ name = (bytes_decides (w.0).name name).0 (find-passes (λ (port : OpenPort). bytes_eq port.name name) state.ports w.0 w.1) in
    subst (λ n. Contains (port_names state.ports) n) same (Contains-map (λ (port : OpenPort). port.name) state.ports w.0 (find-contains (λ (port : OpenPort). bytes_eq port.name name) state.ports w.0 w.1))

abbrev pub EdgesHaveEnds : State → Type 0
EdgesHaveEnds state = Each (HasEnds (port_names state.ports)) state.edges

module _ (state : State) (number : ℕ) (old : EdgesHaveEnds state) where
  abbrev here : List (List ℕ)
  here = port_names state.ports

  or-false : (a b : Bool) → not (a || b) ≡ true → (not a ≡ true) × (not b ≡ true)
  or-false true b h = absurd (true≢false (sym h))
  or-false false b h = (refl, h)

  left-here : (stays : Connection → Bool) → Each (HasEnds here) (edges_left stays state.edges)
  left-here stays = edges_left-keeps (HasEnds here) (ends-same here) stays state.edges (Each-weaker (HasEnds here) (λ edge. stays edge ≡ true → HasEnds here edge) (λ edge o t. o) state.edges old)

  EdgesHaveEnds-effect : (command : Command) → refusal state command ≡ None → EdgesHaveEnds (effect state number command)
  EdgesHaveEnds-effect (Open client kind) h = old
  EdgesHaveEnds-effect (Close client) h =
      let test : List ℕ → Bool = λ name. not (bytes_eq (client_part name) client) in
      let left : List (List ℕ) = port_names (filter (λ (port : OpenPort). test port.name) state.ports) in
      edges_left-keeps (HasEnds left) (ends-same left) (λ edge. not (touches client edge)) state.edges
      (Each-weaker (HasEnds here) (λ edge. not (touches client edge) ≡ true → HasEnds left edge)
      (λ edge o t.
      let apart = or-false (bytes_eq (client_part edge.source) client) (bytes_eq (client_part edge.destination) client) t in
      (names-kept test state.ports edge.source apart.0 o.0, names-kept test state.ports edge.destination apart.1 o.1))
      state.edges old)
  EdgesHaveEnds-effect (Activate client) h = old
  EdgesHaveEnds-effect (Deactivate client) h = left-here (λ edge. not (touches client edge))
  EdgesHaveEnds-effect (Register port way kind) h =
      Each-weaker (HasEnds here) (HasEnds (port_names (state.ports ++ new ∷ []))) (λ edge o. (more edge.source o.0, more edge.destination o.1)) state.edges old
    where
      new : OpenPort
      new = record { name = port; way = way; kind = kind; birth = number }

      appended : (ps : List OpenPort) → port_names (ps ++ new ∷ []) ≡ port_names ps ++ port ∷ []
      appended [] = refl
      appended (x ∷ ps) = ap (λ ns. x.name ∷ ns) (appended ps)

      more : (name : List ℕ) → Contains here name → Contains (port_names (state.ports ++ new ∷ [])) name
      more name c = subst (λ ns. Contains ns name) (sym (appended state.ports)) (Contains-append_left here (port ∷ []) name c)
  EdgesHaveEnds-effect (Unregister port) h =
      let test : List ℕ → Bool = λ name. not (bytes_eq name port) in
      let left : List (List ℕ) = port_names (filter (λ (p : OpenPort). test p.name) state.ports) in
      edges_left-keeps (HasEnds left) (ends-same left) (λ edge. not (bytes_eq edge.source port || bytes_eq edge.destination port)) state.edges
      (Each-weaker (HasEnds here) (λ edge. not (bytes_eq edge.source port || bytes_eq edge.destination port) ≡ true → HasEnds left edge)
      (λ edge o t.
      let apart = or-false (bytes_eq edge.source port) (bytes_eq edge.destination port) t in
      (names-kept test state.ports edge.source apart.0 o.0, names-kept test state.ports edge.destination apart.1 o.1))
      state.edges old)
  EdgesHaveEnds-effect (Connect source destination) h =
      let first = find-past (applies state (Connect source destination)) NoSource (NoDestination ∷ NotOutput ∷ NotInput ∷ TypeDiffers ∷ Inactive ∷ Exists ∷ Full ∷ []) h in
      let second = find-past (applies state (Connect source destination)) NoDestination (NotOutput ∷ NotInput ∷ TypeDiffers ∷ Inactive ∷ Exists ∷ Full ∷ []) first.1 in
      Each-append (HasEnds here) state.edges (record { source = source; destination = destination; mark = mark_of state.edges source destination } ∷ []) old
      ((named-port state source first.0, named-port state destination second.0), tt)
  EdgesHaveEnds-effect (Disconnect source destination) h = left-here (λ edge. not (bytes_eq edge.source source && bytes_eq edge.destination destination))
  EdgesHaveEnds-effect _ h = old

  EdgesHaveEnds-after : (command : Command) → EdgesHaveEnds (after state number command)
  EdgesHaveEnds-after command = go (refusal state command) refl
    where
      go : (r : Option Refusal) → refusal state command ≡ r → EdgesHaveEnds (if is_none r then effect state number command else state)
      go None e = EdgesHaveEnds-effect command e
      go (Some r) e = old

pub EdgesHaveEnds-replay : (state : State) (changes : List Change) → EdgesHaveEnds state → EdgesHaveEnds (replay state changes)
EdgesHaveEnds-replay state [] h = h
EdgesHaveEnds-replay state (change ∷ changes) h = EdgesHaveEnds-replay (after state change.number change.command) changes (EdgesHaveEnds-after state change.number h change.command)

-- ---- latencies of states that changes led to

clients-of : (ports : List OpenPort) (name : List ℕ) → Contains (port_names ports) name → Contains (map (λ (port : OpenPort). client_part port.name) ports) (client_part name)
clients-of ports name c = subst (λ ns. Contains ns (client_part name)) (twice ports) (Contains-map client_part (port_names ports) name c)
  where
    twice : (ps : List OpenPort) → map client_part (port_names ps) ≡ map (λ (port : OpenPort). client_part port.name) ps
    twice [] = refl
    twice (p ∷ ps) = ap (λ ns. client_part p.name ∷ ns) (twice ps)

mapped-length : {X Y : Type 0} (f : X → Y) (xs : List X) → length (map f xs) ≡ length xs
mapped-length f [] = refl
mapped-length f (x ∷ xs) = ap suc (mapped-length f xs)

-- of a port of such a state: looking deeper than there are clients, `system` among them, changes nothing
pub range_of-enough : (capture playback : ℕ) (changes : List Change) (d : ℕ) (mode : Mode) (port : OpenPort)
    → length (replay (opening capture playback) changes).clients ≤ d → Contains (replay (opening capture playback) changes).ports port
    → range_at (wiring_of (replay (opening capture playback) changes)) d mode port ≡ range_of (wiring_of (replay (opening capture playback) changes)) mode port
range_of-enough capture playback changes d mode port h c =
    let state : State = replay (opening capture playback) changes in
    let wiring : Wiring = wiring_of state in
    let free : HasNoLoop state.edges = HasNoLoop-replay (opening capture playback) changes (HasNoLoop-opening capture playback) in
    let owned : BelongsToOpen state = BelongsToOpen-replay (opening capture playback) changes (BelongsToOpen-opening capture playback) in
    let ended : EdgesHaveEnds state = EdgesHaveEnds-replay (opening capture playback) changes tt in
    let by_client : List (List ℕ) = client_names state.clients in
    let by_port : List (List ℕ) = map (λ (p : OpenPort). client_part p.name) state.ports in
    let deep : ℕ = d + length state.ports in
    let first : range_at wiring d mode port ≡ range_at wiring deep mode port =
    range_at-enough wiring free by_client
    (λ edge m. (Each-contains (IsOfOpen by_client) state.edges edge owned.edges m).0) (λ edge m. (Each-contains (IsOfOpen by_client) state.edges edge owned.edges m).1)
    d deep mode port (omega (arith, h, mapped-length (λ (x : OpenClient). x.name) state.clients)) (omega (arith, h, mapped-length (λ (x : OpenClient). x.name) state.clients))
    (Each-contains (λ (p : OpenPort). Contains by_client (client_part p.name)) state.ports port owned.ports c) in
    let second : range_at wiring deep mode port ≡ range_at wiring (length state.ports) mode port =
    range_at-enough wiring free by_port
    (λ edge m. clients-of state.ports edge.source (Each-contains (HasEnds (port_names state.ports)) state.edges edge ended m).0)
    (λ edge m. clients-of state.ports edge.destination (Each-contains (HasEnds (port_names state.ports)) state.edges edge ended m).1)
    deep (length state.ports) mode port (omega (arith, mapped-length (λ (p : OpenPort). client_part p.name) state.ports)) (omega (arith, mapped-length (λ (p : OpenPort). client_part p.name) state.ports))
    (Contains-map (λ (p : OpenPort). client_part p.name) state.ports port c) in
    first ∙ second ∙ range_at-is wiring mode port
