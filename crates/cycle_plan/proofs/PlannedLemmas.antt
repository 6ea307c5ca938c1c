-- A plan that was laid out anew is the plan of its changes.
--     IsPlanned-laid_out      nodes and links laid out over the replay of lawful changes make a plan
--     counts-are      how many links come into a node, by the links
--     replay-more      one change more
use Rattle.std.proofs.Common.{◌≡◌, ℕ, suc, zero, ◌+◌, ◌<◌, ◌≤◌, ◌^◌, ◌==◌, ◌↔◌, Bool, true, false, cond, List, [], ◌∷◌, ◌++◌, length, map, filter, filter_map, fold, take, get_or, count_by, Contains, IsPermutation, Option, Some, None, refl, sym, ◌∙◌, ap, ap₂, subst, arith, length-append}
use Rattle.std.proofs.lemmas.List.{length-map, length-take-le, take_more}
use Rattle.std.proofs.lemmas.Option.{none-some, slice_get-get_or}
use Rattle.std.proofs.lemmas.List.Elements.{filter-append}
use Rattle.std.proofs.lemmas.List.Sums.{fold_push, length-filter}
use Rattle.graph_word.specs.jack_types.specs.Names.{client_part}
use Rattle.graph_word.specs.jack_types.specs.declared.commands.Change.{Change}
use Rattle.graph_word.specs.jack_types.specs.declared.ports.Client.{Client}
use Rattle.graph_word.specs.jack_types.specs.declared.ports.Edge.{Edge}
use Rattle.graph_word.specs.jack_types.specs.declared.ports.Link.{Link}
use Rattle.graph_word.specs.jack_types.specs.declared.ports.Port.{Port}
use Rattle.graph_word.specs.jack_types.specs.declared.ports.Mark.TheVariants.{Direct}
use Rattle.graph_word.specs.declared.plans.Base.{Base}
use Rattle.graph_word.specs.session_model.specs.Activation.{AreLinks, incoming, link_at, no_link}
use Rattle.graph_word.specs.session_model.specs.Benches.{IsPlan, place_in}
use Rattle.graph_word.specs.session_model.specs.Commands.{after, replay}
use Rattle.graph_word.specs.session_model.specs.Courses.{players}
use Rattle.graph_word.specs.session_model.specs.Ids.{connection, connections, node_links}
use Rattle.graph_word.specs.session_model.specs.Replies.{AreLawful, IsNext}
use Rattle.graph_word.specs.session_model.specs.Samples.{below}
use Rattle.graph_word.specs.session_model.specs.Soundness.{Apart, IsSound}
use Rattle.graph_word.specs.session_model.specs.State.{Connection, OpenClient, State, is_direct, opening}
use Rattle.port_registry.specs.session_laws.specs.LoopFree.{HasNoLoop, IsLoopFree}
use Rattle.port_registry.specs.session_laws.proofs.LoopFreeLemmas.{HasNoLoop-opening, HasNoLoop-replay}
use Rattle.port_registry.specs.session_laws.proofs.PlanLemmas.{IsPlan-from, IsSound-opening}
use Rattle.port_registry.specs.session_laws.proofs.ActivationLemmas.{length-below}
use Rattle.port_registry.specs.session_laws.proofs.SoundLemmas.{IsSound-replay, contains-map, map-contains}
use Rattle.port_registry.specs.Registered.{open_client, open_clients}
use Rattle.cycle_plan.specs.Graphs.{IsNetwork, Network, state_of}
use Rattle.cycle_plan.specs.Layouts.{CanLayOut, JoinsEdges, LaidOut, distinct, is_player, laid_out, leads_to, link_between, link_of, ordered}
use Rattle.cycle_plan.specs.Plans.{AreCounts, IsPlanned, LaysOut, Planned, leads_in, link_in, links_of, nodes_of, opening_of}
use Rattle.cycle_plan.proofs.ByNameLemmas.{IsLoopFree-network, link_in-is, listed-are, links_of-is, nodes_of-is}
use Rattle.port_registry.specs.session_laws.proofs.ListLemmas.{Each-from_contains}
use Rattle.port_registry.specs.session_laws.proofs.SerialLossLemmas.{All-from_each}
use Rattle.cycle_plan.proofs.NetworkLemmas.{AreAmong-network}
use Rattle.cycle_plan.proofs.LayoutLemmas.{IsPermutation-ordered}

-- a list that is taken whole
pub take-whole : {X : Type 0} (xs : List X) → take (length xs) xs ≡ xs
take-whole [] = refl
take-whole (x ∷ xs) = ap (λ ys. x ∷ ys) (take-whole xs)

module _ (base : Base) (changes : List Change) (capture : base.capture ≤ 8) (playback : base.playback ≤ 8) (lawful : AreLawful (opening_of base) changes) (few : length changes ≤ 4096)
    (network : Network) (is : IsNetwork network) (state : state_of network ≡ replay (opening_of base) changes)
    (nodes : List Client) (links : List Link) (laid : (let l : LaidOut = record { nodes = nodes; links = links } in l) ≡ laid_out network.held.clients network.held.ports network.set.edges)
    (joins : JoinsEdges network.held.ports nodes network.set.edges links)
    (upward : IsLoopFree (node_links network.held.ports network.set.edges) → Apart (λ (client : Client). client.id.0) network.held.clients → AreLinks (length nodes) links) where
  behind : State
  behind = replay (opening_of base) changes

  ordered_so : nodes ≡ ordered (leads_to network.held.ports network.set.edges) (filter is_player network.held.clients)
  ordered_so = ap (λ (l : LaidOut). l.nodes) laid

  its-nodes : open_clients nodes ≡ nodes_of (replay (opening_of base) changes)
  its-nodes = nodes_of-is network is nodes ordered_so ∙ ap nodes_of state

  its-links : links ≡ links_of (replay (opening_of base) changes)
  its-links =
      ap (λ (l : LaidOut). l.links) laid
      ∙ ap (λ ns. distinct (filter_map (link_of network.held.ports ns) network.set.edges)) (sym ordered_so)
      ∙ links_of-is network is nodes ordered_so
      ∙ ap links_of state

  permuted : IsPermutation (players (replay (opening_of base) changes)) (open_clients nodes)
  permuted = subst (IsPermutation (players (replay (opening_of base) changes))) (sym its-nodes) (IsPermutation-ordered (leads_in (replay (opening_of base) changes)) (players (replay (opening_of base) changes)))

  its-edges : connections network.held.ports network.set.edges ≡ (replay (opening_of base) changes).edges
  its-edges = ap (λ (s : State). s.edges) state

  joined : (link : Link) → Contains links link ↔ ((edge : Connection) × Contains (replay (opening_of base) changes).edges edge × (link_in (open_clients nodes) edge ≡ Some link))
  joined link = (
    λ m. let w = (joins link).0 m in
        (connection network.held.ports w.0, subst (λ es. Contains es (connection network.held.ports w.0)) its-edges (map-contains (connection network.held.ports) network.set.edges w.0 w.1), sym (link_in-is network is nodes ordered_so w.0 w.1) ∙ w.2),
    λ w. let v = contains-map (connection network.held.ports) network.set.edges w.0 (subst (λ es. Contains es w.0) (sym its-edges) w.1) in
        (joins link).1 (v.0, v.1, link_in-is network is nodes ordered_so v.0 v.1 ∙ ap (link_in (open_clients nodes)) v.2 ∙ w.2),
  )

  linked : (edge : Connection) (a b : ℕ) → Contains (replay (opening_of base) changes).edges edge → edge.mark ≡ Direct
      → place_in (open_clients nodes) (client_part edge.source) ≡ Some a → place_in (open_clients nodes) (client_part edge.destination) ≡ Some b → Contains links (record { from = a; to = b })
  linked edge a b m direct at to =
      (joined (record { from = a; to = b })).1
      (edge, m, ap (λ d. cond d (link_between (place_in (open_clients nodes) (client_part edge.source)) (place_in (open_clients nodes) (client_part edge.destination))) None) (ap is_direct direct) ∙ ap₂ link_between at to)

  free : IsLoopFree (node_links network.held.ports network.set.edges)
  free = IsLoopFree-network network.held is.registered network.set.edges is.ends (subst HasNoLoop (sym its-edges) (HasNoLoop-replay (opening_of base) changes (HasNoLoop-opening base.capture base.playback)))

  sound : IsSound (replay (opening_of base) changes) (length changes)
  sound = subst (λ cs. IsSound (replay (opening_of base) cs) (length changes)) (take-whole changes)
      (IsSound-replay (opening_of base) changes (IsSound-opening base.capture base.playback (omega (arith, capture)) (omega (arith, playback))) lawful (length changes) (omega arith))

  pub IsPlanned-laid_out : IsPlanned (record { base = base; changes = changes; network = network; nodes = nodes; links = links })
  IsPlanned-laid_out = record {
    few_capture = capture;
    few_playback = playback;
    lawful = lawful;
    few = few;
    network = is;
    state = state;
    nodes = its-nodes;
    listed = listed-are network is nodes ordered_so;
    links = its-links;
    moved = permuted;
    joined = joined;
    is_plan = IsPlan-from (replay (opening_of base) changes) (length changes) (open_clients nodes) links sound permuted (subst (λ n. AreLinks n links) (sym (length-map nodes open_client)) (upward free is.registered.client_ids)) linked;
  }

-- ---- counts

incoming-front : (links : List Link) (n m : ℕ) → m ≤ length links → length (filter (λ l. (link_at links l).to == n) (below m)) ≡ length (filter (λ (link : Link). link.to == n) (take m links))
incoming-front links n zero h = refl
incoming-front links n (suc m) h =
    ap length (filter-append (λ l. (link_at links l).to == n) (below m) (m ∷ []))
    ∙ length-append (filter (λ l. (link_at links l).to == n) (below m)) (filter (λ l. (link_at links l).to == n) (m ∷ []))
    ∙ ap₂ ◌+◌ (incoming-front links n m (omega (arith, h))) (go ((link_at links m).to == n))
    ∙ sym (length-append (filter (λ (link : Link). link.to == n) (take m links)) (filter (λ (link : Link). link.to == n) (get_or links m no_link ∷ [])))
    ∙ sym (ap length (filter-append (λ (link : Link). link.to == n) (take m links) (get_or links m no_link ∷ [])))
    ∙ ap (λ ls. length (filter (λ (link : Link). link.to == n) ls)) (sym (take_more links m no_link (omega (arith, h))))
    ∙ ap (λ k. length (filter (λ (link : Link). link.to == n) (take k links))) (let next : m + 1 ≡ suc m = omega arith in next)
  where
    go : (b : Bool) → length (cond b (m ∷ []) []) ≡ length (cond b (get_or links m no_link ∷ []) [])
    go true = refl
    go false = refl

pub incoming-counted : (links : List Link) (n : ℕ) → length (incoming links n) ≡ count_by (λ (link : Link). link.to == n) links
incoming-counted links n =
    incoming-front links n (length links) (omega arith)
    ∙ ap (λ ls. length (filter (λ (link : Link). link.to == n) ls)) (take-whole links)
    ∙ length-filter (λ (link : Link). link.to == n) links

-- ---- one change more

pub replay-more : (state : State) (changes : List Change) (i : ℕ) (change : Change) → i < length changes → get_or changes i change ≡ change
    → replay state (take (i + 1) changes) ≡ after (replay state (take i changes)) change.number change.command
replay-more state changes i change h e =
    ap (replay state) (take_more changes i change h ∙ ap (λ c. take i changes ++ c ∷ []) e)
    ∙ fold_push (λ (now : State) (c : Change). after now c.number c.command) state (take i changes) change

pub go_on-next : (before state : State) (kept changes : List Change) (place : ℕ) (change : Change) → AreLawful before changes → place < length changes → change ≡ get_or changes place change
    → kept ≡ take place changes → state ≡ replay before (take place changes) → IsNext state (length kept) change
go_on-next before state kept changes place change lawful within at so_far is =
    let count : length kept ≡ place = ap length so_far ∙ length-take-le place changes (omega (arith, within)) in
    let next : IsNext (replay before (take place changes)) place change = lawful place change (slice_get-get_or changes place change within ∙ ap Some (sym at)) in
    subst (λ n. IsNext state n change) (sym count) (subst (λ s. IsNext s place change) (sym is) next)

pub room-left : (f : ℕ → ℕ) (node nodes capacity most : ℕ) (items : List ℕ) → items ≡ map f (below node) → node < nodes → nodes ≤ 65 → most ≤ capacity → 65 ≤ most → length items < capacity
room-left f node nodes capacity most items so_far less few wide room =
    let count : length items ≡ node = ap length so_far ∙ length-map (below node) f ∙ length-below node in
    omega (arith, count, less, few, wide, room)

-- ---- a network that is laid out

pub CanLayOut-network : (network : Network) → IsNetwork network → length network.set.edges ≤ 512 → (clients : List Client) (ports : List Port) (edges : List Edge) → clients ≡ network.held.clients → ports ≡ network.held.ports → edges ≡ network.set.edges
    → CanLayOut clients ports edges
CanLayOut-network network is few clients ports edges e f g =
    subst (λ cs. CanLayOut cs ports edges) (sym e) (subst (λ ps. CanLayOut network.held.clients ps edges) (sym f) (subst (CanLayOut network.held.clients network.held.ports) (sym g) here))
  where
    here : CanLayOut network.held.clients network.held.ports network.set.edges
    here = record {
      among = AreAmong-network network.held is.registered network.set.edges is.ends;
      ids = All-from_each (λ (client : Client). client.id.0 ≤ 64) network.held.clients (Each-from_contains (λ (client : Client). client.id.0 ≤ 64) network.held.clients is.registered.client_ids_within);
      few = is.registered.few_clients;
      few_edges = few;
    }

pub LaysOut-network : (network : Network) → IsNetwork network → length network.set.edges ≤ 512 → (clients : List Client) (ports : List Port) (edges : List Edge) → clients ≡ network.held.clients → ports ≡ network.held.ports → edges ≡ network.set.edges
    → (laid : LaidOut) → laid ≡ laid_out clients ports edges → JoinsEdges ports laid.nodes edges laid.links
    → (IsLoopFree (node_links ports edges) → Apart (λ (client : Client). client.id.0) clients → AreLinks (length laid.nodes) laid.links)
    → length laid.nodes ≤ length clients → length laid.links ≤ length edges → LaysOut network laid
LaysOut-network network is few clients ports edges e f g laid plan joined upward nodes links = record {
  network_is = is;
  laid_is = plan ∙ ap₂ (λ cs ps. laid_out cs ps edges) e f ∙ ap (laid_out network.held.clients network.held.ports) g;
  joins = subst (λ es. JoinsEdges network.held.ports laid.nodes es laid.links) g (subst (λ ps. JoinsEdges ps laid.nodes edges laid.links) f joined);
  upward = λ free apart. upward (subst (λ ps. IsLoopFree (node_links ps edges)) (sym f) (subst (λ es. IsLoopFree (node_links network.held.ports es)) (sym g) free)) (subst (Apart (λ (client : Client). client.id.0)) (sym e) apart);
  few_nodes = let most : length network.held.clients ≤ 65 = is.registered.few_clients in let same : length clients ≡ length network.held.clients = ap length e in omega (arith, nodes, same, most);
  few_links = let same : length edges ≡ length network.set.edges = ap length g in omega (arith, links, same, few);
}

pub IsPlanned-of : (base : Base) (changes : List Change) → base.capture ≤ 8 → base.playback ≤ 8 → AreLawful (opening_of base) changes → length changes ≤ 4096
    → (network : Network) (laid : LaidOut) → LaysOut network laid → state_of network ≡ replay (opening_of base) changes
    → IsPlanned (record { base = base; changes = changes; network = network; nodes = laid.nodes; links = laid.links })
IsPlanned-of base changes capture playback lawful few network laid out state =
    IsPlanned-laid_out base changes capture playback lawful few network out.network_is state laid.nodes laid.links out.laid_is out.joins out.upward

-- a plan without changes
pub IsPlanned-opening : (base : Base) (changes : List Change) (capture playback : ℕ) → base.capture ≡ capture → base.playback ≡ playback → capture ≤ 8 → playback ≤ 8 → changes ≡ []
    → (network : Network) (laid : LaidOut) → LaysOut network laid → state_of network ≡ opening capture playback
    → IsPlanned (record { base = base; changes = changes; network = network; nodes = laid.nodes; links = laid.links })
IsPlanned-opening base changes capture playback e f few fewer empty network laid out state =
    IsPlanned-of base changes (omega (arith, e, few)) (omega (arith, f, fewer)) (subst (AreLawful (opening_of base)) (sym empty) lawful) (let none : length changes ≡ 0 = ap length empty in omega (arith, none)) network laid out
    (state ∙ ap₂ opening (sym e) (sym f) ∙ ap (replay (opening_of base)) (sym empty))
  where
    lawful : AreLawful (opening_of base) []
    lawful i change at = absurd (none-some change at)

-- a plan that went on
pub IsPlanned-filled : (base : Base) (old kept changes : List Change) (before behind : Network) (laid : LaidOut) (old_nodes : List Client) (old_links : List Link)
    → IsPlanned (record { base = base; changes = old; network = before; nodes = old_nodes; links = old_links })
    → AreLawful (opening_of base) changes → length changes ≤ 4096 → kept ≡ changes → LaysOut behind laid
    → ((state : State) → state_of before ≡ replay state old → state_of behind ≡ replay state changes)
    → IsPlanned (record { base = base; changes = kept; network = behind; nodes = laid.nodes; links = laid.links })
IsPlanned-filled base old kept changes before behind laid old_nodes old_links was lawful few same out on =
    IsPlanned-of base kept was.few_capture was.few_playback (subst (AreLawful (opening_of base)) (sym same) lawful) (subst (λ cs. length cs ≤ 4096) (sym same) few) behind laid out
    (on (opening_of base) was.state ∙ ap (replay (opening_of base)) (sym same))

pub counts-same : (laid : LaidOut) (listed : List Client) (joined : List Link) (counts : List ℕ) → AreCounts (length listed) joined counts → listed ≡ laid.nodes → joined ≡ laid.links → AreCounts (length laid.nodes) laid.links counts
counts-same laid listed joined counts are e f = are ∙ ap₂ (λ (ns : List Client) (ls : List Link). map (λ n. length (incoming ls n) + 1) (below (length ns))) e f
