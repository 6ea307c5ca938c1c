-- The edges of a state and the links of a plan tell apart, so that places are counts.
--     AreApart-replay      no two edges of a state that changes led to have the same ends
--     edge_place-at, link_place-at      an edge's and a link's place is where it stands
use Rattle.std.proofs.Common.{map-id, inl, inr, ◌⊎◌, ◌==◌, eq-eqb, eqb-true, get_or, ◌≡◌, ℕ, ◌<◌, Bool, true, false, cond, ◌&&◌, List, [], ◌∷◌, ◌++◌, length, map, filter, find, Contains, is_none, is_some, nat_lt, refl, sym, ◌∙◌, ap, ap₂, subst, arith, append-nil, append_assoc}
use Rattle.session_model.specs.jack_types.specs.declared.ports.Link.{Link}
use Rattle.session_model.specs.Activation.{AreLinks, link_at, no_link, incoming}
use Rattle.session_model.specs.Samples.{below}
use Rattle.std.proofs.lemmas.Bool.{cases_order}
use Rattle.session_laws.proofs.PlaceLemmas.{filter-contains}
use Rattle.session_laws.proofs.SequentialLemmas.{Contains-below}
use Rattle.std.specs.Str.{bytes_eq}
use Rattle.std.proofs.lemmas.List.{map-append, get_or_default}
use Rattle.std.proofs.lemmas.List.Sums.{position_or_len_is}
use Rattle.session_model.specs.jack_types.specs.declared.commands.Change.{Change}
use Rattle.session_model.specs.jack_types.specs.declared.commands.Command.{Command}
use Rattle.session_model.specs.jack_types.specs.declared.commands.Command.TheVariants.{Open, Close, Activate, Deactivate, Register, Unregister, Connect, Disconnect, Start, Stop, Locate, Timeout, Slow, Timebase, TimebaseIf, Release, Latency}
use Rattle.session_model.specs.jack_types.specs.declared.replies.Refusal.TheVariants.{Exists}
use Rattle.session_model.specs.Benches.{edge_place, link_place}
use Rattle.session_model.specs.Commands.{effect, after, replay, refusal, refusals_of, applies, edges_left}
use Rattle.session_model.specs.Loops.{mark_of, tested_edge, remark_from, remark}
use Rattle.session_model.specs.Soundness.{Apart}
use Rattle.session_model.specs.State.{State, Connection, edge_between, is_direct, opening}
use Rattle.session_laws.proofs.CycleLemmas.{bytes_same, filter-passes}
use Rattle.session_laws.proofs.LoopLemmas.{and_parts, and_true}
use Rattle.session_laws.proofs.PlanLemmas.{Distinct-from_Apart, Apart-below}
use Rattle.session_laws.proofs.SoundLemmas.{Apart-filter, Apart-push, map-contains, contains-map, find-none, refused_not}
use lib.Pointwise.{bytes_decides}

abbrev pub ends_of : Connection → List ℕ × List ℕ
ends_of edge = (edge.source, edge.destination)

module _ {X K : Type 0} (key : X → K) where
  Contains-key : (xs : List X) (x : X) → Contains xs x → Contains (map key xs) (key x)
  Contains-key xs x m = map-contains key xs x m

  Apart-to_keys : (xs : List X) → Apart key xs → Apart (λ (k : K). k) (map key xs)
  Apart-to_keys [] h = tt
  Apart-to_keys (x ∷ xs) h = ((λ k m e. let w = contains-map key xs k m in h.0 w.0 w.1 (e ∙ sym w.2)), Apart-to_keys xs h.1)

  Apart-from_keys : (xs : List X) → Apart (λ (k : K). k) (map key xs) → Apart key xs
  Apart-from_keys [] h = tt
  Apart-from_keys (x ∷ xs) h = ((λ y m e. h.0 (key y) (Contains-key xs y m) e), Apart-from_keys xs h.1)

  -- lists of the same keys are apart alike
  Apart-same_keys : (xs ys : List X) → map key xs ≡ map key ys → Apart key ys → Apart key xs
  Apart-same_keys xs ys e h = Apart-from_keys xs (subst (Apart (λ (k : K). k)) (sym e) (Apart-to_keys ys h))

remark_from-keys : (tested edges : List Connection) → map ends_of (remark_from tested edges) ≡ map ends_of (tested ++ edges)
remark_from-keys tested [] = ap (map ends_of) (sym (append-nil tested))
remark_from-keys tested (edge ∷ edges) =
    remark_from-keys (tested ++ tested_edge tested edge edges ∷ []) edges
    ∙ ap (map ends_of) (append_assoc tested (tested_edge tested edge edges ∷ []) edges)
    ∙ map-append ends_of tested (tested_edge tested edge edges ∷ edges)
    ∙ ap (λ ends. map ends_of tested ++ ends ∷ map ends_of edges) (kept (is_direct edge.mark))
    ∙ sym (map-append ends_of tested (edge ∷ edges))
  where
    kept : (b : Bool) → ends_of (cond b edge (record edge { mark = mark_of (tested ++ edge ∷ edges) edge.source edge.destination })) ≡ ends_of edge
    kept true = refl
    kept false = refl

abbrev pub AreApart : List Connection → Type 0
AreApart edges = Apart ends_of edges

AreApart-edges_left : (stays : Connection → Bool) (edges : List Connection) → AreApart edges → AreApart (edges_left stays edges)
AreApart-edges_left stays edges h = go (nat_lt (length (filter stays edges)) (length edges))
  where
    go : (b : Bool) → AreApart (cond b (remark (filter stays edges)) edges)
    go true = Apart-same_keys ends_of (remark (filter stays edges)) (filter stays edges) (remark_from-keys [] (filter stays edges)) (Apart-filter ends_of stays edges h)
    go false = h

AreApart-effect : (state : State) (number : ℕ) (command : Command) → AreApart state.edges → is_none (find (applies state command) (refusals_of command)) ≡ true → AreApart (effect state number command).edges
AreApart-effect state number (Close client) h accepted = AreApart-edges_left _ state.edges h
AreApart-effect state number (Deactivate client) h accepted = AreApart-edges_left _ state.edges h
AreApart-effect state number (Unregister port) h accepted = AreApart-edges_left _ state.edges h
AreApart-effect state number (Disconnect source destination) h accepted = AreApart-edges_left _ state.edges h
AreApart-effect state number (Connect source destination) h accepted =
    Apart-push ends_of state.edges (record { source = source; destination = destination; mark = mark_of state.edges source destination }) h
    (λ edge m e. find-none (λ (other : Connection). bytes_eq other.source source && bytes_eq other.destination destination) state.edges edge fresh m
    (and_true (bytes_eq edge.source source) (bytes_eq edge.destination destination)
    ((bytes_decides edge.source source).1 (ap (λ (ends : List ℕ × List ℕ). ends.0) e)) ((bytes_decides edge.destination destination).1 (ap (λ (ends : List ℕ × List ℕ). ends.1) e))))
  where
    fresh : is_some (edge_between state source destination) ≡ false
    fresh = refused_not state (Connect source destination) (refusals_of (Connect source destination)) Exists accepted (6, omega arith, refl)
AreApart-effect state number (Open client kind) h accepted = h
AreApart-effect state number (Activate client) h accepted = h
AreApart-effect state number (Register port way kind) h accepted = h
AreApart-effect state number Start h accepted = h
AreApart-effect state number Stop h accepted = h
AreApart-effect state number (Locate frame) h accepted = h
AreApart-effect state number (Timeout cycles) h accepted = h
AreApart-effect state number (Slow client cycles) h accepted = h
AreApart-effect state number (Timebase client mbpm beats ticks) h accepted = h
AreApart-effect state number (TimebaseIf client mbpm beats ticks) h accepted = h
AreApart-effect state number (Release client) h accepted = h
AreApart-effect state number (Latency mode port) h accepted = h

AreApart-after : (state : State) (number : ℕ) (command : Command) → AreApart state.edges → AreApart (after state number command).edges
AreApart-after state number command h = go (is_none (refusal state command)) refl
  where
    go : (b : Bool) → is_none (refusal state command) ≡ b → AreApart (cond b (effect state number command) state).edges
    go true e = AreApart-effect state number command h e
    go false e = h

pub AreApart-replay : (state : State) (changes : List Change) → AreApart state.edges → AreApart (replay state changes).edges
AreApart-replay state [] h = h
AreApart-replay state (change ∷ changes) h = AreApart-replay (after state change.number change.command) changes (AreApart-after state change.number change.command h)

pub AreApart-opening : (capture playback : ℕ) → AreApart (opening capture playback).edges
AreApart-opening capture playback = tt

-- an edge's place is where it stands
pub edge_place-at : (edges : List Connection) (i : ℕ) (d : Connection) → AreApart edges → i < length edges → edge_place (get_or edges i d) edges ≡ i
edge_place-at edges i d h within = position_or_len_is test edges i d (omega (arith, within)) before (λ l. here)
  where
    test : Connection → Bool
    test other = bytes_eq other.source (get_or edges i d).source && bytes_eq other.destination (get_or edges i d).destination

    same : (edge : Connection) → test edge ≡ true → ends_of edge ≡ ends_of (get_or edges i d)
    same edge t =
        let both = and_parts (bytes_eq edge.source (get_or edges i d).source) (bytes_eq edge.destination (get_or edges i d).destination) t in
        ap₂ (λ (source destination : List ℕ). (source, destination)) (bytes_same edge.source (get_or edges i d).source both.0) (bytes_same edge.destination (get_or edges i d).destination both.1)

    here : test (get_or edges i d) ≡ true
    here = and_true (bytes_eq (get_or edges i d).source (get_or edges i d).source) (bytes_eq (get_or edges i d).destination (get_or edges i d).destination)
        ((bytes_decides (get_or edges i d).source (get_or edges i d).source).1 refl) ((bytes_decides (get_or edges i d).destination (get_or edges i d).destination).1 refl)

    before : (k : ℕ) → k < i → test (get_or edges k d) ≡ false
    before k l = go (test (get_or edges k d)) refl
      where
        go : (b : Bool) → test (get_or edges k d) ≡ b → test (get_or edges k d) ≡ false
        go false t = t
        go true t =
            let one : k ≡ i = Distinct-from_Apart ends_of edges h k i d (omega (arith, l, within)) within (same (get_or edges k d) t) in
            absurd (apart one l)
          where
            apart : k ≡ i → k < i → ⊥
            apart p q = omega (arith, p, q)

below-apart : (n : ℕ) → Apart (λ (k : ℕ). k) (below n)
below-apart n = subst (Apart (λ (k : ℕ). k)) (map-id (below n)) (Apart-below (λ (k : ℕ). k) (λ k. k) n (λ i j p q e. e))

-- a link's place among those into its node is where it stands
pub link_place-at : (nodes : ℕ) (links : List Link) (n i : ℕ) → AreLinks nodes links → i < length (incoming links n) → link_place links (link_at links (get_or (incoming links n) i 0)).from n ≡ i
link_place-at nodes links n i are within = position_or_len_is test (incoming links n) i 0 (omega (arith, within)) before (λ l. eq-eqb (link_at links (at i)).from (link_at links (at i)).from refl)
  where
    at : ℕ → ℕ
    at k = get_or (incoming links n) k 0

    test : ℕ → Bool
    test l = (link_at links l).from == (link_at links (at i)).from

    listed : (k : ℕ) → k < length (incoming links n) → Contains (incoming links n) (at k)
    listed k h = (k, h, get_or_default (incoming links n) k (at k) 0 h)

    into : (k : ℕ) → k < length (incoming links n) → (link_at links (at k)).to ≡ n
    into k h = eqb-true (link_at links (at k)).to n (filter-passes (λ l. (link_at links l).to == n) (below (length links)) (at k) (listed k h))

    low : (k : ℕ) → k < length (incoming links n) → at k < length links
    low k h = Contains-below (length links) (at k) (filter-contains (λ l. (link_at links l).to == n) (below (length links)) (at k) (listed k h))

    one : (a b : ℕ) → a < length links → b < length links → link_at links a ≡ link_at links b → a ≡ b
    one a b p q e = go (cases_order a b)
      where
        go : (a ≡ b) ⊎ ((a < b) ⊎ (b < a)) → a ≡ b
        go (inl same) = same
        go (inr (inl less)) = absurd (are.distinct a b no_link less q e)
        go (inr (inr more)) = absurd (are.distinct b a no_link more p (sym e))

    before : (k : ℕ) → k < i → test (at k) ≡ false
    before k l = go (test (at k)) refl
      where
        inside : k < length (incoming links n)
        inside = omega (arith, l, within)

        go : (b : Bool) → test (at k) ≡ b → test (at k) ≡ false
        go false t = t
        go true t =
            let from : (link_at links (at k)).from ≡ (link_at links (at i)).from = eqb-true (link_at links (at k)).from (link_at links (at i)).from t in
            let same : link_at links (at k) ≡ link_at links (at i) = ap₂ made from (into k inside ∙ sym (into i within)) in
            let places : at k ≡ at i = one (at k) (at i) (low k inside) (low i within) same in
            let twice : k ≡ i = Distinct-from_Apart (λ (m : ℕ). m) (incoming links n) (Apart-filter (λ (m : ℕ). m) (λ l. (link_at links l).to == n) (below (length links)) (below-apart (length links))) k i 0 inside within places in
            absurd (apart twice l)
          where
            made : ℕ → ℕ → Link
            made from to = record { from = from; to = to }

            apart : k ≡ i → k < i → ⊥
            apart p q = omega (arith, p, q)
