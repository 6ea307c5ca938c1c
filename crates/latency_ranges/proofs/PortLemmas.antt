-- Ports by their ids: where each stands, and what a table has for it.
--     near_not-far      a port is joined over its edges, or it is not
--     one_port      two ports with one id are one
--     port_with-is      the port of an id
--     far-port      the other end of an edge
--     brought-at      a join over a table
--     length-ports      there are no more ports than ids
use Rattle.std.proofs.Common.{◌≡◌, ℕ, zero, suc, ◌^◌, ◌<◌, ◌≤◌, Bool, true, false, cond, not, ◌==◌, List, [], ◌∷◌, length, map, filter, position, slice_get, get_or, Option, Some, Contains, refl, sym, ◌∙◌, ap, arith, true≢false, eq-eqb, eqb-true}
use Rattle.std.specs.List.{position_or_len}
use Rattle.std.specs.Option.{option_map_or}
use Rattle.std.proofs.lemmas.Bool.Decides.{nat_tests}
use Rattle.std.proofs.lemmas.Option.{slice_get-get_or}
use Rattle.jack_types.specs.declared.ports.Edge.{Edge}
use Rattle.jack_types.specs.declared.ports.Mode.{Mode}
use Rattle.jack_types.specs.declared.ports.Mode.TheVariants.{Capture, Playback}
use Rattle.jack_types.specs.declared.ports.Port.{Port}
use Rattle.jack_types.specs.declared.ports.PortId.{PortId}
use Rattle.jack_types.specs.declared.ports.Range.{Range}
use Rattle.jack_types.specs.declared.ports.Way.{Way}
use Rattle.jack_types.specs.declared.ports.Way.TheVariants.{In, Out}
use Rattle.session_model.specs.Commands.{is_input}
use Rattle.session_model.specs.Ids.{open_port, port_with, way_of}
use Rattle.session_model.specs.Latencies.{joined, no_range}
use Rattle.session_model.specs.Soundness.{Apart}
use Rattle.session_laws.proofs.CycleLemmas.{map_filter-same}
use Rattle.session_laws.proofs.ListLemmas.{Contains-at, Each, Each-both, Each-filter, Each-filter_kept, Each-from_contains, filter-all}
use Rattle.session_laws.proofs.PlaceLemmas.{position-found, position-passes}
use Rattle.session_laws.proofs.PlanLemmas.{find-one}
use Rattle.session_laws.proofs.SoundLemmas.{Apart-filter, Apart-same}
use Rattle.latency_ranges.specs.Graphs.{IsGraph}
use Rattle.latency_ranges.specs.Tables.{HaveIds, Shows, at_place, at_port, bears, brought, far_end, is_edge_at, is_far, near_end, range_to}

pub way-input : (way : Way) (port : Port) → way_of port ≡ way → is_input (open_port port) ≡ is_input (record (open_port port) { way = way })
way-input way port h = ap (λ (w : Way). is_input (record (open_port port) { way = w })) h

module _ (ports : List Port) (edges : List Edge) (graph : IsGraph ports edges) where
  pub one_port : (a b : Port) → Contains ports a → Contains ports b → a.id.0 ≡ b.id.0 → a ≡ b
  one_port a b m k e = Apart-same (λ (port : Port). port.id.0) ports a b graph.ids m k e

  pub port_with-is : (port : Port) (id : PortId) → Contains ports port → port.id.0 ≡ id.0 → port_with ports id ≡ Some port
  port_with-is port id m e = find-one (λ (p : Port). p.id.0 == id.0) ports port m (eq-eqb port.id.0 id.0 e)
      (λ other k t. one_port other port k m (eqb-true other.id.0 id.0 t ∙ sym e))

  -- where the port of an id stands
  stands : (port : Port) (id : PortId) → Contains ports port → port.id.0 ≡ id.0 → (k : ℕ) × (position (bears id) ports ≡ Some k) × (slice_get ports k ≡ Some port)
  stands port id m e =
      let t : bears id port ≡ true = eq-eqb port.id.0 id.0 e in
      let k : ℕ = position_or_len (bears id) ports in
      let p : (k < length ports) × (bears id (get_or ports k port) ≡ true) = position-passes (bears id) ports port port m t in
      let at : slice_get ports k ≡ Some (get_or ports k port) = slice_get-get_or ports k port p.0 in
      let same : get_or ports k port ≡ port = one_port (get_or ports k port) port (Contains-at ports k (get_or ports k port) at) m (eqb-true (get_or ports k port).id.0 id.0 p.1 ∙ sym e) in
      (k, position-found (bears id) ports port m t, at ∙ ap Some same)

  at_port-shown : (test : Port → Bool) (range : Port → Range) (table : List Range) (port : Port) (id : PortId) → Shows test range ports table → Contains ports port → port.id.0 ≡ id.0 → test port ≡ true
      → at_port ports table id ≡ range_to range ports id
  at_port-shown test range table port id shown m e t =
      let s = stands port id m e in
      ap (at_place table) s.1 ∙ shown s.0 port s.2 t ∙ sym (ap (λ (o : Option Port). option_map_or range o no_range) (port_with-is port id m e))

  -- the other end of an edge is no join over its edges
  pub far-port : (mode : Mode) (edge : Edge) → Contains edges edge → (port : Port) × Contains ports port × (port.id.0 ≡ (far_end mode edge).0) × (is_far mode port ≡ true)
  far-port Capture edge m = let e = graph.sources edge m in (e.0, e.1, e.2, ap not (way-input Out e.0 e.3))
  far-port Playback edge m = let e = graph.destinations edge m in (e.0, e.1, e.2, ap (λ (b : Bool). not (not b)) (way-input In e.0 e.3))

  pub near-port : (mode : Mode) (edge : Edge) → Contains edges edge → (port : Port) × Contains ports port × (port.id.0 ≡ (near_end mode edge).0)
  near-port Capture edge m = let e = graph.destinations edge m in (e.0, e.1, e.2)
  near-port Playback edge m = let e = graph.sources edge m in (e.0, e.1, e.2)

  pub brought-at : (mode : Mode) (range : Port → Range) (table : List Range) (id : PortId) → Shows (is_far mode) range ports table
      → joined (map (λ (edge : Edge). at_port ports table (far_end mode edge)) (filter (is_edge_at mode id) edges)) ≡ joined (map (λ (edge : Edge). range_to range ports (far_end mode edge)) (filter (is_edge_at mode id) edges))
  brought-at mode range table id shown =
      ap joined
      (map_filter-same (is_edge_at mode id) (λ (edge : Edge). at_port ports table (far_end mode edge)) (λ (edge : Edge). range_to range ports (far_end mode edge)) edges
      (λ edge m t. let e = far-port mode edge m in at_port-shown (is_far mode) range table e.0 (far_end mode edge) shown e.1 e.2 e.3))

  -- two ranges that agree on the other ends
  pub brought-same : (mode : Mode) (range other : Port → Range) (port : Port) → ((p : Port) → Contains ports p → is_far mode p ≡ true → range p ≡ other p) → brought ports edges mode range port ≡ brought ports edges mode other port
  brought-same mode range other port agree =
      ap joined
      (map_filter-same (is_edge_at mode port.id) (λ (edge : Edge). range_to range ports (far_end mode edge)) (λ (edge : Edge). range_to other ports (far_end mode edge)) edges
      (λ edge m t.
      let e = far-port mode edge m in
      let at : port_with ports (far_end mode edge) ≡ Some e.0 = port_with-is e.0 (far_end mode edge) e.1 e.2 in
      ap (λ (o : Option Port). option_map_or range o no_range) at ∙ agree e.0 e.1 e.3 ∙ sym (ap (λ (o : Option Port). option_map_or other o no_range) at)))

-- of distinct numbers below n there are at most n
module _ {X : Type 0} (key : X → ℕ) where
  others : (n : ℕ) → X → Bool
  others n x = not (key x == n)

  length-others : (n : ℕ) (xs : List X) → Apart key xs → length xs ≤ suc (length (filter (others n) xs))
  unfolding others
  length-others n [] h = omega arith
  length-others n (x ∷ xs) h = go (key x == n) refl (length-others n xs h.1)
    where
      go : (b : Bool) → (key x == n) ≡ b → length xs ≤ suc (length (filter (others n) xs)) → length (x ∷ xs) ≤ suc (length (cond (not b) (x ∷ filter (others n) xs) (filter (others n) xs)))
      go true e rest =
          let all : filter (others n) xs ≡ xs = filter-all (others n) xs (Each-from_contains (λ y. others n y ≡ true) xs (λ y m. apart y m (key y == n) refl)) in
          let long : length (filter (others n) xs) ≡ length xs = ap length all in
          omega (arith, long)
        where
          apart : (y : X) → Contains xs y → (b : Bool) → (key y == n) ≡ b → not b ≡ true
          apart y m true f = absurd (h.0 y m (eqb-true (key x) n e ∙ sym (eqb-true (key y) n f)))
          apart y m false f = refl
      go false e rest = omega (arith, rest)

  length-below : (n : ℕ) (xs : List X) → Apart key xs → Each (λ x. key x < n) xs → length xs ≤ n
  unfolding others
  length-below n [] h below = omega arith
  length-below zero (x ∷ xs) h below = absurd (none below.0)
    where
      none : {m : ℕ} → m < 0 → ⊥
      none p = omega arith
  length-below (suc n) (x ∷ xs) h below =
      let fewer : length (filter (others n) (x ∷ xs)) ≤ n = length-below n (filter (others n) (x ∷ xs)) (Apart-filter key (others n) (x ∷ xs) h)
      (Each-both (λ y. key y < suc n) (λ y. others n y ≡ true) (λ y. key y < n) (λ y p q. smaller y p q) (filter (others n) (x ∷ xs))
      (Each-filter_kept (λ y. key y < suc n) (others n) (x ∷ xs) below) (Each-filter (λ y. others n y ≡ true) (others n) (x ∷ xs) (λ y t. t))) in
      let more : length (x ∷ xs) ≤ suc (length (filter (others n) (x ∷ xs))) = length-others n (x ∷ xs) h in
      omega (arith, fewer, more)
    where
      smaller : (y : X) → key y < suc n → not (key y == n) ≡ true → key y < n
      smaller y p q = go (key y == n) refl q
        where
          go : (b : Bool) → (key y == n) ≡ b → not b ≡ true → key y < n
          go true e f = absurd (true≢false (sym f))
          go false e f = grind (arith, nat_tests)

pub length-ports : (ports : List Port) (edges : List Edge) → IsGraph ports edges → HaveIds (length ports) ports → length ports ≤ 2 ^ 16
length-ports ports edges graph ids =
    length-below (λ (port : Port). port.id.0) (2 ^ 16) ports graph.ids
    (Each-from_contains (λ (port : Port). port.id.0 < 2 ^ 16) ports (λ port m. ids m.0 port m.1 (slice_get-get_or ports m.0 port m.1 ∙ ap Some m.2)))
