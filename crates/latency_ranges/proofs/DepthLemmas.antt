-- Ranges over clients, as deep as it goes.
--     shown-handed      a round over edges and clients goes one client deeper
--     shown-settled      a round that changes nothing is the last
use Rattle.std.proofs.Common.{◌≡◌, ℕ, zero, suc, ◌+◌, ◌-◌, ◌*◌, ◌^◌, ◌<◌, ◌≤◌, ◌⊎◌, inl, inr, min, Bool, true, false, cond, List, length, map, filter, find, slice_get, Option, Some, None, All, Contains, refl, sym, ◌∙◌, ap, subst, arith}
use Rattle.std.specs.Option.{option_map_or}
use Rattle.std.proofs.lemmas.Bool.{cases_lt}
use Rattle.std.proofs.lemmas.Option.{slice_get-get_or}
use Rattle.jack_types.specs.declared.ports.Delay.{Delay}
use Rattle.jack_types.specs.declared.ports.Edge.{Edge}
use Rattle.jack_types.specs.declared.ports.Mode.{Mode}
use Rattle.jack_types.specs.declared.ports.Node.{Node}
use Rattle.jack_types.specs.declared.ports.Port.{Port}
use Rattle.jack_types.specs.declared.ports.PortId.{PortId}
use Rattle.jack_types.specs.declared.ports.Range.{Range}
use Rattle.session_model.specs.Ids.{delay_at, port_with, same_id_node}
use Rattle.session_model.specs.Latencies.{joined, later_by, no_range}
use Rattle.session_laws.proofs.CycleLemmas.{find-contains}
use Rattle.session_laws.proofs.ListLemmas.{Contains-at, Each-all, Each-map}
use Rattle.session_laws.proofs.PlaceLemmas.{map-same}
use Rattle.latency_ranges.specs.Graphs.{IsGraph, is_device}
use Rattle.latency_ranges.specs.Tables.{Shows, beside, brought, capped, far_end, handed, handed_within, held, is_beside, is_edge_at, is_far, range_to}
use Rattle.latency_ranges.proofs.JoinLemmas.{IsUpTo, joined-most}
use Rattle.latency_ranges.proofs.PortLemmas.{brought-same}

no-most : (limit : ℕ) → IsUpTo limit no_range
no-most limit = record { least = omega arith; most = omega arith }

capped-same : (limit : ℕ) (range : Range) → IsUpTo limit range → limit < 2 ^ 32 → capped range ≡ range
capped-same limit range h low = λ i. record { min = least i; max = most i }
  where
    least : min range.min (2 ^ 32 - 1) ≡ range.min
    least = omega (arith, h.least, low)

    most : min range.max (2 ^ 32 - 1) ≡ range.max
    most = omega (arith, h.most, low)

module _ (ports : List Port) (edges : List Edge) (delays : List Delay) (mode : Mode) (graph : IsGraph ports edges) (short : All (λ (delay : Delay). delay.frames ≤ 4096) delays) (few : length ports ≤ 2 ^ 16) where
  abbrev within : ℕ → Port → Range
  within depth = handed_within ports edges delays mode depth

  delay-short : (node : Node) → delay_at delays node ≤ 4096
  delay-short node = go (find (λ (delay : Delay). same_id_node delay.node node) delays) refl
    where
      go : (o : Option Delay) → find (λ (delay : Delay). same_id_node delay.node node) delays ≡ o → option_map_or (λ (delay : Delay). delay.frames) o 0 ≤ 4096
      go None e = omega arith
      go (Some delay) e =
          let m : Contains delays delay = find-contains (λ (d : Delay). same_id_node d.node node) delays delay e in
          subst (λ (d : Delay). d.frames ≤ 4096) m.2 (short m.0 delay m.1)

  range_to-most : (limit : ℕ) (range : Port → Range) → ((port : Port) → IsUpTo limit (range port)) → (id : PortId) → IsUpTo limit (range_to range ports id)
  range_to-most limit range most id = go (port_with ports id)
    where
      go : (o : Option Port) → IsUpTo limit (option_map_or range o no_range)
      go None = no-most limit
      go (Some port) = most port

  brought-most : (limit : ℕ) (range : Port → Range) → ((port : Port) → IsUpTo limit (range port)) → (port : Port) → IsUpTo limit (brought ports edges mode range port)
  brought-most limit range most port =
      joined-most limit (map (λ (edge : Edge). range_to range ports (far_end mode edge)) (filter (is_edge_at mode port.id) edges))
      (Each-map (IsUpTo limit) (λ (edge : Edge). range_to range ports (far_end mode edge)) (filter (is_edge_at mode port.id) edges)
      (Each-all (λ (edge : Edge). IsUpTo limit (range_to range ports (far_end mode edge))) (λ edge. range_to-most limit range most (far_end mode edge)) (filter (is_edge_at mode port.id) edges)))

  later-most : (limit : ℕ) (range : Port → Range) → ((port : Port) → IsUpTo limit (range port)) → (node : Node) → IsUpTo (limit + 4096) (later_by (delay_at delays node) (beside ports mode range node))
  later-most limit range most node =
      let joins : IsUpTo limit (beside ports mode range node) =
      joined-most limit (map range (filter (is_beside mode node) ports)) (Each-map (IsUpTo limit) range (filter (is_beside mode node) ports) (Each-all (λ (port : Port). IsUpTo limit (range port)) most (filter (is_beside mode node) ports))) in
      record { least = omega (arith, joins.least, delay-short node); most = omega (arith, joins.most, delay-short node) }

  handed-most : (limit : ℕ) (range : Port → Range) → ((port : Port) → IsUpTo limit (range port)) → (node : Node) → IsUpTo (limit + 4096) (handed ports delays mode range node)
  handed-most limit range most node = go (is_device node)
    where
      go : (b : Bool) → IsUpTo (limit + 4096) (cond b no_range (later_by (delay_at delays node) (beside ports mode range node)))
      go true = no-most (limit + 4096)
      go false = later-most limit range most node

  held-is : (limit : ℕ) (range : Port → Range) → ((port : Port) → IsUpTo limit (range port)) → limit + 4096 < 2 ^ 32 → (node : Node) → held ports delays mode range node ≡ handed ports delays mode range node
  held-is limit range most low node = ap (cond (is_device node) no_range) (capped-same (limit + 4096) (later_by (delay_at delays node) (beside ports mode range node)) (later-most limit range most node) low)

  within-most : (depth : ℕ) (port : Port) → IsUpTo (4096 * depth) (within depth port)
  within-most zero port = no-most (4096 * 0)
  within-most (suc depth) port =
      let most : IsUpTo (4096 * depth + 4096) (within (suc depth) port) =
      handed-most (4096 * depth) (brought ports edges mode (within depth)) (brought-most (4096 * depth) (within depth) (within-most depth)) port.node in
      record { least = omega (arith, most.least); most = omega (arith, most.most) }

  -- a round over edges and clients goes one client deeper
  pub shown-handed : (depth : ℕ) (table : List Range) → depth < length ports → Shows (is_far mode) (λ (port : Port). held ports delays mode (brought ports edges mode (within depth)) port.node) ports table
      → Shows (is_far mode) (within (suc depth)) ports table
  shown-handed depth table low shown k port at t =
      shown k port at t
      ∙ held-is (4096 * depth) (brought ports edges mode (within depth)) (brought-most (4096 * depth) (within depth) (within-most depth)) (omega (arith, low, few)) port.node

  -- where one more client changes nothing, no more do
  stays : (depth : ℕ) → ((port : Port) → Contains ports port → is_far mode port ≡ true → within depth port ≡ within (suc depth) port) → (n : ℕ) → depth ≤ n
      → (port : Port) → Contains ports port → is_far mode port ≡ true → within n port ≡ within depth port
  stays depth same zero low port m t = ap (λ n. within n port) (none depth low)
    where
      none : (d : ℕ) → d ≤ 0 → 0 ≡ d
      none d h = omega (arith, h)
  stays depth same (suc n) low port m t = go (cases_lt n depth) (stays depth same n)
    where
      go : (n < depth) ⊎ (depth ≤ n) → (depth ≤ n → (p : Port) → Contains ports p → is_far mode p ≡ true → within n p ≡ within depth p) → within (suc n) port ≡ within depth port
      go (inl above) rest = ap (λ k. within k port) (next n depth above low)
        where
          next : (n d : ℕ) → n < d → d ≤ suc n → suc n ≡ d
          next n d h k = omega (arith, h, k)
      go (inr more) rest =
          ap (λ (ranges : List Range). cond (is_device port.node) no_range (later_by (delay_at delays port.node) (joined ranges)))
          (map-same (brought ports edges mode (within n)) (brought ports edges mode (within depth)) (filter (is_beside mode port.node) ports)
          (λ p. brought-same ports edges graph mode (within n) (within depth) p (rest more)))
          ∙ sym (same port m t)

  -- a round that changes nothing is the last
  pub shown-settled : (depth : ℕ) (table : List Range) → depth < length ports → Shows (is_far mode) (within depth) ports table → Shows (is_far mode) (within (suc depth)) ports table
      → Shows (is_far mode) (within (length ports)) ports table
  shown-settled depth table low shown next k port at t =
      shown k port at t
      ∙ sym (stays depth (λ p m far. let here : slice_get ports m.0 ≡ Some p = slice_get-get_or ports m.0 p m.1 ∙ ap Some m.2 in sym (shown m.0 p here far) ∙ next m.0 p here far)
      (length ports) (omega (arith, low)) port (Contains-at ports k port at) t)
