-- A latency looks no deeper than there are clients, since direct edges form no loop.
--     output_range-enough, input_range-enough      any depth of at least the number of clients gives the same range
--     range_of-enough      so does a range, at any depth of at least the number of ports
use Rattle.std.proofs.Common.{◌≡◌, ℕ, zero, suc, ◌<◌, ◌≤◌, ◌≢◌, Bool, true, false, cond, not, ◌&&◌, ◌⊎◌, inl, inr, List, [], ◌∷◌, ◌++◌, length, map, filter, Contains, if◌then◌else◌, refl, sym, ◌∙◌, ap, ap₂, subst, arith, true≢false}
use Rattle.std.specs.Str.{bytes_eq}
use lib.Pointwise.{bytes_decides}
use Rattle.session_model.specs.jack_types.specs.Names.{client_part}
use Rattle.session_model.specs.jack_types.specs.declared.ports.Mode.{Mode}
use Rattle.session_model.specs.jack_types.specs.declared.ports.Mode.TheVariants.{Capture, Playback}
use Rattle.session_model.specs.jack_types.specs.declared.ports.Range.{Range}
use Rattle.session_model.specs.Commands.{is_input}
use Rattle.session_model.specs.Latencies.{Wiring, no_range, joined, later_by, direct_into, direct_from, inputs_of, outputs_of, output_range, input_range, range_of}
use Rattle.session_model.specs.Loops.{IsPath, Leads, direct_links}
use Rattle.session_model.specs.State.{NamedNode, CaptureNode, PlaybackNode, ClientNode, OpenPort, Connection, source_node, destination_node, is_direct, is_system}
use Rattle.session_laws.proofs.ListLemmas.{Each, Each-both, Each-filter, Each-filter_kept, Each-from_contains, Contains-kept}
use Rattle.session_laws.proofs.LoopLemmas.{IsPath-append, and_parts, Contains-cases}
use Rattle.session_laws.proofs.LoopFreeLemmas.{HasNoLoop, link_of, direct_links-contains, contains-direct_links}

map-same : {X Y : Type 0} (f g : X → Y) (xs : List X) → Each (λ x. f x ≡ g x) xs → map f xs ≡ map g xs
map-same f g [] h = refl
map-same f g (x ∷ xs) h = ap₂ (λ y ys. y ∷ ys) h.0 (map-same f g xs h.1)

map-length : {X Y : Type 0} (f : X → Y) (xs : List X) → length (map f xs) ≡ length xs
map-length f [] = refl
map-length f (x ∷ xs) = ap suc (map-length f xs)

-- without a name
abbrev pub without : List ℕ → List (List ℕ) → List (List ℕ)
without name names = filter (λ other. not (bytes_eq other name)) names

filter-le : {X : Type 0} (p : X → Bool) (xs : List X) → length (filter p xs) ≤ length xs
filter-le p [] = omega arith
filter-le p (x ∷ xs) = go (p x) (filter-le p xs)
  where
    go : (b : Bool) → length (filter p xs) ≤ length xs → length (cond b (x ∷ filter p xs) (filter p xs)) ≤ length (x ∷ xs)
    go true h = omega (arith, h)
    go false h = omega (arith, h)

without-shorter : (name : List ℕ) (names : List (List ℕ)) → Contains names name → length (without name names) < length names
without-shorter name [] c = absurd (none c.1)
  where
    none : {n : ℕ} → n < 0 → ⊥
    none q = omega arith
without-shorter name (first ∷ names) c = go (bytes_eq first name) refl (Contains-cases first name names c) (without-shorter name names)
  where
    go : (b : Bool) → bytes_eq first name ≡ b → (first ≡ name) ⊎ Contains names name → (Contains names name → length (without name names) < length names)
        → length (cond (not b) (first ∷ without name names) (without name names)) < length (first ∷ names)
    go true e c later = omega (arith, filter-le (λ other. not (bytes_eq other name)) names)
    go false e (inl s) later = absurd (true≢false (sym ((bytes_decides first name).1 s) ∙ e))
    go false e (inr d) later = omega (arith, later d)

without-contains : (name x : List ℕ) (names : List (List ℕ)) → x ≢ name → Contains names x → Contains (without name names) x
without-contains name x names apart c = Contains-kept (λ other. not (bytes_eq other name)) names x (go (bytes_eq x name) refl) c
  where
    go : (b : Bool) → bytes_eq x name ≡ b → not b ≡ true
    go true e = absurd (apart ((bytes_decides x name).0 e))
    go false e = refl

same-name : (a b : List ℕ) → ClientNode a ≡ ClientNode b → a ≡ b
same-name a b e = cc

capture-client : (a : List ℕ) → CaptureNode ≡ ClientNode a → ⊥
capture-client a e = cc

playback-client : (a : List ℕ) → PlaybackNode ≡ ClientNode a → ⊥
playback-client a e = cc

source-is : (port : List ℕ) → is_system (client_part port) ≡ false → source_node port ≡ ClientNode (client_part port)
source-is port h = ap (λ (b : Bool). if b then CaptureNode else ClientNode (client_part port)) h

destination-is : (port : List ℕ) → is_system (client_part port) ≡ false → destination_node port ≡ ClientNode (client_part port)
destination-is port h = ap (λ (b : Bool). if b then PlaybackNode else ClientNode (client_part port)) h

source-client : (port x : List ℕ) → source_node port ≡ ClientNode x → client_part port ≡ x
source-client port x h = go (is_system (client_part port)) h
  where
    go : (b : Bool) → (if b then CaptureNode else ClientNode (client_part port)) ≡ ClientNode x → client_part port ≡ x
    go true e = absurd (capture-client x e)
    go false e = same-name (client_part port) x e

destination-client : (port x : List ℕ) → destination_node port ≡ ClientNode x → client_part port ≡ x
destination-client port x h = go (is_system (client_part port)) h
  where
    go : (b : Bool) → (if b then PlaybackNode else ClientNode (client_part port)) ≡ ClientNode x → client_part port ≡ x
    go true e = absurd (playback-client x e)
    go false e = same-name (client_part port) x e

module _ (wiring : Wiring) (free : HasNoLoop wiring.edges) where
  abbrev links : List (NamedNode × NamedNode)
  links = direct_links wiring.edges

  -- a direct edge between clients is a link
  linked : (edge : Connection) → Contains wiring.edges edge → is_direct edge.mark ≡ true → is_system (client_part edge.source) ≡ false → is_system (client_part edge.destination) ≡ false
      → Contains links (ClientNode (client_part edge.source), ClientNode (client_part edge.destination))
  linked edge c d s t =
      let e : link_of edge ≡ (ClientNode (client_part edge.source), ClientNode (client_part edge.destination)) = (λ i. (source-is edge.source s i, destination-is edge.destination t i)) in
      subst (λ (l : NamedNode × NamedNode). Contains links l) e (contains-direct_links wiring.edges edge c d)

  -- the names of all clients that lead to this one, and of all to which it leads
  abbrev LeadToIt : List (List ℕ) → List ℕ → Type 0
  LeadToIt names client = (x : List ℕ) → Leads links (ClientNode x) (ClientNode client) → Contains names x

  abbrev ItLeadsTo : List (List ℕ) → List ℕ → Type 0
  ItLeadsTo names client = (x : List ℕ) → Leads links (ClientNode client) (ClientNode x) → Contains names x

  no-zero : (names : List (List ℕ)) (x : List ℕ) → length names ≤ 0 → Contains names x → ⊥
  no-zero [] x h c = omega (arith, c.1)
  no-zero (n ∷ names) x h c = omega (arith, h)

  output-system : (port : List ℕ) (depth : ℕ) → is_system (client_part port) ≡ true → output_range wiring depth port ≡ no_range
  output-system port zero h = refl
  output-system port (suc depth) h =
      ap (λ (b : Bool). if b then no_range else later_by (wiring.delay (client_part port))
      (joined (map (λ (input : OpenPort). joined (map (λ (edge : Connection). output_range wiring depth edge.source) (direct_into wiring input.name))) (inputs_of wiring (client_part port))))) h

  input-system : (port : List ℕ) (depth : ℕ) → is_system (client_part port) ≡ true → input_range wiring depth port ≡ no_range
  input-system port zero h = refl
  input-system port (suc depth) h =
      ap (λ (b : Bool). if b then no_range else later_by (wiring.delay (client_part port))
      (joined (map (λ (output : OpenPort). joined (map (λ (edge : Connection). input_range wiring depth edge.destination) (direct_from wiring output.name))) (outputs_of wiring (client_part port))))) h

  output-enough : (u : ℕ) (names : List (List ℕ)) (d e : ℕ) (port : List ℕ) → length names ≤ u → u ≤ d → u ≤ e → (is_system (client_part port) ≡ false → LeadToIt names (client_part port))
      → output_range wiring d port ≡ output_range wiring e port
  output-enough zero names d e port small h k reach = go (is_system (client_part port)) refl
    where
      go : (b : Bool) → is_system (client_part port) ≡ b → output_range wiring d port ≡ output_range wiring e port
      go true s = output-system port d s ∙ sym (output-system port e s)
      go false s = absurd (no-zero names (client_part port) small (reach s (client_part port) ([], refl)))
  output-enough (suc u) names zero e port small h k reach = absurd (omega (arith, h))
  output-enough (suc u) names (suc d) zero port small h k reach = absurd (omega (arith, k))
  output-enough (suc u) names (suc d) (suc e) port small h k reach =
      go (is_system (client_part port)) refl
      (λ source less. output-enough u (without (client_part port) names) d e source less (omega (arith, h)) (omega (arith, k)))
    where
      client : List ℕ
      client = client_part port

      go : (b : Bool) → is_system (client_part port) ≡ b
          → ((source : List ℕ) → length (without (client_part port) names) ≤ u → (is_system (client_part source) ≡ false → LeadToIt (without (client_part port) names) (client_part source)) → output_range wiring d source ≡ output_range wiring e source)
          → output_range wiring (suc d) port ≡ output_range wiring (suc e) port
      go true s deeper = output-system port (suc d) s ∙ sym (output-system port (suc e) s)
      go false s deeper =
          ap (λ (ranges : List Range). if is_system (client_part port) then no_range else later_by (wiring.delay (client_part port)) (joined ranges))
          (map-same (λ (input : OpenPort). joined (map (λ (edge : Connection). output_range wiring d edge.source) (direct_into wiring input.name)))
          (λ (input : OpenPort). joined (map (λ (edge : Connection). output_range wiring e edge.source) (direct_into wiring input.name))) (inputs_of wiring (client_part port))
          (Each-filter (λ (input : OpenPort). joined (map (λ (edge : Connection). output_range wiring d edge.source) (direct_into wiring input.name)) ≡ joined (map (λ (edge : Connection). output_range wiring e edge.source) (direct_into wiring input.name)))
          (λ (input : OpenPort). bytes_eq (client_part input.name) (client_part port) && is_input input) wiring.ports
          (λ input t. one_input input ((bytes_decides (client_part input.name) (client_part port)).0 (and_parts (bytes_eq (client_part input.name) (client_part port)) (is_input input) t).0))))
        where
          inside : Contains names (client_part port)
          inside = reach s (client_part port) ([], refl)

          one_edge : (input : OpenPort) → client_part input.name ≡ client_part port → (edge : Connection) → Contains wiring.edges edge → (is_direct edge.mark && bytes_eq edge.destination input.name) ≡ true
              → output_range wiring d edge.source ≡ output_range wiring e edge.source
          one_edge input is edge c t = deeper edge.source (omega (arith, without-shorter (client_part port) names inside, small)) reached
            where
              parts : (is_direct edge.mark ≡ true) × (bytes_eq edge.destination input.name ≡ true)
              parts = and_parts (is_direct edge.mark) (bytes_eq edge.destination input.name) t

              to_client : client_part edge.destination ≡ client_part port
              to_client = ap client_part ((bytes_decides edge.destination input.name).0 parts.1) ∙ is

              reached : is_system (client_part edge.source) ≡ false → LeadToIt (without (client_part port) names) (client_part edge.source)
              reached apart x path =
                  let link : Contains links (ClientNode (client_part edge.source), ClientNode (client_part port)) =
                  subst (λ (n : List ℕ). Contains links (ClientNode (client_part edge.source), ClientNode n)) to_client (linked edge c parts.0 apart (ap is_system to_client ∙ s)) in
                  without-contains (client_part port) x names
                  (λ same. free (ClientNode (client_part edge.source)) (ClientNode (client_part port)) path.0
                  (link, subst (λ (n : List ℕ). IsPath links (ClientNode n) path.0 (ClientNode (client_part edge.source))) same path.1))
                  (reach s x (path.0 ++ ClientNode (client_part port) ∷ [], IsPath-append links (ClientNode x) path.0 (ClientNode (client_part edge.source)) (ClientNode (client_part port) ∷ []) (ClientNode (client_part port)) path.1 (link, refl)))

          one_input : (input : OpenPort) → client_part input.name ≡ client_part port
              → joined (map (λ (edge : Connection). output_range wiring d edge.source) (direct_into wiring input.name)) ≡ joined (map (λ (edge : Connection). output_range wiring e edge.source) (direct_into wiring input.name))
          one_input input is =
              ap joined
              (map-same (λ (edge : Connection). output_range wiring d edge.source) (λ (edge : Connection). output_range wiring e edge.source) (direct_into wiring input.name)
              (Each-both (λ (edge : Connection). Contains wiring.edges edge) (λ (edge : Connection). (is_direct edge.mark && bytes_eq edge.destination input.name) ≡ true)
              (λ (edge : Connection). output_range wiring d edge.source ≡ output_range wiring e edge.source) (λ edge c t. one_edge input is edge c t) (direct_into wiring input.name)
              (Each-filter_kept (λ (edge : Connection). Contains wiring.edges edge) (λ (edge : Connection). is_direct edge.mark && bytes_eq edge.destination input.name) wiring.edges
              (Each-from_contains (λ (edge : Connection). Contains wiring.edges edge) wiring.edges (λ edge c. c)))
              (Each-filter (λ (edge : Connection). (is_direct edge.mark && bytes_eq edge.destination input.name) ≡ true) (λ (edge : Connection). is_direct edge.mark && bytes_eq edge.destination input.name) wiring.edges (λ edge t. t))))

  input-enough : (u : ℕ) (names : List (List ℕ)) (d e : ℕ) (port : List ℕ) → length names ≤ u → u ≤ d → u ≤ e → (is_system (client_part port) ≡ false → ItLeadsTo names (client_part port))
      → input_range wiring d port ≡ input_range wiring e port
  input-enough zero names d e port small h k reach = go (is_system (client_part port)) refl
    where
      go : (b : Bool) → is_system (client_part port) ≡ b → input_range wiring d port ≡ input_range wiring e port
      go true s = input-system port d s ∙ sym (input-system port e s)
      go false s = absurd (no-zero names (client_part port) small (reach s (client_part port) ([], refl)))
  input-enough (suc u) names zero e port small h k reach = absurd (omega (arith, h))
  input-enough (suc u) names (suc d) zero port small h k reach = absurd (omega (arith, k))
  input-enough (suc u) names (suc d) (suc e) port small h k reach =
      go (is_system (client_part port)) refl
      (λ next less. input-enough u (without (client_part port) names) d e next less (omega (arith, h)) (omega (arith, k)))
    where
      go : (b : Bool) → is_system (client_part port) ≡ b
          → ((next : List ℕ) → length (without (client_part port) names) ≤ u → (is_system (client_part next) ≡ false → ItLeadsTo (without (client_part port) names) (client_part next)) → input_range wiring d next ≡ input_range wiring e next)
          → input_range wiring (suc d) port ≡ input_range wiring (suc e) port
      go true s deeper = input-system port (suc d) s ∙ sym (input-system port (suc e) s)
      go false s deeper =
          ap (λ (ranges : List Range). if is_system (client_part port) then no_range else later_by (wiring.delay (client_part port)) (joined ranges))
          (map-same (λ (output : OpenPort). joined (map (λ (edge : Connection). input_range wiring d edge.destination) (direct_from wiring output.name)))
          (λ (output : OpenPort). joined (map (λ (edge : Connection). input_range wiring e edge.destination) (direct_from wiring output.name))) (outputs_of wiring (client_part port))
          (Each-filter (λ (output : OpenPort). joined (map (λ (edge : Connection). input_range wiring d edge.destination) (direct_from wiring output.name)) ≡ joined (map (λ (edge : Connection). input_range wiring e edge.destination) (direct_from wiring output.name)))
          (λ (output : OpenPort). bytes_eq (client_part output.name) (client_part port) && not (is_input output)) wiring.ports
          (λ output t. one_output output ((bytes_decides (client_part output.name) (client_part port)).0 (and_parts (bytes_eq (client_part output.name) (client_part port)) (not (is_input output)) t).0))))
        where
          inside : Contains names (client_part port)
          inside = reach s (client_part port) ([], refl)

          one_edge : (output : OpenPort) → client_part output.name ≡ client_part port → (edge : Connection) → Contains wiring.edges edge → (is_direct edge.mark && bytes_eq edge.source output.name) ≡ true
              → input_range wiring d edge.destination ≡ input_range wiring e edge.destination
          one_edge output is edge c t = deeper edge.destination (omega (arith, without-shorter (client_part port) names inside, small)) reached
            where
              parts : (is_direct edge.mark ≡ true) × (bytes_eq edge.source output.name ≡ true)
              parts = and_parts (is_direct edge.mark) (bytes_eq edge.source output.name) t

              from_client : client_part edge.source ≡ client_part port
              from_client = ap client_part ((bytes_decides edge.source output.name).0 parts.1) ∙ is

              reached : is_system (client_part edge.destination) ≡ false → ItLeadsTo (without (client_part port) names) (client_part edge.destination)
              reached apart x path =
                  let link : Contains links (ClientNode (client_part port), ClientNode (client_part edge.destination)) =
                  subst (λ (n : List ℕ). Contains links (ClientNode n, ClientNode (client_part edge.destination))) from_client (linked edge c parts.0 (ap is_system from_client ∙ s) apart) in
                  without-contains (client_part port) x names
                  (λ same. free (ClientNode (client_part port)) (ClientNode (client_part edge.destination)) path.0
                  (link, subst (λ (n : List ℕ). IsPath links (ClientNode (client_part edge.destination)) path.0 (ClientNode n)) same path.1))
                  (reach s x (ClientNode (client_part edge.destination) ∷ path.0, (link, path.1)))

          one_output : (output : OpenPort) → client_part output.name ≡ client_part port
              → joined (map (λ (edge : Connection). input_range wiring d edge.destination) (direct_from wiring output.name)) ≡ joined (map (λ (edge : Connection). input_range wiring e edge.destination) (direct_from wiring output.name))
          one_output output is =
              ap joined
              (map-same (λ (edge : Connection). input_range wiring d edge.destination) (λ (edge : Connection). input_range wiring e edge.destination) (direct_from wiring output.name)
              (Each-both (λ (edge : Connection). Contains wiring.edges edge) (λ (edge : Connection). (is_direct edge.mark && bytes_eq edge.source output.name) ≡ true)
              (λ (edge : Connection). input_range wiring d edge.destination ≡ input_range wiring e edge.destination) (λ edge c t. one_edge output is edge c t) (direct_from wiring output.name)
              (Each-filter_kept (λ (edge : Connection). Contains wiring.edges edge) (λ (edge : Connection). is_direct edge.mark && bytes_eq edge.source output.name) wiring.edges
              (Each-from_contains (λ (edge : Connection). Contains wiring.edges edge) wiring.edges (λ edge c. c)))
              (Each-filter (λ (edge : Connection). (is_direct edge.mark && bytes_eq edge.source output.name) ≡ true) (λ (edge : Connection). is_direct edge.mark && bytes_eq edge.source output.name) wiring.edges (λ edge t. t))))

  -- the clients of all edges have these names
  module _ (names : List (List ℕ)) (sources : (edge : Connection) → Contains wiring.edges edge → Contains names (client_part edge.source))
      (destinations : (edge : Connection) → Contains wiring.edges edge → Contains names (client_part edge.destination)) where
    lead-to : (client : List ℕ) → Contains names client → LeadToIt names client
    lead-to client c x (path) = go path.0 path.1
      where
        go : (p : List NamedNode) → IsPath links (ClientNode x) p (ClientNode client) → Contains names x
        go [] h = subst (λ n. Contains names n) (sym (same-name x client h)) c
        go (next ∷ p) h =
            let w = direct_links-contains wiring.edges (ClientNode x, next) h.0 in
            let is : client_part (w.0).source ≡ x = source-client (w.0).source x (ap (λ (l : NamedNode × NamedNode). l.0) w.3) in
            subst (λ n. Contains names n) is (sources w.0 w.1)

    leads-to : (client : List ℕ) → Contains names client → ItLeadsTo names client
    leads-to client c x path = go (ClientNode client) path.0 path.1 (λ e. subst (λ n. Contains names n) (same-name client x e) c)
      where
        go : (a : NamedNode) (p : List NamedNode) → IsPath links a p (ClientNode x) → (a ≡ ClientNode x → Contains names x) → Contains names x
        go a [] h k = k h
        go a (next ∷ p) h k =
            let w = direct_links-contains wiring.edges (a, next) h.0 in
            go next p h.1
            (λ e.
            let is : client_part (w.0).destination ≡ x = destination-client (w.0).destination x (ap (λ (l : NamedNode × NamedNode). l.1) w.3 ∙ e) in
            subst (λ n. Contains names n) is (destinations w.0 w.1))

    pub output_range-enough : (d : ℕ) (port : List ℕ) → length names ≤ d → Contains names (client_part port) → output_range wiring d port ≡ output_range wiring (length names) port
    output_range-enough d port h c = output-enough (length names) names d (length names) port (omega arith) h (omega arith) (λ no. lead-to (client_part port) c)

    pub input_range-enough : (d : ℕ) (port : List ℕ) → length names ≤ d → Contains names (client_part port) → input_range wiring d port ≡ input_range wiring (length names) port
    input_range-enough d port h c = input-enough (length names) names d (length names) port (omega arith) h (omega arith) (λ no. leads-to (client_part port) c)

-- a range, looked for so deep
abbrev pub range_at : Wiring → ℕ → Mode → OpenPort → Range
range_at wiring depth Capture port =
    if is_input port then joined (map (λ (edge : Connection). output_range wiring depth edge.source) (direct_into wiring port.name))
    else output_range wiring depth port.name
range_at wiring depth Playback port =
    if is_input port then input_range wiring depth port.name
    else joined (map (λ (edge : Connection). input_range wiring depth edge.destination) (direct_from wiring port.name))

module _ (wiring : Wiring) (free : HasNoLoop wiring.edges) (names : List (List ℕ)) (sources : (edge : Connection) → Contains wiring.edges edge → Contains names (client_part edge.source))
    (destinations : (edge : Connection) → Contains wiring.edges edge → Contains names (client_part edge.destination)) where
  kept-edges : (P : Connection → Type 0) (test : Connection → Bool) → ((edge : Connection) → Contains wiring.edges edge → P edge) → Each P (filter test wiring.edges)
  kept-edges P test f = Each-filter_kept P test wiring.edges (Each-from_contains P wiring.edges f)

  -- at any two depths of at least the number of these clients
  pub range_at-enough : (d e : ℕ) (mode : Mode) (port : OpenPort) → length names ≤ d → length names ≤ e → Contains names (client_part port.name) → range_at wiring d mode port ≡ range_at wiring e mode port
  range_at-enough d e Capture port h k c =
      ap₂ (λ (joins out : Range). if is_input port then joins else out)
      (ap joined (map-same (λ (edge : Connection). output_range wiring d edge.source) (λ (edge : Connection). output_range wiring e edge.source) (direct_into wiring port.name)
      (kept-edges (λ (edge : Connection). output_range wiring d edge.source ≡ output_range wiring e edge.source) (λ (edge : Connection). is_direct edge.mark && bytes_eq edge.destination port.name)
      (λ edge m. output_range-enough wiring free names sources destinations d edge.source h (sources edge m) ∙ sym (output_range-enough wiring free names sources destinations e edge.source k (sources edge m))))))
      (output_range-enough wiring free names sources destinations d port.name h c ∙ sym (output_range-enough wiring free names sources destinations e port.name k c))
  range_at-enough d e Playback port h k c =
      ap₂ (λ (joins into : Range). if is_input port then into else joins)
      (ap joined (map-same (λ (edge : Connection). input_range wiring d edge.destination) (λ (edge : Connection). input_range wiring e edge.destination) (direct_from wiring port.name)
      (kept-edges (λ (edge : Connection). input_range wiring d edge.destination ≡ input_range wiring e edge.destination) (λ (edge : Connection). is_direct edge.mark && bytes_eq edge.source port.name)
      (λ edge m. input_range-enough wiring free names sources destinations d edge.destination h (destinations edge m) ∙ sym (input_range-enough wiring free names sources destinations e edge.destination k (destinations edge m))))))
      (input_range-enough wiring free names sources destinations d port.name h c ∙ sym (input_range-enough wiring free names sources destinations e port.name k c))

pub range_at-is : (wiring : Wiring) (mode : Mode) (port : OpenPort) → range_at wiring (length wiring.ports) mode port ≡ range_of wiring mode port
range_at-is wiring Capture port = refl
range_at-is wiring Playback port = refl
