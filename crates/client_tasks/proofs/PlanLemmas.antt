-- What is true of the wiring of every plan.
--     few-nodes, few-links, few-joints, few-carried      how many there are
--     length-widths, few-inputs, few-outputs      of each node widths, at most 16 ports of a direction
--     joints-placed, joints-small, joints-kept      a joint's node is a node, its numbers fit, and so is the node whose output it keeps
--     carried-placed, carried-small      a carried connection's node is a node, its place fits, and its output is one of its node's
--     links-placed, links-few      a link goes out from a node, and from each at most 64
use Rattle.std.proofs.Common.{◌≡◌, ◌≢◌, ℕ, zero, suc, ◌+◌, ◌<◌, ◌≤◌, ◌^◌, Bool, true, false, cond, not, ◌&&◌, ◌==◌, List, [], ◌∷◌, ◌++◌, length, map, filter, filter_map, fold, count_by, take, Contains, All, AllPairs, Option, Some, None, refl, sym, ◌∙◌, ap, subst, arith, eqb-true, length-append}
use Rattle.std.specs.List.{AllByRecursion, IsDistinct, cons_option, list_any, position_or_len}
use Rattle.std.specs.Option.{option_map, option_map_or}
use Rattle.std.specs.Str.{bytes_eq}
use Rattle.std.proofs.lemmas.List.{get_or-map, length-map, take_more}
use Rattle.std.proofs.lemmas.List.Elements.{All-contains}
use Rattle.std.proofs.lemmas.List.Quantifiers.{position-Some}
use Rattle.std.proofs.lemmas.List.Sums.{count_by-le-length, length-filter, sum_by-take-le}
use Rattle.std.proofs.lemmas.Map.Steps.{length-le_from_distinct_below}
use Rattle.std.proofs.lemmas.Map.Views.{Contains-from_any}
use Rattle.jack_types.specs.Names.{client_part}
use Rattle.jack_types.specs.declared.ports.Link.{Link}
use Rattle.jack_types.specs.declared.ports.Mark.{Mark}
use Rattle.jack_types.specs.declared.ports.Mark.TheVariants.{Direct, Feedback}
use Rattle.jack_types.specs.declared.ports.Port.{Port}
use Rattle.jack_types.specs.declared.ports.Way.{Way}
use Rattle.jack_types.specs.declared.ports.Way.TheVariants.{In, Out}
use Rattle.session_model.specs.Activation.{AreLinks, link_at, no_link}
use Rattle.session_model.specs.Benches.{edges_between, node_at, place_in, port_place}
use Rattle.session_model.specs.Commands.{is_audio, is_input, is_way, ports_of}
use Rattle.session_model.specs.Cycles.{audio_inputs, audio_outputs, midi_outputs}
use Rattle.session_model.specs.Ids.{connection, open_port}
use Rattle.session_model.specs.Samples.{below}
use Rattle.session_model.specs.State.{Connection, OpenClient, OpenPort, State, capture_port, is_direct, system_client}
use Rattle.session_laws.proofs.CycleLemmas.{bytes_same}
use Rattle.session_laws.proofs.SequentialLemmas.{length-below}
use Rattle.session_laws.proofs.LoopLemmas.{Contains-first, Contains-later}
use Rattle.session_laws.proofs.FilterLemmas.{count-cons, map-filter_after}
use Rattle.port_registry.specs.Registered.{is_of, open_client, open_clients}
use Rattle.client_wiring.specs.cycle_plan.specs.Layouts.{distinct, link_between, same_link, with_link}
use Rattle.client_wiring.specs.cycle_plan.specs.Plans.{IsPlanned, Planned, link_in, nodes_of, state_of_plan}
use Rattle.client_wiring.specs.declared.joints.Carried.{Carried}
use Rattle.client_wiring.specs.declared.joints.Joint.{Joint}
use Rattle.client_wiring.specs.declared.joints.Output.TheVariants.{Audio as AudioOutput, Midi as MidiOutput}
use Rattle.client_wiring.specs.declared.joints.Widths.{Widths}
use Rattle.client_wiring.specs.Wirings.{carried_by, carried_on, is_from, joint_into, joint_of, link_index, origin_from, origin_of, output_of, port_index, widths_of, wired_of}
use Rattle.client_tasks.specs.Steps.{IsAmong, IsSmall, IsSmallOrigin, count_out}
use Rattle.client_tasks.specs.Fillings.{KeepsFrom}
use Rattle.client_tasks.specs.Tasks.{widths_at}
use Rattle.client_tasks.proofs.ListLemmas.{count-more}

none_below : {n : ℕ} → n < 0 → ⊥
none_below p = omega arith

-- ---- lists

All-first : {X : Type 0} (P : X → Type 0) (x : X) (xs : List X) → P x → All P xs → All P (x ∷ xs)
All-first P x xs here rest zero d h = here
All-first P x xs here rest (suc i) d h = rest i d (omega (arith, h))

-- what is made of the elements of a list
All-made : {X Y : Type 0} (P : Y → Type 0) (f : X → Option Y) (xs : List X) → ((x : X) (y : Y) → Contains xs x → f x ≡ Some y → P y) → All P (filter_map f xs)
All-made P f [] each = λ i d h. absurd (none_below h)
All-made {X} {Y} P f (x ∷ xs) each = go (f x) refl (All-made P f xs (λ z y m. each z y (Contains-later x z xs m)))
  where
    go : (o : Option Y) → f x ≡ o → All P (filter_map f xs) → All P (cons_option o (filter_map f xs))
    go None e rest = rest
    go (Some y) e rest = All-first P y (filter_map f xs) (each x y (Contains-first x xs) e) rest

length-made : {X Y : Type 0} (f : X → Option Y) (xs : List X) → length (filter_map f xs) ≤ length xs
length-made f [] = omega arith
length-made {X} {Y} f (x ∷ xs) = go (f x) (length-made f xs)
  where
    go : (o : Option Y) → length (filter_map f xs) ≤ length xs → length (cons_option o (filter_map f xs)) ≤ length (x ∷ xs)
    go None h = omega (arith, h)
    go (Some y) h = omega (arith, h)

length-filtered : {X : Type 0} (p : X → Bool) (xs : List X) → length (filter p xs) ≤ length xs
length-filtered p xs = omega (arith, length-filter p xs, count_by-le-length p xs)

place-le : {X : Type 0} (p : X → Bool) (xs : List X) → position_or_len p xs ≤ length xs
place-le p [] = omega arith
place-le {X} p (x ∷ xs) = go (p x) (place-le p xs)
  where
    go : (b : Bool) → position_or_len p xs ≤ length xs → cond (not b) (1 + position_or_len p xs) 0 ≤ suc (length xs)
    go true h = omega arith
    go false h = omega (arith, h)

pub some-one : {X : Type 0} (x y : X) → Some x ≡ Some y → x ≡ y
some-one x y e = cc

none-some : {X : Type 0} (x : X) → None ≡ Some x → ⊥
none-some x e = cc

-- ---- links

length-distinct : (links found : List Link) → length (fold with_link found links) ≤ length found + length links
length-distinct [] found = omega arith
length-distinct (link ∷ links) found =
    let rest : length (fold with_link (with_link found link) links) ≤ length (with_link found link) + length links = length-distinct links (with_link found link) in
    omega (arith, rest, one (list_any (same_link link) found))
  where
    one : (b : Bool) → length (cond b found (found ++ link ∷ [])) ≤ length found + 1
    one true = omega arith
    one false = omega (arith, length-append found (link ∷ []))

count_out-taken : (links : List Link) (n k : ℕ) → k ≤ length links → count_out links n k ≡ count_by (is_from n) (take k links)
count_out-taken links n zero h = refl
count_out-taken links n (suc k) h =
    count-more (λ l. (link_at links l).from == n) (below k) k
    ∙ ap (λ m. m + cond (is_from n (link_at links k)) 1 0) (count_out-taken links n k (omega (arith, h)))
    ∙ sym (count-more (is_from n) (take k links) (link_at links k))
    ∙ ap (count_by (is_from n)) (sym (take_more links k no_link (omega (arith, h))))
    ∙ ap (λ m. count_by (is_from n) (take m links)) (let next : k + 1 ≡ suc k = omega arith in next)

-- where the links from a node go: to different nodes
abbrev goals : ℕ → List Link → List ℕ
goals n links = map (λ (link : Link). link.to) (filter (is_from n) links)

goal-none : (n : ℕ) (link : Link) → link.from ≡ n → (links : List Link) → All (λ (other : Link). link ≢ other) links → AllByRecursion (λ to. (link.to == to) ≡ false) (goals n links)
goal-none n link from [] apart = tt
goal-none n link from (other ∷ links) apart = go (is_from n other) refl (goal-none n link from links (λ i d h. apart (suc i) d (omega (arith, h))))
  where
    differs : (b : Bool) → other.from ≡ n → (link.to == other.to) ≡ b → b ≡ false
    differs true e t = absurd (apart 0 no_link (omega arith) (λ i. record { from = (from ∙ sym e) i; to = eqb-true link.to other.to t i }))
    differs false e t = refl

    go : (b : Bool) → is_from n other ≡ b → AllByRecursion (λ to. (link.to == to) ≡ false) (goals n links)
        → AllByRecursion (λ to. (link.to == to) ≡ false) (map (λ (link : Link). link.to) (cond b (other ∷ filter (is_from n) links) (filter (is_from n) links)))
    go true e rest = (differs (link.to == other.to) (eqb-true other.from n e) refl, rest)
    go false e rest = rest

goals-distinct : (n : ℕ) (links : List Link) → AllPairs (λ (a b : Link). a ≢ b) links → IsDistinct ◌==◌ (goals n links)
unfolding IsDistinct
goals-distinct n [] apart = tt
goals-distinct n (link ∷ links) apart = go (is_from n link) refl (goals-distinct n links (λ i j d l h. apart (suc i) (suc j) d (omega (arith, l)) (omega (arith, h))))
  where
    go : (b : Bool) → is_from n link ≡ b → IsDistinct ◌==◌ (goals n links) → IsDistinct ◌==◌ (map (λ (link : Link). link.to) (cond b (link ∷ filter (is_from n) links) (filter (is_from n) links)))
    go true e rest = (goal-none n link (eqb-true link.from n e) links (λ j d h. apart 0 (suc j) d (omega arith) (omega (arith, h))), rest)
    go false e rest = rest

goals-low : (n m : ℕ) (links : List Link) → All (λ (link : Link). link.to < m) links → All (λ to. to < m) (goals n links)
goals-low n m [] low = λ i d h. absurd (none_below h)
goals-low n m (link ∷ links) low = go (is_from n link) (goals-low n m links (λ i d h. low (suc i) d (omega (arith, h))))
  where
    go : (b : Bool) → All (λ to. to < m) (goals n links) → All (λ to. to < m) (map (λ (link : Link). link.to) (cond b (link ∷ filter (is_from n) links) (filter (is_from n) links)))
    go true rest = All-first (λ to. to < m) link.to (goals n links) (low 0 no_link (omega arith)) rest
    go false rest = rest

pub out-few : (nodes : ℕ) (links : List Link) → AreLinks nodes links → (n k : ℕ) → k ≤ length links → count_out links n k ≤ nodes
out-few nodes links are n k h =
    let few : length (goals n links) ≤ nodes = length-le_from_distinct_below (goals n links) nodes (goals-distinct n links are.distinct)
    (λ q t. All-contains (λ to. to < nodes) (goals n links) q (goals-low n nodes links are.within) (Contains-from_any (λ a b e. eqb-true a b e) q (goals n links) t)) in
    let all : length (goals n links) ≡ count_by (is_from n) links = length-map (filter (is_from n) links) (λ (link : Link). link.to) ∙ length-filter (is_from n) links in
    let front : count_by (is_from n) (take k links) ≤ count_by (is_from n) links = sum_by-take-le (λ link. cond (is_from n link) 1 0) links k in
    omega (arith, few, all, front, count_out-taken links n k h)

-- ---- a plan

module _ (plan : Planned) (planned : IsPlanned plan) (few_edges : length plan.network.set.edges ≤ 512) where
  state : State
  state = state_of_plan plan

  nodes : List OpenClient
  nodes = open_clients plan.nodes

  edges-few : length (state_of_plan plan).edges ≤ 512
  edges-few =
      let same : length (state_of_plan plan).edges ≡ length plan.network.set.edges = ap (λ (now : State). length now.edges) (sym planned.state) ∙ length-map plan.network.set.edges (connection plan.network.held.ports) in
      omega (arith, same, few_edges)

  length-nodes : length (open_clients plan.nodes) ≡ length plan.nodes
  length-nodes = length-map plan.nodes open_client

  pub few-nodes : length plan.nodes ≤ 64
  few-nodes =
      let clients : length (state_of_plan plan).clients ≡ length plan.network.held.clients = ap (λ (now : State). length now.clients) (sym planned.state) ∙ length-map plan.network.held.clients open_client in
      omega (arith, clients, length-nodes, planned.is_plan.fewer, planned.network.registered.few_clients)

  pub few-links : length plan.links ≤ 512
  few-links =
      let all : length (distinct (filter_map (link_in (nodes_of (state_of_plan plan))) (state_of_plan plan).edges)) ≤ 0 + length (filter_map (link_in (nodes_of (state_of_plan plan))) (state_of_plan plan).edges) =
      length-distinct (filter_map (link_in (nodes_of (state_of_plan plan))) (state_of_plan plan).edges) [] in
      let same : length plan.links ≡ length (distinct (filter_map (link_in (nodes_of (state_of_plan plan))) (state_of_plan plan).edges)) = ap length planned.links in
      omega (arith, all, same, length-made (link_in (nodes_of (state_of_plan plan))) (state_of_plan plan).edges, edges-few)

  pub few-joints : length (wired_of plan).joints ≤ 512
  few-joints = omega (arith, length-made (joint_of (state_of_plan plan) (open_clients plan.nodes) plan.links) (state_of_plan plan).edges, edges-few)

  pub few-carried : length (wired_of plan).carried ≤ 512
  few-carried = omega (arith, length-made (carried_by (state_of_plan plan) (open_clients plan.nodes) plan.links) (state_of_plan plan).edges, edges-few)

  pub length-widths : length (wired_of plan).widths ≡ length plan.nodes
  length-widths = length-map (open_clients plan.nodes) (widths_of (state_of_plan plan)) ∙ length-nodes

  pub widths-are : (n : ℕ) → n < length plan.nodes → widths_at (wired_of plan) n ≡ widths_of (state_of_plan plan) (node_at (open_clients plan.nodes) n)
  widths-are n low = get_or-map (widths_of (state_of_plan plan)) (open_clients plan.nodes) n system_client (record { inputs = 0; outputs = 0 }) (omega (arith, low, length-nodes))

  -- ports of one direction are counted with those of the other kind
  two-tests : (p q : OpenPort → Bool) (ports : List OpenPort) → length (filter (λ port. p port && q port) ports) ≤ count_by q ports
  two-tests p q [] = omega arith
  two-tests p q (port ∷ ports) = go (p port) (q port) refl (two-tests p q ports)
    where
      go : (a b : Bool) → q port ≡ b → length (filter (λ port. p port && q port) ports) ≤ count_by q ports
          → length (cond (a && b) (port ∷ filter (λ port. p port && q port) ports) (filter (λ port. p port && q port) ports)) ≤ count_by q (port ∷ ports)
      go true true e rest = rw (count-cons q port ports, e) (omega (arith, rest))
      go true false e rest = rw (count-cons q port ports, e) (omega (arith, rest))
      go false b e rest = rw (count-cons q port ports) (omega (arith, rest))

  ports-few : (way : Way) (name : List ℕ) → count_by (is_way way) (ports_of (state_of_plan plan) name) ≤ 16
  ports-few way name =
      subst (λ (now : State). count_by (is_way way) (ports_of now name) ≤ 16) planned.state
      (subst (λ ports. count_by (is_way way) ports ≤ 16) (map-filter_after open_port (λ (port : OpenPort). bytes_eq (client_part port.name) name) plan.network.held.ports)
      (omega (arith, count-map (is_way way) (filter (is_of name) plan.network.held.ports), planned.network.registered.few_ports name way)))
    where
      count-map : (q : OpenPort → Bool) (ports : List Port) → count_by q (map open_port ports) ≡ count_by (λ port. q (open_port port)) ports
      count-map q [] = refl
      count-map q (port ∷ ports) = count-cons q (open_port port) (map open_port ports) ∙ ap (λ n. cond (q (open_port port)) 1 0 + n) (count-map q ports) ∙ sym (count-cons (λ port. q (open_port port)) port ports)

  pub inputs-few : (name : List ℕ) → length (audio_inputs (state_of_plan plan) name) ≤ 16
  inputs-few name = omega (arith, two-tests is_audio is_input (ports_of (state_of_plan plan) name), ports-few In name)

  pub outputs-few : (name : List ℕ) → length (audio_outputs (state_of_plan plan) name) ≤ 16
  outputs-few name = omega (arith, two-tests is_audio (λ port. not (is_input port)) (ports_of (state_of_plan plan) name), ports-few Out name)

  pub few-inputs : (n : ℕ) → n < length plan.nodes → (widths_at (wired_of plan) n).inputs ≤ 16
  few-inputs n low = subst (λ (widths : Widths). widths.inputs ≤ 16) (sym (widths-are n low)) (inputs-few (node_at (open_clients plan.nodes) n).name)

  pub few-outputs : (n : ℕ) → n < length plan.nodes → (widths_at (wired_of plan) n).outputs ≤ 16
  few-outputs n low = subst (λ (widths : Widths). widths.outputs ≤ 16) (sym (widths-are n low)) (outputs-few (node_at (open_clients plan.nodes) n).name)

  -- ---- joints

  placed : (name : List ℕ) (n : ℕ) → place_in (open_clients plan.nodes) name ≡ Some n → n < length plan.nodes
  placed name n e = omega (arith, (position-Some (λ (client : OpenClient). bytes_eq client.name name) (open_clients plan.nodes) n system_client e).0, length-nodes)

  small-origin : (n : ℕ) (edge : Connection) (mark : Mark) (from : Option ℕ) → IsSmallOrigin (origin_from (state_of_plan plan) (open_clients plan.nodes) plan.links n edge mark from)
  small-origin n edge Direct (Some source) = (
    omega (arith, place-le (λ l. (link_at plan.links l).from == source) (filter (λ l. (link_at plan.links l).to == n) (below (length plan.links))), length-filtered (λ l. (link_at plan.links l).to == n) (below (length plan.links)), length-below (length plan.links), few-links),
    omega (
      arith,
      place-le (λ (other : Connection). bytes_eq other.source edge.source && bytes_eq other.destination edge.destination) (edges_between (state_of_plan plan) (node_at (open_clients plan.nodes) source).name (node_at (open_clients plan.nodes) n).name),
      length-filtered (λ (other : Connection). is_direct other.mark && (bytes_eq (client_part other.source) (node_at (open_clients plan.nodes) source).name && bytes_eq (client_part other.destination) (node_at (open_clients plan.nodes) n).name)) (state_of_plan plan).edges,
      edges-few,
    ),
  )
  small-origin n edge Feedback (Some source) = tt
  small-origin n edge Direct None = tt
  small-origin n edge Feedback None = tt

  kept-origin : (n : ℕ) (edge : Connection) (mark : Mark) (from : Option ℕ) → place_in (open_clients plan.nodes) (client_part edge.source) ≡ from
      → KeepsFrom (length plan.nodes) (origin_from (state_of_plan plan) (open_clients plan.nodes) plan.links n edge mark from)
  kept-origin n edge Direct (Some source) e = tt
  kept-origin n edge Feedback (Some source) e = placed (client_part edge.source) source e
  kept-origin n edge Direct None e = tt
  kept-origin n edge Feedback None e = tt

  abbrev IsFit : Joint → Type 0
  IsFit joint = (joint.node < length plan.nodes) × IsSmall joint × KeepsFrom (length plan.nodes) joint.origin

  joint-fit : (edge : Connection) (joint : Joint) → Contains (state_of_plan plan).edges edge → joint_of (state_of_plan plan) (open_clients plan.nodes) plan.links edge ≡ Some joint → IsFit joint
  joint-fit edge joint m = go (place_in (open_clients plan.nodes) (client_part edge.destination)) (port_place (audio_inputs (state_of_plan plan) (client_part edge.destination)) edge.destination) refl refl
    where
      go : (node its : Option ℕ) → place_in (open_clients plan.nodes) (client_part edge.destination) ≡ node → port_place (audio_inputs (state_of_plan plan) (client_part edge.destination)) edge.destination ≡ its
          → joint_into (state_of_plan plan) (open_clients plan.nodes) plan.links edge node its ≡ Some joint → IsFit joint
      go None its f g e = absurd (none-some joint e)
      go (Some n) None f g e = absurd (none-some joint e)
      go (Some n) (Some input) f g e =
          let within : input < length (audio_inputs (state_of_plan plan) (client_part edge.destination)) =
          (position-Some (λ (port : OpenPort). bytes_eq port.name edge.destination) (audio_inputs (state_of_plan plan) (client_part edge.destination)) input (capture_port 0) g).0 in
          subst IsFit (some-one (record { node = n; input = input; origin = origin_of (state_of_plan plan) (open_clients plan.nodes) plan.links n edge }) joint e) (
            placed (client_part edge.destination) n f,
            (omega (arith, within, inputs-few (client_part edge.destination)), small-origin n edge edge.mark (place_in (open_clients plan.nodes) (client_part edge.source))),
            kept-origin n edge edge.mark (place_in (open_clients plan.nodes) (client_part edge.source)) refl,
          )

  joints-fit : All IsFit (wired_of plan).joints
  joints-fit = All-made IsFit (joint_of (state_of_plan plan) (open_clients plan.nodes) plan.links) (state_of_plan plan).edges joint-fit

  pub joints-placed : All (λ (joint : Joint). joint.node < length plan.nodes) (wired_of plan).joints
  joints-placed i d h = (joints-fit i d h).0

  pub joints-small : All IsSmall (wired_of plan).joints
  joints-small i d h = (joints-fit i d h).1

  pub joints-kept : All (λ (joint : Joint). KeepsFrom (length plan.nodes) joint.origin) (wired_of plan).joints
  joints-kept i d h = (joints-fit i d h).2

  -- ---- carried connections

  name-of : (name : List ℕ) (n : ℕ) → place_in (open_clients plan.nodes) name ≡ Some n → (node_at (open_clients plan.nodes) n).name ≡ name
  name-of name n e = bytes_same (node_at (open_clients plan.nodes) n).name name (position-Some (λ (client : OpenClient). bytes_eq client.name name) (open_clients plan.nodes) n system_client e).1

  output-of : (port : List ℕ) (n : ℕ) → place_in (open_clients plan.nodes) (client_part port) ≡ Some n → IsAmong (widths_at (wired_of plan) n).outputs (output_of (state_of_plan plan) port)
  output-of port n e = go (port_place (audio_outputs (state_of_plan plan) (client_part port)) port) refl
    where
      count : (widths_at (wired_of plan) n).outputs ≡ length (audio_outputs (state_of_plan plan) (client_part port))
      count = ap (λ (widths : Widths). widths.outputs) (widths-are n (placed (client_part port) n e)) ∙ ap (λ name. length (audio_outputs (state_of_plan plan) name)) (name-of (client_part port) n e)

      go : (o : Option ℕ) → port_place (audio_outputs (state_of_plan plan) (client_part port)) port ≡ o
          → IsAmong (widths_at (wired_of plan) n).outputs (option_map_or AudioOutput o (MidiOutput (port_index (midi_outputs (state_of_plan plan) (client_part port)) port)))
      go None f = tt
      go (Some j) f =
          let within : j < length (audio_outputs (state_of_plan plan) (client_part port)) =
          (position-Some (λ (other : OpenPort). bytes_eq other.name port) (audio_outputs (state_of_plan plan) (client_part port)) j (capture_port 0) f).0 in
          (omega (arith, within, outputs-few (client_part port)), omega (arith, within, count))

  abbrev IsCarried : Carried → Type 0
  IsCarried one = (one.node < length plan.nodes) × (one.place < 2 ^ 32) × IsAmong (widths_at (wired_of plan) one.node).outputs one.output

  carried-fit : (edge : Connection) (one : Carried) → Contains (state_of_plan plan).edges edge → carried_by (state_of_plan plan) (open_clients plan.nodes) plan.links edge ≡ Some one → IsCarried one
  carried-fit edge one m = go edge.mark (place_in (open_clients plan.nodes) (client_part edge.source)) (place_in (open_clients plan.nodes) (client_part edge.destination)) refl
    where
      go : (mark : Mark) (from to : Option ℕ) → place_in (open_clients plan.nodes) (client_part edge.source) ≡ from
          → option_map (carried_on plan.links (output_of (state_of_plan plan) edge.source)) (cond (is_direct mark) (link_between from to) None) ≡ Some one → IsCarried one
      go Feedback from to f e = absurd (none-some one e)
      go Direct None to f e = absurd (none-some one e)
      go Direct (Some a) None f e = absurd (none-some one e)
      go Direct (Some a) (Some b) f e =
          let link : Link = record { from = a; to = b } in
          subst IsCarried (some-one (carried_on plan.links (output_of (state_of_plan plan) edge.source) (record { from = a; to = b })) one e) (
            placed (client_part edge.source) a f,
            omega (arith, sum_by-take-le (λ (other : Link). cond (is_from a other) 1 0) plan.links (link_index plan.links (record { from = a; to = b })), count_by-le-length (is_from a) plan.links, few-links),
            output-of edge.source a f,
          )

  carried-are : All IsCarried (wired_of plan).carried
  carried-are = All-made IsCarried (carried_by (state_of_plan plan) (open_clients plan.nodes) plan.links) (state_of_plan plan).edges carried-fit

  pub carried-placed : All (λ (one : Carried). one.node < length plan.nodes) (wired_of plan).carried
  carried-placed i d h = (carried-are i d h).0

  pub carried-small : All (λ (one : Carried). one.place < 2 ^ 32) (wired_of plan).carried
  carried-small i d h = (carried-are i d h).1

  pub carried-outputs : All (λ (one : Carried). IsAmong (widths_at (wired_of plan) one.node).outputs one.output) (wired_of plan).carried
  carried-outputs i d h = (carried-are i d h).2

  -- ---- links

  pub links-placed : All (λ (link : Link). link.from < length plan.nodes) plan.links
  links-placed i d h = omega (arith, planned.is_plan.upward.upward i d h, planned.is_plan.upward.within i d h, length-nodes)

  pub links-few : (n k : ℕ) → k ≤ length plan.links → count_out plan.links n k ≤ 64
  links-few n k h = omega (arith, out-few (length (open_clients plan.nodes)) plan.links planned.is_plan.upward n k h, length-nodes, few-nodes)
