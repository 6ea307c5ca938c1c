-- The ranges by ids are those of the definition, which knows names alone.
--     table-is      a table of settled ranges
--     delays-named      the delay of a client, by one of its ports
--     latencies-are      the latencies of a state
use Rattle.std.proofs.Common.{◌≡◌, ℕ, zero, suc, Bool, true, false, cond, not, ◌&&◌, ◌==◌, List, [], ◌∷◌, length, map, filter, find, slice_get, get_or, Option, Some, None, is_some, Contains, refl, sym, ◌∙◌, ap, ap₂, arith, true≢false, eq-eqb, eqb-true}
use Rattle.std.specs.Option.{option_map_or}
use Rattle.std.specs.Str.{bytes_eq}
use Rattle.std.proofs.lemmas.List.{length-map}
use lib.Pointwise.{bytes_decides}
use Rattle.jack_types.specs.Names.{client_part}
use Rattle.jack_types.specs.declared.ports.Delay.{Delay}
use Rattle.jack_types.specs.declared.ports.Edge.{Edge}
use Rattle.jack_types.specs.declared.ports.Mode.{Mode}
use Rattle.jack_types.specs.declared.ports.Mode.TheVariants.{Capture as Since, Playback as Until}
use Rattle.jack_types.specs.declared.ports.Node.{Node}
use Rattle.jack_types.specs.declared.ports.Node.TheVariants.{Capture, Playback, Client}
use Rattle.jack_types.specs.declared.ports.Port.{Port}
use Rattle.jack_types.specs.declared.ports.PortId.{PortId}
use Rattle.jack_types.specs.declared.ports.Range.{Range}
use Rattle.jack_types.specs.declared.ports.Way.{Way}
use Rattle.jack_types.specs.declared.ports.Way.TheVariants.{In, Out}
use Rattle.session_model.specs.Commands.{is_input}
use Rattle.session_model.specs.Ids.{connection, connections, delay_at, delay_named, name_with, open_port, open_ports, same_id_node, way_of}
use Rattle.session_model.specs.Latencies.{Wiring, delay_in, input_range, joined, later_by, latency, no_range, output_range, range_of, wiring_of}
use Rattle.session_model.specs.State.{CaptureNode, PlaybackNode, ClientNode, Connection, NamedNode, OpenPort, State, is_direct, is_system, port_named, same_node}
use Rattle.session_laws.proofs.CycleLemmas.{find-contains, find-passes, map_filter-same}
use Rattle.session_laws.proofs.ListLemmas.{Contains-at, Each-from_contains, filter-same}
use Rattle.session_laws.proofs.LoopLemmas.{Contains-first, Contains-later}
use Rattle.session_laws.proofs.PlaceLemmas.{map-after}
use Rattle.session_laws.proofs.PlanLemmas.{find-one}
use Rattle.session_laws.proofs.SoundLemmas.{Apart-same, contains-map, find-none, map-contains}
use Rattle.latency_ranges.specs.Graphs.{IsGraph, IsStateOf, is_device, latencies_in, named_node, node_by_name}
use Rattle.latency_ranges.specs.Tables.{Shows, brought, far_end, handed, handed_within, is_beside, is_edge_at, is_far, is_near, near_end, range_to}
use Rattle.latency_ranges.proofs.PortLemmas.{far-port, near-port, one_port, port_with-is}

bool-same : (a b : Bool) → (a ≡ true → b ≡ true) → (b ≡ true → a ≡ true) → a ≡ b
bool-same true b f g = sym (f refl)
bool-same false true f g = g refl
bool-same false false f g = refl

filter-of_map : {X Y : Type 0} (test : Y → Bool) (f : X → Y) (xs : List X) → filter test (map f xs) ≡ map f (filter (λ x. test (f x)) xs)
filter-of_map test f [] = refl
filter-of_map test f (x ∷ xs) = go (test (f x)) (filter-of_map test f xs)
  where
    go : (b : Bool) → filter test (map f xs) ≡ map f (filter (λ y. test (f y)) xs) → cond b (f x ∷ filter test (map f xs)) (filter test (map f xs)) ≡ map f (cond b (x ∷ filter (λ y. test (f y)) xs) (filter (λ y. test (f y)) xs))
    go true rest = ap (λ ys. f x ∷ ys) rest
    go false rest = rest

-- the elements that pass, one by one, of a list and of what is made of it
mapped-same : {X Y : Type 0} (test : Y → Bool) (f : X → Y) (other : X → Bool) (range : Y → Range) (another : X → Range) (xs : List X) → ((x : X) → Contains xs x → test (f x) ≡ other x)
    → ((x : X) → Contains xs x → other x ≡ true → range (f x) ≡ another x) → map range (filter test (map f xs)) ≡ map another (filter other xs)
mapped-same test f other range another xs tests agree =
    ap (map range) (filter-of_map test f xs)
    ∙ map-after range f (filter (λ x. test (f x)) xs)
    ∙ ap (map (λ x. range (f x))) (filter-same (λ x. test (f x)) other xs (Each-from_contains (λ x. test (f x) ≡ other x) xs tests))
    ∙ map_filter-same other (λ x. range (f x)) another xs agree

map-contained : {X Y : Type 0} (f g : X → Y) (xs : List X) → ((x : X) → Contains xs x → f x ≡ g x) → map f xs ≡ map g xs
map-contained f g [] h = refl
map-contained f g (x ∷ xs) h = ap₂ (λ y ys. y ∷ ys) (h x (Contains-first x xs)) (map-contained f g xs (λ y m. h y (Contains-later x y xs m)))

-- a table that has at each place what it has to be
listed : (range : Port → Range) (ports : List Port) (table : List Range) → length table ≡ length ports → ((k : ℕ) (port : Port) → slice_get ports k ≡ Some port → get_or table k no_range ≡ range port) → table ≡ map range ports
listed range [] [] e h = refl
listed range [] (r ∷ table) e h = absurd (omega (arith, e))
listed range (port ∷ ports) [] e h = absurd (omega (arith, e))
listed range (port ∷ ports) (r ∷ table) e h = ap₂ (λ y ys. y ∷ ys) (h 0 port refl) (listed range ports table (omega (arith, e)) (λ k p at. h (suc k) p at))

same_id_node-is : (a b : Node) → same_id_node a b ≡ true → a ≡ b
same_id_node-is Capture Capture h = refl
same_id_node-is Capture Playback h = absurd (true≢false (sym h))
same_id_node-is Capture (Client b) h = absurd (true≢false (sym h))
same_id_node-is Playback Capture h = absurd (true≢false (sym h))
same_id_node-is Playback Playback h = refl
same_id_node-is Playback (Client b) h = absurd (true≢false (sym h))
same_id_node-is (Client a) Capture h = absurd (true≢false (sym h))
same_id_node-is (Client a) Playback h = absurd (true≢false (sym h))
same_id_node-is (Client a) (Client b) h = ap (λ n. Client (record { 0 = n })) (eqb-true a.0 b.0 h)

client-node : (way : Way) (name : List ℕ) → is_system (client_part name) ≡ false → node_by_name way name ≡ ClientNode (client_part name)
client-node In name h = ap (λ (b : Bool). cond b PlaybackNode (ClientNode (client_part name))) h
client-node Out name h = ap (λ (b : Bool). cond b CaptureNode (ClientNode (client_part name))) h

device-apart : (way : Way) (name client : List ℕ) → is_system (client_part name) ≡ true → same_node (node_by_name way name) (ClientNode client) ≡ false
device-apart In name client h = ap (λ (b : Bool). same_node (cond b PlaybackNode (ClientNode (client_part name))) (ClientNode client)) h
device-apart Out name client h = ap (λ (b : Bool). same_node (cond b CaptureNode (ClientNode (client_part name))) (ClientNode client)) h

module _ (ports : List Port) (edges : List Edge) (graph : IsGraph ports edges) where
  -- the ports of one client have one node
  same_client : (a b : Port) → Contains ports a → Contains ports b → is_system (client_part b.name) ≡ false → same_id_node a.node b.node ≡ bytes_eq (client_part a.name) (client_part b.name)
  same_client a b m k apart =
      graph.nodes a b m k ∙ ap (same_node (named_node a)) (client-node (way_of b) b.name apart) ∙ go (is_system (client_part a.name)) refl
    where
      go : (s : Bool) → is_system (client_part a.name) ≡ s → same_node (named_node a) (ClientNode (client_part b.name)) ≡ bytes_eq (client_part a.name) (client_part b.name)
      go true s =
          device-apart (way_of a) a.name (client_part b.name) s
          ∙ bool-same false (bytes_eq (client_part a.name) (client_part b.name)) (λ e. absurd (true≢false (sym e)))
          (λ e. absurd (true≢false (sym s ∙ ap is_system ((bytes_decides (client_part a.name) (client_part b.name)).0 e) ∙ apart)))
      go false s = ap (λ (n : NamedNode). same_node n (ClientNode (client_part b.name))) (client-node (way_of a) a.name s)

  -- two names are one exactly where the ids are
  same_port : (a b : Port) → Contains ports a → Contains ports b → bytes_eq a.name b.name ≡ (a.id.0 == b.id.0)
  same_port a b m k =
      bool-same (bytes_eq a.name b.name) (a.id.0 == b.id.0)
      (λ e. eq-eqb a.id.0 b.id.0 (ap (λ (p : Port). p.id.0) (Apart-same (λ (p : Port). p.name) ports a b graph.names m k ((bytes_decides a.name b.name).0 e))))
      (λ e. (bytes_decides a.name b.name).1 (ap (λ (p : Port). p.name) (one_port ports edges graph a b m k (eqb-true a.id.0 b.id.0 e))))

  name-is : (port : Port) (id : PortId) → Contains ports port → port.id.0 ≡ id.0 → name_with ports id ≡ port.name
  name-is port id m e = ap (λ (o : Option Port). option_map_or (λ (p : Port). p.name) o []) (port_with-is ports edges graph port id m e)

  pub delays-named : (delays : List Delay) (port : Port) → Contains ports port → is_device port.node ≡ false → delay_named ports delays (client_part port.name) ≡ delay_at delays port.node
  delays-named delays port m apart = go (find (λ (p : Port). bytes_eq (client_part p.name) (client_part port.name)) ports) refl
    where
      test : Port → Bool
      test p = bytes_eq (client_part p.name) (client_part port.name)

      go : (o : Option Port) → find (λ (p : Port). bytes_eq (client_part p.name) (client_part port.name)) ports ≡ o
          → option_map_or (delay_at delays) (option_map_or (λ (p : Port). Some p.node) o None) 0 ≡ delay_at delays port.node
      go None e = absurd (find-none (λ (p : Port). bytes_eq (client_part p.name) (client_part port.name)) ports port (ap is_some e) m ((bytes_decides (client_part port.name) (client_part port.name)).1 refl))
      go (Some p) e =
          ap (delay_at delays)
          (same_id_node-is p.node port.node
          (same_client p port (find-contains (λ (q : Port). bytes_eq (client_part q.name) (client_part port.name)) ports p e) m (sym (graph.devices port m) ∙ apart)
          ∙ find-passes (λ (q : Port). bytes_eq (client_part q.name) (client_part port.name)) ports p e))

  module _ (delays : List Delay) (mode : Mode) (delay : List ℕ → ℕ) (delays_are : (port : Port) → Contains ports port → is_device port.node ≡ false → delay (client_part port.name) ≡ delay_at delays port.node) where
    abbrev wiring : Wiring
    wiring = record { ports = open_ports ports; edges = connections ports edges; delay = delay }

    abbrev passed_in : Mode → ℕ → List ℕ → Range
    passed_in Since depth name = output_range wiring depth name
    passed_in Until depth name = input_range wiring depth name

    abbrev near_name : Mode → Connection → List ℕ
    near_name Since edge = edge.destination
    near_name Until edge = edge.source

    abbrev far_name : Mode → Connection → List ℕ
    far_name Since edge = edge.source
    far_name Until edge = edge.destination

    abbrev is_near_open : Mode → OpenPort → Bool
    is_near_open Since port = is_input port
    is_near_open Until port = not (is_input port)

    abbrev is_at : Mode → List ℕ → Connection → Bool
    is_at m name edge = is_direct edge.mark && bytes_eq (near_name m edge) name

    abbrev is_with : Mode → List ℕ → OpenPort → Bool
    is_with m client port = bytes_eq (client_part port.name) client && is_near_open m port

    abbrev along : Mode → ℕ → List ℕ → Range
    along m depth name = joined (map (λ (edge : Connection). passed_in m depth (far_name m edge)) (filter (is_at m name) wiring.edges))

    passed-more : (m : Mode) (depth : ℕ) (name : List ℕ)
        → passed_in m (suc depth) name ≡ cond (is_system (client_part name)) no_range (later_by (delay (client_part name)) (joined (map (λ (port : OpenPort). along m depth port.name) (filter (is_with m (client_part name)) wiring.ports))))
    passed-more Since depth name = refl
    passed-more Until depth name = refl

    passed-none : (m : Mode) (name : List ℕ) → no_range ≡ passed_in m 0 name
    passed-none Since name = refl
    passed-none Until name = refl

    range_of-near : (m : Mode) (port : Port) → is_near m port ≡ true → range_of wiring m (open_port port) ≡ along m (length wiring.ports) port.name
    range_of-near Since port t = ap (λ (b : Bool). cond b (along Since (length wiring.ports) port.name) (output_range wiring (length wiring.ports) port.name)) t
    range_of-near Until port t = go (is_input (open_port port)) t
      where
        go : (b : Bool) → not b ≡ true → cond b (input_range wiring (length wiring.ports) port.name) (along Until (length wiring.ports) port.name) ≡ along Until (length wiring.ports) port.name
        go true e = absurd (true≢false (sym e))
        go false e = refl

    range_of-far : (m : Mode) (port : Port) → is_near m port ≡ false → range_of wiring m (open_port port) ≡ passed_in m (length wiring.ports) port.name
    range_of-far Since port t = ap (λ (b : Bool). cond b (along Since (length wiring.ports) port.name) (output_range wiring (length wiring.ports) port.name)) t
    range_of-far Until port t = go (is_input (open_port port)) t
      where
        go : (b : Bool) → not b ≡ false → cond b (input_range wiring (length wiring.ports) port.name) (along Until (length wiring.ports) port.name) ≡ input_range wiring (length wiring.ports) port.name
        go true e = refl
        go false e = absurd (true≢false e)

    near-named : (m : Mode) (edge : Edge) → near_name m (connection ports edge) ≡ name_with ports (near_end m edge)
    near-named Since edge = refl
    near-named Until edge = refl

    far-named : (m : Mode) (edge : Edge) → far_name m (connection ports edge) ≡ name_with ports (far_end m edge)
    far-named Since edge = refl
    far-named Until edge = refl

    near-same : (m : Mode) (port : Port) → is_near_open m (open_port port) ≡ is_near m port
    near-same Since port = refl
    near-same Until port = refl

    -- over edges
    along-is : (depth : ℕ) (range : Port → Range) (port : Port) → Contains ports port → ((p : Port) → Contains ports p → is_far mode p ≡ true → range p ≡ passed_in mode depth p.name)
        → brought ports edges mode range port ≡ along mode depth port.name
    along-is depth range port m agree =
        sym (ap joined
        (mapped-same (is_at mode port.name) (connection ports) (is_edge_at mode port.id) (λ (edge : Connection). passed_in mode depth (far_name mode edge)) (λ (edge : Edge). range_to range ports (far_end mode edge)) edges
        (λ edge k.
        let p = near-port ports edges graph mode edge k in
        ap (λ b. is_direct edge.mark && b)
        (ap (λ name. bytes_eq name port.name) (near-named mode edge ∙ name-is p.0 (near_end mode edge) p.1 p.2) ∙ same_port p.0 port p.1 m ∙ ap (λ n. n == port.id.0) p.2))
        (λ edge k t.
        let p = far-port ports edges graph mode edge k in
        ap (passed_in mode depth) (far-named mode edge ∙ name-is p.0 (far_end mode edge) p.1 p.2)
        ∙ sym (agree p.0 p.1 p.3)
        ∙ sym (ap (λ (o : Option Port). option_map_or range o no_range) (port_with-is ports edges graph p.0 (far_end mode edge) p.1 p.2)))))

    -- over a client
    passed-is : (depth : ℕ) (range : Port → Range) (port : Port) → Contains ports port → ((p : Port) → Contains ports p → range p ≡ along mode depth p.name)
        → handed ports delays mode range port.node ≡ passed_in mode (suc depth) port.name
    passed-is depth range port m agree = go (is_system (client_part port.name)) refl ∙ sym (passed-more mode depth port.name)
      where
        go : (s : Bool) → is_system (client_part port.name) ≡ s
            → cond (is_device port.node) no_range (later_by (delay_at delays port.node) (joined (map range (filter (is_beside mode port.node) ports))))
            ≡ cond (is_system (client_part port.name)) no_range (later_by (delay (client_part port.name)) (joined (map (λ (p : OpenPort). along mode depth p.name) (filter (is_with mode (client_part port.name)) wiring.ports))))
        go true s =
            ap (λ b. cond b no_range (later_by (delay_at delays port.node) (joined (map range (filter (is_beside mode port.node) ports))))) (graph.devices port m ∙ s)
            ∙ sym (ap (λ b. cond b no_range (later_by (delay (client_part port.name)) (joined (map (λ (p : OpenPort). along mode depth p.name) (filter (is_with mode (client_part port.name)) wiring.ports))))) s)
        go false s =
            ap (λ b. cond b no_range (later_by (delay_at delays port.node) (joined (map range (filter (is_beside mode port.node) ports))))) (graph.devices port m ∙ s)
            ∙ ap₂ (λ (frames : ℕ) (ranges : List Range). later_by frames (joined ranges)) (sym (delays_are port m (graph.devices port m ∙ s)))
            (sym (mapped-same (is_with mode (client_part port.name)) open_port (is_beside mode port.node) (λ (p : OpenPort). along mode depth p.name) range ports
            (λ p k. ap₂ (λ a b. a && b) (sym (same_client p port k m s)) (near-same mode p))
            (λ p k t. sym (agree p k))))
            ∙ sym (ap (λ b. cond b no_range (later_by (delay (client_part port.name)) (joined (map (λ (p : OpenPort). along mode depth p.name) (filter (is_with mode (client_part port.name)) wiring.ports))))) s)

    within-is : (depth : ℕ) (port : Port) → Contains ports port → handed_within ports edges delays mode depth port ≡ passed_in mode depth port.name
    within-is zero port m = passed-none mode port.name
    within-is (suc depth) port m =
        passed-is depth (brought ports edges mode (handed_within ports edges delays mode depth)) port m
        (λ p k. along-is depth (handed_within ports edges delays mode depth) p k (λ q l t. within-is depth q l))

    pub table-is : (table : List Range) → length table ≡ length ports → Shows (is_far mode) (handed_within ports edges delays mode (length ports)) ports table
        → Shows (is_near mode) (brought ports edges mode (handed_within ports edges delays mode (length ports))) ports table → table ≡ map (λ (port : Port). range_of wiring mode (open_port port)) ports
    table-is table size far near = listed (λ (port : Port). range_of wiring mode (open_port port)) ports table size (λ k port at. go k port at (is_near mode port) refl)
      where
        deep : length ports ≡ length wiring.ports
        deep = sym (length-map ports open_port)

        go : (k : ℕ) (port : Port) → slice_get ports k ≡ Some port → (b : Bool) → is_near mode port ≡ b → get_or table k no_range ≡ range_of wiring mode (open_port port)
        go k port at true t =
            let m : Contains ports port = Contains-at ports k port at in
            near k port at t
            ∙ along-is (length ports) (handed_within ports edges delays mode (length ports)) port m (λ p l far_p. within-is (length ports) p l)
            ∙ ap (λ n. along mode n port.name) deep
            ∙ sym (range_of-near mode port t)
        go k port at false t =
            let m : Contains ports port = Contains-at ports k port at in
            far k port at (ap not t)
            ∙ within-is (length ports) port m
            ∙ ap (λ n. passed_in mode n port.name) deep
            ∙ sym (range_of-far mode port t)

  -- the latencies of a state
  pub latencies-are : (delays : List Delay) (mode : Mode) (state : State) → IsStateOf state ports edges delays
      → map (λ (port : Port). range_of (record { ports = open_ports ports; edges = connections ports edges; delay = delay_in state }) mode (open_port port)) ports ≡ latencies_in state mode ports
  latencies-are delays mode state is =
      map-contained (λ (port : Port). range_of (record { ports = open_ports ports; edges = connections ports edges; delay = delay_in state }) mode (open_port port)) (λ (port : Port). latency state mode port.name) ports
      (λ port m.
      ap₂ (λ ps es. range_of (record { ports = ps; edges = es; delay = delay_in state }) mode (open_port port)) (sym is.ports_are) (sym is.edges_are)
      ∙ sym (ap (λ (o : Option OpenPort). option_map_or (range_of (wiring_of state) mode) o no_range) (found port m)))
    where
      found : (port : Port) → Contains ports port → port_named state port.name ≡ Some (open_port port)
      found port m =
          ap (find (λ (p : OpenPort). bytes_eq p.name port.name)) is.ports_are
          ∙ find-one (λ (p : OpenPort). bytes_eq p.name port.name) (open_ports ports) (open_port port) (map-contains open_port ports port m) ((bytes_decides port.name port.name).1 refl)
          (λ other k t.
          let a = contains-map open_port ports other k in
          sym a.2 ∙ ap open_port (Apart-same (λ (p : Port). p.name) ports a.0 port graph.names a.1 m (ap (λ (p : OpenPort). p.name) a.2 ∙ (bytes_decides other.name port.name).0 t)))
