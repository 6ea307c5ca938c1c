-- What the tables tell of a registry's ports is what their names say.
--     own-ports      the ports of a kind and a way of a client, by names and by classes
--     place-named      the place of a port among these
--     place-none      where a test fails at a port, its name is not among those that pass
use Rattle.std.proofs.Common.{◌≡◌, ℕ, ◌+◌, ◌*◌, ◌<◌, Bool, true, false, cond, not, ◌&&◌, ◌↔◌, List, [], ◌∷◌, length, filter, get_or, position, Contains, Option, Some, None, refl, sym, ◌∙◌, ap, ap₂, arith, true≢false, eq-eqb, eqb-true}
use Rattle.std.specs.List.{position_or_len}
use Rattle.std.specs.Str.{bytes_eq}
use Rattle.std.proofs.lemmas.List.{get_or_default}
use Rattle.std.proofs.lemmas.List.Quantifiers.{position-Some}
use Rattle.jack_types.specs.Names.{client_part}
use Rattle.jack_types.specs.declared.ports.Client.{Client}
use Rattle.jack_types.specs.declared.ports.ClientId.{ClientId}
use Rattle.jack_types.specs.declared.ports.Node.{Node}
use Rattle.jack_types.specs.declared.ports.Node.TheVariants.{Capture, Playback, Client as ClientNode}
use Rattle.jack_types.specs.declared.ports.Port.{Port}
use Rattle.jack_types.specs.declared.ports.PortKind.{PortKind}
use Rattle.jack_types.specs.declared.ports.PortKind.TheVariants.{Audio, Midi}
use Rattle.jack_types.specs.declared.ports.Way.{Way}
use Rattle.jack_types.specs.declared.ports.Way.TheVariants.{In, Out}
use Rattle.session_model.specs.Benches.{port_place}
use Rattle.session_model.specs.Commands.{is_audio, is_input}
use Rattle.session_model.specs.Ids.{open_port, open_ports, way_of}
use Rattle.session_model.specs.State.{OpenPort, is_system, system_name}
use Rattle.cycle_plan.specs.session_laws.proofs.CycleLemmas.{bytes_same, filter-passes}
use Rattle.cycle_plan.specs.session_laws.proofs.ListLemmas.{filter-twice}
use Rattle.cycle_plan.specs.session_laws.proofs.LoopLemmas.{Contains-first, Contains-later, and_parts, and_true}
use Rattle.cycle_plan.specs.session_laws.proofs.PlaceLemmas.{filter-contains, filter-keeps, position-found}
use Rattle.cycle_plan.specs.session_laws.proofs.PlanLemmas.{Distinct-from_Apart}
use Rattle.cycle_plan.specs.session_laws.proofs.SoundLemmas.{Apart-same, contains-map, map-contains}
use Rattle.cycle_plan.specs.feedback_edges.specs.Marking.{node_number}
use Rattle.cycle_plan.specs.port_registry.specs.Registered.{IsPlaced, IsRegistered, Registered, is_of, node_for, system_node}
use Rattle.cycle_plan.proofs.NetworkLemmas.{bool-same, fails}
use Rattle.client_wiring.specs.Tables.{class_number, class_place, in_class, kind_number, number_in_class, way_number}
use Rattle.client_wiring.proofs.ListLemmas.{place-map, stands}
use lib.Pointwise.{bytes_decides}

none_below : {n : ℕ} → n < 0 → ⊥
none_below p = omega arith

-- the number of a class tells node, kind and way
number-parts : (m n : ℕ) (k l : PortKind) (v w : Way) → m * 4 + kind_number k + way_number v ≡ n * 4 + kind_number l + way_number w → (m ≡ n) × (k ≡ l) × (v ≡ w)
number-parts m n Audio Audio In In e = (omega (arith, e), refl, refl)
number-parts m n Audio Audio In Out e = absurd (omega (arith, e))
number-parts m n Audio Audio Out In e = absurd (omega (arith, e))
number-parts m n Audio Audio Out Out e = (omega (arith, e), refl, refl)
number-parts m n Audio Midi In In e = absurd (omega (arith, e))
number-parts m n Audio Midi In Out e = absurd (omega (arith, e))
number-parts m n Audio Midi Out In e = absurd (omega (arith, e))
number-parts m n Audio Midi Out Out e = absurd (omega (arith, e))
number-parts m n Midi Audio In In e = absurd (omega (arith, e))
number-parts m n Midi Audio In Out e = absurd (omega (arith, e))
number-parts m n Midi Audio Out In e = absurd (omega (arith, e))
number-parts m n Midi Audio Out Out e = absurd (omega (arith, e))
number-parts m n Midi Midi In In e = (omega (arith, e), refl, refl)
number-parts m n Midi Midi In Out e = absurd (omega (arith, e))
number-parts m n Midi Midi Out In e = absurd (omega (arith, e))
number-parts m n Midi Midi Out Out e = (omega (arith, e), refl, refl)

pub node-one : (a b : Node) → node_number a ≡ node_number b → a ≡ b
node-one Capture Capture e = refl
node-one Capture Playback e = absurd (omega (arith, e))
node-one Capture (ClientNode b) e = absurd (omega (arith, e))
node-one Playback Capture e = absurd (omega (arith, e))
node-one Playback Playback e = refl
node-one Playback (ClientNode b) e = absurd (omega (arith, e))
node-one (ClientNode a) Capture e = absurd (omega (arith, e))
node-one (ClientNode a) Playback e = absurd (omega (arith, e))
node-one (ClientNode a) (ClientNode b) e = let same : a.0 ≡ b.0 = omega (arith, e) in ap (λ n. ClientNode (record { 0 = n })) same

device-apart : (w : Way) (id : ClientId) → system_node w ≡ ClientNode id → ⊥
device-apart Out id n = let e : 0 ≡ id.0 + 2 = ap node_number n in omega (arith, e)
device-apart In id n = let e : 1 ≡ id.0 + 2 = ap node_number n in omega (arith, e)

id-one : (a b : ClientId) → ClientNode a ≡ ClientNode b → a.0 ≡ b.0
id-one a b n = let e : a.0 + 2 ≡ b.0 + 2 = ap node_number n in omega (arith, e)

-- what a name is like
pub bytes-turned : (a b : List ℕ) → bytes_eq a b ≡ bytes_eq b a
bytes-turned a b = bool-same (bytes_eq a b) (bytes_eq b a) (λ t. (bytes_decides b a).1 (sym (bytes_same a b t))) (λ t. (bytes_decides a b).1 (sym (bytes_same b a t)))

-- no place where none passes
pub position-nowhere : {X : Type 0} (test : X → Bool) (xs : List X) → ((x : X) → Contains xs x → test x ≡ true → ⊥) → position test xs ≡ None
position-nowhere {X} test xs h = go (position test xs) refl
  where
    filled : (ys : List X) → ((x : X) → Contains ys x → test x ≡ true → ⊥) → (i : ℕ) → position test ys ≡ Some i → ⊥
    filled [] k i e = absurd (nothing e)
      where
        nothing : None ≡ Some i → ⊥
        nothing p = cc
    filled (y ∷ ys) k i e =
        let w = position-Some test (y ∷ ys) i y e in
        k (get_or (y ∷ ys) i y) (i, w.0, get_or_default (y ∷ ys) i (get_or (y ∷ ys) i y) y w.0) w.1

    go : (o : Option ℕ) → position test xs ≡ o → position test xs ≡ None
    go None e = e
    go (Some i) e = absurd (filled xs h i e)

-- a test that ports of a kind and a way pass, and no others
abbrev pub Tells : (OpenPort → Bool) → PortKind → Way → Type 0
Tells test kind way = (port : OpenPort) → (test port ≡ true) ↔ ((port.kind ≡ kind) × (port.way ≡ way))

pub audio_outputs-tell : Tells (λ port. is_audio port && not (is_input port)) Audio Out
audio_outputs-tell port = (go port.kind port.way, back)
  where
    made : PortKind → Way → OpenPort
    made k w = record { name = port.name; way = w; kind = k; birth = port.birth }

    go : (k : PortKind) (w : Way) → (is_audio (made k w) && not (is_input (made k w))) ≡ true → (k ≡ Audio) × (w ≡ Out)
    go Audio Out t = (refl, refl)
    go Audio In t = absurd (true≢false (sym t))
    go Midi Out t = absurd (true≢false (sym t))
    go Midi In t = absurd (true≢false (sym t))

    back : (port.kind ≡ Audio) × (port.way ≡ Out) → (is_audio port && not (is_input port)) ≡ true
    back h = ap₂ (λ k w. is_audio (made k w) && not (is_input (made k w))) h.0 h.1

pub midi_outputs-tell : Tells (λ port. not (is_audio port) && not (is_input port)) Midi Out
midi_outputs-tell port = (go port.kind port.way, back)
  where
    made : PortKind → Way → OpenPort
    made k w = record { name = port.name; way = w; kind = k; birth = port.birth }

    go : (k : PortKind) (w : Way) → (not (is_audio (made k w)) && not (is_input (made k w))) ≡ true → (k ≡ Midi) × (w ≡ Out)
    go Midi Out t = (refl, refl)
    go Midi In t = absurd (true≢false (sym t))
    go Audio Out t = absurd (true≢false (sym t))
    go Audio In t = absurd (true≢false (sym t))

    back : (port.kind ≡ Midi) × (port.way ≡ Out) → (not (is_audio port) && not (is_input port)) ≡ true
    back h = ap₂ (λ k w. not (is_audio (made k w)) && not (is_input (made k w))) h.0 h.1

pub audio_inputs-tell : Tells (λ port. is_audio port && is_input port) Audio In
audio_inputs-tell port = (go port.kind port.way, back)
  where
    made : PortKind → Way → OpenPort
    made k w = record { name = port.name; way = w; kind = k; birth = port.birth }

    go : (k : PortKind) (w : Way) → (is_audio (made k w) && is_input (made k w)) ≡ true → (k ≡ Audio) × (w ≡ In)
    go Audio In t = (refl, refl)
    go Audio Out t = absurd (true≢false (sym t))
    go Midi Out t = absurd (true≢false (sym t))
    go Midi In t = absurd (true≢false (sym t))

    back : (port.kind ≡ Audio) × (port.way ≡ In) → (is_audio port && is_input port) ≡ true
    back h = ap₂ (λ k w. is_audio (made k w) && is_input (made k w)) h.0 h.1

module _ (held : Registered) (r : IsRegistered held) where
  -- two ports of one way are of one client exactly where they are at one node
  same_client : (a b : Port) → Contains held.ports a → Contains held.ports b → way_of a ≡ way_of b → node_number a.node ≡ node_number b.node → client_part a.name ≡ client_part b.name
  same_client a b p q way e = sym one.named ∙ go (is_system one.client.name) (is_system two.client.name) refl refl nodes ∙ two.named
    where
      one : IsPlaced held.clients a
      one = r.placed a p

      two : IsPlaced held.clients b
      two = r.placed b q

      nodes : node_for one.client (way_of b) ≡ node_for two.client (way_of b)
      nodes = sym (one.noded ∙ ap (node_for one.client) way) ∙ node-one a.node b.node e ∙ two.noded

      go : (s t : Bool) → is_system one.client.name ≡ s → is_system two.client.name ≡ t → cond s (system_node (way_of b)) (ClientNode one.client.id) ≡ cond t (system_node (way_of b)) (ClientNode two.client.id) → one.client.name ≡ two.client.name
      go true true f g n = bytes_same one.client.name system_name f ∙ sym (bytes_same two.client.name system_name g)
      go false false f g n = ap (λ (c : Client). c.name) (Apart-same (λ (c : Client). c.id.0) held.clients one.client two.client r.client_ids one.listed two.listed (id-one one.client.id two.client.id n))
      go true false f g n = absurd (device-apart (way_of b) two.client.id n)
      go false true f g n = absurd (device-apart (way_of b) one.client.id (sym n))

  same_node : (a b : Port) → Contains held.ports a → Contains held.ports b → way_of a ≡ way_of b → client_part a.name ≡ client_part b.name → node_number a.node ≡ node_number b.node
  same_node a b p q way e = ap node_number (one.noded ∙ ap₂ node_for clients way ∙ sym two.noded)
    where
      one : IsPlaced held.clients a
      one = r.placed a p

      two : IsPlaced held.clients b
      two = r.placed b q

      clients : one.client ≡ two.client
      clients = Apart-same (λ (c : Client). c.name) held.clients one.client two.client r.client_names one.listed two.listed (one.named ∙ e ∙ sym two.named)

  -- a node's ports of a way are those of the client of this name
  abbrev pub Owns : Node → Way → List ℕ → Type 0
  Owns node way name = (a : Port) → Contains held.ports a → way_of a ≡ way → (node_number a.node ≡ node_number node) ↔ (client_part a.name ≡ name)

  module _ (node : Node) (kind : PortKind) (way : Way) (name : List ℕ) (owns : Owns node way name) (test : OpenPort → Bool) (tells : Tells test kind way) where
    test-is : (a : Port) → Contains held.ports a → (is_of name a && test (open_port a)) ≡ in_class (number_in_class node kind way) a
    test-is a m = bool-same (is_of name a && test (open_port a)) (in_class (number_in_class node kind way) a) forward back
      where
        forward : (is_of name a && test (open_port a)) ≡ true → in_class (number_in_class node kind way) a ≡ true
        forward t =
            let both = and_parts (is_of name a) (test (open_port a)) t in
            let told = (tells (open_port a)).0 both.1 in
            let number : node_number a.node ≡ node_number node = (owns a m told.1).1 (bytes_same (client_part a.name) name both.0) in
            eq-eqb (class_number a) (number_in_class node kind way) (ap₂ (λ n k. n * 4 + kind_number k + way_number (way_of a)) number told.0 ∙ ap (λ w. node_number node * 4 + kind_number kind + way_number w) told.1)

        back : in_class (number_in_class node kind way) a ≡ true → (is_of name a && test (open_port a)) ≡ true
        back t =
            let parts = number-parts (node_number a.node) (node_number node) a.kind kind (way_of a) way (eqb-true (class_number a) (number_in_class node kind way) t) in
            and_true (is_of name a) (test (open_port a)) ((bytes_decides (client_part a.name) name).1 ((owns a m parts.2).0 parts.0)) ((tells (open_port a)).1 (parts.1, parts.2))

    pub own-ports : filter test (filter (λ (port : OpenPort). bytes_eq (client_part port.name) name) (open_ports held.ports)) ≡ open_ports (filter (in_class (number_in_class node kind way)) held.ports)
    own-ports = filter-twice test (λ (port : OpenPort). bytes_eq (client_part port.name) name) (open_ports held.ports) ∙ called held.ports (λ a m. m)
      where
        called : (some : List Port) → ((a : Port) → Contains some a → Contains held.ports a)
            → filter (λ (port : OpenPort). bytes_eq (client_part port.name) name && test port) (open_ports some) ≡ open_ports (filter (in_class (number_in_class node kind way)) some)
        called [] among = refl
        called (a ∷ some) among = go (is_of name a && test (open_port a)) (in_class (number_in_class node kind way) a) (test-is a (among a (Contains-first a some))) (called some (λ b m. among b (Contains-later a b some m)))
          where
            go : (b c : Bool) → b ≡ c → filter (λ (port : OpenPort). bytes_eq (client_part port.name) name && test port) (open_ports some) ≡ open_ports (filter (in_class (number_in_class node kind way)) some)
                → cond b (open_port a ∷ filter (λ (port : OpenPort). bytes_eq (client_part port.name) name && test port) (open_ports some)) (filter (λ (port : OpenPort). bytes_eq (client_part port.name) name && test port) (open_ports some))
                ≡ open_ports (cond c (a ∷ filter (in_class (number_in_class node kind way)) some) (filter (in_class (number_in_class node kind way)) some))
            go true true e rest = ap (λ ports. open_port a ∷ ports) rest
            go false false e rest = rest
            go true false e rest = absurd (true≢false e)
            go false true e rest = absurd (true≢false (sym e))

  -- a port of the list
  module _ (index : ℕ) (port : Port) (within : index < length held.ports) (there : get_or held.ports index port ≡ port) where
    listed : Contains held.ports port
    listed = (index, within, there)

    abbrev own : (OpenPort → Bool) → List OpenPort
    own test = filter test (filter (λ (other : OpenPort). bytes_eq (client_part other.name) (client_part port.name)) (open_ports held.ports))

    abbrev is_it : Port → Bool
    is_it other = bytes_eq other.name port.name

    first : (j : ℕ) → j < index → is_it (get_or held.ports j port) ≡ false
    first j less = fails (is_it (get_or held.ports j port)) twice
      where
        twice : is_it (get_or held.ports j port) ≡ true → ⊥
        twice t =
            let same : j ≡ index = Distinct-from_Apart (λ (p : Port). p.name) held.ports r.port_names j index port (omega (arith, less, within)) within
            (bytes_same (get_or held.ports j port).name port.name t ∙ sym (ap (λ (p : Port). p.name) there)) in
            omega (arith, less, same)

    -- its place among those of its client that pass a test for its kind and way
    pub place-named : (test : OpenPort → Bool) → Tells test port.kind (way_of port) → position_or_len (λ (other : OpenPort). bytes_eq other.name port.name) (own test) ≡ class_place held.ports index port
    place-named test tells =
        ap (position_or_len (λ (other : OpenPort). bytes_eq other.name port.name))
        (own-ports port.node port.kind (way_of port) (client_part port.name) (λ a m w. (same_client a port m listed w, same_node a port m listed w)) test tells)
        ∙ place-map (λ (other : OpenPort). bytes_eq other.name port.name) open_port (filter (in_class (class_number port)) held.ports)
        ∙ stands is_it (in_class (class_number port)) held.ports index port within there (eq-eqb (class_number port) (class_number port) refl) ((bytes_decides port.name port.name).1 refl) first

    pub found-named : (test : OpenPort → Bool) → Tells test port.kind (way_of port) → port_place (own test) port.name ≡ Some (class_place held.ports index port)
    found-named test tells =
        position-found (λ (other : OpenPort). bytes_eq other.name port.name) (own test) (open_port port)
        (filter-keeps test (filter (λ (other : OpenPort). bytes_eq (client_part other.name) (client_part port.name)) (open_ports held.ports)) (open_port port)
        (filter-keeps (λ (other : OpenPort). bytes_eq (client_part other.name) (client_part port.name)) (open_ports held.ports) (open_port port) (map-contains open_port held.ports port listed) ((bytes_decides (client_part port.name) (client_part port.name)).1 refl))
        ((tells (open_port port)).1 (refl, refl)))
        ((bytes_decides port.name port.name).1 refl)
        ∙ ap Some (place-named test tells)

    -- a port of its name is that one
    pub named-one : (other : OpenPort) → Contains (open_ports held.ports) other → other.name ≡ port.name → other ≡ open_port port
    named-one other m e =
        let w = contains-map open_port held.ports other m in
        sym w.2 ∙ ap open_port (Apart-same (λ (p : Port). p.name) held.ports w.0 port r.port_names w.1 listed (ap (λ (p : OpenPort). p.name) w.2 ∙ e))

    pub place-none : (test : OpenPort → Bool) → test (open_port port) ≡ false → port_place (own test) port.name ≡ None
    place-none test failing = position-nowhere (λ (other : OpenPort). bytes_eq other.name port.name) (own test) here
      where
        here : (other : OpenPort) → Contains (own test) other → bytes_eq other.name port.name ≡ true → ⊥
        here other m t =
            let inside = filter-contains test (filter (λ (o : OpenPort). bytes_eq (client_part o.name) (client_part port.name)) (open_ports held.ports)) other m in
            let one : other ≡ open_port port = named-one other (filter-contains (λ (o : OpenPort). bytes_eq (client_part o.name) (client_part port.name)) (open_ports held.ports) other inside) (bytes_same other.name port.name t) in
            true≢false (sym (filter-passes test (filter (λ (o : OpenPort). bytes_eq (client_part o.name) (client_part port.name)) (open_ports held.ports)) other m) ∙ ap test one ∙ failing)
