-- What feedback edges give is told by the births of their ports.
--     SetsFeedback-wired      the wirings of two plans, of which one goes on from the other, say so
use Rattle.std.proofs.Common.{◌≡◌, ℕ, ℤ, zero, suc, ◌-◌, ◌<◌, ◌≤◌, Bool, true, false, cond, not, ◌&&◌, ◌==◌, ◌⊎◌, inl, inr, List, [], ◌∷◌, length, filter_map, find, get_or, take, Contains, Option, Some, None, is_some, refl, sym, ◌∙◌, ap, ap₂, subst, arith, true≢false, eq-eqb, eqb-true}
use Rattle.std.specs.List.{cons_option, position_or_len}
use Rattle.std.specs.Option.{option_map_or}
use Rattle.std.specs.Str.{bytes_eq}
use Rattle.std.proofs.lemmas.List.{get_or_default, length-map}
use Rattle.std.proofs.lemmas.List.Quantifiers.{position-Some}
use Rattle.jack_types.specs.Names.{client_part}
use Rattle.jack_types.specs.declared.ports.Mark.{Mark}
use Rattle.jack_types.specs.declared.ports.Mark.TheVariants.{Direct, Feedback}
use Rattle.session_model.specs.Benches.{Bench, IsPlan, edge_place, edges_between, link_place, node_at, outputs_of, place_in, port_place}
use Rattle.session_model.specs.Commands.{is_audio, is_input, ports_of, replay}
use Rattle.session_model.specs.Courses.{players}
use Rattle.session_model.specs.Cycles.{Settled, audio_inputs, audio_outputs, birth_of, same_birth, was_there}
use Rattle.session_model.specs.Samples.{silence}
use Rattle.session_model.specs.Soundness.{IsEnd, IsSound}
use Rattle.session_model.specs.State.{Connection, OpenClient, OpenPort, State, capture_port, is_active_in, is_system, port_named}
use Rattle.cycle_plan.specs.session_laws.proofs.CycleLemmas.{bytes_same, filter-passes, find-contains, find-passes}
use Rattle.cycle_plan.specs.session_laws.proofs.GraphLemmas.{route-audio}
use Rattle.cycle_plan.specs.session_laws.proofs.LoopLemmas.{Contains-cases, Contains-first, Contains-later, and_parts, and_true}
use Rattle.cycle_plan.specs.session_laws.proofs.PlaceLemmas.{filter-contains, filter-keeps, position-found}
use Rattle.cycle_plan.specs.session_laws.proofs.PlanLemmas.{find-one}
use Rattle.cycle_plan.specs.session_laws.proofs.SoundLemmas.{Apart-same, find-none}
use Rattle.cycle_plan.specs.port_registry.specs.Registered.{open_client, open_clients}
use Rattle.cycle_plan.specs.Plans.{IsPlanned, Planned, opening_of, state_of_plan}
use Rattle.cycle_plan.proofs.NetworkLemmas.{fails}
use Rattle.client_wiring.specs.declared.joints.Given.{Given}
use Rattle.client_wiring.specs.declared.joints.Joint.{Joint}
use Rattle.client_wiring.specs.declared.joints.Origin.TheVariants.{Handed, Kept, Captured}
use Rattle.client_wiring.specs.Keeping.{GoesOn, SetsFeedback, kept_audio}
use Rattle.client_wiring.specs.Wirings.{given_by, given_of, joint_into, joint_of, origin_from, origin_of, output_name, sound_by, sound_from, source_birth, source_place, wired_of}
use Rattle.client_wiring.proofs.FollowLemmas.{Follows, Follows-opening, Follows-replay, Follows-self}
use Rattle.client_wiring.proofs.ListLemmas.{take-whole}
use Rattle.client_wiring.proofs.OverLemmas.{name-of_place}
use Rattle.client_wiring.proofs.PlaybackLemmas.{given-is, inside-plan, sound-plan, wired-plan}
use Rattle.client_wiring.proofs.TaskLemmas.{edge-sound, input-listed, input-sound, place-index}
use lib.Pointwise.{bytes_decides}

none_below : {n : ℕ} → n < 0 → ⊥
none_below p = omega arith

-- ---- lists

-- what is made is made of an element
made-of : {X Y : Type 0} (f : X → Option Y) (xs : List X) (y : Y) → Contains (filter_map f xs) y → (x : X) × Contains xs x × (f x ≡ Some y)
made-of f [] y m = absurd (none_below m.1)
made-of {X} {Y} f (x ∷ xs) y m = go (f x) refl m (made-of f xs y)
  where
    later : (z : X) × Contains xs z × (f z ≡ Some y) → (z : X) × Contains (x ∷ xs) z × (f z ≡ Some y)
    later w = (w.0, Contains-later x w.0 xs w.1, w.2)

    first : (one : Y) → f x ≡ Some one → (one ≡ y) ⊎ Contains (filter_map f xs) y → (Contains (filter_map f xs) y → (z : X) × Contains xs z × (f z ≡ Some y)) → (z : X) × Contains (x ∷ xs) z × (f z ≡ Some y)
    first one e (inl same) rest = (x, Contains-first x xs, e ∙ ap Some same)
    first one e (inr k) rest = later (rest k)

    go : (o : Option Y) → f x ≡ o → Contains (cons_option o (filter_map f xs)) y → (Contains (filter_map f xs) y → (z : X) × Contains xs z × (f z ≡ Some y)) → (z : X) × Contains (x ∷ xs) z × (f z ≡ Some y)
    go None e k rest = later (rest k)
    go (Some one) e k rest = first one e (Contains-cases one y (filter_map f xs) k) rest

made-contains : {X Y : Type 0} (f : X → Option Y) (xs : List X) (x : X) (y : Y) → Contains xs x → f x ≡ Some y → Contains (filter_map f xs) y
made-contains f [] x y m e = absurd (none_below m.1)
made-contains {X} {Y} f (z ∷ xs) x y m e = go (f z) refl (Contains-cases z x xs m) (λ k. made-contains f xs x y k e)
  where
    one : (a b : Y) → Some a ≡ Some b → a ≡ b
    one a b p = cc

    nothing : None ≡ Some y → ⊥
    nothing p = cc

    go : (o : Option Y) → f z ≡ o → (z ≡ x) ⊎ Contains xs x → (Contains xs x → Contains (filter_map f xs) y) → Contains (cons_option o (filter_map f xs)) y
    go None g (inl same) rest = absurd (nothing (sym g ∙ ap f same ∙ e))
    go None g (inr k) rest = rest k
    go (Some a) g (inl same) rest = subst (λ b. Contains (a ∷ filter_map f xs) b) (one a y (sym g ∙ ap f same ∙ e)) (Contains-first a (filter_map f xs))
    go (Some a) g (inr k) rest = Contains-later a y (filter_map f xs) (rest k)

take-short : {X : Type 0} (n : ℕ) (xs : List X) → length (take n xs) ≤ length xs
take-short zero xs = omega arith
take-short (suc n) [] = omega arith
take-short (suc n) (x ∷ xs) = let rest : length (take n xs) ≤ length xs = take-short n xs in omega (arith, rest)

find-there : {X : Type 0} (test : X → Bool) (xs : List X) (x : X) → Contains xs x → test x ≡ true → is_some (find test xs) ≡ true
find-there test xs x m t = go (is_some (find test xs)) refl
  where
    go : (b : Bool) → is_some (find test xs) ≡ b → b ≡ true
    go true e = refl
    go false e = absurd (find-none test xs x e m t)

-- ---- the ports and clients of both plans

module _ (last now : Planned) (g : GoesOn last now) where
  reached : Follows (state_of_plan last) (length last.changes) (state_of_plan last) (length last.changes)
  reached =
      Follows-self start-last 0 (state_of_plan last) (length last.changes)
      (subst (λ cs. Follows (opening_of last.base) 0 (replay (opening_of last.base) cs) (length last.changes)) (take-whole last.changes)
      (Follows-replay (opening_of last.base) 0 (opening_of last.base) last.changes (g.planned_last).lawful 0 (Follows-opening last.base.capture last.base.playback)
      (length last.changes) (length last.changes) (omega arith) (omega arith)))
    where
      start-last : State
      start-last = opening_of last.base

  within : length last.changes ≤ length now.changes
  within =
      let same : length last.changes ≡ length (take (length last.changes) now.changes) = ap length g.front in
      let short : length (take (length last.changes) now.changes) ≤ length now.changes = take-short (length last.changes) now.changes in
      omega (arith, same, short)

  front-is : state_of_plan last ≡ replay (opening_of now.base) (take (length last.changes) now.changes)
  front-is = ap₂ (λ base changes. replay (opening_of base) changes) (sym g.base) g.front

  follows : Follows (state_of_plan last) (length last.changes) (state_of_plan now) (length now.changes)
  follows =
      subst (λ cs. Follows (state_of_plan last) (length last.changes) (replay (opening_of now.base) cs) (length now.changes)) (take-whole now.changes)
      (Follows-replay (state_of_plan last) (length last.changes) (opening_of now.base) now.changes (g.planned).lawful (length last.changes)
      (subst (λ s. Follows (state_of_plan last) (length last.changes) s (length last.changes)) front-is reached)
      (length now.changes - length last.changes) (length now.changes) (let less : length last.changes ≤ length now.changes = within in omega (arith, less)) (omega arith))

-- ---- a kept joint

-- a joint's edge comes from this output of a node, and its port is of this birth
record Keeps (plan : Planned) (n output birth : ℕ) : Type 0 where
  edge : Connection
  listed : Contains (state_of_plan plan).edges edge
  from : place_in (open_clients plan.nodes) (client_part edge.source) ≡ Some n
  place : source_place (state_of_plan plan) edge ≡ output
  born : source_birth (state_of_plan plan) edge ≡ birth
  end : IsEnd (state_of_plan plan) false true edge.source

module _ (plan : Planned) (p : IsPlanned plan) (joint : Joint) (n output birth : ℕ) (m : Contains (wired_of plan).joints joint) (o : joint.origin ≡ Kept n output birth) where
  abbrev state : State
  state = state_of_plan plan

  abbrev nodes : List OpenClient
  nodes = open_clients plan.nodes

  kept-parts : (a b c d e f : ℕ) → Kept a b c ≡ Kept d e f → (a ≡ d) × (b ≡ e) × (c ≡ f)
  kept-parts a b c d e f q = (cc, cc, cc)

  handed-apart : (a b d e f : ℕ) → Handed a b ≡ Kept d e f → ⊥
  handed-apart a b d e f q = cc

  captured-apart : (a d e f : ℕ) → Captured a ≡ Kept d e f → ⊥
  captured-apart a d e f q = cc

  origin-kept : (k : ℕ) (edge : Connection) (mark : Mark) (from : Option ℕ) → place_in (open_clients plan.nodes) (client_part edge.source) ≡ from
      → origin_from (state_of_plan plan) (open_clients plan.nodes) plan.links k edge mark from ≡ Kept n output birth
      → (place_in (open_clients plan.nodes) (client_part edge.source) ≡ Some n) × (source_place (state_of_plan plan) edge ≡ output) × (source_birth (state_of_plan plan) edge ≡ birth)
  origin-kept k edge Direct (Some a) f e =
      absurd (handed-apart (link_place plan.links a k) (edge_place edge (edges_between state (node_at nodes a).name (node_at nodes k).name)) n output birth e)
  origin-kept k edge Direct None f e = absurd (captured-apart (source_place state edge) n output birth e)
  origin-kept k edge Feedback None f e = absurd (captured-apart (source_place state edge) n output birth e)
  origin-kept k edge Feedback (Some a) f e =
      let parts = kept-parts a (source_place state edge) (source_birth state edge) n output birth e in
      (f ∙ ap Some parts.0, parts.1, parts.2)

  sound-end : (edge : Connection) → Contains (state_of_plan plan).edges edge → (i : ℕ) → port_place (audio_inputs (state_of_plan plan) (client_part edge.destination)) edge.destination ≡ Some i → IsEnd (state_of_plan plan) false true edge.source
  sound-end edge listed i e =
      let w = position-Some (λ (port : OpenPort). bytes_eq port.name edge.destination) inputs i (capture_port 0) e in
      let here : Contains (audio_inputs (state_of_plan plan) (client_part edge.destination)) (port i) = (i, w.0, get_or_default inputs i (port i) (capture_port 0) w.0) in
      edge-sound state nodes plan.links p.is_plan (length plan.changes) (sound-plan plan p) (wired-plan plan) (inside-plan plan) edge listed (port i)
      (input-listed state nodes plan.links p.is_plan (length plan.changes) (sound-plan plan p) (wired-plan plan) (inside-plan plan) (client_part edge.destination) (port i) here)
      (input-sound state nodes plan.links p.is_plan (length plan.changes) (sound-plan plan p) (wired-plan plan) (inside-plan plan) (client_part edge.destination) (port i) here)
      (sym (bytes_same (port i).name edge.destination w.1))
    where
      inputs : List OpenPort
      inputs = audio_inputs (state_of_plan plan) (client_part edge.destination)

      port : ℕ → OpenPort
      port k = get_or (audio_inputs (state_of_plan plan) (client_part edge.destination)) k (capture_port 0)

  joint-keeps : (edge : Connection) → Contains (state_of_plan plan).edges edge → (node input : Option ℕ)
      → port_place (audio_inputs (state_of_plan plan) (client_part edge.destination)) edge.destination ≡ input
      → joint_into (state_of_plan plan) (open_clients plan.nodes) plan.links edge node input ≡ Some joint → Keeps plan n output birth
  joint-keeps edge listed None input f e = absurd (nothing e)
    where
      nothing : None ≡ Some joint → ⊥
      nothing q = cc
  joint-keeps edge listed (Some k) None f e = absurd (nothing e)
    where
      nothing : None ≡ Some joint → ⊥
      nothing q = cc
  joint-keeps edge listed (Some k) (Some i) f e =
      let parts = origin-kept k edge edge.mark (place_in nodes (client_part edge.source)) refl (same (record { node = k; input = i; origin = origin_of state nodes plan.links k edge }) e ∙ o) in
      record { edge = edge; listed = listed; from = parts.0; place = parts.1; born = parts.2; end = sound-end edge listed i f }
    where
      same : (made : Joint) → Some made ≡ Some joint → made.origin ≡ joint.origin
      same made q = ap (λ (j : Joint). j.origin) (one made q)
        where
          one : (made : Joint) → Some made ≡ Some joint → made ≡ joint
          one made r = cc

  keeps : Keeps plan n output birth
  keeps =
      let w = made-of (joint_of (state_of_plan plan) (open_clients plan.nodes) plan.links) (state_of_plan plan).edges joint m in
      joint-keeps w.0 w.1 (place_in nodes (client_part (w.0).destination)) (port_place (audio_inputs state (client_part (w.0).destination)) (w.0).destination) refl w.2

-- a node's client plays in its state, and is no device
module _ (plan : Planned) (p : IsPlanned plan) (name : List ℕ) (n : ℕ) (at : place_in (open_clients plan.nodes) name ≡ Some n) where
  abbrev plays : OpenClient → Bool
  plays client = client.active && not (is_system client.name)

  abbrev its : OpenClient
  its = node_at (open_clients plan.nodes) n

  found : (n < length (open_clients plan.nodes)) × ((node_at (open_clients plan.nodes) n).name ≡ name)
  found = name-of_place (state_of_plan plan) (open_clients plan.nodes) plan.links p.is_plan name n at

  player : Contains (players (state_of_plan plan)) (node_at (open_clients plan.nodes) n)
  player = find-contains (λ (client : OpenClient). bytes_eq client.name (node_at (open_clients plan.nodes) n).name) (players (state_of_plan plan)) (node_at (open_clients plan.nodes) n) ((p.is_plan).named n found.0)

  node-open : Contains (state_of_plan plan).clients (node_at (open_clients plan.nodes) n)
  node-open = filter-contains plays (state_of_plan plan).clients (node_at (open_clients plan.nodes) n) player

  node-plays : ((node_at (open_clients plan.nodes) n).active ≡ true) × (not (is_system (node_at (open_clients plan.nodes) n).name) ≡ true)
  node-plays = and_parts its.active (not (is_system its.name)) (filter-passes plays (state_of_plan plan).clients its player)

  no-device : is_system name ≡ false
  no-device = ap is_system (sym found.1) ∙ untrue (is_system its.name) node-plays.1
    where
      untrue : (b : Bool) → not b ≡ true → b ≡ false
      untrue true e = absurd (true≢false (sym e))
      untrue false e = refl

  below-nodes : n < length plan.nodes
  below-nodes = let same : length (open_clients plan.nodes) ≡ length plan.nodes = length-map plan.nodes open_client in let low : n < length (open_clients plan.nodes) = found.0 in omega (arith, low, same)

-- the name of an output
named-output : (plan : Planned) (p : IsPlanned plan) (n output birth : ℕ) (k : Keeps plan n output birth) → output_name (state_of_plan plan) (open_clients plan.nodes) n output ≡ (k.edge).source
named-output plan p n output birth k =
    let edge : Connection = k.edge in
    let told = route-audio (state_of_plan plan) (length plan.changes) (sound-plan plan p) (k.edge).source k.end in
    let its_name : (node_at (open_clients plan.nodes) n).name ≡ client_part (k.edge).source = (name-of_place (state_of_plan plan) (open_clients plan.nodes) plan.links p.is_plan (client_part (k.edge).source) n k.from).1 in
    let place : source_place (state_of_plan plan) k.edge ≡ told.0.0 = place-index (λ (port : OpenPort). bytes_eq port.name (k.edge).source) (audio_outputs (state_of_plan plan) (client_part (k.edge).source)) told.0.0 told.0.2 in
    let there = position-Some (λ (port : OpenPort). bytes_eq port.name (k.edge).source) (audio_outputs (state_of_plan plan) (client_part (k.edge).source)) told.0.0 (capture_port 0) told.0.2 in
    ap₂ (λ name j. (get_or (audio_outputs (state_of_plan plan) name) j (capture_port 0)).name) its_name (sym k.place ∙ place)
    ∙ bytes_same (get_or (audio_outputs (state_of_plan plan) (client_part (k.edge).source)) told.0.0 (capture_port 0)).name (k.edge).source there.1

-- a port stands under its name
named-port : (state : State) (number : ℕ) → IsSound state number → (name : List ℕ) (port : OpenPort) → Contains state.ports port → port.name ≡ name → port_named state name ≡ Some port
named-port state number sound name port m e =
    find-one (λ (p : OpenPort). bytes_eq p.name name) state.ports port m ((bytes_decides port.name name).1 e)
    (λ other k t. Apart-same (λ (p : OpenPort). p.name) state.ports other port sound.port_names k m (bytes_same other.name name t ∙ sym e))

active-there : (state : State) (name : List ℕ) (client : OpenClient) → Contains state.clients client → client.name ≡ name → client.active ≡ true → is_active_in state name ≡ true
active-there state name client m e a =
    find-there (λ (c : OpenClient). bytes_eq c.name name && c.active) state.clients client m (and_true (bytes_eq client.name name) client.active ((bytes_decides client.name name).1 e) a)

active-client : (state : State) (name : List ℕ) → is_active_in state name ≡ true → (client : OpenClient) × Contains state.clients client × (client.name ≡ name) × (client.active ≡ true)
active-client state name h = go (find (λ (c : OpenClient). bytes_eq c.name name && c.active) state.clients) refl h
  where
    go : (o : Option OpenClient) → find (λ (c : OpenClient). bytes_eq c.name name && c.active) state.clients ≡ o → is_some o ≡ true → (client : OpenClient) × Contains state.clients client × (client.name ≡ name) × (client.active ≡ true)
    go None e t = absurd (true≢false (sym t))
    go (Some client) e t =
        let both = and_parts (bytes_eq client.name name) client.active (find-passes (λ (c : OpenClient). bytes_eq c.name name && c.active) state.clients client e) in
        (client, find-contains (λ (c : OpenClient). bytes_eq c.name name && c.active) state.clients client e, bytes_same client.name name both.0, both.1)

module _ (last now : Planned) (g : GoesOn last now) (n output birth : ℕ) (k : Keeps now n output birth) where
  abbrev state_last : State
  state_last = state_of_plan last

  abbrev state_now : State
  state_now = state_of_plan now

  abbrev last_nodes : List OpenClient
  last_nodes = open_clients last.nodes

  abbrev source : List ℕ
  source = (k.edge).source

  abbrev port : OpenPort
  port = (k.end).port

  plan-last : IsPlan (state_of_plan last) (open_clients last.nodes) last.links
  plan-last = (g.planned_last).is_plan

  sound-last : IsSound (state_of_plan last) (length last.changes)
  sound-last = sound-plan last g.planned_last

  part : client_part (k.end).port.name ≡ client_part (k.edge).source
  part = ap client_part (k.end).named

  named-now : port_named (state_of_plan now) (k.edge).source ≡ Some (k.end).port
  named-now = named-port state_now (length now.changes) (sound-plan now g.planned) source port (k.end).listed (k.end).named

  port-birth : (k.end).port.birth ≡ birth
  port-birth = sym (ap (λ o. option_map_or (λ (p : OpenPort). p.birth) o 0) named-now) ∙ k.born

  -- whether it was there, by its port in the last plan's state_now
  was-named : (held : Option OpenPort) → port_named (state_of_plan last) (k.edge).source ≡ held
      → was_there (state_of_plan last) (state_of_plan now) (k.edge).source ≡ (same_birth (Some (k.end).port.birth) (birth_of held) && is_active_in (state_of_plan last) (client_part (k.edge).source))
  was-named held e = ap₂ (λ a b. same_birth (birth_of a) (birth_of b) && is_active_in state_last (client_part source)) named-now e

  -- an active client of the last plan's state_now is one of its nodes
  node-of : is_active_in (state_of_plan last) (client_part (k.edge).source) ≡ true → (m : ℕ) × (place_in (open_clients last.nodes) (client_part (k.edge).source) ≡ Some m)
  node-of t = (position_or_len test last_nodes, position-found test last_nodes client.0 (plan-last.every client.0 player) ((bytes_decides (client.0).name (client_part source)).1 client.2))
    where
      test : OpenClient → Bool
      test other = bytes_eq other.name (client_part (k.edge).source)

      plays : OpenClient → Bool
      plays other = other.active && not (is_system other.name)

      client : (c : OpenClient) × Contains (state_of_plan last).clients c × (c.name ≡ client_part (k.edge).source) × (c.active ≡ true)
      client = active-client (state_of_plan last) (client_part (k.edge).source) t

      player : Contains (players (state_of_plan last)) client.0
      player = filter-keeps plays (state_of_plan last).clients client.0 client.1
          (and_true (client.0).active (not (is_system (client.0).name)) client.3 (ap not (ap is_system client.2 ∙ no-device now g.planned (client_part (k.edge).source) n k.from)))

  -- the port among the outputs of its client in the last plan's state_now
  output-of : Contains (state_of_plan last).ports (k.end).port → Contains (audio_outputs (state_of_plan last) (client_part (k.edge).source)) (k.end).port
  output-of m =
      filter-keeps (λ (p : OpenPort). is_audio p && not (is_input p)) (ports_of state_last (client_part source)) port
      (filter-keeps (λ (p : OpenPort). bytes_eq (client_part p.name) (client_part source)) state_last.ports port m ((bytes_decides (client_part port.name) (client_part source)).1 part))
      (and_true (is_audio port) (not (is_input port)) (k.end).type_is (ap not (k.end).direction))

  -- ---- no output of the last plan has the birth

  was-absent : ((given : Given) → Contains (wired_of last).given given → given.birth ≡ birth → ⊥) → was_there (state_of_plan last) (state_of_plan now) (k.edge).source ≡ false
  was-absent none = fails (was_there state_last state_now source) (λ t. there (port_named state_last source) refl t)
    where
      given-there : Contains (state_of_plan last).ports (k.end).port → (m : ℕ) → place_in (open_clients last.nodes) (client_part (k.edge).source) ≡ Some m → ⊥
      given-there listed m e =
          none (made m)
          (made-contains (given_of state_last last_nodes) state_last.ports port (made m) listed
          (ap₂ (given_by port.birth)
          (ap (place_in last_nodes) part ∙ e)
          (ap₂ (λ client name. port_place (audio_outputs state_last client) name) part (k.end).named
          ∙ position-found (λ (p : OpenPort). bytes_eq p.name source) (audio_outputs state_last (client_part source)) port (output-of listed) ((bytes_decides port.name source).1 (k.end).named))))
          port-birth
        where
          made : ℕ → Given
          made node = record { birth = (k.end).port.birth; node = node; output = position_or_len (λ (p : OpenPort). bytes_eq p.name (k.edge).source) (audio_outputs (state_of_plan last) (client_part (k.edge).source)) }

      there : (held : Option OpenPort) → port_named (state_of_plan last) (k.edge).source ≡ held → was_there (state_of_plan last) (state_of_plan now) (k.edge).source ≡ true → ⊥
      there None e t = true≢false (sym t ∙ was-named None e)
      there (Some other) e t =
          let both = and_parts (port.birth == other.birth) (is_active_in state_last (client_part source)) (sym (was-named (Some other) e) ∙ t) in
          let same : (k.end).port.birth ≡ other.birth = eqb-true port.birth other.birth both.0 in
          let low : other.birth ≤ length last.changes = (reached last now g).born other (find-contains (λ (p : OpenPort). bytes_eq p.name source) state_last.ports other e) in
          let node = node-of both.1 in
          given-there ((follows last now g).kept port (k.end).listed (omega (arith, same, low))) node.0 node.1

  silent-of : ((given : Given) → Contains (wired_of last).given given → given.birth ≡ birth → ⊥)
      → (last_period frames : ℕ) (at : Settled) (benches : ℕ → Bench) → kept_audio last now last_period at benches frames n output ≡ silence frames
  silent-of none last_period frames at benches =
      ap by_name (named-output now g.planned n output birth k)
      ∙ ap (λ b. cond (last_period == frames && b) ((outputs_of at last_nodes benches).audio source) (silence frames)) (was-absent none)
      ∙ go (last_period == frames)
    where
      by_name : List ℕ → List ℤ
      by_name name = cond (last_period == frames && was_there state_last state_now name) ((outputs_of at last_nodes benches).audio name) (silence frames)

      go : (b : Bool) → cond (b && false) ((outputs_of at (open_clients last.nodes) benches).audio (k.edge).source) (silence frames) ≡ silence frames
      go true = refl
      go false = refl

  -- ---- an output of the last plan has it

  module _ (given : Given) (listed : Contains (wired_of last).given given) (born : given.birth ≡ birth) where
    -- it is of this port
    of-port : (other : OpenPort) × Contains (state_of_plan last).ports other × (given_of (state_of_plan last) (open_clients last.nodes) other ≡ Some given)
    of-port = made-of (given_of (state_of_plan last) (open_clients last.nodes)) (state_of_plan last).ports given listed

    parts : (birth : ℕ) (node output : Option ℕ) → given_by birth node output ≡ Some given → (birth ≡ given.birth) × (node ≡ Some given.node) × (output ≡ Some given.output)
    parts b None output e = absurd (nothing e)
      where
        nothing : None ≡ Some given → ⊥
        nothing q = cc
    parts b (Some a) None e = absurd (nothing e)
      where
        nothing : None ≡ Some given → ⊥
        nothing q = cc
    parts b (Some a) (Some c) e =
        let same : (let made : Given = record { birth = b; node = a; output = c } in made) ≡ given = one (record { birth = b; node = a; output = c }) e in
        (ap (λ (x : Given). x.birth) same, ap (λ (x : Given). Some x.node) same, ap (λ (x : Given). Some x.output) same)
      where
        one : (made : Given) → Some made ≡ Some given → made ≡ given
        one made q = cc

    told : ((of-port.0).birth ≡ given.birth) × (place_in (open_clients last.nodes) (client_part (of-port.0).name) ≡ Some given.node)
        × (port_place (audio_outputs (state_of_plan last) (client_part (of-port.0).name)) (of-port.0).name ≡ Some given.output)
    told = parts (of-port.0).birth (place_in last_nodes (client_part (of-port.0).name)) (port_place (audio_outputs state_last (client_part (of-port.0).name)) (of-port.0).name) of-port.2

    old : (k.end).port.birth ≤ length last.changes
    old =
        let low : (of-port.0).birth ≤ length last.changes = (reached last now g).born of-port.0 of-port.1 in
        let same : (k.end).port.birth ≡ (of-port.0).birth = port-birth ∙ sym born ∙ sym told.0 in
        omega (arith, low, same)

    was-listed : Contains (state_of_plan last).ports (k.end).port
    was-listed = (follows last now g).kept port (k.end).listed old

    one-port : of-port.0 ≡ (k.end).port
    one-port = (reached last now g).apart of-port.0 port of-port.1 was-listed
        (no-device last g.planned_last (client_part (of-port.0).name) given.node told.1)
        (ap is_system part ∙ no-device now g.planned (client_part source) n k.from)
        (told.0 ∙ born ∙ sym port-birth)

    name-is : (of-port.0).name ≡ (k.edge).source
    name-is = ap (λ (p : OpenPort). p.name) one-port ∙ (k.end).named

    node-is : place_in (open_clients last.nodes) (client_part (k.edge).source) ≡ Some given.node
    node-is = ap (λ name. place_in last_nodes (client_part name)) (sym name-is) ∙ told.1

    place-is : port_place (audio_outputs (state_of_plan last) (client_part (k.edge).source)) (k.edge).source ≡ Some given.output
    place-is = ap (λ name. port_place (audio_outputs state_last (client_part name)) name) (sym name-is) ∙ told.2

    abbrev client : OpenClient
    client = node_at (open_clients last.nodes) given.node

    client-is : (node_at (open_clients last.nodes) given.node).name ≡ client_part (k.edge).source
    client-is = (found last g.planned_last (client_part source) given.node node-is).1

    client-open : Contains (state_of_plan last).clients (node_at (open_clients last.nodes) given.node)
    client-open = node-open last g.planned_last (client_part source) given.node node-is

    client-active : (node_at (open_clients last.nodes) given.node).active ≡ true
    client-active = (node-plays last g.planned_last (client_part source) given.node node-is).0

    was-present : was_there (state_of_plan last) (state_of_plan now) (k.edge).source ≡ true
    was-present =
        was-named (Some port) (named-port state_last (length last.changes) sound-last source port was-listed (k.end).named)
        ∙ and_true (port.birth == port.birth) (is_active_in state_last (client_part source)) (eq-eqb port.birth port.birth refl) (active-there state_last (client_part source) client client-open client-is client-active)

    end-last : IsEnd (state_of_plan last) false true (k.edge).source
    end-last = record {
      port = (k.end).port;
      client = node_at (open_clients last.nodes) given.node;
      listed = was-listed;
      named = (k.end).named;
      direction = (k.end).direction;
      type_is = (k.end).type_is;
      open_client = client-open;
      client_is = client-is;
      active = client-active;
    }

    -- what it gave
    gave : (at : Settled) (benches : ℕ → Bench) → at.graph ≡ state_of_plan last → (outputs_of at (open_clients last.nodes) benches).audio (k.edge).source ≡ get_or (benches given.node).audio given.output (silence at.frames)
    gave at benches same =
        subst (λ (here : Settled). (outputs_of here (open_clients last.nodes) benches).audio (k.edge).source ≡ get_or (benches given.node).audio given.output (silence here.frames))
        (ap (λ (graph : State). (let here : Settled = record at { graph = graph } in here)) (sym same))
        (given-is state_last last_nodes last.links plan-last (length last.changes) sound-last (wired-plan last) (inside-plan last) at benches k.edge end-last
        ∙ ap₂ (λ place node. sound_from (record at { graph = state_last }) benches (sound_by place node))
        (place-index (λ (p : OpenPort). bytes_eq p.name source) (audio_outputs state_last (client_part source)) given.output place-is) node-is)

    kept-of : (last_period frames : ℕ) (at : Settled) (benches : ℕ → Bench) → at.graph ≡ state_of_plan last
        → kept_audio last now last_period at benches frames n output ≡ cond (last_period == frames) (get_or (benches given.node).audio given.output (silence at.frames)) (silence frames)
    kept-of last_period frames at benches same =
        ap by_name (named-output now g.planned n output birth k)
        ∙ ap (λ b. cond (last_period == frames && b) ((outputs_of at last_nodes benches).audio source) (silence frames)) was-present
        ∙ go (last_period == frames)
        ∙ ap (λ audio. cond (last_period == frames) audio (silence frames)) (gave at benches same)
      where
        by_name : List ℕ → List ℤ
        by_name name = cond (last_period == frames && was_there state_last state_now name) ((outputs_of at last_nodes benches).audio name) (silence frames)

        go : (b : Bool) → cond (b && true) ((outputs_of at (open_clients last.nodes) benches).audio (k.edge).source) (silence frames) ≡ cond b ((outputs_of at (open_clients last.nodes) benches).audio (k.edge).source) (silence frames)
        go true = refl
        go false = refl

    client-of : (given.node < length last.nodes) × (n < length now.nodes) × ((node_at (open_clients last.nodes) given.node).birth ≡ (node_at (open_clients now.nodes) n).birth)
    client-of = (
      below-nodes last g.planned_last (client_part source) given.node node-is,
      below-nodes now g.planned (client_part source) n k.from,
      ap (λ (c : OpenClient). c.birth) (sym one) ∙ earlier.3,
    )
      where
        now-is : (node_at (open_clients now.nodes) n).name ≡ client_part (k.edge).source
        now-is = (found now g.planned (client_part (k.edge).source) n k.from).1

        earlier : (c : OpenClient) × Contains (state_of_plan last).clients c × (c.name ≡ (node_at (open_clients now.nodes) n).name) × (c.birth ≡ (node_at (open_clients now.nodes) n).birth)
        earlier = (follows last now g).same (k.end).port (node_at (open_clients now.nodes) n) (k.end).listed old (node-open now g.planned (client_part (k.edge).source) n k.from) (now-is ∙ sym part)

        one : earlier.0 ≡ node_at (open_clients last.nodes) given.node
        one = Apart-same (λ (c : OpenClient). c.name) (state_of_plan last).clients earlier.0 (node_at (open_clients last.nodes) given.node) sound-last.names earlier.1 client-open (earlier.2 ∙ now-is ∙ sym client-is)

pub SetsFeedback-wired : (last now : Planned) → GoesOn last now → SetsFeedback last now
SetsFeedback-wired last now g = record {
  silent = λ joint n output birth m o none last_period frames at benches same. silent-of last now g n output birth (keeps now g.planned joint n output birth m o) none last_period frames at benches;
  kept = λ joint n output birth m o given listed born last_period frames at benches same. kept-of last now g n output birth (keeps now g.planned joint n output birth m o) given listed born last_period frames at benches same;
  client = λ joint n output birth m o given listed born. client-of last now g n output birth (keeps now g.planned joint n output birth m o) given listed born;
}
