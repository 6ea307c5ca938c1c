-- What feedback edges give of MIDI is told by the births of their ports.
--     births-apart      births of MIDI outputs tell them apart
--     KeepsEvents-wired      of two plans, of which one goes on from the other, it is what the outputs of these births carried
use Rattle.std.proofs.Common.{◌≡◌, ℕ, zero, suc, ◌-◌, ◌<◌, ◌≤◌, Bool, true, false, cond, not, ◌&&◌, ◌==◌, List, [], ◌∷◌, length, find, get_or, take, Contains, Option, Some, None, is_some, refl, sym, ◌∙◌, ap, ap₂, subst, arith, true≢false, eq-eqb, eqb-true}
use Rattle.std.specs.List.{position_or_len}
use Rattle.std.specs.Option.{option_map, option_map_or}
use Rattle.std.specs.Str.{bytes_eq}
use Rattle.std.proofs.lemmas.List.{get_or-replicate, length-map}
use Rattle.jack_types.specs.Names.{client_part}
use Rattle.jack_types.specs.declared.events.Event.{Event}
use Rattle.jack_types.specs.declared.ports.Mark.TheVariants.{Feedback}
use Rattle.session_model.specs.Benches.{Bench, IsPlan, node_at, outputs_of, place_in, port_place}
use Rattle.session_model.specs.Commands.{is_audio, is_input, replay}
use Rattle.session_model.specs.Courses.{players}
use Rattle.session_model.specs.Cycles.{Settled, at_port, birth_of, midi_outputs, same_birth, was_there}
use Rattle.session_model.specs.Soundness.{IsEnd, IsSound}
use Rattle.session_model.specs.State.{Connection, OpenClient, OpenPort, State, is_active_in, is_system, port_named}
use Rattle.session_laws.proofs.CycleLemmas.{bytes_same, filter-passes, find-contains, find-passes}
use Rattle.session_laws.proofs.GraphLemmas.{route-midi}
use Rattle.session_laws.proofs.LoopLemmas.{and_parts, and_true}
use Rattle.session_laws.proofs.PlaceLemmas.{filter-contains, filter-keeps, position-found}
use Rattle.session_laws.proofs.PlanLemmas.{find-one}
use Rattle.session_laws.proofs.SoundLemmas.{Apart-same}
use Rattle.port_registry.specs.Registered.{open_client, open_clients}
use Rattle.client_wiring.specs.cycle_plan.specs.Plans.{IsPlanned, Planned, opening_of, state_of_plan}
use Rattle.client_wiring.specs.Keeping.{GoesOn}
use Rattle.client_wiring.specs.Wirings.{source_birth}
use Rattle.client_wiring.proofs.OverLemmas.{name-of_place}
use Rattle.client_wiring.proofs.PlaybackLemmas.{inside-plan, sound-plan}
use Rattle.midi_wiring.specs.declared.joints.MidiGiven.{MidiGiven}
use Rattle.midi_wiring.specs.Hearings.{AreCarried}
use Rattle.driver_words.specs.Hearings.{Heard, carried_at, played_at}
use Rattle.midi_wiring.specs.Keeping.{Gave, KeepsEvents}
use Rattle.midi_wiring.specs.Wirings.{midi_given_at, midi_given_of, midi_wired_of}
use Rattle.client_wiring.proofs.FollowLemmas.{Follows, Follows-opening, Follows-replay, Follows-self}
use Rattle.client_wiring.proofs.ListLemmas.{take-whole}
use Rattle.midi_wiring.proofs.ListLemmas.{find-there, made-contains, made-of}
use lib.Pointwise.{bytes_decides}

take-short : {X : Type 0} (n : ℕ) (xs : List X) → length (take n xs) ≤ length xs
take-short zero xs = omega arith
take-short (suc n) [] = omega arith
take-short (suc n) (x ∷ xs) = let rest : length (take n xs) ≤ length xs = take-short n xs in omega (arith, rest)

-- ---- the ports and clients of both plans

module _ (last now : Planned) (g : GoesOn last now) where
  reached : Follows (state_of_plan last) (length last.changes) (state_of_plan last) (length last.changes)
  reached =
      Follows-self start-last 0 (state_of_plan last) (length last.changes)
      (subst (λ cs. Follows (opening_of last.base) 0 (replay (opening_of last.base) cs) (length last.changes)) (take-whole last.changes)
      (Follows-replay (opening_of last.base) 0 (opening_of last.base) last.changes (g.planned_last).lawful 0 (Follows-opening last.base.capture last.base.playback)
      (length last.changes) (length last.changes) (omega arith) (omega arith)))
    where
      start-last : State
      start-last = opening_of last.base

  within : length last.changes ≤ length now.changes
  within =
      let same : length last.changes ≡ length (take (length last.changes) now.changes) = ap length g.front in
      let short : length (take (length last.changes) now.changes) ≤ length now.changes = take-short (length last.changes) now.changes in
      omega (arith, same, short)

  front-is : state_of_plan last ≡ replay (opening_of now.base) (take (length last.changes) now.changes)
  front-is = ap₂ (λ base changes. replay (opening_of base) changes) (sym g.base) g.front

  follows : Follows (state_of_plan last) (length last.changes) (state_of_plan now) (length now.changes)
  follows =
      subst (λ cs. Follows (state_of_plan last) (length last.changes) (replay (opening_of now.base) cs) (length now.changes)) (take-whole now.changes)
      (Follows-replay (state_of_plan last) (length last.changes) (opening_of now.base) now.changes (g.planned).lawful (length last.changes)
      (subst (λ s. Follows (state_of_plan last) (length last.changes) s (length last.changes)) front-is reached)
      (length now.changes - length last.changes) (length now.changes) (let less : length last.changes ≤ length now.changes = within in omega (arith, less)) (omega arith))

-- a node's client plays in its state, and is no device
module _ (plan : Planned) (p : IsPlanned plan) (name : List ℕ) (n : ℕ) (at : place_in (open_clients plan.nodes) name ≡ Some n) where
  abbrev plays : OpenClient → Bool
  plays client = client.active && not (is_system client.name)

  abbrev its : OpenClient
  its = node_at (open_clients plan.nodes) n

  found : (n < length (open_clients plan.nodes)) × ((node_at (open_clients plan.nodes) n).name ≡ name)
  found = name-of_place (state_of_plan plan) (open_clients plan.nodes) plan.links p.is_plan name n at

  player : Contains (players (state_of_plan plan)) (node_at (open_clients plan.nodes) n)
  player = find-contains (λ (client : OpenClient). bytes_eq client.name (node_at (open_clients plan.nodes) n).name) (players (state_of_plan plan)) (node_at (open_clients plan.nodes) n) ((p.is_plan).named n found.0)

  node-open : Contains (state_of_plan plan).clients (node_at (open_clients plan.nodes) n)
  node-open = filter-contains plays (state_of_plan plan).clients (node_at (open_clients plan.nodes) n) player

  node-plays : ((node_at (open_clients plan.nodes) n).active ≡ true) × (not (is_system (node_at (open_clients plan.nodes) n).name) ≡ true)
  node-plays = and_parts its.active (not (is_system its.name)) (filter-passes plays (state_of_plan plan).clients its player)

  no-device : is_system name ≡ false
  no-device = ap is_system (sym found.1) ∙ untrue (is_system its.name) node-plays.1
    where
      untrue : (b : Bool) → not b ≡ true → b ≡ false
      untrue true e = absurd (true≢false (sym e))
      untrue false e = refl

  below-nodes : n < length plan.nodes
  below-nodes = let same : length (open_clients plan.nodes) ≡ length plan.nodes = length-map plan.nodes open_client in let low : n < length (open_clients plan.nodes) = found.0 in omega (arith, low, same)

-- a port stands under its name
named-port : (state : State) (number : ℕ) → IsSound state number → (name : List ℕ) (port : OpenPort) → Contains state.ports port → port.name ≡ name → port_named state name ≡ Some port
named-port state number sound name port m e =
    find-one (λ (p : OpenPort). bytes_eq p.name name) state.ports port m ((bytes_decides port.name name).1 e)
    (λ other k t. Apart-same (λ (p : OpenPort). p.name) state.ports other port sound.port_names k m (bytes_same other.name name t ∙ sym e))

active-there : (state : State) (name : List ℕ) (client : OpenClient) → Contains state.clients client → client.name ≡ name → client.active ≡ true → is_active_in state name ≡ true
active-there state name client m e a =
    find-there (λ (c : OpenClient). bytes_eq c.name name && c.active) state.clients client m (and_true (bytes_eq client.name name) client.active ((bytes_decides client.name name).1 e) a)

active-client : (state : State) (name : List ℕ) → is_active_in state name ≡ true → (client : OpenClient) × Contains state.clients client × (client.name ≡ name) × (client.active ≡ true)
active-client state name h = go (find (λ (c : OpenClient). bytes_eq c.name name && c.active) state.clients) refl h
  where
    go : (o : Option OpenClient) → find (λ (c : OpenClient). bytes_eq c.name name && c.active) state.clients ≡ o → is_some o ≡ true → (client : OpenClient) × Contains state.clients client × (client.name ≡ name) × (client.active ≡ true)
    go None e t = absurd (true≢false (sym t))
    go (Some client) e t =
        let both = and_parts (bytes_eq client.name name) client.active (find-passes (λ (c : OpenClient). bytes_eq c.name name && c.active) state.clients client e) in
        (client, find-contains (λ (c : OpenClient). bytes_eq c.name name && c.active) state.clients client e, bytes_same client.name name both.0, both.1)

-- a port that is a MIDI output of a node
given-parts : (nodes : List OpenClient) (other : OpenPort) (given : MidiGiven) → midi_given_of nodes other ≡ Some given → (other.birth ≡ given.birth) × (place_in nodes (client_part other.name) ≡ Some given.node)
given-parts nodes other given e = go (not (is_audio other) && not (is_input other)) (place_in nodes (client_part other.name)) refl e
  where
    nothing : None ≡ Some given → ⊥
    nothing r = cc

    one : (x : MidiGiven) → Some x ≡ Some given → x ≡ given
    one x r = cc

    go : (b : Bool) (o : Option ℕ) → place_in nodes (client_part other.name) ≡ o → cond b (option_map (midi_given_at other.birth) o) None ≡ Some given → (other.birth ≡ given.birth) × (place_in nodes (client_part other.name) ≡ Some given.node)
    go false o f q = absurd (nothing q)
    go true None f q = absurd (nothing q)
    go true (Some a) f q = (ap (λ (x : MidiGiven). x.birth) (one (midi_given_at other.birth a) q), f ∙ ap (λ (x : MidiGiven). Some x.node) (one (midi_given_at other.birth a) q))

-- births of MIDI outputs tell them apart
pub births-apart : (plan : Planned) (a b : MidiGiven) → IsPlanned plan → Contains (midi_wired_of plan).given a → Contains (midi_wired_of plan).given b → a.birth ≡ b.birth → a ≡ b
births-apart plan a b p m n e = one (sym first.2 ∙ ap (midi_given_of (open_clients plan.nodes)) same ∙ second.2)
  where
    one : Some a ≡ Some b → a ≡ b
    one q = cc

    self : GoesOn plan plan
    self = record { planned_last = p; planned = p; base = refl; front = sym (take-whole plan.changes) }

    first : (port : OpenPort) × Contains (state_of_plan plan).ports port × (midi_given_of (open_clients plan.nodes) port ≡ Some a)
    first = made-of (midi_given_of (open_clients plan.nodes)) (state_of_plan plan).ports a m

    second : (port : OpenPort) × Contains (state_of_plan plan).ports port × (midi_given_of (open_clients plan.nodes) port ≡ Some b)
    second = made-of (midi_given_of (open_clients plan.nodes)) (state_of_plan plan).ports b n

    parts : (first.0.birth ≡ a.birth) × (place_in (open_clients plan.nodes) (client_part first.0.name) ≡ Some a.node)
    parts = given-parts (open_clients plan.nodes) first.0 a first.2

    others : (second.0.birth ≡ b.birth) × (place_in (open_clients plan.nodes) (client_part second.0.name) ≡ Some b.node)
    others = given-parts (open_clients plan.nodes) second.0 b second.2

    same : first.0 ≡ second.0
    same = (reached plan plan self).apart first.0 second.0 first.1 second.1
        (no-device plan p (client_part first.0.name) a.node parts.1) (no-device plan p (client_part second.0.name) b.node others.1)
        (parts.0 ∙ e ∙ sym others.0)

-- ---- a feedback edge of MIDI

module _ (last now : Planned) (g : GoesOn last now) (edge : Connection) (m : Contains (state_of_plan now).edges edge) (end : IsEnd (state_of_plan now) false false edge.source) (back : edge.mark ≡ Feedback) where
  abbrev state_last : State
  state_last = state_of_plan last

  abbrev state_now : State
  state_now = state_of_plan now

  abbrev last_nodes : List OpenClient
  last_nodes = open_clients last.nodes

  abbrev source : List ℕ
  source = edge.source

  abbrev port : OpenPort
  port = end.port

  plan-last : IsPlan (state_of_plan last) (open_clients last.nodes) last.links
  plan-last = (g.planned_last).is_plan

  sound-last : IsSound (state_of_plan last) (length last.changes)
  sound-last = sound-plan last g.planned_last

  part : client_part end.port.name ≡ client_part edge.source
  part = ap client_part end.named

  apart-device : is_system (client_part edge.source) ≡ false
  apart-device = (inside-plan now edge m back).0

  named-now : port_named (state_of_plan now) edge.source ≡ Some end.port
  named-now = named-port state_now (length now.changes) (sound-plan now g.planned) source port end.listed end.named

  born-is : source_birth (state_of_plan now) edge ≡ end.port.birth
  born-is = ap (λ o. option_map_or (λ (p : OpenPort). p.birth) o 0) named-now

  -- whether it was there, by its port in the last plan's state
  was-named : (held : Option OpenPort) → port_named (state_of_plan last) edge.source ≡ held
      → was_there (state_of_plan last) (state_of_plan now) edge.source ≡ (same_birth (Some end.port.birth) (birth_of held) && is_active_in (state_of_plan last) (client_part edge.source))
  was-named held e = ap₂ (λ a b. same_birth (birth_of a) (birth_of b) && is_active_in state_last (client_part source)) named-now e

  -- an active client of the last plan's state is one of its nodes
  node-of : is_active_in (state_of_plan last) (client_part edge.source) ≡ true → (n : ℕ) × (place_in (open_clients last.nodes) (client_part edge.source) ≡ Some n)
  node-of t = (position_or_len test last_nodes, position-found test last_nodes client.0 (plan-last.every client.0 player-last) ((bytes_decides (client.0).name (client_part source)).1 client.2))
    where
      test : OpenClient → Bool
      test other = bytes_eq other.name (client_part edge.source)

      plays_there : OpenClient → Bool
      plays_there other = other.active && not (is_system other.name)

      client : (c : OpenClient) × Contains (state_of_plan last).clients c × (c.name ≡ client_part edge.source) × (c.active ≡ true)
      client = active-client (state_of_plan last) (client_part edge.source) t

      player-last : Contains (players (state_of_plan last)) client.0
      player-last = filter-keeps plays_there (state_of_plan last).clients client.0 client.1
          (and_true (client.0).active (not (is_system (client.0).name)) client.3 (ap not (ap is_system client.2 ∙ apart-device)))

  -- the port as an output of a node of the last plan
  given-there : Contains (state_of_plan last).ports end.port → (n : ℕ) → place_in (open_clients last.nodes) (client_part edge.source) ≡ Some n → Contains (midi_wired_of last).given (midi_given_at end.port.birth n)
  given-there listed n e =
      made-contains (midi_given_of last_nodes) state_last.ports port (midi_given_at port.birth n) listed
      (ap₂ (λ b o. cond b (option_map (midi_given_at port.birth) o) None)
      (and_true (not (is_audio port)) (not (is_input port)) (ap not end.type_is) (ap not end.direction))
      (ap (place_in last_nodes) part ∙ e))

  -- ---- where it was there

  was-listed : was_there (state_of_plan last) (state_of_plan now) edge.source ≡ true → Contains (state_of_plan last).ports end.port × (is_active_in (state_of_plan last) (client_part edge.source) ≡ true)
  was-listed t = go (port_named state_last source) refl
    where
      go : (held : Option OpenPort) → port_named (state_of_plan last) edge.source ≡ held → Contains (state_of_plan last).ports end.port × (is_active_in (state_of_plan last) (client_part edge.source) ≡ true)
      go None e = absurd (true≢false (sym t ∙ was-named None e))
      go (Some other) e =
          let both = and_parts (port.birth == other.birth) (is_active_in state_last (client_part source)) (sym (was-named (Some other) e) ∙ t) in
          let same : end.port.birth ≡ other.birth = eqb-true port.birth other.birth both.0 in
          let low : other.birth ≤ length last.changes = (reached last now g).born other (find-contains (λ (p : OpenPort). bytes_eq p.name source) state_last.ports other e) in
          ((follows last now g).kept port end.listed (omega (arith, same, low)), both.1)

  -- what an output of the last plan gave
  module _ (listed : Contains (state_of_plan last).ports end.port) (n : ℕ) (place : place_in (open_clients last.nodes) (client_part edge.source) ≡ Some n) where
    client-is : (node_at (open_clients last.nodes) n).name ≡ client_part edge.source
    client-is = (found last g.planned_last (client_part source) n place).1

    end-last : IsEnd (state_of_plan last) false false edge.source
    end-last = record {
      port = end.port;
      client = node_at (open_clients last.nodes) n;
      listed = listed;
      named = end.named;
      direction = end.direction;
      type_is = end.type_is;
      open_client = node-open last g.planned_last (client_part source) n place;
      client_is = client-is;
      active = (node-plays last g.planned_last (client_part source) n place).0;
    }

    was-present : was_there (state_of_plan last) (state_of_plan now) edge.source ≡ true
    was-present =
        was-named (Some port) (named-port state_last (length last.changes) sound-last source port listed end.named)
        ∙ and_true (port.birth == port.birth) (is_active_in state_last (client_part source)) (eq-eqb port.birth port.birth refl)
        (active-there state_last (client_part source) (node_at last_nodes n) (node-open last g.planned_last (client_part source) n place) client-is (node-plays last g.planned_last (client_part source) n place).0)

    gave : (at : Settled) (heard : Heard) (benches : ℕ → Bench) → at.graph ≡ state_of_plan last → AreCarried last heard → Gave last heard benches
        → (outputs_of at (open_clients last.nodes) benches).midi edge.source ≡ carried_at heard.carried end.port.birth
    gave at heard benches same carried gave_so =
        ap (λ o. option_map_or (λ k. at_port [] (midi_outputs at.graph (node_at last_nodes k).name) (benches k).midi source) o []) place
        ∙ ap₂ (λ graph name. at_port [] (midi_outputs graph name) (benches n).midi source) same client-is
        ∙ ap (λ o. option_map_or (λ k. get_or (benches n).midi k []) o []) told.2
        ∙ ap (λ items. get_or items told.0 []) (gave_so n (below-nodes last g.planned_last (client_part source) n place))
        ∙ get_or-replicate (length (midi_outputs state_last (node_at last_nodes n).name)) told.0 (played_at heard n) [] (subst (λ name. told.0 < length (midi_outputs state_last name)) (sym client-is) told.1)
        ∙ sym (carried.given (midi_given_at port.birth n) (given-there listed n place))
      where
        told : (j : ℕ) × (j < length (midi_outputs (state_of_plan last) (client_part edge.source))) × (port_place (midi_outputs (state_of_plan last) (client_part edge.source)) edge.source ≡ Some j)
        told = (route-midi (state_of_plan last) (length last.changes) sound-last edge.source end-last).0

  -- ---- where it was not

  module _ (was : was_there (state_of_plan last) (state_of_plan now) edge.source ≡ false) where
    no-given : (given : MidiGiven) → Contains (midi_wired_of last).given given → given.birth ≡ end.port.birth → ⊥
    no-given given listed born = true≢false (sym (was-present stood given.node placed) ∙ was)
      where
        of-port : (other : OpenPort) × Contains (state_of_plan last).ports other × (midi_given_of (open_clients last.nodes) other ≡ Some given)
        of-port = made-of (midi_given_of (open_clients last.nodes)) (state_of_plan last).ports given listed

        told : ((of-port.0).birth ≡ given.birth) × (place_in (open_clients last.nodes) (client_part (of-port.0).name) ≡ Some given.node)
        told = given-parts last_nodes of-port.0 given of-port.2

        old : end.port.birth ≤ length last.changes
        old =
            let low : (of-port.0).birth ≤ length last.changes = (reached last now g).born of-port.0 of-port.1 in
            let same : end.port.birth ≡ (of-port.0).birth = sym born ∙ sym told.0 in
            omega (arith, low, same)

        stood : Contains (state_of_plan last).ports end.port
        stood = (follows last now g).kept port end.listed old

        one-port : of-port.0 ≡ end.port
        one-port = (reached last now g).apart of-port.0 port of-port.1 stood
            (no-device last g.planned_last (client_part (of-port.0).name) given.node told.1)
            (ap is_system part ∙ apart-device)
            (told.0 ∙ born)

        placed : place_in (open_clients last.nodes) (client_part edge.source) ≡ Some given.node
        placed = ap (λ name. place_in last_nodes (client_part name)) (sym (ap (λ (p : OpenPort). p.name) one-port ∙ end.named)) ∙ told.1

  kept-of : (last_period frames : ℕ) (at : Settled) (heard : Heard) (benches : ℕ → Bench) → at.graph ≡ state_of_plan last → AreCarried last heard → Gave last heard benches
      → cond (last_period == frames && was_there (state_of_plan last) (state_of_plan now) edge.source) ((outputs_of at (open_clients last.nodes) benches).midi edge.source) []
      ≡ cond (last_period == frames) (carried_at heard.carried (source_birth (state_of_plan now) edge)) []
  kept-of last_period frames at heard benches same carried gave_so =
      split (last_period == frames) (was_there state_last state_now source)
      ∙ ap (λ events. cond (last_period == frames) events []) (go (was_there state_last state_now source) refl ∙ ap (carried_at heard.carried) (sym born-is))
    where
      given_now : List Event
      given_now = (outputs_of at (open_clients last.nodes) benches).midi edge.source

      split : (b w : Bool) → cond (b && w) given_now [] ≡ cond b (cond w given_now []) []
      split true w = refl
      split false w = refl

      go : (w : Bool) → was_there (state_of_plan last) (state_of_plan now) edge.source ≡ w → cond w given_now [] ≡ carried_at heard.carried end.port.birth
      go true t = let there = was-listed t in let node = node-of there.1 in gave there.0 node.0 node.1 at heard benches same carried gave_so
      go false t = sym (carried.others port.birth (no-given t))

pub KeepsEvents-wired : (last now : Planned) → GoesOn last now → KeepsEvents last now
KeepsEvents-wired last now g edge m end back last_period frames at heard benches same carried gave_so = kept-of last now g edge m end back last_period frames at heard benches same carried gave_so
