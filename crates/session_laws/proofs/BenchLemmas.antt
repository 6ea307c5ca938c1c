-- A crew over benches that are ready plays the cycle: what its benches give solves the cycle's equations.
--     turn-is_played      a bench plays what its client plays, where the other clients' outputs are those of the benches
--     Agree-outputs      the benches' outputs are the cycle's
--     HaveCycle-of_sequential      the benches behind the crew's cycle have what the cycle has
use Rattle.std.proofs.Common.{◌≡◌, ℕ, zero, suc, ◌<◌, true, not, ◌==◌, ◌&&◌, List, [], length, map, get_or, Contains, ℤ, Option, Some, None, refl, sym, ◌∙◌, ap, ap₂, subst, arith, eqb-true, eq-eqb}
use Rattle.std.specs.List.{position_or_len}
use Rattle.std.specs.Option.{option_map_or, option_map}
use Rattle.std.specs.Str.{bytes_eq}
use Rattle.std.proofs.lemmas.List.{get_or-map, get_or_default, length-map}
use Rattle.std.proofs.lemmas.List.Quantifiers.{position-Some}
use Rattle.std.proofs.lemmas.Option.{none-some}
use Rattle.session_model.specs.jack_types.specs.Names.{client_part}
use Rattle.session_model.specs.jack_types.specs.declared.ports.Link.{Link}
use Rattle.session_model.specs.jack_types.specs.declared.ports.Mark.{Mark}
use Rattle.session_model.specs.jack_types.specs.declared.ports.Mark.TheVariants.{Direct, Feedback}
use Rattle.session_model.specs.Activation.{link_at, no_link, incoming, outgoing, place_among, given_to, value_of, sequential}
use Rattle.session_model.specs.Benches.{Signal, Route, Task, Bench, no_signal, signal_at, audio_part, midi_part, mixed, merged, task_played, task_turn, routed, bench_played, bench_after, handed, bench_gives, node_at, place_in, edges_between, link_place, edge_place, fixed_audio, fixed_midi, direct_part, marked_part, audio_part_of, midi_part_of, port_place, route_of, task_of, IsPlan, IsReady, outputs_of, HaveCycle}
use Rattle.session_model.specs.Commands.{ports_of, is_audio, is_input}
use Rattle.session_model.specs.Courses.{Course, players}
use Rattle.session_model.specs.Cycles.{Signals, Settled, ClientPlayed, Cycle, carried, edges_into, audio_into, midi_into, audio_inputs, audio_outputs, midi_inputs, midi_outputs, at_port, played_on, client_played, player_named, audio_of, midi_of, given, signals, cycle_of, memory_after}
use Rattle.session_model.specs.Events.{merge}
use Rattle.session_model.specs.Samples.{below, mix, sample, silence}
use Rattle.session_model.specs.State.{OpenClient, OpenPort, Connection, system_client, is_direct}
use Rattle.session_laws.proofs.CycleLemmas.{Agree, bytes_same, map_filter-same, find-passes, find-contains, filter-passes, client_played-same, audio_into-same, audio_inputs-same, midi_inputs-same}
use Rattle.session_laws.proofs.LoopLemmas.{and_parts, and_true}
use Rattle.session_laws.proofs.PlaceLemmas.{position-passes, position-found, filter-contains, filter-keeps, map-after, mix-same, sample-silence}
use Rattle.session_laws.proofs.SequentialLemmas.{Contains-below, below-contains, outgoing_at, given_to-values}
use lib.Pointwise.{bytes_decides}

bytes_self : (a b : List ℕ) → a ≡ b → bytes_eq a b ≡ true
bytes_self a b e = (bytes_decides a b).1 e

-- of a bench with a task
pub played-with : (bench : Bench) (received : List (List Signal)) (task : Task) → bench.task ≡ Some task → bench_after bench received ≡ bench_played bench received task
played-with bench received task e = ap (λ o. option_map_or (bench_played bench received) o bench) e

pub gives-with : (bench : Bench) (received : List (List Signal)) (place : ℕ) (task : Task) → bench.task ≡ Some task → bench_gives bench received place ≡ handed bench received place task
gives-with bench received place task e = ap (λ o. option_map_or (handed bench received place) o []) e

-- where the port is at a place, and where it is none
routed_sample : (frames i : ℕ) (items : List (List ℤ)) (o : Option ℕ)
    → sample (option_map_or (λ j. get_or items j (silence frames)) o []) i ≡ sample (option_map_or (λ j. get_or items j (silence frames)) o (silence frames)) i
routed_sample frames i items None = sample-silence frames i
routed_sample frames i items (Some j) = refl

module _ (course : Course) (at : Settled) (nodes : List OpenClient) (links : List Link) (before : ℕ → Bench)
    (plan : IsPlan at.graph nodes links) (ready : IsReady course at nodes links before) where
  abbrev received : ℕ → List (List Signal)
  received n = given_to bench_after bench_gives links before n

  abbrev done : ℕ → Bench
  done n = sequential bench_after bench_gives links before n

  abbrev now : Signals
  now = outputs_of at nodes done

  abbrev name_at : ℕ → List ℕ
  name_at n = (node_at nodes n).name

  abbrev turn : ℕ → ClientPlayed
  turn n = task_turn (task_of course at nodes links n) (before n).memory (received n)

  abbrev routes_from : ℕ → Connection → Route
  routes_from a edge = route_of at.graph (name_at a) edge.source

  done-played : (n : ℕ) → n < length nodes → done n ≡ bench_played (before n) (received n) (task_of course at nodes links n)
  done-played n h = played-with (before n) (received n) (task_of course at nodes links n) (ready.task n h)

  place_in-some : (name : List ℕ) (n : ℕ) → place_in nodes name ≡ Some n → (n < length nodes) × (name_at n ≡ name)
  place_in-some name n e =
      let h = position-Some (λ (client : OpenClient). bytes_eq client.name name) nodes n system_client e in
      (h.0, bytes_same (name_at n) name h.1)

  -- what comes over a link at the place of an edge is what its source's bench routes there
  signal_at-edge : (edge : Connection) (a n : ℕ) → Contains at.graph.edges edge → edge.mark ≡ Direct → n < length nodes → client_part edge.destination ≡ name_at n
      → place_in nodes (client_part edge.source) ≡ Some a
      → signal_at (received n) (link_place links a n) (edge_place edge (edges_between at.graph (name_at a) (name_at n))) ≡ routed at.frames (turn a) (route_of at.graph (name_at a) edge.source)
  signal_at-edge edge a n m direct h into from =
      ap (λ value. get_or value place no_signal) value_is ∙ signal_is
    where
      source : (a < length nodes) × (name_at a ≡ client_part edge.source)
      source = place_in-some (client_part edge.source) a from

      target : place_in nodes (client_part edge.destination) ≡ Some n
      target = ap (place_in nodes) into ∙ plan.placed n h

      link : Link
      link = record { from = a; to = n }

      there : Contains links (record { from = a; to = n })
      there = plan.joined edge a n m direct from target

      at_there : link_at links there.0 ≡ record { from = a; to = n }
      at_there = get_or_default links there.0 no_link (record { from = a; to = n }) there.1 ∙ there.2

      comes_in : Contains (incoming links n) there.0
      comes_in = filter-keeps (λ l. (link_at links l).to == n) (below (length links)) there.0 (below-contains (length links) there.0 there.1) (eq-eqb (link_at links there.0).to n (ap (λ (l : Link). l.to) at_there))

      first : (link_place links a n < length (incoming links n)) × (((link_at links (get_or (incoming links n) (link_place links a n) 0)).from == a) ≡ true)
      first = position-passes (λ l. (link_at links l).from == a) (incoming links n) there.0 0 comes_in (eq-eqb (link_at links there.0).from a (ap (λ (l : Link). l.from) at_there))

      l : ℕ
      l = get_or (incoming links n) (link_place links a n) 0

      place : ℕ
      place = edge_place edge (edges_between at.graph (name_at a) (name_at n))

      -- the link that is found
      in_list : Contains (incoming links n) l
      in_list = (link_place links a n, first.0, get_or_default (incoming links n) (link_place links a n) l 0 first.0)

      to_n : (link_at links l).to ≡ n
      to_n = eqb-true (link_at links l).to n (filter-passes (λ k. (link_at links k).to == n) (below (length links)) l in_list)

      from_a : (link_at links l).from ≡ a
      from_a = eqb-true (link_at links l).from a first.1

      within : l < length links
      within = Contains-below (length links) l (filter-contains (λ k. (link_at links k).to == n) (below (length links)) l in_list)

      goes_out : (place_among links l < length (outgoing links a)) × (get_or (outgoing links a) (place_among links l) 0 ≡ l)
      goes_out = subst (λ k. (place_among links l < length (outgoing links k)) × (get_or (outgoing links k) (place_among links l) 0 ≡ l)) from_a (outgoing_at links l 0 within)

      carries : ℕ → List Route
      carries k = map (routes_from a) (edges_between at.graph (name_at a) (name_at (link_at links k).to))

      routes_at : get_or (map carries (outgoing links a)) (place_among links l) [] ≡ map (routes_from a) (edges_between at.graph (name_at a) (name_at n))
      routes_at =
          get_or-map carries (outgoing links a) (place_among links l) 0 [] goes_out.0
          ∙ ap carries goes_out.1
          ∙ ap (λ k. map (routes_from a) (edges_between at.graph (name_at a) (name_at k))) to_n

      value_is : get_or (received n) (link_place links a n) [] ≡ map (routed at.frames (turn a)) (map (routes_from a) (edges_between at.graph (name_at a) (name_at n)))
      value_is =
          ap (λ values. get_or values (link_place links a n) []) (given_to-values bench_after bench_gives (length nodes) links before plan.upward n)
          ∙ get_or-map (value_of bench_after bench_gives links before) (incoming links n) (link_place links a n) 0 [] first.0
          ∙ ap (λ k. bench_gives (before k) (received k) (place_among links l)) from_a
          ∙ gives-with (before a) (received a) (place_among links l) (task_of course at nodes links a) (ready.task a source.0)
          ∙ ap (map (routed at.frames (turn a))) routes_at

      between : List Connection
      between = edges_between at.graph (name_at a) (name_at n)

      is_between : Contains between edge
      is_between = filter-keeps (λ (other : Connection). is_direct other.mark && (bytes_eq (client_part other.source) (name_at a) && bytes_eq (client_part other.destination) (name_at n))) at.graph.edges edge m
          (and_true (is_direct edge.mark) (bytes_eq (client_part edge.source) (name_at a) && bytes_eq (client_part edge.destination) (name_at n)) (ap is_direct direct)
          (and_true (bytes_eq (client_part edge.source) (name_at a)) (bytes_eq (client_part edge.destination) (name_at n)) (bytes_self (client_part edge.source) (name_at a) (sym source.1)) (bytes_self (client_part edge.destination) (name_at n) into)))

      found : (place < length between) × ((bytes_eq (get_or between place edge).source edge.source && bytes_eq (get_or between place edge).destination edge.destination) ≡ true)
      found = position-passes (λ (other : Connection). bytes_eq other.source edge.source && bytes_eq other.destination edge.destination) between edge edge is_between
          (and_true (bytes_eq edge.source edge.source) (bytes_eq edge.destination edge.destination) (bytes_self edge.source edge.source refl) (bytes_self edge.destination edge.destination refl))

      same_source : (get_or between place edge).source ≡ edge.source
      same_source = bytes_same (get_or between place edge).source edge.source (and_parts (bytes_eq (get_or between place edge).source edge.source) (bytes_eq (get_or between place edge).destination edge.destination) found.1).0

      signal_is : get_or (map (routed at.frames (turn a)) (map (routes_from a) (edges_between at.graph (name_at a) (name_at n)))) place no_signal ≡ routed at.frames (turn a) (route_of at.graph (name_at a) edge.source)
      signal_is =
          get_or-map (routed at.frames (turn a)) (map (routes_from a) between) place (routes_from a edge) no_signal (subst (λ size. place < size) (sym (length-map between (routes_from a))) found.0)
          ∙ ap (routed at.frames (turn a)) (get_or-map (routes_from a) between place edge (routes_from a edge) found.0)
          ∙ ap (λ port. routed at.frames (turn a) (route_of at.graph (name_at a) port)) same_source

  -- what a direct edge brings, where its source's client stands at a node or at none
  audio_direct : (edge : Connection) (n : ℕ) → Contains at.graph.edges edge → edge.mark ≡ Direct → n < length nodes → client_part edge.destination ≡ name_at n
      → (i : ℕ) (o : Option ℕ) → place_in nodes (client_part edge.source) ≡ o
      → sample (audio_part (received n) (direct_part at.graph nodes links n edge (fixed_audio at edge.source) o)) i
      ≡ sample (option_map_or (λ k. at_port (silence at.frames) (audio_outputs at.graph (name_at k)) (done k).audio edge.source) o (fixed_audio at edge.source)) i
  audio_direct edge n m direct h into i None e = refl
  audio_direct edge n m direct h into i (Some a) e =
      ap (λ (signal : Signal). sample signal.audio i) (signal_at-edge edge a n m direct h into e)
      ∙ routed_sample at.frames i (turn a).audio (port_place (audio_outputs at.graph (name_at a)) edge.source)
      ∙ ap (λ (bench : Bench). sample (at_port (silence at.frames) (audio_outputs at.graph (name_at a)) bench.audio edge.source) i) (sym (done-played a (place_in-some (client_part edge.source) a e).0))

  midi_direct : (edge : Connection) (n : ℕ) → Contains at.graph.edges edge → edge.mark ≡ Direct → n < length nodes → client_part edge.destination ≡ name_at n
      → (o : Option ℕ) → place_in nodes (client_part edge.source) ≡ o
      → midi_part (received n) (direct_part at.graph nodes links n edge (fixed_midi edge.source) o)
      ≡ option_map_or (λ k. at_port [] (midi_outputs at.graph (name_at k)) (done k).midi edge.source) o []
  midi_direct edge n m direct h into None e = refl
  midi_direct edge n m direct h into (Some a) e =
      ap (λ (signal : Signal). signal.midi) (signal_at-edge edge a n m direct h into e)
      ∙ ap (λ (bench : Bench). at_port [] (midi_outputs at.graph (name_at a)) bench.midi edge.source) (sym (done-played a (place_in-some (client_part edge.source) a e).0))

  audio_carried : (edge : Connection) (n : ℕ) → Contains at.graph.edges edge → n < length nodes → client_part edge.destination ≡ name_at n
      → (i : ℕ) → sample (audio_part (received n) (audio_part_of at nodes links n edge)) i ≡ sample ((carried now at.before edge.mark).audio edge.source) i
  audio_carried edge n m h into i = go edge.mark refl
    where
      go : (mark : Mark) → edge.mark ≡ mark
          → sample (audio_part (received n) (marked_part at.graph nodes links n edge (at.before.audio edge.source) (fixed_audio at edge.source) mark)) i ≡ sample ((carried now at.before mark).audio edge.source) i
      go Direct e = audio_direct edge n m e h into i (place_in nodes (client_part edge.source)) refl
      go Feedback e = refl

  midi_carried : (edge : Connection) (n : ℕ) → Contains at.graph.edges edge → n < length nodes → client_part edge.destination ≡ name_at n
      → midi_part (received n) (midi_part_of at nodes links n edge) ≡ (carried now at.before edge.mark).midi edge.source
  midi_carried edge n m h into = go edge.mark refl
    where
      go : (mark : Mark) → edge.mark ≡ mark
          → midi_part (received n) (marked_part at.graph nodes links n edge (at.before.midi edge.source) (fixed_midi edge.source) mark) ≡ (carried now at.before mark).midi edge.source
      go Direct e = midi_direct edge n m e h into (place_in nodes (client_part edge.source)) refl
      go Feedback e = refl

  -- the edges into a port of the client at a node
  into_node : (port : List ℕ) (n : ℕ) → client_part port ≡ name_at n → (edge : Connection) → bytes_eq edge.destination port ≡ true → client_part edge.destination ≡ name_at n
  into_node port n e edge t = ap client_part (bytes_same edge.destination port t) ∙ e

  mixed_port : (n : ℕ) → n < length nodes → (port : List ℕ) → client_part port ≡ name_at n
      → mix at.frames (map (audio_part (received n)) (map (audio_part_of at nodes links n) (edges_into at.graph port))) ≡ audio_into at.graph at.frames now at.before port
  mixed_port n h port e =
      ap (mix at.frames) (map-after (audio_part (received n)) (audio_part_of at nodes links n) (edges_into at.graph port))
      ∙ mix-same at.frames (λ (edge : Connection). bytes_eq edge.destination port) (λ edge. audio_part (received n) (audio_part_of at nodes links n edge)) (λ (edge : Connection). (carried now at.before edge.mark).audio edge.source)
      at.graph.edges (λ edge m t i. audio_carried edge n m h (into_node port n e edge t) i)

  merged_port : (n : ℕ) → n < length nodes → (port : List ℕ) → client_part port ≡ name_at n
      → merge (map (midi_part (received n)) (map (midi_part_of at nodes links n) (edges_into at.graph port))) ≡ midi_into at.graph now at.before port
  merged_port n h port e = ap merge (
      map-after (midi_part (received n)) (midi_part_of at nodes links n) (edges_into at.graph port)
      ∙ map_filter-same (λ (edge : Connection). bytes_eq edge.destination port) (λ edge. midi_part (received n) (midi_part_of at nodes links n edge)) (λ (edge : Connection). (carried now at.before edge.mark).midi edge.source)
      at.graph.edges (λ edge m t. midi_carried edge n m h (into_node port n e edge t)))

  -- a port of a client is of its name
  of_client : (client : List ℕ) (port : OpenPort) → Contains (ports_of at.graph client) port → client_part port.name ≡ client
  of_client client port m = bytes_same (client_part port.name) client (filter-passes (λ p. bytes_eq (client_part p.name) client) at.graph.ports port m)

  mixed-is_input : (n : ℕ) → n < length nodes
      → mixed (task_of course at nodes links n) (received n) ≡ map (λ (port : OpenPort). audio_into at.graph at.frames now at.before port.name) (audio_inputs at.graph (name_at n))
  mixed-is_input n h =
      map-after (λ parts. mix at.frames (map (audio_part (received n)) parts)) (λ (port : OpenPort). map (audio_part_of at nodes links n) (edges_into at.graph port.name)) (audio_inputs at.graph (name_at n))
      ∙ map_filter-same (λ port. is_audio port && is_input port)
      (λ (port : OpenPort). mix at.frames (map (audio_part (received n)) (map (audio_part_of at nodes links n) (edges_into at.graph port.name))))
      (λ (port : OpenPort). audio_into at.graph at.frames now at.before port.name)
      (ports_of at.graph (name_at n)) (λ port m t. mixed_port n h port.name (of_client (name_at n) port m))

  merged-is_input : (n : ℕ) → n < length nodes
      → merged (task_of course at nodes links n) (received n) ≡ map (λ (port : OpenPort). midi_into at.graph now at.before port.name) (midi_inputs at.graph (name_at n))
  merged-is_input n h =
      map-after (λ parts. merge (map (midi_part (received n)) parts)) (λ (port : OpenPort). map (midi_part_of at nodes links n) (edges_into at.graph port.name)) (midi_inputs at.graph (name_at n))
      ∙ map_filter-same (λ port. not (is_audio port) && is_input port)
      (λ (port : OpenPort). merge (map (midi_part (received n)) (map (midi_part_of at nodes links n) (edges_into at.graph port.name))))
      (λ (port : OpenPort). midi_into at.graph now at.before port.name)
      (ports_of at.graph (name_at n)) (λ port m t. merged_port n h port.name (of_client (name_at n) port m))

  -- a bench plays what its client plays
  pub turn-is_played : (n : ℕ) → n < length nodes → turn n ≡ client_played course at now (node_at nodes n)
  turn-is_played n h =
      ap (λ memory. task_played (task_of course at nodes links n) memory (mixed (task_of course at nodes links n) (received n)) (merged (task_of course at nodes links n) (received n))) (ready.memory n h)
      ∙ ap₂ (played_on course at (node_at nodes n)) (mixed-is_input n h) (merged-is_input n h)

  -- the player of a name is the client at its node
  player-at_place : (name : List ℕ) (o : Option ℕ) → place_in nodes name ≡ o → player_named at.graph name ≡ option_map (node_at nodes) o
  player-at_place name (Some n) e =
      let h = place_in-some name n e in
      subst (λ other. player_named at.graph other ≡ Some (node_at nodes n)) h.1 (plan.named n h.0)
  player-at_place name None e = go (player_named at.graph name) refl
    where
      go : (player : Option OpenClient) → player_named at.graph name ≡ player → player ≡ None
      go None q = refl
      go (Some client) q = absurd (none-some (position_or_len (λ (other : OpenClient). bytes_eq other.name name) nodes)
          (sym e ∙ position-found (λ (other : OpenClient). bytes_eq other.name name) nodes client (plan.every client (find-contains (λ (other : OpenClient). bytes_eq other.name name) (players at.graph) client q)) (find-passes (λ (other : OpenClient). bytes_eq other.name name) (players at.graph) client q)))

  pub Solves-outputs : (port : List ℕ) → Agree now (given course at now) port
  Solves-outputs port = record {
    audio = audio_at (place_in nodes (client_part port)) refl ∙ ap (audio_of course at now port) (sym (player-at_place (client_part port) (place_in nodes (client_part port)) refl));
    midi = midi_at (place_in nodes (client_part port)) refl ∙ ap (midi_of course at now port) (sym (player-at_place (client_part port) (place_in nodes (client_part port)) refl));
  }
    where
      audio_at : (o : Option ℕ) → place_in nodes (client_part port) ≡ o
          → option_map_or (λ n. at_port (silence at.frames) (audio_outputs at.graph (name_at n)) (done n).audio port) o (fixed_audio at port) ≡ audio_of course at now port (option_map (node_at nodes) o)
      audio_at None e = refl
      audio_at (Some n) e =
          let h : n < length nodes = (place_in-some (client_part port) n e).0 in
          ap (λ (bench : Bench). at_port (silence at.frames) (audio_outputs at.graph (name_at n)) bench.audio port) (done-played n h)
          ∙ ap (λ (played : ClientPlayed). at_port (silence at.frames) (audio_outputs at.graph (name_at n)) played.audio port) (turn-is_played n h)

      midi_at : (o : Option ℕ) → place_in nodes (client_part port) ≡ o
          → option_map_or (λ n. at_port [] (midi_outputs at.graph (name_at n)) (done n).midi port) o [] ≡ midi_of course at now port (option_map (node_at nodes) o)
      midi_at None e = refl
      midi_at (Some n) e =
          let h : n < length nodes = (place_in-some (client_part port) n e).0 in
          ap (λ (bench : Bench). at_port [] (midi_outputs at.graph (name_at n)) bench.midi port) (done-played n h)
          ∙ ap (λ (played : ClientPlayed). at_port [] (midi_outputs at.graph (name_at n)) played.midi port) (turn-is_played n h)

  -- a client's rank: one more than its node, and 0 for all that do not play
  abbrev rank_at : Option ℕ → ℕ
  rank_at o = option_map_or suc o 0

  abbrev rank : List ℕ → ℕ
  rank name = rank_at (place_in nodes name)

  rank-few : (name : List ℕ) → rank name < length at.graph.clients
  rank-few name = go (place_in nodes name) refl
    where
      go : (o : Option ℕ) → place_in nodes name ≡ o → rank_at o < length at.graph.clients
      go None e = let few : length nodes < length at.graph.clients = plan.fewer in omega (arith, few)
      go (Some n) e =
          let few : length nodes < length at.graph.clients = plan.fewer in
          let within : n < length nodes = (place_in-some name n e).0 in
          omega (arith, few, within)

  rank-rises : (edge : Connection) (n : ℕ) → Contains at.graph.edges edge → edge.mark ≡ Direct → place_in nodes (client_part edge.destination) ≡ Some n → rank (client_part edge.source) < suc n
  rank-rises edge n m direct into = go (place_in nodes (client_part edge.source)) refl
    where
      go : (o : Option ℕ) → place_in nodes (client_part edge.source) ≡ o → rank_at o < suc n
      go None e = omega arith
      go (Some a) e =
          let there : Contains links (record { from = a; to = n }) = plan.joined edge a n m direct e into in
          let up : a < n = subst (λ (link : Link). link.from < link.to) there.2 (plan.upward.upward there.0 (record { from = a; to = n }) there.1) in
          omega (arith, up)

  -- what each client plays is the same where the sources of its direct edges agree
  given-agrees : (other : Signals) (port : List ℕ)
      → ((n : ℕ) → place_in nodes (client_part port) ≡ Some n → (edge : Connection) → Contains at.graph.edges edge → edge.mark ≡ Direct → client_part edge.destination ≡ client_part port → Agree now other edge.source)
      → Agree (given course at now) (given course at other) port
  given-agrees other port sources = record {
    audio = ap (audio_of course at now port) there ∙ audio_at (place_in nodes (client_part port)) refl ∙ ap (audio_of course at other port) (sym there);
    midi = ap (midi_of course at now port) there ∙ midi_at (place_in nodes (client_part port)) refl ∙ ap (midi_of course at other port) (sym there);
  }
    where
      there : player_named at.graph (client_part port) ≡ option_map (node_at nodes) (place_in nodes (client_part port))
      there = player-at_place (client_part port) (place_in nodes (client_part port)) refl

      same : (n : ℕ) → place_in nodes (client_part port) ≡ Some n → client_played course at now (node_at nodes n) ≡ client_played course at other (node_at nodes n)
      same n e = client_played-same course at now other (client_part port) (sources n e) (node_at nodes n) (place_in-some (client_part port) n e).1

      audio_at : (o : Option ℕ) → place_in nodes (client_part port) ≡ o → audio_of course at now port (option_map (node_at nodes) o) ≡ audio_of course at other port (option_map (node_at nodes) o)
      audio_at None e = refl
      audio_at (Some n) e = ap (λ (played : ClientPlayed). at_port (silence at.frames) (audio_outputs at.graph (name_at n)) played.audio port) (same n e)

      midi_at : (o : Option ℕ) → place_in nodes (client_part port) ≡ o → midi_of course at now port (option_map (node_at nodes) o) ≡ midi_of course at other port (option_map (node_at nodes) o)
      midi_at None e = refl
      midi_at (Some n) e = ap (λ (played : ClientPlayed). at_port [] (midi_outputs at.graph (name_at n)) played.midi port) (same n e)

  Agree-deep : (depth : ℕ) (port : List ℕ) → rank (client_part port) < depth → Agree now (signals course at depth) port
  Agree-deep zero port low = absurd (none low)
    where
      none : {n : ℕ} → n < 0 → ⊥
      none p = omega arith
  Agree-deep (suc depth) port low = joined (Solves-outputs port) (given-agrees (signals course at depth) port (sources (λ source lower. Agree-deep depth source lower)))
    where
      joined : Agree now (given course at now) port → Agree (given course at now) (given course at (signals course at depth)) port → Agree now (given course at (signals course at depth)) port
      joined a b = record { audio = a.audio ∙ b.audio; midi = a.midi ∙ b.midi }

      sources : ((source : List ℕ) → rank (client_part source) < depth → Agree now (signals course at depth) source)
          → (n : ℕ) → place_in nodes (client_part port) ≡ Some n → (edge : Connection) → Contains at.graph.edges edge → edge.mark ≡ Direct → client_part edge.destination ≡ client_part port → Agree now (signals course at depth) edge.source
      sources below n e edge m direct into =
          let up : rank (client_part edge.source) < suc n = rank-rises edge n m direct (ap (place_in nodes) into ∙ e) in
          let mine : rank (client_part port) ≡ suc n = ap rank_at e in
          below edge.source (omega (arith, up, mine, low))

  -- the benches' outputs are the cycle's
  pub Agree-outputs : (port : List ℕ) → Agree now (signals course at (length at.graph.clients)) port
  Agree-outputs port = Agree-deep (length at.graph.clients) port (rank-few (client_part port))

  module _ (earlier : Cycle) where
    abbrev this : Cycle
    this = cycle_of course earlier at

    same_turn : (n : ℕ) → client_played course at now (node_at nodes n) ≡ client_played course at this.now (node_at nodes n)
    same_turn n = client_played-same course at now this.now (name_at n) (λ edge m direct into. Agree-outputs edge.source) (node_at nodes n) refl

    pub HaveCycle-done : HaveCycle this nodes done
    HaveCycle-done = record {
      memory = λ n h.
          ap (λ player. memory_after course at this.now (earlier.memory (node_at nodes n).birth) player) (plan.born n h)
          ∙ ap (λ (played : ClientPlayed). Some played.memory) (sym (turn-is_played n h ∙ same_turn n))
          ∙ ap (λ (bench : Bench). Some bench.memory) (sym (done-played n h));
      audio = λ port. (Agree-outputs port).audio;
      midi = λ port. (Agree-outputs port).midi;
      sounds = λ n h. ap (λ (bench : Bench). bench.sounds) (done-played n h) ∙ mixed-is_input n h ∙ audio_inputs-same course at now this.now (name_at n) (λ edge m direct into. Agree-outputs edge.source);
      notes = λ n h. ap (λ (bench : Bench). bench.notes) (done-played n h) ∙ merged-is_input n h ∙ midi_inputs-same course at now this.now (name_at n) (λ edge m direct into. Agree-outputs edge.source);
      mix = λ port. audio_into-same course at now this.now (client_part port) (λ edge m direct into. Agree-outputs edge.source) port refl;
    }

    outputs-same : (benches : ℕ → Bench) → ((n : ℕ) → n < length nodes → benches n ≡ done n) → (port : List ℕ) → Agree (outputs_of at nodes benches) now port
    outputs-same benches h port = record { audio = audio_at (place_in nodes (client_part port)) refl; midi = midi_at (place_in nodes (client_part port)) refl }
      where
        audio_at : (o : Option ℕ) → place_in nodes (client_part port) ≡ o
            → option_map_or (λ n. at_port (silence at.frames) (audio_outputs at.graph (name_at n)) (benches n).audio port) o (fixed_audio at port)
            ≡ option_map_or (λ n. at_port (silence at.frames) (audio_outputs at.graph (name_at n)) (done n).audio port) o (fixed_audio at port)
        audio_at None e = refl
        audio_at (Some n) e = ap (λ (bench : Bench). at_port (silence at.frames) (audio_outputs at.graph (name_at n)) bench.audio port) (h n (place_in-some (client_part port) n e).0)

        midi_at : (o : Option ℕ) → place_in nodes (client_part port) ≡ o
            → option_map_or (λ n. at_port [] (midi_outputs at.graph (name_at n)) (benches n).midi port) o []
            ≡ option_map_or (λ n. at_port [] (midi_outputs at.graph (name_at n)) (done n).midi port) o []
        midi_at None e = refl
        midi_at (Some n) e = ap (λ (bench : Bench). at_port [] (midi_outputs at.graph (name_at n)) bench.midi port) (h n (place_in-some (client_part port) n e).0)

    -- benches that are what the machine says have what the cycle has
    pub HaveCycle-of_sequential : (benches : ℕ → Bench) → ((n : ℕ) → n < length nodes → benches n ≡ sequential bench_after bench_gives links before n) → HaveCycle this nodes benches
    HaveCycle-of_sequential benches h = record {
      memory = λ n w. HaveCycle-done.memory n w ∙ ap (λ (bench : Bench). Some bench.memory) (sym (h n w));
      audio = λ port. (outputs-same benches h port).audio ∙ HaveCycle-done.audio port;
      midi = λ port. (outputs-same benches h port).midi ∙ HaveCycle-done.midi port;
      sounds = λ n w. ap (λ (bench : Bench). bench.sounds) (h n w) ∙ HaveCycle-done.sounds n w;
      notes = λ n w. ap (λ (bench : Bench). bench.notes) (h n w) ∙ HaveCycle-done.notes n w;
      mix = λ port. audio_into-same course at (outputs_of at nodes benches) now (client_part port) (λ edge m direct into. outputs-same benches h edge.source) port refl ∙ HaveCycle-done.mix port;
    }
