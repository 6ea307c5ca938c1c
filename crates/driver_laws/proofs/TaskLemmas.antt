-- What a bench's task reads of what is settled: of the earlier outputs only those that feedback edges bring.
--     outputs-plain      what an output port of a client gives rests on graph and period alone
--     task_of-same      tasks over outputs that agree at feedback edges are the same
use Rattle.std.proofs.Common.{◌≡◌, ℕ, false, cond, List, [], map, ℤ, Contains, refl, sym, ◌∙◌, ap, ap₂}
use Rattle.std.specs.Option.{option_map_or}
use Rattle.std.specs.Str.{bytes_eq}
use Rattle.record_ring.specs.jack_types.specs.Names.{client_part}
use Rattle.record_ring.specs.jack_types.specs.declared.events.Event.{Event}
use Rattle.record_ring.specs.jack_types.specs.declared.ports.Link.{Link}
use Rattle.record_ring.specs.jack_types.specs.declared.ports.Mark.{Mark}
use Rattle.record_ring.specs.jack_types.specs.declared.ports.Mark.TheVariants.{Direct, Feedback}
use Rattle.record_ring.specs.session_model.specs.Benches.{Bench, Known, task_of, audio_part_of, midi_part_of, marked_part, fixed_audio, fixed_midi, node_at, place_in, outputs_of}
use Rattle.record_ring.specs.session_model.specs.Courses.{Course}
use Rattle.record_ring.specs.session_model.specs.Cycles.{Signals, Settled, edges_into, audio_inputs, midi_inputs, audio_outputs, midi_outputs, at_port, captured_at}
use Rattle.record_ring.specs.session_model.specs.Kinds.{Memory}
use Rattle.record_ring.specs.session_model.specs.Samples.{silence}
use Rattle.record_ring.specs.session_model.specs.State.{State, OpenClient, OpenPort, Connection, is_system}
use Rattle.cycle_plan.specs.session_laws.proofs.CycleLemmas.{map_filter-same}
use Rattle.cycle_plan.specs.session_laws.proofs.PlaceLemmas.{map-same}

-- what an output port gives where the capture's ports are silent
abbrev plain_audio : State → ℕ → List OpenClient → (ℕ → Bench) → List ℕ → List ℤ
plain_audio state frames nodes benches port = option_map_or (λ n. at_port (silence frames) (audio_outputs state (node_at nodes n).name) (benches n).audio port) (place_in nodes (client_part port)) (silence frames)

outputs_of-plain : (at : Settled) (nodes : List OpenClient) (benches : ℕ → Bench) (port : List ℕ) → is_system (client_part port) ≡ false → (outputs_of at nodes benches).audio port ≡ plain_audio at.graph at.frames nodes benches port
outputs_of-plain at nodes benches port own = ap
    (λ b. option_map_or (λ n. at_port (silence at.frames) (audio_outputs at.graph (node_at nodes n).name) (benches n).audio port) (place_in nodes (client_part port)) (cond b (captured_at at port) (silence at.frames)))
    own

-- a client's output rests on graph and period alone
pub outputs-plain : (at other : Settled) (nodes : List OpenClient) (benches : ℕ → Bench) (port : List ℕ) → at.graph ≡ other.graph → at.frames ≡ other.frames → is_system (client_part port) ≡ false
    → (outputs_of at nodes benches).audio port ≡ (outputs_of other nodes benches).audio port
outputs-plain at other nodes benches port graph frames own =
    outputs_of-plain at nodes benches port own
    ∙ ap₂ (λ state n. plain_audio state n nodes benches port) graph frames
    ∙ sym (outputs_of-plain other nodes benches port own)

-- and a MIDI output on the graph
pub outputs-plain_midi : (at other : Settled) (nodes : List OpenClient) (benches : ℕ → Bench) (port : List ℕ) → at.graph ≡ other.graph → (outputs_of at nodes benches).midi port ≡ (outputs_of other nodes benches).midi port
outputs-plain_midi at other nodes benches port graph =
    ap (λ state. option_map_or (λ n. at_port [] (midi_outputs state (node_at nodes n).name) (benches n).midi port) (place_in nodes (client_part port)) []) graph

-- outputs that agree at feedback edges
pub record AgreeBack (edges : List Connection) (before other : Signals) : Type 0 where
  pub audio : (edge : Connection) → Contains edges edge → edge.mark ≡ Feedback → before.audio edge.source ≡ other.audio edge.source
  pub midi : (edge : Connection) → Contains edges edge → edge.mark ≡ Feedback → before.midi edge.source ≡ other.midi edge.source

module _ (course : Course) (at : Settled) (other : Signals) (memory : OpenClient → Memory) (nodes : List OpenClient) (links : List Link) (n : ℕ) (agree : AgreeBack at.graph.edges at.before other) where
  -- the same, but for the earlier outputs and the memories
  abbrev pub with_before : Settled
  with_before = record at { before = other; memory = memory }

  audio_part-same : (edge : Connection) → Contains at.graph.edges edge → audio_part_of at nodes links n edge ≡ audio_part_of with_before nodes links n edge
  audio_part-same edge m = go edge.mark refl
    where
      go : (mark : Mark) → edge.mark ≡ mark
          → marked_part at.graph nodes links n edge (at.before.audio edge.source) (fixed_audio at edge.source) mark ≡ marked_part at.graph nodes links n edge (other.audio edge.source) (fixed_audio at edge.source) mark
      go Direct e = refl
      go Feedback e = ap (λ (x : List ℤ). Known x) (agree.audio edge m e)

  midi_part-same : (edge : Connection) → Contains at.graph.edges edge → midi_part_of at nodes links n edge ≡ midi_part_of with_before nodes links n edge
  midi_part-same edge m = go edge.mark refl
    where
      go : (mark : Mark) → edge.mark ≡ mark
          → marked_part at.graph nodes links n edge (at.before.midi edge.source) (fixed_midi edge.source) mark ≡ marked_part at.graph nodes links n edge (other.midi edge.source) (fixed_midi edge.source) mark
      go Direct e = refl
      go Feedback e = ap (λ (x : List Event). Known x) (agree.midi edge m e)

  audio_parts-same : map (λ (port : OpenPort). map (audio_part_of at nodes links n) (edges_into at.graph port.name)) (audio_inputs at.graph (node_at nodes n).name)
      ≡ map (λ (port : OpenPort). map (audio_part_of with_before nodes links n) (edges_into at.graph port.name)) (audio_inputs at.graph (node_at nodes n).name)
  audio_parts-same = map-same
      (λ (port : OpenPort). map (audio_part_of at nodes links n) (edges_into at.graph port.name))
      (λ (port : OpenPort). map (audio_part_of with_before nodes links n) (edges_into at.graph port.name))
      (audio_inputs at.graph (node_at nodes n).name)
      (λ port. map_filter-same (λ (edge : Connection). bytes_eq edge.destination port.name) (audio_part_of at nodes links n) (audio_part_of with_before nodes links n) at.graph.edges (λ edge m t. audio_part-same edge m))

  midi_parts-same : map (λ (port : OpenPort). map (midi_part_of at nodes links n) (edges_into at.graph port.name)) (midi_inputs at.graph (node_at nodes n).name)
      ≡ map (λ (port : OpenPort). map (midi_part_of with_before nodes links n) (edges_into at.graph port.name)) (midi_inputs at.graph (node_at nodes n).name)
  midi_parts-same = map-same
      (λ (port : OpenPort). map (midi_part_of at nodes links n) (edges_into at.graph port.name))
      (λ (port : OpenPort). map (midi_part_of with_before nodes links n) (edges_into at.graph port.name))
      (midi_inputs at.graph (node_at nodes n).name)
      (λ port. map_filter-same (λ (edge : Connection). bytes_eq edge.destination port.name) (midi_part_of at nodes links n) (midi_part_of with_before nodes links n) at.graph.edges (λ edge m t. midi_part-same edge m))

  -- the task is the same
  pub task_of-same : task_of course at nodes links n ≡ task_of course with_before nodes links n
  task_of-same = ap₂ (λ audio midi. record (task_of course at nodes links n) { audio_parts = audio; midi_parts = midi }) audio_parts-same midi_parts-same
