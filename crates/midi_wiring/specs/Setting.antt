-- What a MIDI wiring says of the work of each client, in a cycle of the plan's graph.
--     HandsOver plan at heard n given      the values of a node's incoming links carry what was played, and feedback edges what was kept
--     SetsEvents plan wiring      then the MIDI inputs of the node's task get what its connections bring
--     PlaysTask course at plan old new n given      and its client plays what was heard
use Rattle.std.specs.Prelude.{◌≡◌, ℕ, ◌<◌, false, Contains, List, length, replicate, slice_index_or, Some}
use Rattle.jack_types.specs.Names.{client_part}
use Rattle.jack_types.specs.declared.ports.Mark.TheVariants.{Direct, Feedback}
use Rattle.session_model.specs.Benches.{Signal, Task, edge_place, edges_between, link_place, merged, node_at, place_in, signal_at, task_of}
use Rattle.session_model.specs.Courses.{Course}
use Rattle.session_model.specs.Cycles.{Settled, midi_inputs, midi_outputs}
use Rattle.session_model.specs.Kinds.{Memory, MidiPlayed, midi_play}
use Rattle.session_model.specs.Soundness.{IsEnd}
use Rattle.session_model.specs.State.{Connection}
use Rattle.port_registry.specs.Registered.{open_clients}
use Rattle.client_wiring.specs.cycle_plan.specs.Plans.{Planned, state_of_plan}
use Rattle.client_wiring.specs.Wirings.{source_birth}
use Rattle.midi_wiring.specs.Hearings.{heard_by}
use Rattle.driver_words.specs.Hearings.{Heard, carried_at, log_at, played_at}
use Rattle.midi_wiring.specs.Wirings.{MidiWired}

-- of the edges from MIDI outputs
pub record HandsOver (plan : Planned) (at : Settled) (heard : Heard) (n : ℕ) (given : List (List Signal)) : Type 0 where
  pub played : (edge : Connection) (m : ℕ) → Contains (state_of_plan plan).edges edge → IsEnd (state_of_plan plan) false false edge.source → edge.mark ≡ Direct
      → place_in (open_clients plan.nodes) (client_part edge.source) ≡ Some m → place_in (open_clients plan.nodes) (client_part edge.destination) ≡ Some n
      → (signal_at given (link_place plan.links m n) (edge_place edge (edges_between (state_of_plan plan) (node_at (open_clients plan.nodes) m).name (node_at (open_clients plan.nodes) n).name))).midi ≡ played_at heard m
  pub kept : (edge : Connection) → Contains (state_of_plan plan).edges edge → IsEnd (state_of_plan plan) false false edge.source → edge.mark ≡ Feedback
      → at.before.midi edge.source ≡ carried_at heard.before (source_birth (state_of_plan plan) edge)

pub record SetsEvents (plan : Planned) (wiring : MidiWired) : Type 0 where
  pub inputs : (n : ℕ) → n < length plan.nodes → (slice_index_or wiring.widths n (record { inputs = 0; outputs = 0 })).inputs ≡ length (midi_inputs (state_of_plan plan) (node_at (open_clients plan.nodes) n).name)
  pub outputs : (n : ℕ) → n < length plan.nodes → (slice_index_or wiring.widths n (record { inputs = 0; outputs = 0 })).outputs ≡ length (midi_outputs (state_of_plan plan) (node_at (open_clients plan.nodes) n).name)
  pub merged_is : (course : Course) (at : Settled) (heard : Heard) (n : ℕ) (given : List (List Signal)) → n < length plan.nodes → at.graph ≡ state_of_plan plan → HandsOver plan at heard n given
      → merged (task_of course at (open_clients plan.nodes) plan.links n) given ≡ heard_by wiring heard n

-- what is heard of a node with this task
abbrev pub heard_with : Task → Memory → Heard → ℕ → ℕ → MidiPlayed
heard_with task memory heard n birth = record { outputs = replicate task.midi_count (played_at heard n); memory = record memory { log = log_at heard birth } }

-- by its task, whatever else it remembers
abbrev pub PlaysTask : Course → Settled → Planned → Heard → Heard → ℕ → List (List Signal) → Type 0
PlaysTask course at plan old new n given =
    let task = task_of course at (open_clients plan.nodes) plan.links n in
    (memory : Memory) → memory.log ≡ log_at old (node_at (open_clients plan.nodes) n).birth
    → midi_play task.list task.kind memory task.midi_count task.moment task.frames (merged task given) ≡ heard_with task memory new n (node_at (open_clients plan.nodes) n).birth
