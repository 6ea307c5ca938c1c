-- Inside: how edges come and go. No public clause cites this module.
--     without_edges_at node edges port      the edges, those of the port taken away where it is at the node
--     Leaves ports before left new      the edges that were left, marked anew where there were more before
--     without_memory answer      what a call of the registry answers where it has room
--     Joins ports source destination old new      one edge more, with its mark
use Rattle.std.specs.Prelude.{◌≡◌, ⊤, ℕ, Result, Ok, Err, List, [], ◌∷◌, ◌++◌, Contains, length, nat_lt, if◌then◌else◌}
use Rattle.graph_word.specs.jack_types.specs.declared.ports.Edge.{Edge}
use Rattle.graph_word.specs.jack_types.specs.declared.ports.Mark.{Mark}
use Rattle.graph_word.specs.jack_types.specs.declared.ports.Node.{Node}
use Rattle.graph_word.specs.jack_types.specs.declared.ports.Port.{Port}
use Rattle.graph_word.specs.jack_types.specs.declared.ports.Way.TheVariants.{In, Out}
use Rattle.graph_word.specs.jack_types.specs.declared.replies.No.{No}
use Rattle.graph_word.specs.jack_types.specs.declared.replies.No.TheVariants.{Memory, Refused}
use Rattle.graph_word.specs.jack_types.specs.declared.replies.Refusal.{Refusal}
use Rattle.graph_word.specs.session_model.specs.Ids.{connections, same_id_node, way_of}
use Rattle.graph_word.specs.session_model.specs.Loops.{mark_of, remark}
use Rattle.graph_word.specs.session_model.specs.State.{Connection}
use Rattle.feedback_edges.specs.connection_set.specs.Connections.{MakesConnection, without_port}
use Rattle.feedback_edges.specs.Marking.{AreNamed, ends_by_id}

-- the edges, those of the port taken away where it is at the node
abbrev pub without_edges_at : Node → List Edge → Port → List Edge
without_edges_at node edges port = if same_id_node port.node node then without_port port.id edges else edges

-- edges marked anew where there were more of them
abbrev pub marked_anew : ℕ → List Connection → List Connection
marked_anew before edges = if nat_lt (length edges) before then remark edges else edges

-- some edges were left of so many, and were marked anew where one went
pub record Leaves (ports : List Port) (before : ℕ) (left new : List Edge) : Type 0 where
  pub ends : ends_by_id new ≡ ends_by_id left
  pub marks : AreNamed ports left → connections ports new ≡ marked_anew before (connections ports left)

-- one edge more, which has the mark of the definitions where the ports are named
pub record Joins (ports : List Port) (source destination : Port) (old new : List Edge) : Type 0 where
  pub mark : Mark
  pub made : new ≡ old ++ record { source = source.id; destination = destination.id; mark = mark } ∷ []
  pub effect : MakesConnection old source destination mark new
  pub marked : AreNamed ports old → Contains ports source → Contains ports destination → way_of source ≡ Out → way_of destination ≡ In
      → mark ≡ mark_of (connections ports old) source.name destination.name

-- what a call of the registry answers where it has room
abbrev pub without_memory : {T : Type 0} → Result T No → Result ⊤ Refusal
without_memory (Ok _) = Ok tt
without_memory (Err (Refused refusal)) = Err refusal
without_memory (Err Memory) = Ok tt
