use Rattle.std.proofs.Common.{◌≡◌, map, take}
use Rattle.std.specs.Prelude.{string_bytes}
use Rattle.session_model.specs.Ids.{connections}
use Rattle.script_text.specs.Printing.{with_lines}
use Rattle.session_graph.specs.Texts.{connection_slots}
use Rattle.session_graph.proofs.texts.put_edges.Given as goal

abbrev pub invariant-loop-edge : goal.invariant-loop-edge
invariant-loop-edge l = string_bytes l.text ≡ with_lines (string_bytes l.fn.text) (map connection_slots (connections l.ports (take l.edge-index l.edges)))
