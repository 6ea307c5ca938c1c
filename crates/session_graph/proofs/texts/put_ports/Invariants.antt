use Rattle.std.proofs.Common.{◌≡◌, take}
use Rattle.std.specs.Prelude.{string_bytes}
use Rattle.session_model.specs.Ids.{open_ports}
use Rattle.script_text.specs.Printing.{with_lines}
use Rattle.session_graph.specs.Texts.{port_lines}
use Rattle.session_graph.proofs.texts.put_ports.Given as goal

abbrev pub invariant-loop-port : goal.invariant-loop-port
invariant-loop-port l = string_bytes l.text ≡ with_lines (string_bytes l.fn.text) (port_lines (open_ports (take l.port-index l.ports)) l.client.name)
