use Rattle.std.proofs.Common.{◌≡◌, take, flat_map}
use Rattle.std.specs.Prelude.{string_bytes}
use Rattle.port_registry.specs.Registered.{open_clients}
use Rattle.session_model.specs.Ids.{open_ports}
use Rattle.script_text.specs.Printing.{with_lines}
use Rattle.session_graph.specs.Texts.{client_lines}
use Rattle.session_graph.proofs.texts.put_clients.Given as goal

abbrev pub invariant-loop-client : goal.invariant-loop-client
invariant-loop-client l = string_bytes l.text ≡ with_lines (string_bytes l.fn.text) (flat_map (client_lines (open_ports l.ports)) (open_clients (take l.client-index l.clients)))
