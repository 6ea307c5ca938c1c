use Rattle.std.proofs.Common.{rules}
use Rattle.std.specs.Prelude.{string_bytes}
use Rattle.session_graph.proofs.TextLemmas.{ports-next, ports-kept}
use Rattle.session_graph.proofs.texts.put_ports.Goals.{then-is_of+in_ok-put_port, else-is_of}
use Rattle.session_graph.proofs.texts.put_ports.Goals as goal

pub loop-port-preserved : goal.loop-port-preserved
loop-port-preserved c = elim c.if-is_of.branch [
  | then-is_of+in_ok-put_port w ↦ ports-next (string_bytes c.args.text.now) c.args.client.now.name c.args.ports.now c.loop-port.port-index c.port-item.result (string_bytes c.loop-port.text) (string_bytes c.if-is_of.text) c.loop-port-test.true c.port-item.is c.loop-port.invariant (search (rules)) (search (rules))
  | else-is_of w ↦ ports-kept (string_bytes c.args.text.now) c.args.client.now.name c.args.ports.now c.loop-port.port-index c.port-item.result (string_bytes c.loop-port.text) (string_bytes c.if-is_of.text) c.loop-port-test.true c.port-item.is c.loop-port.invariant (search (rules)) (search (rules))
]
