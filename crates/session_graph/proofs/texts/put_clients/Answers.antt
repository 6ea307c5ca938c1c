use Rattle.std.specs.Prelude.{string_bytes}
use Rattle.session_model.specs.Ids.{open_ports}
use Rattle.session_graph.specs.Texts.{client_lines}
use Rattle.session_graph.proofs.TextLemmas.{clients-next}
use Rattle.session_graph.proofs.texts.put_clients.Goals as goal

pub loop-client-preserved : goal.loop-client-preserved
loop-client-preserved c = clients-next (string_bytes c.args.text.now) (client_lines (open_ports c.args.ports.now)) c.args.clients.now c.loop-client.client-index c.client-item.result (string_bytes c.loop-client.text) (string_bytes c.put_with_ports.new.text) c.loop-client-test.true c.client-item.is c.loop-client.invariant c.in_ok-put_with_ports.ensures
