use Rattle.std.proofs.Common.{rules, arith}
use Rattle.std.specs.Prelude.{string_bytes}
use Rattle.session_graph.proofs.TextLemmas.{edges-next}
use Rattle.session_graph.proofs.texts.put_edges.Goals as goal

pub loop-edge-preserved : goal.loop-edge-preserved
loop-edge-preserved c = edges-next (string_bytes c.args.text.now) c.args.ports.now c.args.edges.now c.loop-edge.edge-index _ (string_bytes c.loop-edge.text) (string_bytes c.put_edge.new.text) c.loop-edge-test.true (search (rules, arith)) c.loop-edge.invariant c.in_ok-put_edge.ensures
