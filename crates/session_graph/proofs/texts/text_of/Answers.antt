use Rattle.std.proofs.Common.{rules}
use Rattle.std.specs.Prelude.{string_bytes}
use Rattle.cycle_plan.specs.Graphs.{state_of}
use Rattle.session_graph.proofs.TextLemmas.{text-finished}
use Rattle.session_graph.proofs.texts.text_of.Goals as goal

pub returns : goal.returns
returns c = text-finished c.args.cycle.now (state_of c.args.graph.now) (string_bytes c.put_cycle.new.text) (string_bytes c.put_clients.new.text) (string_bytes c.put_edges.new.text) (string_bytes c.put_transport.new.text) (string_bytes c.put_end.new.text)
    (search (rules)) (search (rules)) (search (rules)) c.in_ok-put_transport.ensures c.in_ok-put_end.ensures
