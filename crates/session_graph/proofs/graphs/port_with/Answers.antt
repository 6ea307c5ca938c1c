use Rattle.std.proofs.Common.{sym, ◌∙◌}
use Rattle.session_graph.proofs.PlaceLemmas.{port_found}
use Rattle.session_graph.proofs.graphs.port_with.Goals as goal

pub returns : goal.returns
returns c = port_found c.args.ports.now c.args.id c.in_ok-place.place c.get.result (λ port. port.now) (sym c.place_of.ensures ∙ c.in_ok-place.was) c.get.ensures.lookup.2 c.get.ensures.lookup.1
