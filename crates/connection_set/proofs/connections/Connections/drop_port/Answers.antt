use Rattle.std.proofs.Common.{rules}
use Rattle.std.proofs.lemmas.Fn.{filter_same}
use Rattle.connection_set.proofs.StateLemmas.{takes_port}
use Rattle.connection_set.proofs.connections.Connections.drop_port.Goals as goal

pub returns-clause-edges : goal.returns-clause-edges
returns-clause-edges c = rw (← c.self.view_is) (filter_same _ _ _ (λ x b f' k. search rules) _ _ c.retain.ensures.filtered)

pub returns-clause-effect : goal.returns-clause-effect
returns-clause-effect c = takes_port c.args.self.now.edges c.args.port c.retain.new.self.items (returns-clause-edges c)
