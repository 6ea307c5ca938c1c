use Rattle.std.proofs.Common.{rules}
use Rattle.std.proofs.lemmas.Fn.{filter_same}
use Rattle.connection_set.proofs.connections.Connections.remove_joining.Goals as goal

pub returns-clause-edges : goal.returns-clause-edges
returns-clause-edges c = rw (← c.self.view_is) (filter_same _ _ _ (λ x b f' k. search rules) _ _ c.retain.ensures.filtered)
