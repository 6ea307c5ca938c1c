use Rattle.std.proofs.Common.{arith}
use Rattle.std.proofs.lemmas.Grind.{common_steps}
use Rattle.connection_set.proofs.StateLemmas.{takes_connection}
use Rattle.connection_set.proofs.connections.Connections.remove.Goals as goal

pub returns-clause-effect : goal.returns-clause-effect
returns-clause-effect c = takes_connection c.args.self.now.edges c.args.source c.args.destination c.remove_joining.new.self.edges (grind (arith, common_steps)) (grind (arith, common_steps))
