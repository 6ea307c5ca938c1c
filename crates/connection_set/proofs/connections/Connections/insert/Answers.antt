use Rattle.std.proofs.Common.{rules}
use Rattle.connection_set.proofs.StateLemmas.{makes_connection}
use Rattle.connection_set.proofs.connections.Connections.insert.Goals as goal

pub returns-clause-effect : goal.returns-clause-effect
returns-clause-effect c = makes_connection c.args.self.now.edges c.args.source c.args.destination c.args.mark c.push.new.self.items (search rules)
