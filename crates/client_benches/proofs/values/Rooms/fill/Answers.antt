use Rattle.std.proofs.Common.{arith}
use Rattle.std.proofs.lemmas.Grind.{common_steps}
use Rattle.client_benches.proofs.RouteLemmas.{lies_within}
use Rattle.client_benches.proofs.values.Rooms.fill.Goals as goal

pub invariant_of-self : goal.invariant_of-self
invariant_of-self c = record {
  most = grind (arith, common_steps);
  carried = lies_within c.args.ports.period c.args.ports.outputs _ c.copy_routes.new.carried.items (grind (arith, common_steps)) c.copy_routes.ensures.ports;
  capacity = grind (arith, common_steps);
}
