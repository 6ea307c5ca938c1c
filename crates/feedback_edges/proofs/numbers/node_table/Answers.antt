use Rattle.std.proofs.Common.{arith}
use Rattle.feedback_edges.proofs.TableLemmas.{table_none, zeros_low}
use Rattle.feedback_edges.proofs.numbers.node_table.Goals as goal

pub filling-init : goal.filling-init
filling-init c = record {
  within = omega arith;
  size = search (arith);
  low = zeros_low 2064 67 (omega arith);
  held = table_none c.args.ports.now 2064;
}
