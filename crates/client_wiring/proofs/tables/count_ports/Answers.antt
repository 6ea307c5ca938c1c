use Rattle.std.proofs.Common.{ℕ}
use Rattle.std.proofs.lemmas.List.{get_or-replicate, length-replicate}
use Rattle.client_wiring.proofs.ListLemmas.{zeros_few}
use Rattle.client_wiring.proofs.tables.count_ports.Goals as goal

pub loop-port-init : goal.loop-port-init
loop-port-init c = record {
  size = length-replicate {A = ℕ} 268 0;
  so_far = λ class h. get_or-replicate 268 class 0 0 h;
  few = λ class h. zeros_few 268 class 0 h;
}
