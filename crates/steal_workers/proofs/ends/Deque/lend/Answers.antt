use Rattle.std.proofs.Common.{subst, sym, ℕ, []}
use Rattle.crossbeam_deque.specs.Tasks.{Forks}
use Rattle.crossbeam_deque.specs.Handles.{worker_view}
use Rattle.steal_workers.specs.Tallies.{IsDeque, tally, without_part}
use Rattle.steal_workers.proofs.Tallied.{forks}
use Rattle.steal_workers.proofs.ends.Deque.lend.Goals as goal

pub another-requires : goal.another-requires
another-requires c = let v = worker_view c.args.self.now.worker in subst (λ (port : ℕ). Forks IsDeque port v (without_part v) (tally 1 [] [])) (sym c.args.self.now.first) (forks v c.requires.parts)
