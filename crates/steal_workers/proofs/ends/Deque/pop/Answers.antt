use Rattle.std.proofs.Common.{subst, sym, ◌≡◌, ◌<◌, ℕ, length}
use Rattle.crossbeam_deque.specs.Tasks.{Takes, Finds}
use Rattle.crossbeam_deque.specs.Handles.{worker_view}
use Rattle.steal_workers.specs.Tallies.{IsDeque, with_taken, HasAll, IsEven}
use Rattle.steal_workers.proofs.Tallied.{pops, finds}
use Rattle.steal_workers.proofs.ends.Deque.pop.Goals as goal

pub pop_as-requires-clause-fifo : goal.pop_as-requires-clause-fifo
pop_as-requires-clause-fifo c = λ fifo.
    let v = worker_view c.args.self.now.worker in
    subst (λ (port : ℕ). Takes IsDeque port v 1 (λ xs w. (w ≡ with_taken v xs) × (HasAll v → length v.taken < length v.pushed))) (sym c.args.self.now.first) (pops v c.requires.part)

pub pop_as-requires-clause-empty : goal.pop_as-requires-clause-empty
pop_as-requires-clause-empty c =
    let v = worker_view c.args.self.now.worker in
    subst (λ (port : ℕ). Finds {T = ℕ} IsDeque port v (HasAll v → IsEven v)) (sym c.args.self.now.first) (finds v)
