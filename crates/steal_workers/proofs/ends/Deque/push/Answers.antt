use Rattle.std.proofs.Common.{subst, sym, ◌≡◌, ℕ, [], ◌∷◌}
use Rattle.crossbeam_deque.specs.Tasks.{Pushes}
use Rattle.crossbeam_deque.specs.Handles.{worker_view}
use Rattle.steal_workers.specs.Tallies.{IsDeque, with_pushed}
use Rattle.steal_workers.proofs.Tallied.{pushes}
use Rattle.steal_workers.proofs.ends.Deque.push.Goals as goal

pub push_as-requires-clause-pushes : goal.push_as-requires-clause-pushes
push_as-requires-clause-pushes c =
    let v = worker_view c.args.self.now.worker in
    subst (λ (port : ℕ). Pushes IsDeque port v (c.args.node ∷ []) (λ w. w ≡ with_pushed v (c.args.node ∷ []))) (sym c.args.self.now.first) (pushes v c.args.node)
