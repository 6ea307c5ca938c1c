use Rattle.std.proofs.Common.{subst, sym, ℕ, []}
use Rattle.crossbeam_deque.specs.Tasks.{Merges}
use Rattle.crossbeam_deque.specs.Handles.{worker_view, view}
use Rattle.steal_workers.specs.Tallies.{IsDeque, tally, with_part}
use Rattle.steal_workers.proofs.Tallied.{merges}
use Rattle.steal_workers.proofs.ends.Deque.take_back.Goals as goal

pub absorb-requires-clause-rule : goal.absorb-requires-clause-rule
absorb-requires-clause-rule c =
    let v = worker_view c.args.self.now.worker in
    let u = view c.args.pass in
    subst (λ (port : ℕ). Merges IsDeque port v c.args.pass.id u (with_part v u) (tally 0 [] [])) (sym c.args.self.now.first) (merges v c.args.pass.id u c.requires.pass.1)
