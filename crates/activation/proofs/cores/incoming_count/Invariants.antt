use Rattle.std.proofs.Common.{◌≡◌, ◌≤◌, ◌==◌, length, filter}
use Rattle.session_laws.specs.session_model.specs.Activation.{link_at}
use Rattle.session_laws.specs.session_model.specs.Samples.{below}
use Rattle.activation.proofs.cores.incoming_count.Given as goal

abbrev pub invariant-loop-link : goal.invariant-loop-link
invariant-loop-link l = (l.count ≡ length (filter (λ k. (link_at l.links k).to == l.node) (below l.link-index))) × (l.count ≤ l.link-index)
