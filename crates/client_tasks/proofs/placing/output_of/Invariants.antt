use Rattle.std.proofs.Common.{◌≡◌, ◌<◌, ◌==◌, ℕ, false, get_or}
use Rattle.client_wiring.specs.declared.joints.Given.{Given}
use Rattle.client_tasks.proofs.placing.output_of.Given as goal

abbrev pub invariant-loop-one : goal.invariant-loop-one
invariant-loop-one l = (k : ℕ) (d : Given) → k < l.one-index → ((get_or l.given k d).birth == l.birth) ≡ false
