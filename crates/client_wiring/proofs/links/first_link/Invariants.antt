use Rattle.std.proofs.Common.{◌≡◌, ℕ, ◌<◌, false, get_or}
use Rattle.jack_types.specs.declared.ports.Link.{Link}
use Rattle.cycle_plan.specs.Layouts.{same_link}
use Rattle.client_wiring.specs.Tables.{link_numbered}
use Rattle.client_wiring.proofs.links.first_link.Given as goal

abbrev pub invariant-loop-place : goal.invariant-loop-place
invariant-loop-place l = (k : ℕ) (d : Link) → k < l.place → same_link (link_numbered l.from l.to) (get_or l.links k d) ≡ false
