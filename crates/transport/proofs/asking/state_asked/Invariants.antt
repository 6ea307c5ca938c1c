use Rattle.std.proofs.Common.{◌≡◌, take}
use Rattle.session_model.specs.Transport.{last_asked}
use Rattle.transport.specs.Standings.{with_targets}
use Rattle.transport.proofs.asking.state_asked.Given as goal

abbrev pub invariant-loop-change : goal.invariant-loop-change
invariant-loop-change l = l.asked ≡ last_asked (with_targets (take l.change-index l.changes))
