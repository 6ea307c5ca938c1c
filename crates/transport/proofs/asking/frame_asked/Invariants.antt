use Rattle.std.proofs.Common.{◌≡◌, ◌≤◌, take}
use Rattle.std.specs.Option.{ForSome}
use Rattle.session_model.specs.Transport.{last_target}
use Rattle.transport.specs.Standings.{with_targets}
use Rattle.transport.proofs.asking.frame_asked.Given as goal

abbrev pub invariant-loop-change : goal.invariant-loop-change
invariant-loop-change l = record { value : l.asked ≡ last_target (with_targets (take l.change-index l.changes)); bound : ForSome l.asked (λ frame. frame ≤ 2147483647) }
