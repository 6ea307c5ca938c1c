use Rattle.session_check.proofs.EventLemmas.{IsBehindTo}
use Rattle.session_check.proofs.events.behind_log.Given as goal

abbrev pub invariant-loop-at : goal.invariant-loop-at
invariant-loop-at l = IsBehindTo l.client l.log l.rows l.place l.at l.next
