use Rattle.session_check.proofs.EventLemmas.{IsLoggedTo}
use Rattle.session_check.proofs.events.wrong_event.Given as goal

abbrev pub invariant-loop-at : goal.invariant-loop-at
invariant-loop-at g l = IsLoggedTo g.G.Guest.sound l.changes l.walk l.rows l.at l.place
