use Rattle.guests.proofs.FilterLemmas.{IsStepped}
use Rattle.guests.proofs.fir.step_past.Given as goal

abbrev pub invariant-loop-j : goal.invariant-loop-j
invariant-loop-j l = IsStepped l.past l.initial.past l.x l.period l.j
