use Rattle.session_ends.proofs.PairLemmas.{AreMade}
use Rattle.session_ends.proofs.opening.make_recorders.Given as goal

abbrev pub invariant-loop-recorder : goal.invariant-loop-recorder
invariant-loop-recorder g l = AreMade l.script.header.recorders l.initial.driver l.driver l.recorder l.made.items
