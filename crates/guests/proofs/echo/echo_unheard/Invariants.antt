use Rattle.guests.proofs.EchoLemmas.{IsKept}
use Rattle.guests.proofs.echo.echo_unheard.Given as goal

abbrev pub invariant-loop-frame : goal.invariant-loop-frame
invariant-loop-frame l = IsKept l.fn.gain l.shift l.initial.line.items l.initial.line.capacity l.period l.x l.frame l.line
