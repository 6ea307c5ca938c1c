use Rattle.std.proofs.Common.{length}
use Rattle.guests.proofs.EchoLemmas.{IsKept, HasEchoed}
use Rattle.guests.proofs.echo.echo_into.Given as goal

abbrev pub invariant-loop-frame : goal.invariant-loop-frame
invariant-loop-frame l = record {
  kept : IsKept l.fn.gain l.shift l.initial.line.items l.initial.line.capacity (length l.initial.part) l.x l.frame l.line;
  played : HasEchoed l.fn.gain l.shift l.initial.line.items (length l.initial.part) l.x l.frame l.line l.part;
}
