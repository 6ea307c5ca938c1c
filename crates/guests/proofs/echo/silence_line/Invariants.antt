use Rattle.std.proofs.Common.{◌≡◌, ◌++◌}
use Rattle.circular_buffer.specs.Buffer.{buffer, keep_last}
use Rattle.session_model.specs.Samples.{silence}
use Rattle.guests.proofs.echo.silence_line.Given as goal

abbrev pub invariant-loop-i : goal.invariant-loop-i
invariant-loop-i l = l.line ≡ buffer (keep_last l.initial.line.capacity (l.initial.line.items ++ silence l.i)) l.initial.line.capacity
