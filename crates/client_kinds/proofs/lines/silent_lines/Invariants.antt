use Rattle.std.proofs.Common.{◌≡◌, replicate}
use Rattle.port_mixer.specs.session_model.specs.Samples.{silence}
use Rattle.circular_buffer.specs.Buffer.{buffer}
use Rattle.client_kinds.proofs.lines.silent_lines.Given as goal

abbrev pub invariant-loop-i : goal.invariant-loop-i
invariant-loop-i l = l.lines.items ≡ replicate l.i (buffer (silence l.fn.frames) l.fn.frames)
