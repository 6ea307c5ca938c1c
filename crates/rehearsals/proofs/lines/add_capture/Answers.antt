use Rattle.std.proofs.Common.{refl}
use Rattle.rehearsals.proofs.lines.add_capture.Goals as goal

pub returns : goal.returns
returns c = rw (c.in_ok-push.ensures.items, c.connect.ensures, c.port_of.ensures, c.input.ensures) refl
