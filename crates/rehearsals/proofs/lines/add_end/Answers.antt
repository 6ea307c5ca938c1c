use Rattle.rehearsals.proofs.LineLemmas.{six}
use Rattle.rehearsals.proofs.lines.add_end.Goals as goal

pub returns : goal.returns
returns c =
    rw (
      c.in_ok-push-6.ensures.items,
      c.in_ok-push-5.ensures.items,
      c.in_ok-push-4.ensures.items,
      c.in_ok-push-3.ensures.items,
      c.in_ok-push-2.ensures.items,
      c.in_ok-push.ensures.items,
      c.connect.ensures,
      c.connect-2.ensures,
      c.connect-3.ensures,
      c.register.ensures,
      c.output.ensures,
      c.output-2.ensures,
      c.output-3.ensures,
      c.port_of.ensures,
      c.port_of-2.ensures,
      c.port_of-tape.ensures,
      c.client_of-client.ensures,
    )
    (six _ _ _ _ _ _ _)
