use Rattle.std.proofs.Common.{subst}
use Rattle.jack_host.specs.Bytes.{Puts}
use Rattle.session_ends.specs.Seen.{Parts, session_of, text_in}
use Rattle.session_run.proofs.session.Session.report.Goals as goal

pub returns-clause-puts : goal.returns-clause-puts
returns-clause-puts g c =
    subst (λ (p : Parts). Puts (g.K.Sink.content c.args.out.now) (g.K.Sink.content c.report.new.out) c.report.result (text_in (session_of g.G.Guest.sound p))) c.self.view_is c.report.ensures.puts
