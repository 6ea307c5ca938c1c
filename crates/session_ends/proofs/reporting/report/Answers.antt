use Rattle.std.proofs.Common.{ℕ, ◌≤◌, length, subst, take}
use Rattle.jack_host.specs.Bytes.{Gains}
use Rattle.session_works.specs.RunWords.{text_in}
use Rattle.session_works.specs.Parts.{Parts, session_of}
use Rattle.session_ends.proofs.reporting.report.Goals as goal

pub returns-in-Ok-clause-puts : goal.returns-in-Ok-clause-puts
returns-in-Ok-clause-puts g c = subst (λ (p : Parts). Gains (g.K.Sink.content c.args.out.now) (g.K.Sink.content c.put_report.new.out) (text_in (session_of g.G.Guest.sound p))) c.parts.view_is c.in-Ok.ensures.puts

pub returns-in-Err-clause-puts : goal.returns-in-Err-clause-puts
returns-in-Err-clause-puts g c =
    subst (λ (p : Parts). (k : ℕ) × (k ≤ length (text_in (session_of g.G.Guest.sound p))) × Gains (g.K.Sink.content c.args.out.now) (g.K.Sink.content c.put_report.new.out) (take k (text_in (session_of g.G.Guest.sound p)))) c.parts.view_is c.in-Err.ensures.puts
