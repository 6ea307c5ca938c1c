use Rattle.std.proofs.Common.{length, subst}
use Rattle.std.specs.Prelude.{IsSome, OnErr}
use Rattle.session_model.specs.Explanations.{Given}
use Rattle.session_model.specs.Scripts.{phases}
use Rattle.driver_laws.specs.Drivers.{run}
use Rattle.session_ends.specs.Seen.{AtPhase, Parts, StandsSoFar, driver_of, session_of, told_of}
use Rattle.session_run.proofs.session.Session.end.Goals as goal

pub returns-clause-so_far : goal.returns-clause-so_far
returns-clause-so_far g c =
    subst
    (λ (p : Parts). IsSome p.gear.script.header.threads → OnErr c.end.result ((given : Given) → AtPhase (session_of g.G.Guest.sound p) given (length (phases p.gear.script))
    → StandsSoFar (run (driver_of g.G.Guest.sound p.gear)) (told_of g.G.Guest.sound c.end.new.parts) given)) c.self.view_is c.end.ensures.so_far
