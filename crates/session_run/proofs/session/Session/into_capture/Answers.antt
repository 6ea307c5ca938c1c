use Rattle.std.proofs.Common.{◌∙◌, ap}
use Rattle.session_ends.specs.Seen.{Parts}
use Rattle.session_run.proofs.session.Session.into_capture.Goals as goal

pub returns-clause-sound : goal.returns-clause-sound
returns-clause-sound g c = λ going. c.into_capture.ensures.sound (ap (λ (p : Parts). p.gear.failed) (c.parts.view_is ∙ c.self.view_is) ∙ going)
