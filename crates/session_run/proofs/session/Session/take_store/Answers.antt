use Rattle.std.proofs.Common.{◌≡◌, ◌∙◌, sym, ap}
use Rattle.std.specs.Prelude.{is_none}
use Rattle.session_model.specs.Scripts.{Script}
use Rattle.script_segments.specs.Segments.{segments}
use Rattle.session_ends.specs.Seen.{Gear, Parts, session_of, text_in}
use Rattle.session_run.proofs.session.Session.take_store.Goals as goal

pub invariant_of-self : goal.invariant_of-self
invariant_of-self g c = (
  c.self.invariant.0 ∙ ap segments (sym script_is),
  c.self.invariant.1 ∙ ap (λ (s : Script). s.header.ring) (sym script_is),
  c.self.invariant.2 ∙ ap (λ (s : Script). s.header.drain) (sym script_is),
  c.self.invariant.3 ∙ ap (λ (s : Script). s.header.fill) (sym script_is),
  c.self.invariant.4 ∙ ap (λ (s : Script). is_none s.header.threads) (sym script_is),
)
  where
    script_is : c.take_store.new.parts.gear.script ≡ c.self.inside.parts.gear.script
    script_is = ap (λ (gear : Gear). gear.script) c.take_store.ensures.gear

pub returns-clause-report : goal.returns-clause-report
returns-clause-report g c = c.take_store.ensures.report ∙ ap (λ (p : Parts). text_in (session_of g.G.Guest.sound p)) c.self.view_is
