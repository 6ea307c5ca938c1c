use Rattle.std.proofs.Common.{◌≡◌, ℕ, Some, ◌⊎◌, inl, inr, ap, sym, ◌∙◌}
use Rattle.midi_wiring.specs.cycle_plan.specs.Plans.{Planned}
use Rattle.driver_words.specs.Hearings.{log_at}
use Rattle.midi_seats.specs.Seating.{owner_of}
use Rattle.midi_stage.specs.Insides.{ArePartsOf, heard_of, plan_in, script_in, staged_by}
use Rattle.midi_stage.specs.Stages.{heard_in}
use Rattle.midi_stage.specs.Standing.{OnMidi}
use Rattle.midi_stage.proofs.PerformLemmas.{decided, log-nobodys, log-owned}
use Rattle.midi_stage.proofs.StageLemmas.{parts-here}
use Rattle.midi_stage.proofs.stage.MidiStage.log.Goals as goal

pub returns-in-Some-clause-value : goal.returns-in-Some-clause-value
returns-in-Some-clause-value c =
    go (decided last c.self.inside.period c.in-Some.parts are.stands c.args.birth) ∙ ap (λ all. log_at (heard_of (script_in c.self.inside.script.items) c.self.inside.period all) c.args.birth) (sym c.in-Some.is)
    ∙ ap (λ (seen : OnMidi). log_at seen.heard c.args.birth) c.self.view_is
  where
    last : Planned
    last = plan_in (script_in c.self.inside.script.items) c.self.inside.plan.items

    are : ArePartsOf (script_in c.self.inside.script.items) last c.in-Some.parts
    are = parts-here (script_in c.self.inside.script.items) last c.self.inside.parts c.in-Some.parts c.in-Some.is c.self.invariant.parts

    go : ((b : ℕ) × (owner_of c.in-Some.parts.owners.items b ≡ Some c.args.birth)) ⊎ ((b : ℕ) → owner_of c.in-Some.parts.owners.items b ≡ Some c.args.birth → ⊥)
        → c.log_of.result.now ≡ log_at (heard_in (staged_by c.self.inside.period c.in-Some.parts)) c.args.birth
    go (inl w) = c.log_of.ensures.owned w.0 w.1 ∙ sym (log-owned last c.self.inside.period c.in-Some.parts are.stands c.args.birth w.0 w.1)
    go (inr none) = c.log_of.ensures.nobodys none ∙ sym (log-nobodys last c.self.inside.period c.in-Some.parts are.stands c.args.birth none)
