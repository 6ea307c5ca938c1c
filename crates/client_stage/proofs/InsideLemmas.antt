-- The fields of a stage.
--     plan-noted      the plan that was noted
--     whole      what stays true of them, by the plan
use Rattle.std.proofs.Common.{◌≡◌, ◌≤◌, List, [], ◌∷◌, length, sym, ap, subst, ◌∙◌}
use Rattle.std.specs.Vec.{vec_capacity}
use Rattle.session_model.specs.Samples.{silence}
use Rattle.cycle_plan.specs.Plans.{Planned}
use Rattle.client_stage.specs.Insides.{IsWhole, plan_in, staged_by}
use Rattle.stage_laws.specs.Standing.{StandsOn}
use Rattle.client_stage.specs.declared.stage.Stage.TheInside.{Inside}

pub plan-noted : (noted : List (Unit {0} × Planned)) (plan : Planned) → noted ≡ (tt, plan) ∷ [] → plan_in noted ≡ plan
plan-noted noted plan e = ap plan_in e

pub whole : {G : Type 0} (s : Inside G) (plan : Planned) → s.plan.items ≡ (tt, plan) ∷ [] → StandsOn (staged_by s.parts s.ensemble.nodes plan.nodes) plan → s.parts.number ≡ length plan.changes → 512 ≤ vec_capacity s.parts.last → length s.parts.wiring.heard ≤ 512
    → s.silence.items ≡ silence s.parts.room → IsWhole s
whole s plan noted stands number places heard silent = record {
  stands = subst (λ p. StandsOn (staged_by s.parts s.ensemble.nodes p.nodes) p) (sym (plan-noted s.plan.items plan noted)) stands;
  number = number ∙ ap (λ (p : Planned). length p.changes) (sym (plan-noted s.plan.items plan noted));
  places = places;
  heard = heard;
  silence = silent;
}
