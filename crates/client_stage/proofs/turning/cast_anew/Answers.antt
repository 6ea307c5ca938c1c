use Rattle.std.proofs.Common.{◌≡◌, ◌≤◌, ap, arith, length, subst, ◌∙◌}
use Rattle.client_wiring.specs.Wirings.{Wired, wired_of}
use Rattle.client_tasks.proofs.PlanLemmas.{few-joints}
use Rattle.client_stage.proofs.turning.cast_anew.Goals as goal

pub place_last-requires : goal.place_last-requires
place_last-requires g c =
    let many : length c.joints.result.now ≡ length (wired_of c.args.plan.now).joints = ap length (c.joints.ensures ∙ ap (λ (w : Wired). w.joints) c.fill.ensures.wired) in
    let edges : length c.args.plan.now.network.set.edges ≤ 512 = subst (λ n. n ≤ 512) (ap length c.edges-edges.ensures.value) c.edges-edges.ensures.few in
    omega (arith, many, few-joints c.args.plan.now c.edges-edges.ensures.planned edges, c.requires.places)

pub returns-clause-periods : goal.returns-clause-periods
returns-clause-periods g c = c.cast-parts.ensures.periods c.args.parts.now.room c.requires.periods
