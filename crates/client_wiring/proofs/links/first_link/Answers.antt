use Rattle.std.proofs.Common.{arith, length, sym, ◌∙◌}
use Rattle.std.proofs.lemmas.List.Sums.{position_or_len_is}
use Rattle.session_model.specs.Activation.{no_link}
use Rattle.cycle_plan.specs.Layouts.{same_link}
use Rattle.client_wiring.specs.Tables.{link_numbered}
use Rattle.client_wiring.proofs.links.first_link.Goals as goal

pub returns-then-joins-clause-place : goal.returns-then-joins-clause-place
returns-then-joins-clause-place c =
    sym (position_or_len_is (same_link (link_numbered c.args.from c.args.to)) c.args.links.now c.loop-place.place no_link (omega arith)
    (λ k h. c.loop-place.invariant k no_link h)
    (λ h. sym c.joins.ensures ∙ c.if-joins.true))

pub returns-clause-place : goal.returns-clause-place
returns-clause-place c =
    sym (position_or_len_is (same_link (link_numbered c.args.from c.args.to)) c.args.links.now (length c.args.links.now) no_link (omega arith)
    (λ k h. c.loop-place.invariant k no_link (omega arith))
    (λ h. absurd (omega (arith, h))))
