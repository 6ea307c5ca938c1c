use Rattle.std.proofs.Common.{ap, subst, sym, ◌∙◌}
use Rattle.session_model.specs.Grammar.{IsScript}
use Rattle.session_model.specs.Histories.{accepted}
use Rattle.control_desk.specs.Desks.{Desk}
use Rattle.serial_lanes.proofs.SerialLemmas.{group-done}
use Rattle.serial_lanes.proofs.StepLemmas.{group-published, same-steps}
use Rattle.serial_lanes.proofs.lanes.begin_group.Goals as goal

pub returns-clause-done : goal.returns-clause-done
returns-clause-done c =
    group-done c.begin.new.self c.run_lane.new.desk (subst IsScript (sym (ap (λ (d : Desk). d.script) c.begin.ensures)) c.kept_by_type.ensures.script) c.run_lane.ensures.runs.calls c.run_lane.ensures.runs.steps

pub returns-clause-published : goal.returns-clause-published
returns-clause-published c =
    group-published c.run_lane.ensures.runs.calls c.begin.new.self c.run_lane.new.desk c.run_lane.ensures.runs.steps
    (ap (λ (d : Desk). d.publishing.all) c.begin.ensures ∙ c.kept_by_type.ensures.desk.published ∙ ap (λ (d : Desk). accepted d.history) (sym c.begin.ensures))
    ∙ ap (λ (d : Desk). record d.publishing { all = accepted c.run_lane.new.desk.history; held = c.run_lane.new.desk.publishing.held }) c.begin.ensures

pub returns-clause-same : goal.returns-clause-same
returns-clause-same c =
    same-steps c.run_lane.ensures.runs.calls c.begin.new.self 0 c.run_lane.new.desk c.run_lane.ensures.runs.steps
    ∙ ap (λ (d : Desk). record d { history = c.run_lane.new.desk.history; publishing = c.run_lane.new.desk.publishing }) c.begin.ensures
