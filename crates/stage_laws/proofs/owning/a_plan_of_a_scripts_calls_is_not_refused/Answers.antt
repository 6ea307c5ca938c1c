use Rattle.stage_laws.proofs.RefusedLemmas.{not-refused}
use Rattle.stage_laws.proofs.owning.a_plan_of_a_scripts_calls_is_not_refused.Goals as goal

pub returns : goal.returns
returns c script plan rack owned of planned seating known made enough refused =
    not-refused script plan rack owned of planned seating known (c.one_client_of_each.ensures plan.base.capture plan.base.playback plan.changes) made enough refused
