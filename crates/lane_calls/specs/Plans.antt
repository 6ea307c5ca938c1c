-- What contracts see of a planned call.
--     plan_of planned      the call that the definitions plan
use Rattle.session_model.specs.Scripts.{Planned}
use Rattle.lane_calls.specs.declared.calls.PlannedCall.{PlannedCall}

abbrev pub plan_of : PlannedCall → Planned
plan_of planned = record { call = planned.call; stage = planned.stage; asked = planned.asked }
