-- The fields of a stage, and what stays true of them. No public clause cites this module.
--     no_plan      a plan of nothing, for no device
--     plan_in noted      the plan that was noted last
--     staged_by parts crew nodes      a stage by its parts
--     seen_of stage      what contracts see
--     IsWhole stage      what stays true of its fields
use Rattle.std.specs.Prelude.{◌≡◌, ℕ, ◌≤◌, ⊤, List, [], length, slice_index_or, vec_capacity, None}
use Rattle.jack_types.specs.declared.ports.Client.{Client}
use Rattle.session_model.specs.Samples.{silence}
use Rattle.cycle_plan.specs.Plans.{Planned}
use Rattle.stage_laws.specs.Stages.{Staged}
use Rattle.stage_laws.specs.Standing.{OnStage, StandsOn}
use Rattle.client_stage.specs.declared.parts.Parts.{Parts}
use Rattle.client_stage.specs.declared.stage.Stage.TheInside.{Inside}

abbrev no_plan : Planned
no_plan = record {
  base = record { capture = 0; playback = 0 };
  changes = [];
  network = record { held = record { clients = []; ports = []; client_room = 0; port_room = 0 }; set = record { edges = []; room = 0 }; master = None; timeout = None };
  nodes = [];
  links = [];
}

-- only proofs read what is noted
abbrev pub plan_in : List (⊤ × Planned) → Planned
plan_in noted = (slice_index_or noted 0 (tt, no_plan)).1

abbrev pub staged_by : {G : Type 0} → Parts G → ℕ → List Client → Staged
staged_by parts crew nodes = record {
  racked = parts.rack;
  owned = parts.owners;
  crew = crew;
  room = parts.room;
  wiring = parts.wiring;
  last = parts.last.items;
  nodes = nodes;
  period = parts.period;
  is_staffed = parts.is_staffed;
}

abbrev pub seen_of : {G : Type 0} → Inside G → OnStage
seen_of s = record { staged = staged_by s.parts s.ensemble.nodes (plan_in s.plan.items).nodes; plan = plan_in s.plan.items }

pub record IsWhole {G : Type 0} (s : Inside G) : Type 0 where
  pub stands : StandsOn (seen_of s).staged (seen_of s).plan
  pub number : s.parts.number ≡ length (seen_of s).plan.changes
  pub places : 512 ≤ vec_capacity s.parts.last
  pub heard : length s.parts.wiring.heard ≤ 512
  pub silence : s.silence.items ≡ silence s.parts.room
