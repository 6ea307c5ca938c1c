-- What feedback edges give, by the births of ports.
--     GoesOn last now      a plan's changes go on from another's
--     kept_audio      what an output of a node of a plan's gave in the last cycle
--     SetsFeedback last now      what the wirings of both say of that
use Rattle.std.specs.Prelude.{◌≡◌, ℕ, ◌<◌, ◌==◌, Contains, List, length, slice_index_or, ℤ, if◌then◌else◌}
use Rattle.cycle_plan.specs.graph_word.specs.Publications.{IsFront}
use Rattle.session_model.specs.Benches.{Bench, node_at, outputs_of}
use Rattle.session_model.specs.Cycles.{Settled}
use Rattle.session_model.specs.Driving.{kept_from}
use Rattle.session_model.specs.Samples.{silence}
use Rattle.cycle_plan.specs.port_registry.specs.Registered.{open_clients}
use Rattle.cycle_plan.specs.Plans.{IsPlanned, Planned, state_of_plan}
use Rattle.client_wiring.specs.declared.joints.Given.{Given}
use Rattle.client_wiring.specs.declared.joints.Joint.{Joint}
use Rattle.client_wiring.specs.declared.joints.Origin.TheVariants.{Kept}
use Rattle.client_wiring.specs.Wirings.{output_name, wired_of}

-- two plans for one device, of which the second's changes go on from the first's
pub record GoesOn (last now : Planned) : Type 0 where
  pub planned_last : IsPlanned last
  pub planned : IsPlanned now
  pub base : now.base ≡ last.base
  pub front : IsFront last.changes now.changes

-- what a feedback edge from this output of a node gives in a cycle of `now` and of this period, where these benches played `last` in a cycle of that period
abbrev pub kept_audio : Planned → Planned → ℕ → Settled → (ℕ → Bench) → ℕ → ℕ → ℕ → List ℤ
kept_audio last now last_period at benches frames n output =
    (kept_from last_period (state_of_plan last) (outputs_of at (open_clients last.nodes) benches) (state_of_plan now) frames).audio (output_name (state_of_plan now) (open_clients now.nodes) n output)

-- a kept origin of `now` gives silence where no output of `last` has its port's birth; else it gives what that output gave, if the period stays, and the output's client is the origin's
pub record SetsFeedback (last now : Planned) : Type 0 where
  pub silent : (joint : Joint) (n output birth : ℕ) → Contains (wired_of now).joints joint → joint.origin ≡ Kept n output birth
      → ((given : Given) → Contains (wired_of last).given given → given.birth ≡ birth → ⊥)
      → (last_period frames : ℕ) (at : Settled) (benches : ℕ → Bench) → at.graph ≡ state_of_plan last → kept_audio last now last_period at benches frames n output ≡ silence frames
  pub kept : (joint : Joint) (n output birth : ℕ) → Contains (wired_of now).joints joint → joint.origin ≡ Kept n output birth
      → (given : Given) → Contains (wired_of last).given given → given.birth ≡ birth
      → (last_period frames : ℕ) (at : Settled) (benches : ℕ → Bench) → at.graph ≡ state_of_plan last
      → kept_audio last now last_period at benches frames n output ≡ (if last_period == frames then slice_index_or (benches given.node).audio given.output (silence at.frames) else silence frames)
  pub client : (joint : Joint) (n output birth : ℕ) → Contains (wired_of now).joints joint → joint.origin ≡ Kept n output birth
      → (given : Given) → Contains (wired_of last).given given → given.birth ≡ birth
      → (given.node < length last.nodes) × (n < length now.nodes) × ((node_at (open_clients last.nodes) given.node).birth ≡ (node_at (open_clients now.nodes) n).birth)
