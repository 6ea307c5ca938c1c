-- What the wires of a bench have to bring.
--     HasSource at nodes origin samples      these are the samples of what comes from an origin in a cycle
--     HasSources at nodes joints n sources      so they are of each joint of a node
use Rattle.std.specs.Prelude.{◌≡◌, ℕ, ◌<◌, ⊤, List, length, ℤ}
use Rattle.session_model.specs.Benches.{Known}
use Rattle.session_model.specs.Cycles.{Settled}
use Rattle.session_model.specs.State.{OpenClient}
use Rattle.client_tasks.specs.Tasks.{joint_at}
use Rattle.event_laws.specs.client_wiring.specs.Wirings.{part_from}
use Rattle.event_laws.specs.client_wiring.specs.declared.joints.Joint.{Joint}
use Rattle.event_laws.specs.client_wiring.specs.declared.joints.Origin.{Origin}
use Rattle.event_laws.specs.client_wiring.specs.declared.joints.Origin.TheVariants.{Handed}

-- what is handed over a link needs none
abbrev pub HasSource : Settled → List OpenClient → Origin → List ℤ → Type 0
HasSource at nodes (Handed _ _) samples = ⊤
HasSource at nodes origin samples = part_from at nodes origin ≡ Known samples

-- source i is that of joint i
abbrev pub HasSources : Settled → List OpenClient → List Joint → ℕ → (ℕ → List ℤ) → Type 0
HasSources at nodes joints n sources = (i : ℕ) → i < length joints → (joint_at joints i).node ≡ n → HasSource at nodes (joint_at joints i).origin (sources i)
