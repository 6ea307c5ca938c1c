-- What is known of the wires before the clients play.
--     last_place given joint      at which place of its client's outputs a kept output stood in the cycle before
--     KeepsFrom benches origin      the output that is kept is of one of so many benches
--     with_wires wires bench      a bench with these wires
--     AreJoints nodes joints      the joints of a plan of so many nodes
--     known_at rack channels silence last joints i      what joint i has its samples from, where they are known
use Rattle.std.specs.Prelude.{ℕ, ◌<◌, ◌≤◌, ◌==◌, ⊤, All, length, List, [], ℤ, find, Option, Some, None, option_map, slice_index_or}
use Rattle.bench_rack.specs.client_benches.specs.Seen.{Seen}
use Rattle.bench_rack.specs.client_benches.specs.declared.wires.Wire.{Wire}
use Rattle.client_wiring.specs.declared.joints.Given.{Given}
use Rattle.client_wiring.specs.declared.joints.Joint.{Joint}
use Rattle.client_wiring.specs.declared.joints.Origin.{Origin}
use Rattle.client_wiring.specs.declared.joints.Origin.TheVariants.{Handed, Kept, Captured}
use Rattle.bench_rack.specs.Racks.{Racked, bench_at}
use Rattle.client_tasks.specs.Tasks.{joint_at}

-- the output of a birth among those that were given
abbrev pub output_born : List Given → ℕ → Option ℕ
output_born given birth = option_map (λ (one : Given). one.output) (find (λ (one : Given). one.birth == birth) given)

-- a kept output is told by its birth, which stays where its place does not
abbrev pub last_from : List Given → Origin → Option ℕ
last_from given (Kept node output birth) = output_born given birth
last_from given _ = None

abbrev pub last_place : List Given → Joint → Option ℕ
last_place given joint = last_from given joint.origin

-- what an output gave when its bench was last played, nothing where there was no such output; silence where no place is told
abbrev pub kept_at : List (List ℤ) → List ℤ → Option ℕ → List ℤ
kept_at audio silence (Some place) = slice_index_or audio place []
kept_at audio silence None = silence

-- a captured channel, or what was kept of an output; what is handed over is not known
abbrev pub known_by : Racked → List (List ℤ) → List ℤ → Option ℕ → Origin → List ℤ
known_by rack channels silence last (Captured channel) = slice_index_or channels channel []
known_by rack channels silence last (Kept node output birth) = kept_at (bench_at rack node).kept.audio silence last
known_by rack channels silence last (Handed link connection) = []

abbrev pub known_at : Racked → List (List ℤ) → List ℤ → List (Option ℕ) → List Joint → ℕ → List ℤ
known_at rack channels silence last joints i = known_by rack channels silence (slice_index_or last i None) (joint_at joints i).origin

-- where a kept output is, there is a bench
abbrev pub KeepsFrom : ℕ → Origin → Type 0
KeepsFrom benches (Kept node output birth) = node < benches
KeepsFrom benches _ = ⊤

-- a bench with these wires
abbrev pub with_wires : List Wire → Seen → Seen
with_wires wires bench = record bench { kept = record bench.kept { wires = wires } }

-- the joints of a plan of so many nodes
pub record AreJoints (nodes : ℕ) (joints : List Joint) : Type 0 where
  pub few_nodes : nodes ≤ 64
  pub few : length joints ≤ 512
  pub placed : All (λ (joint : Joint). joint.node < nodes) joints
  pub kept : All (λ (joint : Joint). KeepsFrom nodes joint.origin) joints
