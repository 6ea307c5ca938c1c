-- What contracts see of a stage.
--     Staged      what is seen of it
--     bench_of sounding staged n      the bench of a node, without MIDI
--     IsStaffed staged plan      each client of a plan has its bench, which is set for it
use Rattle.std.specs.Prelude.{◌≡◌, ℕ, ◌<◌, Bool, List, length, ℤ, Option, map}
use Rattle.jack_types.specs.declared.moments.Moment.{Moment}
use Rattle.jack_types.specs.declared.ports.Client.{Client}
use Rattle.session_model.specs.Benches.{Bench}
use Rattle.session_model.specs.Kinds.{Sound}
use Rattle.client_kinds.specs.Scores.{Score}
use Rattle.port_registry.specs.Registered.{open_clients}
use Rattle.cycle_plan.specs.Plans.{Planned}
use Rattle.client_benches.specs.Seen.{bench_in}
use Rattle.client_wiring.specs.Wirings.{Wired}
use Rattle.bench_rack.specs.Racks.{Racked, bench_at}
use Rattle.client_tasks.specs.Fillings.{AreJoints}
use Rattle.client_tasks.specs.Tasks.{AreSet, HasRooms, widths_at}
use Rattle.client_seats.specs.Owners.{Owned}
use Rattle.client_seats.specs.Seatings.{HasBench}

-- the benches and who owns them; how many nodes the crew has, and the greatest period; how the clients of the last plan are wired, and at which
-- places its kept outputs stood in the cycle before; the nodes that played last, and that cycle's period, 0 before the first; whether each of their
-- clients has a bench
pub record Staged : Type 0 where
  pub racked : Racked
  pub owned : Owned
  pub crew : ℕ
  pub room : ℕ
  pub wiring : Wired
  pub last : List (Option ℕ)
  pub nodes : List Client
  pub period : ℕ
  pub is_staffed : Bool

abbrev pub bench_of : (sounding : Score → Sound) → Staged → ℕ → Bench
bench_of sounding staged n = bench_in (map sounding staged.owned.scores) (bench_at staged.racked n).kept

-- the benches of the plan's nodes are their clients' and set for the cycle that was played, with as many outputs as their clients
pub record IsStaffed (staged : Staged) (plan : Planned) : Type 0 where
  pub nodes : open_clients staged.nodes ≡ open_clients plan.nodes
  pub has : (n : ℕ) → n < length plan.nodes → HasBench (open_clients plan.nodes) staged.racked staged.owned n n
  pub moment : Moment
  pub sources : ℕ → List ℤ
  pub set : AreSet staged.wiring plan.links moment staged.period sources (length plan.nodes) staged.racked
  pub rooms : HasRooms plan.links staged.racked
  pub joints : AreJoints (length plan.nodes) staged.wiring.joints
  pub sounded : (n : ℕ) → n < length plan.nodes → length (bench_at staged.racked n).kept.audio ≡ (widths_at staged.wiring n).outputs
