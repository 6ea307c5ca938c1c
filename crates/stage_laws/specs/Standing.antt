-- What contracts see of a stage between two cycles.
--     OnStage      the stage, and the plan that it played last
--     EnoughLinks crew links      so many rooms are enough for the links between so many nodes
--     StandsBy staged plan      whose benches they are, whether each client has one or not
--     StandsOn staged plan      and, where each has one, what it is set to
use Rattle.std.specs.Prelude.{◌≡◌, ℕ, ◌+◌, ◌*◌, ◌≤◌, true, false, [], length, min, None}
use Rattle.port_registry.specs.Registered.{open_clients}
use Rattle.cycle_plan.specs.Plans.{IsPlanned, Planned}
use Rattle.client_benches.specs.Seen.{cleared}
use Rattle.client_wiring.specs.Wirings.{wired_of}
use Rattle.bench_rack.specs.Racks.{bench_at}
use Rattle.client_seats.specs.Seatings.{HavePeriod, IsRefused, IsSeating, standing_at}
use Rattle.stage_laws.specs.Known.{AreKnown}
use Rattle.stage_laws.specs.Stages.{IsStaffed, Staged}

pub record OnStage : Type 0 where
  pub staged : Staged
  pub plan : Planned

-- of n nodes at most n(n − 1)/2 pairs have a link, and at most 512, since there are no more connections
abbrev pub EnoughLinks : ℕ → ℕ → Type 0
EnoughLinks crew links = (n l : ℕ) → n ≤ crew → 2 * l + n ≤ n * n → l ≤ 512 → l ≤ links

-- the wiring is the plan's; the benches are a seating of clients that its changes opened; past the plan's nodes nobody has work, and past the crew nobody ever had;
-- where not each client of the plan has a bench, one of them can have none
pub record StandsBy (staged : Staged) (plan : Planned) : Type 0 where
  pub planned : IsPlanned plan
  pub wiring : staged.wiring ≡ wired_of plan
  pub nodes : staged.nodes ≡ plan.nodes
  pub seating : IsSeating staged.racked staged.owned
  pub known : AreKnown plan staged.racked staged.owned
  pub periods : HavePeriod staged.racked staged.room
  pub unfed : (p : ℕ) → (standing_at staged.racked p).memory.fed ≡ []
  pub unused : (p : ℕ) → length plan.nodes ≤ p → (bench_at staged.racked p).kept.turn ≡ None
  pub idle : (p : ℕ) → staged.crew ≤ p → cleared (bench_at staged.racked p) ≡ bench_at staged.racked p
  pub crew : staged.crew ≡ min (length staged.racked.benches) 64
  pub links : EnoughLinks staged.crew staged.racked.links
  pub room : staged.room ≤ 4096
  pub refused : staged.is_staffed ≡ false → IsRefused (open_clients plan.nodes) staged.racked staged.owned

pub record StandsOn (staged : Staged) (plan : Planned) : Type 0 where
  pub stands : StandsBy staged plan
  pub staffed : staged.is_staffed ≡ true → IsStaffed staged plan
