-- What plays a cycle, as contracts see it.
--     seats_of team      how many seats there are
--     ensembled_of means      how many nodes and how many seats it has
--     IsReadyTeam team      the team is between two cycles, and its thieves have a deque for each seat
--     IsReady means      it is between two cycles, and the team, if there is one, has as many nodes
use Rattle.std.specs.Prelude.{◌≡◌, ◌≤◌, ℕ, [], Option, None, Some, IfSome, vec_capacity}
use Rattle.bench_crew.specs.declared.ensembles.Means.{Means}
use Rattle.bench_crew.specs.declared.ensembles.Team.{Team}
use Rattle.bench_crew.specs.Ensembles.{Ensembled, AreReady, HaveDeques}

abbrev pub seats_of : {G : Type 0} → Option (Team G) → ℕ
seats_of None = 1
seats_of (Some team) = team.crew.seats

abbrev pub ensembled_of : {G : Type 0} → Means G → Ensembled
ensembled_of means = record { nodes = means.sources.nodes; seats = seats_of means.team }

abbrev pub IsReadyTeam : {G : Type 0} → Team G → Type 0
IsReadyTeam team = AreReady team.crew.board.shared.table_id team.crew.links.items team.crew.nodes team.crew.seats team.seats.items × HaveDeques team.crew.seats team.thieves

pub record IsReady {G : Type 0} (means : Means G) : Type 0 where
  pub empty : means.given.items ≡ []
  pub roomy : 512 ≤ vec_capacity means.given
  pub team : IfSome means.team (λ team. (team.crew.nodes ≡ means.sources.nodes) × IsReadyTeam team)
