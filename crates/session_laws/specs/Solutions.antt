-- The equations of a cycle: each port gives what its client plays on what the other ports give.
--     Agree now other port      the two give the same at a port
--     Solves course at now      the equations hold at every port
--     Rises rank state      each direct edge goes from a lower to a higher rank
--     IsOneSolution course at now      these solve the equations, and no others do
use Rattle.std.specs.Prelude.{◌≡◌, ℕ, ◌<◌, false, List, Contains}
use Rattle.session_model.specs.jack_types.specs.Names.{client_part}
use Rattle.session_model.specs.jack_types.specs.declared.ports.Mark.TheVariants.{Direct}
use Rattle.session_model.specs.Courses.{Course}
use Rattle.session_model.specs.Cycles.{Signals, Settled, given}
use Rattle.session_model.specs.State.{State, Connection, is_system}

pub record Agree (now other : Signals) (port : List ℕ) : Type 0 where
  pub audio : now.audio port ≡ other.audio port
  pub midi : now.midi port ≡ other.midi port

abbrev pub Solves : Course → Settled → Signals → Type 0
Solves course at now = (port : List ℕ) → Agree now (given course at now) port

-- edges into the playback ports are left out: nothing goes on from there
abbrev pub Rises : (List ℕ → ℕ) → State → Type 0
Rises rank state =
    (edge : Connection) → Contains state.edges edge → edge.mark ≡ Direct → is_system (client_part edge.destination) ≡ false
    → rank (client_part edge.source) < rank (client_part edge.destination)

pub record IsOneSolution (course : Course) (at : Settled) (now : Signals) : Type 0 where
  pub solves : Solves course at now
  pub only : (other : Signals) → Solves course at other → (port : List ℕ) → Agree other now port
