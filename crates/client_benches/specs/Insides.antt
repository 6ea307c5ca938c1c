-- The fields of a client's bench, and what stays true of them. No public clause cites this module.
use Rattle.std.specs.Prelude.{◌≡◌, ℕ, ◌*◌, ◌≤◌, List, [], ℤ, length, All, Option, Some, None, slice_index_or, vec_capacity}
use Rattle.std.specs.Global.{Vec}
use Rattle.activation.specs.session_model.specs.Benches.{Signal}
use Rattle.client_kinds.specs.Buffers.{buffers_of}
use Rattle.client_kinds.specs.Standings.{Standing}
use Rattle.client_kinds.specs.declared.guests.Shape.{Shape}
use Rattle.client_kinds.specs.port_mixer.specs.Sums.{Mix}
use Rattle.client_benches.specs.declared.benches.Stint.{Stint}
use Rattle.client_benches.specs.declared.values.Route.{Route}
use Rattle.client_benches.specs.declared.wires.Wire.{Wire}
use Rattle.client_benches.specs.Routes.{HasOutput}
use Rattle.client_benches.specs.Seen.{Seen, MayPlay}

abbrev pub seen_of : Standing → Option Stint → List Wire → List Route → Shape → List ℤ → List ℤ → List (Option (List Signal)) → Seen
seen_of standing turn wires routes played input output rooms = record {
  kept = record {
    standing = standing;
    turn = turn;
    wires = wires;
    routes = routes;
    sounds = buffers_of played.inputs played.period input;
    audio = buffers_of played.outputs played.period output;
  };
  rooms = rooms;
}

-- what was played last lies within the buffers
pub record IsPlayedShape (period : ℕ) (played : Shape) : Type 0 where
  pub inputs : played.inputs ≤ 16
  pub outputs : played.outputs ≤ 16
  pub within : played.period ≤ period

-- room for the greatest period, for 512 wires and routes, and for 64 links
pub record HasAllRoom (period : ℕ) (mixer : Mix) (padded input output : List ℤ) (wires : Vec Wire) (routes : Vec Route) (rooms : List (Option (List Signal))) : Type 0 where
  pub most : period ≤ 4096
  pub sums : period ≤ mixer.room
  pub silence : length padded ≡ period
  pub heard : length input ≡ 16 * period
  pub sounded : length output ≡ 16 * period
  pub few_wires : (length wires.items ≤ 512) × (512 ≤ vec_capacity wires)
  pub few_routes : (length routes.items ≤ 512) × (512 ≤ vec_capacity routes)
  pub places : length rooms ≡ 64

-- places of links from `reached` on have no room
pub record IsReached (reached : ℕ) (rooms : List (Option (List Signal))) : Type 0 where
  pub within : reached ≤ 64
  pub beyond : (place : ℕ) → reached ≤ place → slice_index_or rooms place None ≡ None

-- a task can be played, its routes name its outputs, and nothing is logged
pub record IsSound (standing : Standing) (turn : Option Stint) (routes : List Route) : Type 0 where
  pub task : (now : Stint) → turn ≡ Some now → MayPlay standing now
  pub outputs : (now : Stint) → turn ≡ Some now → All (HasOutput now.ports.outputs) routes
  pub log : standing.memory.log ≡ []
