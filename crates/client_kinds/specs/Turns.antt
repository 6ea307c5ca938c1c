-- What a guest gives in a cycle.
--     turn_by sound score numbers moment ports input      its turn, by its score and numbers, on planar inputs
--     IsPlayed ports output turn      the planar outputs are what the turn gives, fitted to the ports
use Rattle.std.specs.Prelude.{◌≡◌, List, ℤ}
use Rattle.port_mixer.specs.jack_types.specs.declared.moments.Moment.{Moment}
use Rattle.port_mixer.specs.session_model.specs.Kinds.{GuestTurn, Sound, fitted}
use Rattle.client_kinds.specs.declared.guests.Shape.{Shape}
use Rattle.client_kinds.specs.Buffers.{buffers_of}
use Rattle.client_kinds.specs.Scores.{Score}

abbrev pub turn_by : (Score → Sound) → Score → List ℤ → Moment → Shape → List ℤ → GuestTurn
turn_by sound score numbers moment ports input = (sound score).turn moment ports.outputs ports.period numbers (buffers_of ports.inputs ports.period input)

abbrev pub IsPlayed : Shape → List ℤ → GuestTurn → Type 0
IsPlayed ports output turn = buffers_of ports.outputs ports.period output ≡ fitted ports.period ports.outputs turn.outputs
