-- What callers see of a guest.
--     Playing, Seated, Asked      a guest that plays; a seat; a seat, and what its guest was told
--     turn_of sound playing moment outputs period inputs      what it does on its inputs
--     seated_after seat playing turn      the seat behind a cycle
--     seat_outputs is_dead period outputs turn      what its outputs play
--     IsTold is_dead moment before after      it is told the moment, unless it is dead
use Rattle.std.specs.Prelude.{◌≡◌, ℕ, List, replicate, ℤ, Option, Some, Bool, true, false, not, ◌==◌, if◌then◌else◌}
use Rattle.std.specs.Option.{ForSome}
use Rattle.port_mixer.specs.jack_types.specs.declared.moments.Moment.{Moment}
use Rattle.port_mixer.specs.session_model.specs.Kinds.{GuestTurn, Sound, fitted}
use Rattle.port_mixer.specs.session_model.specs.Samples.{silence}
use Rattle.client_kinds.specs.Scores.{Score}

-- a guest's score, and the numbers that it remembers
pub record Playing : Type 0 where
  pub score : Score
  pub numbers : List ℤ

-- a guest, if there is one, and whether it answered other than 0
pub record Seated : Type 0 where
  pub playing : Option Playing
  pub is_dead : Bool

-- a seat, and the moment that its guest was told last, where it keeps that
pub record Asked : Type 0 where
  pub seated : Seated
  pub told : Option Moment

abbrev pub turn_of : (Score → Sound) → Playing → Moment → ℕ → ℕ → List (List ℤ) → GuestTurn
turn_of sound playing moment outputs period inputs = (sound playing.score).turn moment outputs period playing.numbers inputs

-- a dead guest is not called
abbrev pub seated_after : Seated → Playing → GuestTurn → Seated
seated_after seat playing turn =
    if seat.is_dead then seat
    else record { playing = Some (record playing { numbers = turn.numbers }); is_dead = not (turn.answer == 0) }

-- silence of a dead one, also in the cycle of its death
abbrev pub seat_outputs : Bool → ℕ → ℕ → GuestTurn → List (List ℤ)
seat_outputs is_dead period outputs turn =
    if is_dead then replicate outputs (silence period) else if turn.answer == 0 then fitted period outputs turn.outputs else replicate outputs (silence period)

-- a guest that lives is told the moment, and a dead one nothing
abbrev pub IsTold : Bool → Moment → Option Moment → Option Moment → Type 0
IsTold true moment before after = after ≡ before
IsTold false moment before after = ForSome after (λ told. told ≡ moment)
