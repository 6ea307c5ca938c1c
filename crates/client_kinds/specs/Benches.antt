-- What callers see of a bench, from its parts.
use Rattle.std.specs.Prelude.{[], option_map}
use Rattle.std.specs.Option.{option_map_or}
use Rattle.client_kinds.specs.Seats.{Playing, Seated}
use Rattle.client_kinds.specs.Standings.{Standing}
use Rattle.client_kinds.specs.Voices.{Voiced}

-- a guest's numbers and its health are parts of the memory
abbrev pub standing : Voiced → Seated → Standing
standing voice seat = record {
  kind = voice.kind;
  period = voice.period;
  score = option_map (λ (playing : Playing). playing.score) seat.playing;
  memory = record voice.memory { numbers = option_map_or (λ (playing : Playing). playing.numbers) seat.playing []; is_dead = seat.is_dead };
}
