-- What contracts see of a client's bench.
--     Remembered      what it remembers from one play to the next
--     Seen      a bench: what it remembers, and its rooms by place
--     own_scores standing, own_sounds sound standing      scores that have its guest's at its place, and what is played by them
--     task_in sounds kept turn, bench_in sounds kept      its task, and it as a bench of the program's sounds
--     kept_after sound kept given, kept_gives sound kept given place      what it remembers behind one play, and what it gives over its outgoing link of this place
--     HasScores scores kept      these are the scores that it plays by
--     new_bench kind period, cleared bench, rested bench      a new bench, one whose work is taken, and one that gives nothing either
--     moved_to moment period turn      a task at another moment
--     MayPlay standing turn      what a bench can play
use Rattle.std.specs.Prelude.{◌≡◌, ℕ, suc, ◌+◌, ◌<◌, ◌≤◌, ◌^◌, List, [], length, map, replicate, ℤ, Option, Some, None, option_map, slice_index_or, Bool, is_some, count_by, nat_lt, if◌then◌else◌}
use Rattle.std.specs.Option.{option_map_or}
use Rattle.activation.specs.jack_types.specs.declared.kinds.Kind.{Kind}
use Rattle.activation.specs.jack_types.specs.declared.kinds.Kind.TheVariants.{Pass, Guest}
use Rattle.activation.specs.jack_types.specs.declared.moments.Moment.{Moment}
use Rattle.activation.specs.session_model.specs.Benches.{Task, Bench, Signal, bench_after, bench_gives}
use Rattle.activation.specs.session_model.specs.Kinds.{Sound, first}
use Rattle.activation.specs.session_model.specs.Samples.{below}
use Rattle.client_kinds.specs.Scores.{Score}
use Rattle.client_kinds.specs.Standings.{Standing, HasGuest, HasScore}
use Rattle.client_benches.specs.declared.benches.Stint.{Stint}
use Rattle.client_benches.specs.declared.values.Route.{Route}
use Rattle.client_benches.specs.declared.wires.Wire.{Wire}
use Rattle.client_benches.specs.Routes.{routes_on}
use Rattle.client_benches.specs.Wires.{parts_into}

-- the client's kind and memory, its work in a cycle unless it is idle, the connections into it and out of it in the order of making, and what it got and gave when it was last played
pub record Remembered : Type 0 where
  pub standing : Standing
  pub turn : Option Stint
  pub wires : List Wire
  pub routes : List Route
  pub sounds : List (List ℤ)
  pub audio : List (List ℤ)

-- by place of an outgoing link its room, if it is there, with what lies in it
pub record Seen : Type 0 where
  pub kept : Remembered
  pub rooms : List (Option (List Signal))

abbrev pub room_at : Seen → ℕ → Option (List Signal)
room_at seen place = slice_index_or seen.rooms place None

abbrev pub has_room_at : Seen → ℕ → Bool
has_room_at seen place = is_some (room_at seen place)

abbrev pub value_in : Seen → ℕ → List Signal
value_in seen place = option_map_or (λ value. value) (room_at seen place) []

-- of all guests' scores a bench knows its own guest's
abbrev pub own_scores : Standing → List Score
own_scores standing = scores_by standing.kind
  where
    scores_by : Kind → List Score
    scores_by (Guest guest) = option_map_or (λ score. replicate (suc guest) score) standing.score []
    scores_by _ = []

abbrev pub own_sounds : (Score → Sound) → Standing → List Sound
own_sounds sound standing = map sound (own_scores standing)

-- there is no MIDI
abbrev pub task_in : List Sound → Remembered → Stint → Task
task_in sounds kept turn = record {
  scores = sounds;
  list = [];
  kind = kept.standing.kind;
  moment = turn.moment;
  frames = turn.ports.period;
  audio_parts = map (parts_into kept.wires) (below turn.ports.inputs);
  midi_parts = [];
  audio_count = turn.ports.outputs;
  midi_count = 0;
  routes = map (routes_on kept.routes) (below turn.links);
}

abbrev pub bench_in : List Sound → Remembered → Bench
bench_in sounds kept = record {
  task = option_map (task_in sounds kept) kept.turn;
  memory = kept.standing.memory;
  sounds = kept.sounds;
  notes = [];
  audio = kept.audio;
  midi = [];
}

abbrev pub own_bench : (Score → Sound) → Remembered → Bench
own_bench sound kept = bench_in (own_sounds sound kept.standing) kept

-- the memory of a bench behind one play, and what it got and gave; all else stays
abbrev pub kept_after : (Score → Sound) → Remembered → List (List Signal) → Remembered
kept_after sound kept given =
    let after = bench_after (own_bench sound kept) given in
    record kept { standing = record kept.standing { memory = after.memory }; sounds = after.sounds; audio = after.audio }

abbrev pub kept_gives : (Score → Sound) → Remembered → List (List Signal) → ℕ → List Signal
kept_gives sound kept given place = bench_gives (own_bench sound kept) given place

-- of a bench that has a task, the scores of the program's guests have its guest's at its place
abbrev pub HasScores : List Score → Remembered → Type 0
HasScores scores kept = (turn : Stint) → kept.turn ≡ Some turn → HasScore kept.standing scores

abbrev pub new_standing : Kind → ℕ → Standing
new_standing kind period = record { kind = kind; period = period; score = None; memory = first [] kind }

-- a bench that never played: in its kind's first memory, idle, with no wire, no route and no room
abbrev pub new_bench : Kind → ℕ → Seen
new_bench kind period = record {
  kept = record { standing = new_standing kind period; turn = None; wires = []; routes = []; sounds = []; audio = [] };
  rooms = replicate 64 None;
}

-- the task of a later cycle
abbrev pub moved_to : Moment → ℕ → Stint → Stint
moved_to moment period turn = record turn { moment = moment; ports = record turn.ports { period = period } }

-- idle, with no wire, no route and no room; what it played last stays
abbrev pub cleared : Seen → Seen
cleared seen = record { kept = record seen.kept { turn = None; wires = []; routes = [] }; rooms = replicate 64 None }

-- cleared, and what it got and gave last is gone
abbrev pub rested : Seen → Seen
rested seen = record (cleared seen) { kept = record (cleared seen).kept { sounds = []; audio = [] } }

-- how many rooms it has for links
unfoldable pub room_count : Seen → ℕ
room_count seen = count_by (has_room_at seen) (below 64)

-- each room that is there holds its place's value, nothing from place `links` on
abbrev pub AreFilled : List (Option (List Signal)) → List (Option (List Signal)) → ℕ → (ℕ → List Signal) → Type 0
AreFilled old new links value = (place : ℕ) → slice_index_or new place None ≡ option_map (λ _. if nat_lt place links then value place else []) (slice_index_or old place None)

-- what the bench of nobody remembers
abbrev pub nobody : Remembered
nobody = (new_bench Pass 0).kept

-- a guest's bench has its guest, and moments, periods and ports are in range
pub record MayPlay (standing : Standing) (turn : Stint) : Type 0 where
  pub guest : HasGuest standing.kind standing.score
  pub rate : 8000 ≤ turn.moment.rate
  pub frames : turn.moment.frame + turn.ports.period < 2 ^ 32
  pub period : turn.ports.period ≤ standing.period
  pub inputs : turn.ports.inputs ≤ 16
  pub outputs : turn.ports.outputs ≤ 16
