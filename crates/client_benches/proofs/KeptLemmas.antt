-- What a bench remembers behind a play.
--     HasScore-own      a bench's own scores have its guest's at its place
--     play-scores      a kind plays the same by all scores that have its guest's
--     first-log, play-log      nothing is logged at first or by a play
--     midi-none      with no MIDI port nothing is played there
--     kept-played, gives-carried      a bench that mixed, played and carried is as after a play, and gives what it has to
--     kept-idle, gives-idle      an idle bench stays, and gives nothing
use Rattle.std.proofs.Common.{◌≡◌, ℕ, zero, suc, ◌<◌, Bool, true, false, List, [], ◌∷◌, ◌++◌, length, map, take, replicate, filter, ℤ, Option, Some, None, option_map, refl, sym, ◌∙◌, ap, ap₂, arith}
use Rattle.std.specs.Prelude.{slice_get, slice_index_or, ◌==◌, nat_lt, if◌then◌else◌}
use Rattle.std.specs.Option.{option_map_or}
use Rattle.std.proofs.lemmas.Bool.{leb-true, ltb-false}
use Rattle.std.proofs.lemmas.List.{get_or_past}
use Rattle.activation.specs.jack_types.specs.declared.kinds.Kind.{Kind}
use Rattle.activation.specs.jack_types.specs.declared.kinds.Kind.TheVariants.{Pass, Gain, Mix, Delay, Tone, Click, Meter, Guest, Disk, Midilog}
use Rattle.activation.specs.jack_types.specs.declared.moments.Moment.{Moment}
use Rattle.activation.specs.session_model.specs.Benches.{Bench, Signal, Task, mixed, task_turn, bench_played, handed, routed, audio_part}
use Rattle.activation.specs.session_model.specs.Cycles.{ClientPlayed}
use Rattle.activation.specs.session_model.specs.Kinds.{Memory, Sound, first, guest_played, guest_turn, input_at, midi_play, no_memory, play, silent}
use Rattle.activation.specs.session_model.specs.Samples.{below, mix}
use Rattle.activation.specs.session_laws.proofs.ActivationLemmas.{length-map_below, get_or-map_below}
use Rattle.activation.specs.session_laws.proofs.PlaceLemmas.{map-after}
use Rattle.client_kinds.specs.Scores.{Score}
use Rattle.client_kinds.specs.Standings.{Standing, HasScore}
use Rattle.client_benches.specs.declared.benches.Stint.{Stint}
use Rattle.client_benches.specs.declared.values.Route.{Route}
use Rattle.client_benches.specs.Routes.{carried_by, route_of, routes_on}
use Rattle.client_benches.specs.Seen.{Remembered, kept_after, kept_gives, own_bench, own_scores, own_sounds, task_in}
use Rattle.client_benches.specs.Wires.{inputs_of, parts_into}

score-there : (guest : ℕ) (score : Score) → slice_get (replicate (suc guest) score) guest ≡ Some score
score-there zero score = refl
score-there (suc guest) score = score-there guest score

pub HasScore-own : (standing : Standing) → HasScore standing (own_scores standing)
HasScore-own standing = go standing.kind standing.score
  where
    go : (kind : Kind) (score : Option Score) → HasScore (record standing { kind = kind; score = score }) (own_scores (record standing { kind = kind; score = score }))
    go (Guest guest) None = refl
    go (Guest guest) (Some score) = score-there guest score
    go Pass score = tt
    go (Gain factor shift) score = tt
    go Mix score = tt
    go (Delay frames) score = tt
    go (Tone half level) score = tt
    go (Click level) score = tt
    go Meter score = tt
    go (Disk disk) score = tt
    go _ score = tt

pub midi-none : (kind : Kind) (memory : Memory) (moment : Moment) (period : ℕ) → memory.log ≡ [] → (midi_play [] kind memory 0 moment period []).memory ≡ memory
midi-none Midilog memory moment period quiet = ap (λ log. record memory { log = take 4096 (log ++ []) }) quiet ∙ ap (λ log. record memory { log = log }) (sym quiet)
midi-none _ memory moment period quiet = refl

pub play-log : (scores : List Sound) (kind : Kind) (memory : Memory) (outputs : ℕ) (moment : Moment) (period : ℕ) (inputs : List (List ℤ)) → (play scores kind memory outputs moment period inputs).memory.log ≡ memory.log
play-log scores (Guest guest) memory outputs moment period inputs = go memory.is_dead
  where
    go : (dead : Bool)
        → (if dead then silent period outputs memory else guest_played period outputs memory (guest_turn (slice_get scores guest) moment outputs period memory.numbers inputs)).memory.log ≡ memory.log
    go true = refl
    go false = refl
play-log scores (Delay frames) memory outputs moment period inputs = refl
play-log scores (Tone half level) memory outputs moment period inputs = refl
play-log scores Meter memory outputs moment period inputs = refl
play-log scores (Disk disk) memory outputs moment period inputs = refl
play-log scores _ memory outputs moment period inputs = refl

pub first-log : (scores : List Sound) (kind : Kind) → (first scores kind).log ≡ []
first-log scores (Delay frames) = refl
first-log scores (Guest guest) = refl
first-log scores _ = refl

-- what a bench with this task gets, plays and gives
module _ (sound : Score → Sound) (kept : Remembered) (given : List (List Signal)) where
  abbrev bench_by : Option Stint → Bench
  bench_by turn = record (own_bench sound kept) { task = option_map (task_in (own_sounds sound kept.standing) kept) turn }

  abbrev after_by : Option Stint → Remembered
  after_by turn =
      let after = option_map_or (bench_played (bench_by turn) given) (bench_by turn).task (bench_by turn) in
      record kept { standing = record kept.standing { memory = after.memory }; sounds = after.sounds; audio = after.audio }

  abbrev gives_by : ℕ → Option Stint → List Signal
  gives_by place turn = option_map_or (handed (bench_by turn) given place) (bench_by turn).task []

  pub kept-idle : kept.turn ≡ None → kept ≡ kept_after sound kept given
  kept-idle idle = ap after_by (sym idle)

  pub gives-idle : (place : ℕ) → kept.turn ≡ None → [] ≡ kept_gives sound kept given place
  gives-idle place idle = ap (gives_by place) (sym idle)

  module _ (turn : Stint) where
    abbrev the_task : Task
    the_task = task_in (own_sounds sound kept.standing) kept turn

    abbrev sound_of : List (List ℤ) → List (List ℤ)
    sound_of sounds = (play (own_sounds sound kept.standing) kept.standing.kind kept.standing.memory turn.ports.outputs turn.moment turn.ports.period sounds).outputs

    abbrev memory_of : List (List ℤ) → Memory
    memory_of sounds = (play (own_sounds sound kept.standing) kept.standing.kind kept.standing.memory turn.ports.outputs turn.moment turn.ports.period sounds).memory

    mixed-is : inputs_of turn.ports.period kept.wires given turn.ports.inputs ≡ mixed the_task given
    mixed-is = sym (map-after (λ parts. mix turn.ports.period (map (audio_part given) parts)) (parts_into kept.wires) (below turn.ports.inputs))

    memory-is : (sounds : List (List ℤ)) → kept.standing.memory.log ≡ [] → sounds ≡ mixed the_task given → memory_of sounds ≡ (task_turn the_task kept.standing.memory given).memory
    memory-is sounds quiet is =
        ap memory_of is
        ∙ sym (midi-none kept.standing.kind (memory_of (mixed the_task given)) turn.moment turn.ports.period
        (play-log (own_sounds sound kept.standing) kept.standing.kind kept.standing.memory turn.ports.outputs turn.moment turn.ports.period (mixed the_task given) ∙ quiet))

    pub kept-played : (standing : Standing) (sounds audio : List (List ℤ)) → kept.turn ≡ Some turn → kept.standing.memory.log ≡ []
        → sounds ≡ inputs_of turn.ports.period kept.wires given turn.ports.inputs
        → standing ≡ record kept.standing { memory = memory_of sounds } → audio ≡ sound_of sounds
        → record kept { standing = standing; sounds = sounds; audio = audio } ≡ kept_after sound kept given
    kept-played standing sounds audio busy quiet heard stands plays =
        ap (λ (s : Standing). record kept { standing = s; sounds = sounds; audio = audio }) stands
        ∙ ap (λ (m : Memory). record kept { standing = record kept.standing { memory = m }; sounds = sounds; audio = audio }) (memory-is sounds quiet heard_is)
        ∙ ap (λ (xs : List (List ℤ)). record kept { standing = record kept.standing { memory = (task_turn the_task kept.standing.memory given).memory }; sounds = sounds; audio = xs }) (plays ∙ ap sound_of heard_is)
        ∙ ap (λ (xs : List (List ℤ)). record kept { standing = record kept.standing { memory = (task_turn the_task kept.standing.memory given).memory }; sounds = xs; audio = sound_of (mixed the_task given) }) heard_is
        ∙ ap after_by (sym busy)
      where
        heard_is : sounds ≡ mixed the_task given
        heard_is = heard ∙ mixed-is

    same-routed : (p q : ClientPlayed) (routes : List Route) → p.audio ≡ q.audio → map (routed turn.ports.period p) (map route_of routes) ≡ map (routed turn.ports.period q) (map route_of routes)
    same-routed p q [] same = refl
    same-routed p q (route ∷ routes) same =
        ap₂ (λ (one : Signal) (others : List Signal). one ∷ others)
        (ap (λ (xs : List (List ℤ)). record { audio = option_map_or (λ j. input_at turn.ports.period xs j) route.output []; midi = [] }) same)
        (same-routed p q routes same)

    routes_at : (place : ℕ) → (if nat_lt place turn.links then routes_on kept.routes place else []) ≡ slice_index_or the_task.routes place []
    routes_at place = go (nat_lt place turn.links) refl
      where
        go : (b : Bool) → nat_lt place turn.links ≡ b → (if b then routes_on kept.routes place else []) ≡ slice_index_or the_task.routes place []
        go true h = sym (get_or-map_below (routes_on kept.routes) turn.links place [] (leb-true (suc place) turn.links h))
        go false h = sym (get_or_past (map (routes_on kept.routes) (below turn.links)) place [] (omega (arith, ltb-false place turn.links h, length-map_below (routes_on kept.routes) turn.links)))

    pub gives-carried : (sounds audio : List (List ℤ)) (place : ℕ) → kept.turn ≡ Some turn → sounds ≡ inputs_of turn.ports.period kept.wires given turn.ports.inputs → audio ≡ sound_of sounds
        → (if nat_lt place turn.links then carried_by turn.ports.period audio place kept.routes else []) ≡ kept_gives sound kept given place
    gives-carried sounds audio place busy heard plays =
        outside (nat_lt place turn.links)
        ∙ ap (map (routed turn.ports.period played)) (routes_at place)
        ∙ ap (gives_by place) (sym busy)
      where
        played : ClientPlayed
        played = task_turn the_task kept.standing.memory given

        same : audio ≡ played.audio
        same = plays ∙ ap sound_of (heard ∙ mixed-is)

        outside : (b : Bool) → (if b then carried_by turn.ports.period audio place kept.routes else []) ≡ map (routed turn.ports.period played) (if b then routes_on kept.routes place else [])
        outside true = same-routed (record { audio = audio; midi = []; memory = no_memory }) played (filter (λ (route : Route). route.link == place) kept.routes) same
        outside false = refl
