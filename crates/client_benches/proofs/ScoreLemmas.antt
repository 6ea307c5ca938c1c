-- A bench plays as one that knows all scores of the program.
--     play-scores      a kind plays the same by all lists that have its guest's score
--     after-scores, gives-scores      behind a play, and over a link
--     sequential-scores, IsSequential-scores      over a graph
use Rattle.std.proofs.Common.{◌≡◌, ℕ, zero, suc, true, false, List, [], map, ℤ, Option, Some, None, option_map, refl, sym, ◌∙◌, ap}
use Rattle.std.specs.Prelude.{slice_index_or, if◌then◌else◌}
use Rattle.activation.specs.jack_types.specs.declared.kinds.Kind.{Kind}
use Rattle.activation.specs.jack_types.specs.declared.kinds.Kind.TheVariants.{Guest, Midiplay, Midithru, Midilog}
use Rattle.activation.specs.jack_types.specs.declared.moments.Moment.{Moment}
use Rattle.activation.specs.jack_types.specs.declared.ports.Link.{Link}
use Rattle.activation.specs.session_model.specs.Activation.{Machine, Place, Held, AtHome, IsBench, IsSequential, given_within, given_to, incoming, link_at, place_among, place_of, sequential, value_of}
use Rattle.activation.specs.session_model.specs.Benches.{Bench, Signal, bench_after, bench_gives, mixed, routed}
use Rattle.activation.specs.session_model.specs.Cycles.{ClientPlayed}
use Rattle.activation.specs.session_model.specs.Kinds.{Memory, Played, Sound, guest_played, guest_turn, midi_play, play, silent}
use Rattle.activation.specs.session_laws.proofs.PlaceLemmas.{map-same}
use Rattle.client_kinds.specs.Scores.{Score}
use Rattle.client_kinds.specs.Standings.{Standing, HasScore}
use Rattle.client_kinds.proofs.PlayLemmas.{slice_get-map}
use Rattle.client_benches.specs.declared.benches.Stint.{Stint}
use Rattle.client_benches.specs.Seen.{Remembered, HasScores, bench_in, kept_after, kept_gives, own_scores, own_sounds, task_in}
use Rattle.client_benches.proofs.KeptLemmas.{HasScore-own}

pub play-scores : (sound : Score → Sound) (standing : Standing) (s t : List Score) (memory : Memory) (outputs : ℕ) (moment : Moment) (period : ℕ) (inputs : List (List ℤ)) → HasScore standing s → HasScore standing t
    → play (map sound s) standing.kind memory outputs moment period inputs ≡ play (map sound t) standing.kind memory outputs moment period inputs
play-scores sound standing s t memory outputs moment period inputs = go standing.kind
  where
    go : (kind : Kind) → HasScore (record standing { kind = kind }) s → HasScore (record standing { kind = kind }) t → play (map sound s) kind memory outputs moment period inputs ≡ play (map sound t) kind memory outputs moment period inputs
    go (Guest guest) e f =
        ap (λ (played : Option Sound). if memory.is_dead then silent period outputs memory else guest_played period outputs memory (guest_turn played moment outputs period memory.numbers inputs))
        (slice_get-map sound s guest ∙ ap (option_map sound) (e ∙ sym f) ∙ sym (slice_get-map sound t guest))
    go _ e f = refl

-- a client with no MIDI output gives no events
midi-silent : (kind : Kind) (memory : Memory) (moment : Moment) (period : ℕ) → (midi_play [] kind memory 0 moment period []).outputs ≡ []
midi-silent (Midiplay list) memory moment period = refl
midi-silent Midithru memory moment period = refl
midi-silent Midilog memory moment period = refl
midi-silent _ memory moment period = refl

module _ (sound : Score → Sound) (scores : List Score) where
  module _ (kept : Remembered) (given : List (List Signal)) where
    abbrev with_turn : Option Stint → Remembered
    with_turn turn = record kept { turn = turn }

    abbrev played_by : List Sound → Stint → Played
    played_by s turn = play s kept.standing.kind kept.standing.memory turn.ports.outputs turn.moment turn.ports.period (mixed (task_in s kept turn) given)

    abbrev client_by : Stint → Played → ClientPlayed
    client_by turn played =
        let midi = midi_play [] kept.standing.kind played.memory 0 turn.moment turn.ports.period [] in
        record { audio = played.outputs; midi = midi.outputs; memory = midi.memory }

    same-played : (turn : Stint) → HasScore kept.standing scores → played_by (own_sounds sound kept.standing) turn ≡ played_by (map sound scores) turn
    same-played turn fits = play-scores sound kept.standing (own_scores kept.standing) scores kept.standing.memory turn.ports.outputs turn.moment turn.ports.period (mixed (task_in (map sound scores) kept turn) given) (HasScore-own kept.standing) fits

    pub after-scores : HasScores scores kept → bench_in (map sound scores) (kept_after sound kept given) ≡ bench_after (bench_in (map sound scores) kept) given
    after-scores fits = go kept.turn fits
      where
        behind : Stint → ClientPlayed → List (List ℤ) → Bench
        behind turn played sounds = record { task = Some (task_in (map sound scores) kept turn); memory = played.memory; sounds = sounds; notes = []; audio = played.audio; midi = played.midi }

        silent_behind : Stint → ClientPlayed → Bench
        silent_behind turn played = record (behind turn played (mixed (task_in (map sound scores) kept turn) given)) { midi = [] }

        go : (o : Option Stint) → ((turn : Stint) → o ≡ Some turn → HasScore kept.standing scores) → bench_in (map sound scores) (kept_after sound (with_turn o) given) ≡ bench_after (bench_in (map sound scores) (with_turn o)) given
        go None h = refl
        go (Some turn) h =
            ap (λ (played : Played). silent_behind turn (client_by turn played)) (same-played turn (h turn refl))
            ∙ ap (λ midi. record (silent_behind turn (client_by turn (played_by (map sound scores) turn))) { midi = midi }) (sym (midi-silent kept.standing.kind (played_by (map sound scores) turn).memory turn.moment turn.ports.period))

    pub gives-scores : (place : ℕ) → HasScores scores kept → kept_gives sound kept given place ≡ bench_gives (bench_in (map sound scores) kept) given place
    gives-scores place fits = go kept.turn fits
      where
        go : (o : Option Stint) → ((turn : Stint) → o ≡ Some turn → HasScore kept.standing scores) → kept_gives sound (with_turn o) given place ≡ bench_gives (bench_in (map sound scores) (with_turn o)) given place
        go None h = refl
        go (Some turn) h =
            ap (λ (played : Played). map (routed turn.ports.period (client_by turn played)) (slice_index_or (task_in (map sound scores) kept turn).routes place [])) (same-played turn (h turn refl))

  module _ (links : List Link) (before : ℕ → Remembered) (fits : (n : ℕ) → HasScores scores (before n)) where
    abbrev benches : ℕ → Bench
    benches n = bench_in (map sound scores) (before n)

    pub given-scores : (depth n : ℕ) → given_within (kept_after sound) (kept_gives sound) links before depth n ≡ given_within bench_after bench_gives links benches depth n
    given-scores zero n = refl
    given-scores (suc depth) n = map-same
        (λ l. kept_gives sound (before (link_at links l).from) (given_within (kept_after sound) (kept_gives sound) links before depth (link_at links l).from) (place_among links l))
        (λ l. bench_gives (benches (link_at links l).from) (given_within bench_after bench_gives links benches depth (link_at links l).from) (place_among links l))
        (incoming links n)
        (λ l.
        gives-scores (before (link_at links l).from) (given_within (kept_after sound) (kept_gives sound) links before depth (link_at links l).from) (place_among links l) (fits (link_at links l).from)
        ∙ ap (λ given. bench_gives (benches (link_at links l).from) given (place_among links l)) (given-scores depth (link_at links l).from))

    pub sequential-scores : (n : ℕ) → bench_in (map sound scores) (sequential (kept_after sound) (kept_gives sound) links before n) ≡ sequential bench_after bench_gives links benches n
    sequential-scores n =
        after-scores (before n) (given_to (kept_after sound) (kept_gives sound) links before n) (fits n)
        ∙ ap (λ given. bench_after (benches n) given) (given-scores n n)

    pub value-scores : (l : ℕ) → value_of (kept_after sound) (kept_gives sound) links before l ≡ value_of bench_after bench_gives links benches l
    value-scores l =
        gives-scores (before (link_at links l).from) (given_to (kept_after sound) (kept_gives sound) links before (link_at links l).from) (place_among links l) (fits (link_at links l).from)
        ∙ ap (λ given. bench_gives (benches (link_at links l).from) given (place_among links l)) (given-scores (link_at links l).from (link_at links l).from)

    is_bench-scores : (place : Place) (n : ℕ) (kept : Remembered) → IsBench (kept_after sound) (kept_gives sound) links before place n kept → IsBench bench_after bench_gives links benches place n (bench_in (map sound scores) kept)
    is_bench-scores (Held seat true) n kept is = ap (bench_in (map sound scores)) is ∙ sequential-scores n
    is_bench-scores (Held seat false) n kept is = ap (bench_in (map sound scores)) is
    is_bench-scores AtHome n kept is = ap (bench_in (map sound scores)) is ∙ sequential-scores n
    is_bench-scores _ n kept is = ap (bench_in (map sound scores)) is

    pub IsSequential-scores : (machine : Machine) (now : ℕ → Remembered) (values : ℕ → Option (List Signal)) → IsSequential (kept_after sound) (kept_gives sound) links before machine now values
        → IsSequential bench_after bench_gives links benches machine (λ n. bench_in (map sound scores) (now n)) values
    IsSequential-scores machine now values s = record {
      each_bench = λ n h. is_bench-scores (place_of machine n) n (now n) (s.each_bench n h);
      each_value = λ l h e. s.each_value l h e ∙ ap Some (value-scores l);
    }
