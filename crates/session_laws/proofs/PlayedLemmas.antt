-- What the driver cites between and behind its cycles.
--     HaveCycle-cycle      where every node of the plan is home, the benches have what the cycle has
--     HaveCycle-none      before the first cycle there is nothing
--     memory-kept      a client that does not play keeps its memory
--     idle-stays      a bench without a task stays
use Rattle.std.proofs.Common.{◌≡◌, ℕ, suc, ◌<◌, Bool, true, false, cond, ◌&&◌, ◌==◌, if◌then◌else◌, List, [], length, position, ℤ, Option, Some, None, refl, sym, ap, subst, arith}
use Rattle.std.specs.Option.{option_map_or}
use Rattle.std.specs.Str.{bytes_eq}
use Rattle.session_model.specs.jack_types.specs.Names.{client_part}
use Rattle.session_model.specs.jack_types.specs.declared.ports.Link.{Link}
use Rattle.session_model.specs.Activation.{Machine, AtHome, place_of, IsBench, IsSequential, sequential, given_to}
use Rattle.session_model.specs.Benches.{Signal, Bench, bench_after, bench_gives, bench_played, IsPlan, IsReady, HaveCycle, outputs_of}
use Rattle.session_model.specs.Courses.{Course, graph}
use Rattle.session_model.specs.Samples.{silence}
use Rattle.session_model.specs.Cycles.{Cycle, cycle, audio_outputs, previous, was_there, settled_after, memory_after, player_born}
use Rattle.session_model.specs.State.{State, OpenClient, OpenPort, is_system}
use Rattle.session_laws.proofs.BenchLemmas.{HaveCycle-of_sequential}

-- where every node of the plan is home, the benches have what the cycle has
pub HaveCycle-cycle : (course : Course) (k : ℕ) (nodes : List OpenClient) (links : List Link) (before benches : ℕ → Bench) (machine : Machine) (values : ℕ → Option (List Signal))
    → IsPlan (graph course (suc k)) nodes links
    → IsReady course (settled_after course (suc k) (cycle course k)) nodes links before
    → IsSequential bench_after bench_gives links before machine benches values
    → ((n : ℕ) → n < length nodes → (n < length machine.places) × (place_of machine n ≡ AtHome))
    → HaveCycle (cycle course (suc k)) nodes benches
HaveCycle-cycle course k nodes links before benches machine values plan ready sequential_now home =
    HaveCycle-of_sequential course (settled_after course (suc k) (cycle course k)) nodes links before plan ready (cycle course k) benches
    (λ n h. subst (λ place. IsBench bench_after bench_gives links before place n (benches n)) (home n h).1 (sequential_now.each_bench n (home n h).0))

-- an idle bench stays
pub idle-stays : (links : List Link) (before : ℕ → Bench) (n : ℕ) → (before n).task ≡ None → sequential bench_after bench_gives links before n ≡ before n
idle-stays links before n e = ap (λ o. option_map_or (bench_played (before n) (given_to bench_after bench_gives links before n)) o (before n)) e

-- a client that does not play keeps its memory
pub memory-kept : (course : Course) (k birth : ℕ) → player_born (graph course (suc k)) birth ≡ None → (cycle course (suc k)).memory birth ≡ (cycle course k).memory birth
memory-kept course k birth e = ap (λ player. memory_after course (cycle course (suc k)).settled (cycle course (suc k)).now ((cycle course k).memory birth) player) e

-- what feedback edges give is read from the benches of the cycle before
pub previous_audio-read : (cycle : Cycle) (nodes : List OpenClient) (benches : ℕ → Bench) → HaveCycle cycle nodes benches → (now : State) (frames : ℕ) (port : List ℕ)
    → (previous cycle now frames).audio port ≡ (if cycle.settled.frames == frames && was_there cycle.settled.graph now port then (outputs_of cycle.settled nodes benches).audio port else silence frames)
previous_audio-read cycle nodes benches played now frames port =
    ap (λ items. cond (cycle.settled.frames == frames && was_there cycle.settled.graph now port) items (silence frames)) (sym (played.audio port))

pub previous_midi-read : (cycle : Cycle) (nodes : List OpenClient) (benches : ℕ → Bench) → HaveCycle cycle nodes benches → (now : State) (frames : ℕ) (port : List ℕ)
    → (previous cycle now frames).midi port ≡ (if cycle.settled.frames == frames && was_there cycle.settled.graph now port then (outputs_of cycle.settled nodes benches).midi port else [])
previous_midi-read cycle nodes benches played now frames port =
    ap (λ items. cond (cycle.settled.frames == frames && was_there cycle.settled.graph now port) items []) (sym (played.midi port))

pub HaveCycle-none : (course : Course) (benches : ℕ → Bench) → HaveCycle (cycle course 0) [] benches
HaveCycle-none course benches = record {
  memory = λ n h. absurd (none h);
  audio = λ port. silent (is_system (client_part port)) (position (λ (other : OpenPort). bytes_eq other.name port) (audio_outputs (graph course 0) (client_part port)));
  midi = λ port. refl;
  sounds = λ n h. absurd (none h);
  notes = λ n h. absurd (none h);
  mix = λ port. refl;
}
  where
    none : {n : ℕ} → n < 0 → ⊥
    none p = omega arith

    -- no channel has a frame yet
    no_frames : ℕ → List ℤ
    no_frames channel = []

    silent : (b : Bool) (o : Option ℕ) → cond b (option_map_or no_frames o []) [] ≡ []
    silent true None = refl
    silent true (Some channel) = refl
    silent false o = refl
