-- The playback's file of a rehearsal.
--     units-told      the numbers in a file of 16 bits are those of its samples
--     played-fit      what is played back is numbers of 32 bits
--     played-count      640,000 frames of two channels
--     units, size      so for a rehearsal
use Rattle.std.proofs.Common.{◌≡◌, ℕ, zero, suc, ◌+◌, ◌*◌, ◌/◌, ◌%◌, ◌^◌, ◌<◌, ◌≤◌, Bool, true, false, not, cond, List, [], ◌∷◌, ◌++◌, length, map, filter, flat_map, drop, All, ℤ, pos, negsuc, refl, sym, ◌∙◌, ap, ap₂, arith, add-one}
use Rattle.std.specs.Prelude.{slice_index_or, replicate, get_or}
use Rattle.std.specs.Int.{w32}
use Rattle.std.specs.Int.RustNames.{FitsSigned}
use Rattle.std.specs.List.{AllByRecursion}
use Rattle.std.proofs.Math.Nat.{suc-mul}
use Rattle.std.proofs.lemmas.List.{append-nil, get_or-replicate, length-append, length-drop, length-map, length-replicate}
use Rattle.std.proofs.lemmas.List.Elements.{All-from_recursion, filter-append}
use Rattle.std.proofs.lemmas.Grind.{flat_map-append}
use Rattle.jack_types.specs.declared.commands.Command.{Command}
use Rattle.jack_types.specs.declared.scripts.Body.{Body}
use Rattle.jack_types.specs.declared.scripts.Body.TheVariants.{Do, Run, Freewheel, Lane, Period}
use Rattle.jack_types.specs.declared.files.Format.{Format}
use Rattle.rehearsal_model.specs.Rehearsals.{rehearsal, units_played}
use Rattle.session_model.specs.Courses.{Course, no_turn, period, turn}
use Rattle.session_model.specs.Cycles.{carried, cycle, edges_into, input_of}
use Rattle.session_model.specs.Explanations.{course_of, playback_text}
use Rattle.session_model.specs.Playback.{playback_names, played_back, played_in}
use Rattle.session_model.specs.Samples.{below, bytes_of, clamp, down, mix, sample, samples_of, total, up}
use Rattle.session_model.specs.Scripts.{Phase, ScriptCycle, phases_of, turns, turns_from, with_do}
use Rattle.session_model.specs.Serial.{serial}
use Rattle.session_model.specs.State.{Connection, playback_port}
use Rattle.session_model.specs.WaveFiles.{file_text, wave_text}
use Rattle.wave_laws.proofs.WaveSamples.{length-bytes_of, samples_of-bytes_of}
use Rattle.rehearsal_laws.proofs.CaptureLemmas.{up-negsuc, up-pos}
use Rattle.rehearsal_laws.proofs.DrawnLemmas.{all-append}
use Rattle.rehearsal_laws.proofs.ScriptLemmas.{AreDos, AreLanes, dos-in, dos_of, parts}

-- ---- numbers of 16 bits

down-up : (s : ℤ) → down 16 (up 16 s) ≡ s
down-up (pos a) = ap (down 16) (up-pos a) ∙ ap pos (back a)
  where
    back : (a : ℕ) → a * 65536 / 2 ^ 16 ≡ a
    back a = omega arith
down-up (negsuc a) = ap (down 16) (up-negsuc a) ∙ ap negsuc (back a)
  where
    back : (a : ℕ) → (a * 65536 + 65535) / 2 ^ 16 ≡ a
    back a = omega arith

all-down : (xs : List ℤ) → map (down 16) (map (λ x. up 16 (down 16 x)) xs) ≡ map (down 16) xs
all-down [] = refl
all-down (x ∷ xs) = ap₂ (λ y ys. y ∷ ys) (down-up (down 16 x)) (all-down xs)

-- behind the header come the bytes, and a pad byte where they are odd
behind-header : (format : Format) (bytes : List ℕ) → drop 44 (file_text format bytes) ≡ bytes ++ replicate (length bytes % 2) 0
behind-header format bytes = refl

even-bytes : (xs : List ℤ) → bytes_of 16 xs ++ replicate (length (bytes_of 16 xs) % 2) 0 ≡ bytes_of 16 xs
even-bytes xs = ap (λ n. bytes_of 16 xs ++ replicate n 0) (even (length (bytes_of 16 xs)) (length xs) (length-bytes_of 16 xs)) ∙ append-nil (bytes_of 16 xs)
  where
    even : (n m : ℕ) → n ≡ m * 2 → n % 2 ≡ 0
    even n m same = omega (arith, same)

pub told-bytes : (rate channels : ℕ) (xs : List ℤ) → drop 44 (wave_text (record { rate = rate; channels = channels; bits = 16 }) xs) ≡ bytes_of 16 xs
told-bytes rate channels xs = behind-header (record { rate = rate; channels = channels; bits = 16 }) (bytes_of 16 xs) ∙ even-bytes xs

pub units-told : (rate channels : ℕ) (xs : List ℤ) → All (FitsSigned w32) xs → map (down 16) (samples_of 16 (drop 44 (wave_text (record { rate = rate; channels = channels; bits = 16 }) xs))) ≡ map (down 16) xs
units-told rate channels xs fit =
    ap (λ (bytes : List ℕ). map (down 16) (samples_of 16 bytes)) (told-bytes rate channels xs)
    ∙ ap (map (down 16)) (samples_of-bytes_of 16 xs refl fit) ∙ all-down xs

pub file-size : (format : Format) (bytes : List ℕ) → length (file_text format bytes) ≡ 44 + length (drop 44 (file_text format bytes))
file-size format bytes = whole (file_text format bytes) (omega arith)
  where
    whole : (xs : List ℕ) → 44 ≤ length xs → length xs ≡ 44 + length (drop 44 xs)
    whole xs long = let rest = length-drop 44 xs in omega (arith, rest, long)

-- ---- what is played back

fits-clamp : (x : ℤ) → FitsSigned w32 (clamp x)
fits-clamp (pos n) = record { sfits = omega arith }
fits-clamp (negsuc n) = record { sfits = omega arith }

fits-sample : (xs : List ℤ) (i : ℕ) → AllByRecursion (FitsSigned w32) xs → FitsSigned w32 (sample xs i)
fits-sample [] i fit = record { sfits = omega arith }
fits-sample (x ∷ xs) zero fit = fit.0
fits-sample (x ∷ xs) (suc i) fit = fits-sample xs i fit.1

mix-fits : (frames : ℕ) (buffers : List (List ℤ)) → AllByRecursion (FitsSigned w32) (mix frames buffers)
mix-fits frames buffers = each (below frames)
  where
    each : (is : List ℕ) → AllByRecursion (FitsSigned w32) (map (λ i. clamp (total (map (λ part. sample part i) buffers))) is)
    each [] = tt
    each (i ∷ is) = (fits-clamp _, each is)

flat-fits : {X : Type 0} (f : X → List ℤ) → ((x : X) → AllByRecursion (FitsSigned w32) (f x)) → (xs : List X) → AllByRecursion (FitsSigned w32) (flat_map f xs)
flat-fits f each [] = tt
flat-fits f each (x ∷ xs) = all-append (FitsSigned w32) (f x) (flat_map f xs) (each x) (flat-fits f each xs)

samples-fit : (i : ℕ) (buffers : List (List ℤ)) → AllByRecursion (λ (buffer : List ℤ). AllByRecursion (FitsSigned w32) buffer) buffers → AllByRecursion (FitsSigned w32) (map (λ buffer. sample buffer i) buffers)
samples-fit i [] fit = tt
samples-fit i (buffer ∷ buffers) fit = (fits-sample buffer i fit.0, samples-fit i buffers fit.1)

-- what the edges into a port bring
abbrev parts_into : Course → ℕ → List ℕ → List (List ℤ)
parts_into course k port =
    map (λ (edge : Connection). (carried (cycle course k).now (cycle course k).settled.before edge.mark).audio edge.source) (edges_into (cycle course k).settled.graph port)

inputs-fit : (course : Course) (k : ℕ) (names : List (List ℕ)) → AllByRecursion (λ (buffer : List ℤ). AllByRecursion (FitsSigned w32) buffer) (map (input_of course k) names)
inputs-fit course k [] = tt
inputs-fit course k (name ∷ names) = (mix-fits (cycle course k).settled.frames (parts_into course k name), inputs-fit course k names)

pub played-fit : (course : Course) → All (FitsSigned w32) (played_back course)
played-fit course =
    All-from_recursion (FitsSigned w32) (played_back course)
    (flat-fits (λ i. played_in course (i + 1)) (λ i. flat-fits (λ frame. map (λ buffer. sample buffer frame) (map (input_of course (i + 1)) (playback_names course))) (λ frame. samples-fit frame (map (input_of course (i + 1)) (playback_names course)) (inputs-fit course (i + 1) (playback_names course))) (below (period course (i + 1)))) (filter (λ i. not (turn course (i + 1)).is_freewheel) (below (length (turns course.script)))))

-- ---- how many samples there are

-- a cycle of 64 frames that is bound to the device
abbrev pub plain : ScriptCycle
plain = record { period = 64; is_freewheel = false; phase = 0 }

turns-do : (index : ℕ) (command : Command) (phases : List Phase) → turns_from index (with_do command phases) ≡ turns_from index phases
turns-do index command [] = refl
turns-do index command (phase ∷ phases) = refl

turns-dos : (dos rest : List Body) → AreDos dos → turns_from 0 (phases_of 64 (dos ++ rest)) ≡ turns_from 0 (phases_of 64 rest)
turns-dos [] rest are = refl
turns-dos (Do command ∷ dos) rest are = turns-do 0 command (phases_of 64 (dos ++ rest)) ∙ turns-dos dos rest are.1
turns-dos (Run cycles ∷ dos) rest are = absurd are.0
turns-dos (Freewheel cycles ∷ dos) rest are = absurd are.0
turns-dos (Lane lane begun command ∷ dos) rest are = absurd are.0
turns-dos (Period period ∷ dos) rest are = absurd are.0

phases-lanes : (before : ℕ) (lines : List Body) → AreLanes before lines → phases_of 64 lines ≡ phases_of 64 []
phases-lanes before [] are = refl
phases-lanes before (Do command ∷ lines) are = absurd are
phases-lanes before (Run cycles ∷ lines) are = absurd are
phases-lanes before (Freewheel cycles ∷ lines) are = absurd are
phases-lanes before (Period period ∷ lines) are = absurd are
phases-lanes before (Lane lane begun command ∷ lines) are = phases-lanes begun lines are.4

-- so many cycles, and no more
turns-run : (cycles : ℕ) (lanes : List Body) → AreLanes 0 lanes → turns_from 0 (phases_of 64 (Run cycles ∷ lanes)) ≡ replicate cycles plain
turns-run cycles lanes are =
    ap (λ (phases : List Phase). replicate cycles plain ++ turns_from 1 phases) (phases-lanes 0 lanes are)
    ∙ append-nil (replicate cycles plain)

pub turns-are : (n : ℕ) → turns (rehearsal n).script ≡ replicate 10000 plain
turns-are n =
    ap (λ (lines : List Body). turns_from 0 (phases_of 64 lines)) (parts n).lines_are
    ∙ turns-dos (dos_of (parts n).clients (parts n).chain (parts n).others (parts n).last) (Run 10000 ∷ (parts n).lanes) (dos-in n)
    ∙ turns-run 10000 (parts n).lanes (parts n).lanes_in

-- a course of so many such cycles
pub record HasTurns (course : Course) (cycles : ℕ) : Type 0 where
  pub turns_are : turns course.script ≡ replicate cycles plain
  pub two : course.script.header.playback ≡ 2

pub turn-plain : (course : Course) (cycles i : ℕ) → HasTurns course cycles → i < cycles → turn course (i + 1) ≡ plain
turn-plain course cycles i has few =
    ap (λ (all : List ScriptCycle). slice_index_or (no_turn ∷ all) (i + 1) no_turn) has.turns_are
    ∙ behind (replicate cycles plain) i
    ∙ get_or-replicate cycles i plain no_turn few
  where
    behind : (all : List ScriptCycle) (i : ℕ) → slice_index_or (no_turn ∷ all) (i + 1) no_turn ≡ get_or all i no_turn
    behind all i = simp add-one

-- numbers below so many all pass
pub all-pass : (p : ℕ → Bool) (n : ℕ) → ((i : ℕ) → i < n → p i ≡ true) → filter p (below n) ≡ below n
all-pass p zero each = refl
all-pass p (suc n) each =
    filter-append p (below n) (n ∷ [])
    ∙ ap₂ (λ xs ys. xs ++ ys) (all-pass p n (λ i few. each i (omega (arith, few)))) (ap (λ b. cond b (n ∷ []) []) (each n (omega arith)))

pub flat-length : (f : ℕ → List ℤ) (m n : ℕ) → ((i : ℕ) → i < n → length (f i) ≡ m) → length (flat_map f (below n)) ≡ n * m
flat-length f m zero each = omega arith
flat-length f m (suc n) each =
    ap length (flat_map-append f (below n) (n ∷ []))
    ∙ length-append (flat_map f (below n)) (flat_map f (n ∷ []))
    ∙ add (length (flat_map f (below n))) (n * m) (length (f n ++ [])) (flat-length f m n (λ i few. each i (omega (arith, few)))) (ap length (append-nil (f n)) ∙ each n (omega arith))
    ∙ sym (suc-mul n m)
  where
    add : (a b c : ℕ) → a ≡ b → c ≡ m → a + c ≡ b + m
    add a b c one other = omega (arith, one, other)

played-length : (course : Course) (cycles i : ℕ) → HasTurns course cycles → i < cycles → length (played_in course (i + 1)) ≡ 128
played-length course cycles i has few =
    flat-length (λ frame. map (λ buffer. sample buffer frame) (map (input_of course (i + 1)) (playback_names course))) 2 (period course (i + 1)) (λ frame low. channels frame)
    ∙ ap (λ (t : ScriptCycle). t.period * 2) (turn-plain course cycles i has few)
  where
    channels : (frame : ℕ) → length (map (λ buffer. sample buffer frame) (map (input_of course (i + 1)) (playback_names course))) ≡ 2
    channels frame =
        length-map (map (input_of course (i + 1)) (playback_names course)) (λ buffer. sample buffer frame)
        ∙ length-map (playback_names course) (input_of course (i + 1))
        ∙ ap (λ n. length (map (λ i. (playback_port i).name) (below n))) has.two

played-count : (course : Course) (cycles : ℕ) → HasTurns course cycles → length (played_back course) ≡ cycles * 128
played-count course cycles has =
    ap (λ n. length (flat_map (λ i. played_in course (i + 1)) (filter (λ i. not (turn course (i + 1)).is_freewheel) (below n)))) (ap length has.turns_are ∙ length-replicate cycles plain)
    ∙ ap (λ (is : List ℕ). length (flat_map (λ i. played_in course (i + 1)) is)) (all-pass (λ i. not (turn course (i + 1)).is_freewheel) cycles (λ i few. ap (λ (t : ScriptCycle). not t.is_freewheel) (turn-plain course cycles i has few)))
    ∙ flat-length (λ i. played_in course (i + 1)) 128 cycles (λ i few. played-length course cycles i has few)

-- ---- of a rehearsal

abbrev played_of : ℕ → Course
played_of n = course_of (rehearsal n) (serial (rehearsal n).script)

pub frames : (n : ℕ) → length (played_back (played_of n)) ≡ 1280000
frames n = played-count (played_of n) 10000 (record { turns_are = turns-are n; two = refl })

pub size : (n : ℕ) → length (playback_text (rehearsal n) (serial (rehearsal n).script)) ≡ 2560044
size n =
    file-size (record { rate = 48000; channels = 2; bits = 16 }) (bytes_of 16 (played_back (played_of n)))
    ∙ ap (λ (bytes : List ℕ). 44 + length bytes) (told-bytes 48000 2 (played_back (played_of n)))
    ∙ total_of (length (bytes_of 16 (played_back (played_of n)))) (length (played_back (played_of n))) (length-bytes_of 16 (played_back (played_of n))) (frames n)
  where
    total_of : (a b : ℕ) → a ≡ b * 2 → b ≡ 1280000 → 44 + a ≡ 2560044
    total_of a b two many = omega (arith, two, many)

pub units : (n : ℕ) → map (down 16) (samples_of 16 (drop 44 (playback_text (rehearsal n) (serial (rehearsal n).script)))) ≡ units_played n
units n = units-told 48000 2 (played_back (played_of n)) (played-fit (played_of n))
