-- The samples of a script's cycles, over its greatest channel number.
--     samples-few      they are at most 500,000,000
--     narrow-few      so are those of no more channels
--     recorder-within, disk-within, capture-within, playback-within      none has more channels
use Rattle.std.proofs.Common.{◌≡◌, ℕ, zero, suc, ◌+◌, ◌*◌, ◌≤◌, max, fold, sum_by, List, [], ◌∷◌, ◌++◌, map, take, replicate, slice_index_or, refl, sym, ◌∙◌, ap, arith}
use Rattle.std.proofs.Math.Nat.{add-mul, le-max_left, le-max_right}
use Rattle.std.proofs.lemmas.List.Folds.{sum_by-replicate}
use Rattle.std.proofs.lemmas.List.Sums.{sum_by-append, sum_by-cons, sum_by-take-le}
use Rattle.std.proofs.lemmas.Nat.{mul-le}
use Rattle.jack_types.specs.Recorders.{no_format}
use Rattle.jack_types.specs.declared.files.Format.{Format}
use Rattle.jack_types.specs.declared.scripts.Header.{Header}
use Rattle.session_model.specs.Grammar.{IsScript, all_bytes, most_channels}
use Rattle.session_model.specs.Scripts.{Phase, Script, ScriptCycle, phases, turns, turns_from}
use Rattle.script_needs.proofs.PeriodLemmas.{start-within}

abbrev pub frames_in : List ScriptCycle → ℕ
frames_in ts = sum_by (λ (turn : ScriptCycle). turn.period) ts

abbrev frames_of : List Phase → ℕ
frames_of phs = sum_by (λ (phase : Phase). phase.cycles * phase.period) phs

turns-frames : (index : ℕ) (phs : List Phase) → frames_in (turns_from index phs) ≡ frames_of phs
turns-frames index [] = refl
turns-frames index (phase ∷ phs) =
    let turn : ScriptCycle = record { period = phase.period; is_freewheel = phase.is_freewheel; phase = index } in
    let both : frames_in (replicate phase.cycles turn ++ turns_from (index + 1) phs) ≡ frames_in (replicate phase.cycles turn) + frames_in (turns_from (index + 1) phs) = sum_by-append (λ (t : ScriptCycle). t.period) (replicate phase.cycles turn) (turns_from (index + 1) phs) in
    let first : frames_in (replicate phase.cycles turn) ≡ phase.cycles * phase.period = sum_by-replicate (λ (t : ScriptCycle). t.period) phase.cycles turn in
    let all : frames_of (phase ∷ phs) ≡ phase.cycles * phase.period + frames_of phs = sum_by-cons (λ (p : Phase). p.cycles * p.period) phase phs in
    both ∙ ap (λ n. n + frames_in (turns_from (index + 1) phs)) first ∙ ap (λ n. phase.cycles * phase.period + n) (turns-frames (index + 1) phs) ∙ sym all

sum-of : (x frames most : ℕ) → x * 4 * most + 4 * (frames * most) ≡ 4 * ((x + frames) * most)
sum-of x frames most =
    let both : (x + frames) * most ≡ x * most + frames * most = add-mul x frames most in
    let turned : x * 4 * most ≡ 4 * (x * most) = grind arith in
    omega (arith, both, turned)

bytes-frames : (header : Header) (phs : List Phase) → all_bytes header phs ≡ 4 * (frames_of phs * most_channels header)
bytes-frames header [] = grind arith
bytes-frames header (phase ∷ phs) =
    let most : ℕ = most_channels header in
    let bytes : all_bytes header (phase ∷ phs) ≡ phase.cycles * phase.period * 4 * most + all_bytes header phs = sum_by-cons (λ (p : Phase). p.cycles * p.period * 4 * most_channels header) phase phs in
    let all : frames_of (phase ∷ phs) ≡ phase.cycles * phase.period + frames_of phs = sum_by-cons (λ (p : Phase). p.cycles * p.period) phase phs in
    bytes
    ∙ ap (λ n. phase.cycles * phase.period * 4 * most + n) (bytes-frames header phs)
    ∙ sum-of (phase.cycles * phase.period) (frames_of phs) most
    ∙ ap (λ n. 4 * (n * most)) (sym all)

pub narrow-few : (frames channels most : ℕ) → channels ≤ most → frames * most ≤ 500000000 → frames * channels ≤ 500000000
narrow-few frames channels most h few = let less : frames * channels ≤ frames * most = mul-le frames channels frames most (omega arith) h in omega (arith, less, few)

pub samples-few : (script : Script) (n : ℕ) → IsScript script → frames_in (take n (turns script)) * most_channels script.header ≤ 500000000
samples-few script n is =
    let most : ℕ = most_channels script.header in
    let bytes : all_bytes script.header (phases script) ≡ 4 * (frames_of (phases script) * most) = bytes-frames script.header (phases script) in
    let few = is.few_bytes in
    let front : frames_in (take n (turns script)) ≤ frames_in (turns script) = sum_by-take-le (λ (turn : ScriptCycle). turn.period) (turns script) n in
    let all : frames_in (turns script) ≡ frames_of (phases script) = turns-frames 0 (phases script) in
    let less : frames_in (take n (turns script)) * most ≤ frames_of (phases script) * most = mul-le (frames_in (take n (turns script))) most (frames_of (phases script)) most (omega (arith, front, all)) (omega arith) in
    omega (arith, bytes, few, less)

-- ---- channels

at-within : (xs : List ℕ) (start i : ℕ) → slice_index_or xs i 0 ≤ fold max start xs
at-within [] start i = omega arith
at-within (x ∷ xs) start zero = let rest = start-within xs (max start x) in let first = le-max_right start x in omega (arith, rest, first)
at-within (x ∷ xs) start (suc i) = at-within xs (max start x) i

format-channels : (formats : List Format) (i : ℕ) → (slice_index_or formats i no_format).channels ≡ slice_index_or (map (λ (format : Format). format.channels) formats) i 0
format-channels [] i = refl
format-channels (format ∷ formats) zero = refl
format-channels (format ∷ formats) (suc i) = format-channels formats i

module _ (header : Header) where
  abbrev outer : ℕ
  outer = max header.capture header.playback

  abbrev formats : List ℕ
  formats = map (λ (format : Format). format.channels) header.recorders

  outer-within : outer ≤ most_channels header
  outer-within = let a = start-within formats outer in let b = start-within header.disks (fold max outer formats) in omega (arith, a, b)

  pub capture-within : header.capture ≤ most_channels header
  capture-within = let all = outer-within in let first = le-max_left header.capture header.playback in omega (arith, all, first)

  pub playback-within : header.playback ≤ most_channels header
  playback-within = let all = outer-within in let first = le-max_right header.capture header.playback in omega (arith, all, first)

  pub disk-within : (disk : ℕ) → slice_index_or header.disks disk 0 ≤ most_channels header
  disk-within disk = at-within header.disks (fold max outer formats) disk

  pub recorder-within : (recorder : ℕ) → (slice_index_or header.recorders recorder no_format).channels ≤ most_channels header
  recorder-within recorder =
      let same = format-channels header.recorders recorder in
      let a = at-within formats outer recorder in
      let b = start-within header.disks (fold max outer formats) in
      omega (arith, same, a, b)
