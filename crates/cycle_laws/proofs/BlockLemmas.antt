-- What a recorder heard, read from the rack or from the driver's benches, and what the capture has left.
--     block-same      the same sounds make the same block
--     left-read, left-rest      what a read and a rest leave of a capture that tells
use Rattle.std.proofs.Common.{◌≡◌, ℕ, ◌*◌, cond, true, false, List, [], drop, map, ℤ, Option, Some, None, refl, sym, ◌∙◌, ap, ap₂, subst, arith}
use Rattle.std.specs.Option.{option_map_or}
use Rattle.session_model.specs.Kinds.{input_at}
use Rattle.session_model.specs.Samples.{below, interleaved}
use Rattle.session_model.specs.Scripts.{ScriptCycle}
use Rattle.plan_transport.specs.driver_laws.specs.Drivers.{frames_read}
use Rattle.playback_laws.specs.device_periods.specs.Captures.{Reads}

-- the block of so many channels that a node heard, if one did
abbrev pub block_heard : ℕ → ℕ → (ℕ → List (List ℤ)) → Option ℕ → List ℤ
block_heard period channels sounds found = option_map_or (λ n. interleaved period (map (input_at period (sounds n)) (below channels))) found []

pub block-same : (period other_period channels other_channels : ℕ) (sounds other_sounds : ℕ → List (List ℤ)) (found other_found : Option ℕ)
    → period ≡ other_period → channels ≡ other_channels → ((n : ℕ) → sounds n ≡ other_sounds n) → found ≡ other_found → block_heard period channels sounds found ≡ block_heard other_period other_channels other_sounds other_found
block-same period other_period channels other_channels sounds other_sounds found other_found p c s f =
    ap₂ (λ a b. block_heard a b sounds found) p c ∙ at found ∙ ap (block_heard other_period other_channels other_sounds) f
  where
    at : (o : Option ℕ) → block_heard other_period other_channels sounds o ≡ block_heard other_period other_channels other_sounds o
    at None = refl
    at (Some n) = ap (λ xs. interleaved other_period (map (input_at other_period xs) (below other_channels))) (s n)

-- ---- the capture, where it tells what it has left

pub left-read : (left : List ℤ) (before after : Option (List ℤ)) (channels : List (List ℤ)) (count other_count frames other_frames : ℕ) → Reads before after channels count frames → count ≡ other_count → frames ≡ other_frames
    → before ≡ Some left → after ≡ Some (drop (other_frames * other_count) left)
left-read left before after channels count other_count frames other_frames reads c f told =
    (subst (λ (o : Option (List ℤ)). Reads o after channels count frames) told reads).1 ∙ ap₂ (λ a b. Some (drop (a * b) left)) f c

pub left-rest : (left : List ℤ) (before after : Option (List ℤ)) (count frames : ℕ) → frames ≡ 0 → after ≡ before → before ≡ Some left → after ≡ Some (drop (frames * count) left)
left-rest left before after count frames none same told = same ∙ told ∙ ap (λ n. Some (drop n left)) back
  where
    back : 0 ≡ frames * count
    back = let start : 0 ≡ 0 * count = omega arith in start ∙ ap (λ n. n * count) (sym none)

-- a `run` cycle reads its period, a freewheel cycle nothing
pub frames-of_run : (turn : ScriptCycle) → turn.is_freewheel ≡ false → frames_read turn ≡ turn.period
frames-of_run turn e = ap (λ b. cond b 0 turn.period) e

pub frames-of_freewheel : (turn : ScriptCycle) → turn.is_freewheel ≡ true → frames_read turn ≡ 0
frames-of_freewheel turn e = ap (λ b. cond b 0 turn.period) e
