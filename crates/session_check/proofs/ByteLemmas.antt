-- How many bytes are compared, cycle by cycle.
--     frames-more      the frames of one cycle more
--     bytes-next, bytes-fit      what was compared behind one, and that it has room in a file
--     wide-bits, few-width      a script's widths
--     bytes-more      the bytes of samples behind others
use Rattle.std.proofs.Common.{◌≡◌, ℕ, zero, suc, ◌+◌, ◌*◌, ◌<◌, ◌≤◌, Bool, true, List, ◌++◌, ℤ, Contains, refl, sym, ◌∙◌, ap, subst, arith, add-mul}
use Rattle.std.proofs.Math.Nat.{mul-le-mul_right}
use Rattle.std.proofs.lemmas.Grind.{flat_map-append}
use Rattle.session_model.specs.Courses.{no_turn}
use Rattle.session_model.specs.Grammar.{IsBits}
use Rattle.session_model.specs.Samples.{bytes_of, down, storing, width}
use Rattle.session_model.specs.Scripts.{Script, ScriptCycle, turns}
use Rattle.session_model.specs.WaveFiles.{is_width}
use Rattle.wave_laws.proofs.WaveSamples.{by_width}
use Rattle.driver_laws.specs.Drivers.{turn_of}
use Rattle.check_walk.proofs.LengthLemmas.{sum-next}
use Rattle.session_check.specs.Passes.{IsTurn, frames_until}

pub frames-more : (script : Script) (n phase period : ℕ) (freewheel : Bool) → IsTurn script (n + 1) phase freewheel period → frames_until script (n + 1) ≡ frames_until script n + period
frames-more script n phase period freewheel turn =
    ap (frames_until script) next ∙ sum-next (λ (t : ScriptCycle). t.period) (turns script) n no_turn (let there = turn.there in omega (arith, there))
    ∙ ap (λ (t : ScriptCycle). frames_until script n + t.period) (ap (turn_of script) (sym next) ∙ turn.turn_is)
  where
    next : n + 1 ≡ suc n
    next = omega arith

pub bytes-next : (before more_frames after channels bytes count samples count_after : ℕ) → after ≡ before + more_frames → count ≤ before * channels * bytes → samples ≤ more_frames * channels
    → count_after ≤ count + samples * bytes → count_after ≤ after * channels * bytes
bytes-next before more_frames after channels bytes count samples count_after frames low few is =
    let first : (before + more_frames) * channels ≡ before * channels + more_frames * channels = add-mul before more_frames channels in
    let both : (before * channels + more_frames * channels) * bytes ≡ before * channels * bytes + more_frames * channels * bytes = add-mul (before * channels) (more_frames * channels) bytes in
    let same : after * channels * bytes ≡ (before * channels + more_frames * channels) * bytes = ap (λ n. n * channels * bytes) frames ∙ ap (λ n. n * bytes) first in
    let step : samples * bytes ≤ more_frames * channels * bytes = mul-le-mul_right bytes few in
    omega (arith, low, is, both, same, step)

pub bytes-fit : (before more_frames after channels bytes count samples : ℕ) → after ≡ before + more_frames → after * channels ≤ 500000000 → bytes ≤ 4 → count ≤ before * channels * bytes → samples ≤ more_frames * channels
    → count + samples * bytes ≤ 4294967000
bytes-fit before more_frames after channels bytes count samples frames most small low few =
    let behind : count + samples * bytes ≤ after * channels * bytes = bytes-next before more_frames after channels bytes count samples (count + samples * bytes) frames low few (omega arith) in
    let all : after * channels * bytes ≤ 500000000 * bytes = mul-le-mul_right bytes most in
    omega (arith, behind, all, small)

pub wide-bits : (bits : ℕ) → IsBits bits → is_width bits ≡ true
wide-bits bits (zero, low, e) = ap is_width (sym e)
wide-bits bits (suc zero, low, e) = ap is_width (sym e)
wide-bits bits (suc (suc zero), low, e) = ap is_width (sym e)
wide-bits bits (suc (suc (suc zero)), low, e) = ap is_width (sym e)
wide-bits bits (suc (suc (suc (suc i))), low, e) = absurd (past low)
  where
    past : suc (suc (suc (suc i))) < 4 → ⊥
    past h = omega (arith, h)

pub few-width : (bits : ℕ) → is_width bits ≡ true → width bits ≤ 4
few-width bits wide = by_width (λ b. width b ≤ 4) bits wide (omega arith) (omega arith) (omega arith) (omega arith)

pub bytes-more : (bits : ℕ) (xs ys : List ℤ) → bytes_of bits (xs ++ ys) ≡ bytes_of bits xs ++ bytes_of bits ys
bytes-more bits xs ys = flat_map-append (λ x. storing bits (down bits x)) xs ys
