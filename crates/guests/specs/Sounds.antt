-- What the guests play.
--     echoed gain shift past samples, filtered_at taps shift inputs n, last count items      what an echo and a filter do
--     sound_of score      what the guest of a score plays
--     numbers_of score, sound_by numbers      a score as numbers, and what is played by them
use Rattle.std.specs.Prelude.{ℕ, zero, suc, ◌+◌, ◌-◌, min, ◌==◌, List, [], ◌∷◌, ◌++◌, length, map, drop, replicate, ℤ, pos, ◌+ℤ◌, ◌*ℤ◌, nat_abs, if◌then◌else◌}
use Rattle.std.specs.Int.{int_shr}
use Rattle.jack_types.specs.declared.kinds.Score.{Score}
use Rattle.jack_types.specs.declared.kinds.Score.TheVariants.{Echo, Fir, Hold, FailsAfter}
use Rattle.session_model.specs.Kinds.{GuestTurn, Sound, input_at}
use Rattle.session_model.specs.Samples.{below, clamp, sample, silence, total}

-- each output is the input and the output of so many frames before, times the gain, shifted; `past` is the last outputs, the oldest first
abbrev pub echoed : ℤ → ℕ → List ℤ → List ℤ → List ℤ
echoed gain shift past [] = []
echoed gain shift past (x ∷ xs) =
    let y = clamp (x +ℤ int_shr (sample past 0 *ℤ gain) shift) in
    y ∷ echoed gain shift (drop 1 past ++ y ∷ []) xs

-- the weighted sum of a frame and those before it; `inputs` begins with the ones before the cycle
abbrev pub filtered_at : List ℤ → ℕ → List ℤ → ℕ → ℤ
filtered_at taps shift inputs n = clamp (int_shr (total (map (λ i. sample taps i *ℤ sample inputs (n + (length taps - 1) - i)) (below (length taps)))) shift)

-- the last so many of a list
abbrev pub last : {X : Type 0} → ℕ → List X → List X
last count items = drop (length items - count) items

-- a guest's first numbers
abbrev pub first_of : Score → List ℤ
first_of (Echo frames gain shift) = silence frames
first_of (Fir taps shift) = silence (length taps - 1)
first_of Hold = pos 0 ∷ []
first_of (FailsAfter calls) = pos 0 ∷ []

-- what it does where it hears these samples; it plays the same on all outputs
abbrev pub turn_on : Score → ℕ → List ℤ → List ℤ → GuestTurn
turn_on (Echo frames gain shift) outputs numbers x =
    let y = echoed gain shift numbers x in
    record { outputs = replicate outputs y; answer = 0; numbers = last frames (numbers ++ y) }
turn_on (Fir taps shift) outputs numbers x = record {
  outputs = replicate outputs (map (filtered_at taps shift (numbers ++ x)) (below (length x)));
  answer = 0;
  numbers = last (length taps - 1) (numbers ++ x);
}
turn_on Hold outputs numbers x = record { outputs = replicate outputs (replicate (length x) (sample numbers 0)); answer = 0; numbers = last 1 (numbers ++ x) }
turn_on (FailsAfter calls) outputs numbers x =
    let made = nat_abs (sample numbers 0) in
    record { outputs = replicate outputs x; answer = if made == calls then 1 else 0; numbers = pos (min (made + 1) (calls + 1)) ∷ [] }

-- it hears its first input, or silence
abbrev pub sound_of : Score → Sound
sound_of score = record { first = first_of score; turn = λ moment outputs period numbers inputs. turn_on score outputs numbers (input_at period inputs 0) }

-- which of the four it is, and its own numbers
abbrev pub numbers_of : Score → List ℤ
numbers_of (Echo frames gain shift) = pos 0 ∷ pos frames ∷ gain ∷ pos shift ∷ []
numbers_of (Fir taps shift) = pos 1 ∷ pos shift ∷ taps
numbers_of Hold = pos 2 ∷ []
numbers_of (FailsAfter calls) = pos 3 ∷ pos calls ∷ []

-- of numbers that are no score's
abbrev no_sound : Sound
no_sound = record { first = []; turn = λ moment outputs period numbers inputs. record { outputs = []; answer = 0; numbers = numbers } }

abbrev sound_in : ℕ → List ℤ → Sound
sound_in zero (frames ∷ gain ∷ shift ∷ []) = sound_of (Echo (nat_abs frames) gain (nat_abs shift))
sound_in (suc zero) (shift ∷ taps) = sound_of (Fir taps (nat_abs shift))
sound_in (suc (suc zero)) [] = sound_of Hold
sound_in (suc (suc (suc zero))) (calls ∷ []) = sound_of (FailsAfter (nat_abs calls))
sound_in _ _ = no_sound

abbrev pub sound_by : List ℤ → Sound
sound_by [] = no_sound
sound_by (which ∷ numbers) = sound_in (nat_abs which) numbers
