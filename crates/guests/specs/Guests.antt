-- What contracts see of the guests: their scores.
--     IsEcho score, IsFilter score, IsHold score, IsFailing score      the variant of a score, with its numbers in range
use Rattle.std.specs.Prelude.{ℕ, ◌≤◌, ⊤, ℤ}
use Rattle.jack_types.specs.Taps.{IsTap}
use Rattle.jack_types.specs.declared.kinds.Score.{Score}
use Rattle.jack_types.specs.declared.kinds.Score.TheVariants.{Echo, Fir, Hold, FailsAfter}

-- an echo of 1 to 48,000 frames, its gain a number of 16 bits, its shift at most 31
pub record IsEchoed (frames : ℕ) (gain : ℤ) (shift : ℕ) : Type 0 where
  pub least : 1 ≤ frames
  pub most : frames ≤ 48000
  pub gain_is : IsTap gain
  pub shift_is : shift ≤ 31

abbrev pub IsEcho : Score → Type 0
IsEcho (Echo frames gain shift) = IsEchoed frames gain shift
IsEcho _ = ⊥

abbrev pub IsFilter : Score → Type 0
IsFilter (Fir taps shift) = shift ≤ 31
IsFilter _ = ⊥

abbrev pub IsHold : Score → Type 0
IsHold Hold = ⊤
IsHold _ = ⊥

abbrev pub IsFailing : Score → Type 0
IsFailing (FailsAfter calls) = ⊤
IsFailing _ = ⊥

-- the numbers of a score are in range
abbrev pub IsPlayable : Score → Type 0
IsPlayable (Echo frames gain shift) = IsEchoed frames gain shift
IsPlayable (Fir taps shift) = shift ≤ 31
IsPlayable _ = ⊤
