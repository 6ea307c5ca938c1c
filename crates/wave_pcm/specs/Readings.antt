-- What contracts see of a WAVE file that is read.
--     Reading      its format, the samples left where the source tells its bytes, and how far it came
--     Gives left left_after count asked out      the next samples were read
--     GivesPairs left left_after count asked one other      the next frames of two channels were read
use Rattle.std.specs.Prelude.{◌≡◌, ℕ, ◌+◌, ◌*◌, ◌≤◌, min, Bool, true, false, ⊤, List, length, take, drop, ℤ, Option, Some, None, All, ◌<◌}
use Rattle.samples.specs.jack_types.specs.declared.files.Format.{Format}
use Rattle.samples.specs.session_model.specs.Samples.{sample, samples_of}
use Rattle.samples.specs.session_model.specs.WaveFiles.{is_width, whole_frames}

-- `left` are the samples that were not read yet, where the source tells; `size` is how many bytes of data the header tells, and
-- `given` how many bytes of samples were given, 0 before the first; `failed` is whether a read failed, and `faults` the source's count
pub record Reading : Type 0 where
  pub format : Format
  pub left : Option (List ℤ)
  pub size : ℕ
  pub given : ℕ
  pub failed : Bool
  pub faults : ℕ

-- a format that is read
pub record IsReadable (format : Format) : Type 0 where
  pub least_channels : 1 ≤ format.channels
  pub most_channels : format.channels ≤ 16
  pub least_rate : 1 ≤ format.rate
  pub bits : is_width format.bits ≡ true

-- numbers that bytes can be
abbrev pub AreBytes : List ℕ → Type 0
AreBytes bytes = All (λ b. b < 256) bytes

-- the samples in the bytes that are left, of which so many are data
abbrev pub left_of : Format → ℕ → Option (List ℕ) → Option (List ℤ)
left_of format size None = None
left_of format size (Some rest) = Some (samples_of format.bits (whole_frames format size rest))

-- the next samples stand at the front of the buffer, as many as were asked for, fewer only at their end
abbrev pub Gives : Option (List ℤ) → Option (List ℤ) → ℕ → ℕ → List ℤ → Type 0
Gives None after count asked out = ⊤
Gives (Some left) after count asked out = (count ≡ min asked (length left)) × (take count out ≡ take count left) × (after ≡ Some (drop count left))

-- so many frames of two channels were read: as many as were asked for, fewer only at the samples' end
pub record ArePairs (left : List ℤ) (after : Option (List ℤ)) (count asked : ℕ) (one other : List ℤ) : Type 0 where
  pub count_is : count * 2 ≡ min (asked * 2) (length left)
  pub one_is : (k : ℕ) → k < count → sample one k ≡ sample left (k * 2)
  pub other_is : (k : ℕ) → k < count → sample other k ≡ sample left (k * 2 + 1)
  pub after_is : after ≡ Some (drop (count * 2) left)

-- the next frames stand at the fronts of the two channels
abbrev pub GivesPairs : Option (List ℤ) → Option (List ℤ) → ℕ → ℕ → List ℤ → List ℤ → Type 0
GivesPairs None after count asked one other = ⊤
GivesPairs (Some left) after count asked one other = ArePairs left after count asked one other

-- samples were read, one part after the other, and stand at the front of the buffer
abbrev pub Gave : Option (List ℤ) → Option (List ℤ) → ℕ → List ℤ → Type 0
Gave None after count out = ⊤
Gave (Some left) after count out = (count ≤ length left) × (take count out ≡ take count left) × (after ≡ Some (drop count left))

-- one file, before and after: its count of faults stands where no read failed
pub record SameReading (old new : Reading) : Type 0 where
  pub format : new.format ≡ old.format
  pub size : new.size ≡ old.size
  pub later : old.faults ≤ new.faults
  pub kept : new.failed ≡ false → (old.failed ≡ false) × (new.faults ≡ old.faults)
