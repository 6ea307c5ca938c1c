-- What callers see of a bench.
--     Standing      its kind, the greatest period, its guest's score, and its memory
--     IsPlayable kind      the kind's numbers are in range
--     HasScore bench scores      the scores of the program's guests have the guest's at its place
use Rattle.std.specs.Prelude.{◌≡◌, ℕ, ◌≤◌, ⊤, List, slice_get, ℤ, negsuc, ◌≤ℤ◌, IsSome, Option}
use Rattle.port_mixer.specs.jack_types.specs.declared.kinds.Kind.{Kind}
use Rattle.port_mixer.specs.jack_types.specs.declared.kinds.Kind.TheVariants.{Gain, Delay, Tone, Guest, Disk}
use Rattle.port_mixer.specs.session_model.specs.Kinds.{Memory}
use Rattle.client_kinds.specs.Scores.{Score}

pub record Standing : Type 0 where
  pub kind : Kind
  pub period : ℕ
  pub score : Option Score
  pub memory : Memory

-- a wave has at least a frame, and its level has an opposite
pub record IsWave (half : ℕ) (level : ℤ) : Type 0 where
  pub least : 1 ≤ half
  pub most : half ≤ 65536
  pub opposite : negsuc 2147483646 ≤ℤ level

abbrev pub IsPlayable : Kind → Type 0
IsPlayable (Gain factor shift) = shift ≤ 31
IsPlayable (Delay frames) = frames ≤ 4096
IsPlayable (Tone half level) = IsWave half level
IsPlayable _ = ⊤

-- of a bench that asks a guest
abbrev pub HasScore : Standing → List Score → Type 0
HasScore bench scores = scored bench.kind
  where
    scored : Kind → Type 0
    scored (Guest guest) = slice_get scores guest ≡ bench.score
    scored _ = ⊤

abbrev pub IsGuest : Kind → Type 0
IsGuest (Guest guest) = ⊤
IsGuest _ = ⊥

abbrev pub IsDisk : Kind → Type 0
IsDisk (Disk disk) = ⊤
IsDisk _ = ⊥

-- a guest's bench has its guest
abbrev pub HasGuest : Kind → Option Score → Type 0
HasGuest (Guest guest) score = IsSome score
HasGuest _ score = ⊤
