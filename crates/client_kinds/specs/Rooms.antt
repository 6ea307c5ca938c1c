-- What a kind keeps, and the room that it has.
--     IsKept kind lines phase      a delay has a line for each place, and a wave a frame within its length
--     HasRoom kind period room      a disk player has room for a block of eight channels
--     HasSums kind period room      a mix has room for its sums
--     IsPlain kind memory      a guest's own numbers are all that its kind remembers
--     IsRoomy kind period room memory      what stays true of a bench
--     HasMixed count period inputs sums      the sums are those of the inputs, but of an input alone
--     IsMixed kind count period inputs sums      the sums of a mix are those of its inputs
use Rattle.std.specs.Prelude.{◌≡◌, ℕ, ◌*◌, ◌<◌, ◌≤◌, ⊤, List, length, ℤ}
use Rattle.port_mixer.specs.jack_types.specs.declared.kinds.Kind.{Kind}
use Rattle.port_mixer.specs.jack_types.specs.declared.kinds.Kind.TheVariants.{Mix, Delay, Tone, Guest, Disk}
use Rattle.circular_buffer.specs.Buffer.{Buffer}
use Rattle.port_mixer.specs.session_model.specs.Kinds.{Memory, no_memory}
use Rattle.port_mixer.specs.Sums.{sums_of}

abbrev pub IsKept : Kind → List (Buffer ℤ) → ℕ → Type 0
IsKept (Delay frames) lines phase = length lines ≡ 16
IsKept (Tone half level) lines phase = phase < 2 * half
IsKept _ lines phase = ⊤

abbrev pub HasRoom : Kind → ℕ → ℕ → Type 0
HasRoom (Disk disk) period room = room ≡ 8 * period
HasRoom _ period room = ⊤

-- of inputs that are not one alone
abbrev pub HasMixed : ℕ → ℕ → List (List ℤ) → List ℤ → Type 0
HasMixed count period inputs sums = (count ≡ 1 → ⊥) → sums ≡ sums_of period inputs

abbrev pub IsMixed : Kind → ℕ → ℕ → List (List ℤ) → List ℤ → Type 0
IsMixed Mix count period inputs sums = HasMixed count period inputs sums
IsMixed _ count period inputs sums = ⊤

-- a mix has room for its sums
abbrev pub HasSums : Kind → ℕ → ℕ → Type 0
HasSums Mix period room = period ≤ room
HasSums _ period room = ⊤

-- a guest's own numbers are all that its kind remembers
abbrev pub IsPlain : Kind → Memory → Type 0
IsPlain (Guest guest) memory = memory ≡ no_memory
IsPlain _ memory = ⊤

-- what stays true of a bench
pub record IsRoomy (kind : Kind) (period room : ℕ) (memory : Memory) : Type 0 where
  pub sums : HasSums kind period room
  pub plain : IsPlain kind memory
