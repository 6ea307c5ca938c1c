-- What each step of reading a header takes from its source, and what it meets.
use Rattle.std.specs.Prelude.{◌≡◌, ℕ, ◌^◌, ◌<◌, ◌≤◌, ⊤, List, length, drop, Option, Some, None, IfSome, Result, Ok, Err}
use Rattle.samples.specs.jack_types.specs.declared.files.WaveFault.{WaveFault}
use Rattle.samples.specs.session_model.specs.WaveOpening.{Step}
use Rattle.samples.specs.session_model.specs.WaveOpening.Step.{Stop, Go}
use Rattle.wave_pcm.specs.Readings.{IsReadable}
use Rattle.wave_pcm.specs.declared.chunks.Next.{Next}
use Rattle.wave_pcm.specs.declared.chunks.Next.TheVariants.{Chunk, Data}

-- so many bytes were taken, where they are told
abbrev pub Drops : Option (List ℕ) → Option (List ℕ) → ℕ → Type 0
Drops None new count = ⊤
Drops (Some xs) None count = ⊥
Drops (Some xs) (Some ys) count = (count ≤ length xs) × (ys ≡ drop count xs)

-- the step that an answer speaks of
abbrev pub met : Result Next WaveFault → List ℕ → Step
met (Ok (Data format size)) bytes = Stop (Ok (record { format = format; size = size; rest = drop 8 bytes }))
met (Ok (Chunk found total)) bytes = Go found total
met (Err fault) bytes = Stop (Err fault)

-- how many bytes it took
abbrev pub taken : Next → ℕ
taken (Data format size) = 8
taken (Chunk found total) = total

-- the format that it knows may be read, and a size has four bytes
abbrev pub IsReadableNext : Next → Type 0
IsReadableNext (Data format size) = IsReadable format × (size < 2 ^ 32)
IsReadableNext (Chunk found total) = IfSome found IsReadable
