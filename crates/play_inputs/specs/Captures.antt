-- The capture of a play, as it was opened.
--     IsOpened files name header left      the name's bytes are a wave that fits the script, with these samples left
--     CaptureStatus files name header status      what a status says that ended the opening of a capture
use Rattle.std.specs.Prelude.{◌≡◌, ℕ, List, ⊤, ℤ, Option, Some}
use Rattle.jack_types.specs.declared.files.WaveFault.{WaveFault}
use Rattle.jack_types.specs.declared.files.WaveFault.TheVariants.{NotRiff, NotWave, NoFormat, BadFormat, NoData, Ends, Read, TooManyChunks}
use Rattle.jack_types.specs.declared.scripts.Header.{Header}
use Rattle.play_inputs.specs.declared.status.Status.{Status}
use Rattle.play_inputs.specs.declared.status.Status.TheVariants.{Ok, NoMemory, Words, ReadFault, BadWave, BadScript, WriteFault, Differs, Wrong}
use Rattle.play_inputs.specs.Inputs.{Files, IfBytes, IsBadWave, IsCapture, IsDifferent}

abbrev pub IsOpened : Option Files → List ℕ → Header → Option (List ℤ) → Type 0
IsOpened files name header left = IfBytes files name (λ bytes. (samples : List ℤ) × IsCapture bytes header samples × (left ≡ Some samples))

-- a failed read is no fault of the bytes
abbrev pub status_of_wave : WaveFault → Status
status_of_wave NotRiff = BadWave NotRiff
status_of_wave NotWave = BadWave NotWave
status_of_wave NoFormat = BadWave NoFormat
status_of_wave (BadFormat field value) = BadWave (BadFormat field value)
status_of_wave NoData = BadWave NoData
status_of_wave (Ends place) = BadWave (Ends place)
status_of_wave Read = ReadFault
status_of_wave TooManyChunks = BadWave TooManyChunks

abbrev pub CaptureStatus : Option Files → List ℕ → Header → Status → Type 0
CaptureStatus files name header Ok = ⊥
CaptureStatus files name header NoMemory = ⊥
CaptureStatus files name header Words = ⊥
CaptureStatus files name header ReadFault = ⊤
CaptureStatus files name header (BadWave fault) = IfBytes files name (λ bytes. IsBadWave bytes fault)
CaptureStatus files name header (BadScript fault) = ⊥
CaptureStatus files name header WriteFault = ⊥
CaptureStatus files name header (Differs difference) = IfBytes files name (λ bytes. IsDifferent bytes header difference)
CaptureStatus files name header (Wrong row sight) = ⊥
