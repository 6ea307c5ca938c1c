-- The line that tells of a fault.
--     fault_line status      the line of a status, where it has one
--     PutsFault old new faults faults_after status      what a sink gains by it
use Rattle.std.specs.Prelude.{◌≡◌, ℕ, ◌≤◌, ◌⊎◌, List, [], ◌∷◌, ◌++◌, length, take, codes, decimal, Option, Some, None}
use Rattle.jack_types.specs.declared.files.Field.{Field}
use Rattle.jack_types.specs.declared.files.Field.TheVariants.{Size, Tag, Channels, Rate, Bits, Align, Extended, Extra, Guid}
use Rattle.jack_types.specs.declared.files.WaveFault.{WaveFault}
use Rattle.jack_types.specs.declared.files.WaveFault.TheVariants.{NotRiff, NotWave, NoFormat, BadFormat, NoData, Ends, Read, TooManyChunks}
use Rattle.jack_types.specs.declared.scripts.Cause.{Cause}
use Rattle.jack_types.specs.declared.scripts.Cause.TheVariants as cause
use Rattle.jack_host.specs.Bytes.{Gains}
use Rattle.jack_host.specs.Causes.{Rose}
use Rattle.play_inputs.specs.declared.status.What.{What}
use Rattle.play_inputs.specs.declared.status.What.TheVariants as what
use Rattle.play_inputs.specs.declared.status.Status.{Status}
use Rattle.play_inputs.specs.declared.status.Status.TheVariants as status

abbrev pub field_name : Field → List ℕ
field_name Size = codes "Size"
field_name Tag = codes "Tag"
field_name Channels = codes "Channels"
field_name Rate = codes "Rate"
field_name Bits = codes "Bits"
field_name Align = codes "Align"
field_name Extended = codes "Extended"
field_name Extra = codes "Extra"
field_name Guid = codes "Guid"

abbrev pub wave_name : WaveFault → List ℕ
wave_name NotRiff = codes "NotRiff"
wave_name NotWave = codes "NotWave"
wave_name NoFormat = codes "NoFormat"
wave_name (BadFormat field value) = codes "BadFormat"
wave_name NoData = codes "NoData"
wave_name (Ends place) = codes "Ends"
wave_name Read = codes "Read"
wave_name TooManyChunks = codes "TooManyChunks"

-- a bad format tells its field and the value there, and an early end the number of bytes
abbrev pub wave_rest : WaveFault → List ℕ
wave_rest NotRiff = []
wave_rest NotWave = []
wave_rest NoFormat = []
wave_rest (BadFormat field value) = codes " " ++ field_name field ++ codes " " ++ decimal value
wave_rest NoData = []
wave_rest (Ends place) = codes " " ++ decimal place
wave_rest Read = []
wave_rest TooManyChunks = []

abbrev pub cause_name : Cause → List ℕ
cause_name cause.Header = codes "Header"
cause_name cause.Unknown = codes "Unknown"
cause_name cause.Words = codes "Words"
cause_name cause.Number = codes "Number"
cause_name (cause.Range given least most) = codes "Range"
cause_name (cause.Name fault) = codes "Name"
cause_name (cause.Choice given) = codes "Choice"
cause_name (cause.Lane before given) = codes "Lane"
cause_name (cause.TooMany many limit) = codes "TooMany"
cause_name cause.TooLong = codes "TooLong"
cause_name cause.Memory = codes "Memory"

abbrev pub what_name : What → List ℕ
what_name what.Guests = codes "Guests"
what_name what.Records = codes "Records"
what_name what.Rate = codes "Rate"
what_name what.Channels = codes "Channels"
what_name what.Disks = codes "Disks"
what_name what.DiskRate = codes "DiskRate"
what_name what.DiskChannels = codes "DiskChannels"

-- words, reading, a WAVE file, a script and a difference have a line; the others have none
abbrev pub fault_line : Status → Option (List ℕ)
fault_line status.Ok = None
fault_line status.NoMemory = None
fault_line status.Words = Some (codes "fault 2 words" ++ 10 ∷ [])
fault_line status.ReadFault = Some (codes "fault 3 read" ++ 10 ∷ [])
fault_line (status.BadWave fault) = Some (codes "fault 4 wave " ++ wave_name fault ++ wave_rest fault ++ 10 ∷ [])
fault_line (status.BadScript fault) = Some (codes "fault 5 script " ++ decimal fault.line ++ codes " " ++ cause_name fault.cause ++ 10 ∷ [])
fault_line status.WriteFault = None
fault_line (status.Differs difference) =
    Some (codes "fault 7 differs " ++ what_name difference.what ++ codes " " ++ decimal difference.script ++ codes " " ++ decimal difference.given ++ 10 ∷ [])
fault_line (status.Wrong row sight) = None

-- the line was put out, or a first part of it where the sink's count of faults rose
abbrev pub PutsLine : Option (List ℕ) → Option (List ℕ) → ℕ → ℕ → List ℕ → Type 0
PutsLine old new faults faults_after line =
    Gains old new line ⊎ (Rose faults faults_after × ((k : ℕ) × (k ≤ length line) × Gains old new (take k line)))

-- nothing is put where there is no line
abbrev pub PutsLineOf : Option (List ℕ) → Option (List ℕ) → Option (List ℕ) → ℕ → ℕ → Type 0
PutsLineOf (Some line) old new faults faults_after = PutsLine old new faults faults_after line
PutsLineOf None old new faults faults_after = Gains old new [] × (faults_after ≡ faults)

abbrev pub PutsFault : Option (List ℕ) → Option (List ℕ) → ℕ → ℕ → Status → Type 0
PutsFault old new faults faults_after state = PutsLineOf (fault_line state) old new faults faults_after × (faults ≤ faults_after)
