-- Faults: their exit codes, and the lines that tell of them.
--     code_of fault      the exit code
--     fault_line fault      the line, where it has one
--     PutsFault old new faults faults_after fault      what a sink gains by it
--     IsOwnFault fault      what a fault tells, whatever the host tells
use Rattle.std.specs.Prelude.{◌≡◌, ◌≢◌, ℕ, ◌≤◌, ◌⊎◌, List, [], ◌∷◌, ◌++◌, length, take, codes, decimal, ⊤, Option, Some, None}
use Rattle.jack_types.specs.declared.scripts.Cause.{Cause}
use Rattle.jack_types.specs.declared.scripts.Cause.TheVariants as cause
use Rattle.jack_types.specs.declared.replies.Part.{Part}
use Rattle.jack_types.specs.declared.replies.Part.TheVariants as part
use Rattle.check_sights.specs.Parts.{part_name}
use Rattle.jack_host.specs.Bytes.{Gains}
use Rattle.jack_host.specs.Causes.{Rose}
use Rattle.session_graph.specs.declared.faults.GraphFault.{GraphFault}
use Rattle.session_graph.specs.declared.faults.GraphFault.TheVariants.{NoMemory, Words, ReadFault, BadScript, WriteFault, Wrong}

abbrev pub code_of : GraphFault → ℕ
code_of NoMemory = 1
code_of Words = 2
code_of ReadFault = 3
code_of (BadScript fault) = 5
code_of WriteFault = 6
code_of (Wrong row) = 8

abbrev pub cause_name : Cause → List ℕ
cause_name cause.Header = codes "Header"
cause_name cause.Unknown = codes "Unknown"
cause_name cause.Words = codes "Words"
cause_name cause.Number = codes "Number"
cause_name (cause.Range given least most) = codes "Range"
cause_name (cause.Name fault) = codes "Name"
cause_name (cause.Choice given) = codes "Choice"
cause_name (cause.Lane before given) = codes "Lane"
cause_name (cause.TooMany many limit) = codes "TooMany"
cause_name cause.TooLong = codes "TooLong"
cause_name cause.Memory = codes "Memory"

-- out of memory and a text that could not be written have none
abbrev pub fault_line : GraphFault → Option (List ℕ)
fault_line NoMemory = None
fault_line Words = Some (codes "fault 2 words" ++ 10 ∷ [])
fault_line ReadFault = Some (codes "fault 3 read" ++ 10 ∷ [])
fault_line (BadScript fault) = Some (codes "fault 5 script " ++ decimal fault.line ++ codes " " ++ cause_name fault.cause ++ 10 ∷ [])
fault_line WriteFault = None
fault_line (Wrong row) = Some (codes "check wrong " ++ part_name row.what ++ codes " " ++ decimal row.number ++ 10 ∷ [])

-- the bytes were put out, and no put failed, or a first part of them where the sink's count of faults rose
abbrev pub PutsAll : Option (List ℕ) → Option (List ℕ) → ℕ → ℕ → List ℕ → Type 0
PutsAll old new faults faults_after bytes =
    (Gains old new bytes × (faults_after ≡ faults)) ⊎ (Rose faults faults_after × ((k : ℕ) × (k ≤ length bytes) × Gains old new (take k bytes)))

-- nothing is put where there is no line
abbrev pub PutsLine : Option (List ℕ) → Option (List ℕ) → ℕ → ℕ → Option (List ℕ) → Type 0
PutsLine old new faults faults_after (Some line) = PutsAll old new faults faults_after line
PutsLine old new faults faults_after None = Gains old new [] × (faults_after ≡ faults)

abbrev pub PutsFault : Option (List ℕ) → Option (List ℕ) → ℕ → ℕ → GraphFault → Type 0
PutsFault old new faults faults_after fault = PutsLine old new faults faults_after (fault_line fault)

-- a part of a report that is looked at
abbrev pub IsOwnPart : Part → Type 0
IsOwnPart part.Report = ⊤
IsOwnPart part.Call = ⊤
IsOwnPart part.Cycle = ⊤
IsOwnPart _ = ⊥

-- out of memory is no fault of a script, and a row has no place
abbrev pub IsOwnFault : GraphFault → Type 0
IsOwnFault NoMemory = ⊤
IsOwnFault Words = ⊤
IsOwnFault ReadFault = ⊤
IsOwnFault (BadScript fault) = fault.cause ≢ cause.Memory
IsOwnFault WriteFault = ⊤
IsOwnFault (Wrong row) = IsOwnPart row.what × (row.place ≡ 0)
