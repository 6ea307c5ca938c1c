-- What the files give, where the host tells them.
--     IfBytes files name P      what holds of a name's bytes
--     IfBoth files asking P      and of the bytes of script and report
--     fault_of_script fault      the fault of a script's reading
--     IsOfOutside fault, IsOfScript files name fault      what a fault says that ended a reading
use Rattle.std.specs.Prelude.{◌≡◌, ◌≢◌, ℕ, List, take, ⊤, Option, Some, None}
use Rattle.jack_types.specs.declared.scripts.Cause.{Cause}
use Rattle.jack_types.specs.declared.scripts.Cause.TheVariants as cause
use Rattle.jack_types.specs.declared.scripts.ScriptFault.{ScriptFault}
use Rattle.jack_host.specs.Files.{bytes_under}
use Rattle.session_model.specs.Reading.{script_fault}
use Rattle.session_graph.specs.Askings.{Asking}
use Rattle.session_graph.specs.declared.faults.GraphFault.{GraphFault}
use Rattle.session_graph.specs.declared.faults.GraphFault.TheVariants.{NoMemory, Words, ReadFault, BadScript, WriteFault, Wrong}

abbrev pub Files : Type 0
Files = List (List ℕ × List ℕ)

abbrev pub IfBytes : Option Files → List ℕ → (List ℕ → Type 0) → Type 0
IfBytes None name P = ⊤
IfBytes (Some files) name P = (bytes : List ℕ) × (bytes_under files name ≡ Some bytes) × P bytes

-- of the script's bytes 1,048,577 are read at most
abbrev pub IfBoth : Option Files → Asking → (List ℕ → List ℕ → Type 0) → Type 0
IfBoth files asking P = IfBytes files asking.script (λ script. IfBytes files asking.report (λ report. P (take 1048577 script) report))

-- out of memory is no fault of the bytes
abbrev pub fault_by : Cause → ScriptFault → GraphFault
fault_by cause.Header fault = BadScript fault
fault_by cause.Unknown fault = BadScript fault
fault_by cause.Words fault = BadScript fault
fault_by cause.Number fault = BadScript fault
fault_by (cause.Range given least most) fault = BadScript fault
fault_by (cause.Name name) fault = BadScript fault
fault_by (cause.Choice given) fault = BadScript fault
fault_by (cause.Lane before given) fault = BadScript fault
fault_by (cause.TooMany many limit) fault = BadScript fault
fault_by cause.TooLong fault = BadScript fault
fault_by cause.Memory fault = NoMemory

abbrev pub fault_of_script : ScriptFault → GraphFault
fault_of_script fault = fault_by fault.cause fault

abbrev pub IsOfOutside : GraphFault → Type 0
IsOfOutside NoMemory = ⊤
IsOfOutside Words = ⊥
IsOfOutside ReadFault = ⊤
IsOfOutside (BadScript fault) = ⊥
IsOfOutside WriteFault = ⊥
IsOfOutside (Wrong row) = ⊥

abbrev pub IsOfScript : Option Files → List ℕ → GraphFault → Type 0
IsOfScript files name NoMemory = ⊤
IsOfScript files name Words = ⊥
IsOfScript files name ReadFault = ⊤
IsOfScript files name (BadScript fault) = (fault.cause ≢ cause.Memory) × IfBytes files name (λ bytes. script_fault (take 1048577 bytes) ≡ Some fault)
IsOfScript files name WriteFault = ⊥
IsOfScript files name (Wrong row) = ⊥
