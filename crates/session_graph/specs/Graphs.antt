-- What is put out, and where each fault comes.
--     IsShown asking script report text      the text of the graph that a cycle used
--     IsPut, IsCut files out out_after asking      it was put out, or a first part of it
--     LacksFile files asking      a file that a step opens is not there
--     IsFaultOf files words fault      what the words and the files have where a fault is answered
--     ForGraph words P      of what the words ask for
--     HasRefusal, HasGraph      where the host tells its files: what must be answered
use Rattle.std.specs.Prelude.{◌≡◌, ℕ, ◌<◌, ◌≤◌, ◌⊎◌, Bool, true, false, List, length, take, ⊤, Option, Some, None}
use Rattle.jack_types.specs.declared.replies.Part.TheVariants as part
use Rattle.jack_types.specs.declared.replies.Row.{Row}
use Rattle.jack_host.specs.Bytes.{Gains}
use Rattle.jack_host.specs.Files.{IsThere}
use Rattle.session_model.specs.Grammar.{Spells}
use Rattle.session_model.specs.Reading.{script_fault}
use Rattle.session_model.specs.Scripts.{Script, turns}
use Rattle.session_model.specs.State.{State}
use Rattle.report_reader.specs.declared.rows.CallLine.{CallLine}
use Rattle.report_reader.specs.declared.rows.CycleLine.{CycleLine}
use Rattle.session_graph.specs.Askings.{Asking, IsGraph}
use Rattle.session_graph.specs.Files.{Files, IfBoth, IfBytes}
use Rattle.session_graph.specs.Fronts.{IsBroken, IsFront}
use Rattle.session_graph.specs.Texts.{graph_text}
use Rattle.session_graph.specs.Told.{IsOfRow, IsUsed}
use Rattle.session_graph.specs.declared.faults.GraphFault.{GraphFault}
use Rattle.session_graph.specs.declared.faults.GraphFault.TheVariants.{NoMemory, Words, ReadFault, BadScript, WriteFault, Wrong}

-- of the text for graphviz nothing is said
abbrev pub IsTextOf : Bool → CycleLine → State → List ℕ → Type 0
IsTextOf false cycle state text = text ≡ graph_text cycle state
IsTextOf true cycle state text = ⊤

-- the script's bytes spell a script, the report's tell its calls and the cycle's line, and the text is of the state behind so many accepted calls as that line says
pub record IsShown (asking : Asking) (script_bytes report_bytes : List ℕ) (text : List ℕ) : Type 0 where
  pub script : Script
  pub spelled : Spells script_bytes script
  pub calls : List CallLine
  pub cycle : CycleLine
  pub cycle_is : cycle.cycle ≡ asking.cycle
  pub front : IsFront script report_bytes calls cycle
  pub state : State
  pub used : IsUsed script calls cycle.number state
  pub text_is : IsTextOf asking.dot cycle state text

-- behind what was there, where the files, and the sink, are told
abbrev pub IsPut : Option Files → Option (List ℕ) → Option (List ℕ) → Asking → Type 0
IsPut files out out_after asking = (text : List ℕ) × Gains out out_after text × IfBoth files asking (λ script report. IsShown asking script report text)

abbrev pub IsCut : Option Files → Option (List ℕ) → Option (List ℕ) → Asking → Type 0
IsCut files out out_after asking =
    (text : List ℕ) × (k : ℕ) × (k ≤ length text) × Gains out out_after (take k text) × IfBoth files asking (λ script report. IsShown asking script report text)

-- the cycle's line is told, and a call before its graph is not right, or it has more changes than were accepted
pub record IsWrongCycle (script : Script) (bytes : List ℕ) (cycle : ℕ) (row : Row) : Type 0 where
  pub calls : List CallLine
  pub line : CycleLine
  pub cycle_is : line.cycle ≡ cycle
  pub front : IsFront script bytes calls line
  pub wrong : IsOfRow script calls line.number cycle row row.what

-- the first wrong line before the cycle's, or else the first wrong call
abbrev pub IsWrongPart : Script → List ℕ → ℕ → Row → Type 0
IsWrongPart script bytes cycle row = ((row.what ≡ part.Report) × IsBroken script bytes cycle row.number) ⊎ IsWrongCycle script bytes cycle row

-- in a report of a script that has the cycle
pub record IsWrongRow (script_bytes report_bytes : List ℕ) (cycle : ℕ) (row : Row) : Type 0 where
  pub script : Script
  pub spelled : Spells script_bytes script
  pub within : cycle ≤ length (turns script)
  pub place : row.place ≡ 0
  pub wrong : IsWrongPart script report_bytes cycle row

-- the cycle is behind the script's last
pub record IsBehindLast (script_bytes : List ℕ) (cycle : ℕ) : Type 0 where
  pub script : Script
  pub spelled : Spells script_bytes script
  pub behind : length (turns script) < cycle

pub record HasCycle (script_bytes : List ℕ) (cycle : ℕ) : Type 0 where
  pub script : Script
  pub spelled : Spells script_bytes script
  pub within : cycle ≤ length (turns script)

-- the script is not there, or it has the cycle, and the report is not there
abbrev pub LacksFile : Option Files → Asking → Type 0
LacksFile files asking =
    (IsThere files asking.script → ⊥)
    ⊎ (IfBytes files asking.script (λ bytes. HasCycle (take 1048577 bytes) asking.cycle) × (IsThere files asking.report → ⊥))

abbrev pub HasFault : Option Files → Asking → GraphFault → Type 0
HasFault files asking NoMemory = ⊤
HasFault files asking Words = IfBytes files asking.script (λ bytes. IsBehindLast (take 1048577 bytes) asking.cycle)
HasFault files asking ReadFault = ⊤
HasFault files asking (BadScript fault) = IfBytes files asking.script (λ bytes. script_fault (take 1048577 bytes) ≡ Some fault)
HasFault files asking WriteFault = ⊥
HasFault files asking (Wrong row) = IfBoth files asking (λ script report. IsWrongRow script report asking.cycle row)

-- the words are an asking that has the fault, or are none
abbrev pub IsFaultOf : Option Files → List (List ℕ) → GraphFault → Type 0
IsFaultOf files words fault = ((asking : Asking) × IsGraph words asking × HasFault files asking fault) ⊎ ((fault ≡ Words) × ((asking : Asking) → IsGraph words asking → ⊥))

abbrev pub ForGraph : List (List ℕ) → (Asking → Type 0) → Type 0
ForGraph words P = (asking : Asking) → IsGraph words asking → P asking

-- the files have what this fault tells
abbrev pub HasRefusal : Option Files → Asking → GraphFault → Type 0
HasRefusal None asking fault = ⊥
HasRefusal (Some files) asking NoMemory = ⊥
HasRefusal (Some files) asking Words = HasFault (Some files) asking Words
HasRefusal (Some files) asking ReadFault = LacksFile (Some files) asking
HasRefusal (Some files) asking (BadScript fault) = HasFault (Some files) asking (BadScript fault)
HasRefusal (Some files) asking WriteFault = ⊥
HasRefusal (Some files) asking (Wrong row) = HasFault (Some files) asking (Wrong row)

-- the files have a graph of the cycle, with this text
abbrev pub HasGraph : Option Files → Asking → List ℕ → Type 0
HasGraph None asking text = ⊥
HasGraph (Some files) asking text = IfBoth (Some files) asking (λ script report. IsShown asking script report text)
