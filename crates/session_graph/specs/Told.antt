-- What the lines of calls tell.
--     call_told script line      the call of the script that a line tells of, if there is one
--     history_told script lines      the calls that the lines tell of, each with its reply
--     run_changes script changes      the state behind changes
--     AreRight script lines      calls of the script, each answered as its line says
--     IsUsed script lines number state      the state behind the first accepted calls of the lines
--     IsOfRow script lines number cycle row part      there are no such calls: a call or the cycle is wrong
use Rattle.std.specs.Prelude.{◌≡◌, ℕ, ◌+◌, ◌-◌, ◌<◌, ◌≤◌, ◌==◌, nat_le, ◌&&◌, List, count_by, filter_map, length, slice_get, take, Option, Some, None, option_map, if◌then◌else◌}
use Rattle.jack_types.specs.declared.commands.Change.{Change}
use Rattle.jack_types.specs.declared.replies.Entry.{Entry}
use Rattle.jack_types.specs.declared.replies.Part.{Part}
use Rattle.jack_types.specs.declared.replies.Part.TheVariants as part
use Rattle.jack_types.specs.declared.replies.Row.{Row}
use Rattle.session_model.specs.Commands.{replay}
use Rattle.session_model.specs.Histories.{accepted, state_after}
use Rattle.session_model.specs.Replies.{reply}
use Rattle.session_model.specs.Scripts.{Script, Planned, planned_of}
use Rattle.session_model.specs.State.{State, opening}
use Rattle.report_reader.specs.Forms.{printed_reply}
use Rattle.report_reader.specs.Reports.{reply_row}
use Rattle.report_reader.specs.declared.rows.CallLine.{CallLine}

-- lanes 0 to 4 have calls, each counted from 1
abbrev pub call_told : Script → CallLine → Option Planned
call_told script line = if nat_le line.lane 4 && nat_le 1 line.index then slice_get (planned_of script line.lane) (line.index - 1) else None

abbrev pub entry_told : Script → CallLine → Option Entry
entry_told script line = option_map (λ (plan : Planned). record { call = plan.call; reply = printed_reply line.reply }) (call_told script line)

abbrev pub history_told : Script → List CallLine → List Entry
history_told script lines = filter_map (entry_told script) lines

abbrev pub run_changes : Script → List Change → State
run_changes script changes = replay (opening script.header.capture script.header.playback) changes

-- a call of the script, the next of its lane, answered as the replay of the calls before it answers it
pub record IsRight (script : Script) (before : List CallLine) (line : CallLine) : Type 0 where
  pub plan : Planned
  pub told : call_told script line ≡ Some plan
  pub next : line.index ≡ count_by (λ (other : CallLine). other.lane == line.lane) before + 1
  pub answered : line.reply ≡ reply_row (reply (state_after script (history_told script before)) (length (accepted (history_told script before)) + 1) plan.call.command)

abbrev pub AreRight : Script → List CallLine → Type 0
AreRight script lines = (i : ℕ) (line : CallLine) → slice_get lines i ≡ Some line → IsRight script (take i lines) line

-- so many calls are right and have just that many accepted ones
pub record IsUsed (script : Script) (lines : List CallLine) (number : ℕ) (state : State) : Type 0 where
  pub state_is : state ≡ run_changes script (take number (accepted (history_told script lines)))
  pub made : ℕ
  pub right : AreRight script (take made lines)
  pub number_is : length (accepted (history_told script (take made lines))) ≡ number

-- call n is the first that is not right, and fewer were accepted before it
pub record IsWrongCall (script : Script) (lines : List CallLine) (number n : ℕ) : Type 0 where
  pub right : AreRight script (take (n - 1) lines)
  pub line : CallLine
  pub at : slice_get lines (n - 1) ≡ Some line
  pub counted : 1 ≤ n
  pub wrong : IsRight script (take (n - 1) lines) line → ⊥
  pub fewer : length (accepted (history_told script (take (n - 1) lines))) < number

-- all calls are right, and fewer were accepted
pub record IsTooMany (script : Script) (lines : List CallLine) (number : ℕ) : Type 0 where
  pub right : AreRight script lines
  pub fewer : length (accepted (history_told script lines)) < number

abbrev pub IsOfRow : Script → List CallLine → ℕ → ℕ → Row → Part → Type 0
IsOfRow script lines number cycle row part.Call = IsWrongCall script lines number row.number
IsOfRow script lines number cycle row part.Cycle = (row.number ≡ cycle) × IsTooMany script lines number
IsOfRow script lines number cycle row _ = ⊥
