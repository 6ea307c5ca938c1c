-- No client of a lawful script's is late by more than 4,096 frames.
--     short-opening, short-after      before the first command, and behind one
--     plan-lawful      the commands that lines tell of are lawful
use Rattle.std.proofs.Common.{◌≡◌, ℕ, Bool, true, false, cond, ◌==◌, slice_get, Some, None, arith}
use Rattle.std.specs.Prelude.{nat_le, ◌&&◌, ◌-◌}
use Rattle.jack_types.specs.declared.commands.Command.{Command}
use Rattle.jack_types.specs.declared.scripts.Header.{Header}
use Rattle.session_model.specs.Commands.{after}
use Rattle.session_model.specs.Grammar.{IsScript, IsCommand}
use Rattle.session_model.specs.Scripts.{Script, Planned, planned, planned_of}
use Rattle.session_model.specs.State.{State, opening}
use Rattle.session_laws.proofs.ListLemmas.{Contains-filtered}
use Rattle.session_laws.proofs.SerialLossLemmas.{All-from_each}
use Rattle.check_laws.proofs.PlaceLists.{none-some}
use Rattle.check_laws.proofs.SameLemmas.{Each-from_all}
use Rattle.port_registry.proofs.PlaceLemmas.{slice_get-contains}
use Rattle.call_laws.proofs.ScriptLemmas.{planned-lawful}
use Rattle.call_laws.proofs.StateLemmas.{IsShort, after-short}
use Rattle.graph_replies.specs.Told.{HasShortDelays}
use Rattle.report_reader.specs.declared.rows.CallLine.{CallLine}
use Rattle.session_graph.specs.Told.{call_told}

pub short-after : (header : Header) (state : State) (number : ℕ) (command : Command) → IsCommand header command → HasShortDelays state → HasShortDelays (after state number command)
short-after header state number command c h =
    All-from_each IsShort (after state number command).clients (after-short header state number command c (Each-from_all IsShort state.clients h))

pub short-opening : (capture playback : ℕ) → HasShortDelays (opening capture playback)
short-opening capture playback = All-from_each IsShort (opening capture playback).clients (omega arith, tt)

pub plan-lawful : (script : Script) → IsScript script → (line : CallLine) (plan : Planned) → call_told script line ≡ Some plan → IsCommand script.header plan.call.command
plan-lawful script is line plan told = go (nat_le line.lane 4 && nat_le 1 line.index) told
  where
    go : (b : Bool) → cond b (slice_get (planned_of script line.lane) (line.index - 1)) None ≡ Some plan → IsCommand script.header plan.call.command
    go true e = planned-lawful script is plan (Contains-filtered (λ (p : Planned). p.call.lane == line.lane) (planned script) plan (slice_get-contains (planned_of script line.lane) (line.index - 1) plan e))
    go false e = absurd (none-some plan e)
