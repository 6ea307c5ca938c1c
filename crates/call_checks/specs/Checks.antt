-- What contracts see of a report's calls, as they are checked one by one.
--     Checks      the script, the entries of the calls that were right, and whether a call was wrong
--     told lane index reply      what a line of a report says of a call
--     GoesOn checks line entry      the line's call may come next, with its reply
--     Answers checks line right after      what is answered to a line, and what is behind it
use Rattle.std.specs.Prelude.{◌≡◌, ℕ, Bool, true, false, List, [], ◌∷◌, ◌++◌, Some}
use Rattle.jack_types.specs.declared.replies.Entry.{Entry}
use Rattle.jack_types.specs.declared.replies.Reply.{Reply}
use Rattle.check_model.specs.Checking.{entry_of}
use Rattle.session_model.specs.Histories.{LegalSoFar}
use Rattle.session_model.specs.Reports.{PrintedCall}
use Rattle.session_model.specs.Scripts.{Script}

pub record Checks : Type 0 where
  pub script : Script
  pub history : List Entry
  pub wrong : Bool

abbrev pub told : ℕ → ℕ → Reply → PrintedCall
told lane index reply = record { lane = lane; index = index; reply = reply }

-- no call was wrong, the script has the line's call, and with its entry the history is legal so far
pub record GoesOn (checks : Checks) (line : PrintedCall) (entry : Entry) : Type 0 where
  pub none_wrong : checks.wrong ≡ false
  pub planned : entry_of checks.script line ≡ Some entry
  pub legal : LegalSoFar checks.script (checks.history ++ entry ∷ [])

-- right where the history goes on by the line, and then longer by its entry; else wrong, and the history stays
abbrev pub Answers : Checks → PrintedCall → Bool → Checks → Type 0
Answers checks line true after = (entry : Entry) × GoesOn checks line entry × (after ≡ record checks { history = checks.history ++ entry ∷ [] })
Answers checks line false after = ((entry : Entry) → GoesOn checks line entry → ⊥) × (after ≡ record checks { wrong = true })
