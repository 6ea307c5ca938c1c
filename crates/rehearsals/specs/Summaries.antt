-- What is printed of a rehearsal that was played.
--     IsRehearsal n history playback      they are the history and the playback's file of serial mode. Callers cite it
--     IsWithin x most      its magnitude is at most this. No public clause cites it
--     units_behind bytes, IsTold n history units lines      what the lines are told from. No public clause cites them
--     summary_of n refused peak sum      the six lines of these numbers. No public clause cites it
use Rattle.std.specs.Prelude.{◌≡◌, ℕ, ◌-◌, ◌≤◌, List, ◌++◌, codes, count_by, decimal, drop, map, ℤ, nat_abs}
use Rattle.jack_types.specs.declared.replies.Entry.{Entry}
use Rattle.rehearsal_model.specs.Rehearsals.{greatest, is_refused, rehearsal}
use Rattle.session_model.specs.Explanations.{playback_text}
use Rattle.session_model.specs.Grammar.{int_text}
use Rattle.session_model.specs.Samples.{down, samples_of, total}
use Rattle.session_model.specs.Serial.{serial}

pub record IsRehearsal (n : ℕ) (history : List Entry) (playback : List ℕ) : Type 0 where
  pub history_is : history ≡ (serial (rehearsal n).script).history
  pub playback_is : playback ≡ playback_text (rehearsal n) (serial (rehearsal n).script)

abbrev pub IsWithin : ℤ → ℕ → Type 0
IsWithin x most = nat_abs x ≤ most

-- the numbers of 16 bits behind a file's header
abbrev pub units_behind : List ℕ → List ℤ
units_behind bytes = map (down 16) (samples_of 16 (drop 44 bytes))

abbrev pub summary_of : ℕ → ℕ → ℕ → ℤ → List ℕ
summary_of n refused peak sum =
    codes "rehearse " ++ decimal n ++ codes "\ncalls 263 accepted " ++ decimal (263 - refused) ++ codes " refused " ++ decimal refused
    ++ codes "\ncycles 10000 frames 640000\nplayback 2560044 peak " ++ decimal peak ++ codes " sum " ++ int_text sum
    ++ codes "\nrecord 1280044 blocks 10000 overruns 0\nend\n"

-- the lines tell of this history and of these numbers
abbrev pub IsTold : ℕ → List Entry → List ℤ → List ℕ → Type 0
IsTold n history units lines = lines ≡ summary_of n (count_by (λ (entry : Entry). is_refused entry.reply) history) (greatest units) (total units)
