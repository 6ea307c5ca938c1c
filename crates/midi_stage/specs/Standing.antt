-- What contracts see of the stage of MIDI clients between two cycles.
--     OnMidi      the script, the changes of the plan that was played last, and what was heard
--     device_of script      the channels that its plans are for
--     quiet_heard script period      where no MIDI client ever played
--     HearsNobody old period new      in a cycle nobody played
use Rattle.std.specs.Prelude.{◌≡◌, ℕ, ◌==◌, List, [], if◌then◌else◌}
use Rattle.jack_types.specs.declared.commands.Change.{Change}
use Rattle.graph_word.specs.declared.plans.Base.{Base}
use Rattle.session_model.specs.Scripts.{Script}
use Rattle.driver_words.specs.Hearings.{Heard, log_at}

-- no change before the first cycle
pub record OnMidi : Type 0 where
  pub script : Script
  pub changes : List Change
  pub heard : Heard

abbrev pub device_of : Script → Base
device_of script = record { capture = script.header.capture; playback = script.header.playback }

abbrev pub quiet_heard : Script → ℕ → Heard
quiet_heard script period = record { lists = script.events; period = period; played = []; carried = []; before = []; logs = [] }

-- nothing is played or carried, and all logs stay
pub record HearsNobody (old : Heard) (period : ℕ) (new : Heard) : Type 0 where
  pub lists : new.lists ≡ old.lists
  pub period_is : new.period ≡ period
  pub before : new.before ≡ (if old.period == period then old.carried else [])
  pub played : new.played ≡ []
  pub carried : new.carried ≡ []
  pub logs : (birth : ℕ) → log_at new birth ≡ log_at old birth
