-- What the clients of a plan of three nodes hear of MIDI.
use Rattle.std.proofs.Common.{◌≡◌, ℕ, [], ◌∷◌, refl}
use Rattle.session_model.specs.Scripts.{Script}
use Rattle.midi_wiring.specs.Hearings.{heard_by}
use Rattle.driver_words.specs.Hearings.{Heard, carried_at, log_at}
use Rattle.midi_stage.specs.Standing.{quiet_heard}
use Rattle.midi_wiring.specs.Wirings.{MidiWired}
use Rattle.midi_wiring.specs.declared.joints.MidiFrom.TheVariants.{Played, Kept, Nothing}
use Rattle.model_rows.specs.Given.{event_at}

-- node 2 has two inputs. Node 1 was connected to the first one before node 0, then the output of birth 7 by a feedback edge; no client is at the second one's connection.
abbrev wiring : MidiWired
wiring = record {
  widths = record { inputs = 0; outputs = 1 } ∷ record { inputs = 0; outputs = 1 } ∷ record { inputs = 2; outputs = 1 } ∷ [];
  joints = record { node = 2; input = 0; from = Played 1 } ∷ record { node = 2; input = 1; from = Nothing } ∷ record { node = 2; input = 0; from = Played 0 } ∷ record { node = 2; input = 0; from = Kept 7 } ∷ [];
  given = record { birth = 5; node = 0 } ∷ record { birth = 6; node = 1 } ∷ record { birth = 7; node = 2 } ∷ [];
}

-- nodes 0 and 1 play an event at frame 3 each; the output of birth 7 had one at frame 0 in the cycle before
abbrev heard : Heard
heard = record {
  lists = [];
  period = 64;
  played = (event_at 3 (0x90 ∷ []) ∷ []) ∷ (event_at 3 (0x91 ∷ []) ∷ []) ∷ [] ∷ [];
  carried = record { birth = 5; events = event_at 3 (0x90 ∷ []) ∷ [] } ∷ record { birth = 6; events = event_at 3 (0x91 ∷ []) ∷ [] } ∷ record { birth = 7; events = [] } ∷ [];
  before = record { birth = 7; events = event_at 0 (0x87 ∷ []) ∷ [] } ∷ [];
  logs = [];
}

-- by offset, and of the same offset that of the connection which was made first
heard_by_two : heard_by wiring heard 2 ≡ (event_at 0 (0x87 ∷ []) ∷ event_at 3 (0x91 ∷ []) ∷ event_at 3 (0x90 ∷ []) ∷ []) ∷ [] ∷ []
heard_by_two = refl

-- a node without inputs hears nothing
heard_by_none : heard_by wiring heard 0 ≡ []
heard_by_none = refl

-- what an output carries is of this cycle, not of the one before
carried_now : carried_at heard.carried 7 ≡ []
carried_now = refl

carried_by_another : carried_at heard.carried 8 ≡ []
carried_by_another = refl

-- before the first cycle all inputs are empty, and so are the logs
heard_at_first : (script : Script) (period : ℕ) → heard_by wiring (quiet_heard script period) 2 ≡ [] ∷ [] ∷ []
heard_at_first script period = refl

log_at_first : (script : Script) (period : ℕ) → log_at (quiet_heard script period) 4 ≡ []
log_at_first script period = refl
