-- What contracts see of a desk, and what its calls do.
--     Desk      what is seen of it
--     IsDesk desk      what its type keeps
--     IsNewDesk script publisher desk, MayBegin, Begins, MayStep, Steps      its calls
--     GoesOn opened desk      the same desk, later in its phase
use Rattle.std.specs.Prelude.{◌≡◌, ℕ, zero, suc, ◌+◌, ◌*◌, ◌<◌, ◌≤◌, ◌==◌, nat_le, List, [], ◌∷◌, ◌++◌, length, take, count_by, slice_get, sum_by, Contains, All, Option, Some, None, if◌then◌else◌}
use Rattle.jack_types.specs.declared.commands.Call.{Call}
use Rattle.jack_types.specs.declared.replies.Entry.{Entry}
use Rattle.jack_types.specs.declared.replies.Reply.{Reply}
use Rattle.graph_word.specs.declared.plans.Base.{Base}
use Rattle.graph_word.specs.Publications.{Publishing, Looks, IsFront}
use Rattle.session_model.specs.Histories.{LegalSoFar, accepted, calls_of, plan_of}
use Rattle.session_model.specs.Publication.{SeenPair}
use Rattle.session_model.specs.Scripts.{Script, Phase, Planned, phases, planned, planned_of}
use Rattle.session_model.specs.Serial.{answered}
use Rattle.control_desk.specs.declared.steps.Stepped.{Stepped}
use Rattle.control_desk.specs.declared.steps.Stepped.TheVariants.{Did, NotYet, Done}

-- `phase` is the number of phases begun: the present one is the one before
pub record Desk : Type 0 where
  pub script : Script
  pub history : List Entry
  pub phase : ℕ
  pub publishing : Publishing

abbrev pub base_of : Script → Base
base_of script = record { capture = script.header.capture; playback = script.header.playback }

-- the cycles of the script's segments before a phase
abbrev pub cycles_before : Script → ℕ → ℕ
cycles_before script phase = sum_by (λ (p : Phase). p.cycles) (take phase (phases script))

-- how many calls a lane made
abbrev pub made : List Entry → ℕ → ℕ
made history lane = count_by (λ (call : Call). call.lane == lane) (calls_of history)

-- a plan of the phases begun: stages of phase p, counted from 0, are 2p and 2p + 1
abbrev pub within : ℕ → Option Planned → Option Planned
within phases None = None
within phases (Some plan) = if nat_le (plan.stage + 1) (2 * phases) then Some plan else None

-- the lane's next call, if it has one in the phases begun
abbrev pub next_call : Desk → ℕ → Option Planned
next_call desk lane = within desk.phase (slice_get (planned_of desk.script lane) (made desk.history lane))

-- a call that waits for a cycle was made when the desk had seen that cycle, or a later one, and what was published then was all that was accepted before the call
abbrev pub KeepsSeen : Script → List Entry → List SeenPair → Type 0
KeepsSeen script history pairs =
    (i : ℕ) (entry : Entry) (plan : Planned) → slice_get history i ≡ Some entry → plan_of script entry.call ≡ Some plan → 1 ≤ plan.asked
    → (pair : SeenPair) × Contains pairs pair × (plan.asked ≤ pair.cycle) × (pair.number ≡ length (accepted (take i history)))

-- the desk has seen what the call waits for, and what is published now was published then
abbrev pub HasSeen : Desk → Planned → Type 0
HasSeen desk plan = 1 ≤ plan.asked → (pair : SeenPair) × Contains desk.publishing.pairs pair × (plan.asked ≤ pair.cycle) × (pair.number ≡ length (accepted desk.history))

-- a call made is of a phase begun
abbrev pub IsOfPhases : Script → ℕ → Entry → Type 0
IsOfPhases script phase entry = (plan : Planned) → plan_of script entry.call ≡ Some plan → plan.stage < 2 * phase

-- every call of the phases before the present one was made
abbrev pub AreMadeBefore : Script → List Entry → ℕ → Type 0
AreMadeBefore script history phase = (plan : Planned) → Contains (planned script) plan → plan.stage + 2 < 2 * phase → Contains (calls_of history) plan.call

-- a legal history; what is published are its accepted changes, and the publisher's place has the first of them; each call has seen its cycle
pub record IsDesk (desk : Desk) : Type 0 where
  pub legal : LegalSoFar desk.script desk.history
  pub published : desk.publishing.all ≡ accepted desk.history
  pub held : IsFront desk.publishing.held (accepted desk.history)
  pub base : desk.publishing.base ≡ base_of desk.script
  pub seen : KeepsSeen desk.script desk.history desk.publishing.pairs
  pub pairs : All (λ (pair : SeenPair). pair.number ≤ length (accepted desk.history)) desk.publishing.pairs
  pub phases : All (IsOfPhases desk.script desk.phase) desk.history
  pub earlier : AreMadeBefore desk.script desk.history desk.phase

-- a lane has no call left in the phases begun
abbrev pub IsDone : Desk → ℕ → Type 0
IsDone desk lane = next_call desk lane ≡ None

-- nothing was published or looked at, and the plans are for the script's channels
pub record IsFresh (script : Script) (publisher : Publishing) : Type 0 where
  pub none : publisher.all ≡ []
  pub place : publisher.held ≡ []
  pub unseen : publisher.pairs ≡ []
  pub base : publisher.base ≡ base_of script

-- a desk before its first phase
abbrev pub IsNewDesk : Script → Publishing → Desk → Type 0
IsNewDesk script publisher desk = desk ≡ record { script = script; history = []; phase = 0; publishing = publisher }

-- the phase is the next one and is there, and no lane has a call left
pub record MayBegin (desk : Desk) (phase : ℕ) : Type 0 where
  pub next : phase ≡ desk.phase
  pub there : phase < length (phases desk.script)
  pub used : (lane : ℕ) → lane ≤ 4 → IsDone desk lane

abbrev pub Begins : Desk → ℕ → Desk → Type 0
Begins desk phase after = after ≡ record desk { phase = suc phase }

-- a call of lanes 1 to 4 looks at the cycle word once, and one of lane 0 does not
abbrev pub LooksBy : ℕ → Publishing → ℕ → Publishing → Type 0
LooksBy zero publisher seen after = after ≡ publisher
LooksBy (suc lane) publisher seen after = Looks publisher seen after

-- the call is made: it is answered by the replay of what was accepted before, entered, and published where it was accepted
pub record Makes (desk : Desk) (lane : ℕ) (reply : Reply) (after : Desk) : Type 0 where
  pub plan : Planned
  pub next : next_call desk lane ≡ Some plan
  pub history : after.history ≡ desk.history ++ answered desk.script desk.history plan.call ∷ []
  pub reply_is : reply ≡ (answered desk.script desk.history plan.call).reply
  pub seen : ℕ
  pub asked : plan.asked ≤ seen
  pub looked : Publishing
  pub looks : LooksBy lane desk.publishing seen looked
  pub publishes : after.publishing ≡ record looked { all = accepted after.history; held = after.publishing.held }
  pub same : after ≡ record desk { history = after.history; publishing = after.publishing }

-- the call waits for a cycle that this look did not find
pub record Waits (desk : Desk) (lane asked seen : ℕ) (after : Desk) : Type 0 where
  pub plan : Planned
  pub next : next_call desk lane ≡ Some plan
  pub asked_is : asked ≡ plan.asked
  pub behind : seen < asked
  pub looks : LooksBy lane desk.publishing seen after.publishing
  pub same : after ≡ record desk { publishing = after.publishing }

abbrev pub Steps : Desk → ℕ → Stepped → Desk → Type 0
Steps desk lane (Did reply) after = Makes desk lane reply after
Steps desk lane (NotYet asked seen) after = Waits desk lane asked seen after
Steps desk lane Done after = IsDone desk lane × (after ≡ desk)

-- lane 0 to 4 in a phase that was begun, and lanes 1 to 4 behind lane 0
pub record MayStep (desk : Desk) (lane : ℕ) : Type 0 where
  pub lanes : lane ≤ 4
  pub begun : 1 ≤ desk.phase
  pub group : 1 ≤ lane → IsDone desk 0

-- a desk with the script, publication and phase of an earlier one, whose history goes on
pub record GoesOn (opened desk : Desk) : Type 0 where
  pub script : desk.script ≡ opened.script
  pub phase : desk.phase ≡ opened.phase
  pub table : desk.publishing.table ≡ opened.publishing.table
  pub more : opened.history ≡ take (length opened.history) desk.history
