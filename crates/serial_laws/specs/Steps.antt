-- What the calls of a serial session leave, one after another.
--     IsReel session recorder reel      what a recorder has
--     GiveUp, Cycled, Met, Rounded      the steps: blocks leave the rings, a cycle of the driver, desk and driver meet, a round of the lanes
--     most_filled header freewheel      how many blocks go into a disk's ring before a cycle
--     Turned freewheel session after      one cycle of serial mode
--     Begun done session after      the front of a phase, before its first cycle
--     IsSound session      what holds of a session's parts in each mode, whatever was taken and played
--     IsSettled session      and between two cycles
--     AreExact session      what it took is what serial mode takes
--     KeepsOwn given session      each course over what was given that fits is kept
use Rattle.std.specs.Prelude.{◌≡◌, ℕ, suc, Bool, true, false, length, slice_get, All, Some, if◌then◌else◌, take}
use Rattle.session_model.specs.Explanations.{Given}
use Rattle.session_model.specs.Histories.{accepted}
use Rattle.session_model.specs.Serial.{serial_history, serial_numbers}
use Rattle.graph_word.specs.declared.view.TakenRow.{TakenRow}
use Rattle.graph_word.specs.Publications.{IsFront, Meets, Publishing, Reading}
use Rattle.jack_types.specs.declared.scripts.Header.{Header}
use Rattle.driver_words.specs.Rings.{Sending}
use Rattle.run_laws.specs.control_desk.specs.Desks.{IsDesk}
use Rattle.run_laws.specs.driver_laws.specs.Cycling.{CyclesOnce}
use Rattle.run_laws.specs.driver_laws.specs.Drivers.{run}
use Rattle.run_laws.specs.serial_lanes.specs.Lanes.{LanesRun, RanOn, SerialDesk}
use Rattle.recorder_files.specs.Recorders.{GivesUp, Reel}
use Rattle.run_laws.specs.Runs.{HasFiles, MissesInRun}
use Rattle.run_laws.specs.Sessions.{IsFor, IsMet, IsOne, KeepsAny, Session}
use Rattle.disk_runs.specs.Readings.{DisksRead, DisksTold, NoneFailed}
use Rattle.disk_runs.specs.Rests.{DisksHaveRoom, DisksTell}

-- the two ends of a recorder's ring, its file in the making, and how many blocks were written into that
pub record IsReel (session : Session) (recorder : ℕ) (reel : Reel) : Type 0 where
  pub ring : slice_get session.driver.rings recorder ≡ Some reel.ring
  pub getting : slice_get session.getting recorder ≡ Some reel.getting
  pub tape : slice_get session.tapes recorder ≡ Some reel.tape
  pub blocks : slice_get session.counts recorder ≡ Some reel.blocks

-- each recorder's ring gave up at most so many blocks, and nothing else changed
pub record GiveUp (most : ℕ) (session after : Session) : Type 0 where
  pub each : (recorder : ℕ) (reel reel_after : Reel) → IsReel session recorder reel → IsReel after recorder reel_after → GivesUp most reel reel_after
  pub rings : length after.driver.rings ≡ length session.driver.rings
  pub getting : length after.getting ≡ length session.getting
  pub tapes : length after.tapes ≡ length session.tapes
  pub counts : length after.counts ≡ length session.counts
  pub same : after ≡ record session { driver = record session.driver { rings = after.driver.rings }; getting = after.getting; tapes = after.tapes; counts = after.counts }

-- the driver ran one cycle
pub record Cycled (session after : Session) : Type 0 where
  pub cycles : CyclesOnce session.driver after.driver
  pub same : after ≡ record session { driver = after.driver }

-- desk and driver met
pub record Met (session after : Session) : Type 0 where
  pub publishing : Publishing
  pub reading : Reading
  pub meets : Meets session.desk.publishing session.driver.reading publishing reading
  pub same : after ≡ record session { desk = record session.desk { publishing = publishing }; driver = record session.driver { reading = reading } }

-- lanes 1 to 4 went one round
pub record Rounded (session after : Session) : Type 0 where
  pub runs : LanesRun session.desk after.desk
  pub on : RanOn session.desk after.desk
  pub desk : IsDesk after.desk
  pub same : after ≡ record session { desk = after.desk }

-- around a cycle so many blocks leave a ring: all in a freewheel cycle, for there are no more than its capacity
abbrev pub most_blocks : Header → Bool → ℕ
most_blocks header freewheel = if freewheel then header.ring else header.drain

-- before a freewheel cycle the rings are emptied, and before a `run` cycle nothing is done
abbrev pub Emptied : Bool → Session → Session → Type 0
Emptied true session after = GiveUp session.script.header.ring session after
Emptied false session after = after ≡ session

-- before a cycle at most so many blocks go into a disk's ring: before a freewheel cycle as many as it holds
abbrev pub most_filled : Header → Bool → ℕ
most_filled header freewheel = if freewheel then header.ring else header.fill

-- a cycle, with what leaves the recorders' rings and what goes into those of the disks around it, and a round of the lanes between two meetings
pub record Turned (freewheel : Bool) (session after : Session) : Type 0 where
  pub emptied : Session
  pub read : Session
  pub cycled : Session
  pub told : Session
  pub drained : Session
  pub met : Session
  pub rounded : Session
  pub empties : Emptied freewheel session emptied
  pub reads : DisksRead (most_filled session.script.header freewheel) emptied read
  pub cycles : Cycled read cycled
  pub tells : DisksTold cycled told
  pub drains : GiveUp (most_blocks session.script.header freewheel) told drained
  pub meets : Met drained met
  pub rounds : Rounded met rounded
  pub meets_again : Met rounded after

-- the phase behind so many others: its `do` calls, and a round of the lanes, each behind a meeting and before one
pub record Begun (done : ℕ) (session after : Session) : Type 0 where
  pub grouped : Session
  pub met : Session
  pub rounded : Session
  pub group : SerialDesk grouped.desk done 0
  pub group_desk : IsDesk grouped.desk
  pub published : grouped.desk.publishing ≡ record session.desk.publishing { all = accepted grouped.desk.history; held = grouped.desk.publishing.held }
  pub group_same : grouped ≡ record session { desk = record session.desk { history = grouped.desk.history; phase = suc done; publishing = grouped.desk.publishing } }
  pub meets : Met grouped met
  pub rounds : Rounded met rounded
  pub meets_again : Met rounded after

-- its parts are one session's, nothing failed, no read of a disk either, no recorder's ring has an end, each disk's ring has room for as many blocks as the script says, and overruns and underruns came in `run` cycles alone
pub record IsSound (session : Session) : Type 0 where
  pub one : IsOne session
  pub misses : MissesInRun session
  pub files : HasFiles session
  pub no_end : All (λ (ring : Sending). ring.ended ≡ false) session.driver.rings
  pub room : DisksHaveRoom session
  pub going : NoneFailed session

-- both ends of each disk's ring know how far the other is; behind a cycle that is false until they met
pub record IsSettled (session : Session) : Type 0 where
  pub sound : IsSound session
  pub tells : DisksTell session

-- no ring has a block that was not got, and each producer knows it
abbrev pub AreEmpty : Session → Type 0
AreEmpty session = All (λ (ring : Sending). ring.least ≡ length ring.put) session.driver.rings

-- numbers and rows are those of serial mode so far, and desk and driver met
pub record AreExact (session : Session) : Type 0 where
  pub numbers : session.driver.numbers ≡ take (run session.driver) (serial_numbers session.script)
  pub rows : All (λ (row : TakenRow). IsFront row.changes (accepted (serial_history session.script))) session.driver.reading.rows
  pub met : IsMet session

-- what was given is of the session, and each course over it that fits is kept
pub record KeepsOwn (given : Given) (session : Session) : Type 0 where
  pub own : IsFor session given
  pub keeps : KeepsAny given session.driver
