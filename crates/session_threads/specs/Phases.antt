-- What the calls of a phase in threads mode leave, in the words of the laws. No public clause cites this module.
--     Opens done session after      the front of a phase
--     Segmented many freewheel session after      its segment
--     SegmentFails many freewheel kept session after      or one that failed
--     Bound many session after, BoundFails many kept session after      the cycles of a `run` segment, behind the filling
--     HaveMade desk      no lane has a call left
--     Settles session after, Stops session after      what comes behind the one and behind the other
use Rattle.std.specs.Prelude.{ℕ, ◌≤◌, Bool}
use Rattle.session_works.specs.DeskWords.{Desk, IsDone}
use Rattle.session_works.specs.RunWords.{Session}
use Rattle.session_works.specs.SerialWords.{Met, Rounded}
use Rattle.session_works.specs.disk_runs.specs.Readings.{DisksServed, DisksTold, NoneFailed}
use Rattle.thread_laws.specs.Segments.{CycledMany, Grouped, Joined, Paced, Renewed, RingsEnded, Served, WentOn}
use Rattle.thread_laws.specs.Faults.{Drove, JoinFailed, ServedSome}

-- its `do` calls, a meeting of desk and driver, and its period
pub record Opens (done : ℕ) (session after : Session) : Type 0 where
  pub grouped : Session
  pub met : Session
  pub groups : Grouped done session grouped
  pub meets : Met grouped met
  pub paces : Paced met after

-- the join of the threads, and the desk that the lanes gave back
pub record Segmented (many : ℕ) (freewheel : Bool) (session after : Session) : Type 0 where
  pub served : Session
  pub joins : Joined many freewheel session served
  pub goes : WentOn served after

pub record SegmentFails (many : ℕ) (freewheel : Bool) (kept : ℕ) (session after : Session) : Type 0 where
  pub served : Session
  pub joins : JoinFailed many freewheel kept session served
  pub goes : WentOn served after

-- cycles, recorders and readers at once, and the desk that the lanes gave back
pub record Bound (many : ℕ) (session after : Session) : Type 0 where
  pub cycled : Session
  pub ended : Session
  pub served : Session
  pub read : Session
  pub cycles : CycledMany many session cycled
  pub ends : RingsEnded cycled ended
  pub serves : Served ended served
  pub reads : DisksServed served read
  pub going : NoneFailed read
  pub goes : WentOn read after

pub record BoundFails (many kept : ℕ) (session after : Session) : Type 0 where
  pub driven : Session
  pub ended : Session
  pub served : Session
  pub read : Session
  pub drove : Drove many kept session driven
  pub ends : RingsEnded driven ended
  pub serves : ServedSome ended served
  pub reads : DisksServed served read
  pub goes : WentOn read after

-- no lane has a call left in the phases begun
abbrev pub HaveMade : Desk → Type 0
HaveMade desk = (lane : ℕ) → 1 ≤ lane → lane ≤ 4 → IsDone desk lane

-- a meeting, the lanes' last round, the rings' ends, and a meeting
pub record Settles (session after : Session) : Type 0 where
  pub heard : Session
  pub filled : Session
  pub renewed : Session
  pub told : Session
  pub hears : Met session heard
  pub fills : Rounded heard filled
  pub renews : Renewed filled renewed
  pub tells : DisksTold renewed told
  pub meets : Met told after

-- behind a fault the lanes do not go on
pub record Stops (session after : Session) : Type 0 where
  pub renewed : Session
  pub told : Session
  pub renews : Renewed session renewed
  pub tells : DisksTold renewed told
  pub meets : Met told after
