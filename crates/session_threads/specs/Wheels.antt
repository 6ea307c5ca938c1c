-- What the driver's thread of a freewheel segment did. No public clause cites this module.
--     WheelBroke cycles session after      some were whole, and the next one failed
--     HaveWheeled sounding cycles gear recordings players gear_after recordings_after players_after ran      its cycles, however they came out, with the recorders' rings emptied around each and those of the disks filled before it
use Rattle.std.specs.Prelude.{◌≡◌, ℕ, ◌<◌, IsErrOf, List, OnErr, OnOk, Result}
use Rattle.session_model.specs.Kinds.{Sound}
use Rattle.client_kinds.specs.Scores.{Score}
use Rattle.session_works.specs.DeskWords.{Desk}
use Rattle.session_works.specs.Drivers.{Gear}
use Rattle.recorder_files.specs.Recorders.{Recording}
use Rattle.session_works.specs.RunWords.{Playing, Session}
use Rattle.session_works.specs.SerialWords.{IsSettled}
use Rattle.thread_laws.specs.Faults.{WheelFailed}
use Rattle.thread_laws.specs.Segments.{WheeledMany}
use Rattle.session_works.specs.Insides.{ArePaired, DisksPaired, Stays, beside, parts_with, seen_with}
use Rattle.session_works.specs.Parts.{OneRose, SourceRose, stores_in}
use Rattle.session_works.specs.declared.faults.SessionFault.{SessionFault}
use Rattle.session_works.specs.declared.faults.SessionFault.TheVariants.{Read, Write}

-- some were whole, and the next one failed
pub record WheelBroke (cycles : ℕ) (session after : Session) : Type 0 where
  pub kept : ℕ
  pub whole : ℕ
  pub wheeled : Session
  pub fewer : whole < cycles
  pub wheels : WheeledMany whole session wheeled
  pub fails : WheelFailed kept wheeled after

-- beside any desk
pub record HaveWheeled (sounding : Score → Sound) (cycles : ℕ) (gear : Gear) (recordings : List Recording) (players : List Playing) (gear_after : Gear) (recordings_after : List Recording) (players_after : List Playing) (ran : Result (Unit {0}) SessionFault) : Type 0 where
  pub wheeled : (desk : Desk) → IsSettled (seen_with sounding (beside desk players) gear recordings)
      → OnOk ran (WheeledMany cycles (seen_with sounding (beside desk players) gear recordings) (seen_with sounding (beside desk players_after) gear_after recordings_after))
  pub failed : (desk : Desk) → IsSettled (seen_with sounding (beside desk players) gear recordings)
      → OnErr ran (WheelBroke cycles (seen_with sounding (beside desk players) gear recordings) (seen_with sounding (beside desk players_after) gear_after recordings_after))
  pub stays : (desk : Desk) → Stays sounding (parts_with (beside desk players) gear recordings) (parts_with (beside desk players_after) gear_after recordings_after)
  pub table : gear_after.reading.table ≡ gear.reading.table
  pub pairs : ArePaired gear recordings → ArePaired gear_after recordings_after
  pub disks : DisksPaired gear players → DisksPaired gear_after players_after
  pub read : (desk : Desk) → IsErrOf ran Read → SourceRose (parts_with (beside desk players) gear recordings) (parts_with (beside desk players_after) gear_after recordings_after)
  pub write : (desk : Desk) → IsErrOf ran Write → OneRose (stores_in (parts_with (beside desk players) gear recordings)) (stores_in (parts_with (beside desk players_after) gear_after recordings_after))
