-- The driver's cycle with the disks' rings around it, in the steps of its calls.
--     going-sound      no read of a sound session's disks failed
--     read-may      behind a reading the next cycle may be run
--     plays-through, play-broke      the cycle, and one that failed
--     play-stays      what stays through it, however it came out
--     rings-around      the recorders' rings
--     rose-around, written-around      the causes of faults
use Rattle.std.proofs.Common.{◌≡◌, ℕ, Bool, List, All, length, slice_get, Option, Result, Ok, Err, IsErrOf, OnErr, refl, sym, ◌∙◌, ap, subst}
use Rattle.std.proofs.lemmas.Option.{same_Some}
use Rattle.jack_host.specs.Causes.{Rose}
use Rattle.session_model.specs.Kinds.{Sound}
use Rattle.client_kinds.specs.Scores.{Score}
use Rattle.control_desk.specs.Desks.{Desk}
use Rattle.driver_words.specs.Rings.{Sending}
use Rattle.driver_words.specs.Tapes.{SameFile, Tape}
use Rattle.cycle_driver.specs.Gears.{Gear, driver_of}
use Rattle.cycle_driver.specs.Runs.{KeepsRings}
use Rattle.driver_laws.specs.Cycling.{CyclesOnce, FailsAtRead, FailsAtWrite, MayCycle}
use Rattle.recorder_files.specs.Recorders.{Recording}
use Rattle.run_laws.specs.Sessions.{Playing}
use Rattle.disk_runs.specs.disk_files.specs.Serving.{IsGoing}
use Rattle.serial_laws.specs.Faults.{StaysOne}
use Rattle.serial_laws.specs.Steps.{IsSound}
use Rattle.session_works.specs.DiskSteps.{AreReadOn, AreTold, BesideAny, DisksMoved, SeenBesideAny, SomeRose}
use Rattle.session_works.specs.Insides.{IsWritten, Stays, StaysOpen, beside, parts_with, seen_with}
use Rattle.session_works.specs.Laws.{CycleLaws}
use Rattle.session_works.specs.Parts.{AreReadLater, HasOpenFiles, OfCapture, Parts, session_of}
use Rattle.session_works.specs.Turnings.{InRead, InWrite, PlayFails, Plays}
use Rattle.session_works.specs.declared.faults.SessionFault.{SessionFault as Fault}
use Rattle.session_works.specs.declared.faults.SessionFault.TheVariants.{Read, Write}
use Rattle.session_works.proofs.ReelLemmas.{all-from_places}
use Rattle.session_works.proofs.StayLemmas.{stay-disks, stay-trans}
use Rattle.session_works.proofs.TurningLemmas.{IsNext, seen-cycled}

pub going-sound : (sounding : Score → Sound) (parts : Parts) → IsSound (session_of sounding parts) → All IsGoing parts.players
going-sound sounding parts sound = all-from_places IsGoing parts.players (λ disk player is. record { going = sound.going disk player is })

pub read-may : (laws : CycleLaws) (sounding : Score → Sound) (freewheel : Bool) (most : ℕ) (desk : Desk) (recordings : List Recording) (gear after : Gear) (players players_after : List Playing) → IsSound (seen_with sounding (beside desk players) gear recordings)
    → AreReadOn sounding most gear players after players_after → DisksMoved gear after → IsNext sounding gear freewheel → MayCycle (driver_of sounding after) freewheel
read-may laws sounding freewheel most desk recordings gear after players players_after sound reads moved next =
    let now : IsNext sounding after freewheel = subst (λ (g : Gear). IsNext sounding g freewheel) (sym moved) record { left = next.left; kind = next.kind; period = next.period } in
    laws.next (seen_with sounding (beside desk players_after) after recordings) freewheel
    (laws.read most (seen_with sounding (beside desk players) gear recordings) (seen_with sounding (beside desk players_after) after recordings) sound (reads desk recordings)) now.left now.kind now.period

-- the readers read on, the driver ran its cycle, and the ends of the rings met
module _ (sounding : Score → Sound) (most : ℕ) (gear read cycled after : Gear) (players players_read players_after : List Playing) (reads : AreReadOn sounding most gear players read players_read) (script : cycled.script ≡ read.script)
    (tells : AreTold sounding cycled players_read after players_after) where
  pub plays-through : CyclesOnce (driver_of sounding read) (driver_of sounding cycled) → SeenBesideAny sounding (Plays most) gear players after players_after
  plays-through cycles desk recordings = record {
    read = seen_with sounding (beside desk players_read) read recordings;
    cycled = seen_with sounding (beside desk players_read) cycled recordings;
    reads = reads desk recordings;
    cycles = record { cycles = cycles; same = seen-cycled sounding (beside desk players_read) read cycled recordings script };
    tells = tells desk recordings;
  }

  pub play-broke : (stepped : Result (Unit {0}) Fault) → (IsErrOf stepped Read → FailsAtRead (driver_of sounding read) (driver_of sounding cycled)) → (IsErrOf stepped Write → FailsAtWrite (driver_of sounding read) (driver_of sounding cycled))
      → (IsErrOf stepped Write → IsWritten read.playback cycled.playback) → OnErr stepped (SeenBesideAny sounding (PlayFails most) gear players after players_after)
  play-broke (Ok _) at_read at_write written = tt
  play-broke (Err Read) at_read at_write written =
      λ desk recordings. InRead (seen_with sounding (beside desk players_read) read recordings) (seen_with sounding (beside desk players_read) cycled recordings) (reads desk recordings) (at_read refl)
      (seen-cycled sounding (beside desk players_read) read cycled recordings script) (tells desk recordings)
  play-broke (Err Write) at_read at_write written =
      λ desk recordings. InWrite (seen_with sounding (beside desk players_read) read recordings) (seen_with sounding (beside desk players_read) cycled recordings) (reads desk recordings) (at_write refl) one
      (seen-cycled sounding (beside desk players_read) read cycled recordings script) (tells desk recordings)
    where
      one : StaysOne (driver_of sounding read) (driver_of sounding cycled)
      one tape tape_after was is =
          let it = written refl in
          subst (λ (t : Tape). SameFile t tape_after) (same_Some it.0 tape (sym it.2 ∙ was)) (subst (λ (t : Tape). SameFile it.0 t) (same_Some it.1 tape_after (sym it.3 ∙ is)) it.4)

module _ (sounding : Score → Sound) (gear read cycled after : Gear) (players players_read players_after : List Playing) (moved_read : DisksMoved gear read) (moved : DisksMoved cycled after) where
  pub play-stays : AreReadLater players players_read → AreReadLater players_read players_after
      → ((desk : Desk) (recordings : List Recording) → HasOpenFiles (parts_with (beside desk players_read) read recordings) → Stays sounding (parts_with (beside desk players_read) read recordings) (parts_with (beside desk players_read) cycled recordings))
      → BesideAny (StaysOpen sounding) gear players after players_after
  play-stays later_read later steps desk recordings files =
      stay-trans sounding before between_them behind first (stay-trans sounding between_them between_then behind second (stay-disks sounding (beside desk players_read) (beside desk players_after) cycled after recordings moved later second.files))
    where
      before : Parts
      before = parts_with (beside desk players) gear recordings

      between_them : Parts
      between_them = parts_with (beside desk players_read) read recordings

      between_then : Parts
      between_then = parts_with (beside desk players_read) cycled recordings

      behind : Parts
      behind = parts_with (beside desk players_after) after recordings

      first : Stays sounding before between_them
      first = stay-disks sounding (beside desk players) (beside desk players_read) gear read recordings moved_read later_read files

      second : Stays sounding between_them between_then
      second = steps desk recordings first.files

  pub rings-around : KeepsRings (driver_of sounding read) (driver_of sounding cycled) → KeepsRings (driver_of sounding gear) (driver_of sounding after)
  rings-around keeps = record {
    as_many = ap length behind ∙ keeps.as_many ∙ ap length before;
    each = λ recorder ring ring_after was is.
        keeps.each recorder ring ring_after (ap (λ (l : List Sending). slice_get l recorder) before ∙ was) (ap (λ (l : List Sending). slice_get l recorder) (sym behind) ∙ is);
  }
    where
      before : read.rings.rings ≡ gear.rings.rings
      before = ap (λ (g : Gear). g.rings.rings) moved_read

      behind : after.rings.rings ≡ cycled.rings.rings
      behind = ap (λ (g : Gear). g.rings.rings) moved

  pub rose-around : Rose read.capture.reading.faults cycled.capture.reading.faults → SomeRose gear players after players_after
  rose-around rose desk recordings =
      OfCapture (subst (λ n. Rose n after.capture.reading.faults) (ap (λ (g : Gear). g.capture.reading.faults) moved_read)
      (subst (λ n. Rose read.capture.reading.faults n) (sym (ap (λ (g : Gear). g.capture.reading.faults) moved)) rose))

  pub written-around : IsWritten read.playback cycled.playback → IsWritten gear.playback after.playback
  written-around it =
      subst (λ (p : Option Tape). IsWritten p after.playback) (ap (λ (g : Gear). g.playback) moved_read)
      (subst (λ (p : Option Tape). IsWritten read.playback p) (sym (ap (λ (g : Gear). g.playback) moved)) it)
