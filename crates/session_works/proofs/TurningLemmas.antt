-- A cycle of a session, in the steps of its calls.
--     caught      the fault of an answer that was passed on
--     seen-cycled      a session whose driver alone went on
--     stays-cycled, stays-stepped      what stays through a call of the driver
--     playback-caused      a fault of the playback is one of a store
--     IsNext sounding gear freewheel      the next cycle is there, of this kind, and its period is set
--     next-emptied      so it is where rings were emptied
--     IsTurn freewheel session      it is there, and of this kind
--     emptied-settled, played-sound, goes-settled      the parts behind the steps of a cycle
--     most_is      so many blocks move around it
--     goes-through, play-fails, drain-fails      the cycle, and one that failed
--     turn-fails      desk and driver met behind a cycle that failed
use Rattle.std.proofs.Common.{◌≡◌, ℕ, ◌+◌, ◌<◌, Bool, true, false, if◌then◌else◌, List, length, Option, None, Result, Ok, Err, IsErrAnd, IsErrOf, OnOk, refl, sym, ◌∙◌, ap, subst, true≢false}
use Rattle.std.proofs.lemmas.Option.{same_Some}
use Rattle.session_model.specs.Kinds.{Sound}
use Rattle.session_model.specs.Scripts.{Script, turns}
use Rattle.client_kinds.specs.Scores.{Score}
use Rattle.wave_pcm.specs.Readings.{SameReading}
use Rattle.driver_words.specs.Tapes.{Tape}
use Rattle.driver_laws.specs.Cycling.{CyclesOnce, FailsAtRead, FailsAtWrite}
use Rattle.driver_laws.specs.Drivers.{Driver, HasPlayback, run, turn_of}
use Rattle.cycle_driver.specs.Gears.{Gear, driver_of}
use Rattle.recorder_files.specs.Recorders.{Recording, held_in, held_or, stored_of}
use Rattle.run_laws.specs.Sessions.{Session}
use Rattle.disk_runs.specs.Readings.{DisksBroke, DisksRead}
use Rattle.disk_runs.specs.Rests.{AreFilled}
use Rattle.serial_laws.specs.Faults.{AtDisk as EndsAtDisk, AtDraining as EndsAtDraining, AtEmptying as EndsAtEmptying, AtRead as EndsAtRead, AtWrite as EndsAtWrite, BreakUp, TurnFails}
use Rattle.serial_laws.specs.Steps.{AreEmpty, Emptied, GiveUp, IsSettled, IsSound, Met, most_blocks, most_filled}
use Rattle.session_works.specs.Insides.{Aside, IsWritten, Stays, parts_with, seen_with}
use Rattle.session_works.specs.Laws.{CycleLaws}
use Rattle.session_works.specs.Parts.{HasOpenFiles, OneRose, stores_in}
use Rattle.session_works.specs.Turnings.{AtDisk, AtDraining, AtEmptying, AtRead, AtWrite, Fails, Goes, InDisk, InRead, InWrite, PlayFails, Plays}
use Rattle.session_works.specs.declared.faults.SessionFault.{SessionFault as Fault}
use Rattle.session_works.specs.declared.faults.SessionFault.TheVariants.{Read, Write}
use Rattle.session_works.proofs.StayLemmas.{read_same}
use Rattle.session_works.proofs.StoreLemmas.{HeldLater, RecordersLater, held-file, held_same, parts-later, playback-rose}

module _ {T E : Type 0} where
  abbrev fault_or : E → Result T E → E
  fault_or d (Ok x) = d
  fault_or d (Err e) = e

  pub caught : (r : Result T E) (e x : E) → IsErrAnd r (λ y. y ≡ e) → IsErrOf r x → e ≡ x
  caught (Ok t) e x is held = absurd is
  caught (Err y) e x is held = sym is ∙ ap (fault_or e) held

-- ---- a call of the driver

module _ (aside : Aside) (gear driver : Gear) (recordings : List Recording) where
  recorders_same : RecordersLater (parts_with aside gear recordings) (parts_with aside driver recordings)
  recorders_same i old new was is = subst (λ (r : Recording). HeldLater (held_in old) (held_in r)) (same_Some old new (sym was ∙ is)) (held_same (held_in old))

  pub playback-caused : IsWritten gear.playback driver.playback → OneRose (stores_in (parts_with aside gear recordings)) (stores_in (parts_with aside driver recordings))
  playback-caused it =
      playback-rose (parts_with aside gear recordings) (parts_with aside driver recordings) (stored_of it.0) (stored_of it.1) (held-file None None gear.playback driver.playback it.0 it.1 it.2 it.3 it.4)
      recorders_same (ap (held_or None) it.2) (ap (held_or None) it.3) it.5

module _ (sounding : Score → Sound) (aside : Aside) (gear driver : Gear) (recordings : List Recording) where
  pub seen-cycled : driver.script ≡ gear.script → seen_with sounding aside driver recordings ≡ record (seen_with sounding aside gear recordings) { driver = driver_of sounding driver }
  seen-cycled = ap (λ (s : Script). record (seen_with sounding aside driver recordings) { script = s })

  module _ (files : HasOpenFiles (parts_with aside gear recordings)) where
    pub stays-cycled : driver.script ≡ gear.script → (driver_of sounding driver).scores ≡ (driver_of sounding gear).scores → HeldLater (held_or None gear.playback) (held_or None driver.playback)
        → SameReading gear.capture.reading driver.capture.reading → Stays sounding (parts_with aside gear recordings) (parts_with aside driver recordings)
    stays-cycled script scores playback capture = record {
      script = script;
      scores = scores;
      files = record { tapes = files.tapes; no_playback = refl; no_stores = files.no_stores };
      later = parts-later (parts_with aside gear recordings) (parts_with aside driver recordings) playback refl (recorders_same aside gear driver recordings);
      capture = capture;
      many = refl;
      players = read_same aside.players;
    }

    stays-ran : HasPlayback (driver_of sounding gear) → CyclesOnce (driver_of sounding gear) (driver_of sounding driver) → SameReading gear.capture.reading driver.capture.reading
        → Stays sounding (parts_with aside gear recordings) (parts_with aside driver recordings)
    stays-ran playback cycles capture = stays-cycled cycles.steps.script cycles.steps.scores later capture
      where
        later : HeldLater (held_or None gear.playback) (held_or None driver.playback)
        later =
            let after : HasPlayback (driver_of sounding driver) = cycles.writes.playback in
            held-file None None gear.playback driver.playback playback.tape after.tape playback.attached after.attached (cycles.writes.file playback.tape after.tape playback.attached after.attached)

    stays-unread : FailsAtRead (driver_of sounding gear) (driver_of sounding driver) → SameReading gear.capture.reading driver.capture.reading → Stays sounding (parts_with aside gear recordings) (parts_with aside driver recordings)
    stays-unread fails capture = stays-cycled (ap (λ (d : Driver). d.script) fails.same) (ap (λ (d : Driver). d.scores) fails.same) later capture
      where
        later : HeldLater (held_or None gear.playback) (held_or None driver.playback)
        later = subst (λ (file : Option Tape). HeldLater (held_or None gear.playback) (held_or None file)) (sym (ap (λ (d : Driver). d.playback) fails.same)) (held_same (held_or None gear.playback))

    stays-unwritten : FailsAtWrite (driver_of sounding gear) (driver_of sounding driver) → IsWritten gear.playback driver.playback → SameReading gear.capture.reading driver.capture.reading
        → Stays sounding (parts_with aside gear recordings) (parts_with aside driver recordings)
    stays-unwritten fails it capture = stays-cycled fails.steps.script fails.steps.scores (held-file None None gear.playback driver.playback it.0 it.1 it.2 it.3 it.4) capture

    -- however it came out
    pub stays-stepped : (stepped : Result (Unit {0}) Fault) → HasPlayback (driver_of sounding gear) → OnOk stepped (CyclesOnce (driver_of sounding gear) (driver_of sounding driver))
        → (IsErrOf stepped Read → FailsAtRead (driver_of sounding gear) (driver_of sounding driver)) → (IsErrOf stepped Write → FailsAtWrite (driver_of sounding gear) (driver_of sounding driver))
        → (IsErrOf stepped Write → IsWritten gear.playback driver.playback) → SameReading gear.capture.reading driver.capture.reading → Stays sounding (parts_with aside gear recordings) (parts_with aside driver recordings)
    stays-stepped (Ok _) playback cycled read write file capture = stays-ran playback cycled capture
    stays-stepped (Err Read) playback cycled read write file capture = stays-unread (read refl) capture
    stays-stepped (Err Write) playback cycled read write file capture = stays-unwritten (write refl) (file refl) capture

-- ---- the parts around a cycle

pub record IsNext (sounding : Score → Sound) (gear : Gear) (freewheel : Bool) : Type 0 where
  pub left : run (driver_of sounding gear) < length (turns gear.script)
  pub kind : (turn_of gear.script (run (driver_of sounding gear) + 1)).is_freewheel ≡ freewheel
  pub period : (turn_of gear.script (run (driver_of sounding gear) + 1)).period ≡ gear.set

pub next-emptied : (sounding : Score → Sound) (before after : Gear) (freewheel : Bool) → after ≡ record before { rings = after.rings } → IsNext sounding before freewheel → IsNext sounding after freewheel
next-emptied sounding before after freewheel same next = subst (λ (g : Gear). IsNext sounding g freewheel) (sym same) record { left = next.left; kind = next.kind; period = next.period }

-- the session's next cycle
pub record IsTurn (freewheel : Bool) (session : Session) : Type 0 where
  pub left : run session.driver < length (turns session.script)
  pub kind : (turn_of session.script (run session.driver + 1)).is_freewheel ≡ freewheel

turn-read : (freewheel : Bool) (most : ℕ) (session after : Session) → DisksRead most session after → IsTurn freewheel session → IsTurn freewheel after
turn-read freewheel most session after reads turn = subst (λ (s : Session). IsTurn freewheel s) (sym reads.same) record { left = turn.left; kind = turn.kind }

turn-emptied : (freewheel : Bool) (session after : Session) → Emptied freewheel session after → IsTurn freewheel session → IsTurn freewheel after
turn-emptied true session after empties turn = subst (λ (s : Session). IsTurn true s) (sym empties.same) record { left = turn.left; kind = turn.kind }
turn-emptied false session after empties turn = subst (λ (s : Session). IsTurn false s) (sym empties) turn

emptied-script : (freewheel : Bool) (session after : Session) → Emptied freewheel session after → after.script ≡ session.script
emptied-script true session after empties = ap (λ (s : Session). s.script) empties.same
emptied-script false session after empties = ap (λ (s : Session). s.script) empties

module _ (laws : CycleLaws) where
  pub emptied-settled : (freewheel : Bool) (session after : Session) → IsSettled session → Emptied freewheel session after → IsSettled after
  emptied-settled true session after settled empties = record {
    sound = laws.blocks session.script.header.ring session after settled.sound empties;
    tells = laws.tells session.script.header.ring session after empties settled.tells;
  }
  emptied-settled false session after settled empties = subst (λ (s : Session). IsSettled s) (sym empties) settled

  emptied-empty : (freewheel : Bool) (session after : Session) → IsSound session → Emptied freewheel session after → freewheel ≡ true → AreEmpty after
  emptied-empty true session after sound empties is = laws.empty session after sound empties
  emptied-empty false session after sound empties is = absurd (true≢false (sym is))

  emptied-filled : (freewheel : Bool) (most : ℕ) (session emptied read : Session) → IsSettled emptied → Emptied freewheel session emptied → most ≡ most_filled session.script.header freewheel → DisksRead most emptied read
      → freewheel ≡ true → AreFilled read
  emptied-filled true most session emptied read settled empties most_is reads is =
      laws.filled emptied read settled (subst (λ n. DisksRead n emptied read) (most_is ∙ ap (λ (s : Script). s.header.ring) (sym (emptied-script true session emptied empties))) reads)
  emptied-filled false most session emptied read settled empties most_is reads is = absurd (true≢false (sym is))

  pub played-sound : (freewheel : Bool) (most : ℕ) (session emptied after : Session) → IsSettled session → IsTurn freewheel emptied → most ≡ most_filled session.script.header freewheel → Emptied freewheel session emptied → Plays most emptied after
      → IsSound after
  played-sound freewheel most session emptied after settled turn most_is empties plays = laws.told plays.cycled after cycled_sound plays.tells
    where
      between : IsSettled emptied
      between = emptied-settled freewheel session emptied settled empties

      next : IsTurn freewheel plays.read
      next = turn-read freewheel most emptied plays.read plays.reads turn

      cycled_sound : IsSound plays.cycled
      cycled_sound = laws.cycle plays.read plays.cycled (laws.read most emptied plays.read between.sound plays.reads) next.left
          (λ is. let wheel : freewheel ≡ true = sym next.kind ∙ is in (
            laws.still_empty most emptied plays.read plays.reads (emptied-empty freewheel session emptied settled.sound empties wheel),
            emptied-filled freewheel most session emptied plays.read between empties most_is plays.reads wheel,
          ))
          plays.cycles

  pub goes-settled : (freewheel : Bool) (session after : Session) → IsSettled session → IsTurn freewheel session → Goes freewheel session after → IsSettled after
  goes-settled freewheel session after settled turn goes = record {
    sound = laws.blocks (most_blocks session.script.header freewheel) goes.told after played goes.drains;
    tells = laws.tells (most_blocks session.script.header freewheel) goes.told after goes.drains (laws.met goes.cycled goes.told goes.tells);
  }
    where
      played : IsSound goes.told
      played = played-sound freewheel (most_filled session.script.header freewheel) session goes.emptied goes.told settled (turn-emptied freewheel session goes.emptied goes.empties turn) refl goes.empties
          record { read = goes.read; cycled = goes.cycled; reads = goes.reads; cycles = goes.cycles; tells = goes.tells }

-- ---- the cycle

-- so many blocks move around it
pub most_is : (freewheel : Bool) (most ring other ring_is other_is : ℕ) → ring ≡ ring_is → other ≡ other_is → most ≡ (if freewheel then ring else other) → most ≡ (if freewheel then ring_is else other_is)
most_is true most ring other ring_is other_is same also is = is ∙ same
most_is false most ring other ring_is other_is same also is = is ∙ also

module _ (freewheel : Bool) (filled : ℕ) (session emptied : Session) (filled_is : filled ≡ most_filled session.script.header freewheel) (empties : Emptied freewheel session emptied) where
  abbrev Reads : Session → Type 0
  Reads read = DisksRead (most_filled session.script.header freewheel) emptied read

  reads_so : (read : Session) → DisksRead filled emptied read → Reads read
  reads_so read = subst (λ n. DisksRead n emptied read) filled_is

  pub goes-through : (drained : ℕ) (told after : Session) → drained ≡ most_blocks session.script.header freewheel → Plays filled emptied told → GiveUp drained told after → Goes freewheel session after
  goes-through drained told after drained_is plays drains = record {
    emptied = emptied;
    read = plays.read;
    cycled = plays.cycled;
    told = told;
    empties = empties;
    reads = reads_so plays.read plays.reads;
    cycles = plays.cycles;
    tells = plays.tells;
    drains = subst (λ n. GiveUp n told after) drained_is drains;
  }

  pub play-fails : (after : Session) → PlayFails filled emptied after → Fails freewheel session after
  play-fails after (InDisk broke) = AtDisk emptied empties (subst (λ n. DisksBroke n emptied after) filled_is broke)
  play-fails after (InRead read failed reads fails same tells) = AtRead emptied read failed empties (reads_so read reads) fails same tells
  play-fails after (InWrite read failed reads fails one same tells) = AtWrite emptied read failed empties (reads_so read reads) fails one same tells

  pub drain-fails : (drained : ℕ) (told after : Session) → drained ≡ most_blocks session.script.header freewheel → Plays filled emptied told → BreakUp drained told after → Fails freewheel session after
  drain-fails drained told after drained_is plays breaks =
      AtDraining emptied plays.read plays.cycled told empties (reads_so plays.read plays.reads) plays.cycles plays.tells (subst (λ n. BreakUp n told after) drained_is breaks)

pub turn-fails : (freewheel : Bool) (session failed after : Session) → Fails freewheel session failed → Met failed after → TurnFails freewheel session after
turn-fails freewheel session failed after (AtEmptying is breaks) met = EndsAtEmptying failed is breaks met
turn-fails freewheel session failed after (AtDisk emptied empties broke) met = EndsAtDisk emptied failed empties broke met
turn-fails freewheel session failed after (AtRead emptied read broken empties reads fails same tells) met = EndsAtRead emptied read broken failed empties reads fails same tells met
turn-fails freewheel session failed after (AtWrite emptied read broken empties reads fails one same tells) met = EndsAtWrite emptied read broken failed empties reads fails one same tells met
turn-fails freewheel session failed after (AtDraining emptied read cycled told empties reads cycles tells breaks) met = EndsAtDraining emptied read cycled told failed empties reads cycles tells breaks met
