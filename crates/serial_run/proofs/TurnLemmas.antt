-- A cycle in serial mode, with the round of the lanes behind it.
--     held-met, source-met      a meeting leaves the stores, and the sources
--     goes-round      the cycle, and a round between two meetings
use Rattle.std.proofs.Common.{◌≡◌, List, ◌∷◌, filter_map, map, slice_get, vec_items, Bool, Option, None, sym, ◌∙◌, ap, ap₂, subst}
use Rattle.jack_host.specs.Causes.{Rose}
use Rattle.driver_words.specs.Tapes.{Tape}
use Rattle.session_works.specs.Drivers.{Gear}
use Rattle.recorder_files.specs.Recorders.{Recording, Stored, held_in, held_or}
use Rattle.session_works.specs.RunWords.{Playing, Session}
use Rattle.session_works.specs.SerialWords.{Met, Rounded, Turned}
use Rattle.session_works.specs.Insides.{held, parts_of}
use Rattle.session_works.specs.Parts.{OfCapture, OfDisk, SourceRose}
use Rattle.session_works.specs.Turnings.{Goes}
use Rattle.session_works.specs.declared.works.SessionWorks.{SessionWorks}

pub held-met : {S W G : Type 0} (before after : SessionWorks S W G) → after.driver ≡ record before.driver { reading = after.driver.reading } → after.recorders ≡ before.recorders → held after ≡ held before
held-met before after driver recorders =
    ap₂ (λ (playback : Option Tape) (rs : List Recording). filter_map (λ (h : Option Stored). h) (held_or None playback ∷ map held_in rs)) (ap (λ (g : Gear). g.playback) driver) (ap vec_items recorders)

pub goes-round : (freewheel : Bool) (session drained after : Session) → Goes freewheel session drained → ((met : Session) × (rounded : Session) × Met drained met × Rounded met rounded × Met rounded after) → Turned freewheel session after
goes-round freewheel session drained after goes round = record {
  emptied = goes.emptied;
  read = goes.read;
  cycled = goes.cycled;
  told = goes.told;
  drained = drained;
  met = round.0;
  rounded = round.1;
  empties = goes.empties;
  reads = goes.reads;
  cycles = goes.cycles;
  tells = goes.tells;
  drains = goes.drains;
  meets = round.2;
  rounds = round.3;
  meets_again = round.4;
}

pub source-met : {S W G : Type 0} (first before after : SessionWorks S W G) → after.driver ≡ record before.driver { reading = after.driver.reading } → after.readers ≡ before.readers → SourceRose (parts_of first) (parts_of before)
    → SourceRose (parts_of first) (parts_of after)
source-met first before after driver readers (OfCapture rose) = OfCapture (subst (λ n. Rose first.driver.capture.reading.faults n) (sym (ap (λ (g : Gear). g.capture.reading.faults) driver)) rose)
source-met first before after driver readers (OfDisk disk old new was is rose) = OfDisk disk old new was (ap (λ (players : List Playing). slice_get players disk) (ap vec_items readers) ∙ is) rose
