-- A whole cycle of serial mode, of what its steps leave and keep.
--     Ready, ready      the session before the driver's cycle
--     IsSound-driven      and behind it
--     IsSettled-turned      the parts are as they were
--     KeepsOwn-turned      and what was kept is kept
use Rattle.std.proofs.Common.{◌≡◌, ℕ, ◌+◌, Bool, true, false, List, length, sym, ◌∙◌, ap, ap₂, subst, arith, true≢false}
use Rattle.session_model.specs.Explanations.{Given}
use Rattle.session_model.specs.Scripts.{Script}
use Rattle.run_laws.specs.driver_laws.specs.Cycling.{HasMetOthers, StepsOnce}
use Rattle.run_laws.specs.driver_laws.specs.Drivers.{run, turn_of}
use Rattle.run_laws.specs.Sessions.{Session}
use Rattle.disk_runs.specs.Readings.{DisksRead}
use Rattle.disk_runs.specs.Rests.{AreFilled, DisksTell}
use Rattle.serial_laws.specs.Steps.{AreEmpty, Cycled, Emptied, IsSettled, IsSound, KeepsOwn, Turned, most_blocks, most_filled}
use Rattle.serial_laws.proofs.CycledLemmas.{IsSound-cycled}
use Rattle.serial_laws.proofs.GiveLemmas.{AreEmpty-gave, DisksTell-gave, IsSound-gave}
use Rattle.serial_laws.proofs.KeepLemmas.{FitsBefore, KeepsOwn-cycled, KeepsOwn-gave, KeepsOwn-met, KeepsOwn-read, KeepsOwn-rounded, KeepsOwn-told, StaysKept}
use Rattle.serial_laws.proofs.MeetLemmas.{DisksTell-met, DisksTell-rounded, IsSound-met, IsSound-rounded}
use Rattle.serial_laws.proofs.ReadLemmas.{AreEmpty-read, AreFilled-long, DisksTell-told, IsSound-read, IsSound-told}

-- whether the next cycle is a freewheel cycle
abbrev pub is_next : Session → Bool → Type 0
is_next session freewheel = (turn_of session.script (run session.driver + 1)).is_freewheel ≡ freewheel

-- a session before its cycle: whether blocks left the recorders' rings, and what was read of the disks
pub record Ready (session emptied read : Session) : Type 0 where
  pub settled : IsSettled emptied
  pub sound : IsSound read
  pub script : read.script ≡ session.script
  pub numbers : read.driver.numbers ≡ session.driver.numbers
  pub full : is_next session true → AreEmpty read × AreFilled read

pub ready : (freewheel : Bool) (session emptied read : Session) → IsSettled session → is_next session freewheel → Emptied freewheel session emptied → DisksRead (most_filled session.script.header freewheel) emptied read
    → Ready session emptied read
ready true session emptied read settled is give reads = record {
  settled = settled_emptied;
  sound = IsSound-read session.script.header.ring emptied read settled_emptied.sound reads;
  script = ap (λ (s : Session). s.script) reads.same ∙ script;
  numbers = ap (λ (s : Session). s.driver.numbers) reads.same ∙ ap (λ (s : Session). s.driver.numbers) give.same;
  full = λ _. (
    AreEmpty-read session.script.header.ring emptied read reads (AreEmpty-gave session settled.sound session.script.header.ring emptied give (omega arith)),
    AreFilled-long emptied read settled_emptied (subst (λ (s : Script). DisksRead s.header.ring emptied read) (sym script) reads),
  );
}
  where
    script : emptied.script ≡ session.script
    script = ap (λ (s : Session). s.script) give.same

    settled_emptied : IsSettled emptied
    settled_emptied = record {
      sound = IsSound-gave session settled.sound session.script.header.ring emptied give;
      tells = DisksTell-gave session.script.header.ring session emptied give settled.tells;
    }
ready false session emptied read settled is same reads = record {
  settled = settled_emptied;
  sound = IsSound-read session.script.header.fill emptied read settled_emptied.sound reads;
  script = ap (λ (s : Session). s.script) reads.same ∙ ap (λ (s : Session). s.script) same;
  numbers = ap (λ (s : Session). s.driver.numbers) reads.same ∙ ap (λ (s : Session). s.driver.numbers) same;
  full = λ freewheel. absurd (true≢false (sym freewheel ∙ is));
}
  where
    settled_emptied : IsSettled emptied
    settled_emptied = subst IsSettled (sym same) settled

-- the driver's cycle leaves the parts as they were
pub IsSound-driven : (session emptied read cycled : Session) → Ready session emptied read → Cycled read cycled → IsSound cycled
IsSound-driven session emptied read cycled here cycles =
    IsSound-cycled read cycled here.sound (λ next. here.full (sym (ap₂ (λ (s : Script) (ns : List ℕ). (turn_of s (length ns + 1)).is_freewheel) here.script here.numbers) ∙ next)) cycles

module _ (freewheel : Bool) (session after : Session) (settled : IsSettled session) (is : is_next session freewheel) (turned : Turned freewheel session after) where
  pub turned-ready : Ready session turned.emptied turned.read
  turned-ready = ready freewheel session turned.emptied turned.read settled is turned.empties turned.reads

  pub sound-cycled : IsSound turned.cycled
  sound-cycled = IsSound-driven session turned.emptied turned.read turned.cycled turned-ready turned.cycles

  pub sound-told : IsSound turned.told
  sound-told = IsSound-told turned.cycled turned.told sound-cycled turned.tells

  pub IsSettled-turned : IsSettled after
  IsSettled-turned =
      let most : ℕ = most_blocks session.script.header freewheel in
      let drained : IsSound turned.drained = IsSound-gave turned.told sound-told most turned.drained turned.drains in
      let met : IsSound turned.met = IsSound-met turned.drained turned.met drained turned.meets in
      let rounded : IsSound turned.rounded = IsSound-rounded turned.met turned.rounded met turned.rounds in
      let told : DisksTell turned.told = DisksTell-told turned.cycled turned.told turned.tells in
      let behind : DisksTell turned.met = DisksTell-met turned.drained turned.met turned.meets (DisksTell-gave most turned.told turned.drained turned.drains told) in
      record {
        sound = IsSound-met turned.rounded after rounded turned.meets_again;
        tells = DisksTell-met turned.rounded after turned.meets_again (DisksTell-rounded turned.met turned.rounded turned.rounds behind);
      }

  module _ (fits_cycled : FitsBefore StepsOnce) (fits : FitsBefore HasMetOthers) (stays : StaysKept HasMetOthers) (given : Given) where
    kept-emptied : (b : Bool) (emptied : Session) → Emptied b session emptied → KeepsOwn given session → KeepsOwn given emptied
    kept-emptied true emptied give keeps = KeepsOwn-gave fits stays given session.script.header.ring session emptied settled.sound give keeps
    kept-emptied false emptied same keeps = subst (KeepsOwn given) (sym same) keeps

    pub KeepsOwn-turned : KeepsOwn given session → KeepsOwn given after
    KeepsOwn-turned keeps =
        let most : ℕ = most_blocks session.script.header freewheel in
        let emptied : KeepsOwn given turned.emptied = kept-emptied freewheel turned.emptied turned.empties keeps in
        let read : KeepsOwn given turned.read = KeepsOwn-read fits stays given (most_filled session.script.header freewheel) turned.emptied turned.read turned-ready.settled.sound turned.reads emptied in
        let cycled : KeepsOwn given turned.cycled = KeepsOwn-cycled fits_cycled given turned.read turned.cycled turned.cycles read in
        let told : KeepsOwn given turned.told = KeepsOwn-told fits stays given turned.cycled turned.told sound-cycled turned.tells cycled in
        let drained : KeepsOwn given turned.drained = KeepsOwn-gave fits stays given most turned.told turned.drained sound-told turned.drains told in
        let met : KeepsOwn given turned.met = KeepsOwn-met fits stays given turned.drained turned.met turned.meets drained in
        let rounded : KeepsOwn given turned.rounded = KeepsOwn-rounded given turned.met turned.rounded turned.rounds met in
        KeepsOwn-met fits stays given turned.rounded after turned.meets_again rounded
