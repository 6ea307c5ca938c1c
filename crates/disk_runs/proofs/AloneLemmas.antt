-- Steps that leave the disks alone.
--     HasRoom-alone, PlaysAll-alone, DisksTell-alone, AreFilled-alone, DisksSerial-alone
use Rattle.std.proofs.Common.{◌≡◌, ℕ, List, length, slice_get, sym, ◌∙◌, ap, subst}
use Rattle.jack_types.specs.declared.replies.Underrun.{Underrun}
use Rattle.session_model.specs.Disks.{got_one, missed_up_to, turned_before}
use Rattle.session_model.specs.Explanations.{Given}
use Rattle.session_model.specs.Scripts.{Script}
use Rattle.session_model.specs.Serial.{course_before}
use Rattle.driver_words.specs.Rings.{Getting}
use Rattle.disk_player.specs.Playing.{Playing}
use Rattle.disk_turns.specs.Segments.{IsFilled}
use Rattle.disk_turns.specs.Standing.{StandsAt}
use Rattle.driver_laws.specs.Drivers.{underruns_on}
use Rattle.run_laws.specs.Runs.{PlaysAll}
use Rattle.run_laws.specs.Sessions.{IsDisk, Session}
use Rattle.run_laws.specs.SerialRuns.{DiskSerial, DisksSerial}
use Rattle.disk_runs.specs.Rests.{AreFilled, DisksHaveRoom, DisksTell}

module _ (session after : Session) where
  -- a disk behind the step is the one before it
  still : after.players ≡ session.players → after.driver.disks ≡ session.driver.disks → (disk : ℕ) (player : Playing) (got : Getting) → IsDisk after disk player got → IsDisk session disk player got
  still players disks disk player got here = record {
    player_is = ap (λ (ps : List Playing). slice_get ps disk) (sym players) ∙ here.player_is;
    got_is = ap (λ (gs : List Getting). slice_get gs disk) (sym disks) ∙ here.got_is;
  }

  pub HasRoom-alone : after.script ≡ session.script → after.players ≡ session.players → DisksHaveRoom session → DisksHaveRoom after
  HasRoom-alone script players room disk player here =
      room disk player (ap (λ (ps : List Playing). slice_get ps disk) (sym players) ∙ here) ∙ ap (λ (s : Script). s.header.ring) (sym script)

  pub PlaysAll-alone : (given : Given) → after.players ≡ session.players → PlaysAll given session → PlaysAll given after
  PlaysAll-alone given players plays course over disk player here = plays course over disk player (ap (λ (ps : List Playing). slice_get ps disk) (sym players) ∙ here)

  pub DisksTell-alone : after.players ≡ session.players → after.driver.disks ≡ session.driver.disks → DisksTell session → DisksTell after
  DisksTell-alone players disks tell disk player got here = tell disk player got (still players disks disk player got here)

  pub AreFilled-alone : after.script ≡ session.script → after.driver.disks ≡ session.driver.disks → AreFilled session → AreFilled after
  AreFilled-alone script disks filled disk got here =
      subst (λ (s : Script). IsFilled s.header.ring got) (sym script) (filled disk got (ap (λ (gs : List Getting). slice_get gs disk) (sym disks) ∙ here))

  pub DisksSerial-alone : (given : Given) → after.players ≡ session.players → after.driver.disks ≡ session.driver.disks → after.driver.numbers ≡ session.driver.numbers → after.driver.underruns ≡ session.driver.underruns
      → DisksSerial given session → DisksSerial given after
  DisksSerial-alone given players disks numbers underruns known disk player got here =
      let old : DiskSerial given session disk player got = known disk player got (still players disks disk player got here) in
      record {
        stands = subst (λ (ns : List ℕ). StandsAt (course_before given) disk (got_one (course_before given) disk (length ns) (turned_before (course_before given) disk (length ns))) player got) (sym numbers) old.stands;
        missed = ap (λ (us : List Underrun). underruns_on us disk) underruns ∙ old.missed ∙ ap (λ (ns : List ℕ). missed_up_to (course_before given) disk (length ns)) (sym numbers);
      }
