-- The disks of a new session.
--     HasRoom-new, DisksTell-new      the rings have room, and nothing was put
--     DisksSerial-new      and serial mode is before its first cycle
use Rattle.std.proofs.Common.{◌≡◌, ℕ, [], length, take, refl, sym, ◌∙◌, ap, subst, true≢false}
use Rattle.session_model.specs.Disks.{got_one, missed_up_to, turned_before}
use Rattle.session_model.specs.Explanations.{Given}
use Rattle.session_model.specs.Scripts.{Script}
use Rattle.session_model.specs.Serial.{course_before}
use Rattle.driver_words.specs.Rings.{Getting}
use Rattle.disk_player.specs.Playing.{Playing}
use Rattle.disk_turns.specs.Standing.{StandsAt}
use Rattle.driver_laws.specs.Drivers.{run, underruns_on}
use Rattle.driver_laws.specs.Openings.{IsEmptyDisk}
use Rattle.run_laws.specs.Runs.{PlaysAll}
use Rattle.run_laws.specs.Sessions.{IsDisk, IsGiven, Session}
use Rattle.run_laws.specs.Told.{IsNew, IsNewPlayer}
use Rattle.run_laws.specs.SerialRuns.{DisksSerial}
use Rattle.disk_runs.specs.Rests.{DiskTells, DisksFresh, DisksHaveRoom, DisksTell}
use Rattle.disk_runs.proofs.PlaceLemmas.{at-place}

-- the players of a new session go on with the files that its sources tell
abbrev pub NewPlayTheirFiles : Type 0
NewPlayTheirFiles = (session : Session) (given : Given) → IsNew session → IsGiven session given → PlaysAll given session

pub HasRoom-new : (session : Session) → IsNew session → DisksHaveRoom session
HasRoom-new session new disk player here = (new.new_players disk player here).capacity

-- nothing was put and nothing got
record IsNone (player : Playing) (got : Getting) : Type 0 where
  pub no_put : player.sending.put ≡ []
  pub no_got : got.got ≡ []
  pub tells : DiskTells player.sending got

none-yet : (session : Session) → IsNew session → DisksFresh session → (disk : ℕ) (player : Playing) (got : Getting) → IsDisk session disk player got → IsNone player got
none-yet session new fresh disk player got here =
    let put : IsNewPlayer session.script disk player = new.new_players disk player here.player_is in
    let none : IsEmptyDisk got = at-place IsEmptyDisk session.driver.disks disk got new.new_driver.disks here.got_is in
    record {
      no_put = put.put;
      no_got = none.blocks;
      tells = record {
        front = none.blocks ∙ sym (ap (λ bs. take (length bs) player.sending.put) none.blocks);
        over = λ done. absurd (true≢false (sym done ∙ none.done));
        looks = put.looks ∙ sym (ap length none.blocks);
        finds = fresh disk got here.got_is ∙ sym (ap length put.put);
        told = none.told ∙ sym put.open_ended;
      };
    }

pub DisksTell-new : (session : Session) → IsNew session → DisksFresh session → DisksTell session
DisksTell-new session new fresh disk player got here = (none-yet session new fresh disk player got here).tells

module _ (plays : NewPlayTheirFiles) (session : Session) (given : Given) (new : IsNew session) (is_given : IsGiven session given) (fresh : DisksFresh session) where
  no_run : run session.driver ≡ 0
  no_run = ap length new.new_driver.numbers

  -- nobody plays before the first cycle
  stands-first : (disk : ℕ) (player : Playing) (got : Getting) → IsDisk session disk player got → StandsAt (course_before given) disk (got_one (course_before given) disk 0 (turned_before (course_before given) disk 0)) player got
  stands-first disk player got here =
      let none : IsNone player got = none-yet session new fresh disk player got here in
      record {
        file = plays session given new is_given (course_before given) (record { script = refl; capture = refl; disks = refl; scores = refl }) disk player here.player_is;
        capacity = (new.new_players disk player here.player_is).capacity ∙ ap (λ (s : Script). s.header.ring) (sym is_given.own.script);
        put = ap length none.no_put;
        taken = ap length none.no_got;
        looks = none.tells.looks;
        finds = none.tells.finds;
        told = none.tells.told;
        front = none.tells.front;
        over = none.tells.over;
      }

  pub DisksSerial-new : DisksSerial given session
  DisksSerial-new disk player got here = record {
    stands = subst (λ n. StandsAt (course_before given) disk (got_one (course_before given) disk n (turned_before (course_before given) disk n)) player got) (sym no_run) (stands-first disk player got here);
    missed = ap (λ us. underruns_on us disk) new.new_driver.underruns ∙ ap (missed_up_to (course_before given) disk) (sym no_run);
  }
