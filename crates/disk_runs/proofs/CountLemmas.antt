-- A cycle of serial mode counts the disks' turns.
--     DisksSerial-turned
use Rattle.std.proofs.Common.{◌≡◌, ℕ, suc, ◌+◌, ◌<◌, ◌≤◌, ◌++◌, cond, List, [], ◌∷◌, length, map, slice_get, All, Some, refl, sym, ◌∙◌, ap, subst, arith, add-one}
use Rattle.jack_types.specs.declared.replies.Underrun.{Underrun}
use Rattle.session_model.specs.Courses.{Course, disk_file, graph, is_disk_active}
use Rattle.session_model.specs.Disks.{got_one, is_missed_in, missed_at, missed_up_to, turned_before}
use Rattle.session_model.specs.Explanations.{Given}
use Rattle.session_model.specs.Grammar.{IsScript}
use Rattle.session_model.specs.Samples.{below}
use Rattle.session_model.specs.Scripts.{Script}
use Rattle.session_model.specs.Serial.{course_before}
use Rattle.session_model.specs.State.{State}
use Rattle.driver_words.specs.Rings.{Getting}
use Rattle.disk_player.specs.Playing.{Playing}
use Rattle.disk_player.proofs.FileLemmas.{has-put}
use Rattle.disk_files.specs.Readers.{ReadsAhead, TellsAhead}
use Rattle.disk_turns.specs.Standing.{StandsAt, StandsRead, most_read}
use Rattle.disk_turns.proofs.CountLemmas.{is-missed, put-wheel, stands-behind, stands-read}
use Rattle.control_desk.specs.Laws.{OfCallsAccepted}
use Rattle.driver_laws.specs.Cycling.{GetsOne, StepsOnce}
use Rattle.driver_laws.specs.Drivers.{Driver, graph_now, has_disk, run, underruns_on}
use Rattle.driver_laws.specs.Keeping.{Fits}
use Rattle.driver_laws.proofs.PlaceLemmas.{there_too}
use Rattle.driver_laws.proofs.StepLemmas.{ran}
use Rattle.run_laws.specs.Sessions.{IsDisk, IsFor, IsOne, Session}
use Rattle.run_laws.specs.SerialRuns.{DiskSerial, DisksSerial}
use Rattle.disk_runs.specs.Counts.{IsSerialSoFar, TurnsDisks}
use Rattle.disk_runs.proofs.FileLemmas.{fits-put}
use Rattle.disk_runs.proofs.MissLemmas.{own-more}
use Rattle.disk_runs.proofs.PlaceLemmas.{Stepped, as-many, long, long-after, stepped}
use Rattle.disk_runs.proofs.SerialLemmas.{Fits-serial, RunsSerial, SerialHistoryLegal, course_with, underruns-same}

-- the graph of a cycle, by any course that fits behind it, is that of the content that it took
abbrev pub GraphOfRow : Type 0
GraphOfRow = (driver after : Driver) (course : Course) → StepsOnce driver after → Fits after course → graph course (run driver + 1) ≡ graph_now after

module _ (given : Given) (session after : Session) (one : IsOne session) (own : IsFor session given) (turns : TurnsDisks given session after) (known : DisksSerial given session) where
  abbrev course : Course
  course = course_before given

  -- cycles before this one
  abbrev n : ℕ
  n = run session.driver

  abbrev read : Session
  read = turns.read

  abbrev cycled : Session
  cycled = turns.cycled

  abbrev most : ℕ
  most = most_read course (suc n)

  -- ---- the driver

  read-at : run read.driver ≡ n
  read-at = ap (λ (s : Session). run s.driver) turns.reads.same

  ran-to : run cycled.driver ≡ suc n
  ran-to = ran read.driver cycled.driver turns.steps ∙ ap suc read-at

  cycle-is : run read.driver + 1 ≡ suc n
  cycle-is = ap (λ m. m + 1) read-at ∙ add-one n

  script-is : cycled.driver.script ≡ given.script
  script-is = turns.steps.script ∙ ap (λ (s : Session). s.driver.script) turns.reads.same ∙ one.driver_script ∙ sym own.script

  -- the session behind the meeting, with what changed told
  abbrev met : Session
  met = record cycled { driver = record cycled.driver { disks = after.driver.disks }; players = after.players }

  -- a meeting changes nothing of what was taken
  so-far : IsSerialSoFar given after.driver → IsSerialSoFar given cycled.driver
  so-far so_far =
      let behind : IsSerialSoFar given met.driver = subst (λ (s : Session). IsSerialSoFar given s.driver) turns.tells.same so_far in
      record { numbers = behind.numbers; rows = behind.rows }

  runs : IsSerialSoFar given after.driver → RunsSerial given cycled.driver
  runs so_far = record {
    lawful = subst IsScript (sym own.script) one.lawful;
    script = script-is;
    scores = own.scores ∙ sym (turns.steps.scores ∙ ap (λ (s : Session). s.driver.scores) turns.reads.same);
    channels = own.channels ∙ ap (λ (s : Script). s.header.disks) (sym own.script);
    own = turns.steps.own_rows;
    so_far = so-far so_far;
  }

  -- ---- a disk

  long-read : length read.driver.disks ≡ length read.players
  long-read = long-after (ReadsAhead most) session read turns.reads (long session one)

  players-cycled : cycled.players ≡ read.players
  players-cycled = ap (λ (s : Session). s.players) turns.same

  -- a disk behind the cycle: what was read before it, and what was got
  record Came (disk : ℕ) (player : Playing) (got : Getting) : Type 0 where
    pub got_read : Getting
    pub reads : StandsRead course disk (turned_before course disk (suc n)) player got_read
    pub gets : GetsOne (run read.driver + 1) disk (has_disk (graph_now cycled.driver) disk) got_read got (underruns_on read.driver.underruns disk) (underruns_on cycled.driver.underruns disk)
    pub missed : underruns_on read.driver.underruns disk ≡ missed_up_to course disk n

  came : (disk : ℕ) (player : Playing) (got : Getting) → IsDisk cycled disk player got → Came disk player got
  came disk player got here =
      let there : (got_read : Getting) × (slice_get read.driver.disks disk ≡ Some got_read) = there_too cycled.driver.disks read.driver.disks disk got (sym turns.steps.as_many_disks) here.got_is in
      let behind : IsDisk read disk player there.0 = record { player_is = ap (λ (ps : List Playing). slice_get ps disk) (sym players-cycled) ∙ here.player_is; got_is = there.1 } in
      let step : Stepped (ReadsAhead most) session disk player there.0 = stepped (ReadsAhead most) session read turns.reads disk player there.0 behind in
      let old : DiskSerial given session disk step.player step.got = known disk step.player step.got step.before in
      record {
        got_read = there.0;
        reads = stands-read course disk (suc n) (got_one course disk n (turned_before course disk n)) step.player player step.got there.0 old.stands step.step;
        gets = turns.steps.disks disk there.0 got there.1 here.got_is;
        missed = ap (λ (s : Session). underruns_on s.driver.underruns disk) turns.reads.same ∙ old.missed;
      }

  -- ---- who plays

  -- the course of serial mode with the driver's own underruns
  abbrev own-underruns : List (List Underrun)
  own-underruns = map (underruns_on cycled.driver.underruns) (below (length given.script.header.disks))

  count-read : length read.driver.disks ≡ length given.script.header.disks
  count-read = turns.reads.disks ∙ as-many session one ∙ ap (λ (s : Script). length s.header.disks) (sym own.script)

  own-cycled : All (λ (u : Underrun). u.disk < length given.script.header.disks) cycled.driver.underruns
  own-cycled =
      own-more (length given.script.header.disks) read.driver cycled.driver turns.steps count-read
      (subst (λ (us : List Underrun). All (λ (u : Underrun). u.disk < length given.script.header.disks) us) (ap (λ (s : Session). s.driver.underruns) (sym turns.reads.same))
      (subst (λ (s : Script). All (λ (u : Underrun). u.disk < length s.header.disks) session.driver.underruns) (sym own.script) one.own_disks))

  module _ (of_calls : OfCallsAccepted) (legal : SerialHistoryLegal) (graph_of : GraphOfRow) (so_far : IsSerialSoFar given after.driver) where
    fits-cycled : Fits cycled.driver (course_with given own-underruns)
    fits-cycled =
        Fits-serial of_calls legal given cycled.driver own-underruns (runs so_far)
        (λ disk k low. underruns-same (underruns_on cycled.driver.underruns) cycled.driver.underruns (length given.script.header.disks) disk k own-cycled (λ there. refl))
        (λ disk got here.
        let player : (player : Playing) × (slice_get cycled.players disk ≡ Some player) = there_too cycled.driver.disks cycled.players disk got (sym long-cycled) here in
        let behind : (player : Playing) × (slice_get after.players disk ≡ Some player) = there_too cycled.players after.players disk player.0 turns.tells.players player.1 in
        let got_met : (got : Getting) × (slice_get after.driver.disks disk ≡ Some got) = there_too cycled.driver.disks after.driver.disks disk got turns.tells.disks here in
        let tells : TellsAhead player.0 got behind.0 got_met.0 = turns.tells.each disk player.0 behind.0 got got_met.0 record { player_is = player.1; got_is = here } record { player_is = behind.1; got_is = got_met.1 } in
        let it : Came disk player.0 got = came disk player.0 got record { player_is = player.1; got_is = here } in
        fits-put (course_with given own-underruns) disk player.0.sending got (has-put (disk_file course disk) given.script.header.period player.0 it.reads.stands.file) tells.tells.met.front tells.tells.met.whole)
      where
        long-cycled : length cycled.driver.disks ≡ length cycled.players
        long-cycled = turns.steps.as_many_disks ∙ long-read ∙ ap length (sym players-cycled)

    -- graphs read no underrun
    active : (disk : ℕ) → is_disk_active course disk (suc n) ≡ has_disk (graph_now cycled.driver) disk
    active disk =
        ap (is_disk_active course disk) (sym cycle-is)
        ∙ ap (λ (s : State). has_disk s disk) (graph_of read.driver cycled.driver (course_with given own-underruns) turns.steps fits-cycled)

    -- ---- all of it

    pub DisksSerial-turned : DisksSerial given after
    DisksSerial-turned disk player got behind = record {
      stands = subst (λ m. StandsAt course disk (got_one course disk m (turned_before course disk m)) player got) (sym ran-after)
          (stands-behind course disk (suc n) (turned_before course disk (suc n)) step.player player it.got_read step.got got (underruns_on read.driver.underruns disk) (underruns_on cycled.driver.underruns disk)
          some (put-wheel course disk (suc n) (got_one course disk n (turned_before course disk n))) it.reads step.step gets);
      missed = ap (λ (s : Session). underruns_on s.driver.underruns disk) turns.tells.same
          ∙ is-missed course disk (suc n) (turned_before course disk (suc n)) step.player player it.got_read step.got got (underruns_on read.driver.underruns disk) (underruns_on cycled.driver.underruns disk)
          some (put-wheel course disk (suc n) (got_one course disk n (turned_before course disk n))) it.reads step.step gets
          ∙ ap (λ (us : List Underrun). us ++ now) it.missed
          ∙ ap (missed_up_to course disk) (sym ran-after);
    }
      where
        ran-after : run after.driver ≡ suc n
        ran-after = ap (λ (s : Session). run s.driver) turns.tells.same ∙ ran-to

        some : 0 < given.script.header.ring
        some = let least : 1 ≤ session.script.header.ring = one.lawful.header.ring.0 in omega (arith, least, ap (λ (s : Script). s.header.ring) own.script)

        step : Stepped TellsAhead cycled disk player got
        step = stepped TellsAhead cycled after turns.tells disk player got behind

        it : Came disk step.player step.got
        it = came disk step.player step.got step.before

        gets : GetsOne (suc n) disk (is_disk_active course disk (suc n)) it.got_read step.got (underruns_on read.driver.underruns disk) (underruns_on cycled.driver.underruns disk)
        gets = subst (λ k. GetsOne k disk (is_disk_active course disk (suc n)) it.got_read step.got (underruns_on read.driver.underruns disk) (underruns_on cycled.driver.underruns disk)) cycle-is
            (subst (λ b. GetsOne (run read.driver + 1) disk b it.got_read step.got (underruns_on read.driver.underruns disk) (underruns_on cycled.driver.underruns disk)) (sym (active disk)) it.gets)

        -- the underrun of this cycle, where it is one
        now : List Underrun
        now = cond (is_missed_in course disk (suc n)) (missed_at course disk (suc n) ∷ []) []
