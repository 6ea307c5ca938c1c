-- The counts of the recorders' rings behind a cycle of serial mode.
--     Opened-emptied      before the put
--     HasPut-cycled, losses-cycled      behind it, where its look found no more than was got
--     SerialRings-drained      where the blocks left
--     SerialRings-turned      and where desk and driver met
use Rattle.std.proofs.Common.{◌≡◌, ℕ, suc, ◌+◌, ◌<◌, ◌≤◌, Bool, true, false, List, length, slice_get, ℤ, Some, sym, ◌∙◌, ap, ap₂, subst, add-one}
use Rattle.std.proofs.lemmas.Option.{get_or_from_slice_get, slice_get_within}
use Rattle.jack_types.specs.declared.replies.Overrun.{Overrun}
use Rattle.session_model.specs.Courses.{Course}
use Rattle.session_model.specs.Explanations.{Given}
use Rattle.session_model.specs.Recorders.{is_taping}
use Rattle.session_model.specs.Scripts.{Script}
use Rattle.session_model.specs.Serial.{Counts, counts, put_one, serial_course}
use Rattle.driver_words.specs.Rings.{Getting, Sending}
use Rattle.run_laws.specs.driver_laws.specs.Cycling.{HasMetOthers, PutsOne}
use Rattle.run_laws.specs.driver_laws.specs.Drivers.{block_in, graph_now, has_tape, overruns_on, run, turn_of}
use Rattle.run_laws.specs.driver_laws.specs.Keeping.{Fits}
use Rattle.run_laws.specs.driver_laws.proofs.StepLemmas.{ran}
use Rattle.recorder_files.specs.Recorders.{GivesUp, Reel}
use Rattle.run_laws.specs.Sessions.{IsFor, Session}
use Rattle.run_laws.specs.SerialRuns.{DisksSerial, HasCounts, HasPut, RingSerial}
use Rattle.run_laws.proofs.PlaceLemmas.{some_at}
use Rattle.disk_runs.specs.Readings.{DisksBroke}
use Rattle.disk_runs.proofs.StepLemmas.{tried-read, tried-told}
use Rattle.serial_laws.specs.Faults.{serial_course_of}
use Rattle.serial_laws.specs.Steps.{AreExact, Emptied, GiveUp, IsReel, IsSettled, IsSound, Turned, most_blocks, most_filled}
use Rattle.serial_laws.proofs.ActiveLemmas.{ActiveInSerial, GraphOfRow, is_taping-now}
use Rattle.serial_laws.proofs.DiskLemmas.{DisksCounted, Drives, Fits-turned, SerialFits, began-read, drives-turned, script-driven}
use Rattle.serial_laws.proofs.EmptyLemmas.{DrainsCounted, HasCounts-closed, HasCounts-emptied, capacity-gave, capacity-put, closed, closed-losses, counted_in-turn, opened}
use Rattle.serial_laws.proofs.KeepLemmas.{FitsBefore}
use Rattle.serial_laws.proofs.ReelLemmas.{HasEnds, HasEnds-emptied, HasEnds-gave, HasEnds-sound, HasEnds-stepped, HasEnds-tried, IsReel-stepped, IsReel-tried, IsReel-untried, Lists, SerialRings, SerialRings-stays, ends-met, ends-rounded, lists-gave, lists-met, lists-rounded, lists-tried, lists_of, reel_at, reel_of}

-- a put of serial mode goes in, or finds the ring full, as the definition counts
abbrev pub PutsCounted : Type 0
PutsCounted = (course : Course) (recorder k : ℕ) (ring : Sending) (got : Getting) (counted : Counts) → HasCounts ring got counted → ring.capacity ≡ course.script.header.ring
    → (active : Bool) (samples : List ℤ) (after : Sending) (losses losses_after : List Overrun) → is_taping course recorder k ≡ active → losses ≡ counted.losses
    → PutsOne k recorder active samples ring after losses losses_after → after.least ≤ length got.got
    → HasPut after losses_after (put_one course recorder k counted) × (length got.got ≡ (put_one course recorder k counted).taken)

-- before its put a recorder's ring has the counts that the cycle began with
record Opened (session : Session) (recorder : ℕ) (reel : Reel) (counted : Counts) : Type 0 where
  pub has : HasCounts reel.ring reel.getting counted
  pub capacity : reel.ring.capacity ≡ session.script.header.ring
  pub losses : overruns_on session.driver.overruns recorder ≡ counted.losses

-- behind so many cycles
abbrev counted_so_far : Session → ℕ → Counts
counted_so_far session recorder = counts (serial_course session.script) recorder (run session.driver)

capacity_there : (session : Session) → IsSound session → (recorder : ℕ) (ring : Sending) → slice_get session.driver.rings recorder ≡ Some ring → ring.capacity ≡ session.script.header.ring
capacity_there session sound recorder ring there =
    subst (λ (r : Sending). r.capacity ≡ session.script.header.ring) (get_or_from_slice_get session.driver.rings recorder ring ring there)
    (sound.one.capacity recorder ring (slice_get_within session.driver.rings recorder ring there))

Opened-emptied : DrainsCounted → (freewheel : Bool) (session emptied : Session) → IsSound session → Emptied freewheel session emptied → SerialRings session
    → (recorder : ℕ) (reel : Reel) → recorder < length session.script.header.recorders → IsReel emptied recorder reel → Opened session recorder reel (opened freewheel (counted_so_far session recorder))
Opened-emptied drains true session emptied sound gives known recorder reel low is =
    let old : (old : Reel) × IsReel session recorder old = reel_at session (length session.script.header.recorders) recorder (HasEnds-sound session sound) low in
    let capacity : old.0.ring.capacity ≡ session.script.header.ring = capacity_there session sound recorder old.0.ring old.1.ring in
    let serial : RingSerial session recorder old.0.ring old.0.getting = known recorder old.0.ring old.0.getting old.1.ring old.1.getting in
    let gave : GivesUp session.script.header.ring old.0 reel = gives.each recorder old.0 reel old.1 is in
    record {
      has = HasCounts-emptied drains session.script.header.ring old.0 reel (counted_so_far session recorder) serial.counted.sent serial.counted.taken capacity gave;
      capacity = capacity-gave session.script.header.ring old.0 reel gave ∙ capacity;
      losses = serial.losses;
    }
Opened-emptied drains false session emptied sound same known recorder reel low is =
    let ring_there : slice_get session.driver.rings recorder ≡ Some reel.ring = ap (λ (s : Session). slice_get s.driver.rings recorder) (sym same) ∙ is.ring in
    let got_there : slice_get session.getting recorder ≡ Some reel.getting = ap (λ (s : Session). slice_get s.getting recorder) (sym same) ∙ is.getting in
    let serial : RingSerial session recorder reel.ring reel.getting = known recorder reel.ring reel.getting ring_there got_there in
    record { has = serial.counted; capacity = capacity_there session sound recorder reel.ring ring_there; losses = serial.losses }

module _ (drains : DrainsCounted) (puts : PutsCounted) (freewheel : Bool) (session emptied read cycled told : Session) (drives : Drives freewheel session emptied read cycled told) where
  sound : IsSound session
  sound = drives.settled.sound

  reads : DisksBroke (most_filled session.script.header freewheel) emptied read
  reads = tried-read (most_filled session.script.header freewheel) emptied read drives.reads

  tells : DisksBroke 0 cycled told
  tells = tried-told 0 cycled told drives.tells

  abbrev count : ℕ
  count = length session.script.header.recorders

  -- this cycle's number
  abbrev k : ℕ
  k = run read.driver + 1

  began : lists_of read ≡ lists_of session
  began = began-read freewheel session emptied read cycled told drives

  began_at : run read.driver ≡ run session.driver
  began_at = ap (λ (l : Lists). length l.numbers) began

  pub ran_to : run cycled.driver ≡ suc (run session.driver)
  ran_to = ran read.driver cycled.driver drives.steps ∙ ap suc began_at

  pub script_stays : cycled.script ≡ session.script
  script_stays = script-driven freewheel session emptied read cycled told drives

  -- the counts that the cycle's put finds, and those behind it
  abbrev counted_before : ℕ → Counts
  counted_before recorder = opened freewheel (counted_so_far session recorder)

  abbrev pub counted_put : ℕ → Counts
  counted_put recorder = put_one (serial_course session.script) recorder k (counted_before recorder)

  counts_behind : (recorder : ℕ) → counts (serial_course session.script) recorder (run cycled.driver) ≡ closed session.script.header freewheel (counted_put recorder)
  counts_behind recorder =
      let course : Course = serial_course session.script in
      let here : run session.driver + 1 ≡ suc (run session.driver) = add-one (run session.driver) in
      ap (counts course recorder) ran_to
      ∙ counted_in-turn course recorder (suc (run session.driver)) freewheel (counted_so_far session recorder) (subst (λ (n : ℕ). (turn_of session.script n).is_freewheel ≡ freewheel) here drives.is)
      ∙ ap (λ (n : ℕ). closed session.script.header freewheel (put_one course recorder n (counted_before recorder))) (sym (ap (λ (n : ℕ). n + 1) began_at ∙ here))

  ends_read : HasEnds read count
  ends_read = HasEnds-tried (most_filled session.script.header freewheel) emptied read count reads (HasEnds-emptied freewheel session emptied count drives.empties (HasEnds-sound session sound))

  ends_cycled : HasEnds cycled count
  ends_cycled = HasEnds-stepped read cycled count drives.steps drives.same ends_read

  -- in this cycle a recorder is active where it is in serial mode
  abbrev pub IsActive : Type 0
  IsActive = (recorder : ℕ) → is_taping (serial_course session.script) recorder k ≡ has_tape (graph_now cycled.driver) recorder

  pub active-serial : GraphOfRow → ActiveInSerial → (given : Given) → IsFor session given → Fits cycled.driver (serial_course_of given) → IsActive
  active-serial graph_of active given own fits recorder =
      ap (λ (s : Script). is_taping (serial_course s) recorder k) (sym own.script) ∙ is_taping-now graph_of active given read.driver cycled.driver drives.steps fits recorder

  module _ (active : IsActive) (known : SerialRings session) (recorder : ℕ) (low : recorder < count) (reel : Reel) (is : IsReel read recorder reel) (put : Sending) (there : slice_get cycled.driver.rings recorder ≡ Some put) where
    begins : Opened session recorder reel (counted_before recorder)
    begins = Opened-emptied drains freewheel session emptied sound drives.empties known recorder reel low (IsReel-untried (most_filled session.script.header freewheel) emptied read recorder reel reads is)

    puts_one : PutsOne k recorder (has_tape (graph_now cycled.driver) recorder) (block_in cycled.driver recorder) reel.ring put (overruns_on read.driver.overruns recorder) (overruns_on cycled.driver.overruns recorder)
    puts_one = drives.steps.rings recorder reel.ring put is.ring there

    pub capacity-cycled : put.capacity ≡ session.script.header.ring
    capacity-cycled = capacity-put reel.ring put puts_one ∙ begins.capacity

    -- a put whose look found no more than was got counts as the definition
    pub HasPut-cycled : put.least ≤ length reel.getting.got → HasPut put (overruns_on cycled.driver.overruns recorder) (counted_put recorder) × (length reel.getting.got ≡ (counted_put recorder).taken)
    HasPut-cycled look =
        puts (serial_course session.script) recorder k reel.ring reel.getting (counted_before recorder) begins.has begins.capacity (has_tape (graph_now cycled.driver) recorder) (block_in cycled.driver recorder) put
        (overruns_on read.driver.overruns recorder) (overruns_on cycled.driver.overruns recorder) (active recorder) (ap (λ (l : Lists). overruns_on l.overruns recorder) began ∙ begins.losses) puts_one look

    -- so its overruns are those of serial mode
    pub losses-cycled : put.least ≤ length reel.getting.got → overruns_on cycled.driver.overruns recorder ≡ (counts (serial_course session.script) recorder (run cycled.driver)).losses
    losses-cycled look = (HasPut-cycled look).0.losses ∙ sym (closed-losses session.script.header freewheel (counted_put recorder)) ∙ sym (ap (λ (c : Counts). c.losses) (counts_behind recorder))

  module _ (drained : Session) (gives : GiveUp (most_blocks session.script.header freewheel) told drained) where
    abbrev most : ℕ
    most = most_blocks session.script.header freewheel

    stays : lists_of drained ≡ lists_of cycled
    stays = lists-gave most told drained gives ∙ lists-tried 0 cycled told tells

    counts_drained : (recorder : ℕ) → counts (serial_course session.script) recorder (run cycled.driver) ≡ counted_so_far drained recorder
    counts_drained recorder = ap₂ (λ (s : Script) (n : ℕ). counts (serial_course s) recorder n) (sym (ap (λ (l : Lists). l.script) stays ∙ script_stays)) (sym (ap (λ (l : Lists). length l.numbers) stays))

    pub SerialRings-drained : IsActive → SerialRings session → SerialRings drained
    SerialRings-drained active known recorder ring got ring_there got_there =
        let ends_drained : HasEnds drained count = HasEnds-gave most told drained count gives (HasEnds-tried 0 cycled told count tells ends_cycled) in
        let low : recorder < count = subst (λ n. recorder < n) ends_drained.rings (slice_get_within drained.driver.rings recorder ring ring_there) in
        let before : (reel : Reel) × IsReel read recorder reel = reel_at read count recorder ends_read low in
        let put = some_at cycled.driver.rings recorder (subst (λ n. recorder < n) (sym ends_cycled.rings) low) in
        let last = reel_of drained count recorder ring got ends_drained ring_there got_there low in
        let reel_put : Reel = record before.0 { ring = put.0 } in
        let reel_last : Reel = record { ring = ring; getting = got; tape = last.0; blocks = last.1 } in
        let gave : GivesUp most reel_put reel_last = gives.each recorder reel_put reel_last (IsReel-tried 0 cycled told recorder reel_put tells (IsReel-stepped read cycled recorder before.0 put.0 drives.same before.1 put.1)) last.2 in
        let look : put.0.least ≤ length before.0.getting.got = gave.first.met.looks_least in
        let counted = HasPut-cycled active known recorder low before.0 before.1 put.0 put.1 look in
        record {
          counted = subst (HasCounts ring got) (sym (counts_behind recorder) ∙ counts_drained recorder)
              (HasCounts-closed drains session.script.header freewheel reel_put reel_last (counted_put recorder) counted.0.sent counted.1 (capacity-cycled active known recorder low before.0 before.1 put.0 put.1) gave);
          losses = ap (λ (l : Lists). overruns_on l.overruns recorder) stays ∙ losses-cycled active known recorder low before.0 before.1 put.0 put.1 look ∙ ap (λ (c : Counts). c.losses) (counts_drained recorder);
        }

-- a cycle counts blocks and overruns as the definition does
pub SerialRings-turned : DrainsCounted → PutsCounted → GraphOfRow → ActiveInSerial → DisksCounted → SerialFits → FitsBefore HasMetOthers → (given : Given) (freewheel : Bool) (session after : Session) → IsSettled session
    → (turn_of session.script (run session.driver + 1)).is_freewheel ≡ freewheel → Turned freewheel session after → AreExact after → IsFor session given → DisksSerial given session → SerialRings session → SerialRings after
SerialRings-turned drains puts graph_of active counts fits met given freewheel session after settled turn_is turned exact own disks known =
    let behind : lists_of after ≡ lists_of turned.drained =
    lists-met turned.rounded after turned.meets_again ∙ lists-rounded turned.met turned.rounded turned.rounds ∙ lists-met turned.drained turned.met turned.meets in
    let ends = ends-met turned.rounded after turned.meets_again ∙ ends-rounded turned.met turned.rounded turned.rounds ∙ ends-met turned.drained turned.met turned.meets in
    let drives : Drives freewheel session turned.emptied turned.read turned.cycled turned.told = drives-turned freewheel session after settled turn_is turned in
    let fitting : Fits turned.cycled.driver (serial_course_of given) = Fits-turned freewheel session after settled turn_is turned counts fits met given own exact disks in
    SerialRings-stays turned.drained after behind ends
    (SerialRings-drained drains puts freewheel session turned.emptied turned.read turned.cycled turned.told drives turned.drained turned.drains
    (active-serial drains puts freewheel session turned.emptied turned.read turned.cycled turned.told drives graph_of active given own fitting)
    known)
