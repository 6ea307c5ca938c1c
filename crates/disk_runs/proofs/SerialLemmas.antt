-- The course of serial mode over a driver that took what serial mode takes.
--     underruns-same      a list of each disk's underruns has those of the driver
--     Fits-serial      the course fits, where it misses what the driver missed
--     Fits-whole      with the stated underruns
--     IsSerial-own, printed-own      the session's own course has these, and so has its report
use Rattle.std.proofs.Common.{◌≡◌, ℕ, ◌<◌, ◌≤◌, ◌==◌, ◌⊎◌, inl, inr, Bool, true, false, cond, List, [], ◌∷◌, length, map, min, take, get_or, slice_get, slice_index_or, All, Some, refl, sym, ◌∙◌, ap, ap₂, subst, arith, eqb-true}
use Rattle.std.specs.List.{list_any}
use Rattle.std.proofs.Math.Nat.{min-le_right}
use Rattle.std.proofs.lemmas.Bool.{cases_lt}
use Rattle.std.proofs.lemmas.List.{get_or_past, length-take}
use Rattle.std.proofs.lemmas.List.Elements.{All-head, All-tail}
use Rattle.std.proofs.lemmas.Option.{get_or_from_slice_get, slice_get_within}
use Rattle.jack_types.specs.declared.commands.Change.{Change}
use Rattle.jack_types.specs.declared.replies.Entry.{Entry}
use Rattle.jack_types.specs.declared.replies.Underrun.{Underrun}
use Rattle.session_model.specs.Courses.{Course, DiskFile, disk_file}
use Rattle.session_model.specs.Disks.{IsSerial, is_empty, is_missed_in, missed_up_to, turned_underruns}
use Rattle.session_model.specs.Explanations.{Given, course_of}
use Rattle.session_model.specs.Grammar.{IsScript}
use Rattle.session_model.specs.Histories.{Cycles, Legal, accepted}
use Rattle.session_model.specs.Samples.{below}
use Rattle.session_model.specs.Scripts.{Script, turns}
use Rattle.session_model.specs.Serial.{course_before, course_in_serial, serial, serial_history, serial_numbers, serial_printed, serial_underruns}
use Rattle.session_laws.proofs.ActivationLemmas.{get_or-map_below, length-map_below}
use Rattle.session_laws.proofs.SerialDiskLemmas.{in-missed}
use Rattle.graph_word.specs.declared.view.TakenRow.{TakenRow}
use Rattle.graph_word.specs.Publications.{IsFront}
use Rattle.driver_words.specs.Rings.{Getting}
use Rattle.disk_player.proofs.FileLemmas.{has-put}
use Rattle.disk_turns.proofs.StayLemmas.{missed-stay, turned-same}
use Rattle.control_desk.specs.Laws.{OfCallsAccepted}
use Rattle.driver_laws.specs.Drivers.{Driver, HasOwnRows, run, underruns_on}
use Rattle.driver_laws.specs.Keeping.{Fits, FitsDisk}
use Rattle.disk_player.specs.Playing.{Playing}
use Rattle.run_laws.specs.Sessions.{IsDisk, IsFor, IsOne, Session, course_in, printed_of}
use Rattle.run_laws.proofs.CourseLemmas.{AreOfCalls-kept}
use Rattle.run_laws.proofs.PlaceLemmas.{front_there, map-below, mapped_there, some_at}
use Rattle.run_laws.specs.SerialRuns.{DisksSerial}
use Rattle.disk_runs.specs.Counts.{IsSerialSoFar}
use Rattle.disk_runs.proofs.FileLemmas.{fits-put}
use Rattle.disk_runs.proofs.PlaceLemmas.{both-by, both-of, long}

-- the history of serial mode is legal, and its numbers are within their bounds
abbrev pub SerialHistoryLegal : Type 0
SerialHistoryLegal = (script : Script) → IsScript script → Legal script (serial script).history

abbrev pub SerialNumbersLegal : Type 0
SerialNumbersLegal = (script : Script) → IsScript script → Cycles script (serial script).history (serial script).numbers

-- a row is the front of the changes of serial mode that its number says
row_in_serial : (rows : List TakenRow) (all : List Change) (count : ℕ) (numbers : List ℕ) → map (λ (row : TakenRow). length row.changes) rows ≡ take count numbers → All (λ (row : TakenRow). IsFront row.changes all) rows
    → (k : ℕ) (row : TakenRow) → slice_get rows k ≡ Some row → row.changes ≡ take (slice_index_or numbers k 0) all
row_in_serial rows all count numbers same fronts k row there =
    let row_is : get_or rows k row ≡ row = get_or_from_slice_get rows k row row there in
    let front : IsFront row.changes all = subst (λ (r : TakenRow). IsFront r.changes all) row_is (fronts k row (slice_get_within rows k row there)) in
    let counted : slice_get (take count numbers) k ≡ Some (length row.changes) = ap (λ ns. slice_get ns k) (sym same) ∙ mapped_there (λ (r : TakenRow). length r.changes) rows k row there in
    let number : slice_index_or numbers k 0 ≡ length row.changes = get_or_from_slice_get numbers k (length row.changes) 0 (front_there count numbers k (length row.changes) counted) in
    front ∙ ap (λ n. take n all) (sym number)

-- no underrun is of a disk past the script's
pub none_beyond : (count disk : ℕ) → count ≤ disk → (us : List Underrun) → All (λ (u : Underrun). u.disk < count) us → underruns_on us disk ≡ []
none_beyond count disk high [] h = refl
none_beyond count disk high (u ∷ us) h =
    go (u.disk == disk) refl (All-head (λ (v : Underrun). v.disk < count) u us h) (none_beyond count disk high us (All-tail (λ (v : Underrun). v.disk < count) u us h))
  where
    rest : List Underrun
    rest = underruns_on us disk

    go : (b : Bool) → (u.disk == disk) ≡ b → u.disk < count → rest ≡ [] → cond b (u ∷ rest) rest ≡ []
    go true e low r = absurd (omega (arith, eqb-true u.disk disk e, low, high))
    go false e low r = r

-- a list that has each disk's underruns up to some cycle has those of the driver
pub underruns-same : (f : ℕ → List Underrun) (underruns : List Underrun) (count disk k : ℕ) → All (λ (u : Underrun). u.disk < count) underruns
    → (disk < count → list_any (λ (u : Underrun). u.cycle == k) (f disk) ≡ list_any (λ (u : Underrun). u.cycle == k) (underruns_on underruns disk))
    → list_any (λ (u : Underrun). u.cycle == k) (slice_index_or (map f (below count)) disk []) ≡ list_any (λ (u : Underrun). u.cycle == k) (underruns_on underruns disk)
underruns-same f underruns count disk k own same = go (cases_lt disk count)
  where
    go : (disk < count) ⊎ (count ≤ disk) → list_any (λ (u : Underrun). u.cycle == k) (slice_index_or (map f (below count)) disk []) ≡ list_any (λ (u : Underrun). u.cycle == k) (underruns_on underruns disk)
    go (inl low) = ap (list_any (λ (u : Underrun). u.cycle == k)) (get_or-map_below f count disk [] low) ∙ same low
    go (inr high) =
        let past : length (map f (below count)) ≤ disk = omega (arith, length-map_below f count, high) in
        ap (list_any (λ (u : Underrun). u.cycle == k)) (get_or_past (map f (below count)) disk [] past ∙ sym (none_beyond count disk high underruns own))

-- a driver that serial mode brought so far
pub record RunsSerial (given : Given) (driver : Driver) : Type 0 where
  pub lawful : IsScript given.script
  pub script : driver.script ≡ given.script
  pub scores : given.scores ≡ driver.scores
  pub channels : map (λ (file : DiskFile). file.channels) given.disks ≡ given.script.header.disks
  pub own : HasOwnRows driver
  pub so_far : IsSerialSoFar given driver

-- the course of serial mode with these underruns
abbrev pub course_with : Given → List (List Underrun) → Course
course_with given underruns = course_in_serial given.script given.capture given.disks given.scores underruns

pub Fits-serial : OfCallsAccepted → SerialHistoryLegal → (given : Given) (driver : Driver) (underruns : List (List Underrun)) → RunsSerial given driver
    → ((disk k : ℕ) → k ≤ run driver → list_any (λ (u : Underrun). u.cycle == k) (slice_index_or underruns disk []) ≡ list_any (λ (u : Underrun). u.cycle == k) (underruns_on driver.underruns disk))
    → ((disk : ℕ) (got : Getting) → slice_get driver.disks disk ≡ Some got → FitsDisk (course_with given underruns) disk got) → Fits driver (course_with given underruns)
Fits-serial of_calls legal given driver underruns runs missed disks = record {
  script = sym runs.script;
  scores = runs.scores;
  channels = runs.channels;
  of_calls = AreOfCalls-kept given.script (accepted (serial_history given.script)) (of_calls given.script (serial_history given.script) (legal given.script runs.lawful).so_far);
  numbers = runs.so_far.numbers;
  rows = λ k row there. row_in_serial driver.reading.rows (accepted (serial_history given.script)) (run driver) (serial_numbers given.script) (runs.own.numbers ∙ runs.so_far.numbers) runs.so_far.rows k row there;
  underruns = missed;
  disks = disks;
}

module _ (given : Given) (session : Session) (one : IsOne session) (own : IsFor session given) where
  pub count-given : length session.script.header.disks ≡ length given.script.header.disks
  count-given = ap (λ (s : Script). length s.header.disks) (sym own.script)

  own-given : All (λ (u : Underrun). u.disk < length given.script.header.disks) session.driver.underruns
  own-given = subst (λ n. All (λ (u : Underrun). u.disk < n) session.driver.underruns) count-given one.own_disks

  -- the disk of a place
  disk-at : (disk : ℕ) → disk < length session.script.header.disks → (player : Playing) × (got : Getting) × IsDisk session disk player got
  disk-at disk low =
      let player = some_at session.players disk (subst (λ n. disk < n) (sym one.disk_ends) low) in
      let there : (got : Getting) × IsDisk session disk player.0 got = both-of session (long session one) disk player.0 player.1 in
      (player.0, there.0, there.1)

  pub runs-serial : IsSerialSoFar given session.driver → RunsSerial given session.driver
  runs-serial so_far = record {
    lawful = subst IsScript (sym own.script) one.lawful;
    script = one.driver_script ∙ sym own.script;
    scores = own.scores;
    channels = own.channels ∙ ap (λ (s : Script). s.header.disks) (sym own.script);
    own = one.rows;
    so_far = so_far;
  }

  module _ (known : DisksSerial given session) where
    missed-at : (disk : ℕ) → disk < length session.script.header.disks → underruns_on session.driver.underruns disk ≡ missed_up_to (course_before given) disk (run session.driver)
    missed-at disk low = let here = disk-at disk low in (known disk here.0 here.1 here.2).missed

    pub Fits-whole : OfCallsAccepted → SerialHistoryLegal → SerialNumbersLegal → IsSerialSoFar given session.driver → Fits session.driver (course_of given (serial_printed given))
    Fits-whole of_calls legal within so_far =
        Fits-serial of_calls legal given session.driver (serial_underruns given) (runs-serial so_far)
        (λ disk k low.
        underruns-same (turned_underruns (course_before given)) session.driver.underruns (length given.script.header.disks) disk k own-given (λ there.
        sym (missed-stay (course_before given) disk (run session.driver) (length (turns given.script)) k low all)
        ∙ ap (list_any (λ (u : Underrun). u.cycle == k)) (sym (missed-at disk (subst (λ n. disk < n) (sym count-given) there)))))
        (λ disk got here.
        let there : (player : Playing) × IsDisk session disk player got = both-by session (long session one) disk got here in
        let stands = (known disk there.0 got there.1).stands in
        fits-put (course_with given (serial_underruns given)) disk there.0.sending got (has-put (disk_file (course_before given) disk) given.script.header.period there.0 stands.file) stands.front stands.over)
      where
        -- serial mode has no more numbers than the script has cycles
        all : run session.driver ≤ length (turns given.script)
        all =
            let each : length (serial_numbers given.script) ≡ length (turns given.script) = (within given.script (subst IsScript (sym own.script) one.lawful)).each in
            let size : run session.driver ≡ min (run session.driver) (length (serial_numbers given.script)) = ap length so_far.numbers ∙ length-take (run session.driver) (serial_numbers given.script) in
            let low : min (run session.driver) (length (serial_numbers given.script)) ≤ length (serial_numbers given.script) = min-le_right (run session.driver) (length (serial_numbers given.script)) in
            omega (arith, each, size, low)

    pub printed-own : run session.driver ≡ length (turns session.script) → (printed_of session).underruns ≡ serial_underruns given
    printed-own whole =
        map-below (underruns_on session.driver.underruns) (turned_underruns (course_before given)) (length session.script.header.disks)
        (λ disk low. missed-at disk low ∙ ap (missed_up_to (course_before given) disk) (whole ∙ ap (λ (s : Script). length (turns s)) (sym own.script)))
        ∙ ap (λ n. map (turned_underruns (course_before given)) (below n)) count-given

    pub IsSerial-own : session.desk.history ≡ (serial session.script).history → session.driver.numbers ≡ (serial session.script).numbers → run session.driver ≡ length (turns session.script)
        → (disk : ℕ) → disk < length session.script.header.disks → IsSerial (course_in given session) disk
    IsSerial-own history numbers whole disk low k first last =
        underruns-same (underruns_on session.driver.underruns) session.driver.underruns (length session.script.header.disks) disk k one.own_disks (λ there. refl)
        ∙ ap (list_any (λ (u : Underrun). u.cycle == k)) (missed-at disk low)
        ∙ in-missed (course_before given) disk (run session.driver) k first (subst (λ n. k ≤ n) (ap (λ (s : Script). length (turns s)) own.script ∙ sym whole) last)
        ∙ ap (is_empty (course_before given) disk k) (sym (turned-same (course_before given) underruns disk k))
        ∙ ap₂ (λ (h : List Entry) (ns : List ℕ). is_missed_in (course_of given (record { history = h; numbers = ns; overruns = []; underruns = underruns })) disk k) (sym (history ∙ ap serial_history (sym own.script))) (sym (numbers ∙ ap serial_numbers (sym own.script)))
      where
        underruns : List (List Underrun)
        underruns = map (underruns_on session.driver.underruns) (below (length session.script.header.disks))
