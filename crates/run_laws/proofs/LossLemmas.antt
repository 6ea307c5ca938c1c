-- What is missed in a session behind all phases.
--     numbers-published      no number is above what is published
--     Lost-ran, Played-ran      its overruns and its underruns are ones that can be
use Rattle.std.proofs.Common.{◌≡◌, ℕ, ◌<◌, ◌≤◌, min, List, [], length, get_or, All, IsNone, IsSome, false, ◌==◌, sym, ◌∙◌, ap, subst}
use Rattle.std.proofs.Math.Nat.{min-le_right}
use Rattle.std.proofs.lemmas.List.{length-take}
use Rattle.std.proofs.lemmas.List.Elements.{All-filter, All-map}
use Rattle.jack_types.specs.declared.commands.Change.{Change}
use Rattle.jack_types.specs.declared.replies.Overrun.{Overrun}
use Rattle.jack_types.specs.declared.replies.Underrun.{Underrun}
use Rattle.session_model.specs.Courses.{Course, turn, underruns_of}
use Rattle.session_model.specs.Disks.{IsBehindRing, IsSerial, Played}
use Rattle.session_model.specs.Explanations.{Given}
use Rattle.session_model.specs.Recorders.{Lost}
use Rattle.session_model.specs.Scripts.{Script, phases, turns}
use Rattle.session_laws.proofs.ActivationLemmas.{get_or-map_below}
use Rattle.graph_word.specs.declared.view.TakenRow.{TakenRow}
use Rattle.graph_word.specs.Publications.{IsFront}
use Rattle.driver_laws.specs.Drivers.{overruns_on, run, turn_of, underruns_on}
use Rattle.driver_laws.specs.Keeping.{Keeps, KeepsDisk, KeepsRing}
use Rattle.driver_laws.proofs.WholeLemmas.{Lost-from_ring, Played-from_ring}
use Rattle.serial_lanes.specs.Laws.{CyclesTotal}
use Rattle.run_laws.specs.Runs.{AtPhase}
use Rattle.run_laws.specs.Sessions.{IsMet, IsOne, Session, course_in}
use Rattle.run_laws.proofs.CourseLemmas.{IsOver-own}
use Rattle.run_laws.proofs.PlaceLemmas.{some_at}

-- a front is no longer than the whole
pub front-short : (front whole : List Change) → IsFront front whole → length front ≤ length whole
front-short front whole is =
    let short : length front ≡ min (length front) (length whole) = ap length is ∙ length-take (length front) whole in
    subst (λ n. n ≤ length whole) (sym short) (min-le_right (length front) (length whole))

-- what was taken was published, and no later take answers less
pub numbers-published : (session : Session) → IsOne session → IsMet session → All (λ number. number ≤ session.driver.reading.least) session.driver.numbers
numbers-published session one met =
    subst (λ ns. All (λ number. number ≤ session.driver.reading.least) ns) one.rows.numbers
    (All-map (λ number. number ≤ session.driver.reading.least) (λ (row : TakenRow). length row.changes) session.driver.reading.rows
    (λ k d h. subst (λ n. length (get_or session.driver.reading.rows k d).changes ≤ n) (sym met.reader) (front-short (get_or session.driver.reading.rows k d).changes session.desk.publishing.all (met.met.rows k d h))))

module _ (total : CyclesTotal) (session : Session) (given : Given) (at : AtPhase session given (length (phases session.script))) where
  abbrev course : Course
  course = course_in given session

  keeps : Keeps session.driver course
  keeps = at.given_kept.keeps course (IsOver-own session given) at.given_kept.fits

  script_is : session.script ≡ given.script
  script_is = sym at.given_kept.own.script

  all_cycles : run session.driver ≡ length (turns course.script)
  all_cycles = at.ran.cycles ∙ total session.script ∙ ap (λ (s : Script). length (turns s)) script_is

  pub Lost-ran : (recorder : ℕ) → recorder < length session.script.header.recorders → Lost course (overruns_on session.driver.overruns recorder) recorder
  Lost-ran recorder h =
      let as_many : length session.driver.rings ≡ length session.script.header.recorders = at.ran.one.rings.recorders ∙ ap (λ (s : Script). length s.header.recorders) at.ran.one.driver_script in
      let ring = some_at session.driver.rings recorder (subst (λ n. recorder < n) (sym as_many) h) in
      let got = some_at session.getting recorder (subst (λ n. recorder < n) (sym at.ran.one.recorder_ends) h) in
      let losses : List Overrun = overruns_on session.driver.overruns recorder in
      let kept : KeepsRing course (length (turns course.script)) recorder ring.0 losses = subst (λ n. KeepsRing course n recorder ring.0 losses) all_cycles (keeps.rings recorder ring.0 ring.1) in
      let in_run : All (λ (overrun : Overrun). (turn course overrun.cycle).is_freewheel ≡ false) losses =
      subst (λ (s : Script). All (λ (overrun : Overrun). (turn_of s overrun.cycle).is_freewheel ≡ false) losses) script_is
      (All-filter (λ (overrun : Overrun). overrun.recorder == recorder) (λ (overrun : Overrun). (turn_of session.script overrun.cycle).is_freewheel ≡ false) session.driver.overruns at.ran.misses.overruns) in
      Lost-from_ring course recorder ring.0 losses kept in_run
      (λ threads. (at.rings (subst (λ (s : Script). IsSome s.header.threads) (sym script_is) threads) recorder ring.0 got.0 ring.1 got.1).behind course (IsOver-own session given) at.given_kept.fits)

  pub Played-ran : (disk : ℕ) → disk < length session.script.header.disks → (IsNone session.script.header.threads → IsSerial course disk) → Played course disk
  Played-ran disk h serial =
      let as_many : length session.driver.disks ≡ length session.script.header.disks = at.ran.one.rings.disks ∙ ap (λ (s : Script). length s.header.disks) at.ran.one.driver_script in
      let got = some_at session.driver.disks disk (subst (λ n. disk < n) (sym as_many) h) in
      let misses : List Underrun = underruns_on session.driver.underruns disk in
      let printed : misses ≡ underruns_of course disk = sym (get_or-map_below (underruns_on session.driver.underruns) (length session.script.header.disks) disk [] h) in
      let kept : KeepsDisk course (length (turns course.script)) disk got.0 misses = subst (λ n. KeepsDisk course n disk got.0 misses) all_cycles (keeps.disks disk got.0 got.1) in
      let in_run : All (λ (underrun : Underrun). (turn course underrun.cycle).is_freewheel ≡ false) misses =
      subst (λ (s : Script). All (λ (underrun : Underrun). (turn_of s underrun.cycle).is_freewheel ≡ false) misses) script_is
      (All-filter (λ (underrun : Underrun). underrun.disk == disk) (λ (underrun : Underrun). (turn_of session.script underrun.cycle).is_freewheel ≡ false) session.driver.underruns at.ran.misses.underruns) in
      Played-from_ring course disk got.0 (subst (KeepsDisk course (length (turns course.script)) disk got.0) printed kept)
      (subst (All (λ (underrun : Underrun). (turn course underrun.cycle).is_freewheel ≡ false)) printed in_run)
      (λ threads. subst (All (IsBehindRing course disk)) printed (at.misses (subst (λ (s : Script). IsSome s.header.threads) (sym script_is) threads) disk course (IsOver-own session given) at.given_kept.fits))
      (λ none. serial (subst (λ (s : Script). IsNone s.header.threads) (sym script_is) none))
