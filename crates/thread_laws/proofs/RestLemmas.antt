-- A recorder's ring between two segments of threads mode.
--     LeavesLosses session after      a step that leaves overruns and underruns, and behind which no course fits that did not before
--     ComesBehind given session recorder      each of its overruns came behind what was kept when its segment began
--     ComesBehind-left, ComesBehind-many      so it is behind such a step, and behind the cycles of a segment
--     RingAtRest-left, RingAtRest-renewed      the ring is at rest behind such a step, and behind a meeting of its ends that finds all got
use Rattle.std.proofs.Common.{◌≡◌, ◌⊎◌, inl, inr, ℕ, ◌+◌, ◌<◌, ◌≤◌, true, List, ◌++◌, length, get_or, slice_get, All, Some, sym, ◌∙◌, ap, subst, arith}
use Rattle.std.proofs.lemmas.List.Elements.{All-append}
use Rattle.jack_types.specs.declared.replies.Overrun.{Overrun}
use Rattle.session_model.specs.Courses.{Course}
use Rattle.session_model.specs.Explanations.{Given}
use Rattle.session_model.specs.Recorders.{IsAfterSegment}
use Rattle.session_model.specs.Scripts.{Script}
use Rattle.driver_words.specs.Rings.{Getting, Renews, Sending}
use Rattle.driver_laws.specs.Drivers.{Driver, overruns_on, run}
use Rattle.driver_laws.specs.Keeping.{Fits, Keeps, KeepsRing, kept_blocks}
use Rattle.driver_laws.specs.Segments.{cycles_before}
use Rattle.driver_laws.proofs.PlaceLemmas.{there_too}
use Rattle.driver_laws.proofs.SegmentLemmas.{IsAfterSegment-from}
use Rattle.run_laws.specs.Runs.{RingAtRest}
use Rattle.run_laws.specs.Sessions.{IsFor, KeepsAny, Session}
use Rattle.thread_laws.specs.Rests.{ComesBehind}
use Rattle.thread_laws.specs.Segments.{CycledMany}
use Rattle.thread_laws.proofs.RingLaterLemmas.{AfterSegment-more, kept_blocks-more}
use Rattle.thread_laws.proofs.LookLemmas.{Fits-many, looks_many, rings-many, run-many}

-- a driver whose reader, rings or period changed
abbrev pub turned_to : Driver → ℕ → ℕ → List Sending → Driver
turned_to driver least set rings = record driver { reading = record driver.reading { least = least }; set = set; rings = rings }

Fits-turned : (driver : Driver) (least set : ℕ) (rings : List Sending) (course : Course) → Fits (turned_to driver least set rings) course → Fits driver course
Fits-turned driver least set rings course fits = record {
  script = fits.script;
  scores = fits.scores;
  channels = fits.channels;
  of_calls = fits.of_calls;
  numbers = fits.numbers;
  rows = fits.rows;
  underruns = fits.underruns;
  disks = fits.disks;
}

pub record LeavesLosses (session after : Session) : Type 0 where
  pub overruns : after.driver.overruns ≡ session.driver.overruns
  pub underruns : after.driver.underruns ≡ session.driver.underruns
  pub script : after.script ≡ session.script
  pub fits : (course : Course) → Fits after.driver course → Fits session.driver course

pub LeavesLosses-turned : (session after : Session) (least set : ℕ) (rings : List Sending) → after.script ≡ session.script → after.driver ≡ turned_to session.driver least set rings → LeavesLosses session after
LeavesLosses-turned session after least set rings script driver = record {
  overruns = ap (λ (d : Driver). d.overruns) driver;
  underruns = ap (λ (d : Driver). d.underruns) driver;
  script = script;
  fits = λ course fits. Fits-turned session.driver least set rings course (subst (λ (d : Driver). Fits d course) driver fits);
}

pub LeavesLosses-both : (session between after : Session) → LeavesLosses session between → LeavesLosses between after → LeavesLosses session after
LeavesLosses-both session between after one two = record {
  overruns = two.overruns ∙ one.overruns;
  underruns = two.underruns ∙ one.underruns;
  script = two.script ∙ one.script;
  fits = λ course fits. one.fits course (two.fits course fits);
}

pub ComesBehind-left : (given : Given) (session after : Session) (recorder : ℕ) → LeavesLosses session after → ComesBehind given session recorder → ComesBehind given after recorder
ComesBehind-left given session after recorder leaves behind course over fits =
    subst (λ (os : List Overrun). All (IsAfterSegment course (overruns_on os recorder) recorder) (overruns_on os recorder)) (sym leaves.overruns) (behind course over (leaves.fits course fits))

pub RingAtRest-left : (given : Given) (session after : Session) (recorder : ℕ) (ring : Sending) (got : Getting) → LeavesLosses session after → RingAtRest given session recorder ring got → RingAtRest given after recorder ring got
RingAtRest-left given session after recorder ring got leaves rest = record {
  all_got = rest.all_got;
  looks = rest.looks;
  finds = rest.finds;
  open_ended = rest.open_ended;
  behind = ComesBehind-left given session after recorder leaves rest.behind;
}

-- where a get answered the end, or all was got, both ends know behind their meeting that all that was put is got
pub RingAtRest-renewed : (given : Given) (session : Session) (recorder : ℕ) (ring ring_after : Sending) (got got_after : Getting) → Renews ring got ring_after got_after
    → (got.done ≡ true) ⊎ (got.got ≡ ring.put) → ComesBehind given session recorder → RingAtRest given session recorder ring_after got_after
RingAtRest-renewed given session recorder ring ring_after got got_after renews found behind =
    let all : got.got ≡ ring.put = whole found in
    let put : ring_after.put ≡ ring.put = ap (λ (r : Sending). r.put) renews.sending_is in
    record {
      all_got = ap (λ (g : Getting). g.got) renews.getting_is ∙ all ∙ sym put;
      looks = ap (λ (r : Sending). r.least) renews.sending_is ∙ ap length all ∙ sym (ap length put);
      finds = ap (λ (g : Getting). g.least) renews.getting_is ∙ sym (ap length put);
      open_ended = ap (λ (r : Sending). r.ended) renews.sending_is;
      behind = behind;
    }
  where
    whole : (got.done ≡ true) ⊎ (got.got ≡ ring.put) → got.got ≡ ring.put
    whole (inl done) = (renews.met.whole done).0
    whole (inr all) = all

-- the cycles of a segment: the producer knew at its beginning that all was got, so an overrun of it comes behind that
pub ComesBehind-many : (given : Given) (session paced cycled : Session) (done many recorder : ℕ) (ring : Sending) → IsFor session given → KeepsAny given session.driver
    → run session.driver ≡ cycles_before session.script done → run session.driver + many ≤ cycles_before session.script (done + 1)
    → LeavesLosses session paced → paced.driver.rings ≡ session.driver.rings → paced.driver.numbers ≡ session.driver.numbers → CycledMany many paced cycled
    → slice_get session.driver.rings recorder ≡ Some ring → ring.least ≡ length ring.put → ComesBehind given session recorder → ComesBehind given cycled recorder
ComesBehind-many given session paced cycled done many recorder ring own keeps_any start within leaves rings_are numbers_are cycles here least behind course over fits =
    let fits_paced : Fits paced.driver course = Fits-many many paced.driver cycled.driver course cycles.cycles fits in
    let fits_before : Fits session.driver course = leaves.fits course fits_paced in
    let losses : List Overrun = overruns_on session.driver.overruns recorder in
    let keeps : Keeps session.driver course = keeps_any course over fits_before in
    let kept : KeepsRing course (run session.driver) recorder ring losses = keeps.rings recorder ring here in
    let here_paced : slice_get paced.driver.rings recorder ≡ Some ring = ap (λ rings. slice_get rings recorder) rings_are ∙ here in
    let there = there_too paced.driver.rings cycled.driver.rings recorder ring (rings-many many paced.driver cycled.driver cycles.cycles) here_paced in
    let looks = looks_many many paced.driver cycled.driver recorder ring there.0 cycles.cycles here_paced there.1 in
    let more : List Overrun = looks.more in
    let all : overruns_on cycled.driver.overruns recorder ≡ losses ++ more = looks.more_is ∙ ap (λ (os : List Overrun). overruns_on os recorder ++ more) leaves.overruns in
    let runs : run paced.driver ≡ run session.driver = ap length numbers_are in
    let ran : run cycled.driver ≡ run paced.driver + many = run-many many paced.driver cycled.driver cycles.cycles in
    let later : All (λ (overrun : Overrun). run session.driver < overrun.cycle) more = λ k d h. let first : run paced.driver < (get_or more k d).cycle = (looks.looks k d h).behind in omega (arith, first, runs) in
    let early : All (λ (overrun : Overrun). (1 ≤ overrun.cycle) × (overrun.cycle ≤ run session.driver)) losses = λ k d h. ((kept.all k d h).first, (kept.all k d h).last) in
    let old : All (IsAfterSegment course (losses ++ more) recorder) losses = AfterSegment-more course recorder (run session.driver) losses more early later (behind course over fits_before) in
    let script : course.script ≡ session.script = over.script ∙ own.script in
    let begun : run session.driver ≡ cycles_before course.script done = start ∙ sym (ap (λ (s : Script). cycles_before s done) script) in
    let end : cycles_before course.script (done + 1) ≡ cycles_before session.script (done + 1) = ap (λ (s : Script). cycles_before s (done + 1)) script in
    let put : length (kept_blocks course (losses ++ more) recorder (run session.driver)) ≡ ring.least =
    ap length (kept_blocks-more course recorder losses more (run session.driver) later ∙ sym kept.put) ∙ sym least in
    let new : All (IsAfterSegment course (losses ++ more) recorder) more = λ k d h.
    let overrun : Overrun = get_or more k d in
    let first : run paced.driver < overrun.cycle = (looks.looks k d h).behind in
    let last : overrun.cycle ≤ run cycled.driver = (looks.looks k d h).within in
    let look : ring.least ≤ overrun.taken = (looks.looks k d h).look in
    let low : cycles_before course.script done < overrun.cycle = omega (arith, first, runs, begun) in
    let high : overrun.cycle ≤ cycles_before course.script (done + 1) = omega (arith, last, ran, runs, within, end) in
    let taken : length (kept_blocks course (losses ++ more) recorder (run session.driver)) ≤ overrun.taken = omega (arith, put, look) in
    IsAfterSegment-from course (losses ++ more) recorder done overrun low high
    (subst (λ n. length (kept_blocks course (losses ++ more) recorder n) ≤ overrun.taken) begun taken) in
    subst (λ (os : List Overrun). All (IsAfterSegment course os recorder) os) (sym all) (All-append (IsAfterSegment course (losses ++ more) recorder) losses more old new)
