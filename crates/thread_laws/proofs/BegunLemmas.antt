-- The numbers that the cycles of a phase took, where one of them may have failed.
--     Begun many driver after      so many cycles were begun
--     begun-join      those of a join that failed
--     join-stays      what it left as it was
use Rattle.std.proofs.Common.{◌≡◌, ℕ, zero, suc, ◌≤◌, Bool, [], ◌∷◌, ◌++◌, length, All, sym, ◌∙◌, ap, subst, arith, append_assoc}
use Rattle.std.proofs.lemmas.List.{length_push}
use Rattle.std.proofs.lemmas.List.Elements.{All-nil, All-push, All-weaker}
use Rattle.graph_word.specs.Publications.{Begins, Reading, Takes}
use Rattle.driver_laws.specs.Cycling.{CyclesMany}
use Rattle.driver_laws.specs.Drivers.{Driver}
use Rattle.run_laws.specs.Sessions.{Session}
use Rattle.thread_laws.specs.Laws.{Took}
use Rattle.thread_laws.specs.Segments.{WheeledMany}
use Rattle.thread_laws.proofs.TakeLemmas.{numbers_many, numbers_wheeled, rising-one, rising_more, took-none, took-same}
use Rattle.thread_laws.specs.Faults.{AtCapture, AtDraining, AtEmptying, AtPlayback, AtWheelCapture, AtWheelDisk, AtWheelPlayback, Drove, DroveAll, InFilling, InRun, InWheel, JoinFailed, WheelFailed}

-- so many numbers more, none above that of the plan that the reader holds
pub record Begun (many : ℕ) (driver after : Driver) : Type 0 where
  pub took : Took many driver after
  pub held : All (λ number. number ≤ length after.reading.held) took.more

begun-none : (driver after : Driver) → after.numbers ≡ driver.numbers → after.reading.least ≡ driver.reading.least → Begun 0 driver after
begun-none driver after numbers least =
    let took : Took 0 driver after = took-none driver after numbers least in
    record { took = took; held = λ k d inside. let none = took.count in absurd (omega (arith, inside, none)) }

begun-same : (many : ℕ) (driver after later : Driver) → later.numbers ≡ after.numbers → later.reading ≡ after.reading → Begun many driver after → Begun many driver later
begun-same many driver after later numbers reading begun = record {
  took = record {
    more = begun.took.more;
    numbers = numbers ∙ begun.took.numbers;
    count = begun.took.count;
    rising = begun.took.rising;
    low = begun.took.low;
    high = subst (λ (r : Reading). All (λ number. number ≤ r.least) begun.took.more) (sym reading) begun.took.high;
    least = subst (λ (r : Reading). driver.reading.least ≤ r.least) (sym reading) begun.took.least;
  };
  held = subst (λ (r : Reading). All (λ number. number ≤ length r.held) begun.took.more) (sym reading) begun.held;
}

-- one cycle more, which took a number and began, whatever came then
module _ (many : ℕ) (driver between after : Driver) (taken : Reading) (number place : ℕ) (takes : Takes between.reading number taken) (begins : Begins taken place after.reading)
    (numbers : after.numbers ≡ between.numbers ++ number ∷ []) (took : Took many driver between) where
  least : after.reading.least ≡ number
  least = ap (λ (r : Reading). r.least) begins.after_is ∙ ap (λ (r : Reading). r.least) takes.same

  held-is : length after.reading.held ≡ number
  held-is = ap (λ (r : Reading). length r.held) begins.after_is ∙ sym takes.number

  low-one : All (λ n. between.reading.least ≤ n) (number ∷ [])
  low-one = All-push (λ n. between.reading.least ≤ n) [] number (All-nil (λ n. between.reading.least ≤ n)) takes.least

  pub begun-once : Begun (suc many) driver after
  begun-once = record {
    took = record {
      more = took.more ++ number ∷ [];
      numbers = numbers ∙ ap (λ ns. ns ++ number ∷ []) took.numbers ∙ append_assoc driver.numbers took.more (number ∷ []);
      count = let e = length_push took.more number in let c = took.count in omega (arith, e, c);
      rising = rising_more took.more (number ∷ []) between.reading.least took.rising (rising-one number) took.high low-one;
      low = All-push (λ n. driver.reading.least ≤ n) took.more number took.low (let a = took.least in let b = takes.least in omega (arith, a, b));
      high = All-push (λ n. n ≤ after.reading.least) took.more number
          (All-weaker (λ n. n ≤ between.reading.least) (λ n. n ≤ after.reading.least) (λ n h. let b = takes.least in omega (arith, h, b, least)) took.more took.high)
          (omega (arith, least));
      least = let a = took.least in let b = takes.least in omega (arith, a, b, least);
    };
    held = All-push (λ n. n ≤ length after.reading.held) took.more number
        (All-weaker (λ n. n ≤ between.reading.least) (λ n. n ≤ length after.reading.held) (λ n h. let b = takes.least in omega (arith, h, b, held-is)) took.more took.high)
        (omega (arith, held-is));
  }

begun-many : (many : ℕ) (driver after : Driver) → CyclesMany many driver after → Begun many driver after
begun-many zero driver after same = begun-none driver after (ap (λ (d : Driver). d.numbers) same) (ap (λ (d : Driver). d.reading.least) same)
begun-many (suc many) driver after cycles =
    let steps = cycles.2.steps in
    begun-once many driver cycles.0 after steps.taken steps.number _ steps.takes steps.begins steps.numbers (numbers_many many driver cycles.0 cycles.1)

begun-wheeled : (many : ℕ) (session after : Session) → WheeledMany many session after → Begun many session.driver after.driver
begun-wheeled zero session after same = begun-none session.driver after.driver (ap (λ (s : Session). s.driver.numbers) same) (ap (λ (s : Session). s.driver.reading.least) same)
begun-wheeled (suc many) session after wheels =
    let once = wheels.2 in
    let steps = once.cycles.cycles.steps in
    let read : Took many session.driver once.read.driver =
    took-same many session.driver wheels.0.driver once.read.driver (ap (λ (s : Session). s.driver.numbers) once.reads.same ∙ ap (λ (s : Session). s.driver.numbers) once.empties.same)
    (ap (λ (s : Session). s.driver.reading.least) once.reads.same ∙ ap (λ (s : Session). s.driver.reading.least) once.empties.same) (numbers_wheeled many session wheels.0 wheels.1) in
    begun-same (suc many) session.driver once.cycled.driver after.driver (ap (λ (s : Session). s.driver.numbers) once.drains.same ∙ ap (λ (s : Session). s.driver.numbers) once.tells.same)
    (ap (λ (s : Session). s.driver.reading) once.drains.same ∙ ap (λ (s : Session). s.driver.reading) once.tells.same)
    (begun-once many session.driver once.read.driver once.cycled.driver steps.taken steps.number _ steps.takes steps.begins steps.numbers read)

-- so many, at most `most`
abbrev pub BegunSome : ℕ → Driver → Driver → Type 0
BegunSome most driver after = (n : ℕ) × (n ≤ most) × Begun n driver after

begun-drove : (many kept : ℕ) (session after : Session) → Drove many kept session after → BegunSome many session.driver after.driver
begun-drove many kept session after (DroveAll count cycles) = (many, omega arith, begun-many many session.driver after.driver cycles.cycles)
begun-drove many kept session after (AtCapture whole before fewer count cycles fails same) =
    (suc whole, omega (arith, fewer), begun-once whole session.driver before.driver after.driver fails.taken fails.number _ fails.takes fails.begins fails.numbers (numbers_many whole session.driver before.driver cycles.cycles))
begun-drove many kept session after (AtPlayback whole before fewer count cycles fails stays same) =
    let steps = fails.steps in
    (suc whole, omega (arith, fewer), begun-once whole session.driver before.driver after.driver steps.taken steps.number _ steps.takes steps.begins steps.numbers (numbers_many whole session.driver before.driver cycles.cycles))

-- the cycle of a freewheel segment that failed, behind so many others
module _ (whole kept : ℕ) (session wheeled after : Session) (wheels : WheeledMany whole session wheeled) where
  -- none is taken where the rings are emptied and filled
  read-took : (read : Session) → read.driver.numbers ≡ wheeled.driver.numbers → read.driver.reading.least ≡ wheeled.driver.reading.least → Took whole session.driver read.driver
  read-took read numbers least = took-same whole session.driver wheeled.driver read.driver numbers least (numbers_wheeled whole session wheeled wheels)

  begun-wheel : WheelFailed kept wheeled after → BegunSome (suc whole) session.driver after.driver
  begun-wheel (AtEmptying count breaks) =
      (whole, omega arith, begun-same whole session.driver wheeled.driver after.driver (ap (λ (s : Session). s.driver.numbers) breaks.same) (ap (λ (s : Session). s.driver.reading) breaks.same) (begun-wheeled whole session wheeled wheels))
  begun-wheel (AtWheelDisk emptied count empties breaks) = (
    whole,
    omega arith,
    begun-same whole session.driver wheeled.driver after.driver (ap (λ (s : Session). s.driver.numbers) breaks.same ∙ ap (λ (s : Session). s.driver.numbers) empties.same)
        (ap (λ (s : Session). s.driver.reading) breaks.same ∙ ap (λ (s : Session). s.driver.reading) empties.same) (begun-wheeled whole session wheeled wheels),
  )
  begun-wheel (AtWheelCapture emptied read failed count empties reads fails same tells) = (
    suc whole,
    omega arith,
    begun-same (suc whole) session.driver failed.driver after.driver (ap (λ (s : Session). s.driver.numbers) tells.same) (ap (λ (s : Session). s.driver.reading) tells.same)
        (begun-once whole session.driver read.driver failed.driver fails.taken fails.number _ fails.takes fails.begins fails.numbers
        (read-took read (ap (λ (s : Session). s.driver.numbers) reads.same ∙ ap (λ (s : Session). s.driver.numbers) empties.same)
        (ap (λ (s : Session). s.driver.reading.least) reads.same ∙ ap (λ (s : Session). s.driver.reading.least) empties.same))),
  )
  begun-wheel (AtWheelPlayback emptied read failed count empties reads fails stays same tells) =
      let steps = fails.steps in (
        suc whole,
        omega arith,
        begun-same (suc whole) session.driver failed.driver after.driver (ap (λ (s : Session). s.driver.numbers) tells.same) (ap (λ (s : Session). s.driver.reading) tells.same)
            (begun-once whole session.driver read.driver failed.driver steps.taken steps.number _ steps.takes steps.begins steps.numbers
            (read-took read (ap (λ (s : Session). s.driver.numbers) reads.same ∙ ap (λ (s : Session). s.driver.numbers) empties.same)
            (ap (λ (s : Session). s.driver.reading.least) reads.same ∙ ap (λ (s : Session). s.driver.reading.least) empties.same))),
      )
  begun-wheel (AtDraining emptied read cycled told count empties reads cycles tells breaks) =
      let steps = cycles.cycles.steps in (
        suc whole,
        omega arith,
        begun-same (suc whole) session.driver cycled.driver after.driver (ap (λ (s : Session). s.driver.numbers) breaks.same ∙ ap (λ (s : Session). s.driver.numbers) tells.same)
            (ap (λ (s : Session). s.driver.reading) breaks.same ∙ ap (λ (s : Session). s.driver.reading) tells.same)
            (begun-once whole session.driver read.driver cycled.driver steps.taken steps.number _ steps.takes steps.begins steps.numbers
            (read-took read (ap (λ (s : Session). s.driver.numbers) reads.same ∙ ap (λ (s : Session). s.driver.numbers) empties.same)
            (ap (λ (s : Session). s.driver.reading.least) reads.same ∙ ap (λ (s : Session). s.driver.reading.least) empties.same))),
      )

-- the same from an earlier session, where nothing was taken between
begun-from : (many : ℕ) (earlier driver after : Driver) → driver.numbers ≡ earlier.numbers → driver.reading.least ≡ earlier.reading.least → Begun many driver after → Begun many earlier after
begun-from many earlier driver after numbers least begun = record {
  took = record {
    more = begun.took.more;
    numbers = begun.took.numbers ∙ ap (λ ns. ns ++ begun.took.more) numbers;
    count = begun.took.count;
    rising = begun.took.rising;
    low = subst (λ n. All (λ number. n ≤ number) begun.took.more) least begun.took.low;
    high = begun.took.high;
    least = let p = begun.took.least in omega (arith, p, least);
  };
  held = begun.held;
}

pub begun-join : (many : ℕ) (freewheel : Bool) (kept : ℕ) (session after : Session) → JoinFailed many freewheel kept session after → BegunSome many session.driver after.driver
begun-join many freewheel kept session after (InFilling in_run count breaks) =
    (0, omega arith, begun-none session.driver after.driver (ap (λ (s : Session). s.driver.numbers) breaks.same) (ap (λ (s : Session). s.driver.reading.least) breaks.same))
begun-join many freewheel kept session after (InRun filled driven ended served in_run reads drove ends serves readers) =
    let some = begun-drove many kept filled driven drove in (
      some.0,
      some.1,
      begun-from some.0 session.driver filled.driver after.driver (ap (λ (s : Session). s.driver.numbers) reads.same) (ap (λ (s : Session). s.driver.reading.least) reads.same)
          (begun-same some.0 filled.driver driven.driver after.driver
          (ap (λ (s : Session). s.driver.numbers) readers.same ∙ ap (λ (s : Session). s.driver.numbers) serves.same ∙ ap (λ (s : Session). s.driver.numbers) ends.same)
          (ap (λ (s : Session). s.driver.reading) readers.same ∙ ap (λ (s : Session). s.driver.reading) serves.same ∙ ap (λ (s : Session). s.driver.reading) ends.same) some.2),
    )
begun-join many freewheel kept session after (InWheel whole wheeled in_wheel fewer wheels fails) =
    let some = begun-wheel whole kept session wheeled after wheels fails in
    let most = some.1 in
    (some.0, omega (arith, most, fewer), some.2)

-- ---- what stays

-- script and desk stay
pub record JoinStays (session after : Session) : Type 0 where
  pub script : after.script ≡ session.script
  pub desk : after.desk ≡ session.desk

stays-by : (session after : Session) → after.script ≡ session.script → after.desk ≡ session.desk → JoinStays session after
stays-by session after script desk = record { script = script; desk = desk }

stays-then : (one two three : Session) → JoinStays one two → JoinStays two three → JoinStays one three
stays-then one two three a b = record { script = b.script ∙ a.script; desk = b.desk ∙ a.desk }

drove-stays : (many kept : ℕ) (session after : Session) → Drove many kept session after → JoinStays session after
drove-stays many kept session after (DroveAll count cycles) = stays-by session after (ap (λ (s : Session). s.script) cycles.same) (ap (λ (s : Session). s.desk) cycles.same)
drove-stays many kept session after (AtCapture whole before fewer count cycles fails same) =
    stays-by session after (ap (λ (s : Session). s.script) same ∙ ap (λ (s : Session). s.script) cycles.same) (ap (λ (s : Session). s.desk) same ∙ ap (λ (s : Session). s.desk) cycles.same)
drove-stays many kept session after (AtPlayback whole before fewer count cycles fails stays same) =
    stays-by session after (ap (λ (s : Session). s.script) same ∙ ap (λ (s : Session). s.script) cycles.same) (ap (λ (s : Session). s.desk) same ∙ ap (λ (s : Session). s.desk) cycles.same)

wheeled-stays : (many : ℕ) (session after : Session) → WheeledMany many session after → JoinStays session after
wheeled-stays zero session after same = stays-by session after (ap (λ (s : Session). s.script) same) (ap (λ (s : Session). s.desk) same)
wheeled-stays (suc many) session after wheels =
    let once = wheels.2 in
    stays-then session wheels.0 after (wheeled-stays many session wheels.0 wheels.1)
    (stays-by wheels.0 after
    (ap (λ (s : Session). s.script) once.drains.same ∙ ap (λ (s : Session). s.script) once.tells.same ∙ ap (λ (s : Session). s.script) once.cycles.same ∙ ap (λ (s : Session). s.script) once.reads.same ∙ ap (λ (s : Session). s.script) once.empties.same)
    (ap (λ (s : Session). s.desk) once.drains.same ∙ ap (λ (s : Session). s.desk) once.tells.same ∙ ap (λ (s : Session). s.desk) once.cycles.same ∙ ap (λ (s : Session). s.desk) once.reads.same ∙ ap (λ (s : Session). s.desk) once.empties.same))

wheel-stays : (kept : ℕ) (session after : Session) → WheelFailed kept session after → JoinStays session after
wheel-stays kept session after (AtEmptying count breaks) = stays-by session after (ap (λ (s : Session). s.script) breaks.same) (ap (λ (s : Session). s.desk) breaks.same)
wheel-stays kept session after (AtWheelDisk emptied count empties breaks) =
    stays-by session after (ap (λ (s : Session). s.script) breaks.same ∙ ap (λ (s : Session). s.script) empties.same)
    (ap (λ (s : Session). s.desk) breaks.same ∙ ap (λ (s : Session). s.desk) empties.same)
wheel-stays kept session after (AtWheelCapture emptied read failed count empties reads fails same tells) =
    stays-by session after (ap (λ (s : Session). s.script) tells.same ∙ ap (λ (s : Session). s.script) same ∙ ap (λ (s : Session). s.script) reads.same ∙ ap (λ (s : Session). s.script) empties.same)
    (ap (λ (s : Session). s.desk) tells.same ∙ ap (λ (s : Session). s.desk) same ∙ ap (λ (s : Session). s.desk) reads.same ∙ ap (λ (s : Session). s.desk) empties.same)
wheel-stays kept session after (AtWheelPlayback emptied read failed count empties reads fails stays same tells) =
    stays-by session after (ap (λ (s : Session). s.script) tells.same ∙ ap (λ (s : Session). s.script) same ∙ ap (λ (s : Session). s.script) reads.same ∙ ap (λ (s : Session). s.script) empties.same)
    (ap (λ (s : Session). s.desk) tells.same ∙ ap (λ (s : Session). s.desk) same ∙ ap (λ (s : Session). s.desk) reads.same ∙ ap (λ (s : Session). s.desk) empties.same)
wheel-stays kept session after (AtDraining emptied read cycled told count empties reads cycles tells breaks) =
    stays-by session after (ap (λ (s : Session). s.script) breaks.same ∙ ap (λ (s : Session). s.script) tells.same ∙ ap (λ (s : Session). s.script) cycles.same ∙ ap (λ (s : Session). s.script) reads.same ∙ ap (λ (s : Session). s.script) empties.same)
    (ap (λ (s : Session). s.desk) breaks.same ∙ ap (λ (s : Session). s.desk) tells.same ∙ ap (λ (s : Session). s.desk) cycles.same ∙ ap (λ (s : Session). s.desk) reads.same ∙ ap (λ (s : Session). s.desk) empties.same)

pub join-stays : (many : ℕ) (freewheel : Bool) (kept : ℕ) (session after : Session) → JoinFailed many freewheel kept session after → JoinStays session after
join-stays many freewheel kept session after (InFilling in_run count breaks) = stays-by session after (ap (λ (s : Session). s.script) breaks.same) (ap (λ (s : Session). s.desk) breaks.same)
join-stays many freewheel kept session after (InRun filled driven ended served in_run reads drove ends serves readers) =
    stays-then session driven after
    (stays-then session filled driven (stays-by session filled (ap (λ (s : Session). s.script) reads.same) (ap (λ (s : Session). s.desk) reads.same)) (drove-stays many kept filled driven drove))
    (stays-by driven after (ap (λ (s : Session). s.script) readers.same ∙ ap (λ (s : Session). s.script) serves.same ∙ ap (λ (s : Session). s.script) ends.same)
    (ap (λ (s : Session). s.desk) readers.same ∙ ap (λ (s : Session). s.desk) serves.same ∙ ap (λ (s : Session). s.desk) ends.same))
join-stays many freewheel kept session after (InWheel whole wheeled in_wheel fewer wheels fails) =
    stays-then session wheeled after (wheeled-stays whole session wheeled wheels) (wheel-stays kept wheeled after fails)
