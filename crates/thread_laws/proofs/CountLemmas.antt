-- How many cycles a phase that failed really played.
--     run-many, run-wheeled      so many cycles more were run
--     kept_within      no fewer than before the phase, and no more than with all of it
use Rattle.std.proofs.Common.{◌≡◌, ℕ, zero, suc, ◌+◌, ◌≤◌, Bool, ◌∙◌, ap, arith}
use Rattle.driver_laws.specs.Cycling.{CyclesMany}
use Rattle.driver_laws.specs.Drivers.{Driver, run}
use Rattle.driver_laws.proofs.StepLemmas.{ran}
use Rattle.run_laws.specs.Sessions.{Session}
use Rattle.thread_laws.specs.Segments.{WheeledMany}
use Rattle.thread_laws.specs.Faults.{AtCapture, AtDraining, AtEmptying, AtPlayback, AtWheelCapture, AtWheelDisk, AtWheelPlayback, Drove, DroveAll, InFilling, InRun, InWheel, JoinFailed, WheelFailed}
use Rattle.thread_laws.specs.FaultLaws.{KeptWithin}

run-many : (n : ℕ) (driver after : Driver) → CyclesMany n driver after → run after ≡ run driver + n
run-many zero driver after same = let e : run after ≡ run driver = ap (λ (d : Driver). run d) same in omega (arith, e)
run-many (suc n) driver after cycles = let e = ran cycles.0 after cycles.2.steps in let before = run-many n driver cycles.0 cycles.1 in omega (arith, e, before)

run-wheeled : (n : ℕ) (session after : Session) → WheeledMany n session after → run after.driver ≡ run session.driver + n
run-wheeled zero session after same = let e : run after.driver ≡ run session.driver = ap (λ (s : Session). run s.driver) same in omega (arith, e)
run-wheeled (suc n) session after wheels =
    let once = wheels.2 in
    let before = run-wheeled n session wheels.0 wheels.1 in
    let first : run once.read.driver ≡ run wheels.0.driver = ap (λ (s : Session). run s.driver) once.reads.same ∙ ap (λ (s : Session). run s.driver) once.empties.same in
    let e = ran once.read.driver once.cycled.driver once.cycles.cycles.steps in
    let last : run after.driver ≡ run once.cycled.driver = ap (λ (s : Session). run s.driver) once.drains.same ∙ ap (λ (s : Session). run s.driver) once.tells.same in
    omega (arith, before, first, e, last)

drove-within : (many kept : ℕ) (session after : Session) → Drove many kept session after → (run session.driver ≤ kept) × (kept ≤ run session.driver + many)
drove-within many kept session after (DroveAll count cycles) =
    let e = run-many many session.driver after.driver cycles.cycles in (omega (arith, count, e), omega (arith, count, e))
drove-within many kept session after (AtCapture whole before fewer count cycles fails same) =
    let e = run-many whole session.driver before.driver cycles.cycles in (omega (arith, count, e), omega (arith, count, e, fewer))
drove-within many kept session after (AtPlayback whole before fewer count cycles fails stays same) =
    let e = run-many whole session.driver before.driver cycles.cycles in
    let one = ran before.driver after.driver fails.steps in
    (omega (arith, count, e, one), omega (arith, count, e, one, fewer))

wheel-within : (kept : ℕ) (session after : Session) → WheelFailed kept session after → (run session.driver ≤ kept) × (kept ≤ run session.driver + 1)
wheel-within kept session after (AtEmptying count breaks) = (omega (arith, count), omega (arith, count))
wheel-within kept session after (AtWheelDisk emptied count empties breaks) = (omega (arith, count), omega (arith, count))
wheel-within kept session after (AtWheelCapture emptied read failed count empties reads fails same tells) = (omega (arith, count), omega (arith, count))
wheel-within kept session after (AtWheelPlayback emptied read failed count empties reads fails stays same tells) =
    let first : run read.driver ≡ run session.driver = ap (λ (s : Session). run s.driver) reads.same ∙ ap (λ (s : Session). run s.driver) empties.same in
    let last : run after.driver ≡ run failed.driver = ap (λ (s : Session). run s.driver) tells.same in
    let one = ran read.driver failed.driver fails.steps in
    (omega (arith, count, first, last, one), omega (arith, count, first, last, one))
wheel-within kept session after (AtDraining emptied read cycled told count empties reads cycles tells breaks) =
    let first : run read.driver ≡ run session.driver = ap (λ (s : Session). run s.driver) reads.same ∙ ap (λ (s : Session). run s.driver) empties.same in
    let one = ran read.driver cycled.driver cycles.cycles.steps in
    (omega (arith, count, first, one), omega (arith, count, first, one))

join-within : (many : ℕ) (freewheel : Bool) (kept : ℕ) (session after : Session) → JoinFailed many freewheel kept session after → (run session.driver ≤ kept) × (kept ≤ run session.driver + many)
join-within many freewheel kept session after (InFilling in_run count breaks) = (omega (arith, count), omega (arith, count))
join-within many freewheel kept session after (InRun filled driven ended served in_run reads drove ends serves readers) =
    let first : run filled.driver ≡ run session.driver = ap (λ (s : Session). run s.driver) reads.same in
    let w = drove-within many kept filled driven drove in
    (omega (arith, first, w.0), omega (arith, first, w.1))
join-within many freewheel kept session after (InWheel whole wheeled in_wheel fewer wheels fails) =
    let e = run-wheeled whole session wheeled wheels in
    let w = wheel-within kept wheeled after fails in
    (omega (arith, e, w.0), omega (arith, e, w.1, fewer))

pub kept_within : KeptWithin
kept_within session after done many kept freewheel fault =
    let same : run fault.paced.driver ≡ run session.driver =
    ap (λ (s : Session). run s.driver) fault.paces.same ∙ ap (λ (s : Session). run s.driver) fault.meets.same ∙ ap (λ (s : Session). run s.driver) fault.groups.same in
    let w = join-within many freewheel kept fault.paced fault.served fault.joins in
    (omega (arith, same, w.0), omega (arith, same, w.1))
