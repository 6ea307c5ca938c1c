-- A phase in threads mode, from its front to the meeting behind it.
--     opens-settled      the parts behind its front
--     next-of      its cycles come next
--     may-begin      it may be begun
--     went-nowhere, rests      the desk was not out; a phase without cycles
--     phase-whole, phase-fails      all of it
--     ran-on, ran-at      one phase more was run
--     stands-failed      what the stores hold behind one that failed
--     come-failed      how far the session came with it
--     source-back      beside the desk that came back
--     read-between, write-between, stays-over      a cause of its fault, and what stays, from its front to its end
use Rattle.std.proofs.Common.{◌≡◌, ℕ, zero, suc, ◌+◌, ◌<◌, ◌≤◌, Bool, List, length, slice_get, Some, IsSome, refl, sym, ◌∙◌, ap, subst, arith}
use Rattle.std.proofs.Math.Seq.{take-length}
use Rattle.std.proofs.lemmas.Option.{slice_get_within}
use Rattle.session_model.specs.Explanations.{Given}
use Rattle.session_model.specs.Kinds.{Sound}
use Rattle.session_model.specs.Scripts.{Phase, Script, phases, turns}
use Rattle.client_kinds.specs.Scores.{Score}
use Rattle.session_works.specs.DeskWords.{Desk, IsDesk, MayBegin, cycles_before}
use Rattle.driver_laws.specs.Drivers.{Driver, run, turn_of}
use Rattle.session_works.specs.Cycles.{AreNext}
use Rattle.session_works.specs.Drivers.{Gear}
use Rattle.recorder_files.specs.Recorders.{Recording}
use Rattle.session_works.specs.RunWords.{AtPhase, Playing, RanPhases, Session, StandsSoFar}
use Rattle.script_segments.specs.declared.lines.Segment.{Segment}
use Rattle.session_works.specs.SerialWords.{IsSettled, IsSound, told}
use Rattle.thread_laws.specs.Coming.{ComeBehindFault, HasCome}
use Rattle.thread_laws.specs.Faults.{ThreadFault}
use Rattle.thread_laws.specs.Segments.{Rests, ThreadSegment, WentOn}
use Rattle.thread_laws.proofs.PartLemmas.{IsSettled-grouped, IsSettled-met, IsSettled-paced}
use Rattle.session_works.specs.Insides.{Stays, beside, held, parts_of, parts_with}
use Rattle.session_works.specs.Parts.{HasOpenFiles, OfCapture, OfDisk, OneRose, Parts, SourceRose, session_of, told_of}
use Rattle.session_threads.specs.Laws.{FailsWithFronts, PhaseAt, PhaseBehind, UnfinishedFronts}
use Rattle.session_threads.specs.Phases.{Opens, SegmentFails, Segmented, Settles, Stops}
use Rattle.session_works.specs.Laws.{CycleIs, CycleThere}
use Rattle.session_works.proofs.SegmentLemmas.{IsOfPhase}
use Rattle.session_works.specs.declared.works.SessionWorks.{SessionWorks}
use Rattle.session_works.proofs.StayLemmas.{source-before, source-behind, stays-begun, stays-trans}
use Rattle.session_works.proofs.StoreLemmas.{rose-before, rose-behind}
use Rattle.session_works.proofs.TellLemmas.{told-agrees}

pub opens-settled : (done : ℕ) (session after : Session) → IsSettled session → Opens done session after → IsSettled after
opens-settled done session after settled opens = IsSettled-paced opens.met after (IsSettled-met opens.grouped opens.met (IsSettled-grouped done session opens.grouped settled opens.groups) opens.meets) opens.paces

-- the last cycle of a phase is there
last-there : CycleThere → (script : Script) (done many : ℕ) (phase : Phase) → slice_get (phases script) done ≡ Some phase → many ≡ phase.cycles → 0 < many → cycles_before script done + many ≤ length (turns script)
last-there there script done zero phase is same some = absurd (omega (arith, some))
last-there there script done (suc n) phase is same some = let low : n < phase.cycles = omega (arith, same) in let last = there script done n phase is low in omega (arith, last)

pub next-of : CycleThere → CycleIs → (driver : Driver) (done : ℕ) (segment : Segment) → IsOfPhase driver.script done segment → run driver ≡ cycles_before driver.script done → driver.set ≡ segment.period → 0 < segment.cycles
    → AreNext segment.cycles segment.is_freewheel driver
next-of there is driver done segment of count set some = record {
  left = let last = last-there there driver.script done segment.cycles of.phase of.there (ap (λ (s : Segment). s.cycles) of.is) some in omega (arith, count, last);
  kinds = λ t low. (λ i. (turn_of driver.script (place t i)).is_freewheel) ∙ ap (λ turn. turn.is_freewheel) (is driver.script done t of.phase of.there (within t low)) ∙ sym (ap (λ (s : Segment). s.is_freewheel) of.is);
  periods = λ t low. (λ i. (turn_of driver.script (place t i)).period) ∙ ap (λ turn. turn.period) (is driver.script done t of.phase of.there (within t low)) ∙ sym (ap (λ (s : Segment). s.period) of.is) ∙ sym set;
}
  where
    place : (t : ℕ) → run driver + t + 1 ≡ cycles_before driver.script done + t + 1
    place t = ap (λ n. n + t + 1) count

    within : (t : ℕ) → t < segment.cycles → t < of.phase.cycles
    within t low = subst (λ (s : Segment). t < s.cycles) of.is low

pub may-begin : (session : Session) (done : ℕ) (phase : Phase) → IsSound session → RanPhases session done → slice_get (phases session.script) done ≡ Some phase → MayBegin session.desk done
may-begin session done phase sound ran there = record {
  next = sym ran.phase;
  there = subst (λ (s : Script). done < length (phases s)) (sym sound.one.desk_script) (within there);
  used = ran.used;
}
  where
    within : slice_get (phases session.script) done ≡ Some phase → done < length (phases session.script)
    within is = slice_get_within (phases session.script) done phase is

pub went-nowhere : (session : Session) → IsDesk session.desk → WentOn session session
went-nowhere session is = record { goes = record { script = refl; phase = refl; table = refl; more = sym (take-length session.desk.history) }; desk = is; same = refl }

pub rests : (freewheel : Bool) (session : Session) → IsDesk session.desk → Segmented 0 freewheel session session
rests freewheel session is = record { served = session; joins = Rests refl refl; goes = went-nowhere session is }

pub phase-whole : (done many : ℕ) (freewheel : Bool) (session begun gone after : Session) → Opens done session begun → Segmented many freewheel begun gone → Settles gone after → ThreadSegment done many freewheel session after
phase-whole done many freewheel session begun gone after opens segment settles = record {
  grouped = opens.grouped;
  met = opens.met;
  paced = begun;
  served = segment.served;
  gone = gone;
  heard = settles.heard;
  filled = settles.filled;
  renewed = settles.renewed;
  told = settles.told;
  groups = opens.groups;
  meets = opens.meets;
  paces = opens.paces;
  joins = segment.joins;
  goes = segment.goes;
  hears = settles.hears;
  fills = settles.fills;
  renews = settles.renews;
  tells = settles.tells;
  meets_again = settles.meets;
}

pub phase-fails : (done many kept : ℕ) (freewheel : Bool) (session begun gone after : Session) → Opens done session begun → SegmentFails many freewheel kept begun gone → Stops gone after → ThreadFault done many freewheel kept session after
phase-fails done many kept freewheel session begun gone after opens segment stops = record {
  grouped = opens.grouped;
  met = opens.met;
  paced = begun;
  served = segment.served;
  gone = gone;
  renewed = stops.renewed;
  told = stops.told;
  groups = opens.groups;
  meets = opens.meets;
  paces = opens.paces;
  joins = segment.joins;
  goes = segment.goes;
  renews = stops.renews;
  tells = stops.tells;
  meets_again = stops.meets;
}

-- ---- one phase more

-- a segment is its phase's
as-phase : (session after : Session) (done : ℕ) (segment : Segment) (of : IsOfPhase session.script done segment) → ThreadSegment done segment.cycles segment.is_freewheel session after → ThreadSegment done of.phase.cycles of.phase.is_freewheel session after
as-phase session after done segment of ran = subst (λ (s : Segment). ThreadSegment done s.cycles s.is_freewheel session after) of.is ran

pub ran-on : PhaseBehind → (session after : Session) (done : ℕ) (segment : Segment) → IsOfPhase session.script done segment → IsSettled session → RanPhases session done → ThreadSegment done segment.cycles segment.is_freewheel session after
    → IsSettled after × RanPhases after (done + 1)
ran-on law session after done segment of settled ran segmented =
    let next : suc done ≡ done + 1 = omega arith in
    let behind = law session after done of.phase settled of.there ran (as-phase session after done segment of segmented) in
    (behind.0, subst (λ n. RanPhases after n) next behind.1)

pub ran-at : PhaseAt → (given : Given) (session after : Session) (done : ℕ) (segment : Segment) → IsOfPhase session.script done segment → IsSome session.script.header.threads → IsSettled session → AtPhase session given done
    → ThreadSegment done segment.cycles segment.is_freewheel session after → AtPhase after given (done + 1)
ran-at law given session after done segment of threads settled at segmented =
    let next : suc done ≡ done + 1 = omega arith in
    subst (λ n. AtPhase after given n) next (law given session after done of.phase threads settled of.there at (as-phase session after done segment of segmented))

pub stands-failed : (sounding : Score → Sound) → FailsWithFronts → UnfinishedFronts → (given : Given) (session : Session) (parts : Parts) (done many kept : ℕ) (freewheel : Bool) → AtPhase session given done → IsSome session.script.header.threads
    → ThreadFault done many freewheel kept session (session_of sounding parts) → HasOpenFiles parts → StandsSoFar kept (told_of sounding parts) given
stands-failed sounding law unfinished given session parts done many kept freewheel at threads fault files =
    subst (λ (s : Session). StandsSoFar kept s given) (told-agrees sounding parts files) (unfinished kept (told (session_of sounding parts)) given (law given session (session_of sounding parts) done many kept freewheel at threads fault))

pub come-failed : ComeBehindFault → (session after : Session) (done kept : ℕ) (segment : Segment) → IsOfPhase session.script done segment → RanPhases session done → ThreadFault done segment.cycles segment.is_freewheel kept session after
    → HasCome session.script after.desk.history after.driver.numbers
come-failed law session after done kept segment of ran fault =
    law session after done kept of.phase ran of.there (subst (λ (s : Segment). ThreadFault done s.cycles s.is_freewheel kept session after) of.is fault)

-- ---- causes, and what stays

-- the desk that the lanes had came back
pub source-back : (before : Parts) (desk other : Desk) (players : List Playing) (gear : Gear) (recordings : List Recording) → SourceRose before (parts_with (beside desk players) gear recordings) → SourceRose before (parts_with (beside other players) gear recordings)
source-back before desk other players gear recordings (OfCapture rose) = OfCapture rose
source-back before desk other players gear recordings (OfDisk disk old new was is rose) = OfDisk disk old new was is rose

module _ (sounding : Score → Sound) {S W G : Type 0} where
  pub read-between : (first before now last : SessionWorks S W G) → Stays sounding (parts_of first) (parts_of before) → SourceRose (parts_of before) (parts_of now) → Stays sounding (parts_of now) (parts_of last) → SourceRose (parts_of first) (parts_of last)
  read-between first before now last earlier rose later = source-behind sounding (parts_of first) (parts_of before) (parts_of last) earlier (source-before sounding (parts_of before) (parts_of now) (parts_of last) rose later)

  pub write-between : (first before now last : SessionWorks S W G) → Stays sounding (parts_of first) (parts_of before) → OneRose (held before) (held now) → Stays sounding (parts_of now) (parts_of last) → OneRose (held first) (held last)
  write-between first before now last earlier rose later = rose-behind (held first) (held before) (held last) earlier.later (rose-before (held before) (held now) (held last) rose later.later)

  -- from the front of a phase to its end
  pub stays-over : (first begun gone last : SessionWorks S W G) (period : ℕ) → begun.driver ≡ record first.driver { reading = begun.driver.reading; set = period } → begun.recorders ≡ first.recorders → begun.readers ≡ first.readers → HasOpenFiles (parts_of first)
      → Stays sounding (parts_of begun) (parts_of gone) → Stays sounding (parts_of gone) (parts_of last) → Stays sounding (parts_of first) (parts_of last)
  stays-over first begun gone last period driver recorders readers files between later = stays-trans sounding first begun last (stays-begun sounding first begun period driver recorders readers files) (stays-trans sounding begun gone last between later)
