-- A session behind a whole phase of threads mode.
--     cycles_before-next      the cycles before the next phase
--     IsSound-many, IsSettled-segment      its parts belong together
--     KeepsOwn-segment, PlaysAll-segment      what was kept of what was given is kept, and players go on with their files
--     MissesBehind-segment      underruns come behind what the rings held when their segment began
--     AtPhase-segment      so it stands between two segments again, where the phase's numbers and lanes do
use Rattle.std.proofs.Common.{◌≡◌, ℕ, zero, suc, ◌+◌, ◌≤◌, false, Bool, List, [], ◌∷◌, length, take, slice_get, All, Some, IsSome, refl, sym, ◌∙◌, ap, subst, arith, true≢false, sum_by}
use Rattle.std.proofs.lemmas.List.Sums.{sum_by-cons}
use Rattle.std.proofs.lemmas.Option.{none-some, same_Some}
use Rattle.jack_types.specs.declared.replies.Underrun.{Underrun}
use Rattle.session_model.specs.Disks.{IsBehindRing}
use Rattle.session_model.specs.Explanations.{Given}
use Rattle.session_model.specs.Scripts.{Phase, Script, ScriptCycle, phases}
use Rattle.control_desk.specs.Laws.{OfCallsAccepted}
use Rattle.driver_laws.specs.Cycling.{CyclesMany}
use Rattle.driver_laws.specs.Drivers.{Driver, run, turn_of, underruns_on}
use Rattle.driver_laws.specs.Segments.{cycles_before}
use Rattle.driver_laws.proofs.MeetingLemmas.{Fits-met as Fits-others, Keeps-met as Keeps-others}
use Rattle.run_laws.specs.Runs.{AtPhase, DisksAtRest, MissesBehindRing, PlaysAll, RanPhases}
use Rattle.run_laws.specs.Sessions.{IsDisk, IsFor, IsOne, KeepsAny, Playing, Session}
use Rattle.run_laws.proofs.CourseLemmas.{Fits-met, FitsDisk-rest}
use Rattle.disk_runs.specs.Readings.{DisksBroke, DisksRead}
use Rattle.disk_runs.specs.Rests.{DisksFilled, DisksTell}
use Rattle.disk_runs.proofs.AloneLemmas.{PlaysAll-alone}
use Rattle.disk_runs.proofs.FileLemmas.{PlaysAll-read, PlaysAll-served, PlaysAll-told}
use Rattle.disk_runs.proofs.PartLemmas.{IsOne-tried}
use Rattle.disk_runs.proofs.PlaceLemmas.{both-by, long}
use Rattle.disk_runs.proofs.RoomLemmas.{DisksFilled-read}
use Rattle.disk_runs.proofs.StepLemmas.{tried-read, tried-told}
use Rattle.serial_laws.specs.Steps.{IsSettled, IsSound, KeepsOwn}
use Rattle.serial_laws.proofs.CycledLemmas.{IsSound-cycled}
use Rattle.serial_laws.proofs.KeepLemmas.{KeepsOwn-read, KeepsOwn-told}
use Rattle.serial_laws.proofs.NumberLemmas.{cycle-is}
use Rattle.serial_laws.proofs.ReadLemmas.{DisksTell-told, IsSound-read, IsSound-told}
use Rattle.thread_laws.specs.Parts.{IsSoundBut}
use Rattle.thread_laws.specs.Rests.{AreNext, RingsAtRest}
use Rattle.thread_laws.specs.Laws.{PhaseRan}
use Rattle.thread_laws.specs.Segments.{Joined, Rests, Runs, ThreadSegment, Wheels as Wheeled}
use Rattle.thread_laws.proofs.DiskLemmas.{AsMany, IsSoundBut-readers, LeavesRings-readers, LeavesRings-tried}
use Rattle.thread_laws.proofs.RingEndLemmas.{IsSound-renewed, IsSoundBut-ended, IsSoundBut-served}
use Rattle.thread_laws.proofs.JoinLemmas.{LeavesLosses-ended, LeavesLosses-served, Wheels, Wheels-many}
use Rattle.thread_laws.proofs.RestLemmas.{LeavesLosses, LeavesLosses-both, LeavesLosses-turned}
use Rattle.thread_laws.proofs.RingKeptLemmas.{KeepsOwn-cycled, KeepsOwn-ended, KeepsOwn-grouped, KeepsOwn-met, KeepsOwn-paced, KeepsOwn-readers, KeepsOwn-renewed, KeepsOwn-rounded, KeepsOwn-served, KeepsOwn-went}
use Rattle.thread_laws.proofs.LookLemmas.{run-many}
use Rattle.thread_laws.proofs.PartLemmas.{IsSettled-grouped, IsSettled-met, IsSettled-paced, IsSoundBut-met, IsSoundBut-rounded, IsSoundBut-sound, IsSoundBut-went}
use Rattle.thread_laws.proofs.PassLemmas.{LeavesDisks, LeavesDisks-both, LeavesDisks-grouped, LeavesDisks-met, LeavesDisks-paced, LeavesDisks-renewed, LeavesDisks-rounded, LeavesDisks-went, LeavesRings, LeavesRings-both, LeavesRings-grouped, LeavesRings-met, LeavesRings-paced, LeavesRings-rounded, LeavesRings-went}
use Rattle.thread_laws.proofs.SegmentLemmas.{RingsAtRest-segment}

-- ---- the cycles of a phase

cycles-next : (phs : List Phase) (done : ℕ) (phase : Phase) → slice_get phs done ≡ Some phase
    → sum_by (λ (p : Phase). p.cycles) (take (suc done) phs) ≡ sum_by (λ (p : Phase). p.cycles) (take done phs) + phase.cycles
cycles-next [] done phase here = absurd (none-some phase here)
cycles-next (one ∷ phs) zero phase here =
    let same : one.cycles ≡ phase.cycles = ap (λ (p : Phase). p.cycles) (same_Some one phase here) in
    omega (arith, sum_by-cons (λ (p : Phase). p.cycles) one [], same)
cycles-next (one ∷ phs) (suc done) phase here =
    omega (arith, sum_by-cons (λ (p : Phase). p.cycles) one (take (suc done) phs), sum_by-cons (λ (p : Phase). p.cycles) one (take done phs), cycles-next phs done phase here)

pub cycles_before-next : (script : Script) (done : ℕ) (phase : Phase) → slice_get (phases script) done ≡ Some phase → cycles_before script (done + 1) ≡ cycles_before script done + phase.cycles
cycles_before-next script done phase here =
    let next : done + 1 ≡ suc done = omega arith in
    ap (cycles_before script) next ∙ cycles-next (phases script) done phase here

pub AreNext-phase : (session : Session) (done : ℕ) (phase : Phase) → slice_get (phases session.script) done ≡ Some phase → run session.driver ≡ cycles_before session.script done → AreNext phase.cycles phase.is_freewheel session
AreNext-phase session done phase here start t low =
    ap (λ n. (turn_of session.script (n + t + 1)).is_freewheel) start ∙ ap (λ (turn : ScriptCycle). turn.is_freewheel) (cycle-is session.script done t phase here low)

-- ---- the parts

IsSound-many : (many : ℕ) (session : Session) (driver : Driver) → IsSound session → AreNext many false session → CyclesMany many session.driver driver → IsSound (record session { driver = driver })
IsSound-many zero session driver sound next same = subst (λ (d : Driver). IsSound (record session { driver = d })) (sym same) sound
IsSound-many (suc many) session driver sound next cycles =
    let between : Driver = cycles.0 in
    let before : Session = record session { driver = between } in
    let ran : run between ≡ run session.driver + many = run-many many session.driver between cycles.1 in
    let kind : (turn_of session.script (run between + 1)).is_freewheel ≡ false = ap (λ n. (turn_of session.script (n + 1)).is_freewheel) ran ∙ next many (omega arith) in
    IsSound-cycled before (record session { driver = driver }) (IsSound-many many session between sound (λ t low. next t (omega (arith, low))) cycles.1) (λ is. absurd (true≢false (sym is ∙ kind)))
    (record { cycles = cycles.2; same = refl })

IsSoundBut-joined : (many : ℕ) (freewheel : Bool) (session after : Session) → IsSettled session → AreNext many freewheel session → Joined many freewheel session after → IsSoundBut after
IsSoundBut-joined many freewheel session after settled next (Rests none same) = subst IsSoundBut (sym same) (IsSoundBut-sound session settled.sound)
IsSoundBut-joined many freewheel session after settled next (Runs filled cycled ended served is reads cycles ends serves readers going) =
    let sound-filled : IsSound filled = IsSound-read session.script.header.ring session filled settled.sound reads in
    let next-filled : AreNext many false filled = λ t low. ap (λ (s : Session). (turn_of s.script (run s.driver + t + 1)).is_freewheel) reads.same ∙ next t low ∙ is in
    let sound-cycled : IsSound cycled = subst IsSound (sym cycles.same) (IsSound-many many filled cycled.driver sound-filled next-filled cycles.cycles) in
    IsSoundBut-readers served after (IsSoundBut-served ended served (IsSoundBut-ended cycled ended (IsSoundBut-sound cycled sound-cycled) ends) serves) readers going
IsSoundBut-joined many freewheel session after settled next (Wheeled is wheeled) =
    let wheels : Wheels session after = Wheels-many many session after settled wheeled in
    IsSoundBut-sound after wheels.settled.sound

-- a reading is a step at the disks
read-tried : (session filled : Session) → DisksRead session.script.header.ring session filled → DisksBroke session.script.header.ring session filled
read-tried session filled reads = tried-read session.script.header.ring session filled reads

KeepsOwn-joined : (given : Given) (many : ℕ) (freewheel : Bool) (session after : Session) → IsSettled session → Joined many freewheel session after → KeepsOwn given session → KeepsOwn given after
KeepsOwn-joined given many freewheel session after settled (Rests none same) kept = subst (KeepsOwn given) (sym same) kept
KeepsOwn-joined given many freewheel session after settled (Runs filled cycled ended served is reads cycles ends serves readers going) kept =
    let kept-filled : KeepsOwn given filled = KeepsOwn-read Fits-others Keeps-others given session.script.header.ring session filled settled.sound reads kept in
    KeepsOwn-readers given served after readers (KeepsOwn-served given ended served serves (KeepsOwn-ended given cycled ended ends (KeepsOwn-cycled given many filled cycled cycles kept-filled)))
KeepsOwn-joined given many freewheel session after settled (Wheeled is wheeled) kept = (Wheels-many many session after settled wheeled).keeps given kept

PlaysAll-joined : (given : Given) (many : ℕ) (freewheel : Bool) (session after : Session) → IsSettled session → Joined many freewheel session after → PlaysAll given session → PlaysAll given after
PlaysAll-joined given many freewheel session after settled (Rests none same) plays = subst (PlaysAll given) (sym same) plays
PlaysAll-joined given many freewheel session after settled (Runs filled cycled ended served is reads cycles ends serves readers going) plays =
    let players : served.players ≡ filled.players = ap (λ (s : Session). s.players) serves.same ∙ ap (λ (s : Session). s.players) ends.same ∙ ap (λ (s : Session). s.players) cycles.same in
    PlaysAll-served served after given readers going (PlaysAll-alone filled served given players (PlaysAll-read session.script.header.ring session filled given settled.sound.one reads plays))
PlaysAll-joined given many freewheel session after settled (Wheeled is wheeled) plays = (Wheels-many many session after settled wheeled).plays given plays

-- ---- the underruns

-- the cycles of a phase, the first of them behind the reading that filled the rings
abbrev pub MissBehindRings : Type 0
MissBehindRings = (given : Given) (phase many : ℕ) (session after : Session) → IsOne session → IsFor session given → KeepsAny given session.driver → DisksFilled given session
    → run session.driver ≡ cycles_before session.script phase → cycles_before session.script phase + many ≤ cycles_before session.script (phase + 1)
    → CyclesMany many session.driver after.driver → (disk : ℕ) → MissesBehindRing given session disk → MissesBehindRing given after disk

MissesBehind-left : (given : Given) (session after : Session) → LeavesLosses session after → (disk : ℕ) → MissesBehindRing given session disk → MissesBehindRing given after disk
MissesBehind-left given session after leaves disk behind course over fits =
    subst (λ (us : List Underrun). All (IsBehindRing course disk) (underruns_on us disk)) (sym leaves.underruns) (behind course over (leaves.fits course fits))

MissesBehind-joined : MissBehindRings → (given : Given) (done many : ℕ) (freewheel : Bool) (session after : Session) → IsSettled session → run session.driver ≡ cycles_before session.script done
    → cycles_before session.script done + many ≤ cycles_before session.script (done + 1) → KeepsOwn given session → PlaysAll given session → Joined many freewheel session after
    → (disk : ℕ) → MissesBehindRing given session disk → MissesBehindRing given after disk
MissesBehind-joined law given done many freewheel session after settled start within kept plays (Rests none same) disk behind = subst (λ (s : Session). MissesBehindRing given s disk) (sym same) behind
MissesBehind-joined law given done many freewheel session after settled start within kept plays (Runs filled cycled ended served is reads cycles ends serves readers going) disk behind =
    let ring : ℕ = session.script.header.ring in
    let one : IsOne session = settled.sound.one in
    let tried : DisksBroke ring session filled = read-tried session filled reads in
    let kept-filled : KeepsOwn given filled = KeepsOwn-read Fits-others Keeps-others given ring session filled settled.sound reads kept in
    let full : DisksFilled given filled = DisksFilled-read session filled one reads settled.sound.room settled.tells given plays in
    let behind-filled : MissesBehindRing given filled disk = MissesBehind-left given session filled (LeavesRings-tried ring session filled (long session one) tried).losses disk behind in
    let behind-cycled : MissesBehindRing given cycled disk =
    law given done many filled cycled (IsOne-tried ring session filled tried one) kept-filled.own kept-filled.keeps full
    (subst (λ (s : Session). run s.driver ≡ cycles_before s.script done) (sym reads.same) start)
    (subst (λ (s : Session). cycles_before s.script done + many ≤ cycles_before s.script (done + 1)) (sym reads.same) within) cycles.cycles disk behind-filled in
    let behind-ended : MissesBehindRing given ended disk = MissesBehind-left given cycled ended (LeavesLosses-ended cycled ended ends) disk behind-cycled in
    let behind-served : MissesBehindRing given served disk = MissesBehind-left given ended served (LeavesLosses-served ended served serves) disk behind-ended in
    MissesBehind-left given served after (LeavesRings-readers served after readers).losses disk behind-served
MissesBehind-joined law given done many freewheel session after settled start within kept plays (Wheeled is wheeled) disk behind =
    MissesBehind-left given session after (Wheels-many many session after settled wheeled).losses disk behind

-- ---- a phase

module _ (done many : ℕ) (freewheel : Bool) (session after : Session) (settled : IsSettled session) (next : AreNext many freewheel session) (segment : ThreadSegment done many freewheel session after) where
  front : LeavesRings session segment.paced
  front = LeavesRings-both session segment.met segment.paced
      (LeavesRings-both session segment.grouped segment.met (LeavesRings-grouped done session segment.grouped segment.groups) (LeavesRings-met segment.grouped segment.met segment.meets)) (LeavesRings-paced segment.met segment.paced segment.paces)

  front-disks : LeavesDisks session segment.paced
  front-disks = LeavesDisks-both session segment.met segment.paced
      (LeavesDisks-both session segment.grouped segment.met (LeavesDisks-grouped done session segment.grouped segment.groups) (LeavesDisks-met segment.grouped segment.met segment.meets)) (LeavesDisks-paced segment.met segment.paced segment.paces)

  settled-paced : IsSettled segment.paced
  settled-paced = IsSettled-paced segment.met segment.paced (IsSettled-met segment.grouped segment.met (IsSettled-grouped done session segment.grouped settled segment.groups) segment.meets) segment.paces

  next-paced : AreNext many freewheel segment.paced
  next-paced t low =
      ap (λ (s : Script). (turn_of s (run segment.paced.driver + t + 1)).is_freewheel) front.losses.script
      ∙ ap (λ (ns : List ℕ). (turn_of session.script (length ns + t + 1)).is_freewheel) front.numbers
      ∙ next t low

  sound-filled : IsSoundBut segment.filled
  sound-filled =
      let served : IsSoundBut segment.served = IsSoundBut-joined many freewheel segment.paced segment.served settled-paced next-paced segment.joins in
      let gone : IsSoundBut segment.gone = IsSoundBut-went segment.served segment.gone served segment.goes in
      IsSoundBut-rounded segment.heard segment.filled (IsSoundBut-met segment.gone segment.heard gone segment.hears) segment.fills

  sound-renewed : IsSound segment.renewed
  sound-renewed = IsSound-renewed segment.filled segment.renewed sound-filled segment.renews

  -- the lanes' last calls, and the rings of the recorders
  back : LeavesLosses segment.served segment.renewed
  back =
      let rounded : LeavesRings segment.served segment.filled =
      LeavesRings-both segment.served segment.heard segment.filled
      (LeavesRings-both segment.served segment.gone segment.heard (LeavesRings-went segment.served segment.gone segment.goes) (LeavesRings-met segment.gone segment.heard segment.hears)) (LeavesRings-rounded segment.heard segment.filled segment.fills) in
      LeavesLosses-both segment.served segment.filled segment.renewed rounded.losses
      (LeavesLosses-turned segment.filled segment.renewed segment.filled.driver.reading.least segment.filled.driver.set segment.renewed.driver.rings (ap (λ (s : Session). s.script) segment.renews.same) (ap (λ (s : Session). s.driver) segment.renews.same))

  back-disks : LeavesDisks segment.served segment.renewed
  back-disks =
      LeavesDisks-both segment.served segment.filled segment.renewed
      (LeavesDisks-both segment.served segment.heard segment.filled
      (LeavesDisks-both segment.served segment.gone segment.heard (LeavesDisks-went segment.served segment.gone segment.goes) (LeavesDisks-met segment.gone segment.heard segment.hears)) (LeavesDisks-rounded segment.heard segment.filled segment.fills))
      (LeavesDisks-renewed segment.filled segment.renewed segment.renews)

  tried : DisksBroke 0 segment.renewed segment.told
  tried = tried-told 0 segment.renewed segment.told segment.tells

  many-renewed : AsMany segment.renewed
  many-renewed = long segment.renewed sound-renewed.one

  pub IsSettled-segment : IsSettled after
  IsSettled-segment = IsSettled-met segment.told after (record {
    sound = IsSound-told segment.renewed segment.told sound-renewed segment.tells;
    tells = DisksTell-told segment.renewed segment.told segment.tells;
  }) segment.meets_again

  KeepsOwn-front : (given : Given) → KeepsOwn given session → KeepsOwn given segment.paced
  KeepsOwn-front given kept =
      KeepsOwn-paced given segment.met segment.paced segment.paces
      (KeepsOwn-met given segment.grouped segment.met segment.meets (KeepsOwn-grouped given done session segment.grouped segment.groups kept))

  pub KeepsOwn-segment : (given : Given) → KeepsOwn given session → KeepsOwn given after
  KeepsOwn-segment given kept =
      let served : KeepsOwn given segment.served = KeepsOwn-joined given many freewheel segment.paced segment.served settled-paced segment.joins (KeepsOwn-front given kept) in
      let gone : KeepsOwn given segment.gone = KeepsOwn-went given segment.served segment.gone segment.goes served in
      let heard : KeepsOwn given segment.heard = KeepsOwn-met given segment.gone segment.heard segment.hears gone in
      let filled : KeepsOwn given segment.filled = KeepsOwn-rounded given segment.heard segment.filled segment.fills heard in
      let renewed : KeepsOwn given segment.renewed = KeepsOwn-renewed given segment.filled segment.renewed sound-filled segment.renews filled in
      KeepsOwn-met given segment.told after segment.meets_again (KeepsOwn-told Fits-others Keeps-others given segment.renewed segment.told sound-renewed segment.tells renewed)

  -- players go on with their files
  PlaysAll-front : (given : Given) → PlaysAll given session → PlaysAll given segment.paced
  PlaysAll-front given plays = PlaysAll-alone session segment.paced given front-disks.players plays

  pub PlaysAll-segment : (given : Given) → PlaysAll given session → PlaysAll given after
  PlaysAll-segment given plays =
      let served : PlaysAll given segment.served = PlaysAll-joined given many freewheel segment.paced segment.served settled-paced segment.joins (PlaysAll-front given plays) in
      let renewed : PlaysAll given segment.renewed = PlaysAll-alone segment.served segment.renewed given back-disks.players served in
      let told : PlaysAll given segment.told = PlaysAll-told segment.renewed segment.told given sound-renewed.one segment.tells renewed in
      PlaysAll-alone segment.told after given (ap (λ (s : Session). s.players) segment.meets_again.same) told

  -- underruns come behind what the rings held when their segment began
  pub MissesBehind-segment : MissBehindRings → (given : Given) → run session.driver ≡ cycles_before session.script done → run session.driver + many ≤ cycles_before session.script (done + 1)
      → KeepsOwn given session → PlaysAll given session → (disk : ℕ) → MissesBehindRing given session disk → MissesBehindRing given after disk
  MissesBehind-segment law given start within kept plays disk behind =
      let begun : run segment.paced.driver ≡ cycles_before segment.paced.script done = ap length front.numbers ∙ start ∙ ap (λ (s : Script). cycles_before s done) (sym front.losses.script) in
      let room : cycles_before segment.paced.script done + many ≤ cycles_before segment.paced.script (done + 1) =
      subst (λ (s : Script). cycles_before s done + many ≤ cycles_before s (done + 1)) (sym front.losses.script) (omega (arith, start, within)) in
      let paced : MissesBehindRing given segment.paced disk = MissesBehind-left given session segment.paced front.losses disk behind in
      let served : MissesBehindRing given segment.served disk =
      MissesBehind-joined law given done many freewheel segment.paced segment.served settled-paced begun room (KeepsOwn-front given kept) (PlaysAll-front given plays) segment.joins disk paced in
      let renewed : MissesBehindRing given segment.renewed disk = MissesBehind-left given segment.served segment.renewed back disk served in
      let told : MissesBehindRing given segment.told disk =
      MissesBehind-left given segment.renewed segment.told (LeavesRings-tried 0 segment.renewed segment.told many-renewed tried).losses disk renewed in
      MissesBehind-left given segment.told after (LeavesRings-met segment.told after segment.meets_again).losses disk told

-- ---- between two segments

-- where both ends of each disk's ring know how far the other is, the rings are at rest
abbrev pub RestWhereTold : Type 0
RestWhereTold = (session : Session) (given : Given) → PlaysAll given session → DisksTell session → DisksAtRest given session

-- a settled session that ran so many phases, with all rings at rest
pub AtPhase-rest : OfCallsAccepted → RestWhereTold → (given : Given) (session : Session) (done : ℕ) → IsSettled session → RanPhases session done → KeepsOwn given session → RingsAtRest given session → PlaysAll given session
    → ((disk : ℕ) → MissesBehindRing given session disk) → AtPhase session given done
AtPhase-rest of_calls rests given session done settled ran kept rest plays misses = record {
  ran = ran;
  given_kept = record {
    own = kept.own;
    fits = Fits-met of_calls session given one kept.own ran.met.met (λ disk got here.
        let player : (player : Playing) × IsDisk session disk player got = both-by session (long session one) disk got here in
        FitsDisk-rest session given disk player.0.sending got (disks disk player.0 got player.1.player_is here));
    keeps = kept.keeps;
  };
  files = settled.sound.files;
  rings = λ threads. rest;
  plays = plays;
  disks = disks;
  misses = λ threads. misses;
}
  where
    one : IsOne session
    one = settled.sound.one

    disks : DisksAtRest given session
    disks = rests session given plays settled.tells

-- one phase more was run, and the parts are settled
pub RanPhases-segment : PhaseRan → (session after : Session) (done : ℕ) (phase : Phase) → IsSettled session → slice_get (phases session.script) done ≡ Some phase → RanPhases session done
    → ThreadSegment done phase.cycles phase.is_freewheel session after → IsSettled after × RanPhases after (suc done)
RanPhases-segment phase_ran session after done phase settled here ran segment =
    let behind : IsSettled after = IsSettled-segment done phase.cycles phase.is_freewheel session after settled (AreNext-phase session done phase here ran.cycles) segment in
    (behind, phase_ran session after done phase ran here segment behind.sound.one behind.sound.misses)

-- from between two segments, over a phase, to between the next two
pub AtPhase-segment : OfCallsAccepted → PhaseRan → RestWhereTold → MissBehindRings → (given : Given) (session after : Session) (done : ℕ) (phase : Phase) → IsSome session.script.header.threads → IsSettled session
    → slice_get (phases session.script) done ≡ Some phase → AtPhase session given done → ThreadSegment done phase.cycles phase.is_freewheel session after → AtPhase after given (suc done)
AtPhase-segment of_calls phase_ran rests law given session after done phase threads settled here at segment =
    let many : ℕ = phase.cycles in
    let next : AreNext many phase.is_freewheel session = AreNext-phase session done phase here at.ran.cycles in
    let end : cycles_before session.script (done + 1) ≡ cycles_before session.script done + many = cycles_before-next session.script done phase here in
    let start : run session.driver ≡ cycles_before session.script done = at.ran.cycles in
    let within : run session.driver + many ≤ cycles_before session.script (done + 1) = omega (arith, start, end) in
    let kept : KeepsOwn given session = record { own = at.given_kept.own; keeps = at.given_kept.keeps } in
    let behind = RanPhases-segment phase_ran session after done phase settled here at.ran segment in
    AtPhase-rest of_calls rests given after (suc done) behind.0 behind.1
    (KeepsOwn-segment done many phase.is_freewheel session after settled next segment given kept)
    (RingsAtRest-segment given session settled (at.rings threads) done many phase.is_freewheel after at.given_kept.own at.given_kept.keeps start within segment)
    (PlaysAll-segment done many phase.is_freewheel session after settled next segment given at.plays)
    (λ disk. MissesBehind-segment done many phase.is_freewheel session after settled next segment law given start within kept at.plays disk (at.misses threads disk))
