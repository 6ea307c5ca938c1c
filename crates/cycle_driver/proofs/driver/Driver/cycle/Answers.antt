use Rattle.std.proofs.Common.{◌≡◌, ◌+◌, ◌*◌, ◌≤◌, true, List, ◌++◌, ℤ, Some, refl, sym, ◌∙◌, ap, subst, arith, true≢false}
use Rattle.std.specs.Prelude.{IfSome}
use Rattle.jack_host.specs.Causes.{Rose}
use Rattle.jack_types.specs.declared.moments.Moment.{Moment}
use Rattle.session_model.specs.Courses.{Course}
use Rattle.session_model.specs.Grammar.{IsScript}
use Rattle.session_model.specs.Samples.{width}
use Rattle.session_model.specs.Scripts.{Script}
use Rattle.cycle_plan.specs.Plans.{Planned}
use Rattle.driver_words.specs.Tapes.{HasSamples, HasUnfinished}
use Rattle.driver_laws.specs.Cycling.{CyclesOnce, FailsAtRead, FailsAtWrite, MayCycle, StepsOnce}
use Rattle.driver_laws.specs.Drivers.{frames_run, greatest_period}
use Rattle.driver_laws.specs.Keeping.{Fits, HasTape, Keeps}
use Rattle.driver_laws.specs.Playing.{PlaysOwn, played_now}
use Rattle.cycle_works.specs.Gears.{FailsToRead, Gear, IsGear, Turns, driver_of, mixed, with_playback}
use Rattle.cycle_works.proofs.CycleLemmas.{frames-is, later}
use Rattle.cycle_works.proofs.FailedLemmas.{failed-at-read}
use Rattle.cycle_works.proofs.PlaybackLemmas.{IsGear-playback, Turns-playback, mixed-turned}
use Rattle.cycle_works.proofs.ResultLemmas.{err-held, if-some, ok-held}
use Rattle.cycle_driver.specs.Insides.{IsOwnFile}
use Rattle.cycle_driver.specs.Openings.{playback_format}
use Rattle.cycle_driver.proofs.PlayedLemmas.{file-fits, file-next, file-stays, wide-of, writes-file, writes-nothing}
use Rattle.cycle_driver.proofs.driver.Driver.cycle.Goals as goal

-- ---- the capture failed

pub invariant_of-self : goal.invariant_of-self
invariant_of-self g c = record {
  lawful = subst (λ (gear : Gear). IsScript gear.script) (sym fails.same) c.self.invariant.lawful;
  channels = c.self.invariant.channels ∙ ap (λ (gear : Gear). gear.script.header.playback) (sym fails.same);
  room = c.self.invariant.room ∙ ap (λ (gear : Gear). greatest_period gear.script) (sym fails.same);
  format = c.self.invariant.format ∙ ap (λ (gear : Gear). playback_format gear.script) (sym fails.same);
  file = λ sound. absurd (true≢false (c.if-is_err.ensures.value ∙ sym c.turn.ensures.sound ∙ sound));
}
  where
    fails : FailsToRead c.self.inside.works c.turn.new.self
    fails = err-held c.turn.result (FailsToRead c.self.inside.works c.turn.new.self) c.if-is_err.ensures.value c.turn.ensures.failed

pub returns-then-is_err-clause-read : goal.returns-then-is_err-clause-read
returns-then-is_err-clause-read g c is_read = subst (λ gear. FailsAtRead (driver_of g.G.Guest.sound gear) (driver_of g.G.Guest.sound (with_playback c.turn.new.self c.self.inside.playback))) c.self.view_is
    (failed-at-read g.G.Guest.sound c.self.inside.works c.turn.new.self c.self.inside.playback (err-held c.turn.result (FailsToRead c.self.inside.works c.turn.new.self) c.if-is_err.ensures.value c.turn.ensures.failed))

pub returns-then-is_err-clause-read_cause : goal.returns-then-is_err-clause-read_cause
returns-then-is_err-clause-read_cause g c is_read = subst (λ (gear : Gear). Rose gear.capture.reading.faults c.turn.new.self.capture.reading.faults) c.self.view_is
    (err-held c.turn.result (Rose c.self.inside.works.capture.reading.faults c.turn.new.self.capture.reading.faults) c.if-is_err.ensures.value c.turn.ensures.cause.failed)

-- ---- a freewheel cycle

pub invariant_of-self-then-freewheel : goal.invariant_of-self-then-freewheel
invariant_of-self-then-freewheel g c = record {
  lawful = subst IsScript (sym turned.2.script) c.self.invariant.lawful;
  channels = c.self.invariant.channels ∙ ap (λ (s : Script). s.header.playback) (sym turned.2.script);
  room = c.self.invariant.room ∙ ap greatest_period (sym turned.2.script);
  format = c.self.invariant.format ∙ ap playback_format (sym turned.2.script);
  file = λ sound. if-some c.self.inside.playback (IsOwnFile g.G.Guest.sound (with_playback c.self.inside.works c.self.inside.playback)) (IsOwnFile g.G.Guest.sound (with_playback c.turn.new.self c.self.inside.playback)) (λ file own. file-stays g.G.Guest.sound (with_playback c.self.inside.works c.self.inside.playback) (with_playback c.turn.new.self c.self.inside.playback) file turned.2.script frames own) (c.self.invariant.file may.sound);
}
  where
    may : MayCycle (driver_of g.G.Guest.sound (with_playback c.self.inside.works c.self.inside.playback)) c.args.freewheel
    may = subst (λ gear. MayCycle (driver_of g.G.Guest.sound gear) c.args.freewheel) (sym c.self.view_is) c.requires

    turned : (plan : Planned) × (moment : Moment) × Turns g.G.Guest.sound c.args.freewheel c.self.inside.works plan moment c.turn.new.self
    turned = ok-held c.turn.result ((plan : Planned) × (moment : Moment) × Turns g.G.Guest.sound c.args.freewheel c.self.inside.works plan moment c.turn.new.self) c.if-is_err.ensures.value c.turn.ensures.turned

    is : IsGear g.G.Guest.sound (with_playback c.self.inside.works c.self.inside.playback)
    is = IsGear-playback g.G.Guest.sound c.self.inside.works c.self.inside.playback c.turn.ensures.stands.0

    turns : Turns g.G.Guest.sound c.args.freewheel (with_playback c.self.inside.works c.self.inside.playback) turned.0 turned.1 (with_playback c.turn.new.self c.self.inside.playback)
    turns = Turns-playback g.G.Guest.sound c.args.freewheel c.self.inside.works turned.0 turned.1 c.turn.new.self turned.2 c.self.inside.playback c.self.inside.playback c.turn.new.self.failed

    frames : frames_run (driver_of g.G.Guest.sound (with_playback c.turn.new.self c.self.inside.playback)) ≡ frames_run (driver_of g.G.Guest.sound (with_playback c.self.inside.works c.self.inside.playback)) + c.self.inside.works.set
    frames = frames-is g.G.Guest.sound c.args.freewheel (with_playback c.self.inside.works c.self.inside.playback) (with_playback c.turn.new.self c.self.inside.playback) turned.0 turned.1 is may turns

pub returns-then-freewheel-clause-ok : goal.returns-then-freewheel-clause-ok
returns-then-freewheel-clause-ok g c = subst (λ gear. CyclesOnce (driver_of g.G.Guest.sound gear) (driver_of g.G.Guest.sound (with_playback c.turn.new.self c.self.inside.playback))) c.self.view_is
    (c.steps_that_play_are_a_cycle.ensures.ok (driver_of g.G.Guest.sound (with_playback c.self.inside.works c.self.inside.playback)) (driver_of g.G.Guest.sound (with_playback c.turn.new.self c.self.inside.playback)) steps (writes-nothing g.G.Guest.sound (with_playback c.self.inside.works c.self.inside.playback) (with_playback c.turn.new.self c.self.inside.playback) c.args.freewheel may (c.turn.ensures.sound ∙ sym c.if-is_err.ensures.value ∙ sym may.sound) refl)
    (λ left course fits keeps told. (plays left course fits keeps told, λ run samples has. absurd (true≢false (sym c.if-freewheel.true ∙ sym may.turn_is ∙ run)))))
  where
    may : MayCycle (driver_of g.G.Guest.sound (with_playback c.self.inside.works c.self.inside.playback)) c.args.freewheel
    may = subst (λ gear. MayCycle (driver_of g.G.Guest.sound gear) c.args.freewheel) (sym c.self.view_is) c.requires

    turned : (plan : Planned) × (moment : Moment) × Turns g.G.Guest.sound c.args.freewheel c.self.inside.works plan moment c.turn.new.self
    turned = ok-held c.turn.result ((plan : Planned) × (moment : Moment) × Turns g.G.Guest.sound c.args.freewheel c.self.inside.works plan moment c.turn.new.self) c.if-is_err.ensures.value c.turn.ensures.turned

    is : IsGear g.G.Guest.sound (with_playback c.self.inside.works c.self.inside.playback)
    is = IsGear-playback g.G.Guest.sound c.self.inside.works c.self.inside.playback c.turn.ensures.stands.0

    turns : Turns g.G.Guest.sound c.args.freewheel (with_playback c.self.inside.works c.self.inside.playback) turned.0 turned.1 (with_playback c.turn.new.self c.self.inside.playback)
    turns = Turns-playback g.G.Guest.sound c.args.freewheel c.self.inside.works turned.0 turned.1 c.turn.new.self turned.2 c.self.inside.playback c.self.inside.playback c.turn.new.self.failed

    steps : StepsOnce (driver_of g.G.Guest.sound (with_playback c.self.inside.works c.self.inside.playback)) (driver_of g.G.Guest.sound (with_playback c.turn.new.self c.self.inside.playback))
    steps = c.a_cycle_is_a_step.ensures g.G.Guest.sound c.args.freewheel (with_playback c.self.inside.works c.self.inside.playback) (with_playback c.turn.new.self c.self.inside.playback) turned.0 turned.1 is may turns

    plays : (left : List ℤ) (course : Course) → Fits (driver_of g.G.Guest.sound (with_playback c.turn.new.self c.self.inside.playback)) course → Keeps (driver_of g.G.Guest.sound (with_playback c.self.inside.works c.self.inside.playback)) course → (driver_of g.G.Guest.sound (with_playback c.self.inside.works c.self.inside.playback)).left ≡ Some left → PlaysOwn (driver_of g.G.Guest.sound (with_playback c.self.inside.works c.self.inside.playback)) (driver_of g.G.Guest.sound (with_playback c.turn.new.self c.self.inside.playback)) left
    plays = c.a_cycle_plays_its_own.ensures g.G.Guest.sound c.args.freewheel (with_playback c.self.inside.works c.self.inside.playback) (with_playback c.turn.new.self c.self.inside.playback) turned.0 turned.1 is may turns

-- ---- a `run` cycle

pub play_back-requires-clause-period : goal.play_back-requires-clause-period
play_back-requires-clause-period g c =
    let within : c.self.inside.works.set ≤ c.self.inside.works.rings.room = (c.a_cycle_may_be_played.ensures.sends g.G.Guest.sound (with_playback c.self.inside.works c.self.inside.playback) c.args.freewheel is may).period in
    let rings : c.self.inside.works.rings.room ≡ greatest_period c.self.inside.works.script = is.rings_room in
    let room : c.self.inside.mix.room ≡ greatest_period c.self.inside.works.script = c.self.invariant.room in
    subst (λ set. set ≤ c.self.inside.mix.room) (sym turned.2.set) (omega (arith, within, rings, room))
  where
    may : MayCycle (driver_of g.G.Guest.sound (with_playback c.self.inside.works c.self.inside.playback)) c.args.freewheel
    may = subst (λ gear. MayCycle (driver_of g.G.Guest.sound gear) c.args.freewheel) (sym c.self.view_is) c.requires

    turned : (plan : Planned) × (moment : Moment) × Turns g.G.Guest.sound c.args.freewheel c.self.inside.works plan moment c.turn.new.self
    turned = ok-held c.turn.result ((plan : Planned) × (moment : Moment) × Turns g.G.Guest.sound c.args.freewheel c.self.inside.works plan moment c.turn.new.self) c.if-is_err.ensures.value c.turn.ensures.turned

    is : IsGear g.G.Guest.sound (with_playback c.self.inside.works c.self.inside.playback)
    is = IsGear-playback g.G.Guest.sound c.self.inside.works c.self.inside.playback c.turn.ensures.stands.0

pub play_back-requires-clause-room : goal.play_back-requires-clause-room
play_back-requires-clause-room g c =
    subst (λ set. c.in-Some.file.written + set * c.self.inside.mix.channels * width c.in-Some.file.format.bits ≤ 4294967000) (sym turned.2.set)
    (subst (λ channels. c.in-Some.file.written + c.self.inside.works.set * channels * width c.in-Some.file.format.bits ≤ 4294967000) (sym c.self.invariant.channels)
    (file-fits g.G.Guest.sound (with_playback c.self.inside.works c.self.inside.playback) c.args.freewheel may c.in-Some.file own (wide-of c.self.inside.works.script.header.bits is.lawful.header.bits) (c.samples_are_few.ensures.playback (later g.G.Guest.sound (with_playback c.self.inside.works c.self.inside.playback)) is.lawful)))
  where
    may : MayCycle (driver_of g.G.Guest.sound (with_playback c.self.inside.works c.self.inside.playback)) c.args.freewheel
    may = subst (λ gear. MayCycle (driver_of g.G.Guest.sound gear) c.args.freewheel) (sym c.self.view_is) c.requires

    turned : (plan : Planned) × (moment : Moment) × Turns g.G.Guest.sound c.args.freewheel c.self.inside.works plan moment c.turn.new.self
    turned = ok-held c.turn.result ((plan : Planned) × (moment : Moment) × Turns g.G.Guest.sound c.args.freewheel c.self.inside.works plan moment c.turn.new.self) c.if-is_err.ensures.value c.turn.ensures.turned

    is : IsGear g.G.Guest.sound (with_playback c.self.inside.works c.self.inside.playback)
    is = IsGear-playback g.G.Guest.sound c.self.inside.works c.self.inside.playback c.turn.ensures.stands.0

    was : c.self.inside.playback ≡ Some c.in-Some.file
    was = c.in-Some.is

    own : IsOwnFile g.G.Guest.sound (with_playback c.self.inside.works c.self.inside.playback) c.in-Some.file
    own = subst (λ o. IfSome o (IsOwnFile g.G.Guest.sound (with_playback c.self.inside.works c.self.inside.playback))) was (c.self.invariant.file may.sound)

pub invariant_of-self-then-is_err-2 : goal.invariant_of-self-then-is_err-2
invariant_of-self-then-is_err-2 g c = record {
  lawful = subst (λ (gear : Gear). IsScript gear.script) (sym c.fail.ensures) (subst IsScript (sym turned.2.script) c.self.invariant.lawful);
  channels = c.play_back.ensures.room.0 ∙ c.self.invariant.channels ∙ ap (λ (s : Script). s.header.playback) (sym turned.2.script) ∙ ap (λ (gear : Gear). gear.script.header.playback) (sym c.fail.ensures);
  room = c.play_back.ensures.room.1 ∙ c.self.invariant.room ∙ ap greatest_period (sym turned.2.script) ∙ ap (λ (gear : Gear). greatest_period gear.script) (sym c.fail.ensures);
  format = c.self.invariant.format ∙ ap playback_format (sym turned.2.script) ∙ ap (λ (gear : Gear). playback_format gear.script) (sym c.fail.ensures);
  file = λ sound. absurd (true≢false (sym (ap (λ (gear : Gear). gear.failed) c.fail.ensures) ∙ sound));
}
  where
    turned : (plan : Planned) × (moment : Moment) × Turns g.G.Guest.sound c.args.freewheel c.self.inside.works plan moment c.turn.new.self
    turned = ok-held c.turn.result ((plan : Planned) × (moment : Moment) × Turns g.G.Guest.sound c.args.freewheel c.self.inside.works plan moment c.turn.new.self) c.if-is_err.ensures.value c.turn.ensures.turned

pub returns-then-is_err-2-clause-write : goal.returns-then-is_err-2-clause-write
returns-then-is_err-2-clause-write g c is_write =
    subst (λ gear. FailsAtWrite (driver_of g.G.Guest.sound gear) (driver_of g.G.Guest.sound (with_playback c.fail.new.self (Some c.play_back.new.file)))) c.self.view_is
    (subst (λ gear. FailsAtWrite (driver_of g.G.Guest.sound (with_playback c.self.inside.works c.self.inside.playback)) (driver_of g.G.Guest.sound (with_playback gear (Some c.play_back.new.file)))) (sym c.fail.ensures)
    (c.steps_that_play_are_a_cycle.ensures.failed (driver_of g.G.Guest.sound (with_playback c.self.inside.works c.self.inside.playback)) (driver_of g.G.Guest.sound (record c.turn.new.self { playback = (Some c.play_back.new.file); failed = true })) steps refl
    (λ left course fits keeps told. (
      plays left course fits keeps told,
      record {
        in_run = may.turn_is ∙ c.if-freewheel.false;
        front = λ samples has. subst (λ xs. HasUnfinished c.play_back.new.file.format (samples ++ xs) c.play_back.new.file.bytes) (mixes left told) (subst (λ format. HasUnfinished format (samples ++ (mixed c.turn.new.self c.self.inside.mix.channels)) c.play_back.new.file.bytes) (sym c.play_back.ensures.file.format) (front samples (subst (λ o. HasTape o samples) was has)));
      },
    ))))
  where
    may : MayCycle (driver_of g.G.Guest.sound (with_playback c.self.inside.works c.self.inside.playback)) c.args.freewheel
    may = subst (λ gear. MayCycle (driver_of g.G.Guest.sound gear) c.args.freewheel) (sym c.self.view_is) c.requires

    turned : (plan : Planned) × (moment : Moment) × Turns g.G.Guest.sound c.args.freewheel c.self.inside.works plan moment c.turn.new.self
    turned = ok-held c.turn.result ((plan : Planned) × (moment : Moment) × Turns g.G.Guest.sound c.args.freewheel c.self.inside.works plan moment c.turn.new.self) c.if-is_err.ensures.value c.turn.ensures.turned

    is : IsGear g.G.Guest.sound (with_playback c.self.inside.works c.self.inside.playback)
    is = IsGear-playback g.G.Guest.sound c.self.inside.works c.self.inside.playback c.turn.ensures.stands.0

    turns : Turns g.G.Guest.sound c.args.freewheel (with_playback c.self.inside.works c.self.inside.playback) turned.0 turned.1 (record c.turn.new.self { playback = (Some c.play_back.new.file); failed = true })
    turns = Turns-playback g.G.Guest.sound c.args.freewheel c.self.inside.works turned.0 turned.1 c.turn.new.self turned.2 c.self.inside.playback (Some c.play_back.new.file) true

    steps : StepsOnce (driver_of g.G.Guest.sound (with_playback c.self.inside.works c.self.inside.playback)) (driver_of g.G.Guest.sound (record c.turn.new.self { playback = (Some c.play_back.new.file); failed = true }))
    steps = c.a_cycle_is_a_step.ensures g.G.Guest.sound c.args.freewheel (with_playback c.self.inside.works c.self.inside.playback) (record c.turn.new.self { playback = (Some c.play_back.new.file); failed = true }) turned.0 turned.1 is may turns

    plays : (left : List ℤ) (course : Course) → Fits (driver_of g.G.Guest.sound (record c.turn.new.self { playback = (Some c.play_back.new.file); failed = true })) course → Keeps (driver_of g.G.Guest.sound (with_playback c.self.inside.works c.self.inside.playback)) course → (driver_of g.G.Guest.sound (with_playback c.self.inside.works c.self.inside.playback)).left ≡ Some left → PlaysOwn (driver_of g.G.Guest.sound (with_playback c.self.inside.works c.self.inside.playback)) (driver_of g.G.Guest.sound (record c.turn.new.self { playback = (Some c.play_back.new.file); failed = true })) left
    plays = c.a_cycle_plays_its_own.ensures g.G.Guest.sound c.args.freewheel (with_playback c.self.inside.works c.self.inside.playback) (record c.turn.new.self { playback = (Some c.play_back.new.file); failed = true }) turned.0 turned.1 is may turns

    mixes : (left : List ℤ) → (driver_of g.G.Guest.sound (with_playback c.self.inside.works c.self.inside.playback)).left ≡ Some left → mixed c.turn.new.self c.self.inside.mix.channels ≡ played_now (driver_of g.G.Guest.sound (with_playback c.self.inside.works c.self.inside.playback)) (driver_of g.G.Guest.sound (record c.turn.new.self { playback = (Some c.play_back.new.file); failed = true })) left
    mixes left told = ap (mixed c.turn.new.self) c.self.invariant.channels ∙ mixed-turned g.G.Guest.sound c.args.freewheel c.self.inside.works turned.0 turned.1 c.turn.new.self turned.2 ∙ c.a_mix_is_played.ensures g.G.Guest.sound c.args.freewheel (with_playback c.self.inside.works c.self.inside.playback) (record c.turn.new.self { playback = (Some c.play_back.new.file); failed = true }) turned.0 turned.1 is may turns left told

    was : c.self.inside.playback ≡ Some c.in-Some.file
    was = c.in-Some.is

    front : (samples : List ℤ) → HasSamples c.in-Some.file samples → HasUnfinished c.in-Some.file.format (samples ++ (mixed c.turn.new.self c.self.inside.mix.channels)) c.play_back.new.file.bytes
    front = err-held c.play_back.result ((samples : List ℤ) → HasSamples c.in-Some.file samples → HasUnfinished c.in-Some.file.format (samples ++ (mixed c.turn.new.self c.self.inside.mix.channels)) c.play_back.new.file.bytes) c.if-is_err-2.ensures.value c.play_back.ensures.front

pub returns-then-is_err-2-clause-write_cause : goal.returns-then-is_err-2-clause-write_cause
returns-then-is_err-2-clause-write_cause g c is_write = (
  c.in-Some.file,
  c.play_back.new.file,
  ap (λ (gear : Gear). gear.playback) (sym c.self.view_is) ∙ c.in-Some.is,
  refl,
  c.play_back.ensures.file,
  err-held c.play_back.result (Rose c.in-Some.file.faults c.play_back.new.file.faults) c.if-is_err-2.ensures.value c.play_back.ensures.cause.failed,
)

pub invariant_of-self-else-is_err-2 : goal.invariant_of-self-else-is_err-2
invariant_of-self-else-is_err-2 g c = record {
  lawful = subst IsScript (sym turned.2.script) c.self.invariant.lawful;
  channels = c.play_back.ensures.room.0 ∙ c.self.invariant.channels ∙ ap (λ (s : Script). s.header.playback) (sym turned.2.script);
  room = c.play_back.ensures.room.1 ∙ c.self.invariant.room ∙ ap greatest_period (sym turned.2.script);
  format = c.self.invariant.format ∙ ap playback_format (sym turned.2.script);
  file = λ sound. file-next g.G.Guest.sound (with_playback c.self.inside.works c.self.inside.playback) (with_playback c.turn.new.self (Some c.play_back.new.file)) c.in-Some.file c.play_back.new.file turned.2.script frames own c.play_back.ensures.file.format (subst (λ n. c.play_back.new.file.written ≤ n) more (let same = written in omega (arith, same)));
}
  where
    may : MayCycle (driver_of g.G.Guest.sound (with_playback c.self.inside.works c.self.inside.playback)) c.args.freewheel
    may = subst (λ gear. MayCycle (driver_of g.G.Guest.sound gear) c.args.freewheel) (sym c.self.view_is) c.requires

    turned : (plan : Planned) × (moment : Moment) × Turns g.G.Guest.sound c.args.freewheel c.self.inside.works plan moment c.turn.new.self
    turned = ok-held c.turn.result ((plan : Planned) × (moment : Moment) × Turns g.G.Guest.sound c.args.freewheel c.self.inside.works plan moment c.turn.new.self) c.if-is_err.ensures.value c.turn.ensures.turned

    is : IsGear g.G.Guest.sound (with_playback c.self.inside.works c.self.inside.playback)
    is = IsGear-playback g.G.Guest.sound c.self.inside.works c.self.inside.playback c.turn.ensures.stands.0

    turns : Turns g.G.Guest.sound c.args.freewheel (with_playback c.self.inside.works c.self.inside.playback) turned.0 turned.1 (with_playback c.turn.new.self (Some c.play_back.new.file))
    turns = Turns-playback g.G.Guest.sound c.args.freewheel c.self.inside.works turned.0 turned.1 c.turn.new.self turned.2 c.self.inside.playback (Some c.play_back.new.file) c.turn.new.self.failed

    frames : frames_run (driver_of g.G.Guest.sound (with_playback c.turn.new.self (Some c.play_back.new.file))) ≡ frames_run (driver_of g.G.Guest.sound (with_playback c.self.inside.works c.self.inside.playback)) + c.self.inside.works.set
    frames = frames-is g.G.Guest.sound c.args.freewheel (with_playback c.self.inside.works c.self.inside.playback) (with_playback c.turn.new.self (Some c.play_back.new.file)) turned.0 turned.1 is may turns

    was : c.self.inside.playback ≡ Some c.in-Some.file
    was = c.in-Some.is

    own : IsOwnFile g.G.Guest.sound (with_playback c.self.inside.works c.self.inside.playback) c.in-Some.file
    own = subst (λ o. IfSome o (IsOwnFile g.G.Guest.sound (with_playback c.self.inside.works c.self.inside.playback))) was (c.self.invariant.file may.sound)

    written : c.play_back.new.file.written ≡ c.in-Some.file.written + c.turn.new.self.set * c.self.inside.mix.channels * width c.in-Some.file.format.bits
    written = ok-held c.play_back.result (c.play_back.new.file.written ≡ c.in-Some.file.written + c.turn.new.self.set * c.self.inside.mix.channels * width c.in-Some.file.format.bits) c.if-is_err-2.ensures.value c.play_back.ensures.written

    more : c.in-Some.file.written + c.turn.new.self.set * c.self.inside.mix.channels * width c.in-Some.file.format.bits ≡ c.in-Some.file.written + c.self.inside.works.set * c.self.inside.works.script.header.playback * width c.self.inside.works.script.header.bits
    more =
        ap (λ set. c.in-Some.file.written + set * c.self.inside.mix.channels * width c.in-Some.file.format.bits) turned.2.set
        ∙ ap (λ channels. c.in-Some.file.written + c.self.inside.works.set * channels * width c.in-Some.file.format.bits) c.self.invariant.channels
        ∙ ap (λ bits. c.in-Some.file.written + c.self.inside.works.set * c.self.inside.works.script.header.playback * width bits) (ap (λ f. f.bits) own.format)

pub returns-clause-ok : goal.returns-clause-ok
returns-clause-ok g c =
    subst (λ gear. CyclesOnce (driver_of g.G.Guest.sound gear) (driver_of g.G.Guest.sound (with_playback c.turn.new.self (Some c.play_back.new.file)))) c.self.view_is
    (c.steps_that_play_are_a_cycle.ensures.ok (driver_of g.G.Guest.sound (with_playback c.self.inside.works c.self.inside.playback)) (driver_of g.G.Guest.sound (with_playback c.turn.new.self (Some c.play_back.new.file))) steps
    (writes-file g.G.Guest.sound (with_playback c.self.inside.works c.self.inside.playback) (with_playback c.turn.new.self (Some c.play_back.new.file)) c.args.freewheel may (c.turn.ensures.sound ∙ sym c.if-is_err.ensures.value ∙ sym may.sound) c.if-freewheel.false c.in-Some.file c.play_back.new.file was refl c.play_back.ensures.file (c.play_back.ensures.stopped ∙ sym c.if-is_err-2.ensures.value))
    (λ left course fits keeps told. (plays left course fits keeps told, λ run samples has. subst (λ xs. HasSamples c.play_back.new.file (samples ++ xs)) (mixes left told) (more samples (subst (λ o. HasTape o samples) was has)))))
  where
    may : MayCycle (driver_of g.G.Guest.sound (with_playback c.self.inside.works c.self.inside.playback)) c.args.freewheel
    may = subst (λ gear. MayCycle (driver_of g.G.Guest.sound gear) c.args.freewheel) (sym c.self.view_is) c.requires

    turned : (plan : Planned) × (moment : Moment) × Turns g.G.Guest.sound c.args.freewheel c.self.inside.works plan moment c.turn.new.self
    turned = ok-held c.turn.result ((plan : Planned) × (moment : Moment) × Turns g.G.Guest.sound c.args.freewheel c.self.inside.works plan moment c.turn.new.self) c.if-is_err.ensures.value c.turn.ensures.turned

    is : IsGear g.G.Guest.sound (with_playback c.self.inside.works c.self.inside.playback)
    is = IsGear-playback g.G.Guest.sound c.self.inside.works c.self.inside.playback c.turn.ensures.stands.0

    turns : Turns g.G.Guest.sound c.args.freewheel (with_playback c.self.inside.works c.self.inside.playback) turned.0 turned.1 (with_playback c.turn.new.self (Some c.play_back.new.file))
    turns = Turns-playback g.G.Guest.sound c.args.freewheel c.self.inside.works turned.0 turned.1 c.turn.new.self turned.2 c.self.inside.playback (Some c.play_back.new.file) c.turn.new.self.failed

    steps : StepsOnce (driver_of g.G.Guest.sound (with_playback c.self.inside.works c.self.inside.playback)) (driver_of g.G.Guest.sound (with_playback c.turn.new.self (Some c.play_back.new.file)))
    steps = c.a_cycle_is_a_step.ensures g.G.Guest.sound c.args.freewheel (with_playback c.self.inside.works c.self.inside.playback) (with_playback c.turn.new.self (Some c.play_back.new.file)) turned.0 turned.1 is may turns

    plays : (left : List ℤ) (course : Course) → Fits (driver_of g.G.Guest.sound (with_playback c.turn.new.self (Some c.play_back.new.file))) course → Keeps (driver_of g.G.Guest.sound (with_playback c.self.inside.works c.self.inside.playback)) course → (driver_of g.G.Guest.sound (with_playback c.self.inside.works c.self.inside.playback)).left ≡ Some left → PlaysOwn (driver_of g.G.Guest.sound (with_playback c.self.inside.works c.self.inside.playback)) (driver_of g.G.Guest.sound (with_playback c.turn.new.self (Some c.play_back.new.file))) left
    plays = c.a_cycle_plays_its_own.ensures g.G.Guest.sound c.args.freewheel (with_playback c.self.inside.works c.self.inside.playback) (with_playback c.turn.new.self (Some c.play_back.new.file)) turned.0 turned.1 is may turns

    mixes : (left : List ℤ) → (driver_of g.G.Guest.sound (with_playback c.self.inside.works c.self.inside.playback)).left ≡ Some left → mixed c.turn.new.self c.self.inside.mix.channels ≡ played_now (driver_of g.G.Guest.sound (with_playback c.self.inside.works c.self.inside.playback)) (driver_of g.G.Guest.sound (with_playback c.turn.new.self (Some c.play_back.new.file))) left
    mixes left told = ap (mixed c.turn.new.self) c.self.invariant.channels ∙ mixed-turned g.G.Guest.sound c.args.freewheel c.self.inside.works turned.0 turned.1 c.turn.new.self turned.2 ∙ c.a_mix_is_played.ensures g.G.Guest.sound c.args.freewheel (with_playback c.self.inside.works c.self.inside.playback) (with_playback c.turn.new.self (Some c.play_back.new.file)) turned.0 turned.1 is may turns left told

    was : c.self.inside.playback ≡ Some c.in-Some.file
    was = c.in-Some.is

    more : (samples : List ℤ) → HasSamples c.in-Some.file samples → HasSamples c.play_back.new.file (samples ++ (mixed c.turn.new.self c.self.inside.mix.channels))
    more = ok-held c.play_back.result ((samples : List ℤ) → HasSamples c.in-Some.file samples → HasSamples c.play_back.new.file (samples ++ (mixed c.turn.new.self c.self.inside.mix.channels))) c.if-is_err-2.ensures.value c.play_back.ensures.samples
