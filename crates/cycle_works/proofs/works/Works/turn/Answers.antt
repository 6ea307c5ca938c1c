use Rattle.std.proofs.Common.{◌≡◌, ◌<◌, ◌≤◌, Bool, true, false, length, Option, None, sym, ◌∙◌, subst, arith}
use Rattle.std.specs.Prelude.{OnErr, OnOk}
use Rattle.std.specs.Vec.{vec_capacity}
use Rattle.jack_types.specs.declared.moments.Moment.{Moment}
use Rattle.session_model.specs.Scripts.{Script, turns}
use Rattle.midi_stage.specs.cycle_plan.specs.Plans.{Planned}
use Rattle.driver_words.specs.Tapes.{Tape}
use Rattle.midi_stage.specs.driver_laws.specs.Cycling.{MayCycle}
use Rattle.cycle_laws.specs.Gears.{IsGear, driver_of}
use Rattle.cycle_laws.specs.Turnings.{Turns}
use Rattle.cycle_works.specs.Gears.{FailsToRead, with_playback}
use Rattle.cycle_works.specs.Insides.{gear_of, script_in, seen_of}
use Rattle.cycle_works.proofs.FailedLemmas.{IsGear-failed}
use Rattle.cycle_works.proofs.PlaybackLemmas.{IsGear-playback}
use Rattle.cycle_works.proofs.ResultLemmas.{as-err, on-both, on-err, on-ok}
use Rattle.cycle_works.proofs.works.Works.turn.Goals as goal

pub turn-turned-requires-clause-may : goal.turn-turned-requires-clause-may
turn-turned-requires-clause-may g c κs within = asked
  where
    may : MayCycle (driver_of g.G.Guest.sound (with_playback (seen_of {S = g.row.S.Denot} {G = g.row.G.Denot} c.self.inside) c.requires.may.0)) c.args.freewheel
    may = subst (λ gear. MayCycle (driver_of g.G.Guest.sound (with_playback gear c.requires.may.0)) c.args.freewheel) (sym c.self.view_is) c.requires.may.1

    left : length c.self.inside.parts.numbers.items < length (turns (script_in c.self.inside.script.items))
    left = may.left

    numbers : length c.self.inside.parts.numbers.items < vec_capacity c.self.inside.parts.numbers
    numbers = let room = c.self.invariant.numbers in omega (arith, left, room)

    moments : length c.self.inside.parts.moments.items < vec_capacity c.self.inside.parts.moments
    moments =
        let room = c.self.invariant.moments in
        let same : length c.self.inside.parts.moments.items ≡ length c.self.inside.parts.numbers.items = (c.self.invariant.gear.in_step may.sound).moments in
        omega (arith, left, room, same)

    asked : (script : Script) × (playback : Option Tape) × (failed : Bool) × IsGear g.G.Guest.sound (gear_of {S = g.row.S.Denot} {G = g.row.G.Denot} script playback failed c.self.inside.parts) × MayCycle (driver_of g.G.Guest.sound (gear_of {S = g.row.S.Denot} {G = g.row.G.Denot} script playback failed c.self.inside.parts)) c.args.freewheel
        × (length c.self.inside.parts.numbers.items < vec_capacity c.self.inside.parts.numbers) × (length c.self.inside.parts.moments.items < vec_capacity c.self.inside.parts.moments) × (c.self.inside.parts.midi.script ≡ script)
    asked = (script_in c.self.inside.script.items, c.requires.may.0, c.self.inside.failed, IsGear-playback g.G.Guest.sound (seen_of {S = g.row.S.Denot} {G = g.row.G.Denot} c.self.inside) c.requires.may.0 c.self.invariant.gear, may, numbers, moments, c.self.invariant.midi_script)

pub invariant_of-self : goal.invariant_of-self
invariant_of-self g c = record {
  gear = behind;
  numbers = subst (λ n. length (turns (script_in c.self.inside.script.items)) ≤ n) (sym c.turn-turned.ensures.numbers) c.self.invariant.numbers;
  moments = subst (λ n. length (turns (script_in c.self.inside.script.items)) ≤ n) (sym c.turn-turned.ensures.moments) c.self.invariant.moments;
  midi_script = c.turn-turned.ensures.midi_script ∙ c.self.invariant.midi_script;
  midi_changes = c.turn-turned.ensures.midi_changes;
}
  where
    may : MayCycle (driver_of g.G.Guest.sound (with_playback (seen_of {S = g.row.S.Denot} {G = g.row.G.Denot} c.self.inside) c.requires.may.0)) c.args.freewheel
    may = subst (λ gear. MayCycle (driver_of g.G.Guest.sound (with_playback gear c.requires.may.0)) c.args.freewheel) (sym c.self.view_is) c.requires.may.1

    behind : IsGear g.G.Guest.sound (gear_of {S = g.row.S.Denot} {G = g.row.G.Denot} (script_in c.self.inside.script.items) None c.is_err-self-inside.result c.turn-turned.new.parts)
    behind = on-both c.turn-turned.result (λ failed. IsGear g.G.Guest.sound (gear_of {S = g.row.S.Denot} {G = g.row.G.Denot} (script_in c.self.inside.script.items) None failed c.turn-turned.new.parts)) c.is_err-self-inside.result c.is_err-self-inside.ensures.value
        (on-ok c.turn-turned.result ((plan : Planned) × (moment : Moment) × Turns g.G.Guest.sound c.args.freewheel (with_playback (seen_of {S = g.row.S.Denot} {G = g.row.G.Denot} c.self.inside) c.requires.may.0) plan moment (gear_of {S = g.row.S.Denot} {G = g.row.G.Denot} (script_in c.self.inside.script.items) None false c.turn-turned.new.parts)) (IsGear g.G.Guest.sound (gear_of {S = g.row.S.Denot} {G = g.row.G.Denot} (script_in c.self.inside.script.items) None false c.turn-turned.new.parts))
        (λ turned. c.a_cycle_leaves_the_parts.ensures g.G.Guest.sound c.args.freewheel (with_playback (seen_of {S = g.row.S.Denot} {G = g.row.G.Denot} c.self.inside) c.requires.may.0) (gear_of {S = g.row.S.Denot} {G = g.row.G.Denot} (script_in c.self.inside.script.items) None false c.turn-turned.new.parts) turned.0 turned.1 (IsGear-playback g.G.Guest.sound (seen_of {S = g.row.S.Denot} {G = g.row.G.Denot} c.self.inside) c.requires.may.0 c.self.invariant.gear) may turned.2)
        (c.turn-turned.ensures.turned (script_in c.self.inside.script.items) c.requires.may.0 None c.self.inside.failed false c.self.invariant.midi_script))
        (on-err c.turn-turned.result (FailsToRead (seen_of {S = g.row.S.Denot} {G = g.row.G.Denot} c.self.inside) (gear_of {S = g.row.S.Denot} {G = g.row.G.Denot} (script_in c.self.inside.script.items) None true c.turn-turned.new.parts)) (IsGear g.G.Guest.sound (gear_of {S = g.row.S.Denot} {G = g.row.G.Denot} (script_in c.self.inside.script.items) None true c.turn-turned.new.parts))
        (λ fails. IsGear-failed g.G.Guest.sound (seen_of {S = g.row.S.Denot} {G = g.row.G.Denot} c.self.inside) (gear_of {S = g.row.S.Denot} {G = g.row.G.Denot} (script_in c.self.inside.script.items) None true c.turn-turned.new.parts) c.args.freewheel c.requires.may.0 c.self.invariant.gear may fails c.turn-turned.ensures.same)
        (c.turn-turned.ensures.failed (script_in c.self.inside.script.items) None c.self.inside.failed))

pub returns-clause-turned : goal.returns-clause-turned
returns-clause-turned g c = subst (λ gear. OnOk c.turn-turned.result ((plan : Planned) × (moment : Moment) × Turns g.G.Guest.sound c.args.freewheel gear plan moment (gear_of {S = g.row.S.Denot} {G = g.row.G.Denot} (script_in c.self.inside.script.items) None c.is_err-self-inside.result c.turn-turned.new.parts))) c.self.view_is
    (c.turn-turned.ensures.turned (script_in c.self.inside.script.items) None None c.self.inside.failed c.is_err-self-inside.result c.self.invariant.midi_script)

pub returns-clause-failed : goal.returns-clause-failed
returns-clause-failed g c = subst (λ gear. OnErr c.turn-turned.result (FailsToRead gear (gear_of {S = g.row.S.Denot} {G = g.row.G.Denot} (script_in c.self.inside.script.items) None c.is_err-self-inside.result c.turn-turned.new.parts))) c.self.view_is
    (as-err c.turn-turned.result (λ failed. FailsToRead (seen_of {S = g.row.S.Denot} {G = g.row.G.Denot} c.self.inside) (gear_of {S = g.row.S.Denot} {G = g.row.G.Denot} (script_in c.self.inside.script.items) None failed c.turn-turned.new.parts)) c.is_err-self-inside.result c.is_err-self-inside.ensures.value (c.turn-turned.ensures.failed (script_in c.self.inside.script.items) None c.self.inside.failed))

pub returns-clause-stands : goal.returns-clause-stands
returns-clause-stands g c = (subst (λ gear. IsGear g.G.Guest.sound gear) c.self.view_is c.self.invariant.gear, behind)
  where
    may : MayCycle (driver_of g.G.Guest.sound (with_playback (seen_of {S = g.row.S.Denot} {G = g.row.G.Denot} c.self.inside) c.requires.may.0)) c.args.freewheel
    may = subst (λ gear. MayCycle (driver_of g.G.Guest.sound (with_playback gear c.requires.may.0)) c.args.freewheel) (sym c.self.view_is) c.requires.may.1

    behind : IsGear g.G.Guest.sound (gear_of {S = g.row.S.Denot} {G = g.row.G.Denot} (script_in c.self.inside.script.items) None c.is_err-self-inside.result c.turn-turned.new.parts)
    behind = on-both c.turn-turned.result (λ failed. IsGear g.G.Guest.sound (gear_of {S = g.row.S.Denot} {G = g.row.G.Denot} (script_in c.self.inside.script.items) None failed c.turn-turned.new.parts)) c.is_err-self-inside.result c.is_err-self-inside.ensures.value
        (on-ok c.turn-turned.result ((plan : Planned) × (moment : Moment) × Turns g.G.Guest.sound c.args.freewheel (with_playback (seen_of {S = g.row.S.Denot} {G = g.row.G.Denot} c.self.inside) c.requires.may.0) plan moment (gear_of {S = g.row.S.Denot} {G = g.row.G.Denot} (script_in c.self.inside.script.items) None false c.turn-turned.new.parts)) (IsGear g.G.Guest.sound (gear_of {S = g.row.S.Denot} {G = g.row.G.Denot} (script_in c.self.inside.script.items) None false c.turn-turned.new.parts))
        (λ turned. c.a_cycle_leaves_the_parts.ensures g.G.Guest.sound c.args.freewheel (with_playback (seen_of {S = g.row.S.Denot} {G = g.row.G.Denot} c.self.inside) c.requires.may.0) (gear_of {S = g.row.S.Denot} {G = g.row.G.Denot} (script_in c.self.inside.script.items) None false c.turn-turned.new.parts) turned.0 turned.1 (IsGear-playback g.G.Guest.sound (seen_of {S = g.row.S.Denot} {G = g.row.G.Denot} c.self.inside) c.requires.may.0 c.self.invariant.gear) may turned.2)
        (c.turn-turned.ensures.turned (script_in c.self.inside.script.items) c.requires.may.0 None c.self.inside.failed false c.self.invariant.midi_script))
        (on-err c.turn-turned.result (FailsToRead (seen_of {S = g.row.S.Denot} {G = g.row.G.Denot} c.self.inside) (gear_of {S = g.row.S.Denot} {G = g.row.G.Denot} (script_in c.self.inside.script.items) None true c.turn-turned.new.parts)) (IsGear g.G.Guest.sound (gear_of {S = g.row.S.Denot} {G = g.row.G.Denot} (script_in c.self.inside.script.items) None true c.turn-turned.new.parts))
        (λ fails. IsGear-failed g.G.Guest.sound (seen_of {S = g.row.S.Denot} {G = g.row.G.Denot} c.self.inside) (gear_of {S = g.row.S.Denot} {G = g.row.G.Denot} (script_in c.self.inside.script.items) None true c.turn-turned.new.parts) c.args.freewheel c.requires.may.0 c.self.invariant.gear may fails c.turn-turned.ensures.same)
        (c.turn-turned.ensures.failed (script_in c.self.inside.script.items) None c.self.inside.failed))
