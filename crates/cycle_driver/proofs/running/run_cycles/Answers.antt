use Rattle.std.proofs.Common.{arith, ◌≡◌, ◌+◌, suc, Err, length, sym, ◌∙◌, ap, subst}
use Rattle.std.proofs.lemmas.Option.{same_Some}
use Rattle.session_model.specs.Scripts.{Script}
use Rattle.driver_words.specs.Tapes.{SameFile, Tape}
use Rattle.wave_pcm.specs.Readings.{SameReading}
use Rattle.cycle_driver.specs.Gears.{Gear, driver_of}
use Rattle.driver_laws.specs.Cycling.{CyclesMany, MayCycle}
use Rattle.driver_laws.specs.Drivers.{Driver, run}
use Rattle.cycle_driver.specs.Runs.{IsGoing, StaysInRun}
use Rattle.cycle_driver.proofs.RunLemmas.{by-fault, going-next, may-next, reading-then, run-next, stays-ran, stays-then, stays-unread, stays-unwritten}
use Rattle.cycle_driver.proofs.running.run_cycles.Goals as goal

pub give_way-rest-requires : goal.give_way-rest-requires
give_way-rest-requires g c =
    let inv = c.loop-cycle.invariant in
    record {
      all = inv.stays.rings.as_many ∙ c.requires.many;
      all_disks = inv.going.rings.disks ∙ ap (λ (s : Script). length s.header.disks) inv.stays.script ∙ sym c.requires.going.rings.disks ∙ c.requires.many_disks;
    }

pub cycle-requires-after_bounds : goal.cycle-requires-after_bounds
cycle-requires-after_bounds g c κs within =
    let inv = c.loop-cycle.invariant in
    subst (λ (d : Gear). MayCycle (driver_of g.G.Guest.sound d) c.args.freewheel) (sym c.give_way-rest.ensures)
    (may-next (driver_of g.G.Guest.sound c.args.driver.now) (driver_of g.G.Guest.sound c.loop-cycle.driver) c.args.cycles c.loop-cycle.cycle c.args.freewheel c.requires.next inv.going c.loop-cycle-test.true inv.count inv.stays.script inv.stays.set)

pub loop-cycle-preserved : goal.loop-cycle-preserved
loop-cycle-preserved g c =
    let inv = c.loop-cycle.invariant in let once = c.in-Ok.ensures.ok in let first : Driver = driver_of g.G.Guest.sound c.args.driver.now in let before : Driver = driver_of g.G.Guest.sound c.give_way-rest.new.driver in let after : Driver = driver_of g.G.Guest.sound c.cycle.new.self in
    let is : driver_of g.G.Guest.sound c.loop-cycle.driver ≡ before = sym (ap (driver_of g.G.Guest.sound) c.give_way-rest.ensures) in
    let count = inv.count in let same : run (driver_of g.G.Guest.sound c.loop-cycle.driver) ≡ run before = ap run is in let more = run-next before after once in let going = subst IsGoing is inv.going in
    record {
      ran = subst (λ n. CyclesMany n first after) (let e : suc c.loop-cycle.cycle ≡ c.loop-cycle.cycle + 1 = omega arith in e) (before, subst (CyclesMany c.loop-cycle.cycle first) is inv.ran, once);
      going = going-next before after going once;
      count = omega (arith, count, same, more);
      stays = stays-then first before after (subst (StaysInRun first) is inv.stays) (stays-ran before after going once);
      capture = reading-then _ _ _ inv.capture (subst (λ (d : Gear). SameReading d.capture.reading c.cycle.new.self.capture.reading) c.give_way-rest.ensures c.cycle.ensures.capture);
    }

pub returns-in-Err-clause-stays : goal.returns-in-Err-clause-stays
returns-in-Err-clause-stays g c =
    let inv = c.loop-cycle.invariant in let first : Driver = driver_of g.G.Guest.sound c.args.driver.now in let before : Driver = driver_of g.G.Guest.sound c.give_way-rest.new.driver in let after : Driver = driver_of g.G.Guest.sound c.cycle.new.self in
    let is : driver_of g.G.Guest.sound c.loop-cycle.driver ≡ before = sym (ap (driver_of g.G.Guest.sound) c.give_way-rest.ensures) in let going = subst IsGoing is inv.going in let stays = subst (StaysInRun first) is inv.stays in
    by-fault c.in-Err.fault
    (λ fault. stays-then first before after stays (stays-unread before after going (c.in-Err.ensures.read (ap Err fault))))
    (λ fault. let cause = c.in-Err.ensures.write_cause (ap Err fault) in stays-then first before after stays (stays-unwritten before after cause.0 cause.1 going (c.in-Err.ensures.write (ap Err fault)) cause.2 cause.3 cause.4))

pub returns-in-Err-clause-write : goal.returns-in-Err-clause-write
returns-in-Err-clause-write g c fault =
    let cause = c.in-Err.ensures.write_cause fault in let first : Driver = driver_of g.G.Guest.sound c.args.driver.now in (
      c.loop-cycle.cycle,
      c.loop-cycle-test.true,
      driver_of g.G.Guest.sound c.give_way-rest.new.driver,
      subst (CyclesMany c.loop-cycle.cycle first) (sym (ap (driver_of g.G.Guest.sound) c.give_way-rest.ensures)) c.loop-cycle.invariant.ran,
      record {
        fails = c.in-Err.ensures.write fault;
        file = λ tape tape_after was now. subst (λ (t : Tape). SameFile t tape_after) (same_Some cause.0 tape (sym cause.2 ∙ was)) (subst (λ (t : Tape). SameFile cause.0 t) (same_Some cause.1 tape_after (sym cause.3 ∙ now)) cause.4);
      },
    )
