use Rattle.std.proofs.Common.{◌≡◌, ◌+◌, ◌≤◌, length, arith}
use Rattle.plan_transport.specs.driver_laws.specs.Drivers.{turn_of}
use Rattle.cycle_laws.proofs.MayLemmas.{MayGet-gear, MaySend-gear, cycles-gear, frames-gear, later}
use Rattle.cycle_laws.proofs.gears.a_cycle_may_be_played.Goals as goal

pub returns-clause-sends : goal.returns-clause-sends
returns-clause-sends c sounding gear freewheel is may =
    MaySend-gear sounding gear freewheel is may (c.cycles_are_few.ensures gear.script is.lawful)
    (c.periods_are_in_range.ensures.within gear.script (length gear.numbers) may.left)
    (λ recorder. c.samples_are_few.ensures.recorders (later sounding gear) recorder is.lawful)

pub returns-clause-disks : goal.returns-clause-disks
returns-clause-disks c sounding gear freewheel is may = MayGet-gear sounding gear freewheel is may

pub returns-clause-cycles : goal.returns-clause-cycles
returns-clause-cycles c sounding gear freewheel is may = cycles-gear sounding gear freewheel is may (c.cycles_are_few.ensures gear.script is.lawful)

pub returns-clause-frames : goal.returns-clause-frames
returns-clause-frames c sounding gear freewheel is may = frames-gear sounding gear freewheel is may (c.samples_are_few.ensures.capture (later sounding gear) is.lawful)

pub returns-clause-period : goal.returns-clause-period
returns-clause-period c sounding gear freewheel is may =
    let set : (turn_of gear.script (length gear.numbers + 1)).period ≡ gear.set = may.period_is in
    let some : 4 ≤ (turn_of gear.script (length gear.numbers + 1)).period = c.periods_are_in_range.ensures.some gear.script (length gear.numbers) is.lawful may.left in
    let most : (turn_of gear.script (length gear.numbers + 1)).period ≤ 4096 = c.periods_are_in_range.ensures.most gear.script (length gear.numbers) is.lawful may.left in
    (omega (arith, set, some), omega (arith, set, most))
