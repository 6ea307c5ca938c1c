use Rattle.std.proofs.Common.{Err, ap}
use Rattle.driver_laws.specs.Drivers.{Driver}
use Rattle.cycle_driver.specs.Gears.{driver_of}
use Rattle.cycle_driver.proofs.RunLemmas.{rings-none, rings-stepped}
use Rattle.session_works.proofs.PairedLemmas.{disks-same, disks-stepped}
use Rattle.session_works.proofs.cycles.step.Goals as goal

pub returns-in-Ok-clause-rings : goal.returns-in-Ok-clause-rings
returns-in-Ok-clause-rings g c = rings-stepped (driver_of g.G.Guest.sound c.args.driver.now) (driver_of g.G.Guest.sound c.cycle.new.self) c.in-Ok.ensures.ok.steps

pub returns-in-Err-Read-clause-rings : goal.returns-in-Err-Read-clause-rings
returns-in-Err-Read-clause-rings g c =
    rings-none (driver_of g.G.Guest.sound c.args.driver.now) (driver_of g.G.Guest.sound c.cycle.new.self) (ap (λ (d : Driver). d.rings) (c.in-Err-Read.ensures.read (ap Err c.in-Err-Read.field-0-is)).same)

pub returns-in-Err-Write-clause-rings : goal.returns-in-Err-Write-clause-rings
returns-in-Err-Write-clause-rings g c = rings-stepped (driver_of g.G.Guest.sound c.args.driver.now) (driver_of g.G.Guest.sound c.cycle.new.self) (c.in-Err-Write.ensures.write (ap Err c.in-Err-Write.field-0-is)).steps

pub returns-in-Ok-clause-disks : goal.returns-in-Ok-clause-disks
returns-in-Ok-clause-disks g c players = disks-stepped g.G.Guest.sound c.args.driver.now c.cycle.new.self players c.in-Ok.ensures.ok.steps

pub returns-in-Err-Read-clause-disks : goal.returns-in-Err-Read-clause-disks
returns-in-Err-Read-clause-disks g c players =
    disks-same c.args.driver.now c.cycle.new.self players (ap (λ (d : Driver). d.disks) (c.in-Err-Read.ensures.read (ap Err c.in-Err-Read.field-0-is)).same)

pub returns-in-Err-Write-clause-disks : goal.returns-in-Err-Write-clause-disks
returns-in-Err-Write-clause-disks g c players = disks-stepped g.G.Guest.sound c.args.driver.now c.cycle.new.self players (c.in-Err-Write.ensures.write (ap Err c.in-Err-Write.field-0-is)).steps
