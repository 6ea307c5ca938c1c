use Rattle.std.proofs.Common.{◌+◌, length}
use Rattle.port_registry.specs.Registered.{open_clients}
use Rattle.plan_transport.specs.driver_laws.specs.Playing.{last_number}
use Rattle.cycle_laws.specs.Gears.{driver_of}
use Rattle.cycle_laws.proofs.StepLemmas.{StepsOnce-turned}
use Rattle.cycle_laws.proofs.gears.a_cycle_is_a_step.Goals as goal

pub returns : goal.returns
returns c sounding freewheel before after plan moment is may turned =
    StepsOnce-turned sounding freewheel before after plan moment is may turned
    (c.calls_have_targets.ensures.adopted before.script plan.changes (last_number (driver_of sounding before)) is.lawful)
    (c.a_cycle_gets_one_block_of_each_ring.ensures (open_clients plan.nodes) (length before.numbers + 1) before.disks after.disks turned.gets)
    (c.a_cycle_leaves_the_disks_ready.ensures.periods (open_clients plan.nodes) (length before.numbers + 1) before.disks after.disks turned.gets)
