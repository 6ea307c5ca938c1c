use Rattle.std.proofs.Common.{◌≡◌, length, true}
use Rattle.port_registry.specs.Registered.{open_clients}
use Rattle.plan_transport.specs.driver_laws.specs.Keeping.{AreOfCalls}
use Rattle.cycle_laws.specs.Gears.{StandsOn}
use Rattle.cycle_laws.proofs.PartLemmas.{IsGear-turned, guests-are, kinds-is, logs-are, staffed-is, stands-is}
use Rattle.cycle_laws.proofs.gears.a_cycle_leaves_the_parts.Goals as goal

pub returns : goal.returns
returns c sounding freewheel before after plan moment is may turned =
    IsGear-turned sounding freewheel before after plan moment is may turned
    (c.a_cycle_leaves_the_disks_ready.ensures.underruns (open_clients plan.nodes) (length before.numbers) before.disks after.disks turned.gets)
    (λ of. logs-are sounding freewheel before after plan moment is may turned of (c.all_have_their_benches.ensures sounding before is) (staffed of)
    (λ birth. c.memories_never_go.ensures sounding before.stage.staged before.stage.plan plan moment before.set after.capture.channels after.disks after.stage.staged birth is.stands))
  where
    stands : StandsOn after.stage.staged after.stage.plan
    stands = stands-is sounding freewheel before after plan moment is may turned

    staffed : AreOfCalls after.script after.stage.plan.changes → after.stage.staged.is_staffed ≡ true
    staffed of = staffed-is sounding freewheel before after plan moment is may turned
        (c.a_plan_of_a_scripts_calls_is_not_refused.ensures after.script after.stage.plan after.stage.staged.racked after.stage.staged.owned of stands.stands.planned stands.stands.seating stands.stands.known
        (kinds-is sounding freewheel before after plan moment is may turned) (guests-are sounding freewheel before after plan moment is may turned))
