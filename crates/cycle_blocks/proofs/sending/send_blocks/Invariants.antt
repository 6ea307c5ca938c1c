use Rattle.port_registry.specs.Registered.{open_clients}
use Rattle.cycle_blocks.specs.Steps.{SendsFirst}
use Rattle.cycle_blocks.proofs.sending.send_blocks.Given as goal

abbrev pub invariant-loop-recorder : goal.invariant-loop-recorder
invariant-loop-recorder g l = SendsFirst l.rack (open_clients l.nodes) l.cycle l.period l.recorder l.fn.rings l.rings
