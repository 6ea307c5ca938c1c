use Rattle.std.proofs.Common.{◌≡◌, ◌+◌, ◌++◌, length, map}
use Rattle.session_laws.specs.session_model.specs.Samples.{below}
use Rattle.port_registry.specs.Kept.{IsListed}
use Rattle.port_registry.specs.Registered.{system_port, unlisted}
use Rattle.port_registry.proofs.opening.add_device_ports.Given as goal

abbrev pub invariant-loop-channel : goal.invariant-loop-channel
invariant-loop-channel l = record {
  ports : map unlisted l.table.ports ≡ map unlisted l.initial.table.ports ++ map (system_port l.way) (below l.channel);
  long : length l.table.ports ≡ length l.initial.table.ports + l.channel;
  listed : IsListed l.table.ports l.list.items;
}
