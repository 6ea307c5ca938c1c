use Rattle.std.proofs.Common.{◌≡◌, ◌++◌, ◌∷◌, [], map, ◌∙◌, ap}
use Rattle.session_laws.specs.jack_types.specs.declared.ports.Port.{Port}
use Rattle.port_registry.specs.Registered.{system_port, unlisted}
use Rattle.port_registry.proofs.OpeningLemmas.{listed-more, long-more, IsListed-more}
use Rattle.port_registry.proofs.opening.add_device_ports.Goals as goal

pub loop-channel-preserved : goal.loop-channel-preserved
loop-channel-preserved c =
    let more : c.add.new.self.ports ≡ c.loop-channel.table.ports ++ (let p : Port = system_port c.args.way c.loop-channel.channel in record p { id = c.in_ok-id.id }) ∷ []
    = c.in_ok-id.ensures.added ∙ ap (λ (p : Port). c.loop-channel.table.ports ++ (record p { id = c.in_ok-id.id }) ∷ []) c.device_port.ensures in
    record {
      ports = listed-more c.args.way (map unlisted c.args.table.now.ports) c.loop-channel.channel c.loop-channel.table.ports c.in_ok-id.id c.add.new.self.ports more c.loop-channel.invariant.ports;
      long = long-more c.args.way (map unlisted c.args.table.now.ports) c.loop-channel.channel c.loop-channel.table.ports c.in_ok-id.id c.add.new.self.ports more _ c.loop-channel.invariant.long;
      listed = IsListed-more c.args.way (map unlisted c.args.table.now.ports) c.loop-channel.channel c.loop-channel.table.ports c.in_ok-id.id c.add.new.self.ports more _ _ c.loop-channel.invariant.listed c.in_ok-id.ensures.apart c.in_ok-id.ensures.below c.push.ensures.items;
    }
