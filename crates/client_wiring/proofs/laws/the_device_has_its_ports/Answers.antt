use Rattle.client_wiring.proofs.DeviceLemmas.{capture_ports, playback_ports}
use Rattle.client_wiring.proofs.laws.the_device_has_its_ports.Goals as goal

pub returns-clause-capture : goal.returns-clause-capture
returns-clause-capture c = capture_ports

pub returns-clause-playback : goal.returns-clause-playback
returns-clause-playback c = playback_ports
