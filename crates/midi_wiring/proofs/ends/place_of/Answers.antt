use Rattle.std.proofs.Common.{◌∙◌, ap, sym, true≢false}
use Rattle.jack_types.specs.declared.ports.Client.{Client}
use Rattle.jack_types.specs.declared.ports.Node.TheVariants.{Capture, Playback, Client as ClientNode}
use Rattle.session_model.specs.Ids.{same_id_node}
use Rattle.client_wiring.specs.Tables.{node_place}
use Rattle.midi_wiring.proofs.PortLemmas.{position-nowhere}
use Rattle.midi_wiring.proofs.ends.place_of.Goals as goal

pub returns-in-Capture : goal.returns-in-Capture
returns-in-Capture c =
    sym (ap (node_place c.args.nodes.now) c.in-Capture.is
    ∙ position-nowhere (λ (client : Client). same_id_node Capture (ClientNode client.id)) c.args.nodes.now (λ client m t. true≢false (sym t)))

pub returns-in-Playback : goal.returns-in-Playback
returns-in-Playback c =
    sym (ap (node_place c.args.nodes.now) c.in-Playback.is
    ∙ position-nowhere (λ (client : Client). same_id_node Playback (ClientNode client.id)) c.args.nodes.now (λ client m t. true≢false (sym t)))
