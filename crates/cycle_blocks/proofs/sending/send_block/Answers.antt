use Rattle.std.proofs.Common.{Bool, List, [], ℤ, ℕ, Option, is_some, sym, ◌∙◌, ap, subst}
use Rattle.std.specs.Option.{option_map_or}
use Rattle.session_model.specs.Recorders.{is_tape}
use Rattle.session_model.specs.State.{OpenClient, system_client}
use Rattle.port_registry.specs.Registered.{open_clients}
use Rattle.recorder_rings.specs.Sending.{channels_at}
use Rattle.cycle_blocks.specs.Blocks.{block_by, heard_at, is_taped}
use Rattle.cycle_blocks.specs.Steps.{SendsOne}
use Rattle.cycle_blocks.proofs.FindLemmas.{found-placed}
use Rattle.cycle_blocks.proofs.SendLemmas.{idle-one}
use Rattle.cycle_blocks.proofs.sending.send_block.Goals as goal

pub returns-in-Some : goal.returns-in-Some
returns-in-Some g c =
    subst (λ (q : Bool × List ℤ). SendsOne q.0 q.1 c.args.cycle c.args.recorder c.args.rings.now c.send_from.new.rings)
    (λ i. (
      sym (found-placed (λ (client : OpenClient). is_tape c.args.recorder client.kind) (open_clients c.args.nodes.now) system_client ∙ ap is_some (sym c.in-Some.ensures)) i,
      ap (λ (o : Option ℕ). option_map_or (heard_at c.args.rack.now c.args.period (channels_at c.args.rings.now c.args.recorder)) o []) c.in-Some.ensures i,
    ))
    c.send_from.ensures

pub returns-in-None : goal.returns-in-None
returns-in-None g c =
    idle-one (is_taped (open_clients c.args.nodes.now) c.args.recorder) (block_by c.args.rack.now (open_clients c.args.nodes.now) c.args.period (channels_at c.args.rings.now c.args.recorder) c.args.recorder) c.args.cycle c.args.recorder c.args.rings.now
    (found-placed (λ (client : OpenClient). is_tape c.args.recorder client.kind) (open_clients c.args.nodes.now) system_client ∙ ap is_some (sym c.in-None.ensures))
