use Rattle.std.proofs.Common.{◌≡◌, ◌∙◌, List, ap, get_or, length, sym}
use Rattle.session_model.specs.Activation.{outgoing}
use Rattle.client_wiring.specs.declared.joints.Widths.{Widths}
use Rattle.client_tasks.specs.Tasks.{widths_at}
use Rattle.client_tasks.proofs.ListLemmas.{outgoing-counted}
use Rattle.client_tasks.proofs.turns.turn_of.Goals as goal

pub returns : goal.returns
returns c = λ i. record {
  moment = c.args.moment.now;
  ports = record { inputs = (widths i).inputs; outputs = (widths i).outputs; period = c.args.period };
  links = links i;
}
  where
    widths : get_or c.widths.result.now c.args.node (record { inputs = 0; outputs = 0 }) ≡ widths_at c.args.wiring.now c.args.node
    widths = ap (λ (list : List Widths). get_or list c.args.node (record { inputs = 0; outputs = 0 })) c.widths.ensures

    links : c.count_from.result ≡ length (outgoing c.args.links.now c.args.node)
    links = c.count_from.ensures.count ∙ sym (outgoing-counted c.args.links.now c.args.node)
