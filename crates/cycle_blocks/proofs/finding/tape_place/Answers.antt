use Rattle.std.proofs.Common.{sym, ◌∙◌, ap, arith}
use Rattle.std.proofs.lemmas.List.{length-map}
use Rattle.session_model.specs.Recorders.{is_tape}
use Rattle.session_model.specs.State.{OpenClient, system_client}
use Rattle.port_registry.specs.Registered.{open_client, open_clients}
use Rattle.cycle_blocks.proofs.FindLemmas.{position-first, position-none}
use Rattle.cycle_blocks.proofs.finding.tape_place.Goals as goal

pub returns-then-is_on : goal.returns-then-is_on
returns-then-is_on c =
    sym (position-first (λ (client : OpenClient). is_tape c.args.recorder client.kind) (open_clients c.args.nodes.now) c.loop-n.n system_client (omega (arith, c.loop-n-test.true, length-map c.args.nodes.now open_client))
    c.loop-n.invariant (ap (is_tape c.args.recorder) (sym c.kind_of.ensures) ∙ sym c.is_on.ensures ∙ c.if-is_on.true))

pub returns : goal.returns
returns c =
    sym (position-none (λ (client : OpenClient). is_tape c.args.recorder client.kind) (open_clients c.args.nodes.now) system_client
    (λ k low. c.loop-n.invariant k (omega (arith, low, c.loop-n-test.false, length-map c.args.nodes.now open_client))))
