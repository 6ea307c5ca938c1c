use Rattle.std.proofs.Common.{◌≡◌, true, false, get_or, arith, length, sym, subst}
use Rattle.std.proofs.lemmas.List.Sums.{position_or_len_is}
use Rattle.graph_word.specs.jack_types.specs.declared.ports.Client.{Client}
use Rattle.cycle_plan.specs.Searching.{client_number}
use Rattle.cycle_plan.proofs.NodeLemmas.{no_client}
use Rattle.cycle_plan.proofs.nodes.first_marked.Goals as goal

pub returns-then-marked-number_of_client : goal.returns-then-marked-number_of_client
returns-then-marked-number_of_client c =
    sym (position_or_len_is (λ (client : Client). get_or c.args.marked.now (client_number client) false) c.args.nodes.now c.loop-place.place c.index-nodes-place.result (omega arith)
    (λ k h. c.loop-place.invariant k c.index-nodes-place.result h)
    (λ h. subst (λ (x : Client). get_or c.args.marked.now (client_number x) false ≡ true) c.index-nodes-place.is
    (subst (λ n. get_or c.args.marked.now n false ≡ true) c.number_of_client.ensures c.if-marked-number_of_client.true)))

pub returns : goal.returns
returns c =
    sym (position_or_len_is (λ (client : Client). get_or c.args.marked.now (client_number client) false) c.args.nodes.now (length c.args.nodes.now) no_client (omega arith)
    (λ k h. c.loop-place.invariant k no_client (omega arith))
    (λ h. absurd (omega (arith, h))))
