use Rattle.std.proofs.Common.{◌≤◌, ◌∙◌, ◌↔◌, ℕ, false, ap, get_or, insert, length, subst, arith}
use Rattle.std.specs.List.{position_or_len}
use Rattle.graph_word.specs.jack_types.specs.declared.ports.Client.{Client}
use Rattle.graph_word.specs.session_model.specs.Loops.{Leads}
use Rattle.feedback_edges.specs.Search.{IsMarked, number_links}
use Rattle.cycle_plan.specs.Searching.{client_number}
use Rattle.cycle_plan.proofs.NodeLemmas.{place-within, placed}
use Rattle.cycle_plan.proofs.nodes.place_client.Goals as goal

pub insert-requires : goal.insert-requires
insert-requires c =
    let at : c.first_marked-place.result ≤ length c.deref.result.now =
    rw c.first_marked-place.ensures (place-within (λ (client : Client). get_or c.reached-marked.result (client_number client) false) c.deref.result.now) in
    omega (arith, at, c.deref.ensures.len)

pub returns-clause-nodes : goal.returns-clause-nodes
returns-clause-nodes c =
    let told : (n : ℕ) → IsMarked c.reached-marked.result n ↔ Leads (number_links c.args.table.now c.args.edges.now) (client_number c.args.client.now) n =
    λ n. subst (λ k. IsMarked c.reached-marked.result n ↔ Leads (number_links c.args.table.now c.args.edges.now) k n) c.number_of_client.ensures (c.reached-marked.ensures n) in
    c.in-Ok.ensures.items
    ∙ ap (λ k. insert c.args.nodes.now.items k c.args.client.now)
    (c.first_marked-place.ensures ∙ ap (position_or_len (λ (client : Client). get_or c.reached-marked.result (client_number client) false)) c.deref.ensures.value)
    ∙ placed c.args.table.now c.args.edges.now c.args.client.now c.reached-marked.result c.args.nodes.now.items told
