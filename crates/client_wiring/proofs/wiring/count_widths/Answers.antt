use Rattle.std.proofs.Common.{◌≤◌, ◌∙◌, ap, map, subst, sym}
use Rattle.jack_types.specs.declared.ports.Client.{Client}
use Rattle.client_wiring.specs.Tables.{widths_by}
use Rattle.client_wiring.proofs.EndLemmas.{low-client, widths-named}
use Rattle.client_wiring.proofs.ListLemmas.{taken-whole}
use Rattle.client_wiring.proofs.wiring.count_widths.Goals as goal

pub widths_of-requires : goal.widths_of-requires
widths_of-requires c =
    subst (λ (client : Client). client.id.0 ≤ 64) (sym c.client-item.is)
    (low-client c.args.plan.now c.nodes-client-items.ensures.planned c.nodes-client-items.result.now c.nodes-client-items.ensures.value c.loop-client.client-index c.client-item.result c.loop-client-test.true)

pub returns-clause-widths : goal.returns-clause-widths
returns-clause-widths c =
    c.loop-client.invariant.widths
    ∙ ap (map (widths_by c.args.counts.now))
    (taken-whole c.nodes-client-items.result.now c.args.plan.now.nodes c.loop-client.client-index c.nodes-client-items.ensures.value c.loop-client-test.false c.loop-client.auto.client-index-end)
    ∙ widths-named c.args.plan.now c.nodes-client-items.ensures.planned c.args.counts.now c.requires.counts
