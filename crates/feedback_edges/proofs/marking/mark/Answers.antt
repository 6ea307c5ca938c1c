use Rattle.std.proofs.Common.{true, false, sym, ◌∙◌, true≢false}
use Rattle.connection_set.specs.session_model.specs.Ids.{connections, node_links}
use Rattle.connection_set.specs.session_model.specs.Loops.{closes_loop}
use Rattle.feedback_edges.proofs.NameLemmas.{marked, closes_loop-by_name}
use Rattle.feedback_edges.proofs.marking.mark.Goals as goal

pub returns-then-leads-clause-names : goal.returns-then-leads-clause-names
returns-then-leads-clause-names c = λ named p q out into.
    marked (node_links c.args.ports.now c.args.edges.now) c.args.destination.node c.args.source.node
    (closes_loop (connections c.args.ports.now c.args.edges.now) c.args.source.name c.args.destination.name) false
    (closes_loop-by_name c.args.ports.now c.args.edges.now named c.args.source c.args.destination p q out into)
    (λ e. c.leads.ensures.0 c.if-leads.true) (λ e h. true≢false (sym e))

pub returns-else-leads-clause-names : goal.returns-else-leads-clause-names
returns-else-leads-clause-names c = λ named p q out into.
    marked (node_links c.args.ports.now c.args.edges.now) c.args.destination.node c.args.source.node
    (closes_loop (connections c.args.ports.now c.args.edges.now) c.args.source.name c.args.destination.name) true
    (closes_loop-by_name c.args.ports.now c.args.edges.now named c.args.source c.args.destination p q out into)
    (λ e. absurd (true≢false e)) (λ e h. true≢false (sym (c.leads.ensures.1 h) ∙ c.if-leads.false))
