use Rattle.feedback_edges.proofs.TableLemmas.{sources_below, destinations_below, leads_both}
use Rattle.feedback_edges.proofs.marking.leads.Goals as goal

pub leads_between-requires-clause-sources : goal.leads_between-requires-clause-sources
leads_between-requires-clause-sources c = sources_below c.args.ports.now c.args.edges.now c.requires.among

pub leads_between-requires-clause-destinations : goal.leads_between-requires-clause-destinations
leads_between-requires-clause-destinations c = destinations_below c.args.ports.now c.args.edges.now c.requires.among

pub returns : goal.returns
returns c = leads_both c.args.ports.now c.args.edges.now c.node_table.result c.args.from c.args.to c.number_of.result c.number_of-2.result c.leads_between.result c.requires.among c.node_table.ensures.table c.number_of.ensures c.number_of-2.ensures c.leads_between.ensures
