use Rattle.std.proofs.Common.{◌≡◌, ◌∙◌, IsPermutation, ap, arith, filter, filter_map, refl, subst, sym}
use Rattle.feedback_edges.proofs.TableLemmas.{sources_below, destinations_below}
use Rattle.cycle_plan.specs.Layouts.{distinct, is_player, leads_to, link_of, ordered}
use Rattle.cycle_plan.specs.Searching.{ArePlaces}
use Rattle.cycle_plan.proofs.LayoutLemmas.{AreLinks-laid_out, IsPermutation-ordered, joins_edges}
use Rattle.cycle_plan.proofs.TestLemmas.{ordered-same, links-same}
use Rattle.cycle_plan.proofs.layout.Layout.fill.Goals as goal

pub order_nodes-requires-clause-sources : goal.order_nodes-requires-clause-sources
order_nodes-requires-clause-sources c = sources_below c.args.ports.now c.args.edges.now c.requires.among

pub order_nodes-requires-clause-destinations : goal.order_nodes-requires-clause-destinations
order_nodes-requires-clause-destinations c = destinations_below c.args.ports.now c.args.edges.now c.requires.among

pub link_nodes-requires-clause-sources : goal.link_nodes-requires-clause-sources
link_nodes-requires-clause-sources c = sources_below c.args.ports.now c.args.edges.now c.requires.among

pub link_nodes-requires-clause-destinations : goal.link_nodes-requires-clause-destinations
link_nodes-requires-clause-destinations c = destinations_below c.args.ports.now c.args.edges.now c.requires.among

pub returns : goal.returns
returns c =
    let nodes : c.order_nodes.new.nodes.items ≡ ordered (leads_to c.args.ports.now c.args.edges.now) (filter is_player c.args.clients.now) =
    c.order_nodes.ensures.nodes ∙ ordered-same c.args.ports.now c.args.edges.now c.node_table-table.result (filter is_player c.args.clients.now) c.requires.among c.node_table-table.ensures.table in
    let places : ArePlaces c.order_nodes.new.nodes.items c.node_places-places.result = subst (λ ns. ArePlaces ns c.node_places-places.result) c.deref.ensures.value c.node_places-places.ensures in
    let made : c.link_nodes.new.links.items ≡ distinct (filter_map (link_of c.args.ports.now c.order_nodes.new.nodes.items) c.args.edges.now) =
    c.link_nodes.ensures.links
    ∙ links-same c.args.ports.now c.args.edges.now c.node_table-table.result c.order_nodes.new.nodes.items c.node_places-places.result c.requires.among c.node_table-table.ensures.table c.node_table-table.ensures.numbers (omega arith) places
    c.order_nodes.new.nodes.items refl in
    let links : c.link_nodes.new.links.items ≡ distinct (filter_map (link_of c.args.ports.now (ordered (leads_to c.args.ports.now c.args.edges.now) (filter is_player c.args.clients.now))) c.args.edges.now) =
    made ∙ ap (λ ns. distinct (filter_map (link_of c.args.ports.now ns) c.args.edges.now)) nodes in
    record {
      plan = λ i. record { nodes = nodes i; links = links i };
      few_nodes = c.order_nodes.ensures.few;
      few_links = c.link_nodes.ensures.few;
      players = subst (IsPermutation (filter is_player c.args.clients.now)) (sym nodes) (IsPermutation-ordered (leads_to c.args.ports.now c.args.edges.now) (filter is_player c.args.clients.now));
      joined = joins_edges c.args.ports.now c.order_nodes.new.nodes.items c.args.edges.now c.link_nodes.new.links.items made;
      upward = λ free apart. AreLinks-laid_out c.args.ports.now c.args.edges.now free c.args.clients.now c.order_nodes.new.nodes.items c.link_nodes.new.links.items apart nodes made;
    }
