use Rattle.std.proofs.Common.{◌≡◌, ◌≤◌, ap, arith, length, subst, sym, take_at, ◌∙◌, List}
use Rattle.std.proofs.lemmas.List.{length-take-le}
use lib.ListN.{drop, length-map}
use Rattle.jack_types.specs.declared.ports.Port.{Port}
use Rattle.jack_types.specs.declared.ports.Range.{Range}
use Rattle.session_model.specs.Latencies.{latency}
use Rattle.cycle_plan.specs.Graphs.{state_of}
use Rattle.latency_ranges.specs.Graphs.{latencies_in}
use Rattle.graph_replies.proofs.GraphLemmas.{IsGraph-network, IsStateOf-network, delays-short, ports-few}
use Rattle.graph_replies.proofs.latencies.set_ranges.Goals as goal

pub slice_bounds-first-end : goal.slice_bounds-first-end
slice_bounds-first-end c =
    let few : length c.args.graph.now.held.ports ≤ 2064 = ports-few c.args.graph.now c.ports-list.ensures.network in
    let same : length c.as_slice-ports.result.now ≡ length c.args.graph.now.held.ports = ap length (c.as_slice-ports.ensures ∙ c.ports-list.ensures.value) in
    omega (arith, few, same, c.requires.room)

pub slice_bounds-first-end-2 : goal.slice_bounds-first-end-2
slice_bounds-first-end-2 c =
    let few : length c.args.graph.now.held.ports ≤ 2064 = ports-few c.args.graph.now c.ports-list.ensures.network in
    let same : length c.as_slice-ports.result.now ≡ length c.args.graph.now.held.ports = ap length (c.as_slice-ports.ensures ∙ c.ports-list.ensures.value) in
    sym (length-take-le (length c.as_slice-ports.result.now) c.args.table.now (omega (arith, few, same, c.requires.room)))

pub ranges-requires-clause-room : goal.ranges-requires-clause-room
ranges-requires-clause-room c =
    let few : length c.args.graph.now.held.ports ≤ 2064 = ports-few c.args.graph.now c.ports-list.ensures.network in
    let same : length c.as_slice-ports.result.now ≡ length c.args.graph.now.held.ports = ap length (c.as_slice-ports.ensures ∙ c.ports-list.ensures.value) in
    length-take-le (length c.as_slice-ports.result.now) c.args.table.now (omega (arith, few, same, c.requires.room))

pub ranges-requires-clause-graph : goal.ranges-requires-clause-graph
ranges-requires-clause-graph c =
    IsGraph-network c.args.graph.now c.ports-list.ensures.network c.as_slice-ports.result.now c.edges.result.now (c.as_slice-ports.ensures ∙ c.ports-list.ensures.value) c.edges.ensures.value

pub ranges-requires-clause-delays : goal.ranges-requires-clause-delays
ranges-requires-clause-delays c = delays-short c.args.graph.now.held.clients c.args.delays.now c.requires.delays c.requires.short

pub returns-clause-ranges : goal.returns-clause-ranges
returns-clause-ranges c =
    let ports : c.as_slice-ports.result.now ≡ c.args.graph.now.held.ports = c.as_slice-ports.ensures ∙ c.ports-list.ensures.value in
    let out : c.ranges-2.new.out ≡ latencies_in (state_of c.args.graph.now) c.args.mode c.args.graph.now.held.ports =
    c.ranges-2.ensures.states (state_of c.args.graph.now) (IsStateOf-network c.args.graph.now c.ports-list.ensures.network c.as_slice-ports.result.now c.edges.result.now c.args.delays.now ports c.edges.ensures.value c.requires.delays)
    ∙ ap (latencies_in (state_of c.args.graph.now) c.args.mode) ports in
    take_at c.ranges-2.new.out (drop (length c.as_slice-ports.result.now) c.args.table.now) (length c.args.graph.now.held.ports)
    (ap length out ∙ length-map c.args.graph.now.held.ports (λ (port : Port). latency (state_of c.args.graph.now) c.args.mode port.name))
    ∙ out
