use Rattle.std.proofs.Common.{◌≡◌, ◌∙◌, ap, filter, map, arith, get_or-set_same, sym, true≢false}
use Rattle.std.proofs.lemmas.Option.{get_or_from_slice_get}
use Rattle.jack_types.specs.declared.ports.Port.{Port}
use Rattle.jack_types.specs.declared.ports.Edge.{Edge}
use Rattle.jack_types.specs.declared.ports.PortId.{PortId}
use Rattle.session_model.specs.Latencies.{joined, no_range}
use Rattle.latency_ranges.specs.Tables.{far_end, is_edge_at, is_near, range_to}
use Rattle.latency_ranges.proofs.PortLemmas.{brought-at}
use Rattle.latency_ranges.proofs.joins.join_place.Goals as goal

pub returns-then-is_near-clause-near : goal.returns-then-is_near-clause-near
returns-then-is_near-clause-near c = λ port at near range shown.
    let same : c.index-ports-place.result ≡ port = c.index-ports-place.is ∙ get_or_from_slice_get c.args.ports.now c.args.place port c.index-ports-place.result at in
    get_or-set_same c.args.table.now c.args.place c.join_along.result no_range (omega (arith, c.requires.place, c.requires.room))
    ∙ c.join_along.ensures
    ∙ brought-at c.args.ports.now c.args.edges.now c.requires.graph c.args.mode range c.args.table.now c.id_of-id.result shown
    ∙ ap (λ (id : PortId). joined (map (λ (edge : Edge). range_to range c.args.ports.now (far_end c.args.mode edge)) (filter (is_edge_at c.args.mode id) c.args.edges.now))) (c.id_of-id.ensures.value ∙ ap (λ (p : Port). p.id) same)

pub returns-else-is_near-clause-near : goal.returns-else-is_near-clause-near
returns-else-is_near-clause-near c = λ port at near range shown.
    let same : c.index-ports-place.result ≡ port = c.index-ports-place.is ∙ get_or_from_slice_get c.args.ports.now c.args.place port c.index-ports-place.result at in
    absurd (true≢false (sym near ∙ ap (is_near c.args.mode) (sym same) ∙ sym c.is_near.ensures ∙ c.if-is_near.false))
