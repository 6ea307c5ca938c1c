use Rattle.std.proofs.Common.{◌≡◌, ◌<◌, ◌+◌, ◌∙◌, ap, sym, subst, length, take, drop, arith, true≢false}
use Rattle.connection_set.specs.Connections.{ConnectionSet, edge_at, with_direct}
use Rattle.feedback_edges.specs.Marking.{ends_by_id}
use Rattle.feedback_edges.specs.Search.{ClosesNone}
use Rattle.connection_set.specs.session_model.specs.Ids.{connections}
use Rattle.connection_set.specs.session_model.specs.Loops.{remark, remark_from}
use Rattle.feedback_edges.proofs.NameLemmas.{AreAmong-same}
use Rattle.feedback_edges.proofs.RemarkSteps.{ends-direct, same-length, kept-direct, kept-stays}
use Rattle.feedback_edges.proofs.TableLemmas.{sources_below, destinations_below}
use Rattle.feedback_edges.proofs.marking.remark.Goals as goal
use Rattle.feedback_edges.proofs.marking.remark.Goals.{then-closes_none, else-closes_none}

pub closes_none-requires-clause-sources : goal.closes_none-requires-clause-sources
closes_none-requires-clause-sources c =
    rw c.edges.ensures.edges
    (sources_below c.args.ports.now c.loop-place.connections.edges (AreAmong-same c.loop-place.connections.edges c.args.connections.now.edges c.loop-place.invariant.ends c.args.ports.now c.requires))

pub closes_none-requires-clause-destinations : goal.closes_none-requires-clause-destinations
closes_none-requires-clause-destinations c =
    rw c.edges.ensures.edges
    (destinations_below c.args.ports.now c.loop-place.connections.edges (AreAmong-same c.loop-place.connections.edges c.args.connections.now.edges c.loop-place.invariant.ends c.args.ports.now c.requires))

pub loop-place-preserved : goal.loop-place-preserved
loop-place-preserved c =
    let within : c.loop-place.place < length c.loop-place.connections.edges = omega (arith, c.loop-place.invariant.size) in
    elim c.if-closes_none.branch [
      | then-closes_none w ↦
          let made : c.if-closes_none.connections.edges ≡ with_direct c.loop-place.place c.loop-place.connections.edges = ap (λ (set : ConnectionSet). set.edges) w.connections-is ∙ w.direct.ensures.edges in
          let none : ClosesNone c.node_table-table.result c.loop-place.connections.edges (edge_at c.loop-place.connections.edges c.loop-place.place) =
          subst (λ es. ClosesNone c.node_table-table.result es (edge_at es c.loop-place.place)) c.edges.ensures.edges (c.closes_none.ensures.0 w.if-closes_none.true) in
          record {
            size = ap length made ∙ same-length (with_direct c.loop-place.place c.loop-place.connections.edges) c.loop-place.connections.edges (ends-direct c.loop-place.connections.edges c.loop-place.place) ∙ c.loop-place.invariant.size;
            ends = ap ends_by_id made ∙ ends-direct c.loop-place.connections.edges c.loop-place.place ∙ c.loop-place.invariant.ends;
            room = ap (λ (set : ConnectionSet). set.room) w.connections-is ∙ w.direct.ensures.room ∙ c.loop-place.invariant.room;
            marks = λ named.
                subst (λ es. remark_from (take (c.loop-place.place + 1) (connections c.args.ports.now es)) (drop (c.loop-place.place + 1) (connections c.args.ports.now es)) ≡ remark (connections c.args.ports.now c.args.connections.now.edges)) (sym made)
                (kept-direct c.args.ports.now c.node_table-table.result c.args.connections.now.edges c.loop-place.connections.edges c.loop-place.place within c.requires c.node_table-table.ensures.table c.loop-place.invariant.ends
                (remark (connections c.args.ports.now c.args.connections.now.edges)) none c.loop-place.invariant.marks named);
          }
      | else-closes_none w ↦
          let same : c.if-closes_none.connections.edges ≡ c.loop-place.connections.edges = ap (λ (set : ConnectionSet). set.edges) w.connections-is in
          record {
            size = ap length same ∙ c.loop-place.invariant.size;
            ends = ap ends_by_id same ∙ c.loop-place.invariant.ends;
            room = ap (λ (set : ConnectionSet). set.room) w.connections-is ∙ c.loop-place.invariant.room;
            marks = λ named.
                subst (λ es. remark_from (take (c.loop-place.place + 1) (connections c.args.ports.now es)) (drop (c.loop-place.place + 1) (connections c.args.ports.now es)) ≡ remark (connections c.args.ports.now c.args.connections.now.edges)) (sym same)
                (kept-stays c.args.ports.now c.node_table-table.result c.args.connections.now.edges c.loop-place.connections.edges c.loop-place.place within c.requires c.node_table-table.ensures.table c.loop-place.invariant.ends
                (remark (connections c.args.ports.now c.args.connections.now.edges))
                (λ none. true≢false (sym (c.closes_none.ensures.1 (subst (λ es. ClosesNone c.node_table-table.result es (edge_at es c.loop-place.place)) (sym c.edges.ensures.edges) none)) ∙ w.if-closes_none.false))
                c.loop-place.invariant.marks named);
          }
    ]
