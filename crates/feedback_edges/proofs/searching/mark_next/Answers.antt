use Rattle.std.proofs.Common.{◌≡◌, ◌<◌, ◌≤◌, get_or, take, All, Contains, arith, sym, ap, subst, ◌∙◌, true≢false}
use Rattle.std.proofs.lemmas.List.{get_or_default, take_all}
use Rattle.std.proofs.lemmas.List.Elements.{All-more}
use Rattle.connection_set.specs.Connections.{no_edge}
use Rattle.feedback_edges.specs.Search.{Passes, unmarked}
use Rattle.feedback_edges.proofs.SearchLemmas.{not_more}
use Rattle.feedback_edges.proofs.searching.mark_next.Goals as goal
use Rattle.feedback_edges.proofs.searching.mark_next.Goals.{then-mark_end, else-mark_end}

pub loop-edge-preserved : goal.loop-edge-preserved
loop-edge-preserved c =
    let before : unmarked c.loop-edge.marked ≤ unmarked c.args.marked.now = not_more c.loop-edge.grown c.loop-edge.marked c.args.marked.now c.loop-edge.invariant.same c.loop-edge.invariant.fewer in
    let here : Contains c.args.edges.now (get_or c.args.edges.now c.loop-edge.edge-index no_edge) =
    (c.loop-edge.edge-index, c.loop-edge-test.true, get_or_default c.args.edges.now c.loop-edge.edge-index (get_or c.args.edges.now c.loop-edge.edge-index no_edge) no_edge c.loop-edge-test.true) in
    elim c.if-mark_end.branch [
      | then-mark_end w ↦ record {
        kept = λ n h. c.mark_end.ensures.kept n (c.loop-edge.invariant.kept n h);
        led = λ from h. c.mark_end.ensures.led c.args.edges.now from here (c.loop-edge.invariant.led from h);
        closed = λ e. absurd (true≢false (sym w.grown-is ∙ e));
        same = λ e. absurd (true≢false (sym w.grown-is ∙ e));
        fewer = λ e. let now : unmarked c.mark_end.new.marked < unmarked c.loop-edge.marked = c.mark_end.ensures.fewer w.if-mark_end.true in omega (arith, now, before);
      }
      | else-mark_end w ↦ record {
        kept = λ n h. c.mark_end.ensures.kept n (c.loop-edge.invariant.kept n h);
        led = λ from h. c.mark_end.ensures.led c.args.edges.now from here (c.loop-edge.invariant.led from h);
        closed = λ e.
            let old : All (Passes c.args.table.now c.loop-edge.marked) (take c.loop-edge.edge-index c.args.edges.now) = c.loop-edge.invariant.closed (sym w.grown-is ∙ e) in
            All-more (Passes c.args.table.now c.mark_end.new.marked) c.args.edges.now c.loop-edge.edge-index no_edge c.loop-edge-test.true
            (subst (λ m. All (Passes c.args.table.now m) (take c.loop-edge.edge-index c.args.edges.now)) (sym (c.mark_end.ensures.same w.if-mark_end.false)) old)
            (c.mark_end.ensures.passes w.if-mark_end.false);
        same = λ e. c.mark_end.ensures.same w.if-mark_end.false ∙ c.loop-edge.invariant.same (sym w.grown-is ∙ e);
        fewer = λ e.
            let old : unmarked c.loop-edge.marked < unmarked c.args.marked.now = c.loop-edge.invariant.fewer (sym w.grown-is ∙ e) in
            let same : unmarked c.mark_end.new.marked ≡ unmarked c.loop-edge.marked = ap unmarked (c.mark_end.ensures.same w.if-mark_end.false) in
            omega (arith, old, same);
      }
    ]

pub returns-clause-closed : goal.returns-clause-closed
returns-clause-closed c = λ e k d h.
    let old : All (Passes c.args.table.now c.loop-edge.marked) (take c.loop-edge.edge-index c.args.edges.now) = c.loop-edge.invariant.closed e in
    let whole : All (Passes c.args.table.now c.loop-edge.marked) c.args.edges.now =
    subst (All (Passes c.args.table.now c.loop-edge.marked)) (take_all c.loop-edge.edge-index c.args.edges.now (omega arith)) old in
    whole k d h
