use Rattle.std.proofs.Common.{inl, inr, true≢false}
use Rattle.feedback_edges.proofs.SearchLemmas.{searched, first_size, first_marked, first_led}
use Rattle.feedback_edges.proofs.searching.leads_between.Goals as goal
use Rattle.feedback_edges.proofs.searching.leads_between.Goals.{then-marking-test+else-not-marked-to, else-marking-test}

pub marking-init : goal.marking-init
marking-init c = record {
  size = first_size 67 c.args.from;
  first = first_marked 67 c.args.from c.requires.from;
  led = first_led 67 c.args.table.now c.args.edges.now c.args.from c.requires.from;
  closed = λ e. absurd (true≢false e);
}

pub returns : goal.returns
returns c =
    elim c.marking-test.branch [
      | then-marking-test+else-not-marked-to w ↦ searched c.args.table.now c.args.edges.now c.args.from c.args.to c.marking.marked c.marking.invariant.first c.marking.invariant.led (inl w.if-not-marked-to.false)
      | else-marking-test w ↦ searched c.args.table.now c.args.edges.now c.args.from c.args.to c.marking.marked c.marking.invariant.first c.marking.invariant.led (inr (c.marking.invariant.closed w.marking-test.false))
    ]
