use Rattle.std.proofs.Common.{inr, true≢false}
use Rattle.feedback_edges.proofs.SearchLemmas.{searched, first_size, first_marked, first_led}
use Rattle.feedback_edges.proofs.searching.reached.Goals as goal

pub marking-init : goal.marking-init
marking-init c = record {
  size = first_size 67 c.args.from;
  first = first_marked 67 c.args.from c.requires.from;
  led = first_led 67 c.args.table.now c.args.edges.now c.args.from c.requires.from;
  closed = λ e. absurd (true≢false e);
}

pub returns : goal.returns
returns c = λ n. searched c.args.table.now c.args.edges.now c.args.from n c.marking.marked c.marking.invariant.first c.marking.invariant.led (inr (c.marking.invariant.closed c.marking-test.false))
