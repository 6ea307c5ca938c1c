use Rattle.std.proofs.Common.{◌<◌, ◌∙◌, add-one, ap, arith, length, subst, sym}
use Rattle.jack_types.specs.declared.ports.Range.{Range}
use Rattle.std.proofs.Common.{List}
use Rattle.latency_ranges.specs.Tables.{Shows, handed_within, is_far}
use Rattle.latency_ranges.proofs.DepthLemmas.{shown-handed, shown-settled}
use Rattle.latency_ranges.proofs.PortLemmas.{length-ports}
use Rattle.latency_ranges.proofs.latencies.settle.Goals as goal

pub returns-then-not-pass_clients-clause-far : goal.returns-then-not-pass_clients-clause-far
returns-then-not-pass_clients-clause-far c =
    let low : c.loop-depth.depth < length c.args.ports.now = omega (arith, c.loop-depth-test.true) in
    shown-settled c.args.ports.now c.args.edges.now c.args.delays.now c.args.mode c.requires.graph c.requires.delays (length-ports c.args.ports.now c.args.edges.now c.requires.graph c.join_edges.ensures.ids) c.loop-depth.depth c.pass_clients.new.table low
    (subst (λ (table : List Range). Shows (is_far c.args.mode) (handed_within c.args.ports.now c.args.edges.now c.args.delays.now c.args.mode c.loop-depth.depth) c.args.ports.now table) (sym (c.pass_clients.ensures.same c.if-not-pass_clients.true))
    (c.join_edges.ensures.far (handed_within c.args.ports.now c.args.edges.now c.args.delays.now c.args.mode c.loop-depth.depth) c.loop-depth.invariant.far))
    (shown-handed c.args.ports.now c.args.edges.now c.args.delays.now c.args.mode c.requires.graph c.requires.delays (length-ports c.args.ports.now c.args.edges.now c.requires.graph c.join_edges.ensures.ids) c.loop-depth.depth c.pass_clients.new.table low
    (c.pass_clients.ensures.far _ (c.join_edges.ensures.near (handed_within c.args.ports.now c.args.edges.now c.args.delays.now c.args.mode c.loop-depth.depth) c.loop-depth.invariant.far)))

pub loop-depth-preserved : goal.loop-depth-preserved
loop-depth-preserved c = record {
  room = c.pass_clients.ensures.room;
  far = λ k port at t.
      shown-handed c.args.ports.now c.args.edges.now c.args.delays.now c.args.mode c.requires.graph c.requires.delays (length-ports c.args.ports.now c.args.edges.now c.requires.graph c.join_edges.ensures.ids) c.loop-depth.depth c.pass_clients.new.table (omega (arith, c.loop-depth-test.true))
      (c.pass_clients.ensures.far _ (c.join_edges.ensures.near (handed_within c.args.ports.now c.args.edges.now c.args.delays.now c.args.mode c.loop-depth.depth) c.loop-depth.invariant.far)) k port at t
      ∙ ap (λ n. handed_within c.args.ports.now c.args.edges.now c.args.delays.now c.args.mode n port) (sym (add-one c.loop-depth.depth));
}
