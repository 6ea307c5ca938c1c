use Rattle.std.proofs.Common.{rules, arith, ap, ◌∙◌, refl}
use Rattle.activation.proofs.Turning.{one_taken}
use Rattle.activation.proofs.turns.take_benches.Goals as goal

pub take_tray-bench-requires-clause-bench : goal.take_tray-bench-requires-clause-bench
take_tray-bench-requires-clause-bench g c κs within =
    let it = c.requires.benches c.loop-node.node c.loop-node-test.true in
    (it.0, c.loop-node.invariant.4 c.loop-node.node (omega arith) ∙ it.1)

pub loop-node-preserved : goal.loop-node-preserved
loop-node-preserved g c =
    let i = c.loop-node.invariant in
    let me = c.take_tray-bench.ensures.seat.1 in
    let one = one_taken c.args.seat.now.me.0.shelf.items c.loop-node.seat.me.0.shelf.items c.take_tray-bench.new.seat.me.0.shelf.items c.loop-node.benches.items c.push_reserved.new.self.items c.loop-node.node _ c.take_tray-bench.result (ap (λ m. m.0.shelf.items) me) c.take_tray-bench.ensures.tray refl i.2 c.push_reserved.ensures.items i.4 i.5 in (
      search rules,
      record { live = ap (λ m. m.0.is_live) me ∙ i.1.live; on = ap (λ m. m.0.is_still) me ∙ i.1.on; none_out = ap (λ m. m.0.shelf.out) me; clear = ap (λ m. m.1) me },
      search rules,
      search rules,
      one.0,
      one.1,
    )

pub returns-clause-taken : goal.returns-clause-taken
returns-clause-taken g c n tray low at =
    let i = c.loop-node.invariant in
    i.5 n tray (let not = c.loop-node-test.false in omega (arith, low, not)) at
