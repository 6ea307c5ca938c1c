use Rattle.std.proofs.Common.{◌<◌, ◌∙◌, arith, refl, subst, sym}
use Rattle.std.proofs.lemmas.List.{length-set}
use Rattle.jack_types.specs.declared.ports.Port.{Port}
use Rattle.client_wiring.proofs.ListLemmas.{table_more}
use Rattle.midi_wiring.proofs.ports.index_ports.Goals as goal

pub loop-index-preserved : goal.loop-index-preserved
loop-index-preserved c =
    let low : (c.index-ports-index.result).id.0 < 2064 =
    subst (λ (x : Port). x.id.0 < 2064) (sym c.index-ports-index.is) (c.requires.ids c.loop-index.index c.index-ports-index.result c.loop-index-test.true) in
    record {
      size = length-set c.loop-index.indices (c.index-ports-index.result).id.0 c.loop-index.index ∙ c.loop-index.invariant.size;
      held = table_more c.args.ports.now c.requires.apart (λ k port. k) c.loop-index.indices c.loop-index.index c.loop-index.index c.index-ports-index.result
          c.loop-index-test.true c.index-ports-index.is (omega (arith, low, c.loop-index.invariant.size)) refl c.loop-index.invariant.held;
    }
