use Rattle.std.proofs.Common.{List, [], ◌∷◌, ◌++◌, map, sym, ◌∙◌, ap, ap₂}
use Rattle.std.proofs.lemmas.List.{map_more, take_all}
use Rattle.bench_crew.specs.client_benches.specs.Seen.{Seen, new_bench}
use Rattle.bench_rack.proofs.racks.make_benches.Goals as goal

pub loop-kind-preserved : goal.loop-kind-preserved
loop-kind-preserved g c = record {
  capacity = c.push_reserved.ensures.capacity ∙ c.loop-kind.invariant.capacity;
  benches = c.push_reserved.ensures.items
      ∙ ap₂ (λ (front : List Seen) (last : Seen). front ++ last ∷ []) c.loop-kind.invariant.benches c.in_ok-new.ensures
      ∙ sym (map_more (λ kind. new_bench kind c.args.period) c.args.kinds.now c.loop-kind.kind-index _ c.loop-kind-test.true);
}

pub returns : goal.returns
returns g c = c.loop-kind.invariant.benches ∙ ap (map (λ kind. new_bench kind c.args.period)) (take_all c.loop-kind.kind-index c.args.kinds.now c.loop-kind-test.false)
