use Rattle.std.proofs.Common.{◌≡◌, ◌≢◌, ◌<◌, ◌≤◌, ◌+◌, ◌∙◌, ℕ, List, ap, arith, get_or, length, sym, take}
use Rattle.bench_rack.specs.client_benches.specs.Seen.{Seen}
use Rattle.client_wiring.specs.declared.joints.Carried.{Carried}
use Rattle.client_wiring.specs.declared.joints.Output.TheVariants.{Audio}
use Rattle.bench_rack.specs.Racks.{Racked, bench_at}
use Rattle.client_tasks.specs.Steps.{routed, with_routes}
use Rattle.client_tasks.specs.Tasks.{routes_of}
use Rattle.client_tasks.proofs.ListLemmas.{length-routes, routes-more, routes-other}
use Rattle.client_tasks.proofs.RackLemmas.{each-put, length-put}
use Rattle.client_tasks.proofs.carrying.carry_all.Goals as goal

pub carry-requires-clause-few : goal.carry-requires-clause-few
carry-requires-clause-few g c =
    let one : Carried = get_or c.args.carried.now c.loop-place.place (record { node = 0; place = 0; link = 0; output = Audio 0 }) in
    let same : length (bench_at c.loop-place.rack one.node).kept.routes ≡ length (routes_of (take c.loop-place.place c.args.carried.now) one.node) = ap (λ (bench : Seen). length bench.kept.routes) (c.loop-place.invariant.routes one.node) in
    let most : length (routes_of (take c.loop-place.place c.args.carried.now) one.node) ≤ c.loop-place.place = length-routes c.args.carried.now one.node c.loop-place.place (omega (arith, c.loop-place-test.true)) in
    omega (arith, same, most, c.loop-place-test.true, c.requires.few)

pub loop-place-preserved : goal.loop-place-preserved
loop-place-preserved g c = record {
  routes = each-put (λ p. with_routes (routes_of (take place carried) p) (bench_at c.args.rack.now p)) (λ p. with_routes (routes_of (take (place + 1) carried) p) (bench_at c.args.rack.now p))
      c.loop-place.rack c.carry.new.rack one.node (routed one (bench_at c.loop-place.rack one.node)) c.carry.ensures within c.loop-place.invariant.routes here others;
  lengths = length-put c.loop-place.rack c.carry.new.rack one.node (routed one (bench_at c.loop-place.rack one.node)) c.carry.ensures ∙ c.loop-place.invariant.lengths;
  links = ap (λ (rack : Racked). rack.links) c.carry.ensures ∙ c.loop-place.invariant.links;
}
  where
    carried : List Carried
    carried = c.args.carried.now

    place : ℕ
    place = c.loop-place.place

    nobody : Carried
    nobody = record { node = 0; place = 0; link = 0; output = Audio 0 }

    one : Carried
    one = get_or c.args.carried.now c.loop-place.place (record { node = 0; place = 0; link = 0; output = Audio 0 })

    within : one.node < length c.loop-place.rack.benches
    within = let low : one.node < length c.args.rack.now.benches = c.requires.nodes place nobody c.loop-place-test.true in omega (arith, low, c.loop-place.invariant.lengths)

    here : routed one (bench_at c.loop-place.rack one.node) ≡ with_routes (routes_of (take (place + 1) carried) one.node) (bench_at c.args.rack.now one.node)
    here =
        ap (routed one) (c.loop-place.invariant.routes one.node)
        ∙ ap (λ routes. with_routes routes (bench_at c.args.rack.now one.node)) (sym (routes-more carried nobody one.node place c.loop-place-test.true (λ i. one.node)))

    others : (p : ℕ) → p ≢ one.node → with_routes (routes_of (take place carried) p) (bench_at c.args.rack.now p) ≡ with_routes (routes_of (take (place + 1) carried) p) (bench_at c.args.rack.now p)
    others p n = ap (λ routes. with_routes routes (bench_at c.args.rack.now p)) (sym (routes-other carried nobody p place c.loop-place-test.true (λ e. n (sym e))))
