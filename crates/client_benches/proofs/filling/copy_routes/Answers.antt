use Rattle.std.proofs.Common.{◌≡◌, ◌+◌, ◌++◌, ◌∷◌, [], None, ◌∙◌, ap, sym, subst, take, get_or}
use Rattle.std.specs.Prelude.{vec_capacity}
use Rattle.std.proofs.lemmas.List.{take_all}
use Rattle.client_benches.specs.declared.values.Route.{Route}
use Rattle.client_benches.proofs.PartLemmas.{take-next}
use Rattle.client_benches.proofs.RouteLemmas.{IsCopied, signals-copied, copied-other, copied-more}
use Rattle.client_benches.proofs.filling.copy_routes.Goals as goal
use Rattle.client_benches.proofs.filling.copy_routes.Goals.{then-route-link, else-route-link}

pub loop-route-preserved : goal.loop-route-preserved
loop-route-preserved c = record {
  capacity = elim c.if-route-link.branch [
    | then-route-link w ↦ ap vec_capacity w.carried-is ∙ w.push_reserved.ensures.capacity ∙ c.loop-route.invariant.capacity
    | else-route-link w ↦ ap vec_capacity w.carried-is ∙ c.loop-route.invariant.capacity
  ];
  copied = subst (λ routes. IsCopied c.args.ports.period c.args.ports.outputs c.args.outputs.now c.args.link routes c.if-route-link.buffers c.if-route-link.carried.items) (sym next) (elim c.if-route-link.branch [
    | then-route-link w ↦ rw (w.carried-is, w.buffers-is, w.push_reserved.ensures.items) (copied-more c.args.ports.period c.args.ports.outputs c.args.outputs.now c.args.link (take c.loop-route.route-index c.args.routes.now) route c.loop-route.buffers w.copy_carried.new.buffers c.loop-route.carried.items
        w.if-route-link.true (c.requires.routes c.loop-route.route-index (record { link = 0; output = None }) c.loop-route-test.true) c.requires.outputs w.copy_carried.ensures c.loop-route.invariant.copied)
    | else-route-link w ↦ rw (w.carried-is, w.buffers-is) (copied-other c.args.ports.period c.args.ports.outputs c.args.outputs.now c.args.link (take c.loop-route.route-index c.args.routes.now) route c.loop-route.buffers c.loop-route.carried.items w.if-route-link.false c.loop-route.invariant.copied)
  ]);
}
  where
    route : Route
    route = get_or c.args.routes.now c.loop-route.route-index (record { link = 0; output = None })

    next : take (c.loop-route.route-index + 1) c.args.routes.now ≡ take c.loop-route.route-index c.args.routes.now ++ route ∷ []
    next = take-next c.args.routes.now c.loop-route.route-index (record { link = 0; output = None }) c.loop-route-test.true

pub returns-clause-signals : goal.returns-clause-signals
returns-clause-signals c = signals-copied c.args.ports.period c.args.ports.outputs c.args.outputs.now c.args.link c.args.routes.now c.loop-route.buffers c.loop-route.carried.items
    (subst (λ routes. IsCopied c.args.ports.period c.args.ports.outputs c.args.outputs.now c.args.link routes c.loop-route.buffers c.loop-route.carried.items)
    (take_all c.loop-route.route-index c.args.routes.now c.loop-route-test.false) c.loop-route.invariant.copied)
