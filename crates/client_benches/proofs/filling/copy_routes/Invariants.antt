use Rattle.std.proofs.Common.{◌≡◌, take}
use Rattle.std.specs.Prelude.{vec_capacity}
use Rattle.client_benches.proofs.RouteLemmas.{IsCopied}
use Rattle.client_benches.proofs.filling.copy_routes.Given as goal

abbrev pub invariant-loop-route : goal.invariant-loop-route
invariant-loop-route l = record {
  capacity : vec_capacity l.carried ≡ vec_capacity l.initial.carried;
  copied : IsCopied l.ports.period l.ports.outputs l.outputs l.link (take l.route-index l.routes) l.buffers l.carried.items;
}
