use Rattle.std.proofs.Common.{◌≡◌, ℕ, ◌<◌}
use Rattle.session_model.specs.Benches.{node_at}
use Rattle.port_registry.specs.Registered.{open_clients}
use Rattle.client_seats.proofs.places.has_birth.Given as goal

abbrev pub invariant-loop-n : goal.invariant-loop-n
invariant-loop-n l = (n : ℕ) → n < l.n → (node_at (open_clients l.nodes) n).birth ≡ l.birth → ⊥
