use Rattle.std.proofs.Common.{◌≡◌, ℕ, ◌<◌, false}
use Rattle.session_model.specs.Benches.{node_at}
use Rattle.session_model.specs.Recorders.{is_tape}
use Rattle.port_registry.specs.Registered.{open_clients}
use Rattle.cycle_blocks.proofs.finding.tape_place.Given as goal

abbrev pub invariant-loop-n : goal.invariant-loop-n
invariant-loop-n l = (k : ℕ) → k < l.n → is_tape l.recorder (node_at (open_clients l.nodes) k).kind ≡ false
