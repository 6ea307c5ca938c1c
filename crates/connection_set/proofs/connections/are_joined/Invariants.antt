use Rattle.std.proofs.Common.{◌≡◌, false, take}
use Rattle.std.specs.List.{list_any}
use Rattle.connection_set.specs.Connections.{joins}
use Rattle.connection_set.proofs.connections.are_joined.Given as goal

abbrev pub invariant-loop-edge : goal.invariant-loop-edge
invariant-loop-edge l = list_any (joins l.source l.destination) (take l.edge-index l.edges) ≡ false
