use Rattle.std.proofs.Common.{◌≡◌, ◌≤◌, count_by, take}
use Rattle.port_registry.specs.Listings.{has_way}
use Rattle.port_registry.proofs.tables.PortTable.count.Given as goal

abbrev pub invariant-loop-id : goal.invariant-loop-id
invariant-loop-id l = record {
  so_far : l.count ≡ count_by (has_way l.self.ports l.way) (take l.id-index l.ids);
  most : l.count ≤ l.id-index;
}
