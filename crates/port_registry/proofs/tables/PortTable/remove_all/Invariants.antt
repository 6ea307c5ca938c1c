use Rattle.std.proofs.Common.{◌≡◌, fold, take}
use Rattle.port_registry.specs.Listings.{without_number}
use Rattle.port_registry.proofs.tables.PortTable.remove_all.Given as goal

abbrev pub invariant-loop-id : goal.invariant-loop-id
invariant-loop-id l = record {
  so_far : l.self.ports ≡ fold without_number l.initial.self.ports (take l.id-index l.ids);
  same_room : l.self.room ≡ l.initial.self.room;
}
