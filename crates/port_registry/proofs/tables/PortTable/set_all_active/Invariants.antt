use Rattle.std.proofs.Common.{◌≡◌, fold, take}
use Rattle.port_registry.specs.Listings.{with_number_active}
use Rattle.port_registry.proofs.tables.PortTable.set_all_active.Given as goal

abbrev pub invariant-loop-id : goal.invariant-loop-id
invariant-loop-id l = record {
  so_far : l.self.ports ≡ fold (with_number_active l.active) l.initial.self.ports (take l.id-index l.ids);
  same_room : l.self.room ≡ l.initial.self.room;
}
