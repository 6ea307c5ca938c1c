use Rattle.std.proofs.Common.{◌≡◌, ℕ, ◌<◌, slice_get, Some, IsSome}
use Rattle.slab.specs.Slab.{get, slab_len}
use Rattle.session_laws.specs.jack_types.specs.declared.ports.Port.{Port}
use Rattle.port_registry.proofs.tables.settle.Given as goal

abbrev pub invariant-loop-place : goal.invariant-loop-place
invariant-loop-place l = record {
  there : (i : ℕ) (port : Port) → slice_get l.ports i ≡ Some port → IsSome (get l.places port.id.0);
  before : (i : ℕ) (port : Port) → slice_get l.ports i ≡ Some port → i < l.place → get l.places port.id.0 ≡ Some i;
  len : slab_len l.places ≡ slab_len l.initial.places;
  capacity : l.places.capacity ≡ l.initial.places.capacity;
}
