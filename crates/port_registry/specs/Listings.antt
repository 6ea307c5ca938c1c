-- A table of ports: the ports in order of birth, and where each stands by its id.
--     Listing      the ports, and how many may stand there without asking for memory
--     ids_of ports      the numbers of their ids
--     bears id port      whether a port has the id
--     without_id ports id, with_id_active active ports id      the ports, the one of the id taken away, or made active or not
--     bears_name ports name number, has_way ports way number      whether the port of an id has the name, or the direction
--     IsTable ports places      under each id stands the place of its port
use Rattle.std.specs.Prelude.{◌≡◌, ◌<◌, ℕ, Bool, false, ◌==◌, not, List, length, map, filter, slice_get, Some, if◌then◌else◌}
use Rattle.std.specs.Option.{option_map_or}
use Rattle.std.specs.Str.{bytes_eq}
use Rattle.slab.specs.Slab.{Slab, get, slab_len}
use Rattle.session_laws.specs.jack_types.specs.declared.ports.Port.{Port}
use Rattle.session_laws.specs.jack_types.specs.declared.ports.PortId.{PortId}
use Rattle.session_laws.specs.jack_types.specs.declared.ports.Way.{Way}
use Rattle.session_laws.specs.session_model.specs.Commands.{is_way}
use Rattle.session_laws.specs.session_model.specs.Ids.{port_with, open_port}

pub record Listing : Type 0 where
  pub ports : List Port
  pub room : ℕ

-- the numbers of ports' ids
abbrev pub ids_of : List Port → List ℕ
ids_of ports = map (λ (port : Port). port.id.0) ports

abbrev pub bears : PortId → Port → Bool
bears id port = port.id.0 == id.0

abbrev pub without_id : List Port → PortId → List Port
without_id ports id = filter (λ port. not (bears id port)) ports

abbrev pub with_id_active : Bool → List Port → PortId → List Port
with_id_active active ports id = map (λ (port : Port). if bears id port then record port { active = active } else port) ports

abbrev pub without_number : List Port → ℕ → List Port
without_number ports number = without_id ports (record { 0 = number })

abbrev pub with_number_active : Bool → List Port → ℕ → List Port
with_number_active active ports number = with_id_active active ports (record { 0 = number })

-- whether the port of an id has the name, or the direction
abbrev pub bears_name : List Port → List ℕ → ℕ → Bool
bears_name ports name number = option_map_or (λ (port : Port). bytes_eq port.name name) (port_with ports (record { 0 = number })) false

abbrev pub has_way : List Port → Way → ℕ → Bool
has_way ports way number = option_map_or (λ (port : Port). is_way way (open_port port)) (port_with ports (record { 0 = number })) false

-- under each id stands the place of its port, and there are 2,064 ids
pub record IsTable (ports : List Port) (places : Slab ℕ) : Type 0 where
  pub placed : (i : ℕ) (port : Port) → slice_get ports i ≡ Some port → get places port.id.0 ≡ Some i
  pub below : (i : ℕ) (port : Port) → slice_get ports i ≡ Some port → port.id.0 < 2064
  pub counted : slab_len places ≡ length ports
  pub all_ids : places.capacity ≡ 2064
