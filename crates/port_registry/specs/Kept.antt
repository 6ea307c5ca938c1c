-- How a registry keeps what it holds.
--     ids_in ports client      the numbers of the ids of a client's ports, in order of birth
--     AreFree free clients      the numbers of the ids that no client has
--     IsListed ports list      a list of the ids of all ports of a table
--     IsKept clients lists ..      what is true of a registry's fields
use Rattle.std.specs.Prelude.{◌≡◌, ◌≤◌, ◌<◌, ◌+◌, ℕ, List, map, filter, length, Contains}
use Rattle.arrayvec.specs.ArrayVec.{ArrayVec}
use Rattle.session_laws.specs.jack_types.specs.declared.ports.Client.{Client}
use Rattle.session_laws.specs.jack_types.specs.declared.ports.Port.{Port}
use Rattle.port_registry.specs.Listings.{Listing, ids_of}
use Rattle.port_registry.specs.Registered.{Registered, IsRegistered, is_of}
use Rattle.session_laws.specs.session_model.specs.Soundness.{Apart}

abbrev pub ids_in : List Port → Client → List ℕ
ids_in ports client = ids_of (filter (is_of client.name) ports)

abbrev pub items_of : List (ArrayVec ℕ) → List (List ℕ)
items_of lists = map (λ (list : ArrayVec ℕ). list.items) lists

-- 64 ids and that of `system` are free or a client's
pub record AreFree (free : List ℕ) (clients : List Client) : Type 0 where
  pub apart : Apart (λ (id : ℕ). id) free
  pub unused : (id : ℕ) → Contains free id → (client : Client) → Contains clients client → client.id.0 ≡ id → ⊥
  pub within : (id : ℕ) → Contains free id → id ≤ 64
  pub all_ids : length free + length clients ≡ 65

-- a list names all ports of a table, and no two have one id
pub record IsListed (ports : List Port) (list : List ℕ) : Type 0 where
  pub ids : list ≡ ids_of ports
  pub apart : Apart (λ (port : Port). port.id.0) ports
  pub low : (port : Port) → Contains ports port → port.id.0 < 2064

pub record IsKept (held : Registered) (lists : List (ArrayVec ℕ)) (free : List ℕ) (client_capacity list_capacity port_capacity : ℕ) : Type 0 where
  pub registered : IsRegistered held
  pub indexed : items_of lists ≡ map (ids_in held.ports) held.clients
  pub unused : AreFree free held.clients
  pub fits_clients : held.client_room ≤ client_capacity
  pub fits_lists : held.client_room ≤ list_capacity
  pub fits_ports : held.port_room ≤ port_capacity
  pub most_ports : held.port_room ≤ 2064
