-- Ports come, change and go: each that stays is among the new ones, and the device has no more than before.
--     Stays old new      what is the same of a registry's ports behind a call that takes none away
use Rattle.std.proofs.Common.{◌≡◌, ℕ, suc, ◌≤◌, Bool, true, false, cond, not, List, [], ◌∷◌, ◌++◌, length, map, filter, Contains, Result, Ok, Err, OnOk, OnErr, refl, sym, ◌∙◌, ap, subst, arith, append-nil}
use Rattle.graph_word.specs.jack_types.specs.Names.{client_part}
use Rattle.graph_word.specs.jack_types.specs.declared.kinds.Kind.{Kind}
use Rattle.graph_word.specs.jack_types.specs.declared.ports.ClientId.{ClientId}
use Rattle.graph_word.specs.jack_types.specs.declared.ports.Port.{Port}
use Rattle.graph_word.specs.session_model.specs.Ids.{way_of}
use Rattle.graph_word.specs.session_model.specs.State.{is_system, system_name}
use Rattle.port_registry.specs.session_laws.proofs.LoopFreeLemmas.{Contains-append_left}
use Rattle.port_registry.specs.session_laws.proofs.PlaceLemmas.{filter-keeps}
use Rattle.port_registry.specs.session_laws.proofs.SoundLemmas.{map-contains}
use Rattle.port_registry.specs.session_laws.proofs.FilterLemmas.{filter-push}
use Rattle.port_registry.specs.Registered.{Registered, is_named, is_of, with_active, with_opened, with_port, with_slow, without_client, without_port as without_port_of}
use Rattle.cycle_plan.proofs.EndLemmas.{IsAmong}

-- ---- a port that was among the old ones is among the new ones

pub moved-same : (old new : List Port) → new ≡ old → (port : Port) → Contains old port → IsAmong new port
moved-same old new e port p = (port, subst (λ ps. Contains ps port) (sym e) p, refl, refl, refl)

pub moved-active : (name : List ℕ) (active : Bool) (held new : Registered) → new ≡ with_active name active held → (port : Port) → Contains held.ports port → IsAmong new.ports port
moved-active name active held new e port p =
    (change port, subst (λ (h : Registered). Contains h.ports (change port)) (sym e) (map-contains change held.ports port p), same-id (is_of name port), same-name (is_of name port), same-way (is_of name port))
  where
    change : Port → Port
    change port = if_of (is_of name port) port
      where
        if_of : Bool → Port → Port
        if_of b port = cond b (record port { active = active }) port

    same-id : (b : Bool) → (cond b (record port { active = active }) port).id.0 ≡ port.id.0
    same-id true = refl
    same-id false = refl

    same-name : (b : Bool) → (cond b (record port { active = active }) port).name ≡ port.name
    same-name true = refl
    same-name false = refl

    same-way : (b : Bool) → way_of (cond b (record port { active = active }) port) ≡ way_of port
    same-way true = refl
    same-way false = refl

pub moved-more : (last : Port) (held new : Registered) → new ≡ with_port last held → (port : Port) → Contains held.ports port → IsAmong new.ports port
moved-more last held new e port p = (port, subst (λ (h : Registered). Contains h.ports port) (sym e) (Contains-append_left held.ports (last ∷ []) port p), refl, refl, refl)

pub moved-closed : (name : List ℕ) (held new : Registered) → new ≡ without_client name held → (port : Port) → Contains held.ports port → is_of name port ≡ false → IsAmong new.ports port
moved-closed name held new e port p apart =
    (port, subst (λ (h : Registered). Contains h.ports port) (sym e) (filter-keeps (λ (q : Port). not (is_of name q)) held.ports port p (ap not apart)), refl, refl, refl)

pub moved-unregistered : (name : List ℕ) (held new : Registered) → new ≡ without_port_of name held → (port : Port) → Contains held.ports port → is_named name port ≡ false → IsAmong new.ports port
moved-unregistered name held new e port p apart =
    (port, subst (λ (h : Registered). Contains h.ports port) (sym e) (filter-keeps (λ (q : Port). not (is_named name q)) held.ports port p (ap not apart)), refl, refl, refl)

-- ---- how many ports the device has

abbrev pub device_ports : List Port → ℕ
device_ports ports = length (filter (is_of system_name) ports)

length-mapped : (test : Port → Bool) (change : Port → Port) → ((port : Port) → test (change port) ≡ test port) → (ports : List Port) → length (filter test (map change ports)) ≡ length (filter test ports)
length-mapped test change same [] = refl
length-mapped test change same (port ∷ ports) = go (test (change port)) (test port) (same port) (length-mapped test change same ports)
  where
    go : (a b : Bool) → a ≡ b → length (filter test (map change ports)) ≡ length (filter test ports) → length (cond a (change port ∷ filter test (map change ports)) (filter test (map change ports))) ≡ length (cond b (port ∷ filter test ports) (filter test ports))
    go true true e rest = ap suc rest
    go false false e rest = rest
    go true false e rest = cc
    go false true e rest = cc

pub length-fewer : (test stays : Port → Bool) (ports : List Port) → length (filter test (filter stays ports)) ≤ length (filter test ports)
length-fewer test stays [] = omega arith
length-fewer test stays (port ∷ ports) = go (stays port) (length-fewer test stays ports)
  where
    both : (b : Bool) → length (filter test (filter stays ports)) ≤ length (filter test ports) → length (cond b (port ∷ filter test (filter stays ports)) (filter test (filter stays ports))) ≤ length (cond b (port ∷ filter test ports) (filter test ports))
    both true k = omega (arith, k)
    both false k = k

    less : (b : Bool) → length (filter test (filter stays ports)) ≤ length (filter test ports) → length (filter test (filter stays ports)) ≤ length (cond b (port ∷ filter test ports) (filter test ports))
    less true k = omega (arith, k)
    less false k = k

    go : (b : Bool) → length (filter test (filter stays ports)) ≤ length (filter test ports) → length (filter test (cond b (port ∷ filter stays ports) (filter stays ports))) ≤ length (filter test (port ∷ ports))
    go true k = both (test port) k
    go false k = less (test port) k

pub device-closed : (name : List ℕ) (held new : Registered) → new ≡ without_client name held → device_ports new.ports ≤ device_ports held.ports
device-closed name held new e = subst (λ (h : Registered). device_ports h.ports ≤ device_ports held.ports) (sym e) (length-fewer (is_of system_name) (λ port. not (is_of name port)) held.ports)

pub device-unregistered : (name : List ℕ) (held new : Registered) → new ≡ without_port_of name held → device_ports new.ports ≤ device_ports held.ports
device-unregistered name held new e = subst (λ (h : Registered). device_ports h.ports ≤ device_ports held.ports) (sym e) (length-fewer (is_of system_name) (λ port. not (is_named name port)) held.ports)

-- ---- what a call leaves that takes no port away

pub record Stays (old new : Registered) : Type 0 where
  pub moved : (port : Port) → Contains old.ports port → IsAmong new.ports port
  pub device : device_ports new.ports ≤ device_ports old.ports
  pub client_room : new.client_room ≡ old.client_room
  pub port_room : new.port_room ≡ old.port_room

same-count : {a b : ℕ} → a ≡ b → a ≤ b
same-count e = omega (arith, e)

pub Stays-same : (old new : Registered) → new ≡ old → Stays old new
Stays-same old new e = record {
  moved = moved-same old.ports new.ports (ap (λ (h : Registered). h.ports) e);
  device = same-count (ap (λ (h : Registered). device_ports h.ports) e);
  client_room = ap (λ (h : Registered). h.client_room) e;
  port_room = ap (λ (h : Registered). h.port_room) e;
}

pub Stays-opened : (id : ClientId) (name : List ℕ) (kind : Kind) (birth : ℕ) (old new : Registered) → new ≡ with_opened id name kind birth old → Stays old new
Stays-opened id name kind birth old new e = record {
  moved = moved-same old.ports new.ports (ap (λ (h : Registered). h.ports) e);
  device = same-count (ap (λ (h : Registered). device_ports h.ports) e);
  client_room = ap (λ (h : Registered). h.client_room) e;
  port_room = ap (λ (h : Registered). h.port_room) e;
}

pub Stays-slowed : (name : List ℕ) (cycles : ℕ) (old new : Registered) → new ≡ with_slow name cycles old → Stays old new
Stays-slowed name cycles old new e = record {
  moved = moved-same old.ports new.ports (ap (λ (h : Registered). h.ports) e);
  device = same-count (ap (λ (h : Registered). device_ports h.ports) e);
  client_room = ap (λ (h : Registered). h.client_room) e;
  port_room = ap (λ (h : Registered). h.port_room) e;
}

pub Stays-active : (name : List ℕ) (active : Bool) (old new : Registered) → new ≡ with_active name active old → Stays old new
Stays-active name active old new e = record {
  moved = moved-active name active old new e;
  device = same-count (ap (λ (h : Registered). device_ports h.ports) e ∙ length-mapped (is_of system_name) (λ port. cond (is_of name port) (record port { active = active }) port) (λ port. go port (is_of name port)) old.ports);
  client_room = ap (λ (h : Registered). h.client_room) e;
  port_room = ap (λ (h : Registered). h.port_room) e;
}
  where
    go : (port : Port) (b : Bool) → is_of system_name (cond b (record port { active = active }) port) ≡ is_of system_name port
    go port true = refl
    go port false = refl

pub Stays-registered : (last : Port) (old new : Registered) → new ≡ with_port last old → is_system (client_part last.name) ≡ false → Stays old new
Stays-registered last old new e other = record {
  moved = moved-more last old new e;
  device = same-count (ap (λ (h : Registered). device_ports h.ports) e ∙ ap length (filter-push (is_of system_name) old.ports last) ∙ ap (λ b. length (filter (is_of system_name) old.ports ++ cond b (last ∷ []) [])) other ∙ ap length (append-nil (filter (is_of system_name) old.ports)));
  client_room = ap (λ (h : Registered). h.client_room) e;
  port_room = ap (λ (h : Registered). h.port_room) e;
}

-- whatever the answer, a call that leaves all as it was where it refuses
pub Stays-either : {T E : Type 0} (old new : Registered) (result : Result T E) → OnOk result (Stays old new) → OnErr result (new ≡ old) → Stays old new
Stays-either old new (Ok x) ok err = ok
Stays-either old new (Err x) ok err = Stays-same old new err

pub on_ok : {T E P Q : Type 0} (result : Result T E) → (P → Q) → OnOk result P → OnOk result Q
on_ok (Ok x) f p = f p
on_ok (Err x) f p = tt
