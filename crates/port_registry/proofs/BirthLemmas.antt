-- Ports stand in order of birth.
--     in_order-system      those of `system` do
--     in_order-pushed      so do those with one more, which is born last
--     in_order-left      and those that are left where some are taken away
--     in_order-active      and those that are made active or not
use Rattle.std.proofs.Common.{◌≡◌, ℕ, zero, suc, ◌-◌, ◌<◌, ◌≤◌, Bool, true, false, cond, List, [], ◌∷◌, ◌++◌, length, map, filter, get_or, All, Contains, refl, sym, subst, arith}
use Rattle.std.proofs.lemmas.List.{length-map}
use Rattle.std.proofs.lemmas.List.Elements.{All-append, All-nil, All-cons, Contains-get_or}
use Rattle.std.proofs.lemmas.List.Kept.{IsNonDecreasingBy-filter}
use Rattle.std.proofs.lemmas.List.Sorted.{IsNonDecreasingBy-push}
use Rattle.session_laws.specs.jack_types.specs.declared.ports.Port.{Port}
use Rattle.session_laws.specs.jack_types.specs.declared.ports.Way.{Way}
use Rattle.session_laws.specs.jack_types.specs.declared.ports.Way.TheVariants.{In, Out}
use Rattle.session_laws.specs.session_model.specs.Samples.{below}
use Rattle.port_registry.specs.Registered.{AreInOrder, is_of, system_port, system_ports, unlisted}

abbrev birth_of : Port → ℕ
birth_of port = port.birth

module _ (change : Port → Port) (same : (port : Port) → (change port).birth ≡ port.birth) where
  births-same : (ports : List Port) (i : ℕ) (d : Port) → i < length ports → (get_or (map change ports) i d).birth ≡ (get_or ports i d).birth
  births-same [] i d within = absurd (omega (arith, within))
  births-same (port ∷ ports) zero d within = same port
  births-same (port ∷ ports) (suc i) d within = births-same ports i d (omega (arith, within))

  in_order-changed : (ports : List Port) → AreInOrder ports → AreInOrder (map change ports)
  in_order-changed ports is i j d before within =
      let inside : j < length ports = subst (λ n. j < n) (length-map ports change) within in
      omega (arith, before, births-same ports i d (omega (arith, before, inside)), births-same ports j d inside, is i j d before inside)

  in_order-from_changed : (ports : List Port) → AreInOrder (map change ports) → AreInOrder ports
  in_order-from_changed ports is i j d before within =
      let inside : j < length (map change ports) = subst (λ n. j < n) (sym (length-map ports change)) within in
      omega (arith, before, births-same ports i d (omega (arith, before, within)), births-same ports j d within, is i j d before inside)

born_first : (way : Way) (channels : List ℕ) → All (λ (port : Port). port.birth ≡ 0) (map (system_port way) channels)
born_first way [] = All-nil (λ (port : Port). port.birth ≡ 0)
born_first way (channel ∷ channels) = All-cons (λ (port : Port). port.birth ≡ 0) (system_port way channel) (map (system_port way) channels) refl (born_first way channels)

in_order-device : (capture playback : ℕ) → AreInOrder (system_ports capture playback)
in_order-device capture playback i j d before within =
    let first : All (λ (port : Port). port.birth ≡ 0) (system_ports capture playback) =
    All-append (λ (port : Port). port.birth ≡ 0) (map (system_port Out) (below capture)) (map (system_port In) (below playback)) (born_first Out (below capture)) (born_first In (below playback)) in
    omega (arith, first i d (omega (arith, before, within)), first j d within)

pub in_order-system : (ports : List Port) (capture playback : ℕ) → map unlisted ports ≡ system_ports capture playback → AreInOrder ports
in_order-system ports capture playback is = in_order-from_changed unlisted (λ port. refl) ports (subst AreInOrder (sym is) (in_order-device capture playback))

pub in_order-pushed : (ports : List Port) (port : Port) → AreInOrder ports → ((other : Port) → Contains ports other → other.birth ≤ port.birth) → AreInOrder (ports ++ port ∷ [])
in_order-pushed ports port is last =
    IsNonDecreasingBy-push birth_of ports port is (λ d some. last (get_or ports (length ports - 1) d) (Contains-get_or ports (length ports - 1) d (omega (arith, some))))

pub in_order-left : (stays : Port → Bool) (ports : List Port) → AreInOrder ports → AreInOrder (filter stays ports)
in_order-left stays ports is = IsNonDecreasingBy-filter birth_of stays ports is

pub in_order-active : (name : List ℕ) (active : Bool) (ports : List Port) → AreInOrder ports → AreInOrder (map (λ port. cond (is_of name port) (record port { active = active }) port) ports)
in_order-active name active ports is = in_order-changed (λ port. cond (is_of name port) (record port { active = active }) port) (λ port. same port (is_of name port)) ports is
  where
    same : (port : Port) (own : Bool) → (cond own (record port { active = active }) port).birth ≡ port.birth
    same port true = refl
    same port false = refl
