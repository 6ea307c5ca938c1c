-- The port that stands at a place.
use Rattle.std.proofs.Common.{◌≡◌, ℕ, ◌<◌, ◌==◌, List, Option, Some, None, length, get_or, sym, ap, ◌∙◌}
use Rattle.std.specs.Prelude.{position, IfSome, IsSome}
use Rattle.std.specs.Option.{option_map}
use Rattle.jack_types.specs.declared.ports.Port.{Port}
use Rattle.jack_types.specs.declared.ports.PortId.{PortId}
use Rattle.session_model.specs.Ids.{port_with}
use Rattle.port_registry.proofs.PlaceLemmas.{position-at, position-at-some, position-find, position-find_none}
use Rattle.std.proofs.lemmas.List.Quantifiers.{position-Some}

nothing : (V : Type 0) → IsSome {T = V} None → ⊥
nothing V e = cc

pub port_found : {V : Type 0} (ports : List Port) (id : PortId) (place : ℕ) (found : Option V) (now : V → Port) → position (λ (port : Port). port.id.0 == id.0) ports ≡ Some place
    → (place < length ports → IsSome found) → IfSome found (λ v. now v ≡ get_or ports place (now v)) → option_map now found ≡ port_with ports id
port_found {V} ports id place (Some v) now at there is =
    ap Some is ∙ sym (position-at (λ (port : Port). port.id.0 == id.0) ports place (now v) at).0 ∙ position-find (λ (port : Port). port.id.0 == id.0) ports place at
port_found {V} ports id place None now at there is =
    let x = position-at-some (λ (port : Port). port.id.0 == id.0) ports place at in
    absurd (nothing V (there (position-Some (λ (port : Port). port.id.0 == id.0) ports place x.0 at).0))

pub port_missing : (ports : List Port) (id : PortId) → position (λ (port : Port). port.id.0 == id.0) ports ≡ None → None ≡ port_with ports id
port_missing ports id none = sym (position-find_none (λ (port : Port). port.id.0 == id.0) ports none)
