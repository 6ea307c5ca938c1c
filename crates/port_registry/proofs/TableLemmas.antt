-- A table of ports as ports come, go and change.
use Rattle.std.proofs.Common.{◌≡◌, ◌≢◌, ℕ, zero, suc, ◌+◌, ◌<◌, ◌≤◌, ◌==◌, Bool, true, false, cond, not, if◌then◌else◌, List, [], ◌∷◌, ◌++◌, length, map, filter, remove, slice_get, set, position, Option, Some, None, is_some, IsSome, ◌⊎◌, inl, inr, refl, sym, ◌∙◌, ap, subst, arith}
use Rattle.std.proofs.Common.{length-append}
use Rattle.std.proofs.lemmas.Bool.{cases_eq}
use Rattle.std.proofs.lemmas.Bool.Decides.{nat_tests}
use Rattle.slab.specs.Slab.{Slab, get, slab_len, Updates}
use Rattle.session_laws.specs.jack_types.specs.declared.ports.Port.{Port}
use Rattle.session_laws.specs.jack_types.specs.declared.ports.PortId.{PortId}
use Rattle.session_laws.specs.session_model.specs.Soundness.{Apart}
use Rattle.session_laws.proofs.SoundLemmas.{Apart-filter}
use Rattle.port_registry.specs.Listings.{bears, without_id, with_id_active, IsTable}
use Rattle.port_registry.proofs.PlaceLemmas.{some_same, none_some, slice_get-below, slice_get-push, slice_get-remove, position-only, position-none, remove-filter, filter-none_passes, set-map, map-none_passes, IsOnlyAt, Apart-placed, Apart-place}

bears-same : (id : PortId) (port : Port) → bears id port ≡ true → port.id.0 ≡ id.0
bears-same id port h = grind (arith, nat_tests)

bears-is : (id : PortId) (port : Port) → port.id.0 ≡ id.0 → bears id port ≡ true
bears-is id port h = grind (arith, nat_tests)

module _ (ports : List Port) (places : Slab ℕ) (table : IsTable ports places) where
  pub ids-apart : Apart (λ (port : Port). port.id.0) ports
  ids-apart = Apart-placed (λ (port : Port). port.id.0) (get places) 0 ports (λ i port e. table.placed i port e ∙ ap Some (from_zero i))
    where
      from_zero : (i : ℕ) → i ≡ 0 + i
      from_zero i = omega arith

  -- whoever bears the id stands at its place
  bearer-place : (id : PortId) (k : ℕ) (port : Port) → slice_get ports k ≡ Some port → bears id port ≡ true → get places id.0 ≡ Some k
  bearer-place id k port e b = ap (get places) (sym (bears-same id port b)) ∙ table.placed k port e

  only_bearer : (id : PortId) (i : ℕ) → get places id.0 ≡ Some i → IsOnlyAt (bears id) ports i
  only_bearer id i g k port e b = some_same (sym (bearer-place id k port e b) ∙ g)

  pub place-found : (id : PortId) (i : ℕ) (port : Port) → get places id.0 ≡ Some i → slice_get ports i ≡ Some port → port.id ≡ id → position (bears id) ports ≡ Some i
  place-found id i port g e same = position-only (bears id) ports i port e (bears-is id port (ap (λ (x : PortId). x.0) same)) (only_bearer id i g)

  pub place-vacant : (id : PortId) → get places id.0 ≡ None → position (bears id) ports ≡ None
  place-vacant id g = position-none (bears id) ports (λ k port e b. none_some (sym g ∙ bearer-place id k port e b))

  pub place-past : (id : PortId) (i : ℕ) → get places id.0 ≡ Some i → slice_get ports i ≡ None → position (bears id) ports ≡ None
  place-past id i g past = position-none (bears id) ports (λ k port e b. none_some (sym past ∙ ap (slice_get ports) (sym (only_bearer id i g k port e b)) ∙ e))

  pub place-other : (id : PortId) (i : ℕ) (port : Port) → get places id.0 ≡ Some i → slice_get ports i ≡ Some port → (port.id ≡ id → ⊥) → position (bears id) ports ≡ None
  place-other id i port g e other = position-none (bears id) ports (λ k p f b.
      other (whole (port.id) id (ap (λ (q : Port). q.id.0) (some_same (sym e ∙ ap (slice_get ports) (sym (only_bearer id i g k p f b)) ∙ f)) ∙ bears-same id p b)))
    where
      whole : (a b : PortId) → a.0 ≡ b.0 → a ≡ b
      whole a b h j = record { 0 = h j }

  -- one more port, under an id that had none
  pub IsTable-added : (more : Slab ℕ) (port : Port) → get places port.id.0 ≡ None → Updates places more port.id.0 (Some (length ports)) → port.id.0 < 2064
      → slab_len more ≡ slab_len places + 1 → more.capacity ≡ places.capacity → IsTable (ports ++ port ∷ []) more
  IsTable-added more port vacant updates low len capacity = record {
    placed = λ i other e. at i other (slice_get-push ports port i other e);
    below = λ i other e. low_at i other (slice_get-push ports port i other e);
    counted = longer;
    all_ids = capacity ∙ table.all_ids;
  }
    where
      longer : slab_len more ≡ length (ports ++ port ∷ [])
      longer = let counted : slab_len places ≡ length ports = table.counted in
          let pushed : length (ports ++ port ∷ []) ≡ length ports + 1 = length-append ports (port ∷ []) in
          omega (arith, len, counted, pushed)

      apart : (i : ℕ) (other : Port) → slice_get ports i ≡ Some other → other.id.0 ≢ port.id.0
      apart i other e same = none_some (sym vacant ∙ ap (get places) (sym same) ∙ table.placed i other e)

      at : (i : ℕ) (other : Port) → (slice_get ports i ≡ Some other) ⊎ ((i ≡ length ports) × (port ≡ other)) → get more other.id.0 ≡ Some i
      at i other (inl e) = updates.others other.id.0 (apart i other e) ∙ table.placed i other e
      at i other (inr p) = ap (λ (q : Port). get more q.id.0) (sym p.1) ∙ updates.changed ∙ ap Some (sym p.0)

      low_at : (i : ℕ) (other : Port) → (slice_get ports i ≡ Some other) ⊎ ((i ≡ length ports) × (port ≡ other)) → other.id.0 < 2064
      low_at i other (inl e) = table.below i other e
      low_at i other (inr p) = subst (λ (q : Port). q.id.0 < 2064) p.1 low

  module _ (id : PortId) (i : ℕ) (port : Port) (found : slice_get ports i ≡ Some port) (same : bears id port ≡ true) where
    pub at_place : get places id.0 ≡ Some i
    at_place = bearer-place id i port found same

    pub removed-ports : remove ports i ≡ without_id ports id
    removed-ports = remove-filter (bears id) ports i port found same (only_bearer id i at_place)

    pub set-ports : (active : Bool) → set ports i (record port { active = active }) ≡ with_id_active active ports id
    set-ports active = set-map (bears id) (λ (p : Port). record p { active = active }) ports i port found same (only_bearer id i at_place)

    pub removed-apart : Apart (λ (p : Port). p.id.0) (remove ports i)
    removed-apart = subst (λ ps. Apart (λ (p : Port). p.id.0) ps) (sym removed-ports) (Apart-filter (λ (p : Port). p.id.0) (λ p. not (bears id p)) ports ids-apart)

    -- where an item that stays stood
    stood : (k : ℕ) (other : Port) → slice_get (remove ports i) k ≡ Some other → (j : ℕ) × (slice_get ports j ≡ Some other) × (j ≢ i) × (k < i → j ≡ k)
    stood k other e = go (slice_get-remove ports i k other e)
      where
        go : ((k < i) × (slice_get ports k ≡ Some other)) ⊎ ((i ≤ k) × (slice_get ports (suc k) ≡ Some other)) → (j : ℕ) × (slice_get ports j ≡ Some other) × (j ≢ i) × (k < i → j ≡ k)
        go (inl p) = let low : k < i = p.0 in (k, p.1, (λ q. absurd (omega (arith, low, q))), (λ q. refl))
        go (inr p) = let high : i ≤ k = p.0 in (suc k, p.1, (λ q. absurd (omega (arith, high, q))), (λ q. absurd (omega (arith, high, q))))

    differs : (j : ℕ) (other : Port) → slice_get ports j ≡ Some other → j ≢ i → other.id.0 ≢ id.0
    differs j other e far q = far (some_same (sym (table.placed j other e) ∙ ap (get places) q ∙ at_place))

    module _ (fewer : Slab ℕ) (updates : Updates places fewer id.0 None) where
      pub stays-there : (k : ℕ) (other : Port) → slice_get (remove ports i) k ≡ Some other → IsSome (get fewer other.id.0)
      stays-there k other e =
          let w : (j : ℕ) × (slice_get ports j ≡ Some other) × (j ≢ i) × (k < i → j ≡ k) = stood k other e in
          let kept : get fewer other.id.0 ≡ Some w.0 = updates.others other.id.0 (differs w.0 other w.1 w.2) ∙ table.placed w.0 other w.1 in
          ap is_some kept

      pub stays-before : (k : ℕ) (other : Port) → slice_get (remove ports i) k ≡ Some other → k < i → get fewer other.id.0 ≡ Some k
      stays-before k other e low =
          let w : (j : ℕ) × (slice_get ports j ≡ Some other) × (j ≢ i) × (k < i → j ≡ k) = stood k other e in
          updates.others other.id.0 (differs w.0 other w.1 w.2) ∙ table.placed w.0 other w.1 ∙ ap Some (w.3 low)

    pub IsTable-removed : (settled : Slab ℕ) → ((k : ℕ) (other : Port) → slice_get (remove ports i) k ≡ Some other → get settled other.id.0 ≡ Some k)
        → slab_len settled + 1 ≡ slab_len places → length (remove ports i) + 1 ≡ length ports → settled.capacity ≡ places.capacity → IsTable (remove ports i) settled
    IsTable-removed settled placed len fewer capacity = record {
      placed = placed;
      below = λ k other e. let w : (j : ℕ) × (slice_get ports j ≡ Some other) × (j ≢ i) × (k < i → j ≡ k) = stood k other e in table.below w.0 other w.1;
      counted = let counted : slab_len places ≡ length ports = table.counted in omega (arith, len, fewer, counted);
      all_ids = capacity ∙ table.all_ids;
    }

  pub without-absent : (id : PortId) → position (bears id) ports ≡ None → without_id ports id ≡ ports
  without-absent id h = filter-none_passes (bears id) ports h

  pub active-absent : (active : Bool) (id : PortId) → position (bears id) ports ≡ None → with_id_active active ports id ≡ ports
  active-absent active id h = map-none_passes (bears id) (λ (p : Port). record p { active = active }) ports h

-- one more port is told its place again
module _ (ports : List Port) (apart : Apart (λ (port : Port). port.id.0) ports) (old new : Slab ℕ) (at : ℕ) (port : Port) (here : slice_get ports at ≡ Some port) (updates : Updates old new port.id.0 (Some at)) where
  kept : (i : ℕ) (other : Port) → slice_get ports i ≡ Some other → (get new other.id.0 ≡ Some at) ⊎ (get new other.id.0 ≡ get old other.id.0)
  kept i other e = elim (cases_eq other.id.0 port.id.0) [
    | inl same ↦ inl (ap (get new) same ∙ updates.changed)
    | inr differs ↦ inr (updates.others other.id.0 differs)
  ]

  pub settled-there : ((i : ℕ) (other : Port) → slice_get ports i ≡ Some other → IsSome (get old other.id.0)) → (i : ℕ) (other : Port) → slice_get ports i ≡ Some other → IsSome (get new other.id.0)
  settled-there there i other e = elim (kept i other e) [
    | inl told ↦ ap is_some told
    | inr same ↦ ap is_some same ∙ there i other e
  ]

  pub settled-before : ((i : ℕ) (other : Port) → slice_get ports i ≡ Some other → i < at → get old other.id.0 ≡ Some i)
      → (i : ℕ) (other : Port) → slice_get ports i ≡ Some other → i < at + 1 → get new other.id.0 ≡ Some i
  settled-before before i other e low = elim (cases_eq i at) [
    | inl same ↦ ap (λ (p : Port). get new p.id.0) (some_same (sym e ∙ ap (slice_get ports) same ∙ here)) ∙ updates.changed ∙ ap Some (sym same)
    | inr far ↦ elim (cases_eq other.id.0 port.id.0) [
      | inl same ↦ absurd (far (Apart-place (λ (p : Port). p.id.0) ports i at other port apart e here same))
      | inr differs ↦ updates.others other.id.0 differs ∙ before i other e (omega arith)
    ]
  ]
