-- What changes, step by step.
--     Moves-refl, Moves-trans      nothing, and one change after another
use Rattle.std.proofs.Common.{◌≡◌, ℕ, ◌⊎◌, inl, inr, List, refl, sym, ◌∙◌, ap, subst, Some, map}
use Rattle.std.specs.List.{Contains}
use Rattle.std.proofs.lemmas.List.Sorted.{IsPermutation-refl, IsPermutation-trans}
use Rattle.session_model.specs.Benches.{node_at}
use Rattle.session_model.specs.Kinds.{first, Memory}
use Rattle.session_model.specs.State.{OpenClient}
use Rattle.session_model.specs.Kinds.{Sound}
use Rattle.bench_rack.specs.client_kinds.specs.Scores.{Score}
use Rattle.bench_rack.specs.client_benches.specs.Seen.{Remembered as Kept}
use Rattle.bench_rack.specs.Racks.{Racked}
use Rattle.driver_laws.specs.Drivers.{Remembered}
use Rattle.client_seats.specs.Owners.{Owned, owner_at}
use Rattle.client_seats.specs.Seatings.{IsSeating, standing_at}
use Rattle.client_seats.specs.Moves.{HadBench, HasBenchYet, HasNewBench, LostGuest, Moves, kinds_of}

pub Moves-refl : (sound : Score → Sound) → (nodes : List OpenClient) (rack : Racked) (owned : Owned) → (Moves sound) nodes rack owned rack owned
Moves-refl sound nodes rack owned = record {
  from = λ place birth h. inl (record { before = place; owner = h; same = refl });
  onward = λ place birth h. inl (record { place = place; owner = h; same = refl });
  past = λ kept c. inl c;
  past_stays = λ kept c. c;
  kinds = IsPermutation-refl (kinds_of rack);
  periods = λ period all. all;
  idle = λ i. i;
  scores = refl;
  links = refl;
}

pub Moves-trans : (sound : Score → Sound) → (nodes : List OpenClient) (rack : Racked) (owned : Owned) (between : Racked) (owned_between : Owned) (after : Racked) (owned_after : Owned)
    → (Moves sound) nodes rack owned between owned_between → (Moves sound) nodes between owned_between after owned_after → IsSeating after owned_after
    → (Moves sound) nodes rack owned after owned_after
Moves-trans sound nodes rack owned between owned_between after owned_after m n s = record {
  from = λ place birth h. from_of place birth h (n.from place birth h);
  onward = λ place birth h. onward_of place birth (m.onward place birth h);
  past = λ kept c. past_of kept (n.past kept c);
  past_stays = λ kept c. n.past_stays kept (m.past_stays kept c);
  kinds = IsPermutation-trans (kinds_of rack) (kinds_of between) (kinds_of after) m.kinds n.kinds;
  periods = λ period all. n.periods period (m.periods period all);
  idle = λ i. n.idle (m.idle i);
  scores = n.scores ∙ m.scores;
  links = n.links ∙ m.links;
}
  where
    not_before : (place birth p : ℕ) → owner_at owned_after place ≡ Some birth → (HasNewBench sound) nodes owned_between after birth place
        → HasBenchYet rack between owned_between birth p ⊎ Contains owned_between.past (record { birth = birth; memory = (standing_at rack p).memory }) → ⊥
    not_before place birth p h w (inl y) = w.none y.place y.owner
    not_before place birth p h w (inr c) = s.past (record { birth = birth; memory = (standing_at rack p).memory }) place (n.past_stays _ c) h

    had : (place birth : ℕ) (w : HadBench between owned_between after birth place)
        → HadBench rack owned between birth w.before ⊎ (HasNewBench sound) nodes owned between birth w.before
        → HadBench rack owned after birth place ⊎ (HasNewBench sound) nodes owned after birth place
    had place birth w (inl v) = inl (record { before = v.before; owner = v.owner; same = w.same ∙ v.same })
    had place birth w (inr v) = inr (record {
      n = v.n;
      node = v.node;
      client = v.client;
      kind = ap (λ (k : Kept). k.standing.kind) w.same ∙ v.kind;
      memory = ap (λ (k : Kept). k.standing.memory) w.same ∙ v.memory;
      none = v.none;
    })

    from_of : (place birth : ℕ) → owner_at owned_after place ≡ Some birth → HadBench between owned_between after birth place ⊎ (HasNewBench sound) nodes owned_between after birth place
        → HadBench rack owned after birth place ⊎ (HasNewBench sound) nodes owned after birth place
    from_of place birth h (inl w) = had place birth w (m.from w.before birth w.owner)
    from_of place birth h (inr w) = inr (record {
      n = w.n;
      node = w.node;
      client = w.client;
      kind = w.kind;
      memory = w.memory ∙ ap (λ scores. first (map sound scores) (node_at nodes w.n).kind) m.scores;
      none = λ p k. not_before place birth p h w (m.onward p birth k);
    })

    yet : (place birth : ℕ) (y : HasBenchYet rack between owned_between birth place)
        → HasBenchYet between after owned_after birth y.place ⊎ Contains owned_after.past (record { birth = birth; memory = (standing_at between y.place).memory })
        → HasBenchYet rack after owned_after birth place ⊎ Contains owned_after.past (record { birth = birth; memory = (standing_at rack place).memory })
    yet place birth y (inl z) = inl (record { place = z.place; owner = z.owner; same = z.same ∙ y.same })
    yet place birth y (inr c) = inr (subst (λ (memory : Memory). Contains owned_after.past (record { birth = birth; memory = memory })) (ap (λ (k : Kept). k.standing.memory) y.same) c)

    onward_of : (place birth : ℕ) → HasBenchYet rack between owned_between birth place ⊎ Contains owned_between.past (record { birth = birth; memory = (standing_at rack place).memory })
        → HasBenchYet rack after owned_after birth place ⊎ Contains owned_after.past (record { birth = birth; memory = (standing_at rack place).memory })
    onward_of place birth (inl y) = yet place birth y (n.onward y.place birth y.owner)
    onward_of place birth (inr c) = inr (n.past_stays _ c)

    lost : (kept : Remembered) (l : LostGuest nodes between owned_between kept.birth)
        → HadBench rack owned between kept.birth l.place ⊎ (HasNewBench sound) nodes owned between kept.birth l.place → LostGuest nodes rack owned kept.birth
    lost kept l (inl v) = record {
      place = v.before;
      guest = l.guest;
      n = l.n;
      owner = v.owner;
      kind = sym (ap (λ (k : Kept). k.standing.kind) v.same) ∙ l.kind;
      node = l.node;
      node_kind = l.node_kind;
      none = l.none;
    }
    lost kept l (inr v) = absurd (l.none v.n v.node v.client)

    past_of : (kept : Remembered) → Contains owned_between.past kept ⊎ LostGuest nodes between owned_between kept.birth → Contains owned.past kept ⊎ LostGuest nodes rack owned kept.birth
    past_of kept (inl c) = m.past kept c
    past_of kept (inr l) = inr (lost kept l (m.from l.place kept.birth l.owner))
