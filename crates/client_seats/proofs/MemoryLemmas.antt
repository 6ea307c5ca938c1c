-- The memories of clients.
--     memory-owned, memory-past      the memory of a client that owns a bench, and of one of the past
--     owned_or_not, found_past      who owns a bench; what is found of who owns none
--     owned_or_not, found_past      who owns a bench, and what is found of who owns none
--     memory-cases      who has a memory is one of these
--     memory-kept, memory-fresh      what changes leave, and what they add
use Rattle.std.proofs.Common.{◌≡◌, ◌≢◌, ℕ, zero, suc, ◌<◌, Bool, true, false, cond, eqb, ◌==◌, ◌⊎◌, inl, inr, List, [], ◌∷◌, ◌++◌, length, get_or, find, Option, Some, None, option_map, refl, sym, ◌∙◌, ap, subst, arith, map}
use Rattle.std.specs.List.{Contains}
use Rattle.std.specs.Option.{option_map_or}
use Rattle.std.proofs.lemmas.Bool.Decides.{eqb_tells}
use Rattle.jack_types.specs.declared.kinds.Kind.TheVariants.{Pass}
use Rattle.session_model.specs.Benches.{node_at}
use Rattle.session_model.specs.Kinds.{first, Memory}
use Rattle.session_model.specs.State.{OpenClient}
use Rattle.session_model.specs.Kinds.{Sound}
use Rattle.bench_rack.specs.client_kinds.specs.Scores.{Score}
use Rattle.session_laws.proofs.LoopLemmas.{Contains-cases, Contains-first, Contains-later}
use Rattle.bench_rack.specs.client_benches.specs.Seen.{Remembered as Kept, Seen, new_bench}
use Rattle.bench_rack.specs.Racks.{Racked}
use Rattle.driver_laws.specs.Drivers.{Remembered}
use Rattle.client_seats.specs.Owners.{Owned, owner_at}
use Rattle.client_seats.specs.Seatings.{IsNobodys, IsSeating, memory_of, owned_memories, standing_at}
use Rattle.client_seats.specs.Moves.{HadBench, HasBenchYet, HasNewBench, LostGuest, Moves}
use Rattle.client_seats.proofs.PlaceLemmas.{owner_within}

abbrev born : ℕ → Remembered → Bool
born birth kept = kept.birth == birth

found_there : (births : List (Option ℕ)) (benches : List Seen) (past : List Remembered) (p birth : ℕ) → p < length benches → get_or births p None ≡ Some birth
    → ((q : ℕ) → get_or births q None ≡ Some birth → q ≡ p)
    → find (born birth) (owned_memories births benches ++ past) ≡ Some (record { birth = birth; memory = (get_or benches p (new_bench Pass 0)).kept.standing.memory })
found_there [] benches past p birth w h apart = cc
found_there (x ∷ births) [] past p birth w h apart = absurd (omega arith)
found_there (None ∷ births) (bench ∷ benches) past zero birth w h apart = cc
found_there (None ∷ births) (bench ∷ benches) past (suc p) birth w h apart =
    found_there births benches past p birth (omega arith) h (λ q k. let e : suc q ≡ suc p = apart (suc q) k in omega (arith, e))
found_there (Some b ∷ births) (bench ∷ benches) past zero birth w h apart = go (eqb_tells b birth)
  where
    same : b ≡ birth
    same = cc

    go : ((eqb b birth ≡ true) × (b ≡ birth)) ⊎ ((eqb b birth ≡ false) × (b ≢ birth))
        → cond (b == birth) (Some (record { birth = b; memory = bench.kept.standing.memory })) (find (born birth) (owned_memories births benches ++ past))
        ≡ Some (record { birth = birth; memory = bench.kept.standing.memory })
    go (inl t) = ap (λ c. cond c (Some (record { birth = b; memory = bench.kept.standing.memory })) (find (born birth) (owned_memories births benches ++ past))) t.0
        ∙ ap (λ n. Some (record { birth = n; memory = bench.kept.standing.memory })) same
    go (inr f) = absurd (f.1 same)
found_there (Some b ∷ births) (bench ∷ benches) past (suc p) birth w h apart = go (eqb_tells b birth)
    (found_there births benches past p birth (omega arith) h (λ q k. let e : suc q ≡ suc p = apart (suc q) k in omega (arith, e)))
  where
    other : b ≢ birth
    other e = let z : zero ≡ suc p = apart zero (ap (λ n. Some n) e) in absurd (omega (arith, z))

    go : ((eqb b birth ≡ true) × (b ≡ birth)) ⊎ ((eqb b birth ≡ false) × (b ≢ birth))
        → find (born birth) (owned_memories births benches ++ past) ≡ Some (record { birth = birth; memory = (get_or benches p (new_bench Pass 0)).kept.standing.memory })
        → cond (b == birth) (Some (record { birth = b; memory = bench.kept.standing.memory })) (find (born birth) (owned_memories births benches ++ past))
        ≡ Some (record { birth = birth; memory = (get_or benches p (new_bench Pass 0)).kept.standing.memory })
    go (inl t) rest = absurd (other t.1)
    go (inr f) rest = ap (λ c. cond c (Some (record { birth = b; memory = bench.kept.standing.memory })) (find (born birth) (owned_memories births benches ++ past))) f.0 ∙ rest

pub found_past : (births : List (Option ℕ)) (benches : List Seen) (past : List Remembered) (birth : ℕ) → ((q : ℕ) → get_or births q None ≡ Some birth → ⊥)
    → find (born birth) (owned_memories births benches ++ past) ≡ find (born birth) past
found_past [] benches past birth none = refl
found_past (None ∷ births) [] past birth none = refl
found_past (Some b ∷ births) [] past birth none = refl
found_past (None ∷ births) (bench ∷ benches) past birth none = found_past births benches past birth (λ q h. none (suc q) h)
found_past (Some b ∷ births) (bench ∷ benches) past birth none = go (eqb_tells b birth) (found_past births benches past birth (λ q h. none (suc q) h))
  where
    go : ((eqb b birth ≡ true) × (b ≡ birth)) ⊎ ((eqb b birth ≡ false) × (b ≢ birth)) → find (born birth) (owned_memories births benches ++ past) ≡ find (born birth) past
        → cond (b == birth) (Some (record { birth = b; memory = bench.kept.standing.memory })) (find (born birth) (owned_memories births benches ++ past)) ≡ find (born birth) past
    go (inl t) rest = absurd (none zero (ap (λ n. Some n) t.1))
    go (inr f) rest = ap (λ c. cond c (Some (record { birth = b; memory = bench.kept.standing.memory })) (find (born birth) (owned_memories births benches ++ past))) f.0 ∙ rest

-- some place has an owner of this birth, or none has
pub owned_or_not : (births : List (Option ℕ)) (birth : ℕ) → ((p : ℕ) × (get_or births p None ≡ Some birth)) ⊎ ((p : ℕ) → get_or births p None ≡ Some birth → ⊥)
owned_or_not [] birth = inr (λ p h. cc)
owned_or_not (None ∷ births) birth = go (owned_or_not births birth)
  where
    go : ((p : ℕ) × (get_or births p None ≡ Some birth)) ⊎ ((p : ℕ) → get_or births p None ≡ Some birth → ⊥)
        → ((p : ℕ) × (get_or (None ∷ births) p None ≡ Some birth)) ⊎ ((p : ℕ) → get_or (None ∷ births) p None ≡ Some birth → ⊥)
    go (inl h) = inl (suc h.0, h.1)
    go (inr n) = inr none
      where
        none : (p : ℕ) → get_or (None ∷ births) p None ≡ Some birth → ⊥
        none zero k = cc
        none (suc p) k = n p k
owned_or_not (Some b ∷ births) birth = go (eqb_tells b birth) (owned_or_not births birth)
  where
    go : ((eqb b birth ≡ true) × (b ≡ birth)) ⊎ ((eqb b birth ≡ false) × (b ≢ birth))
        → ((p : ℕ) × (get_or births p None ≡ Some birth)) ⊎ ((p : ℕ) → get_or births p None ≡ Some birth → ⊥)
        → ((p : ℕ) × (get_or (Some b ∷ births) p None ≡ Some birth)) ⊎ ((p : ℕ) → get_or (Some b ∷ births) p None ≡ Some birth → ⊥)
    go (inl t) rest = inl (zero, ap (λ n. Some n) t.1)
    go (inr f) (inl h) = inl (suc h.0, h.1)
    go (inr f) (inr n) = inr none
      where
        none : (p : ℕ) → get_or (Some b ∷ births) p None ≡ Some birth → ⊥
        none zero k = let e : b ≡ birth = cc in f.1 e
        none (suc p) k = n p k

-- of clients of one birth in the past there is one
past_found : (past : List Remembered) (kept : Remembered) → Contains past kept → ((other : Remembered) → Contains past other → other.birth ≡ kept.birth → other ≡ kept)
    → find (born kept.birth) past ≡ Some kept
past_found [] kept c apart = absurd (omega (arith, c.1))
past_found (x ∷ past) kept c apart = go (eqb_tells x.birth kept.birth) (Contains-cases x kept past c)
    (λ d. past_found past kept d (λ other e. apart other (Contains-later x other past e)))
  where
    go : ((eqb x.birth kept.birth ≡ true) × (x.birth ≡ kept.birth)) ⊎ ((eqb x.birth kept.birth ≡ false) × (x.birth ≢ kept.birth)) → (x ≡ kept) ⊎ Contains past kept
        → (Contains past kept → find (born kept.birth) past ≡ Some kept) → cond (x.birth == kept.birth) (Some x) (find (born kept.birth) past) ≡ Some kept
    go (inl t) k rest = ap (λ b. cond b (Some x) (find (born kept.birth) past)) t.0 ∙ ap (λ (y : Remembered). Some y) (apart x (Contains-first x past) t.1)
    go (inr f) (inl e) rest = absurd (f.1 (ap (λ (y : Remembered). y.birth) e))
    go (inr f) (inr d) rest = ap (λ b. cond b (Some x) (find (born kept.birth) past)) f.0 ∙ rest d

-- who is found in the past is of this birth
past_tells : (past : List Remembered) (birth : ℕ) (kept : Remembered) → find (born birth) past ≡ Some kept → Contains past kept × (kept.birth ≡ birth)
past_tells [] birth kept h = cc
past_tells (x ∷ past) birth kept h = go (eqb_tells x.birth birth) (past_tells past birth kept)
  where
    go : ((eqb x.birth birth ≡ true) × (x.birth ≡ birth)) ⊎ ((eqb x.birth birth ≡ false) × (x.birth ≢ birth))
        → (find (born birth) past ≡ Some kept → Contains past kept × (kept.birth ≡ birth)) → Contains (x ∷ past) kept × (kept.birth ≡ birth)
    go (inl t) rest =
        let e : Some x ≡ Some kept = sym (ap (λ b. cond b (Some x) (find (born birth) past)) t.0) ∙ h in
        let same : x ≡ kept = cc in
        (subst (Contains (x ∷ past)) same (Contains-first x past), ap (λ (y : Remembered). y.birth) (sym same) ∙ t.1)
    go (inr f) rest =
        let r = rest (sym (ap (λ b. cond b (Some x) (find (born birth) past)) f.0) ∙ h) in
        (Contains-later x kept past r.0, r.1)

pub memory-owned : (rack : Racked) (owned : Owned) → IsSeating rack owned → (p birth : ℕ) → owner_at owned p ≡ Some birth → memory_of rack owned birth ≡ Some (standing_at rack p).memory
memory-owned rack owned s p birth h = ap (option_map (λ (kept : Remembered). kept.memory))
    (found_there owned.births rack.benches owned.past p birth (omega (arith, s.as_many, owner_within owned.births p birth h)) h (λ q k. s.apart q p birth k h))

pub memory-past : (rack : Racked) (owned : Owned) → IsSeating rack owned → (kept : Remembered) → Contains owned.past kept → memory_of rack owned kept.birth ≡ Some kept.memory
memory-past rack owned s kept c = ap (option_map (λ (k : Remembered). k.memory))
    (found_past owned.births rack.benches owned.past kept.birth (λ q h. s.past kept q c h) ∙ past_found owned.past kept c (λ other d e. s.past_apart other kept d c e))

-- a bench of this owner and of this memory
record OwnsMemory (rack : Racked) (owned : Owned) (birth : ℕ) (memory : Memory) : Type 0 where
  place : ℕ
  owner : owner_at owned place ≡ Some birth
  is : (standing_at rack place).memory ≡ memory

-- a client of the past of this birth and of this memory
record HadMemory (owned : Owned) (birth : ℕ) (memory : Memory) : Type 0 where
  kept : Remembered
  among : Contains owned.past kept
  client : kept.birth ≡ birth
  is : kept.memory ≡ memory

memory-cases : (rack : Racked) (owned : Owned) → IsSeating rack owned → (birth : ℕ) (memory : Memory) → memory_of rack owned birth ≡ Some memory
    → OwnsMemory rack owned birth memory ⊎ HadMemory owned birth memory
memory-cases rack owned s birth memory h = go (owned_or_not owned.births birth)
  where
    had : (found : Option Remembered) → find (born birth) owned.past ≡ found → option_map (λ (k : Remembered). k.memory) found ≡ Some memory → HadMemory owned birth memory
    had None e k = cc
    had (Some kept) e k = let t = past_tells owned.past birth kept e in record { kept = kept; among = t.0; client = t.1; is = cc }

    go : ((p : ℕ) × (owner_at owned p ≡ Some birth)) ⊎ ((p : ℕ) → owner_at owned p ≡ Some birth → ⊥) → OwnsMemory rack owned birth memory ⊎ HadMemory owned birth memory
    go (inl o) =
        let e : Some (standing_at rack o.0).memory ≡ Some memory = sym (memory-owned rack owned s o.0 birth o.1) ∙ h in
        inl (record { place = o.0; owner = o.1; is = cc })
    go (inr n) = inr (had (find (born birth) owned.past) refl (sym (ap (option_map (λ (k : Remembered). k.memory)) (found_past owned.births rack.benches owned.past birth n)) ∙ h))

pub memory-kept : (sound : Score → Sound) → (nodes : List OpenClient) (rack : Racked) (owned : Owned) (after : Racked) (owned_after : Owned) → IsSeating rack owned → IsSeating after owned_after
    → (Moves sound) nodes rack owned after owned_after → (birth : ℕ) (memory : Memory) → memory_of rack owned birth ≡ Some memory → memory_of after owned_after birth ≡ Some memory
memory-kept sound nodes rack owned after owned_after s t m birth memory h = go (memory-cases rack owned s birth memory h)
  where
    still : (o : OwnsMemory rack owned birth memory)
        → HasBenchYet rack after owned_after birth o.place ⊎ Contains owned_after.past (record { birth = birth; memory = (standing_at rack o.place).memory })
        → memory_of after owned_after birth ≡ Some memory
    still o (inl y) = memory-owned after owned_after t y.place birth y.owner ∙ ap (λ (k : Kept). Some k.standing.memory) y.same ∙ ap (λ (x : Memory). Some x) o.is
    still o (inr c) = memory-past after owned_after t (record { birth = birth; memory = (standing_at rack o.place).memory }) c ∙ ap (λ (x : Memory). Some x) o.is

    go : OwnsMemory rack owned birth memory ⊎ HadMemory owned birth memory → memory_of after owned_after birth ≡ Some memory
    go (inl o) = still o (m.onward o.place birth o.owner)
    go (inr k) = subst (λ b. memory_of after owned_after b ≡ Some memory) k.client
        (memory-past after owned_after t k.kept (m.past_stays k.kept k.among) ∙ ap (λ (x : Memory). Some x) k.is)

pub memory-fresh : (sound : Score → Sound) → (nodes : List OpenClient) (rack : Racked) (owned : Owned) (after : Racked) (owned_after : Owned) → IsSeating rack owned → IsSeating after owned_after
    → (Moves sound) nodes rack owned after owned_after → (birth : ℕ) (memory : Memory) → memory_of rack owned birth ≡ None → memory_of after owned_after birth ≡ Some memory
    → (n : ℕ) × (n < length nodes) × ((node_at nodes n).birth ≡ birth) × (memory ≡ first (map sound owned.scores) (node_at nodes n).kind)
memory-fresh sound nodes rack owned after owned_after s t m birth memory none some = go (memory-cases after owned_after t birth memory some)
  where
    new : (o : OwnsMemory after owned_after birth memory) → HadBench rack owned after birth o.place ⊎ (HasNewBench sound) nodes owned after birth o.place
        → (n : ℕ) × (n < length nodes) × ((node_at nodes n).birth ≡ birth) × (memory ≡ first (map sound owned.scores) (node_at nodes n).kind)
    new o (inl v) = let e = memory-owned rack owned s v.before birth v.owner in cc
    new o (inr v) = (v.n, v.node, v.client, sym o.is ∙ v.memory)

    past : (k : HadMemory owned_after birth memory) → Contains owned.past k.kept ⊎ LostGuest nodes rack owned k.kept.birth → ⊥
    past k (inl c) = let e = memory-past rack owned s k.kept c in let f = ap (memory_of rack owned) k.client in cc
    past k (inr l) = let e = memory-owned rack owned s l.place k.kept.birth l.owner in let f = ap (memory_of rack owned) k.client in cc

    go : OwnsMemory after owned_after birth memory ⊎ HadMemory owned_after birth memory
        → (n : ℕ) × (n < length nodes) × ((node_at nodes n).birth ≡ birth) × (memory ≡ first (map sound owned.scores) (node_at nodes n).kind)
    go (inl o) = new o (m.from o.place birth o.owner)
    go (inr k) = absurd (past k (m.past k.kept k.among))

abbrev peak_or : Option Memory → ℕ
peak_or memory = option_map_or (λ (m : Memory). m.peak) memory 0

pub peak-owned : (rack : Racked) (owned : Owned) → IsSeating rack owned → (p birth : ℕ) → owner_at owned p ≡ Some birth
    → (standing_at rack p).memory.peak ≡ option_map_or (λ (m : Memory). m.peak) (memory_of rack owned birth) 0
peak-owned rack owned s p birth h = sym (ap peak_or (memory-owned rack owned s p birth h))

pub peak-none : (rack : Racked) (owned : Owned) → IsSeating rack owned → (birth : ℕ) → IsNobodys owned birth
    → 0 ≡ option_map_or (λ (m : Memory). m.peak) (memory_of rack owned birth) 0
peak-none rack owned s birth none = go (find (born birth) owned.past) refl
  where
    there : memory_of rack owned birth ≡ option_map (λ (k : Remembered). k.memory) (find (born birth) owned.past)
    there = ap (option_map (λ (k : Remembered). k.memory)) (found_past owned.births rack.benches owned.past birth none)

    go : (found : Option Remembered) → find (born birth) owned.past ≡ found → 0 ≡ option_map_or (λ (m : Memory). m.peak) (memory_of rack owned birth) 0
    go None k = sym (ap peak_or (there ∙ ap (option_map (λ (x : Remembered). x.memory)) k))
    go (Some kept) k = sym (ap peak_or (there ∙ ap (option_map (λ (x : Remembered). x.memory)) k) ∙ s.past_peaks kept (past_tells owned.past birth kept k).0)
