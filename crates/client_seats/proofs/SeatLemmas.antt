-- What the steps of a seating come to.
--     same-bench, owner-cases      where each bench went, and who has it now
--     HasNoPast-after      no client of these nodes lost its guest
--     count-same      there are as many benches
--     bench-within, bench-behind      a client's bench is there, and not among those of lower nodes
--     seated-more      one client more at its place
use Rattle.std.proofs.Common.{◌≡◌, ℕ, ◌+◌, ◌<◌, ◌≤◌, ◌≢◌, ◌⊎◌, inl, inr, List, length, Some, sym, ◌∙◌, ap, subst, arith}
use Rattle.std.specs.List.{Contains}
use Rattle.std.proofs.lemmas.Bool.{cases_eq, cases_lt}
use Rattle.std.proofs.lemmas.List.{length-map}
use Rattle.std.proofs.lemmas.List.Sorted.{length_permutation}
use Rattle.session_model.specs.Benches.{node_at}
use Rattle.session_model.specs.State.{OpenClient}
use Rattle.session_model.specs.Kinds.{Sound}
use Rattle.bench_rack.specs.client_kinds.specs.Scores.{Score}
use Rattle.bench_rack.specs.client_benches.specs.Seen.{Remembered as Kept, Seen}
use Rattle.bench_rack.specs.Racks.{Racked, bench_at}
use Rattle.client_seats.specs.Owners.{Owned, owner_at}
use Rattle.client_seats.specs.Seatings.{AreApart, HasBench, HasNoPast, IsSeating, kind_at}
use Rattle.client_seats.proofs.PlaceLemmas.{owner_within}
use Rattle.client_seats.specs.Moves.{Brings, HadBench, HasNewBench, LostGuest, Moves, kinds_of}

pub same-bench : (sound : Score → Sound) → (nodes : List OpenClient) (rack : Racked) (owned : Owned) (after : Racked) (owned_after : Owned) → IsSeating rack owned → (Moves sound) nodes rack owned after owned_after
    → (p q birth : ℕ) → owner_at owned p ≡ Some birth → owner_at owned_after q ≡ Some birth → (bench_at after q).kept ≡ (bench_at rack p).kept
same-bench sound nodes rack owned after owned_after s m p q birth h k = go (m.from q birth k)
  where
    go : HadBench rack owned after birth q ⊎ (HasNewBench sound) nodes owned after birth q → (bench_at after q).kept ≡ (bench_at rack p).kept
    go (inl v) = v.same ∙ ap (λ r. (bench_at rack r).kept) (s.apart v.before p birth v.owner h)
    go (inr v) = absurd (v.none p h)

pub owner-cases : (sound : Score → Sound) → (nodes : List OpenClient) (rack : Racked) (owned : Owned) (after : Racked) (owned_after : Owned) → (Moves sound) nodes rack owned after owned_after
    → (p birth : ℕ) → owner_at owned_after p ≡ Some birth
    → ((q : ℕ) × (owner_at owned q ≡ Some birth) × (kind_at after p ≡ kind_at rack q)) ⊎ ((n : ℕ) × (n < length nodes) × ((node_at nodes n).birth ≡ birth) × (kind_at after p ≡ (node_at nodes n).kind))
owner-cases sound nodes rack owned after owned_after m p birth h = go (m.from p birth h)
  where
    go : HadBench rack owned after birth p ⊎ (HasNewBench sound) nodes owned after birth p
        → ((q : ℕ) × (owner_at owned q ≡ Some birth) × (kind_at after p ≡ kind_at rack q)) ⊎ ((n : ℕ) × (n < length nodes) × ((node_at nodes n).birth ≡ birth) × (kind_at after p ≡ (node_at nodes n).kind))
    go (inl v) = inl (v.before, v.owner, ap (λ (k : Kept). k.standing.kind) v.same)
    go (inr v) = inr (v.n, v.node, v.client, v.kind)

pub HasNoPast-after : (sound : Score → Sound) → (nodes : List OpenClient) (rack : Racked) (owned : Owned) (after : Racked) (owned_after : Owned) → (Moves sound) nodes rack owned after owned_after
    → HasNoPast nodes owned → HasNoPast nodes owned_after
HasNoPast-after sound nodes rack owned after owned_after m past n kept node c e = go (m.past kept c)
  where
    go : Contains owned.past kept ⊎ LostGuest nodes rack owned kept.birth → ⊥
    go (inl d) = past n kept node d e
    go (inr l) = l.none n node e

pub count-same : (sound : Score → Sound) → (nodes : List OpenClient) (rack : Racked) (owned : Owned) (after : Racked) (owned_after : Owned) → (Moves sound) nodes rack owned after owned_after → length after.benches ≡ length rack.benches
count-same sound nodes rack owned after owned_after m =
    sym (length-map after.benches (λ (x : Seen). x.kept.standing.kind)) ∙ length_permutation (kinds_of rack) (kinds_of after) m.kinds ∙ length-map rack.benches (λ (x : Seen). x.kept.standing.kind)

pub bench-within : (nodes : List OpenClient) (rack : Racked) (owned : Owned) (n p : ℕ) → IsSeating rack owned → HasBench nodes rack owned n p → p < length rack.benches
bench-within nodes rack owned n p s h = subst (λ k. p < k) s.as_many (owner_within owned.births p (node_at nodes n).birth h.owner)

pub bench-behind : (nodes : List OpenClient) (rack : Racked) (owned : Owned) (n p : ℕ) → n < length nodes → AreApart nodes
    → ((m : ℕ) → m < n → HasBench nodes rack owned m m) → HasBench nodes rack owned n p → n ≤ p
bench-behind nodes rack owned n p node apart lower h = go (cases_lt p n)
  where
    go : (p < n) ⊎ (n ≤ p) → n ≤ p
    go (inr le) = le
    go (inl lt) =
        let k : Some (node_at nodes p).birth ≡ Some (node_at nodes n).birth = sym (lower p lt).owner ∙ h.owner in
        let e : (node_at nodes p).birth ≡ (node_at nodes n).birth = cc in
        let same : p ≡ n = apart p n (omega (arith, lt, node)) node e in
        omega (arith, same)

pub seated-more : (sound : Score → Sound) → (nodes : List OpenClient) (rack : Racked) (owned : Owned) (after : Racked) (owned_after : Owned) (n p : ℕ) → n ≤ p
    → (Brings sound) rack owned after owned_after p n → ((m : ℕ) → m < n → HasBench nodes rack owned m m) → HasBench nodes rack owned n p
    → (m : ℕ) → m < n + 1 → HasBench nodes after owned_after m m
seated-more sound nodes rack owned after owned_after n p behind b lower h m lt = go (cases_eq m n)
  where
    go : (m ≡ n) ⊎ (m ≢ n) → HasBench nodes after owned_after m m
    go (inl e) = subst (λ k. HasBench nodes after owned_after k k) (sym e) (b.there nodes n h)
    go (inr d) =
        let less : m < n = omega (arith, d, lt) in
        b.others nodes m m (λ e. absurd (omega (arith, e, less, behind))) d (lower m less)
