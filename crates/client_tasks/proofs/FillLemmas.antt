-- Wires that are filled one after the other.
--     mixed-here, mixed-other      where a joint has its samples from behind one step more
--     wires-filled      all wires of a node behind one step more
--     wires-first, wires-last      before the first step, and behind the last
--     own-at      a joint's wire stands behind those of the earlier joints of its node
--     others-filled      nothing but wires changes
--     known-same      what is known rests on what was given
use Rattle.std.proofs.Common.{◌≡◌, ◌≢◌, ℕ, zero, suc, ◌+◌, ◌<◌, ◌≤◌, Bool, true, false, cond, ◌==◌, ◌⊎◌, inl, inr, List, [], ◌∷◌, ◌++◌, length, map, filter, count_by, get_or, set, take, ℤ, Option, Some, None, refl, sym, ◌∙◌, ap, ap₂, subst, arith, eq-eqb}
use Rattle.std.proofs.lemmas.Bool.{cases_eq, cases_lt, le-ltb, lt-ltb}
use Rattle.std.proofs.lemmas.List.{get_or-map, length-map, map-append, set-append_left}
use Rattle.std.proofs.Math.Seq.{set-append_seam}
use Rattle.std.proofs.lemmas.List.Elements.{filter-append}
use Rattle.std.proofs.lemmas.List.Sums.{length-filter}
use Rattle.session_model.specs.Samples.{below}
use Rattle.session_laws.proofs.SequentialLemmas.{filter_below-at}
use Rattle.bench_rack.specs.client_benches.specs.Seen.{Seen}
use Rattle.bench_rack.specs.client_benches.specs.Wires.{filled_with, no_wire, wire_at}
use Rattle.bench_rack.specs.client_benches.specs.declared.wires.Source.{Source}
use Rattle.bench_rack.specs.client_benches.specs.declared.wires.Wire.{Wire}
use Rattle.client_wiring.specs.declared.joints.Joint.{Joint}
use Rattle.client_wiring.specs.declared.joints.Origin.{Origin}
use Rattle.client_wiring.specs.declared.joints.Origin.TheVariants.{Handed, Kept, Captured}
use Rattle.bench_rack.specs.Racks.{Racked, bench_at, filled, with_bench}
use Rattle.client_tasks.specs.Fillings.{kept_at, known_by, with_wires}
use Rattle.client_tasks.specs.Steps.{mixed, own_joints, with_samples_of}
use Rattle.client_tasks.specs.Tasks.{first_like, joint_at, source_by, wire_by}
use Rattle.client_tasks.proofs.ListLemmas.{eqb-no}
use Rattle.client_tasks.proofs.RackLemmas.{bench_at-other, bench_at-put, length-put}

none_below : {n : ℕ} → n < 0 → ⊥
none_below p = omega arith

pub mixed-here : (known sources : ℕ → List ℤ) (k : ℕ) → mixed known sources (k + 1) k ≡ known k
mixed-here known sources k = ap (λ b. cond b (known k) (sources k)) (lt-ltb k (k + 1) (omega arith))

pub mixed-other : (known sources : ℕ → List ℤ) (k i : ℕ) → i ≢ k → mixed known sources k i ≡ mixed known sources (k + 1) i
mixed-other known sources k i n = go (cases_lt i k)
  where
    go : (i < k) ⊎ (k ≤ i) → mixed known sources k i ≡ mixed known sources (k + 1) i
    go (inl h) = ap (λ b. cond b (known i) (sources i)) (lt-ltb i k h ∙ sym (lt-ltb i (k + 1) (omega (arith, h))))
    go (inr h) = ap (λ b. cond b (known i) (sources i)) (le-ltb i k h ∙ sym (le-ltb i (k + 1) (omega (arith, h, n))))

-- ---- the joints of a node

module _ {Y : Type 0} (p : ℕ → Bool) (f g : ℕ → Y) where
  map-all : (xs : List ℕ) → ((i : ℕ) → f i ≡ g i) → map f xs ≡ map g xs
  map-all [] same = refl
  map-all (x ∷ xs) same = ap₂ (λ y ys. y ∷ ys) (same x) (map-all xs same)

  one-more : (h : ℕ → Y) (m : ℕ) → map h (filter p (below (suc m))) ≡ map h (filter p (below m)) ++ map h (cond (p m) (m ∷ []) [])
  one-more h m = ap (map h) (filter-append p (below m) (m ∷ [])) ∙ map-append h (filter p (below m)) (filter p (m ∷ []))

  map-low : (m : ℕ) → ((i : ℕ) → i < m → f i ≡ g i) → map f (filter p (below m)) ≡ map g (filter p (below m))
  map-low zero same = refl
  map-low (suc m) same = one-more f m ∙ ap₂ ◌++◌ (map-low m (λ i h. same i (omega (arith, h)))) (last (p m)) ∙ sym (one-more g m)
    where
      last : (b : Bool) → map f (cond b (m ∷ []) []) ≡ map g (cond b (m ∷ []) [])
      last true = ap (λ y. y ∷ []) (same m (omega arith))
      last false = refl

  map-skip : (k m : ℕ) → p k ≡ false → ((i : ℕ) → i ≢ k → f i ≡ g i) → map f (filter p (below m)) ≡ map g (filter p (below m))
  map-skip k zero off same = refl
  map-skip k (suc m) off same = one-more f m ∙ ap₂ ◌++◌ (map-skip k m off same) (go (cases_eq m k)) ∙ sym (one-more g m)
    where
      last : (b : Bool) → f m ≡ g m → map f (cond b (m ∷ []) []) ≡ map g (cond b (m ∷ []) [])
      last true e = ap (λ y. y ∷ []) e
      last false e = refl

      go : (m ≡ k) ⊎ (m ≢ k) → map f (cond (p m) (m ∷ []) []) ≡ map g (cond (p m) (m ∷ []) [])
      go (inl e) = ap (λ b. map f (cond b (m ∷ []) [])) (ap p e ∙ off) ∙ sym (ap (λ b. map g (cond b (m ∷ []) [])) (ap p e ∙ off))
      go (inr n) = last (p m) (same m n)

  set-own : (k m : ℕ) (y : Y) → p k ≡ true → k < m → y ≡ g k → ((i : ℕ) → i ≢ k → f i ≡ g i) → set (map f (filter p (below m))) (length (filter p (below k))) y ≡ map g (filter p (below m))
  set-own k zero y on h here same = absurd (none_below h)
  set-own k (suc m) y on h here same = go (cases_eq k m) (λ l. set-own k m y on l here same)
    where
      place : ℕ
      place = length (filter p (below k))

      last : (b : Bool) → f m ≡ g m → map f (cond b (m ∷ []) []) ≡ map g (cond b (m ∷ []) [])
      last true e = ap (λ z. z ∷ []) e
      last false e = refl

      go : (k ≡ m) ⊎ (k ≢ m) → (k < m → set (map f (filter p (below m))) (length (filter p (below k))) y ≡ map g (filter p (below m)))
          → set (map f (filter p (below (suc m)))) (length (filter p (below k))) y ≡ map g (filter p (below (suc m)))
      go (inl e) rest =
          let on-m : p m ≡ true = ap p (sym e) ∙ on in
          let long : length (filter p (below k)) ≡ length (map f (filter p (below m))) = ap (λ n. length (filter p (below n))) e ∙ sym (length-map (filter p (below m)) f) in
          ap₂ (λ ys n. set ys n y) (one-more f m ∙ ap (λ b. map f (filter p (below m)) ++ map f (cond b (m ∷ []) [])) on-m) long
          ∙ set-append_seam (map f (filter p (below m))) (f m) [] y
          ∙ ap₂ (λ ys z. ys ++ z ∷ []) (map-low m (λ i l. same i (λ d. absurd (omega (arith, d, e, l))))) (here ∙ ap g e)
          ∙ ap (λ b. map g (filter p (below m)) ++ map g (cond b (m ∷ []) [])) (sym on-m)
          ∙ sym (one-more g m)
      go (inr n) rest =
          let low : k < m = omega (arith, h, n) in
          let at = filter_below-at p m k 0 low on in
          let within : length (filter p (below k)) < length (map f (filter p (below m))) = omega (arith, at.0, length-filter p (below k), length-map (filter p (below m)) f) in
          ap (λ ys. set ys (length (filter p (below k))) y) (one-more f m)
          ∙ set-append_left (map f (filter p (below m))) (map f (cond (p m) (m ∷ []) [])) (length (filter p (below k))) y within
          ∙ ap₂ ◌++◌ (rest low) (last (p m) (same m (λ e. n (sym e))))
          ∙ sym (one-more g m)

-- ---- wires

-- a joint's wire stands behind those of the earlier joints of its node
pub own-at : (joints : List Joint) (k : ℕ) → k < length joints
    → (length (own_joints joints (joint_at joints k).node k) < length (own_joints joints (joint_at joints k).node (length joints))) × (get_or (own_joints joints (joint_at joints k).node (length joints)) (length (own_joints joints (joint_at joints k).node k)) 0 ≡ k)
own-at joints k h =
    let at = filter_below-at (λ i. (joint_at joints i).node == (joint_at joints k).node) (length joints) k 0 h (eq-eqb (joint_at joints k).node (joint_at joints k).node refl) in
    let place : count_by (λ i. (joint_at joints i).node == (joint_at joints k).node) (below k) ≡ length (own_joints joints (joint_at joints k).node k) = sym (length-filter (λ i. (joint_at joints i).node == (joint_at joints k).node) (below k)) in (
      omega (arith, at.0, place),
      ap (λ n. get_or (own_joints joints (joint_at joints k).node (length joints)) n 0) (sym place) ∙ at.1,
    )

pub wire-there : (sources : ℕ → List ℤ) (joints : List Joint) (k : ℕ) (wires : List Wire) → k < length joints → wires ≡ map (wire_by sources joints) (own_joints joints (joint_at joints k).node (length joints))
    → (length (own_joints joints (joint_at joints k).node k) < length wires) × (wire_at wires (length (own_joints joints (joint_at joints k).node k)) ≡ wire_by sources joints k)
wire-there sources joints k wires h are = (
  omega (arith, (own-at joints k h).0, ap length are, length-map (own_joints joints (joint_at joints k).node (length joints)) (wire_by sources joints)),
  ap (λ (list : List Wire). wire_at list (length (own_joints joints (joint_at joints k).node k))) are
      ∙ get_or-map (wire_by sources joints) (own_joints joints (joint_at joints k).node (length joints)) (length (own_joints joints (joint_at joints k).node k)) 0 no_wire (own-at joints k h).0
      ∙ ap (wire_by sources joints) (own-at joints k h).1,
)

-- ---- what a wire is filled with

-- what is handed over is not filled, and neither is what another wire brings
source-handed : (like : Option ℕ) (before samples : List ℤ) (link connection : ℕ) → source_by like before (Handed link connection) ≡ source_by like samples (Handed link connection)
source-handed None before samples link connection = refl
source-handed (Some place) before samples link connection = refl

-- all else is filled, where no other wire brings it
source-kept : (like : Option ℕ) (before samples : List ℤ) (from output birth : ℕ) → filled_with samples (source_by like before (Kept from output birth)) ≡ source_by like samples (Kept from output birth)
source-kept None before samples from output birth = refl
source-kept (Some place) before samples from output birth = refl

source-captured : (like : Option ℕ) (before samples : List ℤ) (channel : ℕ) → filled_with samples (source_by like before (Captured channel)) ≡ source_by like samples (Captured channel)
source-captured None before samples channel = refl
source-captured (Some place) before samples channel = refl

-- where a joint's node has its channel from already
abbrev like_at : List Joint → ℕ → Option ℕ
like_at joints i = first_like (take i joints) (joint_at joints i)

abbrev wire_with : List Joint → ℕ → Source → Wire
wire_with joints i source = record { input = (joint_at joints i).input; source = source }

abbrev filled_wire : List ℤ → Wire → Wire
filled_wire samples wire = record wire { source = filled_with samples wire.source }

wire-same : (joints : List Joint) (before behind : ℕ → List ℤ) (i : ℕ) → before i ≡ behind i → wire_by before joints i ≡ wire_by behind joints i
wire-same joints before behind i e = ap (λ samples. wire_with joints i (source_by (like_at joints i) samples (joint_at joints i).origin)) e

wire-handed : (joints : List Joint) (before behind : ℕ → List ℤ) (i link connection : ℕ) → (joint_at joints i).origin ≡ Handed link connection → wire_by before joints i ≡ wire_by behind joints i
wire-handed joints before behind i link connection e =
    ap (λ origin. wire_with joints i (source_by (like_at joints i) (before i) origin)) e
    ∙ ap (wire_with joints i) (source-handed (like_at joints i) (before i) (behind i) link connection)
    ∙ sym (ap (λ origin. wire_with joints i (source_by (like_at joints i) (behind i) origin)) e)

-- ---- all wires of a node

pub wires-filled : (joints : List Joint) (known sources : ℕ → List ℤ) (k : ℕ) (samples : List ℤ) (now new : Racked)
    → k < length joints → (joint_at joints k).node < length now.benches → samples ≡ known k
    → new ≡ with_samples_of now (joint_at joints k).node (length (own_joints joints (joint_at joints k).node k)) samples (joint_at joints k).origin
    → (n : ℕ) → (bench_at now n).kept.wires ≡ map (wire_by (mixed known sources k) joints) (own_joints joints n (length joints))
    → (bench_at new n).kept.wires ≡ map (wire_by (mixed known sources (k + 1)) joints) (own_joints joints n (length joints))
wires-filled joints known sources k samples now new h within are is n was = go (joint_at joints k).origin refl is (cases_eq n (joint_at joints k).node)
  where
    node : ℕ
    node = (joint_at joints k).node

    place : ℕ
    place = length (own_joints joints (joint_at joints k).node k)

    others : (i : ℕ) → i ≢ k → wire_by (mixed known sources k) joints i ≡ wire_by (mixed known sources (k + 1)) joints i
    others i d = wire-same joints (mixed known sources k) (mixed known sources (k + 1)) i (mixed-other known sources k i d)

    handed : (link connection : ℕ) → (joint_at joints k).origin ≡ Handed link connection → (i : ℕ) → wire_by (mixed known sources k) joints i ≡ wire_by (mixed known sources (k + 1)) joints i
    handed link connection e i = by (cases_eq i k)
      where
        by : (i ≡ k) ⊎ (i ≢ k) → wire_by (mixed known sources k) joints i ≡ wire_by (mixed known sources (k + 1)) joints i
        by (inl same) = wire-handed joints (mixed known sources k) (mixed known sources (k + 1)) i link connection (ap (λ j. (joint_at joints j).origin) same ∙ e)
        by (inr d) = others i d

    put : ((before : List ℤ) → filled_with samples (source_by (like_at joints k) before (joint_at joints k).origin) ≡ source_by (like_at joints k) samples (joint_at joints k).origin)
        → new ≡ with_bench now node (filled place samples (bench_at now node)) → (n ≡ node) ⊎ (n ≢ node) → (bench_at new n).kept.wires ≡ map (wire_by (mixed known sources (k + 1)) joints) (own_joints joints n (length joints))
    put source put-there (inl e) =
        let there : bench_at new n ≡ filled place samples (bench_at now node) =
        ap (λ (rack : Racked). bench_at rack n) put-there ∙ ap (bench_at (with_bench now node (filled place samples (bench_at now node)))) e ∙ bench_at-put now node (filled place samples (bench_at now node)) within in
        let wires-now : (bench_at now node).kept.wires ≡ map (wire_by (mixed known sources k) joints) (own_joints joints node (length joints)) =
        subst (λ m. (bench_at now m).kept.wires ≡ map (wire_by (mixed known sources k) joints) (own_joints joints m (length joints))) e was in
        let wire : wire_at (bench_at now node).kept.wires place ≡ wire_by (mixed known sources k) joints k = (wire-there (mixed known sources k) joints k (bench_at now node).kept.wires h wires-now).1 in
        let one : filled_wire samples (wire_at (bench_at now node).kept.wires place) ≡ wire_by (mixed known sources (k + 1)) joints k =
        ap (filled_wire samples) wire
        ∙ ap (wire_with joints k) (source (mixed known sources k k) ∙ ap (λ list. source_by (like_at joints k) list (joint_at joints k).origin) (are ∙ sym (mixed-here known sources k))) in
        ap (λ (bench : Seen). bench.kept.wires) there
        ∙ ap (λ wires. set wires place (filled_wire samples (wire_at (bench_at now node).kept.wires place))) wires-now
        ∙ set-own (λ i. (joint_at joints i).node == node) (wire_by (mixed known sources k) joints) (wire_by (mixed known sources (k + 1)) joints) k (length joints)
        (filled_wire samples (wire_at (bench_at now node).kept.wires place)) (eq-eqb node node refl) h one others
        ∙ ap (λ m. map (wire_by (mixed known sources (k + 1)) joints) (own_joints joints m (length joints))) (sym e)
    put source put-there (inr d) =
        ap (λ (rack : Racked). (bench_at rack n).kept.wires) put-there
        ∙ ap (λ (bench : Seen). bench.kept.wires) (bench_at-other now node n (filled place samples (bench_at now node)) d)
        ∙ was
        ∙ map-skip (λ i. (joint_at joints i).node == n) (wire_by (mixed known sources k) joints) (wire_by (mixed known sources (k + 1)) joints) k (length joints) (eqb-no node n (λ e. d (sym e))) others

    go : (origin : Origin) → (joint_at joints k).origin ≡ origin → new ≡ with_samples_of now node place samples origin → (n ≡ node) ⊎ (n ≢ node)
        → (bench_at new n).kept.wires ≡ map (wire_by (mixed known sources (k + 1)) joints) (own_joints joints n (length joints))
    go (Handed link connection) e there which =
        ap (λ (rack : Racked). (bench_at rack n).kept.wires) there ∙ was
        ∙ map-all (λ i. true) (wire_by (mixed known sources k) joints) (wire_by (mixed known sources (k + 1)) joints) (own_joints joints n (length joints)) (handed link connection e)
    go (Kept from output birth) e there which = put (λ before. subst (λ o. filled_with samples (source_by (like_at joints k) before o) ≡ source_by (like_at joints k) samples o) (sym e) (source-kept (like_at joints k) before samples from output birth)) there which
    go (Captured channel) e there which = put (λ before. subst (λ o. filled_with samples (source_by (like_at joints k) before o) ≡ source_by (like_at joints k) samples o) (sym e) (source-captured (like_at joints k) before samples channel)) there which

pub wires-first : (joints : List Joint) (known sources : ℕ → List ℤ) (n : ℕ) (wires : List Wire) → wires ≡ map (wire_by sources joints) (own_joints joints n (length joints))
    → wires ≡ map (wire_by (mixed known sources 0) joints) (own_joints joints n (length joints))
wires-first joints known sources n wires are =
    are ∙ map-all (λ i. true) (wire_by sources joints) (wire_by (mixed known sources 0) joints) (own_joints joints n (length joints))
    (λ i. wire-same joints sources (mixed known sources 0) i (sym (ap (λ b. cond b (known i) (sources i)) (le-ltb i 0 (omega arith)))))

pub wires-last : (joints : List Joint) (known sources : ℕ → List ℤ) (n k : ℕ) → length joints ≤ k
    → map (wire_by (mixed known sources k) joints) (own_joints joints n (length joints)) ≡ map (wire_by known joints) (own_joints joints n (length joints))
wires-last joints known sources n k h =
    map-low (λ i. (joint_at joints i).node == n) (wire_by (mixed known sources k) joints) (wire_by known joints) (length joints)
    (λ i l. wire-same joints (mixed known sources k) known i (ap (λ b. cond b (known i) (sources i)) (lt-ltb i k (omega (arith, l, h)))))

-- nothing but wires changes
pub others-filled : (now new : Racked) (node place : ℕ) (samples : List ℤ) (origin : Origin) → node < length now.benches → new ≡ with_samples_of now node place samples origin → (p : ℕ) → with_wires [] (bench_at new p) ≡ with_wires [] (bench_at now p)
others-filled now new node place samples origin within = go origin
  where
    put : new ≡ with_bench now node (filled place samples (bench_at now node)) → (p : ℕ) → (p ≡ node) ⊎ (p ≢ node) → with_wires [] (bench_at new p) ≡ with_wires [] (bench_at now p)
    put is p (inl e) =
        ap (λ (rack : Racked). with_wires [] (bench_at rack p)) is
        ∙ ap (λ m. with_wires [] (bench_at (with_bench now node (filled place samples (bench_at now node))) m)) e
        ∙ ap (with_wires []) (bench_at-put now node (filled place samples (bench_at now node)) within)
        ∙ ap (λ m. with_wires [] (bench_at now m)) (sym e)
    put is p (inr d) = ap (λ (rack : Racked). with_wires [] (bench_at rack p)) is ∙ ap (with_wires []) (bench_at-other now node p (filled place samples (bench_at now node)) d)

    go : (origin : Origin) → new ≡ with_samples_of now node place samples origin → (p : ℕ) → with_wires [] (bench_at new p) ≡ with_wires [] (bench_at now p)
    go (Handed link connection) is p = ap (λ (rack : Racked). with_wires [] (bench_at rack p)) is
    go (Kept from output birth) is p = put is p (cases_eq p node)
    go (Captured channel) is p = put is p (cases_eq p node)

pub length-filled : (now new : Racked) (node place : ℕ) (samples : List ℤ) (origin : Origin) → new ≡ with_samples_of now node place samples origin → (length new.benches ≡ length now.benches) × (new.links ≡ now.links)
length-filled now new node place samples (Handed link connection) is = (ap (λ (rack : Racked). length rack.benches) is, ap (λ (rack : Racked). rack.links) is)
length-filled now new node place samples (Kept from output birth) is = (length-put now new node (filled place samples (bench_at now node)) is, ap (λ (rack : Racked). rack.links) is)
length-filled now new node place samples (Captured channel) is = (length-put now new node (filled place samples (bench_at now node)) is, ap (λ (rack : Racked). rack.links) is)

-- what is known rests on what was given
pub known-same : (now was : Racked) (channels : List (List ℤ)) (silence : List ℤ) (last : Option ℕ) (origin : Origin) → ((p : ℕ) → with_wires [] (bench_at now p) ≡ with_wires [] (bench_at was p)) → known_by now channels silence last origin ≡ known_by was channels silence last origin
known-same now was channels silence last (Handed link connection) same = refl
known-same now was channels silence last (Kept node output birth) same = ap (λ (bench : Seen). kept_at bench.kept.audio silence last) (same node)
known-same now was channels silence last (Captured channel) same = refl
