-- Two places exchanged.
--     turned a b q      where what stands at q stood
--     turned_back      twice exchanged, all is as it was
--     turned_at      what stands at a place behind an exchange
--     IsPermutation-turned      an exchange moves elements alone
use Rattle.std.proofs.Common.{◌≡◌, ◌≢◌, ℕ, ◌<◌, Bool, true, false, eqb, ◌⊎◌, inl, inr, List, [], ◌∷◌, length, map, get_or, set, refl, sym, ◌∙◌, ap, subst, arith, get_or-set_same, get_or-set_other}
use Rattle.std.specs.List.{swap}
use Rattle.std.specs.List.Sorted.{IsPermutation}
use Rattle.std.proofs.lemmas.Bool.{cases_eq}
use Rattle.std.proofs.lemmas.Bool.Decides.{eqb_tells}
use Rattle.std.proofs.lemmas.List.{get_or_default, get_or-map, length-map, length-set, map-set}
use Rattle.std.proofs.lemmas.List.Sorted.{IsPermutation-swap}

abbrev turned_by : Bool → Bool → ℕ → ℕ → ℕ → ℕ
turned_by true s a b q = a
turned_by false true a b q = b
turned_by false false a b q = q

abbrev pub turned : ℕ → ℕ → ℕ → ℕ
turned a b q = turned_by (eqb q b) (eqb q a) a b q

pub turned_second : (a b : ℕ) → turned a b b ≡ a
turned_second a b = go (eqb_tells b b)
  where
    go : ((eqb b b ≡ true) × (b ≡ b)) ⊎ ((eqb b b ≡ false) × (b ≢ b)) → turned a b b ≡ a
    go (inl h) = ap (λ t. turned_by t (eqb b a) a b b) h.0
    go (inr h) = absurd (h.1 refl)

pub turned_first : (a b : ℕ) → turned a b a ≡ b
turned_first a b = go (eqb_tells a b) (eqb_tells a a)
  where
    go : ((eqb a b ≡ true) × (a ≡ b)) ⊎ ((eqb a b ≡ false) × (a ≢ b)) → ((eqb a a ≡ true) × (a ≡ a)) ⊎ ((eqb a a ≡ false) × (a ≢ a)) → turned a b a ≡ b
    go (inl h) k = ap (λ t. turned_by t (eqb a a) a b a) h.0 ∙ h.1
    go (inr h) (inl k) = ap (λ t. turned_by t (eqb a a) a b a) h.0 ∙ ap (λ t. turned_by false t a b a) k.0
    go (inr h) (inr k) = absurd (k.1 refl)

pub turned_other : (a b q : ℕ) → q ≢ a → q ≢ b → turned a b q ≡ q
turned_other a b q n m = go (eqb_tells q b) (eqb_tells q a)
  where
    go : ((eqb q b ≡ true) × (q ≡ b)) ⊎ ((eqb q b ≡ false) × (q ≢ b)) → ((eqb q a ≡ true) × (q ≡ a)) ⊎ ((eqb q a ≡ false) × (q ≢ a)) → turned a b q ≡ q
    go (inl h) k = absurd (m h.1)
    go (inr h) (inl k) = absurd (n k.1)
    go (inr h) (inr k) = ap (λ t. turned_by t (eqb q a) a b q) h.0 ∙ ap (λ t. turned_by false t a b q) k.0

pub turned_back : (a b q : ℕ) → turned a b (turned a b q) ≡ q
turned_back a b q = go (cases_eq q b) (cases_eq q a)
  where
    go : (q ≡ b) ⊎ (q ≢ b) → (q ≡ a) ⊎ (q ≢ a) → turned a b (turned a b q) ≡ q
    go (inl e) k = ap (turned a b) (ap (turned a b) e ∙ turned_second a b) ∙ turned_first a b ∙ sym e
    go (inr m) (inl e) = ap (turned a b) (ap (turned a b) e ∙ turned_first a b) ∙ turned_second a b ∙ sym e
    go (inr m) (inr n) = ap (turned a b) (turned_other a b q n m) ∙ turned_other a b q n m

pub turned_within : (a b q n : ℕ) → a < n → b < n → q < n → turned a b q < n
turned_within a b q n wa wb wq = go (cases_eq q b) (cases_eq q a)
  where
    go : (q ≡ b) ⊎ (q ≢ b) → (q ≡ a) ⊎ (q ≢ a) → turned a b q < n
    go (inl e) k = subst (λ r. r < n) (sym (ap (turned a b) e ∙ turned_second a b)) wa
    go (inr m) (inl e) = subst (λ r. r < n) (sym (ap (turned a b) e ∙ turned_first a b)) wb
    go (inr m) (inr k) = subst (λ r. r < n) (sym (turned_other a b q k m)) wq

pub turned_at : {X : Type 0} (xs : List X) (d : X) (a b q : ℕ) → a < length xs → b < length xs
    → get_or (set (set xs a (get_or xs b d)) b (get_or xs a d)) q d ≡ get_or xs (turned a b q) d
turned_at {X} xs d a b q wa wb = go (cases_eq q b) (cases_eq q a)
  where
    once : List X
    once = set xs a (get_or xs b d)

    there : b < length once
    there = omega (arith, length-set xs a (get_or xs b d), wb)

    go : (q ≡ b) ⊎ (q ≢ b) → (q ≡ a) ⊎ (q ≢ a) → get_or (set once b (get_or xs a d)) q d ≡ get_or xs (turned a b q) d
    go (inl e) k = ap (λ r. get_or (set once b (get_or xs a d)) r d) e ∙ get_or-set_same once b (get_or xs a d) d there
        ∙ ap (λ r. get_or xs r d) (sym (ap (turned a b) e ∙ turned_second a b))
    go (inr m) (inl e) = get_or-set_other once b q (get_or xs a d) d m ∙ ap (λ r. get_or once r d) e ∙ get_or-set_same xs a (get_or xs b d) d wa
        ∙ ap (λ r. get_or xs r d) (sym (ap (turned a b) e ∙ turned_first a b))
    go (inr m) (inr n) = get_or-set_other once b q (get_or xs a d) d m ∙ get_or-set_other xs a q (get_or xs b d) d n
        ∙ ap (λ r. get_or xs r d) (sym (turned_other a b q n m))

swap-is : {X : Type 0} (xs : List X) (d : X) (a b : ℕ) → a < length xs → b < length xs → set (set xs a (get_or xs b d)) b (get_or xs a d) ≡ swap xs a b
swap-is [] d a b wa wb = refl
swap-is (x ∷ xs) d a b wa wb =
    ap (λ y. set (set (x ∷ xs) a y) b (get_or (x ∷ xs) a d)) (get_or_default (x ∷ xs) b d x wb)
    ∙ ap (λ y. set (set (x ∷ xs) a (get_or (x ∷ xs) b x)) b y) (get_or_default (x ∷ xs) a d x wa)

pub IsPermutation-turned : {X Y : Type 0} (f : X → Y) (xs : List X) (d : X) (a b : ℕ) → a < length xs → b < length xs
    → IsPermutation (map f xs) (map f (set (set xs a (get_or xs b d)) b (get_or xs a d)))
IsPermutation-turned {X} f xs d a b wa wb =
    subst (λ ys. IsPermutation (map f xs) (map f ys)) (sym (swap-is xs d a b wa wb)) (moved xs wa wb)
  where
    moved : (ys : List X) → a < length ys → b < length ys → IsPermutation (map f ys) (map f (swap ys a b))
    moved [] va vb = absurd (omega arith)
    moved (y ∷ ys) va vb = IsPermutation-swap (map f (y ∷ ys)) _ a b (subst (λ n. a < n) (sym (length-map (y ∷ ys) f)) va) (subst (λ n. b < n) (sym (length-map (y ∷ ys) f)) vb)
        (map-set f (set (y ∷ ys) a (get_or (y ∷ ys) b y)) b (get_or (y ∷ ys) a y)
        ∙ ap (λ zs. set zs b (f (get_or (y ∷ ys) a y))) (map-set f (y ∷ ys) a (get_or (y ∷ ys) b y))
        ∙ swapped (sym (get_or-map f (y ∷ ys) a y (f y) va)) (sym (get_or-map f (y ∷ ys) b y (f y) vb)))
      where
        swapped : f (get_or (y ∷ ys) a y) ≡ get_or (map f (y ∷ ys)) a (f y) → f (get_or (y ∷ ys) b y) ≡ get_or (map f (y ∷ ys)) b (f y)
            → set (set (map f (y ∷ ys)) a (f (get_or (y ∷ ys) b y))) b (f (get_or (y ∷ ys) a y)) ≡ swap (map f (y ∷ ys)) a b
        swapped h k = ap (λ v. set (set (map f (y ∷ ys)) a v) b (f (get_or (y ∷ ys) a y))) k
            ∙ ap (λ v. set (set (map f (y ∷ ys)) a (get_or (map f (y ∷ ys)) b (f y))) b v) h
