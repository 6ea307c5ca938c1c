-- A list whose elements change one by one.
--     ChangedUpTo R count old new      the first elements changed as R says of each place, and the others are as they were
--     ChangedFrom R count old new      the elements from this one on did, and the others are as they were
--     all_map      what holds of what the elements are mapped to
use Rattle.std.proofs.Common.{◌≡◌, ◌≢◌, ℕ, zero, suc, ◌+◌, ◌<◌, ◌≤◌, List, [], ◌∷◌, ◌++◌, All, length, map, set, get_or, take, drop, length-take, sym, refl, ap, ◌∙◌, subst, arith, length-set, length-append}
use Rattle.std.proofs.lemmas.List.{get_or_default, get_or-set_same, get_or-set_other}
use lib.ListN.{get_or-append}
use lib.Seq.{get_or-append_seam, take-append_seam}
use mathlib.Core.Logic.{dite}
use native.Mathlib.Decide.{ℕ_discrete}
use Rattle.steal_workers.specs.Places.{Paired}

module _ {A : Type 0} (R : ℕ → A → A → Type 0) where
  pub record ChangedUpTo (count : ℕ) (old new : List A) : Type 0 where
    pub long : length new ≡ length old
    pub done : (k : ℕ) (d : A) → k < count → k < length old → R k (get_or old k d) (get_or new k d)
    pub same : (k : ℕ) (d : A) → count ≤ k → get_or new k d ≡ get_or old k d

  pub record ChangedFrom (count : ℕ) (old new : List A) : Type 0 where
    pub long : length new ≡ length old
    pub done : (k : ℕ) (d : A) → count ≤ k → k < length old → R k (get_or old k d) (get_or new k d)
    pub same : (k : ℕ) (d : A) → k < count → get_or new k d ≡ get_or old k d

  pub up_none : (old : List A) → ChangedUpTo 0 old old
  up_none old = record { long = refl; done = λ k d less low. absurd (omega (arith, less)); same = λ k d more. refl }

  -- the element that is next is as it was
  pub up_here : (i : ℕ) (e d : A) (old now : List A) → i < length now → ChangedUpTo i old now → get_or now i e ≡ get_or old i d
  up_here i e d old now low h = get_or_default now i e d low ∙ h.same i d (omega arith)

  pub up_more : (i : ℕ) (x : A) (old now : List A) → i < length now → ((d : A) → R i (get_or old i d) x) → ChangedUpTo i old now → ChangedUpTo (i + 1) old (set now i x)
  up_more i x old now low this h = record {
    long = length-set now i x ∙ h.long;
    done = λ k d less inside. dite (ℕ_discrete k i)
        (λ (e : k ≡ i). subst (λ (j : ℕ). R j (get_or old j d) (get_or (set now i x) j d)) (sym e) (subst (λ (y : A). R i (get_or old i d) y) (sym (get_or-set_same now i x d low)) (this d)))
        (λ (ne : k ≢ i). subst (λ (y : A). R k (get_or old k d) y) (sym (get_or-set_other now i k x d ne)) (h.done k d (omega (arith, less, ne)) inside));
    same = λ k d more. get_or-set_other now i k x d (λ (e : k ≡ i). absurd (omega (arith, more, e))) ∙ h.same k d (omega (arith, more));
  }

  pub up_all : (count : ℕ) (old new : List A) → length old ≤ count → ChangedUpTo count old new → (k : ℕ) (x y : A) → k < length old → R k (get_or old k x) (get_or new k y)
  up_all count old new all h k x y low = let long = h.long in subst (λ (z : A). R k (get_or old k x) z) (get_or_default new k x y (omega (arith, low, long))) (h.done k x (omega (arith, low, all)) low)

  pub from_none : (count : ℕ) (old : List A) → length old ≤ count → ChangedFrom count old old
  from_none count old all = record { long = refl; done = λ k d more low. absurd (omega (arith, more, low, all)); same = λ k d less. refl }

  pub from_here : (i count : ℕ) (e d : A) (old now : List A) → count ≡ i + 1 → i < length now → ChangedFrom count old now → get_or now i e ≡ get_or old i d
  from_here i count e d old now next low h = get_or_default now i e d low ∙ h.same i d (omega (arith, next))

  pub from_more : (i count : ℕ) (x : A) (old now : List A) → count ≡ i + 1 → i < length now → ((d : A) → R i (get_or old i d) x) → ChangedFrom count old now → ChangedFrom i old (set now i x)
  from_more i count x old now next low this h = record {
    long = length-set now i x ∙ h.long;
    done = λ k d more inside. dite (ℕ_discrete k i)
        (λ (e : k ≡ i). subst (λ (j : ℕ). R j (get_or old j d) (get_or (set now i x) j d)) (sym e) (subst (λ (y : A). R i (get_or old i d) y) (sym (get_or-set_same now i x d low)) (this d)))
        (λ (ne : k ≢ i). subst (λ (y : A). R k (get_or old k d) y) (sym (get_or-set_other now i k x d ne)) (h.done k d (omega (arith, more, ne, next)) inside));
    same = λ k d less. get_or-set_other now i k x d (λ (e : k ≡ i). absurd (omega (arith, less, e))) ∙ h.same k d (omega (arith, less, next));
  }

  pub from_all : (old new : List A) → ChangedFrom 0 old new → (k : ℕ) (x y : A) → k < length old → R k (get_or old k x) (get_or new k y)
  from_all old new h k x y low = let long = h.long in subst (λ (z : A). R k (get_or old k x) z) (get_or_default new k x y (omega (arith, low, long))) (h.done k x (omega arith) low)

-- a list that grows, beside one that changes
pub both_more : {A B : Type 0} (R : A → B → Type 0) (xs : List A) (ys : List B) (i : ℕ) (x : A) (y : B) → i < length xs → length ys ≡ i → R x y → ((k : ℕ) (d : A) (e : B) → k < i → R (get_or xs k d) (get_or ys k e))
    → (k : ℕ) (d : A) (e : B) → k < i + 1 → R (get_or (set xs i x) k d) (get_or (ys ++ y ∷ []) k e)
both_more {A} {B} R xs ys i x y low long this each k d e less = dite (ℕ_discrete k i)
    (λ (is : k ≡ i).
    let a : get_or (set xs i x) k d ≡ x = ap (λ (j : ℕ). get_or (set xs i x) j d) is ∙ get_or-set_same xs i x d low in
    let b : get_or (ys ++ y ∷ []) k e ≡ y = ap (λ (j : ℕ). get_or (ys ++ y ∷ []) j e) (is ∙ sym long) ∙ get_or-append_seam ys y [] e in
    subst (λ (z : A × B). R z.0 z.1) (λ j. (sym a j, sym b j)) this)
    (λ (ne : k ≢ i).
    let a = get_or-set_other xs i k x d ne in
    let b = get_or-append ys (y ∷ []) e k (omega (arith, less, ne, long)) in
    subst (λ (z : A × B). R z.0 z.1) (λ j. (sym a j, sym b j)) (each k d e (omega (arith, less, ne))))

-- what is pushed to a list
pub last_of : {A : Type 0} (xs : List A) (i : ℕ) (x d : A) → length xs ≡ i → get_or (xs ++ x ∷ []) i d ≡ x
last_of xs i x d long = ap (λ (j : ℕ). get_or (xs ++ x ∷ []) j d) (sym long) ∙ get_or-append_seam xs x [] d

pub paired_trans : {A : Type 0} (P Q R : A → A → Type 0) (old mid new : List A) → ((a b c : A) → P a b → Q b c → R a c) → Paired P old mid → Paired Q mid new → Paired R old new
paired_trans P Q R old mid new both p q =
    let long = p.0 in
    (q.0 ∙ p.0, λ k x z low. both (get_or old k x) (get_or mid k x) (get_or new k z) (p.1 k x x low) (q.1 k x z (omega (arith, low, long))))

pub paired_map : {A B : Type 0} (P Q : A → B → Type 0) (xs : List A) (ys : List B) → ((a : A) (b : B) → P a b → Q a b) → Paired P xs ys → Paired Q xs ys
paired_map P Q xs ys f p = (p.0, λ k x y low. f (get_or xs k x) (get_or ys k y) (p.1 k x y low))

pub up_map : {A : Type 0} (P Q : ℕ → A → A → Type 0) (count : ℕ) (old new : List A) → ((k : ℕ) (a b : A) → P k a b → Q k a b) → ChangedUpTo P count old new → ChangedUpTo Q count old new
up_map P Q count old new f h = record { long = h.long; done = λ k d less low. f k (get_or old k d) (get_or new k d) (h.done k d less low); same = h.same }

pub take_whole : {A : Type 0} (xs : List A) → take (length xs) xs ≡ xs
take_whole [] = refl
take_whole (x ∷ xs) = ap (λ l. x ∷ l) (take_whole xs)

-- what is popped of a list's front
module _ {A : Type 0} where
  pub popped : (all left : List A) (x : A) (m : ℕ) → left ++ x ∷ [] ≡ take m all → (left ≡ take (length left) all) × ((d : A) → get_or all (length left) d ≡ x)
  popped [] [] x m e = absurd (omega (arith, ap length e, length-take {A = A} m []))
  popped [] (l ∷ ls) x m e = absurd (omega (arith, ap length e, length-take {A = A} m []))
  popped (a ∷ as') [] x zero e = absurd (omega (arith, ap length e))
  popped (a ∷ as') (l ∷ ls) x zero e = absurd (omega (arith, ap length e))
  popped (a ∷ as') [] x (suc m) e = (refl, λ d. sym (ap (λ xs. get_or xs 0 x) e))
  popped (a ∷ as') (l ∷ ls) x (suc m) e =
      let rest = popped as' ls x m (ap (drop 1) e) in
      ((λ j. ap (λ xs. get_or xs 0 l) e j ∷ rest.0 j), rest.1)

-- some element of a list that is not empty
pub any_of : {A : Type 0} (xs : List A) (k : ℕ) → k < length xs → A
any_of [] k low = absurd (omega (arith, low))
any_of (x ∷ xs) k low = x

-- a list that was written through a slice of it
pub written : {A : Type 0} (count : ℕ) (old new : List A) → count ≡ length new → take count (new ++ drop (length new) old) ≡ new
written count old new is = ap (λ n. take n (new ++ drop (length new) old)) is ∙ take-append_seam new (drop (length new) old)

-- lists that grow
pub all_pushed : {A : Type 0} (P : A → Type 0) (xs : List A) (x : A) → P x → ((k : ℕ) (d : A) → k < length xs → P (get_or xs k d)) → (k : ℕ) (d : A) → k < length (xs ++ x ∷ []) → P (get_or (xs ++ x ∷ []) k d)
all_pushed P xs x this each k d less =
    let long = length-append xs (x ∷ []) in dite (ℕ_discrete k (length xs))
    (λ (is : k ≡ length xs). subst P (sym (ap (λ (j : ℕ). get_or (xs ++ x ∷ []) j d) is ∙ get_or-append_seam xs x [] d)) this)
    (λ (ne : k ≢ length xs). let low : k < length xs = omega (arith, less, ne, long) in subst P (sym (get_or-append xs (x ∷ []) d k low)) (each k d low))

pub both_pushed : {A B : Type 0} (R : A → B → Type 0) (xs : List A) (ys : List B) (i : ℕ) (x : A) (y : B) → length xs ≡ i → length ys ≡ i → R x y → ((k : ℕ) (d : A) (e : B) → k < i → R (get_or xs k d) (get_or ys k e))
    → (k : ℕ) (d : A) (e : B) → k < i + 1 → R (get_or (xs ++ x ∷ []) k d) (get_or (ys ++ y ∷ []) k e)
both_pushed {A} {B} R xs ys i x y long long' this each k d e less = dite (ℕ_discrete k i)
    (λ (is : k ≡ i).
    let a : get_or (xs ++ x ∷ []) k d ≡ x = ap (λ (j : ℕ). get_or (xs ++ x ∷ []) j d) is ∙ last_of xs i x d long in
    let b : get_or (ys ++ y ∷ []) k e ≡ y = ap (λ (j : ℕ). get_or (ys ++ y ∷ []) j e) is ∙ last_of ys i y e long' in
    subst (λ (z : A × B). R z.0 z.1) (λ j. (sym a j, sym b j)) this)
    (λ (ne : k ≢ i).
    let a = get_or-append xs (x ∷ []) d k (omega (arith, less, ne, long)) in
    let b = get_or-append ys (y ∷ []) e k (omega (arith, less, ne, long')) in
    subst (λ (z : A × B). R z.0 z.1) (λ j. (sym a j, sym b j)) (each k d e (omega (arith, less, ne))))

pub all_map : {A B : Type 0} (f : A → B) (P : B → Type 0) (xs : List A) → All (λ (x : A). P (f x)) xs → All P (map f xs)
all_map f P [] h k d low = absurd (omega (arith, low))
all_map f P (x ∷ xs) h zero d low = h zero x (omega arith)
all_map f P (x ∷ xs) h (suc k) d low = all_map f P xs (λ j e less. h (suc j) e (omega (arith, less))) k d (omega (arith, low))
