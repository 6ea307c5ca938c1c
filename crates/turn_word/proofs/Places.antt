-- Places of a list that is written, and lists with the same items.
use Rattle.std.proofs.Common.{◌≡◌, ◌≢◌, ℕ, zero, suc, ◌<◌, List, [], ◌∷◌, ◌++◌, length, All, Contains, get_or, set, slice_get, refl, ap, ◌∙◌, subst, sym, arith, is_some, Bool, true, false, Some, None}
use Rattle.std.specs.Prelude.{Option, IsSomeAnd}
use Rattle.std.proofs.lemmas.List.Elements.{All-weaker, All-contains_itself, Contains-append_left, Contains-append_right}
use Rattle.atomic_table.specs.Seated.{TableId}
use Rattle.turn_word.specs.Handles.{new_pass}
use Rattle.turn_word.specs.Turns.{Caller, Handle, IsCaller, pass_of}

module _ {A : Type 0} where
  pub same_Some : (x y : A) → Some x ≡ Some y → x ≡ y
  same_Some x y e = cc

  pub none_Some : (x : A) → None ≡ Some x → ⊥
  none_Some x e = cc

  pub got_here : (l : List A) (i : ℕ) (a b : A) → slice_get (set l i a) i ≡ Some b → b ≡ a
  got_here [] i a b e = absurd (none_Some b e)
  got_here (x ∷ xs) zero a b e = sym (same_Some a b e)
  got_here (x ∷ xs) (suc i) a b e = got_here xs i a b e

  pub got_else : (l : List A) (i j : ℕ) (a : A) → j ≢ i → slice_get (set l i a) j ≡ slice_get l j
  got_else [] i j a not = refl
  got_else (x ∷ xs) zero zero a not = absurd (not refl)
  got_else (x ∷ xs) zero (suc j) a not = refl
  got_else (x ∷ xs) (suc i) zero a not = refl
  got_else (x ∷ xs) (suc i) (suc j) a not = got_else xs i j a (λ e. not (ap suc e))

  -- an item of a longer list is an old one, or the new one
  pub got_more : (Q : ℕ → A → Type 0) (l : List A) (a : A) → ((k : ℕ) (x : A) → slice_get l k ≡ Some x → Q k x) → Q (length l) a → (k : ℕ) (x : A) → slice_get (l ++ a ∷ []) k ≡ Some x → Q k x
  got_more Q [] a old new zero x e = subst (λ (y : A). Q 0 y) (same_Some a x e) new
  got_more Q [] a old new (suc k) x e = absurd (none_Some x e)
  got_more Q (y ∷ ys) a old new zero x e = old zero x e
  got_more Q (y ∷ ys) a old new (suc k) x e = got_more (λ n z. Q (suc n) z) ys a (λ n z h. old (suc n) z h) new k x e

pub same_each : {X : Type 0} (old new : List X) → length new ≡ length old → ((k : ℕ) (d : X) → k < length old → get_or new k d ≡ get_or old k d) → new ≡ old
same_each [] [] long each = refl
same_each [] (y ∷ ys) long each = absurd (omega (arith, long))
same_each (x ∷ xs) [] long each = absurd (omega (arith, long))
same_each (x ∷ xs) (y ∷ ys) long each = (λ i. each 0 x (omega arith) i ∷ same_each xs ys (omega (arith, long)) (λ k d low. each (suc k) d (omega (arith, low))) i)

pub from_some : {T : Type 0} (o : Option T) → is_some o ≡ true → (x : T) × (o ≡ Some x)
from_some (Some x) e = (x, refl)
from_some None e = absurd (cc)

pub from_some_and : {T : Type 0} (o : Option T) (P : T → Type 0) → IsSomeAnd o P → (x : T) × (o ≡ Some x) × P x
from_some_and (Some x) P p = (x, refl, p)
from_some_and None P p = absurd p

-- what one of two lists has stands in both
pub left_seen : {T : Type 0} (xs ys both seen : List T) → both ≡ xs ++ ys → All (Contains xs) seen → All (Contains both) seen
left_seen {T} xs ys both seen is all = subst (λ (l : List T). All (Contains l) seen) (sym is) (All-weaker (Contains xs) (Contains (xs ++ ys)) (λ x. Contains-append_left xs ys x) seen all)

pub right_seen : {T : Type 0} (xs ys both seen : List T) → both ≡ xs ++ ys → seen ≡ ys → All (Contains both) seen
right_seen {T} xs ys both seen is same = subst (λ (l : List T). All (Contains l) seen) (sym is)
    (subst (All (Contains (xs ++ ys))) (sym same) (All-weaker (Contains ys) (Contains (xs ++ ys)) (λ x. Contains-append_right xs ys x) ys (All-contains_itself ys)))

pub own_seen : {T : Type 0} (xs seen : List T) → xs ≡ seen → All (Contains xs) seen
own_seen xs seen is = subst (λ l. All (Contains l) seen) (sym is) (All-contains_itself seen)

-- a pass that is new, and a caller by its fields
pub of_new : {T : Type 0} (table : TableId) (count : ℕ) (opened : Option T) (i : ℕ) (p : Handle T) → p ≡ new_pass table count opened i → p ≡ pass_of table count opened i p
of_new table count opened i p is = is ∙ ap (pass_of table count opened i) (sym is)

pub of_caller : {T : Type 0} (table : TableId) (count : ℕ) (opened : Option T) (c : Caller T) → c.table ≡ table → c.passes ≡ count → c.opened ≡ opened → IsCaller table count opened c
of_caller table count opened c is many known k = record { table = is k; passes = many k; opened = known k; called = c.called }

pub if_not_true : (b : Bool) → (b ≡ true → ⊥) → b ≡ false
if_not_true true not = absurd (not refl)
if_not_true false not = refl

pub if_not_false : (b : Bool) → (b ≡ false → ⊥) → b ≡ true
if_not_false true not = refl
if_not_false false not = absurd (not refl)
