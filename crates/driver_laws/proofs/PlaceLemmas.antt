-- Places in lists.
--     there_too      a place of a list is one of another of the same length
--     last_of      the last item stands behind all others
--     still_there      what comes behind moves nothing
--     missed_there      an underrun that was added is found
use Rattle.std.proofs.Common.{◌≡◌, ℕ, zero, suc, ◌<◌, Bool, true, false, ◌||◌, ◌==◌, List, [], ◌∷◌, ◌++◌, length, slice_get, Some, refl, ◌∙◌, ap, arith, eq-eqb}
use Rattle.std.specs.List.{list_any}
use Rattle.std.proofs.lemmas.List.Folds.{list_any-append}
use Rattle.std.proofs.lemmas.Option.{none-some}
use Rattle.record_ring.specs.jack_types.specs.declared.replies.Underrun.{Underrun}

pub none_below : {n : ℕ} → n < 0 → ⊥
none_below h = omega (arith, h)

pub there_too : {X Y : Type 0} (xs : List X) (ys : List Y) (k : ℕ) (x : X) → length ys ≡ length xs → slice_get xs k ≡ Some x → (y : Y) × (slice_get ys k ≡ Some y)
there_too [] ys k x l e = absurd (none-some x e)
there_too (z ∷ xs) [] k x l e = absurd (omega (arith, l))
there_too (z ∷ xs) (y ∷ ys) zero x l e = (y, refl)
there_too (z ∷ xs) (y ∷ ys) (suc k) x l e = there_too xs ys k x (omega (arith, l)) e

pub last_of : {X : Type 0} (xs : List X) (x : X) → slice_get (xs ++ x ∷ []) (length xs) ≡ Some x
last_of [] x = refl
last_of (y ∷ xs) x = last_of xs x

pub still_there : {X : Type 0} (xs ys : List X) (k : ℕ) (x : X) → slice_get xs k ≡ Some x → slice_get (xs ++ ys) k ≡ Some x
still_there [] ys k x e = absurd (none-some x e)
still_there (z ∷ xs) ys zero x e = e
still_there (z ∷ xs) ys (suc k) x e = still_there xs ys k x e

pub or_false : (b : Bool) → (b || false) ≡ b
or_false true = refl
or_false false = refl

pub or_true : (b : Bool) → (b || (true || false)) ≡ true
or_true true = refl
or_true false = refl

pub missed_there : (misses : List Underrun) (underrun : Underrun) (k : ℕ) → underrun.cycle ≡ k → list_any (λ (u : Underrun). u.cycle == k) (misses ++ underrun ∷ []) ≡ true
missed_there misses underrun k at =
    list_any-append (λ (u : Underrun). u.cycle == k) misses (underrun ∷ [])
    ∙ ap (λ b. list_any (λ (u : Underrun). u.cycle == k) misses || (b || false)) (eq-eqb underrun.cycle k at)
    ∙ or_true (list_any (λ (u : Underrun). u.cycle == k) misses)
