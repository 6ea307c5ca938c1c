-- The first element of a list that passes a test.
--     position-first, position-none      at which place it stands, and where there is none
--     found-placed      it is found where it has a place
use Rattle.std.proofs.Common.{◌≡◌, ℕ, ◌<◌, Bool, true, false, nat_lt, cond, List, length, get_or, Some, None, is_some, refl, sym, ◌∙◌, ap, subst, arith}
use Rattle.std.specs.Prelude.{find, position, slice_get}
use Rattle.std.specs.List.{position_or_len}
use Rattle.std.proofs.lemmas.Bool.{le-ltb, lt-ltb, ltb-false, ltb-true}
use Rattle.std.proofs.lemmas.List.Folds.{find_at}
use Rattle.std.proofs.lemmas.List.Sums.{position_or_len_is}
use Rattle.std.proofs.lemmas.Option.{slice_get-get_or, slice_get_past}

pub position-first : {X : Type 0} (p : X → Bool) (xs : List X) (n : ℕ) (d : X) → n < length xs → ((k : ℕ) → k < n → p (get_or xs k d) ≡ false) → p (get_or xs n d) ≡ true → position p xs ≡ Some n
position-first p xs n d low before here =
    subst (λ (k : ℕ). cond (nat_lt k (length xs)) (Some k) None ≡ Some n) (sym (position_or_len_is p xs n d (omega arith) before (λ _. here))) (ap (λ b. cond b (Some n) None) (lt-ltb n (length xs) low))

pub position-none : {X : Type 0} (p : X → Bool) (xs : List X) (d : X) → ((k : ℕ) → k < length xs → p (get_or xs k d) ≡ false) → position p xs ≡ None
position-none p xs d fails =
    subst (λ (k : ℕ). cond (nat_lt k (length xs)) (Some k) None ≡ None) (sym (position_or_len_is p xs (length xs) d (omega arith) fails (λ h. absurd (omega (arith, h)))))
    (ap (λ b. cond b (Some (length xs)) None) (le-ltb (length xs) (length xs) (omega arith)))

taken : {X : Type 0} (xs : List X) (k : ℕ) (d : X) (b : Bool) → nat_lt k (length xs) ≡ b → is_some (slice_get xs k) ≡ is_some (cond b (Some k) None)
taken xs k d true e = ap is_some (slice_get-get_or xs k d (ltb-true k (length xs) e))
taken xs k d false e = ap is_some (slice_get_past xs k (ltb-false k (length xs) e))

pub found-placed : {X : Type 0} (p : X → Bool) (xs : List X) (d : X) → is_some (find p xs) ≡ is_some (position p xs)
found-placed p xs d = ap is_some (find_at p xs) ∙ taken xs (position_or_len p xs) d (nat_lt (position_or_len p xs) (length xs)) refl
