-- Slow numbers that are none change nothing.
--     list_all_counted      no client that is not slow is waited for
--     list_any_counted      whether some client is slow
--     counted_counted      counting twice is counting once
use Rattle.std.proofs.Common.{◌≡◌, ℕ, zero, suc, ◌<◌, ◌≤◌, Bool, true, false, cond, ◌&&◌, ◌||◌, List, [], ◌∷◌, length, filter, nat_lt, nat_le, refl, sym, ◌∙◌, ap, arith}
use Rattle.std.specs.List.{list_all, list_any}
use Rattle.std.proofs.lemmas.Bool.{le-leb, ltb-false}
use Rattle.transport.specs.Standings.{counted}

pub list_all_counted : (wait : ℕ) (slow : List ℕ) → list_all (λ cycles. nat_le cycles wait) (counted slow) ≡ list_all (λ cycles. nat_le cycles wait) slow
list_all_counted wait [] = refl
list_all_counted wait (n ∷ slow) = go (nat_lt 0 n) refl (list_all_counted wait slow)
  where
    go : (b : Bool) → nat_lt 0 n ≡ b → list_all (λ cycles. nat_le cycles wait) (counted slow) ≡ list_all (λ cycles. nat_le cycles wait) slow
        → list_all (λ cycles. nat_le cycles wait) (cond b (n ∷ counted slow) (counted slow)) ≡ (nat_le n wait && list_all (λ cycles. nat_le cycles wait) slow)
    go true e h = ap (λ (rest : Bool). nat_le n wait && rest) h
    go false e h = h ∙ ap (λ (first : Bool). first && list_all (λ cycles. nat_le cycles wait) slow) (sym (le-leb n wait (omega (arith, ltb-false 0 n e))))

pub list_any_counted : (slow : List ℕ) → nat_lt 0 (length (counted slow)) ≡ list_any (λ cycles. nat_lt 0 cycles) slow
list_any_counted [] = refl
list_any_counted (n ∷ slow) = go (nat_lt 0 n) refl (list_any_counted slow)
  where
    go : (b : Bool) → nat_lt 0 n ≡ b → nat_lt 0 (length (counted slow)) ≡ list_any (λ cycles. nat_lt 0 cycles) slow
        → nat_lt 0 (length (cond b (n ∷ counted slow) (counted slow))) ≡ (b || list_any (λ cycles. nat_lt 0 cycles) slow)
    go true e h = le-leb 1 (length (n ∷ counted slow)) (omega arith)
    go false e h = h

pub counted_counted : (slow : List ℕ) → counted (counted slow) ≡ counted slow
counted_counted [] = refl
counted_counted (n ∷ slow) = go (nat_lt 0 n) refl (counted_counted slow)
  where
    go : (b : Bool) → nat_lt 0 n ≡ b → counted (counted slow) ≡ counted slow → counted (cond b (n ∷ counted slow) (counted slow)) ≡ cond b (n ∷ counted slow) (counted slow)
    go true e h = ap (λ (b : Bool). cond b (n ∷ counted (counted slow)) (counted (counted slow))) e ∙ ap (λ (rest : List ℕ). n ∷ rest) h
    go false e h = h
