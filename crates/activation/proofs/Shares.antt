-- Shares that follow each other.
use Rattle.std.proofs.Common.{◌≡◌, ℕ, zero, suc, ◌+◌, ◌<◌, ◌≤◌, Bool, true, false, refl, sym, ◌∙◌, ap, arith, true≢false}
use mathlib.Core.Logic.{dite}
use native.Mathlib.Decide.{ℕ_discrete}
use Rattle.activation.specs.Rule.{has}
use Rattle.activation.specs.Contents.{from_to}
use Rattle.activation.proofs.Testing.{has_here, has_skip, has_there}

-- the shares of the first seat are those below the number of seats
pub has_from_to : (first count seat : ℕ) → first ≤ seat → seat < first + count → has (from_to first count) seat ≡ true
has_from_to first zero seat low high = absurd (omega (arith, low, high))
has_from_to first (suc count) seat low high = dite (ℕ_discrete first seat)
    (λ e. ap (has (from_to first (suc count))) (sym e) ∙ has_here first (from_to (suc first) count))
    (λ ne. has_there first (from_to (suc first) count) seat (has_from_to (suc first) count seat (omega (arith, low, ne)) (omega (arith, high))))

pub within_from_to : (first count seat : ℕ) → has (from_to first count) seat ≡ true → (first ≤ seat) × (seat < first + count)
within_from_to first zero seat h = absurd (true≢false (sym h))
within_from_to first (suc count) seat h = dite (ℕ_discrete first seat)
    (λ e. (omega (arith, e), omega (arith, e)))
    (λ ne. let r = within_from_to (suc first) count seat (sym (has_skip first (from_to (suc first) count) seat ne) ∙ h) in (omega (arith, r.0), omega (arith, r.1)))

pub not_again : (first count : ℕ) → has (from_to (suc first) count) first ≡ false
not_again first count = go (has (from_to (suc first) count) first) refl
  where
    go : (b : Bool) → has (from_to (suc first) count) first ≡ b → b ≡ false
    go true e = let r = within_from_to (suc first) count first e in absurd (omega (arith, r.0))
    go false e = refl
