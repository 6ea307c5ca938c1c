-- How far numbers are from 0.
--     within_product, within_tapped, within_shift, within_sum, within_less, within_value
use Rattle.std.proofs.Common.{◌≡◌, ℕ, ◌+◌, ◌/◌, ◌^◌, ◌≤◌, ℤ, pos, negsuc, ◌+ℤ◌, ◌*ℤ◌, sym, subst, arith}
use Rattle.std.specs.Int.{int_shr, w32}
use Rattle.std.specs.Prelude.{FitsSigned}
use Rattle.std.specs.Int.RustNames.{unsigned_abs}
use Rattle.std.proofs.lemmas.Int.{ints, unsigned_abs-mul}
use Rattle.std.proofs.lemmas.Nat.{shr_le}
use Rattle.std.proofs.Math.Nat.{mul-le-mul}
use Rattle.jack_types.specs.Taps.{IsTap}
use Rattle.guests.specs.Turns.{IsWithin}

within_of : (limit : ℕ) (x : ℤ) → unsigned_abs x ≤ limit → IsWithin limit x
within_of limit (pos n) h = record { low = omega (arith, ints, h); high = omega (arith, ints, h) }
within_of limit (negsuc n) h = record { low = omega (arith, ints, h); high = omega (arith, ints, h) }

abs_sample : (x : ℤ) → FitsSigned w32 x → unsigned_abs x ≤ 2147483648
abs_sample x h = omega (arith, ints)

abs_tap : (x : ℤ) → IsTap x → unsigned_abs x ≤ 32768
abs_tap (pos n) h = omega (arith, ints, h.0, h.1)
abs_tap (negsuc n) h = omega (arith, ints, h.0, h.1)

pub within_product : (x factor : ℤ) → FitsSigned w32 x → IsTap factor → IsWithin 70368744177664 (x *ℤ factor)
within_product x factor h k =
    within_of 70368744177664 (x *ℤ factor)
    (subst (λ n. n ≤ 70368744177664) (sym (unsigned_abs-mul x factor)) (mul-le-mul (abs_sample x h) (abs_tap factor k)))

pub within_tapped : (tap x : ℤ) → IsTap tap → FitsSigned w32 x → IsWithin 70368744177664 (tap *ℤ x)
within_tapped tap x k h =
    within_of 70368744177664 (tap *ℤ x)
    (subst (λ n. n ≤ 70368744177664) (sym (unsigned_abs-mul tap x)) (mul-le-mul (abs_tap tap k) (abs_sample x h)))

pub within_shift : (limit : ℕ) (x : ℤ) (k : ℕ) → IsWithin limit x → IsWithin limit (int_shr x k)
within_shift limit (pos n) k h = let less : n / 2 ^ k ≤ n = shr_le n k in record { low = omega (arith, ints, h.low, h.high, less); high = omega (arith, ints, h.low, h.high, less) }
within_shift limit (negsuc n) k h = let less : n / 2 ^ k ≤ n = shr_le n k in record { low = omega (arith, ints, h.low, h.high, less); high = omega (arith, ints, h.low, h.high, less) }

pub within_sum : (a b : ℕ) (x y : ℤ) → IsWithin a x → IsWithin b y → IsWithin (a + b) (x +ℤ y)
within_sum a b x y h k = record { low = omega (arith, ints, h.low, h.high, k.low, k.high); high = omega (arith, ints, h.low, h.high, k.low, k.high) }

pub within_less : (a b : ℕ) (x : ℤ) → a ≤ b → IsWithin a x → IsWithin b x
within_less a b x p h = record { low = omega (arith, ints, p, h.low, h.high); high = omega (arith, ints, p, h.low, h.high) }

pub within_value : (limit : ℕ) (x y : ℤ) → x ≡ y → IsWithin limit y → IsWithin limit x
within_value limit x y e h = subst (λ z. IsWithin limit z) (sym e) h
