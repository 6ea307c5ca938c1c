-- Gains that make each sample smaller.
--     softer_fits      what such a gain gives is a sample
--     softer_cast      and so are its 64 bits
--     softer_clamped      it is its own clamp
use Rattle.std.proofs.Common.{◌≡◌, ℕ, zero, suc, ◌*◌, ◌/◌, ◌^◌, ◌<◌, ◌≤◌, ℤ, pos, negsuc, neg_ℤ, nat_abs, ◌*ℤ◌, of_z, to_z, w64, sym, subst, arith}
use Rattle.std.specs.Int.{int_shr, w32}
use Rattle.std.specs.Prelude.{FitsSigned}
use Rattle.std.proofs.lemmas.Int.{ints, to_z-of_z}
use Rattle.std.proofs.lemmas.Nat.{div_below}
use Rattle.std.proofs.Math.Nat.{mul-le-mul_right}
use Rattle.port_mixer.specs.session_model.specs.Samples.{clamp}

-- a sample's magnitude times a smaller one
times : (a b m : ℕ) → a ≤ 2147483648 → b < m → a * b < 2147483648 * m
times a b m small softer = let more : a * b ≤ 2147483648 * b = mul-le-mul_right b small in omega (arith, more, softer)

quotient : (n m : ℕ) → n < 2147483648 * m → n / m < 2147483648
quotient n m within = div_below n m 2147483648 (omega (arith, within)) within

whole : (q : ℕ) → q < 2147483648 → FitsSigned w32 (pos q)
whole q within = grind (arith, ints)

below : (q : ℕ) → q < 2147483648 → FitsSigned w32 (negsuc q)
below q within = grind (arith, ints)

up_fits : (n s : ℕ) → n < 2147483648 * 2 ^ s → FitsSigned w32 (int_shr (pos n) s)
up_fits n s within = whole (n / 2 ^ s) (quotient n (2 ^ s) within)

down_fits : (n s : ℕ) → n < 2147483648 * 2 ^ s → FitsSigned w32 (int_shr (neg_ℤ (pos n)) s)
down_fits zero s within = up_fits zero s within
down_fits (suc n) s within = below (n / 2 ^ s) (quotient n (2 ^ s) (omega (arith, within)))

pub softer_fits : (x f : ℤ) (s : ℕ) → FitsSigned w32 x → nat_abs f < 2 ^ s → FitsSigned w32 (int_shr (x *ℤ f) s)
softer_fits (pos a) (pos b) s fits softer = up_fits (a * b) s (times a b (2 ^ s) (omega (arith, ints)) softer)
softer_fits (pos a) (negsuc b) s fits softer = down_fits (a * suc b) s (times a (suc b) (2 ^ s) (omega (arith, ints)) softer)
softer_fits (negsuc a) (pos b) s fits softer = down_fits (suc a * b) s (times (suc a) b (2 ^ s) (omega (arith, ints)) softer)
softer_fits (negsuc a) (negsuc b) s fits softer = up_fits (suc a * suc b) s (times (suc a) (suc b) (2 ^ s) (omega (arith, ints)) softer)

wide : (y : ℤ) → FitsSigned w32 y → FitsSigned w64 y
wide (pos n) fits = grind (arith, ints)
wide (negsuc n) fits = grind (arith, ints)

pub softer_cast : (x f y : ℤ) (s : ℕ) → FitsSigned w32 x → nat_abs f < 2 ^ s → y ≡ int_shr (x *ℤ f) s → FitsSigned w32 (to_z w64 (of_z w64 y))
softer_cast x f y s fits softer is = subst (FitsSigned w32) (sym (to_z-of_z w64 y (wide y narrow))) narrow
  where
    narrow : FitsSigned w32 y
    narrow = subst (FitsSigned w32) (sym is) (softer_fits x f s fits softer)

clamp-sample : (x : ℤ) → FitsSigned w32 x → x ≡ clamp x
clamp-sample (pos n) fits = grind (arith, ints)
clamp-sample (negsuc n) fits = grind (arith, ints)

pub softer_clamped : (x f : ℤ) (s : ℕ) → FitsSigned w32 x → nat_abs f < 2 ^ s → int_shr (x *ℤ f) s ≡ clamp (int_shr (x *ℤ f) s)
softer_clamped x f s fits softer = clamp-sample (int_shr (x *ℤ f) s) (softer_fits x f s fits softer)
