-- Numbers that plain digits write.
--     number-whole      the digits read so far are all
--     number_of-is, number_of-again      a word is read as the number that it is written for
use Rattle.std.proofs.Common.{◌≡◌, ℕ, zero, suc, ◌+◌, ◌-◌, ◌*◌, ◌<◌, ◌≤◌, ◌^◌, Bool, true, false, not, ◌&&◌, List, [], ◌∷◌, length, take, fold, get_or, decimal, Some, None, refl, sym, ap, ◌∙◌, arith, rules, true≢false}
use Rattle.std.specs.Prelude.{◌==◌, nat_le, nat_lt, if◌then◌else◌}
use Rattle.std.specs.List.{list_all}
use Rattle.std.proofs.lemmas.Bool.Decides.{nat_tests}
use Rattle.std.proofs.lemmas.Fmt.{digits_decimal, digits_value-decimal, length-decimal-le, decimal_nonempty, first_decimal, decimal-digits_value, decimal_digit}
use Rattle.std.proofs.lemmas.List.{take_all}
use Rattle.std.proofs.lemmas.Str.Parse.{IsNumeralModel, numerals_by_fold, digits_value_short}
use Rattle.session_model.specs.Grammar.{is_digit, number_value}
use Rattle.session_laws.proofs.LoopLemmas.{and_parts}
use Rattle.session_laws.proofs.TextLemmas.{Lacks}
use Rattle.check_model.specs.Checking.{IsNumber}
use Rattle.report_reader.specs.Readers.{is_digits, leads_zero, number_of}

powers : (i : ℕ) → i ≤ 19 → 10 ^ i ≤ 10 ^ 19
powers zero h = omega arith
powers (suc zero) h = omega arith
powers (suc (suc zero)) h = omega arith
powers (suc (suc (suc zero))) h = omega arith
powers (suc (suc (suc (suc zero)))) h = omega arith
powers (suc (suc (suc (suc (suc zero))))) h = omega arith
powers (suc (suc (suc (suc (suc (suc zero)))))) h = omega arith
powers (suc (suc (suc (suc (suc (suc (suc zero))))))) h = omega arith
powers (suc (suc (suc (suc (suc (suc (suc (suc zero)))))))) h = omega arith
powers (suc (suc (suc (suc (suc (suc (suc (suc (suc zero))))))))) h = omega arith
powers (suc (suc (suc (suc (suc (suc (suc (suc (suc (suc zero)))))))))) h = omega arith
powers (suc (suc (suc (suc (suc (suc (suc (suc (suc (suc (suc zero))))))))))) h = omega arith
powers (suc (suc (suc (suc (suc (suc (suc (suc (suc (suc (suc (suc zero)))))))))))) h = omega arith
powers (suc (suc (suc (suc (suc (suc (suc (suc (suc (suc (suc (suc (suc zero))))))))))))) h = omega arith
powers (suc (suc (suc (suc (suc (suc (suc (suc (suc (suc (suc (suc (suc (suc zero)))))))))))))) h = omega arith
powers (suc (suc (suc (suc (suc (suc (suc (suc (suc (suc (suc (suc (suc (suc (suc zero))))))))))))))) h = omega arith
powers (suc (suc (suc (suc (suc (suc (suc (suc (suc (suc (suc (suc (suc (suc (suc (suc zero)))))))))))))))) h = omega arith
powers (suc (suc (suc (suc (suc (suc (suc (suc (suc (suc (suc (suc (suc (suc (suc (suc (suc zero))))))))))))))))) h = omega arith
powers (suc (suc (suc (suc (suc (suc (suc (suc (suc (suc (suc (suc (suc (suc (suc (suc (suc (suc zero)))))))))))))))))) h = omega arith
powers (suc (suc (suc (suc (suc (suc (suc (suc (suc (suc (suc (suc (suc (suc (suc (suc (suc (suc (suc zero))))))))))))))))))) h = omega arith
powers (suc (suc (suc (suc (suc (suc (suc (suc (suc (suc (suc (suc (suc (suc (suc (suc (suc (suc (suc (suc n)))))))))))))))))))) h = absurd (omega (arith, h))

powers-below : (i : ℕ) → i ≤ 18 → 10 ^ i ≤ 10 ^ 18
powers-below zero h = omega arith
powers-below (suc zero) h = omega arith
powers-below (suc (suc zero)) h = omega arith
powers-below (suc (suc (suc zero))) h = omega arith
powers-below (suc (suc (suc (suc zero)))) h = omega arith
powers-below (suc (suc (suc (suc (suc zero))))) h = omega arith
powers-below (suc (suc (suc (suc (suc (suc zero)))))) h = omega arith
powers-below (suc (suc (suc (suc (suc (suc (suc zero))))))) h = omega arith
powers-below (suc (suc (suc (suc (suc (suc (suc (suc zero)))))))) h = omega arith
powers-below (suc (suc (suc (suc (suc (suc (suc (suc (suc zero))))))))) h = omega arith
powers-below (suc (suc (suc (suc (suc (suc (suc (suc (suc (suc zero)))))))))) h = omega arith
powers-below (suc (suc (suc (suc (suc (suc (suc (suc (suc (suc (suc zero))))))))))) h = omega arith
powers-below (suc (suc (suc (suc (suc (suc (suc (suc (suc (suc (suc (suc zero)))))))))))) h = omega arith
powers-below (suc (suc (suc (suc (suc (suc (suc (suc (suc (suc (suc (suc (suc zero))))))))))))) h = omega arith
powers-below (suc (suc (suc (suc (suc (suc (suc (suc (suc (suc (suc (suc (suc (suc zero)))))))))))))) h = omega arith
powers-below (suc (suc (suc (suc (suc (suc (suc (suc (suc (suc (suc (suc (suc (suc (suc zero))))))))))))))) h = omega arith
powers-below (suc (suc (suc (suc (suc (suc (suc (suc (suc (suc (suc (suc (suc (suc (suc (suc zero)))))))))))))))) h = omega arith
powers-below (suc (suc (suc (suc (suc (suc (suc (suc (suc (suc (suc (suc (suc (suc (suc (suc (suc zero))))))))))))))))) h = omega arith
powers-below (suc (suc (suc (suc (suc (suc (suc (suc (suc (suc (suc (suc (suc (suc (suc (suc (suc (suc zero)))))))))))))))))) h = omega arith
powers-below (suc (suc (suc (suc (suc (suc (suc (suc (suc (suc (suc (suc (suc (suc (suc (suc (suc (suc (suc n))))))))))))))))))) h = absurd (omega (arith, h))

pub number-whole : (word : List ℕ) (i n : ℕ) → length word ≤ i → i ≤ length word → length word ≤ 19 → (length word == 0) ≡ false → list_all is_digit (take i word) ≡ true → number_value (take i word) ≡ n → n < 10 ^ i → (is_digits word ≡ true) × (number_value word ≡ n) × (n < 10 ^ 19)
number-whole word i n le ge few some digits value small =
    let all : take i word ≡ word = take_all i word le in
    let d : list_all is_digit word ≡ true = rw (← all) digits in
    let v : number_value word ≡ n = rw (← all) value in
    let p = powers i (omega (arith, ge, few)) in
    (rw d (sizes (length word) some few), v, omega (arith, p, small))
  where
    sizes : (n : ℕ) → (n == 0) ≡ false → n ≤ 19 → (nat_le 1 n && nat_le n 19 && true) ≡ true
    sizes n a b = grind arith

-- one digit more still fits
pub digit-more : (n i len : ℕ) → i < len → len ≤ 19 → n < 10 ^ i → 10 * n + 10 < 2 ^ 64
digit-more n i len lt few small = let p = powers-below i (omega (arith, lt, few)) in omega (arith, p, small)

pub own : IsNumeralModel (λ ds. list_all is_digit ds ≡ true) number_value
own = numerals_by_fold _ (search rules) (λ s ds. fold (λ n digit. 10 * n + (digit - 48)) s ds) (search rules)

some-is : {A : Type 0} (b : Bool) (x y : A) → (if b then Some x else None) ≡ Some y → (b ≡ true) × (x ≡ y)
some-is true x y e = (refl, cc)
some-is false x y e = absurd cc

pub number_of-is : (word : List ℕ) (n : ℕ) → number_of word ≡ Some n → (word ≡ decimal n) × IsNumber n
number_of-is word n e =
    let r = some-is (is_digits word && not (leads_zero word)) (number_value word) n e in
    let p = and_parts (is_digits word) (not (leads_zero word)) r.0 in
    let q = and_parts (nat_le 1 (length word) && nat_le (length word) 19) (list_all is_digit word) p.0 in
    let s = and_parts (nat_le 1 (length word)) (nat_le (length word) 19) q.0 in
    let some : 0 < length word = grind (arith, nat_tests) in
    let few : length word ≤ 19 = grind (arith, nat_tests) in
    let below : number_value word < 10 ^ 19 = digits_value_short own word 19 q.1 few in
    let first : get_or word 0 0 ≡ 48 → length word ≡ 1 = λ z. lone (get_or word 0 0) (length word) z some p.1 in
    (sym (decimal-digits_value own word q.1 some first (omega (arith, below))) ∙ ap decimal r.1, (rw (← r.1) below))
  where
    lone : (b k : ℕ) → b ≡ 48 → 0 < k → not (b == 48 && nat_lt 1 k) ≡ true → k ≡ 1
    lone b k z some h = grind (arith, nat_tests)

pub number_of-again : (n : ℕ) → IsNumber n → number_of (decimal n) ≡ Some n
number_of-again n h =
    let wide : n < 2 ^ 64 = omega (arith, h) in
    let digits : list_all is_digit (decimal n) ≡ true = digits_decimal own n wide in
    let value : number_value (decimal n) ≡ n = digits_value-decimal own n wide in
    let few : length (decimal n) ≤ 19 = length-decimal-le 19 n (omega arith) h wide in
    let some : 0 < length (decimal n) = decimal_nonempty n wide in
    rw (digits, value, sizes (length (decimal n)) some few, first n wide) refl
  where
    sizes : (k : ℕ) → 0 < k → k ≤ 19 → (nat_le 1 k && nat_le k 19) ≡ true
    sizes k a b = grind (arith, nat_tests)

    lone : (b k : ℕ) → 48 < b → (b == 48 && nat_lt 1 k) ≡ false
    lone b k z = grind (arith, nat_tests)

    first : (n : ℕ) → n < 2 ^ 64 → leads_zero (decimal n) ≡ false
    first zero wide = rw (decimal_digit 0 (omega arith)) refl
    first (suc n) wide = lone (get_or (decimal (suc n)) 0 0) (length (decimal (suc n))) (first_decimal (suc n) (omega arith) wide)

-- a byte that is no digit stands in no number
digits-lack : (s : ℕ) (ds : List ℕ) → is_digit s ≡ false → list_all is_digit ds ≡ true → Lacks s ds
digits-lack s [] off h = tt
digits-lack s (d ∷ ds) off h =
    let p = and_parts (is_digit d) (list_all is_digit ds) h in
    ((λ e. true≢false (sym p.0 ∙ ap is_digit e ∙ off)), digits-lack s ds off p.1)

pub number-lacks : (s n : ℕ) → is_digit s ≡ false → IsNumber n → Lacks s (decimal n)
number-lacks s n off h = digits-lack s (decimal n) off (digits_decimal own n (omega (arith, h)))
