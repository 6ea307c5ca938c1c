-- The words of a line from a place on.
use Rattle.std.proofs.Common.{◌≡◌, ℕ, zero, suc, ◌+◌, ◌<◌, ◌≤◌, Bool, true, false, not, cond, ◌&&◌, List, [], ◌∷◌, length, take, drop, refl, ap, ◌∙◌, arith}
use Rattle.std.specs.Prelude.{if◌then◌else◌, slice_index}
use Rattle.std.specs.List.{prefix_len}
use Rattle.std.specs.Prelude.{◌==◌, ◌^◌, ◌≢◌, nat_le}
use Rattle.std.specs.List.{list_all}
use Rattle.std.proofs.lemmas.List.{take_all}
use Rattle.session_model.specs.Grammar.{is_digit, is_number, number_value}
use Rattle.session_model.specs.Texts.{pieces, without_cr, is_said, said_from, is_blank, with_byte, words}

pub words-blank : (b : ℕ) (bytes : List ℕ) → is_blank b ≡ true → words (b ∷ bytes) ≡ words bytes
words-blank b bytes h = rw h refl

abbrev pub goes_on : ℕ → Bool
goes_on b = not (is_blank b)

chosen : {A : Type 0} (x y : Bool) (a b c : A) → x ≡ false → (if x then a else if y then b else c) ≡ (if y then b else c)
chosen x y a b c h = rw h refl

-- the word in front
pub words-front : (b : ℕ) (bytes : List ℕ) → is_blank b ≡ false → words (b ∷ bytes) ≡ take (prefix_len goes_on (b ∷ bytes)) (b ∷ bytes) ∷ words (drop (prefix_len goes_on (b ∷ bytes)) (b ∷ bytes))
words-front b [] h = rw h refl
words-front b (c ∷ bytes) h = chosen (is_blank b) (is_blank c) (words (c ∷ bytes)) ((b ∷ []) ∷ words (c ∷ bytes)) (with_byte b (words (c ∷ bytes))) h ∙ go (is_blank c) refl (λ k. words-front c bytes k)
  where
    one : prefix_len goes_on (b ∷ c ∷ bytes) ≡ suc (prefix_len goes_on (c ∷ bytes))
    one = rw h (plus_one (prefix_len goes_on (c ∷ bytes)))
      where
        plus_one : (n : ℕ) → 1 + n ≡ suc n
        plus_one n = omega arith

    go : (k : Bool) → is_blank c ≡ k → (is_blank c ≡ false → words (c ∷ bytes) ≡ take (prefix_len goes_on (c ∷ bytes)) (c ∷ bytes) ∷ words (drop (prefix_len goes_on (c ∷ bytes)) (c ∷ bytes)))
        → (if k then (b ∷ []) ∷ words (c ∷ bytes) else with_byte b (words (c ∷ bytes))) ≡ take (prefix_len goes_on (b ∷ c ∷ bytes)) (b ∷ c ∷ bytes) ∷ words (drop (prefix_len goes_on (b ∷ c ∷ bytes)) (b ∷ c ∷ bytes))
    go true e later =
        let none : prefix_len goes_on (c ∷ bytes) ≡ 0 = rw e refl in
        rw (one, none) refl
    go false e later = rw one (ap (λ (ws : List (List ℕ)). with_byte b ws) (later e))

pub words-next : (bytes : List ℕ) → 0 < length bytes → is_blank (slice_index bytes 0) ≡ false → words bytes ≡ take (prefix_len goes_on bytes) bytes ∷ words (drop (prefix_len goes_on bytes) bytes)
words-next [] some h = absurd (omega (arith, some))
words-next (b ∷ bytes) some h = words-front b bytes h

-- ---- numbers

powers : (i : ℕ) → i ≤ 10 → 10 ^ i ≤ 10 ^ 10
powers zero h = omega arith
powers (suc zero) h = omega arith
powers (suc (suc zero)) h = omega arith
powers (suc (suc (suc zero))) h = omega arith
powers (suc (suc (suc (suc zero)))) h = omega arith
powers (suc (suc (suc (suc (suc zero))))) h = omega arith
powers (suc (suc (suc (suc (suc (suc zero)))))) h = omega arith
powers (suc (suc (suc (suc (suc (suc (suc zero))))))) h = omega arith
powers (suc (suc (suc (suc (suc (suc (suc (suc zero)))))))) h = omega arith
powers (suc (suc (suc (suc (suc (suc (suc (suc (suc zero))))))))) h = omega arith
powers (suc (suc (suc (suc (suc (suc (suc (suc (suc (suc zero)))))))))) h = omega arith
powers (suc (suc (suc (suc (suc (suc (suc (suc (suc (suc (suc n))))))))))) h = absurd (omega (arith, h))

pub number-whole : (word : List ℕ) (i n : ℕ) → length word ≤ i → i ≤ length word → length word ≤ 10 → (length word == 0) ≡ false → list_all is_digit (take i word) ≡ true → number_value (take i word) ≡ n → n < 10 ^ i → (is_number word ≡ true) × (number_value word ≡ n) × (n < 10000000000)
number-whole word i n le ge few some digits value small =
    let all : take i word ≡ word = take_all i word le in
    let d : list_all is_digit word ≡ true = rw (← all) digits in
    let v : number_value word ≡ n = rw (← all) value in
    let p = powers i (omega (arith, ge, few)) in
    (rw d (sizes (length word) some few), v, omega (arith, p, small))
  where
    sizes : (n : ℕ) → (n == 0) ≡ false → n ≤ 10 → (nat_le 1 n && nat_le n 10 && true) ≡ true
    sizes n a b = grind arith

-- ---- lines

abbrev pub in_line : ℕ → Bool
in_line b = not (b == 10)

pub pieces-next : (bytes : List ℕ) → 0 < length bytes → pieces bytes ≡ take (prefix_len in_line bytes) bytes ∷ pieces (drop 1 (drop (prefix_len in_line bytes) bytes))
pieces-next [] some = absurd (omega (arith, some))
pieces-next (b ∷ []) some = go (b == 10)
  where
    go : (c : Bool) → (if c then [] ∷ [] else (b ∷ []) ∷ []) ≡ take (cond (not c) 1 0) (b ∷ []) ∷ pieces (drop 1 (drop (cond (not c) 1 0) (b ∷ [])))
    go true = refl
    go false = refl
pieces-next (b ∷ c ∷ bytes) some = go (b == 10) (pieces-next (c ∷ bytes) (omega arith)) (plus_one (prefix_len in_line (c ∷ bytes)))
  where
    plus_one : (n : ℕ) → 1 + n ≡ suc n
    plus_one n = omega arith

    go : (k : Bool) → pieces (c ∷ bytes) ≡ take (prefix_len in_line (c ∷ bytes)) (c ∷ bytes) ∷ pieces (drop 1 (drop (prefix_len in_line (c ∷ bytes)) (c ∷ bytes))) → 1 + prefix_len in_line (c ∷ bytes) ≡ suc (prefix_len in_line (c ∷ bytes))
        → (if k then [] ∷ pieces (c ∷ bytes) else with_byte b (pieces (c ∷ bytes))) ≡ take (cond (not k) (1 + prefix_len in_line (c ∷ bytes)) 0) (b ∷ c ∷ bytes) ∷ pieces (drop 1 (drop (cond (not k) (1 + prefix_len in_line (c ∷ bytes)) 0) (b ∷ c ∷ bytes)))
    go true later one = refl
    go false later one = ap (λ (ps : List (List ℕ)). with_byte b ps) later ∙ same (prefix_len in_line (c ∷ bytes)) (1 + prefix_len in_line (c ∷ bytes)) one
      where
        same : (n m : ℕ) → m ≡ suc n → (b ∷ take n (c ∷ bytes)) ∷ pieces (drop 1 (drop n (c ∷ bytes))) ≡ take m (b ∷ c ∷ bytes) ∷ pieces (drop 1 (drop m (b ∷ c ∷ bytes)))
        same n m e = rw e refl

pub cr-last : (xs : List ℕ) (n : ℕ) (k : Bool) → length xs ≡ suc n → (slice_index xs n == 13) ≡ k → without_cr xs ≡ (if k then take n xs else xs)
cr-last [] n k e h = absurd (omega (arith, e))
cr-last (b ∷ []) zero k e h = rw h refl
cr-last (b ∷ []) (suc n) k e h = absurd (omega (arith, e))
cr-last (b ∷ c ∷ xs) zero k e h = absurd (omega (arith, e))
cr-last (b ∷ c ∷ xs) (suc n) true e h = ap (λ (ys : List ℕ). b ∷ ys) (cr-last (c ∷ xs) n true (omega (arith, e)) h)
cr-last (b ∷ c ∷ xs) (suc n) false e h = ap (λ (ys : List ℕ). b ∷ ys) (cr-last (c ∷ xs) n false (omega (arith, e)) h)

pub cr-dropped : (xs : List ℕ) (n : ℕ) → length xs ≡ n + 1 → slice_index xs n ≡ 13 → without_cr xs ≡ take n xs
cr-dropped xs n e h = let t : (slice_index xs n == 13) ≡ true = grind arith in cr-last xs n true (omega (arith, e)) t

pub cr-none : (xs : List ℕ) (n : ℕ) → length xs ≡ n + 1 → slice_index xs n ≢ 13 → without_cr xs ≡ xs
cr-none xs n e h = let t : (slice_index xs n == 13) ≡ false = grind (arith, h) in cr-last xs n false (omega (arith, e)) t

-- ---- lines that are said

-- a line's first byte, behind the blanks, says whether it is said
pub said-first : (line rest : List ℕ) → words rest ≡ words line → 0 < length rest → is_blank (slice_index rest 0) ≡ false → is_said (words line) ≡ not (slice_index rest 0 == 35)
said-first line [] e some h = absurd (omega (arith, some))
said-first line (b ∷ rest) e some h = rw (← e, words-front b rest h) (first (prefix_len goes_on rest) h)
  where
    first : (n : ℕ) → is_blank b ≡ false → not (slice_index (take (cond (not (is_blank b)) (1 + n) 0) (b ∷ rest)) 0 == 35) ≡ not (b == 35)
    first n k = rw k (taken (1 + n) n (plus_one n))
      where
        plus_one : (n : ℕ) → 1 + n ≡ suc n
        plus_one n = omega arith

        taken : (m n : ℕ) → m ≡ suc n → not (slice_index (take m (b ∷ rest)) 0 == 35) ≡ not (b == 35)
        taken m n e = rw e refl

pub said-none : (line rest : List ℕ) → words rest ≡ words line → length rest ≡ 0 → is_said (words line) ≡ false
said-none line [] e none = rw (← e) refl
said-none line (b ∷ rest) e none = absurd (omega (arith, none))

pub said-kept : (number : ℕ) (text piece rest : List ℕ) → pieces text ≡ piece ∷ pieces rest → is_said (words (without_cr piece)) ≡ true → said_from number text ≡ record { number = number; words = words (without_cr piece) } ∷ said_from (number + 1) rest
said-kept number text piece rest e h = rw (e, h) refl

pub said-skipped : (number : ℕ) (text piece rest : List ℕ) → pieces text ≡ piece ∷ pieces rest → is_said (words (without_cr piece)) ≡ false → said_from number text ≡ said_from (number + 1) rest
said-skipped number text piece rest e h = rw (e, h) refl
