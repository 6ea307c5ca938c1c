-- What is printed is read as the words that were printed.
use Rattle.std.proofs.Common.{◌≡◌, ℕ, suc, ◌+◌, ◌-◌, ◌*◌, ◌^◌, ◌<◌, ◌≤◌, Bool, true, false, ◌&&◌, ◌⊎◌, inl, inr, List, [], ◌∷◌, ◌++◌, length, map, filter, fold, refl, ap, ◌∙◌, arith, append_assoc}
use Rattle.std.specs.Prelude.{if◌then◌else◌, ◌==◌, ◌/◌, ◌%◌, nat_le, nat_lt, codes, decimal, slice_index, flat_map, ℤ, pos, negsuc, ◌≤ℤ◌, neg_ℤ}
use Rattle.std.specs.List.{list_all, AllByRecursion}
use Rattle.std.proofs.lemmas.Int.{ints}
use Rattle.std.proofs.lemmas.List.{length-append}
use Rattle.std.proofs.lemmas.Fmt.{decimal_by_steps_wide, length-decimal-le_wide}
use Rattle.session_laws.specs.session_model.specs.Grammar.{Slot, Word, Fixed, Numeral, SignedNumeral, Hexed, Fills, FillAll, LinesFill, IsNumeral, IsSignedNumeral, IsIntIn, is_digit, is_number, number_value, int_text, slot_text}
use Rattle.session_laws.specs.session_model.specs.Reports.{spaced, line, hex_byte, hex_digit}
use Rattle.session_laws.specs.session_model.specs.Texts.{with_byte, pieces, without_cr, is_blank, words, numbered, is_said}
use Rattle.session_laws.proofs.LoopLemmas.{and_parts, and_true}
use Rattle.grammar_laws.proofs.GrammarEvents.{hex_digit-is}

-- ---- words of plain bytes

-- no blank, no line's end, no control byte
abbrev pub is_plain : List ℕ → Bool
is_plain text = list_all (λ b. nat_lt 32 b) text

abbrev pub IsWord : List ℕ → Type 0
IsWord text = (0 < length text) × (is_plain text ≡ true)

plain-first : (b : ℕ) (text : List ℕ) → is_plain (b ∷ text) ≡ true → (32 < b) × (is_plain text ≡ true)
plain-first b text h = let p = and_parts (nat_lt 32 b) (is_plain text) h in (grind (arith, p.0), p.1)

no_blank : (b : ℕ) → 32 < b → is_blank b ≡ false
no_blank b h = grind arith

last_of_three : {A : Type 0} (x y : Bool) (a b c : A) → x ≡ false → y ≡ false → (if x then a else if y then b else c) ≡ c
last_of_three x y a b c p q = rw (p, q) refl

words-more : (b c : ℕ) (text : List ℕ) → is_blank b ≡ false → is_blank c ≡ false → words (b ∷ c ∷ text) ≡ with_byte b (words (c ∷ text))
words-more b c text p q = last_of_three (is_blank b) (is_blank c) (words (c ∷ text)) ((b ∷ []) ∷ words (c ∷ text)) (with_byte b (words (c ∷ text))) p q

-- a word in front of a blank
words-first : (b : ℕ) (text rest : List ℕ) → is_plain (b ∷ text) ≡ true → words (b ∷ (text ++ 32 ∷ rest)) ≡ (b ∷ text) ∷ words rest
words-first b [] rest h = rw (no_blank b (plain-first b [] h).0) refl
words-first b (c ∷ text) rest h =
    let p = plain-first b (c ∷ text) h in
    let q = plain-first c text p.1 in
    words-more b c (text ++ 32 ∷ rest) (no_blank b p.0) (no_blank c q.0) ∙ ap (λ (ws : List (List ℕ)). with_byte b ws) (words-first c text rest p.1)

words-last : (b : ℕ) (text : List ℕ) → is_plain (b ∷ text) ≡ true → words (b ∷ text) ≡ (b ∷ text) ∷ []
words-last b [] h = rw (no_blank b (plain-first b [] h).0) refl
words-last b (c ∷ text) h =
    let p = plain-first b (c ∷ text) h in
    let q = plain-first c text p.1 in
    words-more b c text (no_blank b p.0) (no_blank c q.0) ∙ ap (λ (ws : List (List ℕ)). with_byte b ws) (words-last c text p.1)

pub words-spaced : (ws : List (List ℕ)) → AllByRecursion IsWord ws → words (spaced ws) ≡ ws
words-spaced [] h = refl
words-spaced (w ∷ []) h = one w h.0
  where
    one : (w : List ℕ) → IsWord w → words w ≡ w ∷ []
    one [] p = absurd (omega (arith, p.0))
    one (b ∷ w) p = words-last b w p.1
words-spaced (w ∷ next ∷ ws) h = first w h.0 (spaced (next ∷ ws)) (words-spaced (next ∷ ws) h.1)
  where
    first : (w : List ℕ) → IsWord w → (rest : List ℕ) → words rest ≡ next ∷ ws → words (w ++ codes " " ++ rest) ≡ w ∷ next ∷ ws
    first [] p rest e = absurd (omega (arith, p.0))
    first (b ∷ w) p rest e = ap (λ (t : List ℕ). words t) (append_assoc (b ∷ w) (codes " ") rest) ∙ words-first b w rest p.1 ∙ ap (λ (x : List (List ℕ)). (b ∷ w) ∷ x) e

-- ---- lines

-- neither LF nor CR
abbrev is_inner : List ℕ → Bool
is_inner text = list_all (λ b. nat_lt 31 b) text

inner-first : (b : ℕ) (text : List ℕ) → is_inner (b ∷ text) ≡ true → (31 < b) × (is_inner text ≡ true)
inner-first b text h = let p = and_parts (nat_lt 31 b) (is_inner text) h in (grind (arith, p.0), p.1)

inner-append : (a b : List ℕ) → is_inner a ≡ true → is_inner b ≡ true → is_inner (a ++ b) ≡ true
inner-append [] b h k = k
inner-append (x ∷ a) b h k = let p = and_parts (nat_lt 31 x) (is_inner a) h in and_true (nat_lt 31 x) (is_inner (a ++ b)) p.0 (inner-append a b p.1 k)

inner-plain : (text : List ℕ) → is_plain text ≡ true → is_inner text ≡ true
inner-plain [] h = refl
inner-plain (b ∷ text) h = let p = plain-first b text h in and_true (nat_lt 31 b) (is_inner text) (large b p.0) (inner-plain text p.1)
  where
    large : (b : ℕ) → 32 < b → nat_lt 31 b ≡ true
    large b h = grind arith

inner-spaced : (ws : List (List ℕ)) → AllByRecursion IsWord ws → is_inner (spaced ws) ≡ true
inner-spaced [] h = refl
inner-spaced (w ∷ []) h = inner-plain w h.0.1
inner-spaced (w ∷ next ∷ ws) h = inner-append (w ++ codes " ") (spaced (next ∷ ws)) (inner-append w (codes " ") (inner-plain w h.0.1) refl) (inner-spaced (next ∷ ws) h.1)

pieces-line : (text rest : List ℕ) → is_inner text ≡ true → pieces (text ++ 10 ∷ rest) ≡ text ∷ pieces rest
pieces-line [] rest h = refl
pieces-line (b ∷ text) rest h =
    let p = inner-first b text h in
    let other : (b == 10) ≡ false = not_lf b p.0 in
    let later = pieces-line text rest p.1 in
    rw (other, later) refl
  where
    not_lf : (b : ℕ) → 31 < b → (b == 10) ≡ false
    not_lf b h = grind arith

without_cr-inner : (text : List ℕ) → is_inner text ≡ true → without_cr text ≡ text
without_cr-inner [] h = refl
without_cr-inner (b ∷ []) h =
    let other : (b == 13) ≡ false = not_cr b (inner-first b [] h).0 in
    rw other refl
  where
    not_cr : (b : ℕ) → 31 < b → (b == 13) ≡ false
    not_cr b h = grind arith
without_cr-inner (b ∷ c ∷ text) h = ap (λ (t : List ℕ). b ∷ t) (without_cr-inner (c ∷ text) (inner-first b (c ∷ text) h).1)

-- ---- slots

-- what makes a slot's text a word
abbrev pub IsPlainSlot : Slot → Type 0
IsPlainSlot (Word text) = IsWord text
IsPlainSlot (Fixed text) = IsWord text
IsPlainSlot (Numeral n) = n < 10 ^ 10
IsPlainSlot (SignedNumeral z) = IsIntIn (negsuc 2147483647) (pos 2147483647) z
IsPlainSlot (Hexed bytes) = (1 ≤ length bytes) × AllByRecursion (λ b. b < 256) bytes

list_all-append : (test : ℕ → Bool) (a b : List ℕ) → list_all test a ≡ true → list_all test b ≡ true → list_all test (a ++ b) ≡ true
list_all-append test [] b h k = k
list_all-append test (x ∷ a) b h k = let p = and_parts (test x) (list_all test a) h in and_true (test x) (list_all test (a ++ b)) p.0 (list_all-append test a b p.1 k)

value-append : (start : ℕ) (ds : List ℕ) (d : ℕ) → fold (λ n digit. 10 * n + (digit - 48)) start (ds ++ d ∷ []) ≡ 10 * fold (λ n digit. 10 * n + (digit - 48)) start ds + (d - 48)
value-append start [] d = refl
value-append start (x ∷ ds) d = value-append (10 * start + (x - 48)) ds d

-- what the digits of a number are
record AreDigits (n : ℕ) (ds : List ℕ) : Type 0 where
  digits : list_all is_digit ds ≡ true
  value : number_value ds ≡ n
  some : 0 < length ds

decimal-digits : (n : ℕ) → n < 10 ^ 10 → AreDigits n (decimal n)
decimal-digits n h = decimal_by_steps_wide AreDigits one more n (wide n h)
  where
    wide : (n : ℕ) → n < 10 ^ 10 → n < 10 ^ 64
    wide n h = omega arith

    one : (n : ℕ) → n < 10 → AreDigits n ((48 + n) ∷ [])
    one n lt = record { digits = grind arith; value = omega arith; some = omega arith }

    more : (n : ℕ) (ds : List ℕ) → 10 ≤ n → AreDigits (n / 10) ds → AreDigits n (ds ++ ((48 + n % 10) ∷ []))
    more n ds le a =
        let v = value-append 0 ds (48 + n % 10) in
        let w = a.value in
        record { digits = list_all-append is_digit ds ((48 + n % 10) ∷ []) a.digits (last (n % 10) (omega arith)); value = omega (arith, v, w); some = omega (arith, length-append ds ((48 + n % 10) ∷ [])) }
      where
        last : (d : ℕ) → d < 10 → list_all is_digit ((48 + d) ∷ []) ≡ true
        last d lt = grind arith

pub decimal-numeral : (n : ℕ) → n < 10 ^ 10 → IsNumeral (decimal n) n
decimal-numeral n h =
    let d = decimal-digits n h in
    let some = d.some in
    let short = length-decimal-le_wide 10 n (omega arith) h (omega arith) in
    record { digits = is_number-of (decimal n) some short d.digits; value = d.value }
  where
    is_number-of : (word : List ℕ) → 0 < length word → length word ≤ 10 → list_all is_digit word ≡ true → is_number word ≡ true
    is_number-of word a b c = rw c (sizes (length word) a b)
      where
        sizes : (n : ℕ) → 0 < n → n ≤ 10 → (nat_le 1 n && nat_le n 10 && true) ≡ true
        sizes n a b = grind arith

plain-digits : (ds : List ℕ) → list_all is_digit ds ≡ true → is_plain ds ≡ true
plain-digits [] h = refl
plain-digits (d ∷ ds) h = let p = and_parts (is_digit d) (list_all is_digit ds) h in and_true (nat_lt 32 d) (is_plain ds) (large d p.0) (plain-digits ds p.1)
  where
    large : (d : ℕ) → is_digit d ≡ true → nat_lt 32 d ≡ true
    large d h = grind arith

decimal-word : (n : ℕ) → n < 10 ^ 10 → IsWord (decimal n)
decimal-word n h = let d = decimal-digits n h in (d.some, plain-digits (decimal n) d.digits)

-- the magnitude of a number below 0
below_zero : (n : ℕ) → (negsuc 2147483647 ≤ℤ negsuc n) → n + 1 < 10 ^ 10
below_zero n h = omega (arith, ints, h)

above_zero : (n : ℕ) → (pos n ≤ℤ pos 2147483647) → n < 10 ^ 10
above_zero n h = omega (arith, ints, h)

signed-text : (z : ℤ) → IsIntIn (negsuc 2147483647) (pos 2147483647) z → IsSignedNumeral (int_text z) z × IsWord (int_text z)
signed-text (pos n) h = let lt = above_zero n h.1 in (inl (n, decimal-numeral n lt, refl), decimal-word n lt)
signed-text (negsuc n) h =
    let lt = below_zero n h.0 in
    let w = decimal-word (n + 1) lt in
    (inr (decimal (n + 1), n + 1, refl, decimal-numeral (n + 1) lt, minus n), (omega arith, and_true true (is_plain (decimal (n + 1))) refl w.1))
  where
    minus : (n : ℕ) → negsuc n ≡ neg_ℤ (pos (n + 1))
    minus n = ap (λ (m : ℕ). neg_ℤ (pos m)) (plus_one n)
      where
        plus_one : (n : ℕ) → suc n ≡ n + 1
        plus_one n = omega arith

hex-plain : (n : ℕ) → n < 16 → nat_lt 32 (hex_digit n) ≡ true
hex-plain n h = go (hex_digit n) (hex_digit-is n h)
  where
    go : (c : ℕ) → ((n < 10) × (c ≡ 48 + n)) ⊎ ((10 ≤ n) × (c ≡ 87 + n)) → nat_lt 32 c ≡ true
    go c (inl p) = let e = p.1 in grind arith
    go c (inr p) = let e = p.1 in grind arith

hexed-plain : (bytes : List ℕ) → AllByRecursion (λ b. b < 256) bytes → is_plain (flat_map hex_byte bytes) ≡ true
hexed-plain [] h = refl
hexed-plain (b ∷ bytes) h =
    let lt : b < 256 = h.0 in
    and_true (nat_lt 32 (hex_digit (b / 16))) (is_plain (hex_digit (b % 16) ∷ flat_map hex_byte bytes)) (hex-plain (b / 16) (omega arith))
    (and_true (nat_lt 32 (hex_digit (b % 16))) (is_plain (flat_map hex_byte bytes)) (hex-plain (b % 16) (omega arith)) (hexed-plain bytes h.1))

pub slot-text : (slot : Slot) → IsPlainSlot slot → Fills (slot_text slot) slot × IsWord (slot_text slot)
slot-text (Word text) p = (refl, p)
slot-text (Fixed text) p = (refl, p)
slot-text (Numeral n) p = (decimal-numeral n p, decimal-word n p)
slot-text (SignedNumeral z) p = signed-text z p
slot-text (Hexed bytes) p = (refl, (some bytes p.0, hexed-plain bytes p.1))
  where
    some : (bytes : List ℕ) → 1 ≤ length bytes → 0 < length (flat_map hex_byte bytes)
    some [] h = absurd (omega (arith, h))
    some (b ∷ bytes) h = omega arith

slots-text : (slots : List Slot) → AllByRecursion IsPlainSlot slots → FillAll (map slot_text slots) slots × AllByRecursion IsWord (map slot_text slots)
slots-text [] p = (tt, tt)
slots-text (slot ∷ slots) p = let one = slot-text slot p.0 in let later = slots-text slots p.1 in ((one.0, later.0), (one.1, later.1))

-- the line begins with a word that opens no comment
abbrev pub HeadSaid : List Slot → Type 0
HeadSaid [] = ⊥
HeadSaid (Word text ∷ slots) = (slice_index text 0 == 35) ≡ false
HeadSaid (Fixed text ∷ slots) = ⊥
HeadSaid (Numeral n ∷ slots) = ⊥
HeadSaid (SignedNumeral z ∷ slots) = ⊥
HeadSaid (Hexed bytes ∷ slots) = ⊥

said-head : (slots : List Slot) → HeadSaid slots → is_said (map slot_text slots) ≡ true
said-head [] h = absurd h
said-head (Word text ∷ slots) h = rw h refl
said-head (Fixed text ∷ slots) h = absurd h
said-head (Numeral n ∷ slots) h = absurd h
said-head (SignedNumeral z ∷ slots) h = absurd h
said-head (Hexed bytes ∷ slots) h = absurd h

abbrev pub IsPlainLine : List Slot → Type 0
IsPlainLine slots = AllByRecursion IsPlainSlot slots × HeadSaid slots

abbrev pub line_text : List Slot → List ℕ
line_text slots = line (map slot_text slots)

pub lines-fill : (lines : List (List Slot)) (n : ℕ) → AllByRecursion IsPlainLine lines → LinesFill (filter (λ line. is_said line.words) (numbered n (map without_cr (pieces (flat_map line_text lines))))) lines
lines-fill [] n p = tt
lines-fill (slots ∷ lines) n p =
    let t = slots-text slots p.0.0 in
    let inner = inner-spaced (map slot_text slots) t.1 in
    let whole : pieces (line_text slots ++ flat_map line_text lines) ≡ spaced (map slot_text slots) ∷ pieces (flat_map line_text lines) =
    ap (λ (b : List ℕ). pieces b) (append_assoc (spaced (map slot_text slots)) (10 ∷ []) (flat_map line_text lines)) ∙ pieces-line (spaced (map slot_text slots)) (flat_map line_text lines) inner in
    let bare = without_cr-inner (spaced (map slot_text slots)) inner in
    let read = words-spaced (map slot_text slots) t.1 in
    let said_is : is_said (words (without_cr (spaced (map slot_text slots)))) ≡ true = rw (bare, read) (said-head slots p.0.1) in
    let filled : FillAll (words (without_cr (spaced (map slot_text slots)))) slots = rw (bare, read) t.0 in
    let later = lines-fill lines (n + 1) p.1 in
    rw whole (kept said_is filled later)
  where
    kept : is_said (words (without_cr (spaced (map slot_text slots)))) ≡ true → FillAll (words (without_cr (spaced (map slot_text slots)))) slots → LinesFill (filter (λ line. is_said line.words) (numbered (n + 1) (map without_cr (pieces (flat_map line_text lines))))) lines
        → LinesFill (filter (λ line. is_said line.words) (numbered n (map without_cr (spaced (map slot_text slots) ∷ pieces (flat_map line_text lines))))) (slots ∷ lines)
    kept e f l = rw e (f, l)
