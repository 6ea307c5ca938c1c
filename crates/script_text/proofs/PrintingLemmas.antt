-- Text that grows by words is a line; text that grows by lines is the whole.
use Rattle.std.proofs.Common.{◌≡◌, ℕ, zero, suc, ◌+◌, ◌<◌, ◌≤◌, true, false, List, [], ◌∷◌, ◌++◌, length, map, take, inl, inr, refl, sym, ap, subst, ◌∙◌, arith, append_assoc}
use Rattle.std.proofs.lemmas.Fmt.{hex_byte as std_hex_byte}
use Rattle.std.specs.Fmt.{AppendsText, digit_glyph, digits, format_spec, padded_integral}
use Rattle.grammar_laws.proofs.GrammarEvents.{hex_digit-is}
use Rattle.std.specs.Prelude.{◌/◌, ◌%◌, ◌⊎◌, nat_lt, OnOk, Option, Some, flat_map, codes, slice_index_or, Result, Ok, Err, IfOk, get_or}
use Rattle.std.proofs.lemmas.List.{append-nil, map-append, take_more}
use Rattle.std.proofs.lemmas.List.Concat.{flat_map-append}
use Rattle.jack_types.specs.declared.events.Event.{Event}
use Rattle.grammar_laws.specs.session_model.specs.Grammar.{Slot, slot_text, event_slots, lines_by, printed_choices, script_text}
use Rattle.grammar_laws.specs.session_model.specs.Reports.{spaced, line, hex_byte, hex_digit}
use Rattle.grammar_laws.specs.session_model.specs.Samples.{below}
use Rattle.grammar_laws.specs.session_model.specs.Scripts.{Script}
use Rattle.script_text.specs.Printing.{with_words, with_line, with_lines, first_lists}

-- the words behind the first, each behind a space
abbrev tail_of : List Slot → List ℕ
tail_of [] = []
tail_of (slot ∷ slots) = (32 ∷ slot_text slot) ++ tail_of slots

with_words-tail : (text : List ℕ) (slots : List Slot) → with_words text slots ≡ text ++ tail_of slots
with_words-tail text [] = sym (append-nil text)
with_words-tail text (slot ∷ slots) = with_words-tail (text ++ 32 ∷ slot_text slot) slots ∙ append_assoc text (32 ∷ slot_text slot) (tail_of slots)

spaced-tail : (slot : Slot) (slots : List Slot) → spaced (slot_text slot ∷ map slot_text slots) ≡ slot_text slot ++ tail_of slots
spaced-tail slot [] = sym (append-nil (slot_text slot))
spaced-tail slot (next ∷ slots) = ap (λ (ws : List ℕ). slot_text slot ++ codes " " ++ ws) (spaced-tail next slots) ∙ append_assoc (slot_text slot) (codes " ") (slot_text next ++ tail_of slots)

-- a first word, the others, and the end are a line
pub line-made : (text : List ℕ) (first : Slot) (slots : List Slot) → with_words (text ++ slot_text first) slots ++ 10 ∷ [] ≡ with_line text (first ∷ slots)
line-made text first slots =
    joined text (slot_text first) (tail_of slots) (with_words (text ++ slot_text first) slots) (spaced (slot_text first ∷ map slot_text slots)) (with_words-tail (text ++ slot_text first) slots) (spaced-tail first slots)
  where
    joined : (text word tail grown words : List ℕ) → grown ≡ (text ++ word) ++ tail → words ≡ word ++ tail → grown ++ 10 ∷ [] ≡ text ++ (words ++ 10 ∷ [])
    joined text word tail grown words g w = rw (g, w, append_assoc text word tail, append_assoc text (word ++ tail) (10 ∷ [])) refl

-- a line that was put word by word
pub line-put : {T E : Type 0} (result : Result T E) (old begun grown new : List ℕ) (first : Slot) (slots : List Slot) → begun ≡ old ++ slot_text first → grown ≡ with_words begun slots → IfOk result (λ _. new ≡ grown ++ 10 ∷ []) → IfOk result (λ _. new ≡ with_line old (first ∷ slots))
line-put (Ok x) old begun grown new first slots b g n = n ∙ ap (λ (t : List ℕ). t ++ 10 ∷ []) (g ∙ ap (λ (t : List ℕ). with_words t slots) b) ∙ line-made old first slots
line-put (Err x) old begun grown new first slots b g n = tt

pub with_lines-append : (text : List ℕ) (a b : List (List Slot)) → with_lines text (a ++ b) ≡ with_lines (with_lines text a) b
with_lines-append text [] b = refl
with_lines-append text (slots ∷ a) b = with_lines-append (with_line text slots) a b

pub with_lines-more : {X : Type 0} (text : List ℕ) (slots : X → List Slot) (xs : List X) (x : X) → with_lines text (map slots (xs ++ x ∷ [])) ≡ with_line (with_lines text (map slots xs)) (slots x)
with_lines-more text slots [] x = refl
with_lines-more text slots (y ∷ xs) x = with_lines-more (with_line text (slots y)) slots xs x

with_lines-all : (text : List ℕ) (lines : List (List Slot)) → with_lines text lines ≡ text ++ flat_map (λ slots. line (map slot_text slots)) lines
with_lines-all text [] = sym (append-nil text)
with_lines-all text (slots ∷ lines) = with_lines-all (with_line text slots) lines ∙ append_assoc text (line (map slot_text slots)) (flat_map (λ slots. line (map slot_text slots)) lines)

pub first_lists-more : (events : List (List (ℕ × Event))) (n : ℕ) → first_lists events (suc n) ≡ first_lists events n ++ map (λ item. (n, item)) (slice_index_or events n [])
first_lists-more events n = flat_map-append (λ list. map (λ item. (list, item)) (slice_index_or events list [])) (below n) (n ∷ []) ∙ ap (λ (xs : List (ℕ × (ℕ × Event))). first_lists events n ++ xs) (append-nil (map (λ item. (n, item)) (slice_index_or events n [])))

pub lists-more : (text : List ℕ) (events : List (List (ℕ × Event))) (n m : ℕ) → m ≡ n + 1 → with_lines (with_lines text (map event_slots (first_lists events n))) (map event_slots (map (λ item. (n, item)) (slice_index_or events n []))) ≡ with_lines text (map event_slots (first_lists events m))
lists-more text events n m e =
    sym (with_lines-append text (map event_slots (first_lists events n)) (map event_slots (map (λ item. (n, item)) (slice_index_or events n []))))
    ∙ ap (λ (ls : List (List Slot)). with_lines text ls) (sym (map-append event_slots (first_lists events n) (map (λ item. (n, item)) (slice_index_or events n []))))
    ∙ ap (λ (xs : List (ℕ × (ℕ × Event))). with_lines text (map event_slots xs)) (sym (first_lists-more events n) ∙ ap (λ (k : ℕ). first_lists events k) (next n m e))
  where
    next : (n m : ℕ) → m ≡ n + 1 → suc n ≡ m
    next n m e = omega (arith, e)

eight : (text : List ℕ) (a b c d e f g h : List (List Slot)) → with_lines text (a ++ b ++ c ++ d ++ e ++ f ++ g ++ h) ≡ with_lines (with_lines (with_lines (with_lines (with_lines (with_lines (with_lines (with_lines text a) b) c) d) e) f) g) h
eight text a b c d e f g h =
    with_lines-append text (a ++ b ++ c ++ d ++ e ++ f ++ g) h
    ∙ ap (λ (t : List ℕ). with_lines t h) (with_lines-append text (a ++ b ++ c ++ d ++ e ++ f) g
    ∙ ap (λ (t : List ℕ). with_lines t g) (with_lines-append text (a ++ b ++ c ++ d ++ e) f
    ∙ ap (λ (t : List ℕ). with_lines t f) (with_lines-append text (a ++ b ++ c ++ d) e
    ∙ ap (λ (t : List ℕ). with_lines t e) (with_lines-append text (a ++ b ++ c) d
    ∙ ap (λ (t : List ℕ). with_lines t d) (with_lines-append text (a ++ b) c
    ∙ ap (λ (t : List ℕ). with_lines t c) (with_lines-append text a b))))))

-- eight texts, each with its lines more
pub all-printed : (script : Script) (required ring drain fill recorders disks events bodies : List (List Slot)) (t1 t2 t3 t4 t5 t6 t7 t8 : List ℕ)
    → lines_by script (printed_choices script) ≡ required ++ ring ++ drain ++ fill ++ recorders ++ disks ++ events ++ bodies
    → t1 ≡ with_lines [] required → t2 ≡ with_lines t1 ring → t3 ≡ with_lines t2 drain → t4 ≡ with_lines t3 fill → t5 ≡ with_lines t4 recorders → t6 ≡ with_lines t5 disks → t7 ≡ with_lines t6 events → t8 ≡ with_lines t7 bodies
    → t8 ≡ script_text script
all-printed script a b c d e f g h t1 t2 t3 t4 t5 t6 t7 t8 parts e1 e2 e3 e4 e5 e6 e7 e8 =
    e8 ∙ ap (λ (t : List ℕ). with_lines t h) (e7 ∙ ap (λ (t : List ℕ). with_lines t g) (e6 ∙ ap (λ (t : List ℕ). with_lines t f) (e5 ∙ ap (λ (t : List ℕ). with_lines t e) (e4 ∙ ap (λ (t : List ℕ). with_lines t d) (e3 ∙ ap (λ (t : List ℕ). with_lines t c) (e2 ∙ ap (λ (t : List ℕ). with_lines t b) e1))))))
    ∙ sym (eight [] a b c d e f g h) ∙ with_lines-all [] (a ++ b ++ c ++ d ++ e ++ f ++ g ++ h)
    ∙ ap (λ (ls : List (List Slot)). flat_map (λ slots. line (map slot_text slots)) ls) (sym parts)

-- one item more of a list
pub lines-next : {X : Type 0} (text : List ℕ) (slots : X → List Slot) (xs : List X) (i : ℕ) (x : X) (before now : List ℕ) → i < length xs → x ≡ get_or xs i x → before ≡ with_lines text (map slots (take i xs)) → now ≡ with_line before (slots x) → now ≡ with_lines text (map slots (take (i + 1) xs))
lines-next {X} text slots xs i x before now lt is b n =
    n ∙ ap (λ (t : List ℕ). with_line t (slots x)) b ∙ sym (with_lines-more text slots (take i xs) x)
    ∙ ap (λ (ys : List X). with_lines text (map slots ys)) (ap (λ (y : X). take i xs ++ y ∷ []) is ∙ sym (take_more xs i x lt))

pub lines-next-at : {X : Type 0} (text : List ℕ) (slots : X → List Slot) (xs : List X) (i : ℕ) (d : X) (before now : List ℕ) → i < length xs → before ≡ with_lines text (map slots (take i xs)) → now ≡ with_line before (slots (get_or xs i d)) → now ≡ with_lines text (map slots (take (i + 1) xs))
lines-next-at {X} text slots xs i d before now lt b n =
    n ∙ ap (λ (t : List ℕ). with_line t (slots (get_or xs i d))) b ∙ sym (with_lines-more text slots (take i xs) (get_or xs i d))
    ∙ ap (λ (ys : List X). with_lines text (map slots ys)) (sym (take_more xs i d lt))

-- the same of items that are made of others
pub lines-next-made : {X Y : Type 0} (text : List ℕ) (slots : Y → List Slot) (make : X → Y) (xs : List X) (i : ℕ) (d : X) (before now : List ℕ) → i < length xs → before ≡ with_lines text (map slots (map make (take i xs))) → now ≡ with_line before (slots (make (get_or xs i d))) → now ≡ with_lines text (map slots (map make (take (i + 1) xs)))
lines-next-made {X} {Y} text slots make xs i d before now lt b n =
    n ∙ ap (λ (t : List ℕ). with_line t (slots (make (get_or xs i d)))) b ∙ sym (with_lines-more text slots (map make (take i xs)) (make (get_or xs i d)))
    ∙ ap (λ (ys : List Y). with_lines text (map slots ys)) (sym (map-append make (take i xs) (get_or xs i d ∷ [])) ∙ ap (λ (zs : List X). map make zs) (sym (take_more xs i d lt)))

at-map : {V X : Type 0} (f : V → List X) (vs : List V) (n : ℕ) (v : V) → n < length vs → v ≡ get_or vs n v → slice_index_or (map f vs) n [] ≡ f v
at-map f [] n v lt is = absurd (omega (arith, lt))
at-map f (w ∷ vs) zero v lt is = ap f (sym is)
at-map f (w ∷ vs) (suc n) v lt is = at-map f vs n v (omega (arith, lt)) is

-- one list more
pub lists-next : {V : Type 0} (text : List ℕ) (items : V → List (ℕ × Event)) (lists : List V) (n : ℕ) (v : V) (slice : List (ℕ × Event)) (before now : List ℕ) → n < length lists → v ≡ get_or lists n v → slice ≡ items v
    → before ≡ with_lines text (map event_slots (first_lists (map items lists) n)) → now ≡ with_lines before (map event_slots (map (λ item. (n, item)) slice)) → now ≡ with_lines text (map event_slots (first_lists (map items lists) (n + 1)))
lists-next text items lists n v slice before now lt is sl b e =
    e ∙ ap (λ (t : List ℕ). with_lines t (map event_slots (map (λ item. (n, item)) slice))) b
    ∙ ap (λ (xs : List (ℕ × Event)). with_lines (with_lines text (map event_slots (first_lists (map items lists) n))) (map event_slots (map (λ item. (n, item)) xs))) (sl ∙ sym (at-map items lists n v lt is))
    ∙ lists-more text (map items lists) n (n + 1) refl

-- ---- a byte

glyph-digit : (n : ℕ) → n < 16 → digit_glyph false n ≡ hex_digit n
glyph-digit n h = go (hex_digit-is n h)
  where
    go : ((n < 10) × (hex_digit n ≡ 48 + n)) ⊎ ((10 ≤ n) × (hex_digit n ≡ 87 + n)) → digit_glyph false n ≡ hex_digit n
    go (inl p) = let lt = p.0 in let is = p.1 in (let t : nat_lt n 10 ≡ true = grind arith in rw t (sym is))
    go (inr p) = let le = p.0 in let is = p.1 in (let t : nat_lt n 10 ≡ false = grind arith in rw t (sym is))

glyphs-byte : (b : ℕ) → b < 256 → digit_glyph false (b / 16) ∷ digit_glyph false (b % 16) ∷ [] ≡ hex_byte b
glyphs-byte b h =
    let high : b / 16 < 16 = omega (arith, h) in
    let low : b % 16 < 16 = omega arith in
    rw (glyph-digit (b / 16) high, glyph-digit (b % 16) low) refl

-- what `{:02x}` puts
pub byte-put : {T E : Type 0} (result : Result T E) (old new : List ℕ) (b : ℕ) (output : Option (List ℕ)) → b < 256 → output ≡ Some (padded_integral (format_spec 32 0 4 2 18446744073709551615) false [] (digits 16 false b)) → OnOk result (AppendsText old new output) → IfOk result (λ _. new ≡ old ++ hex_byte b)
byte-put (Ok x) old new b output small is h = shown (subst (λ (o : Option (List ℕ)). AppendsText old new o) is h)
  where
    shown : new ≡ old ++ padded_integral (format_spec 32 0 4 2 18446744073709551615) false [] (digits 16 false b) → new ≡ old ++ hex_byte b
    shown e = e ∙ ap (λ (xs : List ℕ). old ++ xs) (std_hex_byte false b small ∙ glyphs-byte b small)
byte-put (Err x) old new b output small is h = tt
