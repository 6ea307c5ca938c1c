-- Bytes that pairs of digits spell.
use Rattle.std.proofs.Common.{◌≡◌, ℕ, ◌+◌, ◌*◌, ◌<◌, ◌≤◌, Bool, true, false, ◌&&◌, List, [], ◌∷◌, ◌++◌, length, take, drop, refl, sym, ap, ◌∙◌, arith, append_assoc, length-append}
use Rattle.std.specs.Prelude.{Option, Some, None, Ok, Err, ◌==◌, ◌||◌, nat_lt, slice_index, slice_set}
use Rattle.std.proofs.lemmas.List.{take_all, take_more_set}
use Rattle.session_model.specs.jack_types.specs.declared.scripts.Cause.TheVariants.{Number}
use Rattle.session_model.specs.Reading.{◌>>=◌, status_byte, event_with, hex_bytes, hex_value, is_hex_digit, with_pair}
use Rattle.script_words.specs.Midi.{behind, midi_event}

pub pair-read : (a b : ℕ) (others : List ℕ) → (is_hex_digit a && is_hex_digit b) ≡ true → hex_bytes (a ∷ b ∷ others) ≡ behind ((hex_value a * 16 + hex_value b) ∷ []) (hex_bytes others)
pair-read a b others h = go (hex_bytes others) (is_hex_digit a && is_hex_digit b) h
  where
    go : (o : Option (List ℕ)) (k : Bool) → k ≡ true → with_pair k (hex_value a * 16 + hex_value b) o ≡ behind ((hex_value a * 16 + hex_value b) ∷ []) o
    go (Some bytes) true e = refl
    go None true e = refl
    go o false e = absurd cc

pub pair-bad : (a b : ℕ) (others : List ℕ) → (is_hex_digit a && is_hex_digit b) ≡ false → hex_bytes (a ∷ b ∷ others) ≡ None
pair-bad a b others h = go (hex_bytes others) (is_hex_digit a && is_hex_digit b) h
  where
    go : (o : Option (List ℕ)) (k : Bool) → k ≡ false → with_pair k (hex_value a * 16 + hex_value b) o ≡ None
    go o false e = refl
    go o true e = absurd cc

pub behind-behind : (xs ys : List ℕ) (o : Option (List ℕ)) → behind xs (behind ys o) ≡ behind (xs ++ ys) o
behind-behind xs ys None = refl
behind-behind xs ys (Some bytes) = ap (λ (zs : List ℕ). Some zs) (sym (append_assoc xs ys bytes))

-- where a rest spells none, all spells none
pub spells-none : (front whole bytes : List ℕ) (o : Option (List ℕ)) → hex_bytes whole ≡ behind front o → o ≡ None → hex_bytes whole ≡ Some bytes → ⊥
spells-none front whole bytes o e n h = absurd (no (hex_bytes whole) (e ∙ ap (λ (p : Option (List ℕ)). behind front p) n) h)
  where
    no : (p : Option (List ℕ)) → p ≡ None → p ≡ Some bytes → ⊥
    no p a b = absurd cc

-- one pair more, in front of the rest
pub one-more : (front whole others : List ℕ) (a b : ℕ) → hex_bytes whole ≡ behind front (hex_bytes (a ∷ b ∷ others)) → (is_hex_digit a && is_hex_digit b) ≡ true → hex_bytes whole ≡ behind (front ++ (hex_value a * 16 + hex_value b) ∷ []) (hex_bytes others)
one-more front whole others a b e h = e ∙ ap (λ (o : Option (List ℕ)). behind front o) (pair-read a b others h) ∙ behind-behind front ((hex_value a * 16 + hex_value b) ∷ []) (hex_bytes others)

-- a pair behind as many bytes as fit is one too many
pub too-many : (front whole others bytes : List ℕ) (a b most : ℕ) → hex_bytes whole ≡ behind front (hex_bytes (a ∷ b ∷ others)) → (is_hex_digit a && is_hex_digit b) ≡ true → length front ≡ most → hex_bytes whole ≡ Some bytes → most < length bytes
too-many front whole others bytes a b most e h l s = go (hex_bytes others) (sym s ∙ one-more front whole others a b e h)
  where
    go : (o : Option (List ℕ)) → Some bytes ≡ behind (front ++ (hex_value a * 16 + hex_value b) ∷ []) o → most < length bytes
    go None k = absurd cc
    go (Some more) k =
        let same : bytes ≡ (front ++ (hex_value a * 16 + hex_value b) ∷ []) ++ more = cc in
        let n = ap length same in
        omega (arith, n, length-append (front ++ (hex_value a * 16 + hex_value b) ∷ []) more, length-append front ((hex_value a * 16 + hex_value b) ∷ []), l)

-- the same, where the pair stands in front of a list and its byte goes to the end of a buffer's front
pub pair-stored : (buffer whole rest : List ℕ) (len v : ℕ) → len < length buffer → 2 ≤ length rest → hex_bytes whole ≡ behind (take len buffer) (hex_bytes rest) → (is_hex_digit (slice_index rest 0) && is_hex_digit (slice_index rest 1)) ≡ true → v ≡ hex_value (slice_index rest 0) * 16 + hex_value (slice_index rest 1)
    → hex_bytes whole ≡ behind (take (len + 1) (slice_set buffer len v)) (hex_bytes (drop 2 rest))
pair-stored buffer whole [] len v room two e h is = absurd (omega (arith, two))
pair-stored buffer whole (a ∷ []) len v room two e h is = absurd (omega (arith, two))
pair-stored buffer whole (a ∷ b ∷ others) len v room two e h is =
    one-more (take len buffer) whole others a b e h ∙ ap (λ (front : List ℕ). behind front (hex_bytes others)) (ap (λ (w : ℕ). take len buffer ++ w ∷ []) (sym is) ∙ sym (take_more_set buffer len v room))

pub pair-too_many : (buffer whole rest bytes : List ℕ) (len : ℕ) → len ≡ length buffer → 2 ≤ length rest → hex_bytes whole ≡ behind (take len buffer) (hex_bytes rest) → (is_hex_digit (slice_index rest 0) && is_hex_digit (slice_index rest 1)) ≡ true → hex_bytes whole ≡ Some bytes → length buffer < length bytes
pair-too_many buffer whole [] bytes len full two e h s = absurd (omega (arith, two))
pair-too_many buffer whole (a ∷ []) bytes len full two e h s = absurd (omega (arith, two))
pair-too_many buffer whole (a ∷ b ∷ others) bytes len full two e h s = too-many (take len buffer) whole others bytes a b (length buffer) e h (ap (λ (n : ℕ). length (take n buffer)) full ∙ ap length (take_all (length buffer) buffer (omega arith))) s

pub pair-unread : (buffer whole rest bytes : List ℕ) (len : ℕ) → 2 ≤ length rest → hex_bytes whole ≡ behind (take len buffer) (hex_bytes rest) → (is_hex_digit (slice_index rest 0) && is_hex_digit (slice_index rest 1)) ≡ false → hex_bytes whole ≡ Some bytes → ⊥
pair-unread buffer whole [] bytes len two e h s = absurd (omega (arith, two))
pair-unread buffer whole (a ∷ []) bytes len two e h s = absurd (omega (arith, two))
pair-unread buffer whole (a ∷ b ∷ others) bytes len two e h s = spells-none (take len buffer) whole bytes (hex_bytes (a ∷ b ∷ others)) e (pair-bad a b others h) s

-- an odd digit is left
pub digit-left : (buffer whole rest bytes : List ℕ) (len : ℕ) → length rest < 2 → (length rest ≡ 0 → ⊥) → hex_bytes whole ≡ behind (take len buffer) (hex_bytes rest) → hex_bytes whole ≡ Some bytes → ⊥
digit-left buffer whole [] bytes len two some e s = some refl
digit-left buffer whole (a ∷ []) bytes len two some e s = spells-none (take len buffer) whole bytes None e refl s
digit-left buffer whole (a ∷ b ∷ others) bytes len two some e s = absurd (omega (arith, two))

-- a word that spells no bytes, or more than 16, is no number
pub event-none : (word : List ℕ) → ((bytes : List ℕ) → hex_bytes word ≡ Some bytes → 16 < length bytes) → Err Number ≡ midi_event word
event-none word h = go (hex_bytes word) h
  where
    long : (n : ℕ) → 16 < n → (n == 0 || nat_lt 16 n) ≡ true
    long n k = grind arith

    go : (o : Option (List ℕ)) → ((bytes : List ℕ) → o ≡ Some bytes → 16 < length bytes) → Err Number ≡ (status_byte o >>= λ bytes. Ok (event_with bytes))
    go None k = refl
    go (Some bytes) k = rw (long (length bytes) (k bytes refl)) refl
