-- Event lines are read just where they are spelled.
use Rattle.std.proofs.Common.{◌≡◌, ℕ, zero, suc, ◌+◌, ◌-◌, ◌*◌, ◌<◌, ◌≤◌, Bool, true, false, ◌&&◌, ◌||◌, ◌⊎◌, inl, inr, List, [], ◌∷◌, ◌++◌, length, take, replicate, All, Option, Some, None, Ok, Err, refl, sym, ap, subst, ◌∙◌, arith}
use Rattle.std.specs.Prelude.{if◌then◌else◌, ◌==◌, ◌/◌, ◌%◌, nat_lt, slice_index, flat_map, pos}
use Rattle.std.specs.List.{AllByRecursion}
use Rattle.std.proofs.lemmas.Int.{ints}
use Rattle.std.proofs.lemmas.List.{take_at, length-take, length-append, length-replicate}
use Rattle.std.proofs.lemmas.List.Elements.{All-from_recursion, recursion_from_All}
use Rattle.session_laws.specs.jack_types.specs.Held.{filled_to}
use Rattle.session_laws.specs.jack_types.specs.declared.events.Event.{Event}
use Rattle.session_laws.specs.jack_types.specs.declared.scripts.Cause.TheVariants.{Number, Choice}
use Rattle.session_laws.specs.session_model.specs.Events.{event_bytes}
use Rattle.session_laws.specs.session_model.specs.Grammar.{Slot, Numeral, Hexed, IsListed}
use Rattle.session_laws.specs.session_model.specs.Reading.{◌>>=◌, Reader, word, number, ranged, is_hex_digit, hex_value, with_pair, hex_bytes, status_byte, event_with, frame_before, event}
use Rattle.session_laws.specs.session_model.specs.Reports.{hex_digit, hex_byte}
use Rattle.session_laws.proofs.LoopLemmas.{and_parts}
use Rattle.grammar_laws.proofs.GrammarReaders.{bind_ok, ok_is, Takes, Takes-join, Takes-split, Reads, number-reads, ranged-ok, ranged-again}

-- ---- digits

-- what a digit is
pub hex_digit-is : (n : ℕ) → n < 16 → ((n < 10) × (hex_digit n ≡ 48 + n)) ⊎ ((10 ≤ n) × (hex_digit n ≡ 87 + n))
hex_digit-is zero h = inl (omega arith, refl)
hex_digit-is (suc zero) h = inl (omega arith, refl)
hex_digit-is (suc (suc zero)) h = inl (omega arith, refl)
hex_digit-is (suc (suc (suc zero))) h = inl (omega arith, refl)
hex_digit-is (suc (suc (suc (suc zero)))) h = inl (omega arith, refl)
hex_digit-is (suc (suc (suc (suc (suc zero))))) h = inl (omega arith, refl)
hex_digit-is (suc (suc (suc (suc (suc (suc zero)))))) h = inl (omega arith, refl)
hex_digit-is (suc (suc (suc (suc (suc (suc (suc zero))))))) h = inl (omega arith, refl)
hex_digit-is (suc (suc (suc (suc (suc (suc (suc (suc zero)))))))) h = inl (omega arith, refl)
hex_digit-is (suc (suc (suc (suc (suc (suc (suc (suc (suc zero))))))))) h = inl (omega arith, refl)
hex_digit-is (suc (suc (suc (suc (suc (suc (suc (suc (suc (suc zero)))))))))) h = inr (omega arith, refl)
hex_digit-is (suc (suc (suc (suc (suc (suc (suc (suc (suc (suc (suc zero))))))))))) h = inr (omega arith, refl)
hex_digit-is (suc (suc (suc (suc (suc (suc (suc (suc (suc (suc (suc (suc zero)))))))))))) h = inr (omega arith, refl)
hex_digit-is (suc (suc (suc (suc (suc (suc (suc (suc (suc (suc (suc (suc (suc zero))))))))))))) h = inr (omega arith, refl)
hex_digit-is (suc (suc (suc (suc (suc (suc (suc (suc (suc (suc (suc (suc (suc (suc zero)))))))))))))) h = inr (omega arith, refl)
hex_digit-is (suc (suc (suc (suc (suc (suc (suc (suc (suc (suc (suc (suc (suc (suc (suc zero))))))))))))))) h = inr (omega arith, refl)
hex_digit-is (suc (suc (suc (suc (suc (suc (suc (suc (suc (suc (suc (suc (suc (suc (suc (suc n)))))))))))))))) h = absurd (omega arith)

-- a digit's value is that of its place
pub digit-value : (n : ℕ) → n < 16 → (is_hex_digit (hex_digit n) ≡ true) × (hex_value (hex_digit n) ≡ n)
digit-value n h = go (hex_digit n) (hex_digit-is n h)
  where
    go : (c : ℕ) → ((n < 10) × (c ≡ 48 + n)) ⊎ ((10 ≤ n) × (c ≡ 87 + n)) → (is_hex_digit c ≡ true) × (hex_value c ≡ n)
    go c (inl p) = (grind (arith, p.0, p.1), grind (arith, p.0, p.1))
    go c (inr p) = (grind (arith, p.0, p.1), grind (arith, p.0, p.1))

pub value-digit : (c : ℕ) → is_hex_digit c ≡ true → (hex_value c < 16) × (hex_digit (hex_value c) ≡ c)
value-digit c h = (small, go (hex_value c) refl (hex_digit-is (hex_value c) small))
  where
    small : hex_value c < 16
    small = grind arith

    go : (n : ℕ) → hex_value c ≡ n → ((n < 10) × (hex_digit n ≡ 48 + n)) ⊎ ((10 ≤ n) × (hex_digit n ≡ 87 + n)) → hex_digit n ≡ c
    go n e (inl p) = let d = p.1 in let lt = p.0 in let k : 48 + n ≡ c = grind arith in d ∙ k
    go n e (inr p) = let d = p.1 in let ge = p.0 in let k : 87 + n ≡ c = grind arith in d ∙ k

-- ---- pairs of digits

pub with_pair-ok : (b : Bool) (byte : ℕ) (o : Option (List ℕ)) (bytes : List ℕ) → with_pair b byte o ≡ Some bytes → (others : List ℕ) × (b ≡ true) × (o ≡ Some others) × (bytes ≡ byte ∷ others)
with_pair-ok true byte (Some others) bytes e = (others, refl, refl, cc)
with_pair-ok true byte None bytes e = absurd cc
with_pair-ok false byte (Some others) bytes e = absurd cc
with_pair-ok false byte None bytes e = absurd cc

pub pair-byte : (a b : ℕ) → is_hex_digit a ≡ true → is_hex_digit b ≡ true → (hex_byte (hex_value a * 16 + hex_value b) ≡ a ∷ b ∷ []) × (hex_value a * 16 + hex_value b < 256)
pair-byte a b h k = go (hex_value a) (hex_value b) (value-digit a h) (value-digit b k)
  where
    go : (m n : ℕ) → (m < 16) × (hex_digit m ≡ a) → (n < 16) × (hex_digit n ≡ b) → (hex_byte (m * 16 + n) ≡ a ∷ b ∷ []) × (m * 16 + n < 256)
    go m n p q =
        let lt = p.0 in
        let lt2 = q.0 in
        let high : (m * 16 + n) / 16 ≡ m = omega arith in
        let low : (m * 16 + n) % 16 ≡ n = omega arith in
        (rw (high, low, p.1, q.1) refl, omega arith)

pub hex_bytes-is : (w bytes : List ℕ) → hex_bytes w ≡ Some bytes → (w ≡ flat_map hex_byte bytes) × AllByRecursion (λ b. b < 256) bytes
hex_bytes-is [] bytes e = let same : [] ≡ bytes = cc in subst (λ (bs : List ℕ). ([] ≡ flat_map hex_byte bs) × AllByRecursion (λ b. b < 256) bs) same (refl, tt)
hex_bytes-is (a ∷ []) bytes e = absurd cc
hex_bytes-is (a ∷ b ∷ others) bytes e =
    let p = with_pair-ok (is_hex_digit a && is_hex_digit b) (hex_value a * 16 + hex_value b) (hex_bytes others) bytes e in
    let d = and_parts (is_hex_digit a) (is_hex_digit b) p.1 in
    let q = pair-byte a b d.0 d.1 in
    let later = hex_bytes-is others p.0 p.2 in
    subst (λ (bs : List ℕ). (a ∷ b ∷ others ≡ flat_map hex_byte bs) × AllByRecursion (λ b. b < 256) bs) (sym p.3)
    (ap (λ (w : List ℕ). a ∷ b ∷ w) later.0 ∙ ap (λ (w : List ℕ). w ++ flat_map hex_byte p.0) (sym q.0), (q.1, later.1))

pub hex_bytes-again : (bytes : List ℕ) → AllByRecursion (λ b. b < 256) bytes → hex_bytes (flat_map hex_byte bytes) ≡ Some bytes
hex_bytes-again [] h = refl
hex_bytes-again (b ∷ bytes) h =
    let lt : b < 256 = h.0 in
    let high = digit-value (b / 16) (omega arith) in
    let low = digit-value (b % 16) (omega arith) in
    let back : b / 16 * 16 + b % 16 ≡ b = omega arith in
    rw (high.0, low.0, high.1, low.1, back, hex_bytes-again bytes h.1) refl

-- ---- bytes of an event

-- what an event's bytes may be
pub record IsStatus (bytes : List ℕ) : Type 0 where
  pub least : 1 ≤ length bytes
  pub most : length bytes ≤ 16
  pub status : 128 ≤ slice_index bytes 0

status-ok : (o : Option (List ℕ)) (bytes : List ℕ) → status_byte o ≡ Ok bytes → (o ≡ Some bytes) × IsStatus bytes
status-ok None bytes e = absurd cc
status-ok (Some given) bytes e = go (length given == 0 || nat_lt 16 (length given)) refl (nat_lt (slice_index given 0) 128) refl e
  where
    go : (b : Bool) → (length given == 0 || nat_lt 16 (length given)) ≡ b → (c : Bool) → nat_lt (slice_index given 0) 128 ≡ c → (if b then Err Number else if c then Err (Choice (slice_index given 0)) else Ok given) ≡ Ok bytes → (Some given ≡ Some bytes) × IsStatus bytes
    go true h c k f = absurd cc
    go false h true k f = absurd cc
    go false h false k f =
        let same : given ≡ bytes = ok_is given bytes f in
        subst (λ (bs : List ℕ). (Some given ≡ Some bs) × IsStatus bs) same (refl, record { least = grind arith; most = grind arith; status = grind arith })

status-again : (bytes : List ℕ) → IsStatus bytes → status_byte (Some bytes) ≡ Ok bytes
status-again bytes h =
    let least = h.least in
    let most = h.most in
    let status = h.status in
    let a : (length bytes == 0 || nat_lt 16 (length bytes)) ≡ false = grind arith in
    let b : nat_lt (slice_index bytes 0) 128 ≡ false = grind arith in
    rw (a, b) refl

pub event_bytes-with : (bytes : List ℕ) → event_bytes (event_with bytes) ≡ bytes
event_bytes-with bytes = take_at bytes (replicate (16 - length bytes) 0) (length bytes) refl

with-listed : (frame : ℕ) (bytes : List ℕ) → frame ≤ 2147483647 → IsStatus bytes → AllByRecursion (λ b. b < 256) bytes → IsListed (frame, event_with bytes)
with-listed frame bytes le h below =
    let same = event_bytes-with bytes in
    record {
      frame = le;
      offset = refl;
      event = record { least = h.least; most = h.most; padding = ap (λ (bs : List ℕ). filled_to 0 16 bs) (sym same) };
      bytes = subst (λ (bs : List ℕ). All (λ b. b < 256) bs) (sym same) (All-from_recursion (λ b. b < 256) bytes below);
      status = subst (λ (bs : List ℕ). 128 ≤ slice_index bs 0) (sym same) h.status;
    }

-- the array of a lawful event is as long as its size says
pub held-length : (size : ℕ) (xs : List ℕ) → size ≤ 16 → xs ≡ filled_to 0 16 (take size xs) → length (take size xs) ≡ size
held-length size xs le e =
    let a = length-take size xs in
    let b = ap (λ (l : List ℕ). length l) e in
    let c = length-append (take size xs) (replicate (16 - length (take size xs)) 0) in
    let d = length-replicate {A = ℕ} (16 - length (take size xs)) 0 in
    omega (arith, a, b, c, d)

pub listed-status : (item : ℕ × Event) → IsListed item → IsStatus (event_bytes item.1)
listed-status item l =
    let len = held-length item.1.size item.1.bytes.0 l.event.most l.event.padding in
    let least = l.event.least in
    let most = l.event.most in
    record { least = omega (arith, len); most = omega (arith, len); status = l.status }

abbrev pub rebuilt : ℕ → ℕ → List ℕ → Event
rebuilt offset size bytes = record { offset = offset; size = size; bytes = record { 0 = bytes } }

listed-with : (item : ℕ × Event) → IsListed item → event_with (event_bytes item.1) ≡ item.1
listed-with item l =
    let len = held-length item.1.size item.1.bytes.0 l.event.most l.event.padding in
    let size_is : length (event_bytes item.1) ≡ item.1.size = len in
    let bytes_is : filled_to 0 16 (event_bytes item.1) ≡ item.1.bytes.0 = sym l.event.padding in
    same_event (event_with (event_bytes item.1)) item.1 (sym l.offset) size_is bytes_is
  where
    same_event : (a b : Event) → a.offset ≡ b.offset → a.size ≡ b.size → a.bytes.0 ≡ b.bytes.0 → a ≡ b
    same_event a b p q r = ap (λ (n : ℕ). rebuilt n a.size a.bytes.0) p ∙ ap (λ (n : ℕ). rebuilt b.offset n a.bytes.0) q ∙ ap (λ (bs : List ℕ). rebuilt b.offset b.size bs) r

-- ---- event lines

abbrev pub item_slots : ℕ × (ℕ × Event) → List Slot
item_slots item = Numeral item.0 ∷ Numeral item.1.0 ∷ Hexed (event_bytes item.1.1) ∷ []

abbrev pub IsItem : List (ℕ × (ℕ × Event)) → ℕ × (ℕ × Event) → Type 0
IsItem found item = (item.0 ≤ 15) × (frame_before found item.0 ≤ item.1.0) × IsListed item.1

-- what is read behind an event's frame
abbrev event_behind : ℕ → ℕ → Reader (ℕ × (ℕ × Event))
event_behind list frame words = do
  w ← word words
  bytes ← status_byte (hex_bytes w.0)
  Ok ((list, (frame, event_with bytes)), w.1)

pub event-reads : (found : List (ℕ × (ℕ × Event))) → Reads (event found) item_slots (IsItem found)
event-reads found = record { takes = λ words y e. takes words y e; again = λ words x rest p g. again words x rest p g }
  where
    word_of : (list frame : ℕ) (words : List (List ℕ)) (y : (ℕ × (ℕ × Event)) × List (List ℕ)) → event_behind list frame words ≡ Ok y
        → (bytes : List ℕ) × Takes (Hexed bytes ∷ []) words y.1 × IsStatus bytes × AllByRecursion (λ b. b < 256) bytes × ((list, (frame, event_with bytes)) ≡ y.0)
    word_of list frame [] y e = absurd cc
    word_of list frame (w ∷ words) y e =
        let b = bind_ok (status_byte (hex_bytes w)) (λ bytes. Ok ((list, (frame, event_with bytes)), words)) y e in
        let s = status-ok (hex_bytes w) b.0 b.1 in
        let h = hex_bytes-is w b.0 s.0 in
        let same = ok_is ((list, (frame, event_with b.0)), words) y b.2 in
        (b.0, (h.0, ap (λ (z : (ℕ × (ℕ × Event)) × List (List ℕ)). z.1) same), s.1, h.1, ap (λ (z : (ℕ × (ℕ × Event)) × List (List ℕ)). z.0) same)

    takes : (words : List (List ℕ)) (y : (ℕ × (ℕ × Event)) × List (List ℕ)) → event found words ≡ Ok y → Takes (item_slots y.0) words y.1 × IsItem found y.0
    takes words y e =
        let list = bind_ok (number 0 15 words) _ y e in
        let frame = bind_ok (number 0 2147483647 list.0.1) _ y list.2 in
        let risen = bind_ok (ranged (pos (frame_before found list.0.0)) (pos 2147483647) (pos frame.0.0)) _ y frame.2 in
        let r = ranged-ok (pos (frame_before found list.0.0)) (pos 2147483647) (pos frame.0.0) risen.0 risen.1 in
        let low : frame_before found list.0.0 ≤ frame.0.0 = omega (arith, ints, r.0.0) in
        let w = word_of list.0.0 frame.0.0 frame.0.1 y risen.2 in
        let i = (number-reads 0 15).takes words list.0 list.1 in
        let j = (number-reads 0 2147483647).takes list.0.1 frame.0 frame.1 in
        let two = Takes-join (Numeral frame.0.0 ∷ []) (Hexed w.0 ∷ []) list.0.1 frame.0.1 y.1 j.0 w.1 in
        let three = Takes-join (Numeral list.0.0 ∷ []) (Numeral frame.0.0 ∷ Hexed w.0 ∷ []) words list.0.1 y.1 i.0 two in
        subst (λ (z : ℕ × (ℕ × Event)). Takes (item_slots z) words y.1 × IsItem found z) w.4
        (subst (λ (bs : List ℕ). Takes (Numeral list.0.0 ∷ Numeral frame.0.0 ∷ Hexed bs ∷ []) words y.1) (sym (event_bytes-with w.0)) three, (i.1.1, low, with-listed frame.0.0 w.0 j.1.1 w.2 w.3))

    hexed : (list frame : ℕ) (given : Event) (words rest : List (List ℕ)) → Takes (Hexed (event_bytes given) ∷ []) words rest → IsListed (frame, given) → event_behind list frame words ≡ Ok ((list, (frame, given)), rest)
    hexed list frame given [] rest p l = absurd p
    hexed list frame given (w ∷ words) rest p l =
        let below = recursion_from_All (λ b. b < 256) (event_bytes given) l.bytes in
        let same = listed-with (frame, given) l in
        rw (p.0, hex_bytes-again (event_bytes given) below, status-again (event_bytes given) (listed-status (frame, given) l), same, p.1) refl

    again : (words : List (List ℕ)) (x : ℕ × (ℕ × Event)) (rest : List (List ℕ)) → Takes (item_slots x) words rest → IsItem found x → event found words ≡ Ok (x, rest)
    again words x rest p g =
        let i = Takes-split (Numeral x.0 ∷ []) (Numeral x.1.0 ∷ Hexed (event_bytes x.1.1) ∷ []) words rest p in
        let j = Takes-split (Numeral x.1.0 ∷ []) (Hexed (event_bytes x.1.1) ∷ []) i.0 rest i.2 in
        let low = g.1 in
        let high = g.2.frame in
        rw ((number-reads 0 15).again words x.0 i.0 i.1 (omega arith, g.0), (number-reads 0 2147483647).again i.0 x.1.0 j.0 j.1 (omega arith, g.2.frame), ranged-again (pos (frame_before found x.0)) (pos 2147483647) (pos x.1.0) (omega (arith, ints, low), omega (arith, ints, high))) (hexed x.0 x.1.0 x.1.1 j.0 rest j.2 g.2)
