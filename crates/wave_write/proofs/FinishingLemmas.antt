-- What stands in a store after each write that finishes its file.
use Rattle.std.proofs.Common.{◌≡◌, ℕ, zero, suc, ◌+◌, ◌%◌, ◌≤◌, List, [], ◌∷◌, ◌++◌, length, take, drop, Some, None, inl, inr, refl, sym, ap, subst, ◌∙◌, arith, length-append, append_assoc, append-nil}
use Rattle.std.specs.Prelude.{replicate, slice_range, codes, Option, Result, Ok, Err, OnOk, OnErr}
use Rattle.std.specs.Option.{ForSome}
use Rattle.std.proofs.lemmas.List.{take_all, drop_all, length-take, length-drop}
use Rattle.jack_types.specs.declared.files.Format.{Format}
use Rattle.jack_host.specs.Bytes.{put_at, Holds, Gains, Writes}
use Rattle.driver_words.specs.session_model.specs.WaveFiles.{format_text, header_text, file_text, opening_text, u32_bytes}
use Rattle.samples.specs.wave_laws.proofs.WaveSamples.{slice_at}
use Rattle.driver_words.specs.Tapes.{AreInOrder, IsBetween, IsHeaded}
use Rattle.wave_write.specs.Finishing.{Opens, Finished, FinishedPart}
use Rattle.wave_write.proofs.Between.{AreBetween, between, between-append, between-same, between-cut}

-- ---- a piece that is written at the end, or over a size field

pub put_at_end : (xs piece : List ℕ) (n : ℕ) → length xs ≡ n → put_at xs n piece ≡ xs ++ piece
put_at_end xs piece n e =
    ap (λ (front : List ℕ). front ++ piece ++ drop (n + length piece) xs) (take_all n xs (omega (arith, e)))
    ∙ ap (λ (rest : List ℕ). xs ++ piece ++ rest) (drop_all (n + length piece) xs (omega (arith, e)))
    ∙ append-nil (xs ++ piece)

pub gains_nothing : (told : Option (List ℕ)) → Gains told told []
gains_nothing None = tt
gains_nothing (Some xs) = sym (append-nil xs)

pub gains_at_end : (old new : Option (List ℕ)) (n : ℕ) (piece : List ℕ) → ForSome old (λ xs. length xs ≡ n) → Holds old new n piece → Gains old new piece
gains_at_end None None n piece long h = tt
gains_at_end None (Some ys) n piece long h = h
gains_at_end (Some xs) None n piece long h = h
gains_at_end (Some xs) (Some ys) n piece long h = h ∙ put_at_end xs piece n (long xs refl)

-- four bytes at 4, and at 40, of which maybe only a front is written
patched_riff : (format : Format) (a b c d e f g h : ℕ) (size rest : List ℕ) (k : ℕ) → k ≤ 4
    → put_at (header_text format (a ∷ b ∷ c ∷ d ∷ []) size ++ rest) 4 (take k (e ∷ f ∷ g ∷ h ∷ []))
    ≡ header_text format (take k (e ∷ f ∷ g ∷ h ∷ []) ++ drop k (a ∷ b ∷ c ∷ d ∷ [])) size ++ rest
patched_riff format a b c d e f g h size rest zero le = refl
patched_riff format a b c d e f g h size rest (suc zero) le = refl
patched_riff format a b c d e f g h size rest (suc (suc zero)) le = refl
patched_riff format a b c d e f g h size rest (suc (suc (suc zero))) le = refl
patched_riff format a b c d e f g h size rest (suc (suc (suc (suc zero)))) le = refl
patched_riff format a b c d e f g h size rest (suc (suc (suc (suc (suc k))))) le = absurd (omega arith)

patched_size : (format : Format) (p q r s a b c d e f g h : ℕ) (rest : List ℕ) (k : ℕ) → k ≤ 4
    → put_at (header_text format (p ∷ q ∷ r ∷ s ∷ []) (a ∷ b ∷ c ∷ d ∷ []) ++ rest) 40 (take k (e ∷ f ∷ g ∷ h ∷ []))
    ≡ header_text format (p ∷ q ∷ r ∷ s ∷ []) (take k (e ∷ f ∷ g ∷ h ∷ []) ++ drop k (a ∷ b ∷ c ∷ d ∷ [])) ++ rest
patched_size format p q r s a b c d e f g h rest zero le = refl
patched_size format p q r s a b c d e f g h rest (suc zero) le = refl
patched_size format p q r s a b c d e f g h rest (suc (suc zero)) le = refl
patched_size format p q r s a b c d e f g h rest (suc (suc (suc zero))) le = refl
patched_size format p q r s a b c d e f g h rest (suc (suc (suc (suc zero)))) le = refl
patched_size format p q r s a b c d e f g h rest (suc (suc (suc (suc (suc k))))) le = absurd (omega arith)

-- ---- one file: its sample bytes, its pad and its two sizes

abbrev pub opens : List ℕ
opens = replicate 4 0xff

abbrev pub pad_of : List ℕ → List ℕ
pad_of body = replicate (length body % 2) 0

abbrev pub riff_of : List ℕ → List ℕ
riff_of body = u32_bytes (36 + length body + length body % 2)

abbrev pub size_of : List ℕ → List ℕ
size_of body = u32_bytes (length body)

after_pad : (format : Format) (body xs ys : List ℕ) (k : ℕ) → xs ≡ opening_text format ++ body → ys ≡ xs ++ take k (pad_of body) → ys ≡ opening_text format ++ (body ++ take k (pad_of body))
after_pad format body xs ys k e f = f ∙ ap (λ (x : List ℕ). x ++ take k (pad_of body)) e ∙ append_assoc (opening_text format) body (take k (pad_of body))

after_riff : (format : Format) (body ys zs : List ℕ) (k : ℕ) → k ≤ 4 → ys ≡ opening_text format ++ (body ++ pad_of body) → zs ≡ put_at ys 4 (take k (riff_of body))
    → zs ≡ header_text format (take k (riff_of body) ++ drop k opens) opens ++ (body ++ pad_of body)
after_riff format body ys zs k le e f =
    f ∙ ap (λ (y : List ℕ). put_at y 4 (take k (riff_of body))) e
    ∙ patched_riff format 0xff 0xff 0xff 0xff _ _ _ _ opens (body ++ pad_of body) k le

after_size : (format : Format) (body zs ws : List ℕ) (k : ℕ) → k ≤ 4 → zs ≡ header_text format (riff_of body) opens ++ (body ++ pad_of body) → ws ≡ put_at zs 40 (take k (size_of body))
    → ws ≡ header_text format (riff_of body) (take k (size_of body) ++ drop k opens) ++ (body ++ pad_of body)
after_size format body zs ws k le e f =
    f ∙ ap (λ (z : List ℕ). put_at z 40 (take k (size_of body))) e
    ∙ patched_size format _ _ _ _ 0xff 0xff 0xff 0xff _ _ _ _ (body ++ pad_of body) k le

-- a header whose fields are between those of the opening and the final ones
pub header-between : (format : Format) (body riff size : List ℕ) → AreBetween opens (riff_of body) riff → AreBetween opens (size_of body) size
    → IsBetween (opening_text format) (take 44 (file_text format body)) (header_text format riff size)
header-between format body riff size r s =
    between (opening_text format) (header_text format (riff_of body) (size_of body)) (header_text format riff size)
    (between-append (to_data opens) (to_data (riff_of body)) (to_data riff) opens (size_of body) size
    (between-append (to_format opens) (to_format (riff_of body)) (to_format riff) (codes "data") (codes "data") (codes "data")
    (between-append (to_wave opens) (to_wave (riff_of body)) (to_wave riff) (format_text format) (format_text format) (format_text format)
    (between-append (codes "RIFF" ++ opens) (codes "RIFF" ++ riff_of body) (codes "RIFF" ++ riff) (codes "WAVE") (codes "WAVE") (codes "WAVE")
    (between-append (codes "RIFF") (codes "RIFF") (codes "RIFF") opens (riff_of body) riff (between-same (codes "RIFF")) r)
    (between-same (codes "WAVE")))
    (between-same (format_text format)))
    (between-same (codes "data")))
    s)
  where
    to_wave : List ℕ → List ℕ
    to_wave riff = codes "RIFF" ++ riff ++ codes "WAVE"

    to_format : List ℕ → List ℕ
    to_format riff = codes "RIFF" ++ riff ++ codes "WAVE" ++ format_text format

    to_data : List ℕ → List ℕ
    to_data riff = codes "RIFF" ++ riff ++ codes "WAVE" ++ format_text format ++ codes "data"

pub between-opens : (final : List ℕ) → length final ≡ 4 → AreBetween opens final opens
between-opens final e = between-cut 0 opens final (sym e)

pub take_past : (xs ys : List ℕ) (k : ℕ) → take (length xs + k) (xs ++ ys) ≡ xs ++ take k ys
take_past [] ys k = ap (λ (n : ℕ). take n ys) (omega arith)
take_past (x ∷ xs) ys k =
    let e : length (x ∷ xs) + k ≡ suc (length xs + k) = omega arith in
    ap (λ (n : ℕ). take n (x ∷ xs ++ ys)) e ∙ ap (λ (zs : List ℕ). x ∷ zs) (take_past xs ys k)

take_whole : (xs : List ℕ) → take (length xs) xs ≡ xs
take_whole xs = take_all (length xs) xs (omega arith)

abbrev IsPart : Format → List ℕ → List ℕ → Type 0
IsPart format body bytes = IsHeaded (opening_text format) (file_text format body) bytes × AreInOrder (opening_text format) (file_text format body) bytes

-- the size at 40, whatever the four bytes at 4 are
size_field : (format : Format) (riff size rest : List ℕ) → length riff ≡ 4 → length size ≡ 4 → slice_range (header_text format riff size ++ rest) 40 44 ≡ size
size_field format riff size rest e f =
    ap (λ (text : List ℕ). slice_range text 40 44) (append_assoc front size rest)
    ∙ slice_at front size rest 40 4 (omega (arith, long)) f
  where
    front : List ℕ
    front = codes "RIFF" ++ riff ++ codes "WAVE" ++ format_text format ++ codes "data"

    long : length front ≡ 40
    long =
        length-append (codes "RIFF" ++ riff ++ codes "WAVE" ++ format_text format) (codes "data")
        ∙ omega (arith, length-append (codes "RIFF" ++ riff ++ codes "WAVE") (format_text format), length-append (codes "RIFF" ++ riff) (codes "WAVE"), length-append (codes "RIFF") riff, format_long, e)
      where
        format_long : length (format_text format) ≡ 24
        format_long = refl

pad-part : (format : Format) (body ys : List ℕ) (k : ℕ) → ys ≡ opening_text format ++ (body ++ take k (pad_of body)) → IsPart format body ys
pad-part format body ys k e = (
  (
    opening_text format,
    length body + k,
    header-between format body opens opens (between-opens (riff_of body) refl) (between-opens (size_of body) refl),
    e ∙ ap (λ (rest : List ℕ). opening_text format ++ rest) (sym (take_past body (pad_of body) k)),
  ),
  inl (ap (λ (y : List ℕ). slice_range y 40 44) e),
)

cut-long : (k : ℕ) (os fs : List ℕ) → length os ≡ length fs → length (take k fs ++ drop k os) ≡ length os
cut-long k os fs e = omega (arith, length-append (take k fs) (drop k os), length-take k fs, length-drop k os, e)

riff-part : (format : Format) (body zs : List ℕ) (k : ℕ) → zs ≡ header_text format (take k (riff_of body) ++ drop k opens) opens ++ (body ++ pad_of body) → IsPart format body zs
riff-part format body zs k e = (
  (
    header_text format (take k (riff_of body) ++ drop k opens) opens,
    length (body ++ pad_of body),
    header-between format body (take k (riff_of body) ++ drop k opens) opens (between-cut k opens (riff_of body) refl) (between-opens (size_of body) refl),
    e ∙ ap (λ (rest : List ℕ). header_text format (take k (riff_of body) ++ drop k opens) opens ++ rest) (sym (take_whole (body ++ pad_of body))),
  ),
  inl (ap (λ (y : List ℕ). slice_range y 40 44) e ∙ size_field format (take k (riff_of body) ++ drop k opens) opens (body ++ pad_of body) (cut-long k opens (riff_of body) refl) refl),
)

size-part : (format : Format) (body ws : List ℕ) (k : ℕ) → ws ≡ header_text format (riff_of body) (take k (size_of body) ++ drop k opens) ++ (body ++ pad_of body) → IsPart format body ws
size-part format body ws k e = (
  (
    header_text format (riff_of body) (take k (size_of body) ++ drop k opens),
    length (body ++ pad_of body),
    header-between format body (riff_of body) (take k (size_of body) ++ drop k opens) (between-cut 4 opens (riff_of body) refl) (between-cut k opens (size_of body) refl),
    e ∙ ap (λ (rest : List ℕ). header_text format (riff_of body) (take k (size_of body) ++ drop k opens) ++ rest) (sym (take_whole (body ++ pad_of body))),
  ),
  inr (ap (λ (y : List ℕ). slice_range y 4 8) e),
)

-- ---- the three writes, where the store tells

-- the count that the writer kept is the sample bytes' number
record IsCounted (xs body : List ℕ) (format : Format) (written : ℕ) : Type 0 where
  text : xs ≡ opening_text format ++ body
  count : length body ≡ written

counted : (xs : List ℕ) (format : Format) (written : ℕ) → Opens format xs → length xs ≡ 44 + written → IsCounted xs (drop 44 xs) format written
counted xs format written e long =
    let all : length xs ≡ length (opening_text format) + length (drop 44 xs) = ap length e ∙ length-append (opening_text format) (drop 44 xs) in
    let front : length (opening_text format) ≡ 44 = refl in
    record { text = e; count = omega (arith, all, front, long) }

pad-counted : (body : List ℕ) (written : ℕ) → length body ≡ written → replicate (written % 2) 0 ≡ pad_of body
pad-counted body written e = ap (λ (n : ℕ). replicate (n % 2) 0) (sym e)

riff-counted : (body : List ℕ) (written : ℕ) → length body ≡ written → u32_bytes (36 + written + written % 2) ≡ riff_of body
riff-counted body written e = ap (λ (n : ℕ). u32_bytes (36 + n + n % 2)) (sym e)

size-counted : (body : List ℕ) (written : ℕ) → length body ≡ written → u32_bytes written ≡ size_of body
size-counted body written e = ap u32_bytes (sym e)

-- the pad was written whole
padded : (xs ys : List ℕ) (format : Format) (written : ℕ) → length xs ≡ 44 + written → Opens format xs → ys ≡ xs ++ replicate (written % 2) 0 → ys ≡ opening_text format ++ (drop 44 xs ++ pad_of (drop 44 xs))
padded xs ys format written long e f =
    let is = counted xs format written e long in
    f ∙ ap (λ (p : List ℕ). xs ++ p) (pad-counted (drop 44 xs) written is.count)
    ∙ ap (λ (x : List ℕ). x ++ pad_of (drop 44 xs)) e ∙ append_assoc (opening_text format) (drop 44 xs) (pad_of (drop 44 xs))

riff_put : (xs ys zs : List ℕ) (format : Format) (written k : ℕ) → k ≤ 4 → length xs ≡ 44 + written → Opens format xs → ys ≡ xs ++ replicate (written % 2) 0 → zs ≡ put_at ys 4 (take k (u32_bytes (36 + written + written % 2)))
    → zs ≡ header_text format (take k (riff_of (drop 44 xs)) ++ drop k opens) opens ++ (drop 44 xs ++ pad_of (drop 44 xs))
riff_put xs ys zs format written k le long e f g =
    let is = counted xs format written e long in
    after_riff format (drop 44 xs) ys zs k le (padded xs ys format written long e f)
    (g ∙ ap (λ (p : List ℕ). put_at ys 4 (take k p)) (riff-counted (drop 44 xs) written is.count))

size_put : (xs ys zs ws : List ℕ) (format : Format) (written k : ℕ) → k ≤ 4 → length xs ≡ 44 + written → Opens format xs → ys ≡ xs ++ replicate (written % 2) 0 → zs ≡ put_at ys 4 (u32_bytes (36 + written + written % 2))
    → ws ≡ put_at zs 40 (take k (u32_bytes written))
    → ws ≡ header_text format (riff_of (drop 44 xs)) (take k (size_of (drop 44 xs)) ++ drop k opens) ++ (drop 44 xs ++ pad_of (drop 44 xs))
size_put xs ys zs ws format written k le long e f g h =
    let is = counted xs format written e long in
    after_size format (drop 44 xs) zs ws k le (riff_put xs ys zs format written 4 (omega arith) long e f g)
    (h ∙ ap (λ (p : List ℕ). put_at zs 40 (take k p)) (size-counted (drop 44 xs) written is.count))

pub finished : (a b c d : Option (List ℕ)) (written : ℕ) → ForSome a (λ xs. length xs ≡ 44 + written) → Gains a b (replicate (written % 2) 0)
    → Holds b c 4 (u32_bytes (36 + written + written % 2)) → Holds c d 40 (u32_bytes written) → Finished a d
finished None None None None written long f g h = tt
finished (Some xs) (Some ys) (Some zs) (Some ws) written long f g h = λ format e.
    size_put xs ys zs ws format written 4 (omega arith) (long xs refl) e f g h
    ∙ sym (append_assoc (header_text format (riff_of (drop 44 xs)) (size_of (drop 44 xs))) (drop 44 xs) (pad_of (drop 44 xs)))
finished None (Some ys) c d written long f g h = absurd f
finished (Some xs) None c d written long f g h = absurd f
finished None None (Some zs) d written long f g h = absurd g
finished (Some xs) (Some ys) None d written long f g h = absurd g
finished None None None (Some ws) written long f g h = absurd h
finished (Some xs) (Some ys) (Some zs) None written long f g h = absurd h

pub part_at_pad : (a b : Option (List ℕ)) (written k : ℕ) → ForSome a (λ xs. length xs ≡ 44 + written) → Gains a b (take k (replicate (written % 2) 0)) → FinishedPart a b
part_at_pad None None written k long f = tt
part_at_pad (Some xs) (Some ys) written k long f = λ format e.
    let is = counted xs format written e (long xs refl) in
    pad-part format (drop 44 xs) ys k (after_pad format (drop 44 xs) xs ys k e (f ∙ ap (λ (p : List ℕ). xs ++ take k p) (pad-counted (drop 44 xs) written is.count)))
part_at_pad None (Some ys) written k long f = absurd f
part_at_pad (Some xs) None written k long f = absurd f

pub part_at_riff : (a b c : Option (List ℕ)) (written k : ℕ) → ForSome a (λ xs. length xs ≡ 44 + written) → Gains a b (replicate (written % 2) 0)
    → k ≤ 4 → Holds b c 4 (take k (u32_bytes (36 + written + written % 2))) → FinishedPart a c
part_at_riff None None None written k long f le g = tt
part_at_riff (Some xs) (Some ys) (Some zs) written k long f le g = λ format e.
    riff-part format (drop 44 xs) zs k (riff_put xs ys zs format written k le (long xs refl) e f g)
part_at_riff None (Some ys) c written k long f le g = absurd f
part_at_riff (Some xs) None c written k long f le g = absurd f
part_at_riff None None (Some zs) written k long f le g = absurd g
part_at_riff (Some xs) (Some ys) None written k long f le g = absurd g

pub part_at_size : (a b c d : Option (List ℕ)) (written k : ℕ) → ForSome a (λ xs. length xs ≡ 44 + written) → Gains a b (replicate (written % 2) 0)
    → Holds b c 4 (u32_bytes (36 + written + written % 2)) → k ≤ 4 → Holds c d 40 (take k (u32_bytes written)) → FinishedPart a d
part_at_size None None None None written k long f g le h = tt
part_at_size (Some xs) (Some ys) (Some zs) (Some ws) written k long f g le h = λ format e.
    size-part format (drop 44 xs) ws k (size_put xs ys zs ws format written k le (long xs refl) e f g h)
part_at_size None (Some ys) c d written k long f g le h = absurd f
part_at_size (Some xs) None c d written k long f g le h = absurd f
part_at_size None None (Some zs) d written k long f g le h = absurd g
part_at_size (Some xs) (Some ys) None d written k long f g le h = absurd g
part_at_size None None None (Some ws) written k long f g le h = absurd h
part_at_size (Some xs) (Some ys) (Some zs) None written k long f g le h = absurd h

-- ---- the same, by the answer of the last write

pub none_is_not_some : (told : Option (List ℕ)) (xs : List ℕ) → told ≡ None → told ≡ Some xs → ⊥
none_is_not_some told xs e h = cc

pub on_err : {T E : Type 0} (r : Result T E) (P : Type 0) → P → OnErr r P
on_err (Ok v) P p = tt
on_err (Err e) P p = p

pub finished_last : {T E : Type 0} (r : Result T E) (a b c d : Option (List ℕ)) (written : ℕ) (piece : List ℕ) → piece ≡ u32_bytes written → ForSome a (λ xs. length xs ≡ 44 + written)
    → Gains a b (replicate (written % 2) 0) → Holds b c 4 (u32_bytes (36 + written + written % 2)) → Writes c d r 40 piece → OnOk r (Finished a d)
finished_last (Ok v) a b c d written piece e long f g h = finished a b c d written long f g (subst (λ (p : List ℕ). Holds c d 40 p) e h)
finished_last (Err v) a b c d written piece e long f g h = tt

pub part_last : {T E : Type 0} (r : Result T E) (a b c d : Option (List ℕ)) (written : ℕ) (piece : List ℕ) → piece ≡ u32_bytes written → ForSome a (λ xs. length xs ≡ 44 + written)
    → Gains a b (replicate (written % 2) 0) → Holds b c 4 (u32_bytes (36 + written + written % 2)) → Writes c d r 40 piece → OnErr r (FinishedPart a d)
part_last (Ok v) a b c d written piece e long f g h = tt
part_last (Err v) a b c d written piece e long f g h =
    let count : length piece ≡ 4 = ap length e in
    part_at_size a b c d written h.0 long f g (omega (arith, h.1, count)) (subst (λ (p : List ℕ). Holds c d 40 (take h.0 p)) e h.2)

-- the second size is within the file
pub reaches_size : (a b c : Option (List ℕ)) (written : ℕ) (piece pad : List ℕ) → length piece ≡ 4 → ForSome a (λ xs. length xs ≡ 44 + written) → Gains a b pad → Holds b c 4 piece → ForSome c (λ xs. 40 ≤ length xs)
reaches_size None None None written piece pad e long f g = λ xs h. absurd (none_is_not_some None xs refl h)
reaches_size (Some xs) (Some ys) (Some zs) written piece pad e long f g = λ ws h.
    let is : zs ≡ ws = cc in
    let rest : length ys ≡ length xs + length pad = ap length f ∙ length-append xs pad in
    let told : length zs ≡ length (take 4 ys ++ piece) + length (drop (4 + length piece) ys) = ap length g ∙ length-append (take 4 ys ++ piece) (drop (4 + length piece) ys) in
    omega (arith, ap length is, told, rest, e, long xs refl, length-append (take 4 ys) piece, length-take 4 ys, length-drop (4 + length piece) ys)
reaches_size None (Some ys) c written piece pad e long f g = absurd f
reaches_size (Some xs) None c written piece pad e long f g = absurd f
reaches_size None None (Some zs) written piece pad e long f g = absurd g
reaches_size (Some xs) (Some ys) None written piece pad e long f g = absurd g
