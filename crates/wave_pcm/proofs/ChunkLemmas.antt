-- Reading a header forward, chunk by chunk.
use Rattle.std.proofs.Common.{◌≡◌, ◌⊎◌, ℕ, suc, ◌+◌, ◌-◌, ◌%◌, ◌<◌, ◌≤◌, true, false, not, cond, List, [], ◌++◌, length, take, drop, Some, None, inl, inr, refl, sym, ap, subst, ◌∙◌, arith, length-append}
use Rattle.std.specs.Prelude.{codes, Err, IfErr, IfNone, IfOk, IfSome, nat_lt, Ok, OnOk, Option, Result, slice_range}
use Rattle.std.specs.Str.{bytes_eq}
use Rattle.std.specs.Io.KnownBytes.{Consumes, IsAtEnd}
use Rattle.std.proofs.lemmas.List.{drop_at, length-drop, length-take-le, take-append-le, take-take, take_all}
use Rattle.std.proofs.lemmas.Bool.{cond-false, cond-true, le-ltb, lt-ltb, not_from_false, not_from_true}
use Rattle.samples.specs.jack_types.specs.declared.files.Format.{Format}
use Rattle.samples.specs.jack_types.specs.declared.files.WaveFault.{WaveFault}
use Rattle.samples.specs.jack_types.specs.declared.files.WaveFault.TheVariants.{Ends, NoData, NoFormat, NotRiff, NotWave, Read, TooManyChunks}
use Rattle.samples.specs.session_model.specs.Samples.{number_of}
use Rattle.samples.specs.session_model.specs.WaveFiles.{cut_format_fault, format_of, u32_at}
use Rattle.samples.specs.session_model.specs.WaveOpening.{at_data, at_other, ended, forward, opened, Opened, skip, Step, step, tested}
use Rattle.samples.specs.session_model.specs.WaveOpening.Step.{Go, Stop}
use Rattle.samples.specs.wave_laws.proofs.WaveFormats.{slice_front}
use Rattle.wave_pcm.specs.declared.chunks.Next.{Next}
use Rattle.wave_pcm.specs.declared.chunks.Next.TheVariants.{Chunk, Data}
use Rattle.wave_pcm.specs.Openings.{Begins, IsOnward, Opens}
use Rattle.wave_pcm.specs.Steps.{Drops, met, taken}
use Rattle.wave_pcm.proofs.InputLemmas.{drops-consumes, drops-trans}

-- ---- the first 12 bytes

-- what was read of them
record IsBegun (bytes head : List ℕ) (n : ℕ) : Type 0 where
  riff : 4 ≤ n → take 4 bytes ≡ take 4 head
  wave : n ≡ 12 → slice_range bytes 8 12 ≡ drop 8 head
  long : n ≤ length bytes

begun : (bytes head rest : List ℕ) (n : ℕ) → length head ≡ 12 → n ≤ 12 → bytes ≡ take n head ++ rest → IsBegun bytes head n
begun bytes head rest n e le is =
    let count : length (take n head) ≡ n = length-take-le n head (omega (arith, le, e)) in
    record {
      riff = λ h. ap (take 4) is ∙ take-append-le 4 (take n head) rest (omega (arith, count, h)) ∙ inner h;
      wave = λ h.
          let whole : take n head ≡ head = take_all n head (omega (arith, h, e)) in
          let all : bytes ≡ head ++ rest = is ∙ ap (λ (x : List ℕ). x ++ rest) whole in
          ap (λ (x : List ℕ). slice_range x 8 12) all ∙ slice_front head rest 8 4 (omega (arith, e)) ∙ take_all 4 (drop 8 head) (omega (arith, length-drop 8 head, e));
      long = omega (arith, ap length is, length-append (take n head) rest, count);
    }
  where
    inner : 4 ≤ n → take 4 (take n head) ≡ take 4 head
    inner h = take-take 4 n head h

ends_at : (bytes head rest : List ℕ) (n : ℕ) → length head ≡ 12 → n ≤ 12 → bytes ≡ take n head ++ rest → rest ≡ [] → length bytes ≡ n
ends_at bytes head rest n e le is none = omega (arith, ap length is, ap length none, length-append (take n head) rest, length-take-le n head (omega (arith, le, e)))

pub ends_before_4 : (a b : Option (List ℕ)) (head : List ℕ) (n : ℕ) → length head ≡ 12 → n < 4 → Consumes a b (take n head) → IsAtEnd b → IfSome a (λ bytes. opened bytes ≡ Err (Ends n))
ends_before_4 None b head n e h f end = tt
ends_before_4 (Some xs) None head n e h f end = absurd f
ends_before_4 (Some xs) (Some ys) head n e h f end =
    let count : length xs ≡ n = ends_at xs head ys n e (omega (arith, h)) f end in
    cond-true (nat_lt (length xs) 4) (Err (Ends (length xs))) _ (lt-ltb (length xs) 4 (omega (arith, count, h))) ∙ ap (λ (k : ℕ). Err (Ends k)) count

pub not_riff : (a b : Option (List ℕ)) (head : List ℕ) (n : ℕ) → length head ≡ 12 → 4 ≤ n → n ≤ 12 → bytes_eq (take 4 head) (codes "RIFF") ≡ false → Consumes a b (take n head) → IfSome a (λ bytes. opened bytes ≡ Err NotRiff)
not_riff None b head n e h le other_id f = tt
not_riff (Some xs) None head n e h le other_id f = absurd f
not_riff (Some xs) (Some ys) head n e h le other_id f =
    let is = begun xs head ys n e le f in
    cond-false (nat_lt (length xs) 4) (Err (Ends (length xs))) _ (le-ltb (length xs) 4 (omega (arith, is.long, h)))
    ∙ cond-true (not (bytes_eq (take 4 xs) (codes "RIFF"))) (Err NotRiff) _ (not_from_false (bytes_eq (take 4 xs) (codes "RIFF")) (ap (λ (x : List ℕ). bytes_eq x (codes "RIFF")) (is.riff h) ∙ other_id))

-- behind `RIFF`
behind_riff : (xs head ys : List ℕ) (n : ℕ) → length head ≡ 12 → 4 ≤ n → n ≤ 12 → bytes_eq (take 4 head) (codes "RIFF") ≡ true → xs ≡ take n head ++ ys
    → opened xs ≡ cond (nat_lt (length xs) 12) (Err (Ends (length xs))) (cond (not (bytes_eq (slice_range xs 8 12) (codes "WAVE"))) (Err NotWave) (forward 4096 (length xs) None (drop 12 xs)))
behind_riff xs head ys n e h le here f =
    let is = begun xs head ys n e le f in
    cond-false (nat_lt (length xs) 4) (Err (Ends (length xs))) _ (le-ltb (length xs) 4 (omega (arith, is.long, h)))
    ∙ cond-false (not (bytes_eq (take 4 xs) (codes "RIFF"))) (Err NotRiff) _ (not_from_true (bytes_eq (take 4 xs) (codes "RIFF")) (ap (λ (x : List ℕ). bytes_eq x (codes "RIFF")) (is.riff h) ∙ here))

pub ends_before_12 : (a b : Option (List ℕ)) (head : List ℕ) (n : ℕ) → length head ≡ 12 → 4 ≤ n → n < 12 → bytes_eq (take 4 head) (codes "RIFF") ≡ true → Consumes a b (take n head) → IsAtEnd b → IfSome a (λ bytes. opened bytes ≡ Err (Ends n))
ends_before_12 None b head n e h lt here f end = tt
ends_before_12 (Some xs) None head n e h lt here f end = absurd f
ends_before_12 (Some xs) (Some ys) head n e h lt here f end =
    let count : length xs ≡ n = ends_at xs head ys n e (omega (arith, lt)) f end in
    behind_riff xs head ys n e h (omega (arith, lt)) here f
    ∙ cond-true (nat_lt (length xs) 12) (Err (Ends (length xs))) _ (lt-ltb (length xs) 12 (omega (arith, count, lt))) ∙ ap (λ (k : ℕ). Err (Ends k)) count

pub not_wave : (a b : Option (List ℕ)) (head : List ℕ) (n : ℕ) → length head ≡ 12 → n ≡ 12 → bytes_eq (take 4 head) (codes "RIFF") ≡ true → bytes_eq (drop 8 head) (codes "WAVE") ≡ false → Consumes a b (take n head) → IfSome a (λ bytes. opened bytes ≡ Err NotWave)
not_wave None b head n e h here other_id f = tt
not_wave (Some xs) None head n e h here other_id f = absurd f
not_wave (Some xs) (Some ys) head n e h here other_id f =
    let is = begun xs head ys n e (omega (arith, h)) f in
    behind_riff xs head ys n e (omega (arith, h)) (omega (arith, h)) here f
    ∙ cond-false (nat_lt (length xs) 12) (Err (Ends (length xs))) _ (le-ltb (length xs) 12 (omega (arith, is.long, h)))
    ∙ cond-true (not (bytes_eq (slice_range xs 8 12) (codes "WAVE"))) (Err NotWave) _ (not_from_false (bytes_eq (slice_range xs 8 12) (codes "WAVE")) (ap (λ (x : List ℕ). bytes_eq x (codes "WAVE")) (is.wave h) ∙ other_id))

pub begins : (a b : Option (List ℕ)) (head : List ℕ) (n : ℕ) → length head ≡ 12 → n ≡ 12 → bytes_eq (take 4 head) (codes "RIFF") ≡ true → bytes_eq (drop 8 head) (codes "WAVE") ≡ true → Consumes a b (take n head) → Begins a b
begins None b head n e h here wave f = tt
begins (Some xs) None head n e h here wave f = absurd f
begins (Some xs) (Some ys) head n e h here wave f =
    let is = begun xs head ys n e (omega (arith, h)) f in
    let count : length (take n head) ≡ 12 = length-take-le n head (omega (arith, e, h)) ∙ h in
    let rest : drop 12 xs ≡ ys = ap (drop 12) f ∙ drop_at (take n head) ys 12 count in (
      omega (arith, ap length f, length-append (take n head) ys, count),
      behind_riff xs head ys n e (omega (arith, h)) (omega (arith, h)) here f
          ∙ cond-false (nat_lt (length xs) 12) (Err (Ends (length xs))) _ (le-ltb (length xs) 12 (omega (arith, is.long, h)))
          ∙ cond-false (not (bytes_eq (slice_range xs 8 12) (codes "WAVE"))) (Err NotWave) _ (not_from_true (bytes_eq (slice_range xs 8 12) (codes "WAVE")) (ap (λ (x : List ℕ). bytes_eq x (codes "WAVE")) (is.wave h) ∙ wave))
          ∙ ap (forward 4096 (length xs) None) rest,
    )

-- ---- one chunk, behind its head

-- the head of the bytes
record IsHead (bytes head rest : List ℕ) : Type 0 where
  id : take 4 bytes ≡ take 4 head
  size : u32_at bytes 4 ≡ u32_at head 4
  behind : drop 8 bytes ≡ rest
  long : length bytes ≡ 8 + length rest

is_head : (bytes head rest : List ℕ) → length head ≡ 8 → bytes ≡ head ++ rest → IsHead bytes head rest
is_head bytes head rest e is =
    record {
      id = ap (take 4) is ∙ take-append-le 4 head rest (omega (arith, e));
      size = ap (λ (x : List ℕ). u32_at x 4) is ∙ ap number_of (slice_front head rest 4 4 (omega (arith, e)));
      behind = ap (drop 8) is ∙ drop_at head rest 8 e;
      long = omega (arith, ap length is, length-append head rest, e);
    }

pub step_short : (read : ℕ) (found : Option Format) (a : Option (List ℕ)) (fault : WaveFault) → fault ≡ ended found → IfSome a (λ bytes. length bytes < 8) → IfSome a (λ bytes. step (read + length bytes) found bytes ≡ met (Err fault) bytes)
step_short read found None fault e h = tt
step_short read found (Some xs) fault e h =
    cond-true (nat_lt (length xs) 8) (Stop (Err (ended found))) _ (lt-ltb (length xs) 8 h) ∙ ap (λ (f : WaveFault). Stop (Err f)) (sym e)

behind_head : (end : ℕ) (found : Option Format) (xs head ys : List ℕ) → IsHead xs head ys → step end found xs ≡ cond (bytes_eq (take 4 xs) (codes "data")) (Stop (at_data found xs)) (at_other end found xs)
behind_head end found xs head ys is = cond-false (nat_lt (length xs) 8) (Stop (Err (ended found))) _ (le-ltb (length xs) 8 (omega (arith, is.long)))

pub step_data : (read size : ℕ) (found : Option Format) (a b : Option (List ℕ)) (head : List ℕ) (r : Result Next WaveFault) → length head ≡ 8 → Consumes a b head → size ≡ u32_at head 4 → bytes_eq (take 4 head) (codes "data") ≡ true
    → IfSome found (λ format. r ≡ Ok (Data format size)) → IfNone found (r ≡ Err NoFormat) → IfSome a (λ bytes. step (read + length bytes) found bytes ≡ met r bytes)
step_data read size found None b head r e f is here told none = tt
step_data read size found (Some xs) None head r e f is here told none = absurd f
step_data read size found (Some xs) (Some ys) head r e f is here told none =
    let at = is_head xs head ys e f in
    behind_head (read + length xs) found xs head ys at
    ∙ cond-true (bytes_eq (take 4 xs) (codes "data")) (Stop (at_data found xs)) (at_other (read + length xs) found xs) (ap (λ (x : List ℕ). bytes_eq x (codes "data")) at.id ∙ here)
    ∙ go found at.size told none
  where
    go : (found : Option Format) → u32_at xs 4 ≡ u32_at head 4 → IfSome found (λ format. r ≡ Ok (Data format size)) → IfNone found (r ≡ Err NoFormat) → Stop (at_data found xs) ≡ met r xs
    go None same told none = ap (λ (q : Result Next WaveFault). met q xs) (sym none)
    go (Some format) same told none =
        ap (λ (n : ℕ). Stop (Ok (record { format = format; size = n; rest = drop 8 xs }))) (same ∙ sym is) ∙ ap (λ (q : Result Next WaveFault). met q xs) (sym told)

behind_data : (end : ℕ) (found : Option Format) (xs head ys : List ℕ) → IsHead xs head ys → bytes_eq (take 4 head) (codes "data") ≡ false → step end found xs ≡ at_other end found xs
behind_data end found xs head ys is other_id =
    behind_head end found xs head ys is
    ∙ cond-false (bytes_eq (take 4 xs) (codes "data")) (Stop (at_data found xs)) (at_other end found xs) (ap (λ (x : List ℕ). bytes_eq x (codes "data")) is.id ∙ other_id)

-- a chunk that is skipped, and one that is cut
skips : (found : Option Format) (xs head ys : List ℕ) (size : ℕ) → IsHead xs head ys → size ≡ u32_at head 4 → size + size % 2 ≤ length ys → skip found xs ≡ Go found (8 + size + size % 2)
skips found xs head ys size is e h =
    let n : u32_at xs 4 ≡ size = is.size ∙ sym e in
    ap (λ (k : ℕ). cond (nat_lt (length xs) (8 + k + k % 2)) (Stop (Err (ended found))) (Go found (8 + k + k % 2))) n
    ∙ cond-false (nat_lt (length xs) (8 + size + size % 2)) (Stop (Err (ended found))) (Go found (8 + size + size % 2)) (le-ltb (length xs) (8 + size + size % 2) (omega (arith, is.long, h)))

skips_not : (found : Option Format) (xs head ys : List ℕ) (size : ℕ) → IsHead xs head ys → size ≡ u32_at head 4 → length ys < size + size % 2 → skip found xs ≡ Stop (Err (ended found))
skips_not found xs head ys size is e h =
    let n : u32_at xs 4 ≡ size = is.size ∙ sym e in
    ap (λ (k : ℕ). cond (nat_lt (length xs) (8 + k + k % 2)) (Stop (Err (ended found))) (Go found (8 + k + k % 2))) n
    ∙ cond-true (nat_lt (length xs) (8 + size + size % 2)) (Stop (Err (ended found))) (Go found (8 + size + size % 2)) (lt-ltb (length xs) (8 + size + size % 2) (omega (arith, is.long, h)))

-- the answer of a call that read over the rest of a chunk
pub step_pass : (read size : ℕ) (found : Option Format) (a b c : Option (List ℕ)) (head : List ℕ) (r : Result Next WaveFault) → length head ≡ 8 → Consumes a b head → size ≡ u32_at head 4 → bytes_eq (take 4 head) (codes "data") ≡ false
    → IfNone found (bytes_eq (take 4 head) (codes "fmt ") ≡ false) → IfOk r (λ next. next ≡ Chunk found (8 + size + size % 2)) → OnOk r (Drops b c (size + size % 2 - 0))
    → IfErr r (λ fault. (fault ≡ Read → ⊥) → (fault ≡ ended found) × IfSome b (λ told. length told < size + size % 2 - 0))
    → (r ≡ Err Read → ⊥) → IfSome a (λ bytes. step (read + length bytes) found bytes ≡ met r bytes)
step_pass read size found None b c head r e f is other_id other ok drops err good = tt
step_pass read size found (Some xs) None c head r e f is other_id other ok drops err good = absurd f
step_pass read size found (Some xs) (Some ys) c head r e f is other_id other ok drops err good =
    behind_data (read + length xs) found xs head ys at other_id ∙ skipped_is found other ∙ go r c ok drops err good
  where
    at : IsHead xs head ys
    at = is_head xs head ys e f

    skipped_is : (found : Option Format) → IfNone found (bytes_eq (take 4 head) (codes "fmt ") ≡ false) → at_other (read + length xs) found xs ≡ skip found xs
    skipped_is (Some format) h = refl
    skipped_is None h = cond-false (bytes_eq (take 4 xs) (codes "fmt ")) _ (skip None xs) (ap (λ (x : List ℕ). bytes_eq x (codes "fmt ")) at.id ∙ h)

    go : (r : Result Next WaveFault) (c : Option (List ℕ)) → IfOk r (λ next. next ≡ Chunk found (8 + size + size % 2)) → OnOk r (Drops (Some ys) c (size + size % 2 - 0))
        → IfErr r (λ fault. (fault ≡ Read → ⊥) → (fault ≡ ended found) × (length ys < size + size % 2 - 0)) → (r ≡ Err Read → ⊥) → skip found xs ≡ met r xs
    go (Ok next) None ok drops err good = absurd drops
    go (Ok next) (Some zs) ok drops err good =
        skips found xs head ys size at is (omega (arith, drops.0)) ∙ ap (λ (n : Next). met (Ok n) xs) (sym ok)
    go (Err fault) c ok drops err good =
        let told = err (λ h. good (ap Err h)) in
        skips_not found xs head ys size at is (omega (arith, told.1)) ∙ ap (λ (f : WaveFault). Stop (Err f)) (sym told.0)

-- the answer of a call that read the first `fmt `
pub step_format : (read size : ℕ) (a b : Option (List ℕ)) (head : List ℕ) (r : Result Next WaveFault) → length head ≡ 8 → Consumes a b head → size ≡ u32_at head 4 → bytes_eq (take 4 head) (codes "data") ≡ false → bytes_eq (take 4 head) (codes "fmt ") ≡ true
    → IfOk r (λ next. IfSome b (λ content. (cut_format_fault (read + 8 + length content) size content ≡ None) × (size + size % 2 ≤ length content) × (next ≡ Chunk (Some (format_of content)) (8 + size + size % 2))))
    → IfErr r (λ fault. (fault ≡ Read → ⊥) → IfSome b (λ content. (cut_format_fault (read + 8 + length content) size content ≡ Some fault)
    ⊎ ((cut_format_fault (read + 8 + length content) size content ≡ None) × (fault ≡ NoData) × (length content < size + size % 2))))
    → (r ≡ Err Read → ⊥) → IfSome a (λ bytes. step (read + length bytes) None bytes ≡ met r bytes)
step_format read size None b head r e f is other_id here ok err good = tt
step_format read size (Some xs) None head r e f is other_id here ok err good = absurd f
step_format read size (Some xs) (Some ys) head r e f is other_id here ok err good =
    behind_data end None xs head ys at other_id
    ∙ cond-true (bytes_eq (take 4 xs) (codes "fmt ")) (tested (cut_format_fault end (u32_at xs 4) (drop 8 xs)) xs) (skip None xs) (ap (λ (x : List ℕ). bytes_eq x (codes "fmt ")) at.id ∙ here)
    ∙ ap (λ (f : Option WaveFault). tested f xs) content_is
    ∙ go r ok err good
  where
    at : IsHead xs head ys
    at = is_head xs head ys e f

    end : ℕ
    end = read + length xs

    fault_of : Option WaveFault
    fault_of = cut_format_fault (read + 8 + length ys) size ys

    content_is : cut_format_fault (read + length xs) (u32_at xs 4) (drop 8 xs) ≡ fault_of
    content_is =
        let count : read + length xs ≡ read + 8 + length ys = omega (arith, at.long) in
        ap (λ (n : ℕ). cut_format_fault n (u32_at xs 4) (drop 8 xs)) count
        ∙ ap (λ (n : ℕ). cut_format_fault (read + 8 + length ys) n (drop 8 xs)) (at.size ∙ sym is)
        ∙ ap (cut_format_fault (read + 8 + length ys) size) at.behind

    go : (r : Result Next WaveFault)
        → IfOk r (λ next. (fault_of ≡ None) × (size + size % 2 ≤ length ys) × (next ≡ Chunk (Some (format_of ys)) (8 + size + size % 2)))
        → IfErr r (λ fault. (fault ≡ Read → ⊥) → (fault_of ≡ Some fault) ⊎ ((fault_of ≡ None) × (fault ≡ NoData) × (length ys < size + size % 2)))
        → (r ≡ Err Read → ⊥) → tested fault_of xs ≡ met r xs
    go (Ok next) ok err good =
        ap (λ (f : Option WaveFault). tested f xs) ok.0 ∙ ap (λ (y : List ℕ). skip (Some (format_of y)) xs) at.behind
        ∙ skips (Some (format_of ys)) xs head ys size at is ok.1 ∙ ap (λ (n : Next). met (Ok n) xs) (sym ok.2)
    go (Err fault) ok err good =
        elim (err (λ h. good (ap Err h))) [
          | inl h ↦ ap (λ (f : Option WaveFault). tested f xs) h
          | inr h ↦
              ap (λ (f : Option WaveFault). tested f xs) h.0 ∙ ap (λ (y : List ℕ). skip (Some (format_of y)) xs) at.behind
              ∙ skips_not (Some (format_of ys)) xs head ys size at is h.2 ∙ ap (λ (f : WaveFault). Stop (Err f)) (sym h.1)
        ]

-- how many bytes a chunk took
pub takes : (a b c : Option (List ℕ)) (head : List ℕ) (size : ℕ) (r : Result Next WaveFault) → length head ≡ 8 → Consumes a b head → IfOk r (λ next. (taken next ≡ 8 + size + size % 2) × Drops b c (size + size % 2)) → IfOk r (λ next. Drops a c (taken next))
takes a b c head size (Err fault) e f h = tt
takes a b c head size (Ok next) e f h =
    let count : taken next ≡ 8 + (size + size % 2) = omega (arith, h.0) in
    subst (λ (n : ℕ). Drops a c n) (sym count) (drops-trans a b c 8 (size + size % 2) (drops-consumes a b head 8 e f) h.1)

pub takes_pass : (a b c : Option (List ℕ)) (head : List ℕ) (size : ℕ) (found : Option Format) (r : Result Next WaveFault) → length head ≡ 8 → Consumes a b head → IfOk r (λ next. next ≡ Chunk found (8 + size + size % 2)) → OnOk r (Drops b c (size + size % 2 - 0)) → IfOk r (λ next. Drops a c (taken next))
takes_pass a b c head size found (Err fault) e f is h = tt
takes_pass a b c head size found (Ok next) e f is h =
    let count : size + size % 2 - 0 ≡ size + size % 2 = omega arith in
    takes a b c head size (Ok next) e f (ap taken is, subst (λ (n : ℕ). Drops b c n) count h)

pub takes_data : (a b : Option (List ℕ)) (head : List ℕ) (size : ℕ) (found : Option Format) (r : Result Next WaveFault) → length head ≡ 8 → Consumes a b head → IfSome found (λ format. r ≡ Ok (Data format size)) → IfNone found (r ≡ Err NoFormat) → IfOk r (λ next. Drops a b (taken next))
takes_data a b head size None r e f told none = subst (λ (q : Result Next WaveFault). IfOk q (λ next. Drops a b (taken next))) (sym none) tt
takes_data a b head size (Some format) r e f told none = subst (λ (q : Result Next WaveFault). IfOk q (λ next. Drops a b (taken next))) (sym told) (drops-consumes a b head 8 e f)

-- ---- all chunks

pub ok_is_no_read : {T : Type 0} (r : Result T WaveFault) (v : T) → r ≡ Ok v → r ≡ Err Read → ⊥
ok_is_no_read r v e h = cc

pub same_fault : {T : Type 0} (r : Result T WaveFault) (f g : WaveFault) → r ≡ Err f → r ≡ Err g → f ≡ g
same_fault r f g e h = cc

pub onward_first : (a b : Option (List ℕ)) → Begins a b → IsOnward a b 12 None 4096
onward_first None b h = tt
onward_first (Some xs) None h = h
onward_first (Some xs) (Some ys) h = h

abbrev go_on : ℕ → ℕ → List ℕ → Step → Result Opened WaveFault
go_on most end bytes (Stop told) = told
go_on most end bytes (Go now total) = forward most end now (drop total bytes)

onward_step : (xs ys : List ℕ) (read passed : ℕ) (found : Option Format) (s : Step) → passed < 4096 → opened xs ≡ forward (4096 - passed) (length xs) found ys → step (length xs) found ys ≡ s → opened xs ≡ go_on (4096 - (passed + 1)) (length xs) ys s
onward_step xs ys read passed found s h f e =
    let n : 4096 - passed ≡ suc (4096 - (passed + 1)) = omega (arith, h) in
    f ∙ ap (λ (k : ℕ). forward k (length xs) found ys) n ∙ ap (go_on (4096 - (passed + 1)) (length xs) ys) e

step_end : (read end : ℕ) (found : Option Format) (ys : List ℕ) (s : Step) → read + length ys ≡ end → step (read + length ys) found ys ≡ s → step end found ys ≡ s
step_end read end found ys s e h = ap (λ (n : ℕ). step n found ys) (sym e) ∙ h

pub onward_more : (a b c : Option (List ℕ)) (read passed total : ℕ) (found now : Option Format) → passed < 4096 → IsOnward a b read found (4096 - passed) → IfSome b (λ bytes. step (read + length bytes) found bytes ≡ Go now total) → Drops b c total
    → IsOnward a c (read + total) now (4096 - (passed + 1))
onward_more None b c read passed total found now h f s d = tt
onward_more (Some xs) None c read passed total found now h f s d = absurd f
onward_more (Some xs) (Some ys) None read passed total found now h f s d = absurd d
onward_more (Some xs) (Some ys) (Some zs) read passed total found now h f s d = (
  omega (arith, f.0, d.0, ap length d.1, length-drop total ys),
  onward_step xs ys read passed found (Go now total) h f.1 (step_end read (length xs) found ys (Go now total) f.0 s) ∙ ap (forward (4096 - (passed + 1)) (length xs) now) (sym d.1),
)

pub onward_data : (a b c : Option (List ℕ)) (read passed size : ℕ) (found : Option Format) (format : Format) → passed < 4096 → IsOnward a b read found (4096 - passed)
    → IfSome b (λ bytes. step (read + length bytes) found bytes ≡ Stop (Ok (record { format = format; size = size; rest = drop 8 bytes }))) → Drops b c 8 → Opens a c format size
onward_data None b c read passed size found format h f s d = tt
onward_data (Some xs) None c read passed size found format h f s d = absurd f
onward_data (Some xs) (Some ys) None read passed size found format h f s d = absurd d
onward_data (Some xs) (Some ys) (Some zs) read passed size found format h f s d =
    onward_step xs ys read passed found (Stop (Ok (record { format = format; size = size; rest = drop 8 ys }))) h f.1 (step_end read (length xs) found ys _ f.0 s)
    ∙ ap (λ (z : List ℕ). Ok (record { format = format; size = size; rest = z })) (sym d.1)

pub onward_fault : (a b : Option (List ℕ)) (read passed : ℕ) (found : Option Format) (fault : WaveFault) → passed < 4096 → IsOnward a b read found (4096 - passed) → IfSome b (λ bytes. step (read + length bytes) found bytes ≡ Stop (Err fault)) → IfSome a (λ bytes. opened bytes ≡ Err fault)
onward_fault None b read passed found fault h f s = tt
onward_fault (Some xs) None read passed found fault h f s = absurd f
onward_fault (Some xs) (Some ys) read passed found fault h f s = onward_step xs ys read passed found (Stop (Err fault)) h f.1 (step_end read (length xs) found ys (Stop (Err fault)) f.0 s)

pub onward_end : (a b : Option (List ℕ)) (read passed : ℕ) (found : Option Format) → 4096 ≤ passed → IsOnward a b read found (4096 - passed) → IfSome a (λ bytes. opened bytes ≡ Err TooManyChunks)
onward_end None b read passed found h f = tt
onward_end (Some xs) None read passed found h f = absurd f
onward_end (Some xs) (Some ys) read passed found h f =
    let n : 4096 - passed ≡ 0 = omega (arith, h) in
    f.1 ∙ ap (λ (k : ℕ). forward k (length xs) found ys) n
