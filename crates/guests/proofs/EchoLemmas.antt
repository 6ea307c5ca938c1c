-- An echo, frame by frame.
--     kept-none, kept-more      what a line keeps, one sample after another
--     silent-kept      a line of zeros
--     line-more      a full line, one sample later
--     echo-played, echo-kept      one frame of the output, and of what is kept
--     length-echoed      as many samples as are heard
--     last-one, last-none      the last sample
--     echo-all, last-all      all frames
--     IsKept, HasEchoed      what a loop over the frames keeps
use Rattle.std.proofs.Common.{◌≡◌, ℕ, zero, suc, ◌+◌, ◌-◌, ◌<◌, ◌≤◌, ◌⊎◌, inl, inr, List, [], ◌∷◌, ◌++◌, append-nil, append_assoc, add-one, length, drop, take, set, ℤ, pos, ◌+ℤ◌, ◌*ℤ◌, refl, sym, ◌∙◌, ap, ap₂, arith, length-append, length-drop}
use Rattle.std.specs.Int.{int_shr}
use Rattle.std.proofs.lemmas.Bool.{cases_lt}
use Rattle.std.proofs.lemmas.List.{drop-append-le, drop-drop, drop_all, drop_more, length-replicate, length-set, take_all, take_more_set}
use Rattle.std.proofs.Math.Seq.{drop-append_seam}
use Rattle.circular_buffer.specs.Buffer.{Buffer, buffer, keep_last}
use Rattle.guests.specs.Sounds.{echoed, last}
use Rattle.session_model.specs.Samples.{clamp, sample, silence}
use Rattle.session_laws.proofs.ActivationLemmas.{get_or-map_below, length-map_below}
use Rattle.guests.specs.Turns.{IsLine, heard}

short-kept : (n : ℕ) (xs : List ℤ) → length xs ≤ n → keep_last n xs ≡ xs
short-kept n xs h = ap (λ k. drop k xs) (none (length xs) n h)
  where
    none : (a b : ℕ) → a ≤ b → a - b ≡ 0
    none a b p = omega (arith, p)

pub kept-none : (n : ℕ) (xs : List ℤ) → length xs ≤ n → xs ≡ keep_last n (xs ++ silence 0)
kept-none n xs h = sym (ap (keep_last n) (append-nil xs) ∙ short-kept n xs h)

kept-one : (n : ℕ) (xs : List ℤ) (x : ℤ) → keep_last n (keep_last n xs ++ x ∷ []) ≡ keep_last n (xs ++ x ∷ [])
kept-one n xs x = go (cases_lt n (length xs))
  where
    go : (n < length xs) ⊎ (length xs ≤ n) → keep_last n (keep_last n xs ++ x ∷ []) ≡ keep_last n (xs ++ x ∷ [])
    go (inr h) = ap (λ ys. keep_last n (ys ++ x ∷ [])) (short-kept n xs h)
    go (inl h) =
        ap (λ k. drop k (drop (length xs - n) xs ++ x ∷ [])) (one h)
        ∙ ap (drop 1) (sym (drop-append-le (length xs - n) xs (x ∷ []) (omega arith)))
        ∙ drop-drop 1 (length xs - n) (xs ++ x ∷ [])
        ∙ ap (λ k. drop k (xs ++ x ∷ [])) (more h)
      where
        one : n < length xs → length (drop (length xs - n) xs ++ x ∷ []) - n ≡ 1
        one p = omega (arith, p, length-append (drop (length xs - n) xs) (x ∷ []), length-drop (length xs - n) xs)

        more : n < length xs → length xs - n + 1 ≡ length (xs ++ x ∷ []) - n
        more p = omega (arith, p, length-append xs (x ∷ []))

silence-more : (n : ℕ) → silence n ++ pos 0 ∷ [] ≡ silence (n + 1)
silence-more n = go n ∙ ap silence (sym (add-one n))
  where
    go : (k : ℕ) → silence k ++ pos 0 ∷ [] ≡ silence (suc k)
    go zero = refl
    go (suc k) = ap (λ xs. pos 0 ∷ xs) (go k)

pub kept-more : (n : ℕ) (xs : List ℤ) (i : ℕ) → keep_last n (keep_last n (xs ++ silence i) ++ pos 0 ∷ []) ≡ keep_last n (xs ++ silence (i + 1))
kept-more n xs i = kept-one n (xs ++ silence i) (pos 0) ∙ ap (keep_last n) (append_assoc xs (silence i) (pos 0 ∷ []) ∙ ap (λ ys. xs ++ ys) (silence-more i))

pub silent-kept : (n : ℕ) (xs : List ℤ) → keep_last n (xs ++ silence n) ≡ silence n
silent-kept n xs = ap (λ k. drop k (xs ++ silence n)) (size n) ∙ drop-append_seam xs (silence n)
  where
    size : (k : ℕ) → length (xs ++ silence k) - k ≡ length xs
    size k = omega (arith, length-append xs (silence k), length-replicate k (pos 0))

pub line-more : (frames : ℕ) (line : List ℤ) (y : ℤ) → length line ≡ frames → 1 ≤ frames → keep_last frames (line ++ y ∷ []) ≡ drop 1 line ++ y ∷ []
line-more frames line y size least = ap (λ k. drop k (line ++ y ∷ [])) one ∙ drop-append-le 1 line (y ∷ []) (omega (arith, size, least))
  where
    one : length (line ++ y ∷ []) - frames ≡ 1
    one = omega (arith, size, length-append line (y ∷ []))

last-skip : (frames : ℕ) (x : ℤ) (xs : List ℤ) → frames ≤ length xs → last frames (x ∷ xs) ≡ last frames xs
last-skip frames x xs h = ap (λ k. drop k (x ∷ xs)) (less (length xs) frames h)
  where
    less : (n m : ℕ) → m ≤ n → suc n - m ≡ suc (n - m)
    less n m p = omega (arith, p)

pub length-echoed : (gain : ℤ) (shift : ℕ) (past x : List ℤ) → length (echoed gain shift past x) ≡ length x
length-echoed gain shift past [] = refl
length-echoed gain shift past (x ∷ xs) = ap suc (length-echoed gain shift (drop 1 past ++ clamp (x +ℤ int_shr (sample past 0 *ℤ gain) shift) ∷ []) xs)

-- the last sample
pub last-one : (x : ℤ) (xs : List ℤ) → 0 < length xs → last 1 (x ∷ xs) ≡ sample xs (length xs - 1) ∷ []
last-one x [] h = absurd (omega (arith, h))
last-one x (y ∷ []) h = refl
last-one x (y ∷ z ∷ xs) h =
    last-skip 1 x (y ∷ z ∷ xs) (omega arith) ∙ last-one y (z ∷ xs) (omega arith) ∙ ap (λ v. v ∷ []) (less (length xs))
  where
    less : (n : ℕ) → sample (z ∷ xs) (suc n - 1) ≡ sample (y ∷ z ∷ xs) (suc (suc n) - 1)
    less n =
        let a : suc n - 1 ≡ n = omega arith in
        let b : suc (suc n) - 1 ≡ suc n = omega arith in
        ap (sample (z ∷ xs)) a ∙ sym (ap (sample (y ∷ z ∷ xs)) b)

pub last-none : (x : ℤ) (xs : List ℤ) → length xs ≡ 0 → last 1 (x ∷ xs) ≡ x ∷ []
last-none x [] h = refl
last-none x (y ∷ xs) h = absurd (omega (arith, h))

module _ (gain : ℤ) (shift : ℕ) where
  abbrev pub echo_of : List ℤ → ℤ → ℤ
  echo_of line x = clamp (x +ℤ int_shr (sample line 0 *ℤ gain) shift)

  module _ (period : ℕ) (x : List ℤ) (frame : ℕ) (line : List ℤ) (y : ℤ) (within : frame < period) (is : y ≡ echo_of line (sample x frame)) where
    left : drop frame (heard period x) ≡ sample x frame ∷ drop (frame + 1) (heard period x)
    left =
        drop_more (heard period x) frame (pos 0) (omega (arith, within, length-map_below (λ i. sample x i) period))
        ∙ ap (λ v. v ∷ drop (frame + 1) (heard period x)) (get_or-map_below (λ i. sample x i) period frame (pos 0) within)

    next : echoed gain shift line (drop frame (heard period x)) ≡ y ∷ echoed gain shift (drop 1 line ++ y ∷ []) (drop (frame + 1) (heard period x))
    next =
        ap (echoed gain shift line) left
        ∙ ap (λ v. v ∷ echoed gain shift (drop 1 line ++ v ∷ []) (drop (frame + 1) (heard period x))) (sym is)

    -- one frame of the output
    pub echo-played : (output : List ℤ) → period ≤ length output
        → take (frame + 1) (set output frame y) ++ echoed gain shift (drop 1 line ++ y ∷ []) (drop (frame + 1) (heard period x)) ≡ take frame output ++ echoed gain shift line (drop frame (heard period x))
    echo-played output long =
        ap (λ front. front ++ echoed gain shift (drop 1 line ++ y ∷ []) (drop (frame + 1) (heard period x))) (take_more_set output frame y (omega (arith, within, long)))
        ∙ append_assoc (take frame output) (y ∷ []) (echoed gain shift (drop 1 line ++ y ∷ []) (drop (frame + 1) (heard period x)))
        ∙ ap (λ rest. take frame output ++ rest) (sym next)

    -- and of what is kept
    pub echo-kept : (frames : ℕ) → length line ≡ frames → 1 ≤ frames
        → last frames ((drop 1 line ++ y ∷ []) ++ echoed gain shift (drop 1 line ++ y ∷ []) (drop (frame + 1) (heard period x))) ≡ last frames (line ++ echoed gain shift line (drop frame (heard period x)))
    echo-kept frames size least =
        ap (last frames) (append_assoc (drop 1 line) (y ∷ []) rest) ∙ skipped line size ∙ ap (λ xs. last frames (line ++ xs)) (sym next)
      where
        rest : List ℤ
        rest = echoed gain shift (drop 1 line ++ y ∷ []) (drop (frame + 1) (heard period x))

        skipped : (l : List ℤ) → length l ≡ frames → last frames (drop 1 l ++ y ∷ rest) ≡ last frames (l ++ y ∷ rest)
        skipped [] h = absurd (omega (arith, h, least))
        skipped (a ∷ l) h = sym (last-skip frames a (l ++ y ∷ rest) (omega (arith, h, length-append l (y ∷ rest))))

  pub echo-all : (period frame : ℕ) (x line output : List ℤ) → period ≤ frame → take frame output ++ echoed gain shift line (drop frame (heard period x)) ≡ take frame output
  echo-all period frame x line output past =
      ap (λ xs. take frame output ++ echoed gain shift line xs) (drop_all frame (heard period x) (omega (arith, past, length-map_below (λ i. sample x i) period))) ∙ append-nil (take frame output)

  pub last-all : (period frame : ℕ) (x line : List ℤ) (frames : ℕ) → period ≤ frame → length line ≡ frames → last frames (line ++ echoed gain shift line (drop frame (heard period x))) ≡ line
  last-all period frame x line frames past size =
      ap (λ xs. last frames (line ++ echoed gain shift line xs)) (drop_all frame (heard period x) (omega (arith, past, length-map_below (λ i. sample x i) period)))
      ∙ ap (last frames) (append-nil line)
      ∙ short-kept frames line (omega (arith, size))

-- what is kept of a period that is played up to a frame
pub record IsKept (gain : ℤ) (shift : ℕ) (first : List ℤ) (frames period : ℕ) (x : List ℤ) (frame : ℕ) (line : Buffer ℤ) : Type 0 where
  pub whole : IsLine frames line
  pub kept : last frames (line.items ++ echoed gain shift line.items (drop frame (heard period x))) ≡ last frames (first ++ echoed gain shift first (heard period x))

-- and what is played of it
pub record HasEchoed (gain : ℤ) (shift : ℕ) (first : List ℤ) (period : ℕ) (x : List ℤ) (frame : ℕ) (line : Buffer ℤ) (part : List ℤ) : Type 0 where
  pub size : length part ≡ period
  pub played : take frame part ++ echoed gain shift line.items (drop frame (heard period x)) ≡ echoed gain shift first (heard period x)

module _ (gain : ℤ) (shift : ℕ) (first : List ℤ) (frames period : ℕ) (x : List ℤ) where
  pub kept-first : (line : Buffer ℤ) → IsLine frames line → line.items ≡ first → IsKept gain shift first frames period x 0 line
  kept-first line whole is = record { whole = whole; kept = ap (λ items. last frames (items ++ echoed gain shift items (heard period x))) is }

  module _ (frame : ℕ) (line next : Buffer ℤ) (y : ℤ) (within : frame < period) (least : 1 ≤ frames) (whole : IsLine frames line) (is : y ≡ echo_of gain shift line.items (sample x frame))
      (stepped : next ≡ buffer (drop 1 line.items ++ y ∷ []) line.capacity) where
    items : next.items ≡ drop 1 line.items ++ y ∷ []
    items = ap (λ (b : Buffer ℤ). b.items) stepped

    still : IsLine frames next
    still = record {
      size = ap length items ∙ length-append (drop 1 line.items) (y ∷ []) ∙ omega (arith, length-drop 1 line.items, whole.size, least);
      room = ap (λ (b : Buffer ℤ). b.capacity) stepped ∙ whole.room;
    }

    pub kept-next : IsKept gain shift first frames period x frame line → IsKept gain shift first frames period x (frame + 1) next
    kept-next h = record {
      whole = still;
      kept = ap (λ l. last frames (l ++ echoed gain shift l (drop (frame + 1) (heard period x)))) items
          ∙ echo-kept gain shift period x frame line.items y within is frames whole.size least
          ∙ h.kept;
    }

    pub played-next : (part : List ℤ) (v : ℤ) → v ≡ y → HasEchoed gain shift first period x frame line part → HasEchoed gain shift first period x (frame + 1) next (set part frame v)
    played-next part v same h = record {
      size = length-set part frame v ∙ h.size;
      played = ap₂ (λ a l. take (frame + 1) (set part frame a) ++ echoed gain shift l (drop (frame + 1) (heard period x))) same items
          ∙ echo-played gain shift period x frame line.items y within is part (omega (arith, h.size))
          ∙ h.played;
    }

  pub kept-all : (frame : ℕ) (line : Buffer ℤ) → period ≤ frame → IsKept gain shift first frames period x frame line → line ≡ buffer (last frames (first ++ echoed gain shift first (heard period x))) frames
  kept-all frame line past h = λ i. record { items = (sym (last-all gain shift period frame x line.items frames past h.whole.size) ∙ h.kept) i; capacity = h.whole.room i }

  pub played-all_frames : (frame : ℕ) (line : Buffer ℤ) (part : List ℤ) → period ≤ frame → HasEchoed gain shift first period x frame line part → part ≡ echoed gain shift first (heard period x)
  played-all_frames frame line part past h =
      sym (take_all frame part (omega (arith, past, h.size))) ∙ sym (echo-all gain shift period frame x line.items part past) ∙ h.played
