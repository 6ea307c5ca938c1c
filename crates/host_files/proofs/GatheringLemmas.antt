-- What is read ahead and given later is what the reader gave.
--     waiting-given      what is given, and what waits then, are what waited
--     none-waiting, some-waiting, none-given      where something waits
--     passed-through, failed-empty      a read past a room where nothing waits, or one that failed
--     given-waiting, given-gathered      a read of what waits, or was gathered by it
--     ended      at the end nothing waits
use Rattle.std.proofs.Common.{◌≡◌, ℕ, ◌+◌, ◌-◌, ◌≤◌, List, [], ◌++◌, Some, None, take, drop, length, sym, ◌∙◌, ap, ap₂, subst, append_assoc, arith}
use Rattle.std.specs.Prelude.{Result, Ok, Err, IsErr}
use Rattle.std.specs.declared.option.Option.{Option}
use Rattle.std.specs.Io.KnownBytes.{Consumes, IsAtEnd, Keeps, ReadConsumes, prepend_known}
use Rattle.std.proofs.Math.Seq.{take-append_seam}
use Rattle.std.proofs.lemmas.List.{drop-drop, drop-take, drop_all, length-drop, length-take, length-take-le, take-append-drop, take-take}

front : (n : ℕ) (first others : List ℕ) → length first ≡ n → take n (first ++ others) ≡ first
front n first others h = subst (λ m. take m (first ++ others) ≡ first) h (take-append_seam first others)

pub waiting-given : (room copied others : List ℕ) (at end n : ℕ) → at + n ≤ end → end ≤ length room → copied ≡ take n (drop at room)
    → drop at (take end room) ≡ take n (copied ++ others) ++ drop (at + n) (take end room)
waiting-given room copied others at end n within fits is =
    sym (take-append-drop n (drop at (take end room)))
    ∙ ap₂ (λ (a b : List ℕ). a ++ b) (cut ∙ sym is ∙ sym (front n copied others long)) (drop-drop n at (take end room))
  where
    cut : take n (drop at (take end room)) ≡ take n (drop at room)
    cut = ap (take n) (subst (λ m. drop at (take m room) ≡ take (end - at) (drop at room)) (omega (arith, within)) (drop-take at (end - at) room)) ∙ take-take n (end - at) (drop at room) (omega (arith, within))

    long : length copied ≡ n
    long = ap length is ∙ length-take-le n (drop at room) (omega (arith, within, fits, length-drop at room))

-- nothing waits where all was given
pub none-waiting : (room : List ℕ) (at end : ℕ) → at ≡ end → drop at (take end room) ≡ []
none-waiting room at end is = drop_all at (take end room) (omega (arith, is, length-take end room))

-- what waits is something elsewhere
pub some-waiting : (room : List ℕ) (at end : ℕ) → at ≤ end → end ≤ length room → drop at (take end room) ≡ [] → at ≡ end
some-waiting room at end order within none =
    let empty : length (drop at (take end room)) ≡ 0 = ap length none in
    omega (arith, order, within, empty, length-drop at (take end room), length-take-le end room within)

-- a read of no bytes is of no bytes that waited
pub none-given : (waits waits_now buffer : List ℕ) (n : ℕ) → n ≡ 0 → waits ≡ take n buffer ++ waits_now → waits_now ≡ [] → waits ≡ []
none-given waits waits_now buffer n zero is empty = is ∙ ap (λ m. take m buffer ++ waits_now) zero ∙ empty

bare : {E : Type 0} (known after : Option (List ℕ)) (result : Result ℕ E) (buffer : List ℕ) → ReadConsumes known after result buffer → ReadConsumes (prepend_known [] known) (prepend_known [] after) result buffer
bare None None (Ok n) buffer r = r
bare None (Some ys) (Ok n) buffer r = r
bare (Some xs) None (Ok n) buffer r = r
bare (Some xs) (Some ys) (Ok n) buffer r = r
bare None None (Err e) buffer r = r
bare None (Some ys) (Err e) buffer r = r
bare (Some xs) None (Err e) buffer r = r
bare (Some xs) (Some ys) (Err e) buffer r = r

pub passed-through : {E : Type 0} (waits waits_now : List ℕ) (known after : Option (List ℕ)) (result : Result ℕ E) (buffer : List ℕ) → waits ≡ [] → waits_now ≡ waits → ReadConsumes known after result buffer
    → ReadConsumes (prepend_known waits known) (prepend_known waits_now after) result buffer
passed-through waits waits_now known after result buffer empty same reads =
    subst (λ w. ReadConsumes (prepend_known waits known) (prepend_known w after) result buffer) (sym (same ∙ empty))
    (subst (λ w. ReadConsumes (prepend_known w known) (prepend_known [] after) result buffer) (sym empty) (bare known after result buffer reads))

pub failed-empty : {E : Type 0} (waits waits_now : List ℕ) (known after : Option (List ℕ)) (result : Result ℕ E) (buffer : List ℕ) → waits ≡ [] → waits_now ≡ [] → IsErr result → Keeps known after
    → ReadConsumes (prepend_known waits known) (prepend_known waits_now after) result buffer
failed-empty waits waits_now known after (Ok n) buffer empty now is_err k = cc
failed-empty waits waits_now None after (Err e) buffer empty now is_err k = tt
failed-empty waits waits_now (Some xs) None (Err e) buffer empty now is_err k = k
failed-empty waits waits_now (Some xs) (Some ys) (Err e) buffer empty now is_err k = ap₂ (λ (a b : List ℕ). a ++ b) (now ∙ sym empty) k

pub given-waiting : (waits waits_now piece : List ℕ) (known : Option (List ℕ)) → waits ≡ piece ++ waits_now → Consumes (prepend_known waits known) (prepend_known waits_now known) piece
given-waiting waits waits_now piece None is = tt
given-waiting waits waits_now piece (Some xs) is = ap (λ ys. ys ++ xs) is ∙ append_assoc piece waits_now xs

pub given-gathered : (waits gathered waits_now piece : List ℕ) (known after : Option (List ℕ)) → waits ≡ [] → Consumes known after gathered → gathered ≡ piece ++ waits_now
    → Consumes (prepend_known waits known) (prepend_known waits_now after) piece
given-gathered waits gathered waits_now piece None after empty c is = tt
given-gathered waits gathered waits_now piece (Some xs) None empty c is = c
given-gathered waits gathered waits_now piece (Some xs) (Some ys) empty c is =
    ap (λ zs. zs ++ xs) empty ∙ c ∙ ap (λ zs. zs ++ ys) is ∙ append_assoc piece waits_now ys

pub ended : (waits_now : List ℕ) (after : Option (List ℕ)) → waits_now ≡ [] → IsAtEnd after → IsAtEnd (prepend_known waits_now after)
ended waits_now None empty e = tt
ended waits_now (Some xs) empty e = ap₂ (λ (a b : List ℕ). a ++ b) empty e
