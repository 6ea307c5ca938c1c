-- What a file holds behind a write, where what stands in it is told or not.
--     stays-same, stays-on      nothing changed
--     failed-before      a write that failed before it began
--     waits-on      what could not be written out waits on, and counts as written
--     left-part, left-all      what stands is a front of what was to stand
--     gathered      a piece behind what waits
--     written-through, gathered-anew      a piece where nothing waits any more
use Rattle.std.proofs.Common.{◌≡◌, ◌⊎◌, ℕ, ◌+◌, ◌≤◌, List, [], ◌++◌, Some, None, length, take, refl, sym, ap, subst, ◌∙◌, arith}
use Rattle.std.specs.Prelude.{Result, Ok, Err, IsErr}
use Rattle.std.specs.Option.{ForSome}
use Rattle.std.specs.declared.option.Option.{Option}
use Rattle.jack_host.specs.Bytes.{Holds, Writes, put_at}
use Rattle.file_stores.specs.Standing.{LeavesPart, Stays, with_waiting}
use Rattle.file_stores.specs.Streams.{Moves, stream_bytes}
use Rattle.file_stores.proofs.PlaceLemmas.{put-nothing, put-behind, put-again, part-of-put, all-of}

pub stays-same : (a : Option (List ℕ)) → Stays a a
stays-same None = tt
stays-same (Some xs) = refl

held-none : (old new : Option (List ℕ)) (place : ℕ) (piece : List ℕ) → Stays old new → Holds old new place (take 0 piece)
held-none None None place piece s = tt
held-none None (Some ys) place piece s = absurd s
held-none (Some xs) None place piece s = absurd s
held-none (Some xs) (Some ys) place piece s = s ∙ sym (put-nothing xs place)

pub failed-before : {T E : Type 0} (old new : Option (List ℕ)) (r : Result T E) (place : ℕ) (piece : List ℕ) → IsErr r → Stays old new → Writes old new r place piece
failed-before old new (Ok v) place piece e s = cc
failed-before old new (Err x) place piece e s = (0, omega arith, held-none old new place piece s)

-- a write that failed left a front of its piece
abbrev pub LeftFront : Option (List ℕ) → Option (List ℕ) → ℕ → List ℕ → Type 0
LeftFront stands after place piece = (k : ℕ) × (k ≤ length piece) × Holds stands after place (take k piece)

waits-told : (stands after : Option (List ℕ)) (place k : ℕ) (piece : List ℕ) → ForSome stands (λ xs. place ≤ length xs) → k ≤ length piece → Holds stands after place (take k piece)
    → Stays (with_waiting stands place piece) (with_waiting after place piece)
waits-told None None place k piece within short h = tt
waits-told None (Some ys) place k piece within short h = absurd h
waits-told (Some xs) None place k piece within short h = absurd h
waits-told (Some xs) (Some ys) place k piece within short h = ap (λ (zs : List ℕ). put_at zs place piece) h ∙ put-again xs place (within xs refl) piece k short

pub waits-on : (stands after : Option (List ℕ)) (place : ℕ) (written piece : List ℕ) → ForSome stands (λ xs. place ≤ length xs) → written ≡ piece → LeftFront stands after place written
    → Stays (with_waiting stands place piece) (with_waiting after place piece)
waits-on stands after place written piece within same left =
    let front : LeftFront stands after place piece = subst (LeftFront stands after place) same left in
    waits-told stands after place front.0 piece within front.1 front.2

part-told : (stands after : Option (List ℕ)) (place k : ℕ) (piece : List ℕ) → ForSome stands (λ xs. place ≤ length xs) → k ≤ length piece → Holds stands after place (take k piece)
    → LeavesPart stands (with_waiting stands place piece) after
part-told None None place k piece within short h = tt
part-told None (Some ys) place k piece within short h = absurd h
part-told (Some xs) None place k piece within short h = absurd h
part-told (Some xs) (Some ys) place k piece within short h = (place + k, h ∙ part-of-put xs place (within xs refl) piece k short)

pub left-part : (stands after : Option (List ℕ)) (place : ℕ) (written piece : List ℕ) → ForSome stands (λ xs. place ≤ length xs) → written ≡ piece → LeftFront stands after place written
    → LeavesPart stands (with_waiting stands place piece) after
left-part stands after place written piece within same left =
    let front : LeftFront stands after place piece = subst (LeftFront stands after place) same left in
    part-told stands after place front.0 piece within front.1 front.2

pub left-all : (stands after : Option (List ℕ)) (place : ℕ) (written piece : List ℕ) → ForSome stands (λ xs. place ≤ length xs) → written ≡ piece → Holds stands after place written
    → LeavesPart stands (with_waiting stands place piece) after
left-all stands after place written piece within same h =
    part-told stands after place (length piece) piece within (omega arith) (subst (λ (p : List ℕ). Holds stands after place p) (same ∙ sym (all-of piece)) h)

pub gathered : (stands : Option (List ℕ)) (place at : ℕ) (waits piece both : List ℕ) → ForSome stands (λ xs. place ≤ length xs) → at ≡ place + length waits → both ≡ waits ++ piece
    → Holds (with_waiting stands place waits) (with_waiting stands place both) at piece
gathered None place at waits piece both within is joined = tt
gathered (Some xs) place at waits piece both within is joined =
    ap (put_at xs place) joined ∙ sym (put-behind xs place (within xs refl) waits piece) ∙ ap (λ (n : ℕ). put_at (put_at xs place waits) n piece) (sym is)

-- where nothing waits, what stands is all
bare : (content stands : Option (List ℕ)) (place : ℕ) (waits : List ℕ) → waits ≡ [] → Stays content (with_waiting stands place waits) → Stays content stands
bare None None place waits none s = tt
bare None (Some ys) place waits none s = absurd s
bare (Some xs) None place waits none s = absurd s
bare (Some xs) (Some ys) place waits none s = sym (put-nothing ys place) ∙ ap (put_at ys place) (sym none) ∙ s

holds-bare : (content stands after : Option (List ℕ)) (place at : ℕ) (waits piece : List ℕ) → waits ≡ [] → Stays content stands → Holds stands after at piece → Holds content (with_waiting after place waits) at piece
holds-bare None None None place at waits piece none s h = tt
holds-bare None None (Some zs) place at waits piece none s h = absurd h
holds-bare None (Some ys) after place at waits piece none s h = absurd s
holds-bare (Some xs) None after place at waits piece none s h = absurd s
holds-bare (Some xs) (Some ys) None place at waits piece none s h = absurd h
holds-bare (Some xs) (Some ys) (Some zs) place at waits piece none s h =
    ap (put_at zs place) none ∙ put-nothing zs place ∙ h ∙ ap (λ (us : List ℕ). put_at us at piece) s

pub written-through : {T E : Type 0} (content stands after : Option (List ℕ)) (r : Result T E) (place at : ℕ) (waits piece : List ℕ) → waits ≡ [] → Stays content (with_waiting stands place waits) → Writes stands after r at piece
    → Writes content (with_waiting after place waits) r at piece
written-through content stands after (Ok v) place at waits piece none s w = holds-bare content stands after place at waits piece none (bare content stands place waits none s) w
written-through content stands after (Err e) place at waits piece none s w =
    (w.0, w.1, holds-bare content stands after place at waits (take w.0 piece) none (bare content stands place waits none s) w.2)

pub gathered-anew : (content stands : Option (List ℕ)) (place at : ℕ) (waits piece both : List ℕ) → waits ≡ [] → both ≡ waits ++ piece → Stays content (with_waiting stands place waits)
    → Holds content (with_waiting stands at both) at piece
gathered-anew content stands place at waits piece both none joined s = anew content stands (bare content stands place waits none s)
  where
    anew : (content stands : Option (List ℕ)) → Stays content stands → Holds content (with_waiting stands at both) at piece
    anew None None s = tt
    anew None (Some ys) s = absurd s
    anew (Some xs) None s = absurd s
    anew (Some xs) (Some ys) s = ap (λ (zs : List ℕ). put_at ys at zs) (joined ∙ ap (λ (zs : List ℕ). zs ++ piece) none) ∙ ap (λ (zs : List ℕ). put_at zs at piece) s

pub failed-part : (old new : Option (List ℕ)) (piece : List ℕ) (place : ℕ) (r : Result ℕ ℕ) → ForSome old (λ xs. place ≤ length xs) → IsErr r → Writes old new r place piece
    → LeavesPart old (with_waiting old place piece) new
failed-part old new piece place (Ok v) within e w = cc
failed-part old new piece place (Err x) within e w = part-told old new place w.0 piece within w.1 w.2

pub moved-stays : {T E : Type 0} (old new : Option (ℕ × List ℕ)) (r : Result T E) (place : ℕ) → Moves old new r place → Stays (stream_bytes old) (stream_bytes new)
moved-stays None None r place m = tt
moved-stays None (Some t) r place m = absurd m
moved-stays (Some s) None r place m = absurd m
moved-stays (Some s) (Some t) r place m = m.0

part-of-write : {T E : Type 0} (old new : Option (List ℕ)) (r : Result T E) (place : ℕ) (piece : List ℕ) → ForSome old (λ xs. place ≤ length xs) → Writes old new r place piece
    → LeavesPart old (with_waiting old place piece) new
part-of-write old new (Ok v) place piece within w = left-all old new place piece piece within refl w
part-of-write old new (Err e) place piece within w = part-told old new place w.0 piece within w.1 w.2

-- nothing was written out
pub part-none : (stands : Option (List ℕ)) (place : ℕ) (piece : List ℕ) → LeavesPart stands (with_waiting stands place piece) stands
part-none None place piece = tt
part-none (Some xs) place piece = (0, refl)

-- what stays is the same
is-same : (old new : Option (List ℕ)) → Stays old new → new ≡ old
is-same None None s = refl
is-same None (Some ys) s = absurd s
is-same (Some xs) None s = absurd s
is-same (Some xs) (Some ys) s = ap Some s

-- what waited was written out, and then the piece
pub part-through : {T E : Type 0} (content stands after : Option (List ℕ)) (r : Result T E) (place at : ℕ) (waits piece : List ℕ) → waits ≡ [] → Stays content (with_waiting stands place waits)
    → ForSome content (λ xs. at ≤ length xs) → Writes stands after r at piece → LeavesPart content (with_waiting content at piece) after
part-through content stands after r place at waits piece none s within w =
    part-of-write content after r at piece within
    (subst (λ (o : Option (List ℕ)). Writes o after r at piece) (is-same content stands (bare content stands place waits none s)) w)

content-bare : (stands : Option (List ℕ)) (place : ℕ) (waits : List ℕ) → waits ≡ [] → with_waiting stands place waits ≡ stands
content-bare None place waits none = refl
content-bare (Some xs) place waits none = ap Some (ap (put_at xs place) none ∙ put-nothing xs place)

pub stays-bare : (stands : Option (List ℕ)) (place : ℕ) (waits : List ℕ) → waits ≡ [] → Stays (with_waiting stands place waits) stands
stays-bare stands place waits none = subst (λ (o : Option (List ℕ)). Stays o stands) (sym (content-bare stands place waits none)) (stays-same stands)

-- where what waited is given up, what stands is all
pub given-up : (stands content meant after : Option (List ℕ)) (place : ℕ) (waits : List ℕ) → waits ≡ [] → LeavesPart stands content after ⊎ LeavesPart content meant after
    → LeavesPart stands content (with_waiting after place waits) ⊎ LeavesPart content meant (with_waiting after place waits)
given-up stands content meant after place waits none part =
    subst (λ (o : Option (List ℕ)). LeavesPart stands content o ⊎ LeavesPart content meant o) (sym (content-bare after place waits none)) part
