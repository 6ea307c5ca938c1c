-- Pieces that are put one after the other.
use Rattle.std.proofs.Common.{◌≡◌, ℕ, zero, suc, ◌+◌, ◌<◌, ◌≤◌, Bool, true, false, List, [], ◌∷◌, ◌++◌, length, map, filter, flat_map, take, drop, get_or, Option, Some, None, refl, sym, ◌∙◌, ap, subst, arith, append_assoc, append-nil, true≢false}
use Rattle.std.specs.Prelude.{Result, Ok, Err}
use Rattle.std.specs.Result.{IsErr}
use Rattle.std.specs.Prelude.{min}
use Rattle.std.proofs.lemmas.List.{length-append, take_all, take_more}
use Rattle.std.proofs.lemmas.List.Concat.{flat_map-append}
use Rattle.jack_host.specs.Bytes.{Gains, Puts}
use Rattle.jack_types.specs.declared.moments.Moment.{Moment}
use Rattle.session_model.specs.Reports.{PrintedCycle}
use Rattle.report_lines.specs.Inside.{line_if}
use Rattle.report_lines.specs.Outputs.{cycles_of}

pub gains_nothing : (told : Option (List ℕ)) → Gains told told []
gains_nothing None = tt
gains_nothing (Some xs) = sym (append-nil xs)

pub gains_more : (a b c : Option (List ℕ)) (xs ys : List ℕ) → Gains a b xs → Gains b c ys → Gains a c (xs ++ ys)
gains_more None None None xs ys f g = tt
gains_more (Some os) (Some bs) (Some cs) xs ys f g = g ∙ ap (λ (b : List ℕ). b ++ ys) f ∙ append_assoc os xs ys
gains_more None (Some bs) c xs ys f g = absurd f
gains_more (Some os) None c xs ys f g = absurd f
gains_more None None (Some cs) xs ys f g = absurd g
gains_more (Some os) (Some bs) None xs ys f g = absurd g

take_behind : (xs ys zs : List ℕ) (k n : ℕ) → k ≤ length ys → n ≡ length xs + k → take n (xs ++ (ys ++ zs)) ≡ xs ++ take k ys
take_behind [] ys zs k n le e =
    let same : n ≡ k = omega (arith, e) in
    ap (λ (m : ℕ). take m (ys ++ zs)) same ∙ front ys zs k le
  where
    front : (ys zs : List ℕ) (k : ℕ) → k ≤ length ys → take k (ys ++ zs) ≡ take k ys
    front ys zs zero le = refl
    front [] zs (suc k) le = absurd (omega (arith, le))
    front (y ∷ ys) zs (suc k) le = ap (λ (t : List ℕ). y ∷ t) (front ys zs k (omega (arith, le)))
take_behind (x ∷ xs) ys zs k zero le e = absurd (omega (arith, e))
take_behind (x ∷ xs) ys zs k (suc n) le e = ap (λ (t : List ℕ). x ∷ t) (take_behind xs ys zs k n le (omega (arith, e)))

-- what failed leaves a front of the whole
pub puts_cut : {T E U F : Type 0} (r : Result T E) (whole : Result U F) (a b c : Option (List ℕ)) (xs ys zs : List ℕ)
    → Gains a b xs → Puts b c r ys → (failed : E) → r ≡ Err failed → IsErr whole → Puts a c whole (xs ++ (ys ++ zs))
puts_cut (Err e) (Err f) a b c xs ys zs before (k, few, now) failed x y = (
  length xs + k,
  omega (arith, few, length-append xs (ys ++ zs), length-append ys zs),
  subst (λ (t : List ℕ). Gains a c t) (sym (take_behind xs ys zs k (length xs + k) few refl)) (gains_more a b c xs (take k ys) before now),
)
puts_cut (Ok v) whole a b c xs ys zs before p failed x y = absurd (ok≢err x)
  where
    is_ok : {A B : Type 0} → Result A B → Bool
    is_ok (Ok a) = true
    is_ok (Err b) = false

    ok≢err : {A B : Type 0} {a : A} {b : B} → Ok a ≡ Err b → ⊥
    ok≢err e = true≢false (ap is_ok e)
puts_cut (Err e) (Ok v) a b c xs ys zs before p failed x y = absurd (true≢false (sym y))

-- a last piece behind what was put
pub puts_last : {T E : Type 0} (r : Result T E) (a b c : Option (List ℕ)) (xs ys : List ℕ) → Gains a b xs → Puts b c r ys → Puts a c r (xs ++ ys)
puts_last (Ok v) a b c xs ys before now = gains_more a b c xs ys before now
puts_last {T} {E} (Err e) a b c xs ys before now =
    subst (λ (t : List ℕ). Puts {T = T} {E = E} a c (Err e) (xs ++ t)) (append-nil ys) (puts_cut {T = T} {E = E} {U = T} {F = E} (Err e) (Err e) a b c xs ys [] before now e refl refl)

-- ---- the texts of a list

-- one item's text between those before it and those behind it
pub text-at : {X : Type 0} (text : X → List ℕ) (xs : List X) (i : ℕ) (d : X) → i < length xs
    → flat_map text xs ≡ flat_map text (take i xs) ++ (text (get_or xs i d) ++ flat_map text (drop (suc i) xs))
text-at text (x ∷ xs) zero d lt = refl
text-at text (x ∷ xs) (suc i) d lt = ap (λ (t : List ℕ). text x ++ t) (text-at text xs i d (omega (arith, lt))) ∙ sym (append_assoc (text x) (flat_map text (take i xs)) (text (get_or xs i d) ++ flat_map text (drop (suc i) xs)))
text-at text [] i d lt = absurd (omega (arith, lt))

pub text-map : {X : Type 0} (line : X → List ℕ) (xs : List X) → flat_map (λ (t : List ℕ). t) (map line xs) ≡ flat_map line xs
text-map line [] = refl
text-map line (x ∷ xs) = ap (λ (t : List ℕ). line x ++ t) (text-map line xs)

pub text-filter : {X : Type 0} (passes : X → Bool) (line : X → List ℕ) (xs : List X) → flat_map (λ (t : List ℕ). t) (map line (filter passes xs)) ≡ flat_map (λ x. line_if (passes x) (line x)) xs
text-filter passes line [] = refl
text-filter {X} passes line (x ∷ xs) = one (passes x) refl (text-filter passes line xs)
  where
    one : (b : Bool) → passes x ≡ b → flat_map (λ (t : List ℕ). t) (map line (filter passes xs)) ≡ flat_map (λ x. line_if (passes x) (line x)) xs
        → flat_map (λ (t : List ℕ). t) (map line (filter passes (x ∷ xs))) ≡ flat_map (λ x. line_if (passes x) (line x)) (x ∷ xs)
    one true e others = rw e (ap (λ (t : List ℕ). line x ++ t) others)
    one false e others = rw e others

-- what stands at a place within does not rest on the value for places past the end
pub same-at : {X : Type 0} (xs : List X) (i : ℕ) (d e : X) → i < length xs → get_or xs i d ≡ get_or xs i e
same-at (x ∷ xs) zero d e lt = refl
same-at (x ∷ xs) (suc i) d e lt = same-at xs i d e (omega (arith, lt))
same-at [] i d e lt = absurd (omega (arith, lt))

-- the loop over a list is over
pub all_put : {X : Type 0} (text : X → List ℕ) (xs : List X) (i : ℕ) (whole : List ℕ) (a b : Option (List ℕ)) → length xs ≤ i → whole ≡ flat_map text xs → Gains a b (flat_map text (take i xs)) → Gains a b whole
all_put text xs i whole a b past is before = subst (λ (t : List ℕ). Gains a b t) (ap (flat_map text) (take_all i xs past) ∙ sym is) before

-- the loop over a list ends at an item that failed
pub item_cut : {X T E U F : Type 0} (text : X → List ℕ) (xs : List X) (i : ℕ) (x : X) (whole : List ℕ) (r : Result T E) (answer : Result U F) (a b c : Option (List ℕ))
    → i < length xs → x ≡ get_or xs i x → whole ≡ flat_map text xs → Gains a b (flat_map text (take i xs)) → Puts b c r (text x) → (failed : E) → r ≡ Err failed → IsErr answer → Puts a c answer whole
item_cut {X} text xs i x whole r answer a b c lt at is before now e failed told =
    subst (λ (t : List ℕ). Puts a c answer t) (ap (λ (y : X). flat_map text (take i xs) ++ (text y ++ flat_map text (drop (suc i) xs))) at ∙ sym (text-at text xs i x lt) ∙ sym is)
    (puts_cut r answer a b c (flat_map text (take i xs)) (text x) (flat_map text (drop (suc i) xs)) before now e failed told)

pub text-mapped : {X Y : Type 0} (line : Y → List ℕ) (part : X → Y) (xs : List X) → flat_map (λ (t : List ℕ). t) (map line (map part xs)) ≡ flat_map (λ x. line (part x)) xs
text-mapped line part [] = refl
text-mapped line part (x ∷ xs) = ap (λ (t : List ℕ). line (part x) ++ t) (text-mapped line part xs)

-- a first piece, and another behind it
pub first_cut : {T E U F : Type 0} (r : Result T E) (whole : Result U F) (a b : Option (List ℕ)) (piece xs ys : List ℕ) → piece ≡ xs → Puts a b r piece → (failed : E) → r ≡ Err failed → IsErr whole → Puts a b whole (xs ++ ys)
first_cut {T} {E} r whole a b piece xs ys is now failed e told = puts_cut r whole a a b [] xs ys (gains_nothing a) (subst (λ (t : List ℕ). Puts {T = T} {E = E} a b r t) is now) failed e told

pub first_last : {T E : Type 0} (r : Result T E) (a b c : Option (List ℕ)) (piece xs ys : List ℕ) → piece ≡ xs → Gains a b piece → Puts b c r ys → Puts a c r (xs ++ ys)
first_last r a b c piece xs ys is before now = puts_last r a b c xs ys (subst (λ (t : List ℕ). Gains a b t) is before) now

-- ---- cycles

cycles-get : (numbers : List ℕ) (moments : List Moment) (i n : ℕ) (moment : Moment) (d : PrintedCycle) → i < length numbers → i < length moments
    → record { number = get_or numbers i n; moment = get_or moments i moment } ≡ get_or (cycles_of numbers moments) i d
cycles-get (m ∷ numbers) (x ∷ moments) zero n moment d a b = refl
cycles-get (m ∷ numbers) (x ∷ moments) (suc i) n moment d a b = cycles-get numbers moments i n moment d (omega (arith, a)) (omega (arith, b))
cycles-get [] moments i n moment d a b = absurd (omega (arith, a))
cycles-get (m ∷ numbers) [] i n moment d a b = absurd (omega (arith, b))

pub cycles-at : (numbers : List ℕ) (moments : List Moment) (i n : ℕ) (moment : Moment) → i < length numbers → i < length moments
    → record { number = get_or numbers i n; moment = get_or moments i moment } ≡ get_or (cycles_of numbers moments) i (record { number = get_or numbers i n; moment = get_or moments i moment })
cycles-at numbers moments i n moment a b = cycles-get numbers moments i n moment (record { number = get_or numbers i n; moment = get_or moments i moment }) a b

pub length-cycles : (numbers : List ℕ) (moments : List Moment) → length (cycles_of numbers moments) ≡ min (length numbers) (length moments)
length-cycles [] moments = omega arith
length-cycles (n ∷ numbers) [] = omega arith
length-cycles (n ∷ numbers) (x ∷ moments) =
    let others : length (cycles_of numbers moments) ≡ min (length numbers) (length moments) = length-cycles numbers moments in
    omega (arith, others)

pub text-next : {X : Type 0} (text : X → List ℕ) (xs : List X) (i : ℕ) (d : X) → i < length xs → flat_map text (take (i + 1) xs) ≡ flat_map text (take i xs) ++ text (get_or xs i d)
text-next text xs i d lt =
    ap (flat_map text) (take_more xs i d lt) ∙ flat_map-append text (take i xs) (get_or xs i d ∷ []) ∙ ap (λ (t : List ℕ). flat_map text (take i xs) ++ t) (append-nil (text (get_or xs i d)))

-- one item more of a list
pub item_put : {X : Type 0} (text : X → List ℕ) (xs : List X) (i : ℕ) (x : X) (a b c : Option (List ℕ)) → i < length xs → x ≡ get_or xs i x
    → Gains a b (flat_map text (take i xs)) → Gains b c (text x) → Gains a c (flat_map text (take (i + 1) xs))
item_put {X} text xs i x a b c lt at before now =
    subst (λ (t : List ℕ). Gains a c t) (ap (λ (y : X). flat_map text (take i xs) ++ text y) at ∙ sym (text-next text xs i x lt)) (gains_more a b c (flat_map text (take i xs)) (text x) before now)
