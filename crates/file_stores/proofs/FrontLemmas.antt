-- What stands of a file of which only bytes at the end wait.
--     front-of-part      a part between a front of a file and the file
--     stays-front, appended-front, same-front      what stands is a front still
--     appended-end, patched-end      where the file ends
use Rattle.std.proofs.Common.{◌≡◌, ◌⊎◌, ℕ, zero, suc, ◌+◌, ◌≤◌, List, [], ◌∷◌, ◌++◌, append-nil, Some, None, inl, inr, length, take, drop, refl, sym, ap, subst, ◌∙◌, arith, max}
use Rattle.std.proofs.lemmas.Grind.{common_steps}
use Rattle.std.specs.Prelude.{⊤, IsSomeAnd}
use Rattle.std.specs.Option.{ForSome}
use Rattle.std.specs.declared.option.Option.{Option}
use Rattle.jack_host.specs.Bytes.{Holds, put_at}
use Rattle.file_stores.specs.Standing.{IsPart, LeavesFront, LeavesPart, Stays, StaysOrHolds, with_waiting}
use Rattle.jack_host.specs.Files.{IsFrontOf}
use Rattle.jack_host.specs.Told.{BothTold}
use Rattle.file_stores.proofs.PlaceLemmas.{all-of}

abbrev pub HasFronts : Option (List ℕ) → Option (List ℕ) → Type 0
HasFronts content stands = ForSome content (λ ys. ForSome stands (λ xs. IsFrontOf (Some ys) xs))

-- a content is told where what stands is
abbrev pub ContentTold : Option (List ℕ) → Option (List ℕ) → Type 0
ContentTold content stands = BothTold content stands (λ ys xs. ⊤)

pub content-told : (stands : Option (List ℕ)) (place : ℕ) (waits : List ℕ) → ContentTold (with_waiting stands place waits) stands
content-told None place waits = tt
content-told (Some xs) place waits = tt

-- so many first bytes are a front
front-taken : (n : ℕ) (ys : List ℕ) → IsFrontOf (Some ys) (take n ys)
front-taken zero ys = refl
front-taken (suc n) [] = refl
front-taken (suc n) (y ∷ ys) = ap (λ (zs : List ℕ). y ∷ zs) (front-taken n ys)

-- a front in front of the rest of another is a front
joined-fronts : (m a : ℕ) (ys : List ℕ) → (n : ℕ) × (take m ys ++ drop m (take a ys) ≡ take n ys)
joined-fronts zero a ys = (a, refl)
joined-fronts (suc m) zero ys = (suc m, append-nil (take (suc m) ys))
joined-fronts (suc m) (suc a) [] = (0, refl)
joined-fronts (suc m) (suc a) (y ∷ ys) = let rest = joined-fronts m a ys in (suc rest.0, ap (λ (zs : List ℕ). y ∷ zs) rest.1)

pub front-of-part : (xs ys zs : List ℕ) → IsFrontOf (Some ys) xs → IsPart xs ys zs → IsFrontOf (Some ys) zs
front-of-part xs ys zs front part =
    let joined = joined-fronts part.0 (length xs) ys in
    subst (IsFrontOf (Some ys)) (sym (part.1 ∙ ap (λ (bytes : List ℕ). take part.0 ys ++ drop part.0 bytes) front ∙ joined.1)) (front-taken joined.0 ys)

front-longer : (xs ys piece : List ℕ) (place : ℕ) → length ys ≡ place → IsFrontOf (Some ys) xs → IsFrontOf (Some (put_at ys place piece)) xs
front-longer xs ys piece place end front = grind (arith, common_steps)

-- what was told is what is told
told-same : (old new : Option (List ℕ)) (ys : List ℕ) → Stays old new → new ≡ Some ys → old ≡ Some ys
told-same None None ys s e = e
told-same None (Some zs) ys s e = absurd s
told-same (Some xs) None ys s e = absurd s
told-same (Some xs) (Some zs) ys s e = ap Some (sym s) ∙ e

told-held : (old new : Option (List ℕ)) (place : ℕ) (piece ys : List ℕ) → Holds old new place piece → new ≡ Some ys → (xs : List ℕ) × (old ≡ Some xs) × (ys ≡ put_at xs place piece)
told-held None None place piece ys h e = cc
told-held None (Some zs) place piece ys h e = absurd h
told-held (Some xs) None place piece ys h e = absurd h
told-held (Some xs) (Some zs) place piece ys h e = let same : zs ≡ ys = cc in (xs, refl, sym same ∙ h)

told-part : (stands content after : Option (List ℕ)) (ys zs : List ℕ) → content ≡ Some ys → after ≡ Some zs → LeavesPart stands content after → (xs : List ℕ) × (stands ≡ Some xs) × IsPart xs ys zs
told-part None content None ys zs e d p = cc
told-part None content (Some z) ys zs e d p = absurd p
told-part (Some x) content None ys zs e d p = absurd p
told-part (Some x) None (Some z) ys zs e d p = cc
told-part (Some x) (Some y) (Some z) ys zs e d p =
    let same : y ≡ ys = cc in
    let left : z ≡ zs = cc in
    (x, refl, subst (λ (b : List ℕ). IsPart x ys b) left (subst (λ (b : List ℕ). IsPart x b z) same p))

-- the content stayed, and what stands is a part of it
pub stays-front : (stands content after content_after : Option (List ℕ)) → HasFronts content stands → LeavesPart stands content after → Stays content content_after → HasFronts content_after after
stays-front stands content after content_after front part same = λ ys e zs d.
    let was : content ≡ Some ys = told-same content content_after ys same e in
    let found : (xs : List ℕ) × (stands ≡ Some xs) × IsPart xs ys zs = told-part stands content after ys zs was d part in
    front-of-part found.0 ys zs (front ys was found.0 found.1) found.2

held-front : (stands content after content_after : Option (List ℕ)) (place : ℕ) (piece : List ℕ) → ForSome content (λ ys. length ys ≡ place) → HasFronts content stands → LeavesPart stands content after
    → Holds content content_after place piece → HasFronts content_after after
held-front stands content after content_after place piece end front part held = λ ys e zs d.
    let was : (ys₀ : List ℕ) × (content ≡ Some ys₀) × (ys ≡ put_at ys₀ place piece) = told-held content content_after place piece ys held e in
    let found : (xs : List ℕ) × (stands ≡ Some xs) × IsPart xs was.0 zs = told-part stands content after was.0 zs was.1 d part in
    subst (λ (whole : List ℕ). IsFrontOf (Some whole) zs) (sym was.2)
    (front-longer zs was.0 piece place (end was.0 was.1) (front-of-part found.0 was.0 zs (front was.0 was.1 found.0 found.1) found.2))

pub same-front : (content stands : Option (List ℕ)) → Stays content stands → HasFronts content stands
same-front content stands same = λ ys e zs d.
    let is : content ≡ Some zs = told-same content stands zs same d in
    let both : zs ≡ ys = cc in
    subst (λ (whole : List ℕ). IsFrontOf (Some whole) zs) both (sym (all-of zs))

pub appended-front : (stands content after content_after : Option (List ℕ)) (place : ℕ) (piece : List ℕ) → ForSome content (λ ys. length ys ≡ place) → HasFronts content stands
    → (LeavesPart stands content after × StaysOrHolds content content_after place piece) ⊎ Stays content_after after → HasFronts content_after after
appended-front stands content after content_after place piece end front (inl (part, inl same)) = stays-front stands content after content_after front part same
appended-front stands content after content_after place piece end front (inl (part, inr held)) = held-front stands content after content_after place piece end front part held
appended-front stands content after content_after place piece end front (inr same) = same-front content_after after same

pub appended-end : (content content_after : Option (List ℕ)) (end : Option ℕ) (place more : ℕ) (piece : List ℕ) → ForSome content (λ ys. length ys ≡ place) → more ≡ length piece → ForSome end (λ n. n ≡ place + more)
    → Holds content content_after place piece → ForSome end (λ n. ForSome content_after (λ ys. length ys ≡ n))
appended-end content content_after end place more piece long is reached held = λ n e ys d.
    let was : (ys₀ : List ℕ) × (content ≡ Some ys₀) × (ys ≡ put_at ys₀ place piece) = told-held content content_after place piece ys held d in
    let before : length was.0 ≡ place = long was.0 was.1 in
    let now : length (put_at was.0 place piece) ≡ place + length piece = put-length was.0 piece place before in
    ap length was.2 ∙ now ∙ ap (λ (k : ℕ). place + k) (sym is) ∙ sym (reached n e)
  where
    put-length : (xs piece : List ℕ) (place : ℕ) → length xs ≡ place → length (put_at xs place piece) ≡ place + length piece
    put-length xs piece place e = grind (arith, common_steps)

pub patched-end : (content mid content_after : Option (List ℕ)) (old end : Option ℕ) (place more : ℕ) (piece : List ℕ) → ForSome old (λ n. ForSome content (λ ys. length ys ≡ n)) → ForSome content (λ ys. place ≤ length ys)
    → Stays content mid → more ≡ length piece → ForSome end (λ n. IsSomeAnd old (λ m. n ≡ max m (place + more))) → Holds mid content_after place piece
    → ForSome end (λ n. ForSome content_after (λ ys. length ys ≡ n))
patched-end content mid content_after None end place more piece ends within same is reached held = λ n e ys d. absurd (reached n e)
patched-end content mid content_after (Some m) end place more piece ends within same is reached held = λ n e ys d.
    let was : (ys₀ : List ℕ) × (mid ≡ Some ys₀) × (ys ≡ put_at ys₀ place piece) = told-held mid content_after place piece ys held d in
    let told : content ≡ Some was.0 = told-same content mid was.0 same was.1 in
    let before : length was.0 ≡ m = ends m refl was.0 told in
    ap length was.2 ∙ put-length was.0 piece place m before (within was.0 told) ∙ ap (λ (k : ℕ). max m (place + k)) (sym is) ∙ sym (reached n e)
  where
    put-length : (xs piece : List ℕ) (place m : ℕ) → length xs ≡ m → place ≤ length xs → length (put_at xs place piece) ≡ max m (place + length piece)
    put-length xs piece place m e within = grind (arith, common_steps)

-- what is handed back is a front of the file, or all that stood before
pub handed-front : (content stands left : Option (List ℕ)) (old : Type 0) → HasFronts content stands → LeavesPart stands content left ⊎ old → (ContentTold content stands) → LeavesFront content left ⊎ old
handed-front content stands left old front (inr kept) told = inr kept
handed-front content stands left old front (inl part) told = inl (leaves content stands left front part told)
  where
    leaves : (content stands left : Option (List ℕ)) → HasFronts content stands → LeavesPart stands content left → ContentTold content stands → LeavesFront content left
    leaves None None None f p told = tt
    leaves None None (Some z) f p told = absurd p
    leaves None (Some x) left f p told = absurd told
    leaves (Some y) None left f p told = absurd told
    leaves (Some y) (Some x) None f p told = absurd p
    leaves (Some y) (Some x) (Some z) f p told = front-of-part x y z (f y refl x refl) p

pub no-end : (end : Option ℕ) (P : ℕ → Type 0) → end ≡ None → ForSome end P
no-end end P none = λ n e. let impossible : None ≡ Some n = sym none ∙ e in cc
