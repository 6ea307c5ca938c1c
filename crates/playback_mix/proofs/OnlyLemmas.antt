-- The sound of a channel that gets no more than one.
--     IsOnly only parts      this is the only part, where there is one at all
--     only-one, only-mixed      it is one part, and is mixed as all
--     more-pass      a channel that gets more than so many
use Rattle.std.proofs.Common.{◌≡◌, ℕ, ◌+◌, ◌<◌, Bool, true, List, [], ◌∷◌, length, filter, take, drop, get_or, ℤ, Bor, Option, Some, None, true≢false, sym, ◌∙◌, ap, arith}
use Rattle.std.specs.Prelude.{MatchOption, is_some, unwrap_or}
use Rattle.std.proofs.lemmas.List.{length-append, take-append-drop}
use Rattle.std.proofs.lemmas.List.Elements.{filter-append}
use Rattle.client_benches.proofs.PartLemmas.{filter-more, take-next}
use Rattle.session_model.specs.Samples.{mix}

abbrev pub IsOnly : Option (Bor (List ℤ)) → List (List ℤ) → Type 0
IsOnly only parts = MatchOption only (parts ≡ []) (λ part. parts ≡ part.now ∷ [])

pub only-one : (only : Option (Bor (List ℤ))) (parts : List (List ℤ)) → true ≡ is_some only → IsOnly only parts → length parts ≡ 1
only-one None parts there is = absurd (true≢false there)
only-one (Some part) parts there is = ap length is

-- it is mixed as all of them; no part is mixed as one of no samples
pub only-mixed : (only : Option (Bor (List ℤ))) (parts : List (List ℤ)) (none result : Bor (List ℤ)) → none.now ≡ [] → result ≡ unwrap_or only none → IsOnly only parts
    → (frames : ℕ) → mix frames parts ≡ mix frames (result.now ∷ [])
only-mixed None parts none result empty is only frames = ap (mix frames) only ∙ ap (λ (part : List ℤ). mix frames (part ∷ [])) (sym empty) ∙ ap (λ (part : Bor (List ℤ)). mix frames (part.now ∷ [])) (sym is)
only-mixed (Some part) parts none result empty is only frames = ap (mix frames) only ∙ ap (λ (part : Bor (List ℤ)). mix frames (part.now ∷ [])) (sym is)

-- one item more passes than those before it
pub more-pass : {X : Type 0} (test : X → Bool) (xs : List X) (i n : ℕ) (d : X) → i < length xs → test (get_or xs i d) ≡ true → length (filter test (take i xs)) ≡ n → n < length (filter test xs)
more-pass {X = X} test xs i n d low on before =
    omega (
      arith,
      before,
      length-append (filter test (take i xs)) (get_or xs i d ∷ []),
      ap length (filter-more test (take i xs) (get_or xs i d) on),
      ap (λ (ys : List X). length (filter test ys)) (take-next xs i d low),
      ap length (ap (filter test) (sym (take-append-drop (i + 1) xs)) ∙ filter-append test (take (i + 1) xs) (drop (i + 1) xs)),
      length-append (filter test (take (i + 1) xs)) (filter test (drop (i + 1) xs)),
    )
