-- Lists that are all empty.
--     lists_more      one more
--     lists_small      nothing is in them
--     lists_all      those of a rehearsal
use Rattle.std.proofs.Common.{◌≡◌, ℕ, ◌+◌, ◌≤◌, List, [], ◌∷◌, ◌++◌, map, All, sym, ◌∙◌, ap, ap₂, subst, add-one, arith}
use Rattle.std.specs.List.{AllByRecursion}
use Rattle.std.proofs.lemmas.List.{map-append}
use Rattle.std.proofs.lemmas.List.Elements.{All-from_recursion}
use Rattle.jack_types.specs.declared.events.Event.{Event}
use Rattle.rehearsal_model.specs.Rehearsals.{no_events}
use Rattle.session_model.specs.Samples.{below}

abbrev no_list : List (ℕ × Event)
no_list = []

module _ {X Y : Type 0} where
  pub lists_more : (items : X → List Y) (xs : List X) (x : X) (n : ℕ) → map items xs ≡ map (λ (k : ℕ). []) (below n) → items x ≡ [] → map items (xs ++ x ∷ []) ≡ map (λ (k : ℕ). []) (below (n + 1))
  lists_more items xs x n so_far none =
      map-append items xs (x ∷ []) ∙ ap₂ (λ (a b : List (List Y)). a ++ b) so_far (ap (λ (y : List Y). y ∷ []) none)
      ∙ sym (map-append (λ (k : ℕ). []) (below n) (n ∷ [])) ∙ ap (λ m. map (λ (k : ℕ). []) (below m)) (sym (add-one n))

  each : (P : Y → Type 0) (items : X → List Y) (xs : List X) (ns : List ℕ) → map items xs ≡ map (λ (k : ℕ). []) ns → AllByRecursion (λ (x : X). All P (items x)) xs
  each P items [] ns same = tt
  each P items (x ∷ xs) [] same = absurd cc
  each P items (x ∷ xs) (n ∷ ns) same =
      let none : items x ≡ [] = cc in
      let rest : map items xs ≡ map (λ (k : ℕ). []) ns = cc in
      (subst (λ (ys : List Y). All P ys) (sym none) (All-from_recursion P [] tt), each P items xs ns rest)

  pub lists_small : (P : Y → Type 0) (items : X → List Y) (xs : List X) (ns : List ℕ) → map items xs ≡ map (λ (k : ℕ). []) ns → All (λ (x : X). All P (items x)) xs
  lists_small P items xs ns same = All-from_recursion (λ (x : X). All P (items x)) xs (each P items xs ns same)

-- sixteen of them
pub lists_all : (n : ℕ) → 16 ≤ n → n ≤ 16 → map (λ (k : ℕ). no_list) (below n) ≡ no_events
lists_all n ge le = ap (λ m. map (λ (k : ℕ). no_list) (below m)) (sixteen n ge le)
  where
    sixteen : (n : ℕ) → 16 ≤ n → n ≤ 16 → n ≡ 16
    sixteen n ge le = omega (arith, ge, le)
