-- A seat that looks for every node in turn has left none behind.
--     looked_on      it looked for the next one
--     left_more      it left another one, which it did not look for yet
--     looked_all      it looked for all
use Rattle.std.proofs.Common.{◌≡◌, ℕ, ◌+◌, ◌<◌, ◌≤◌, List, [], ◌∷◌, refl, sym, ◌∙◌, ap, subst, arith, true≢false}
use mathlib.Core.Logic.{dite}
use native.Mathlib.Decide.{ℕ_discrete}
use Rattle.activation.specs.Rule.{has}
use Rattle.activation.specs.Plays.{without}
use Rattle.activation.specs.Takens.{AreBetween}
use Rattle.activation.proofs.Homing.{has_without, not_without}
use Rattle.activation.proofs.Testing.{has_here, has_skip}

pub none_between : (first limit : ℕ) (list : List ℕ) → list ≡ [] → AreBetween first limit list
none_between first limit list none n h = absurd (true≢false (sym h ∙ ap (λ (xs : List ℕ). has xs n) none))

pub looked_on : (node limit : ℕ) (list : List ℕ) → AreBetween node limit list → AreBetween (node + 1) limit (without node list)
looked_on node limit list all n h = dite (ℕ_discrete n node)
    (λ is. absurd (true≢false (sym h ∙ (ap (has (without node list)) is ∙ not_without node list))))
    (λ ne. let it = all n (sym (has_without node list n ne) ∙ h) in (omega (arith, it.0, ne), it.1))

pub left_more : (first limit node : ℕ) (list : List ℕ) → first ≤ node → node < limit → AreBetween first limit list → AreBetween first limit (node ∷ list)
left_more first limit node list low high all n h = dite (ℕ_discrete node n)
    (λ is. (subst (λ k. first ≤ k) is low, subst (λ k. k < limit) is high))
    (λ ne. all n (sym (has_skip node list n ne) ∙ h))

pub looked_all : (first limit : ℕ) (list : List ℕ) → limit ≤ first → AreBetween first limit list → list ≡ []
looked_all first limit [] end all = refl
looked_all first limit (n ∷ list) end all = let it = all n (has_here n list) in absurd (omega (arith, it.0, it.1, end))
