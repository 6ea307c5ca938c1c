-- Who has passes, and who holds the thing.
--     alone      beside a seat that has all passes no other has one
--     not_out      and the thing is not out with another
--     not_holder      who holds the thing is another seat
use Rattle.std.proofs.Common.{◌≡◌, ◌≢◌, ℕ, ◌<◌, true, false, sym, ap, ◌∙◌, arith}
use Rattle.std.specs.Prelude.{Option}
use mathlib.Core.Logic.{dite}
use mathlib.Core.Option.{some, some-injective}
use native.Mathlib.Decide.{ℕ_discrete}
use lib.ListN.{get_elem?}
use Rattle.atomic_table.specs.Table.{State}
use Rattle.turn_word.specs.declared.view.Known.{Known}
use Rattle.turn_word.specs.Rule.{TurnRule}

module _ {T : Type 0} (goes_on : T → T → Type 0) (z : ℕ) where
  abbrev Rule : State (Option T) (Known T) → Type 0
  Rule = TurnRule goes_on z

  -- the seat has all passes
  abbrev pub IsWhole : Known T → Type 0
  IsWhole v = (v.from ≡ 0) × (v.to ≡ z) × (0 < z)

  -- no other seat has one
  pub alone : (s : State (Option T) (Known T)) (r : Rule s) (id : ℕ) (v : Known T) → get_elem? s.views id ≡ some v → IsWhole v
      → (j : ℕ) (u : Known T) → j ≢ id → get_elem? s.views j ≡ some u → u.from < u.to → ⊥
  alone s r id v at whole j u other e live =
      let k = r.each j u e in let low = k.within in let first = whole.0 in let last = whole.1 in
      other (k.owns u.from (omega arith) live ∙ sym ((r.each id v at).owns u.from (omega arith) (omega arith)))

  -- so the thing is not out, where this one does not hold it
  pub not_out : (s : State (Option T) (Known T)) (r : Rule s) (id : ℕ) (v : Known T) → get_elem? s.views id ≡ some v → IsWhole v → v.holds ≡ false → r.word ≡ 2 → ⊥
  not_out s r id v at whole free two =
      let h = r.out two in let live = ((r.each r.holder h.0 h.1).held h.2).0 in
      dite (ℕ_discrete r.holder id)
      (λ (is : r.holder ≡ id). let same : h.0 ≡ v = some-injective h.0 v (sym h.1 ∙ ap (get_elem? s.views) is ∙ at) in
      let no : true ≡ false = sym h.2 ∙ ap (λ (u : Known T). u.holds) same ∙ free in cc)
      (λ not. alone s r id v at whole r.holder h.0 not h.1 live)

  -- who holds the thing is another seat
  pub not_holder : (s : State (Option T) (Known T)) (r : Rule s) (id : ℕ) (v : Known T) → get_elem? s.views id ≡ some v → v.holds ≡ false → r.word ≡ 2 → r.holder ≢ id
  not_holder s r id v at free two is =
      let h = r.out two in let same : h.0 ≡ v = some-injective h.0 v (sym h.1 ∙ ap (get_elem? s.views) is ∙ at) in
      let no : true ≡ false = sym h.2 ∙ ap (λ (u : Known T). u.holds) same ∙ free in cc
