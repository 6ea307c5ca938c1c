-- The steps of the one seat as calls make them.
use Rattle.std.proofs.Common.{◌≡◌, ℕ, suc, ◌<◌, true, List, [], ◌∷◌, ◌++◌, length, set, refl, sym, ◌∙◌, ap, subst, arith}
use Rattle.std.proofs.Math.Seq.{set-append_seam}
use mathlib.Core.Option.{none}
use Rattle.atomic_table.specs.Table.{Me, step, Allows}
use Rattle.session_laws.specs.jack_types.specs.declared.ports.Link.{Link}
use Rattle.activation.specs.declared.views.View.{View}
use Rattle.activation.specs.Rule.{has, Rule}
use Rattle.activation.specs.Plays.{lifted, laid_down, stored, unlinked, linked, entered}
use Rattle.activation.specs.Seats.{IsIdle, IsSole}
use Rattle.activation.proofs.Stilling.{lifts, lays, stores, unlinks, links_one}
use Rattle.activation.proofs.Entering.{enters}
use Rattle.activation.proofs.Shares.{has_from_to}
use Rattle.activation.specs.Contents.{from_to}

module _ {S B : Type 0} (full done : List Link → List B → ℕ → S → Type 0) where
  pub lift_alone : (n id : ℕ) (me : Me S (View S B)) (q : ℕ) → IsSole me → q < length me.0.shelf.items → Allows (Rule full done) n id me q (λ c. c) (lifted (step n q 0 0 none) me)
  lift_alone n id me q sole low = subst (λ m. Allows (Rule full done) n id m q (λ c. c) (lifted (step n q 0 0 none) m)) (λ i. (me.0, sym sole.clear i)) (lifts full done n id me.0 q sole.live sole.on sole.none_out low)

  pub lay_alone : (n id : ℕ) (me : Me S (View S B)) (v : View S B) (q : ℕ) (x : S) → me ≡ (record v { shelf = record v.shelf { out = q ∷ [] } }, (q, x) ∷ []) → v.is_live ≡ true → v.is_still ≡ true
      → Allows (Rule full done) n id me q (λ c. c) (laid_down (step n q 0 0 none) me)
  lay_alone n id me v q x is live on = subst (λ m. Allows (Rule full done) n id m q (λ c. c) (laid_down (step n q 0 0 none) m)) (sym is)
      (lays full done n id (record v { shelf = record v.shelf { out = q ∷ [] } }) q q x [] live on refl)

  pub write_alone : (n id : ℕ) (me : Me S (View S B)) (i y : ℕ) → IsSole me → Allows (Rule full done) n id me i (λ _. y) (λ _. stored (step n i y 0 none) me y)
  write_alone n id me i y sole = stores full done n id me.0 i y me.1 sole.live sole.on

  pub unlink_alone : (n id : ℕ) (me : Me S (View S B)) (i : ℕ) → IsSole me → Allows (Rule full done) n id me i (λ c. c) (unlinked (step n i 0 0 none) me)
  unlink_alone n id me i sole = unlinks full done n id me.0 i me.1 sole.live sole.on

  pub link_alone : (n id : ℕ) (me : Me S (View S B)) (i y : ℕ) → IsSole me → Allows (Rule full done) n id me i (λ _. y) (λ _. linked (step n i y 0 none) me y)
  link_alone n id me i y sole = links_one full done n id me.0 i y me.1 sole.live sole.on

  -- one seat with all shares, which holds nothing, comes to know the table
  pub enter_alone : (n id : ℕ) (me : Me S (View S B)) (i count : ℕ) → IsIdle me → me.0.duty.seats ≡ count → me.0.duty.shares ≡ from_to 0 count → me.0.duty.held ≡ [] → me.0.duty.left ≡ [] → Allows (Rule full done) n id me i (λ c. c) (entered full done (step n i 0 0 none) me)
  enter_alone n id me i count idle seats shares held looked = enters full done n id me.0 i me.1 idle.live idle.off
      (λ seat low. ap (λ (xs : List ℕ). has xs seat) shares ∙ has_from_to 0 count seat (omega arith) (omega (arith, low, seats))) held looked

-- one word more is written
pub one_more : (xs others : List ℕ) (k y : ℕ) → length xs ≡ k → 0 < length others → (rest : List ℕ) × (set (xs ++ others) k y ≡ (xs ++ y ∷ []) ++ rest) × (suc (length rest) ≡ length others)
one_more xs [] k y long room = absurd (omega (arith, room))
one_more xs (a ∷ rest) k y long room = (rest, ap (λ j. set (xs ++ a ∷ rest) j y) (sym long) ∙ (set-append_seam xs a rest y ∙ regroup xs), refl)
  where
    regroup : (zs : List ℕ) → zs ++ y ∷ rest ≡ (zs ++ y ∷ []) ++ rest
    regroup [] = refl
    regroup (z ∷ zs) = ap (λ l. z ∷ l) (regroup zs)
