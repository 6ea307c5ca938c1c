-- The first seat is split, share by share.
use Rattle.std.proofs.Common.{◌≡◌, ℕ, suc, ◌+◌, ◌-◌, ◌≤◌, List, [], ◌∷◌, ◌++◌, All, sym, ◌∙◌, ap, subst, arith}
use Rattle.std.proofs.lemmas.List.Elements.{All-append, All-cons, All-nil}
use Rattle.atomic_table.specs.Table.{Me, Splits}
use Rattle.session_laws.specs.jack_types.specs.declared.ports.Link.{Link}
use Rattle.activation.specs.declared.views.Duty.{Duty}
use Rattle.activation.specs.declared.views.View.{View}
use Rattle.activation.specs.Rule.{Rule}
use Rattle.activation.specs.Plays.{left_of, right_of, rest_of, first_of}
use Rattle.activation.specs.Contents.{from_to}
use Rattle.activation.specs.Seats.{IsIdle, new_duty}
use Rattle.activation.proofs.Parting.{parts}
use Rattle.activation.proofs.Shares.{not_again}

module _ {S B : Type 0} (full done : List Link → List B → ℕ → S → Type 0) where
  pub part_share : (id : ℕ) (me : Me S (View S B)) (links : List Link) (before : List B) (count number left : ℕ) → IsIdle me → me.0.duty ≡ new_duty links before count (from_to number left) → 2 ≤ left
      → Splits (Rule full done) id me.0 (left_of me.0) (right_of me.0)
  part_share id me links before count number left idle duty more =
      let k : ℕ = left - 2 in
      let is : left ≡ suc (suc k) = omega (arith, more) in
      parts full done id me.0 number (suc number) (from_to (suc (suc number)) k) idle.live idle.off (ap (λ d. d.shares) duty ∙ ap (from_to number) is) (not_again number (suc k)) (ap (λ d. d.held) duty) (ap (λ d. d.started) duty) (ap (λ d. d.released) duty)

  pub kept_share : (me new : Me S (View S B)) (links : List Link) (before : List B) (count number left next : ℕ) → new ≡ (left_of me.0, me.1) → IsIdle me → me.0.duty ≡ new_duty links before count (from_to number left) → left ≡ suc next
      → IsIdle new × (new.0.duty ≡ new_duty links before count (from_to (number + 1) next))
  kept_share me new links before count number left next is idle duty more = (
    record {
      live = ap (λ (m : Me S (View S B)). m.0.is_live) is ∙ idle.live;
      off = ap (λ (m : Me S (View S B)). m.0.is_still) is ∙ idle.off;
      none_out = ap (λ (m : Me S (View S B)). m.0.hand.out) is ∙ idle.none_out;
      clear = ap (λ (m : Me S (View S B)). m.1) is ∙ idle.clear;
    },
    ap (λ (m : Me S (View S B)). m.0.duty) is
        ∙ (ap (λ (d : Duty B). record d { shares = rest_of d.shares }) duty
        ∙ (λ i. new_duty links before count (rest_of (from_to number (more i)))) ∙ ap (λ n. new_duty links before count (from_to n next)) one),
  )
    where
      one : suc number ≡ number + 1
      one = omega arith

  pub given_share : (me new : Me S (View S B)) (links : List Link) (before : List B) (count number left next : ℕ) → new ≡ (right_of me.0, []) → IsIdle me → me.0.duty ≡ new_duty links before count (from_to number left) → left ≡ suc next
      → IsIdle new × (new.0.duty ≡ new_duty links before count (number ∷ []))
  given_share me new links before count number left next is idle duty more = (
    record {
      live = ap (λ (m : Me S (View S B)). m.0.is_live) is ∙ idle.live;
      off = ap (λ (m : Me S (View S B)). m.0.is_still) is ∙ idle.off;
      none_out = ap (λ (m : Me S (View S B)). m.0.hand.out) is ∙ idle.none_out;
      clear = ap (λ (m : Me S (View S B)). m.1) is;
    },
    ap (λ (m : Me S (View S B)). m.0.duty) is
        ∙ (ap (λ (d : Duty B). record d { shares = first_of d.shares ∷ [] }) duty ∙ (λ i. new_duty links before count (first_of (from_to number (more i)) ∷ []))),
  )

pub put_one : {A : Type 0} (P : A → Type 0) (xs ys : List A) (x : A) → ys ≡ xs ++ x ∷ [] → All P xs → P x → All P ys
put_one P xs ys x e all one = subst (All P) (sym e) (All-append P xs (x ∷ []) all (All-cons P x [] one (All-nil P)))
