-- The steps of a seat as the calls of a crew make them.
use Rattle.std.proofs.Common.{◌≡◌, ℕ, ◌+◌, ◌<◌, ◌≤◌, ◌%◌, ◌^◌, ◌-◌, true, false, List, [], ◌∷◌, length, All, sym, refl, subst}
use mathlib.Core.Option.{none}
use Rattle.atomic_table.specs.Table.{Me, step, Allows}
use Rattle.session_laws.specs.jack_types.specs.declared.ports.Link.{Link}
use Rattle.session_laws.specs.session_model.specs.Activation.{link_at, outgoing}
use Rattle.activation.specs.declared.views.View.{View}
use Rattle.activation.specs.Rule.{has, Rule}
use Rattle.activation.specs.Plays.{Owns, out_after, taken, opened, filled, refilled, started_by, released_by, came_home, left_node, picked}
use Rattle.activation.specs.Seats.{IsIdle}
use Rattle.activation.proofs.Lending.{takes_out, opens, fills, refills}
use Rattle.activation.proofs.Falling.{starts_node, releases_link}
use Rattle.activation.proofs.Homing.{comes_home}
use Rattle.activation.proofs.Picking.{leaves_node, picks_node}

-- the value in front of a list, or another
pub front_or : {S : Type 0} → List (ℕ × S) → S → S
front_or [] d = d
front_or (x ∷ _) d = x.1

pub same_front : {S : Type 0} (k j : ℕ) (x y : S) (xs ys : List (ℕ × S)) → (k, x) ∷ xs ≡ (j, y) ∷ ys → x ≡ y
unfolding front_or
same_front {S} k j x y xs ys e i = front_or (e i) x

module _ {S B : Type 0} (full done : List Link → List B → ℕ → S → Type 0) where
  pub take_from : (n id : ℕ) (me : Me S (View S B)) (q : ℕ) → IsIdle me → Owns me.0 q → Allows (Rule full done) n id me q (λ c. c) (taken full (step n q 0 0 none) me)
  take_from n id me q idle owns = subst (λ m. Allows (Rule full done) n id m q (λ c. c) (taken full (step n q 0 0 none) m)) (λ i. (me.0, sym idle.clear i)) (takes_out full done n id me.0 q idle.live idle.off idle.none_out owns)

  pub open_from : (n id : ℕ) (me : Me S (View S B)) (v : View S B) (q : ℕ) (x : S) → me ≡ (out_after v q, (q, x) ∷ []) → v.is_live ≡ true → v.is_still ≡ false → Owns v q → v.hand.floor ≤ q
      → Allows (Rule full done) n id me q (λ c. c) (opened (step n q 0 0 none) me)
  open_from n id me v q x is live off owns floor = subst (λ m. Allows (Rule full done) n id m q (λ c. c) (opened (step n q 0 0 none) m)) (sym is) (opens full done n id (out_after v q) q q x [] live off refl owns floor)

  pub fill_from : (n id : ℕ) (me : Me S (View S B)) (v : View S B) (q : ℕ) (x : S) → me ≡ (out_after v q, (q, x) ∷ []) → v.is_live ≡ true → v.is_still ≡ false → Owns v q → done v.duty.links v.duty.before q x
      → Allows (Rule full done) n id me q (λ c. c) (filled (step n q 0 0 none) me)
  fill_from n id me v q x is live off owns it = subst (λ m. Allows (Rule full done) n id m q (λ c. c) (filled (step n q 0 0 none) m)) (sym is) (fills full done n id (out_after v q) q q x [] live off refl owns it)

  pub refill_from : (n id : ℕ) (me : Me S (View S B)) (v : View S B) (q : ℕ) (x : S) → me ≡ (out_after v q, (q, x) ∷ []) → v.is_live ≡ true → v.is_still ≡ false → Owns v q → full v.duty.links v.duty.before q x
      → Allows (Rule full done) n id me q (λ c. c) (refilled (step n q 0 0 none) me)
  refill_from n id me v q x is live off owns it = subst (λ m. Allows (Rule full done) n id m q (λ c. c) (refilled (step n q 0 0 none) m)) (sym is) (refills full done n id (out_after v q) q q x [] live off refl owns it)

  pub start_from : (n id : ℕ) (me : Me S (View S B)) (t a seats : ℕ) → IsIdle me → me.0.duty.shares ≡ a ∷ [] → a < seats → me.0.duty.seats ≡ seats → t % seats ≡ a → t < length me.0.duty.before → has me.0.duty.started t ≡ false
      → Allows (Rule full done) n id me t (λ x. (x + (2 ^ 64 - 1)) % 2 ^ 64) (started_by (step n t 1 0 none) me)
  start_from n id me t a seats idle shares few same share near unstarted =
      starts_node full done n id me.0 t a me.1 idle.live idle.off shares (subst (λ k. a < k) (sym same) few) (subst (λ k. t % k ≡ a) (sym same) share) near unstarted idle.none_out

  pub release_from : (n id : ℕ) (me : Me S (View S B)) (v : View S B) (t a l seats : ℕ) (x : S) → me ≡ (out_after v (length v.duty.before + l), (length v.duty.before + l, x) ∷ []) → v.is_live ≡ true → v.is_still ≡ false
      → v.duty.shares ≡ a ∷ [] → a < seats → v.duty.seats ≡ seats → l < length v.duty.links → (link_at v.duty.links l).to ≡ t → has v.duty.held (link_at v.duty.links l).from ≡ true → has v.duty.released l ≡ false
      → full v.duty.links v.duty.before (length v.duty.before + l) x
      → Allows (Rule full done) n id me t (λ y. (y + (2 ^ 64 - 1)) % 2 ^ 64) (released_by (step n t 1 0 none) me)
  release_from n id me v t a l seats x is live off shares few same within to held unreleased filled =
      subst (λ m. Allows (Rule full done) n id m t (λ y. (y + (2 ^ 64 - 1)) % 2 ^ 64) (released_by (step n t 1 0 none) m)) (sym is)
      (releases_link full done n id (out_after v (length v.duty.before + l)) t a l x [] live off shares (subst (λ k. a < k) (sym same) few) within to held unreleased refl filled)

  pub home_from : (n id : ℕ) (me : Me S (View S B)) (i t a : ℕ) (more : List ℕ) → IsIdle me → me.0.duty.shares ≡ a ∷ [] → me.0.hand.ready ≡ t ∷ more → has me.0.duty.held t ≡ true → length me.0.duty.before ≤ i → i < length me.0.duty.before + 513
      → ((l : ℕ) → l < length me.0.duty.links → (link_at me.0.duty.links l).to ≡ t → has me.0.hand.ready (length me.0.duty.before + l) ≡ true)
      → All (λ l. has me.0.duty.released l ≡ true) (outgoing me.0.duty.links t)
      → Allows (Rule full done) n id me i (λ x. (x + (2 ^ 64 - 1)) % 2 ^ 64) (came_home (step n i 1 0 none) me)
  home_from n id me i t a more idle shares ready held past short filled out = comes_home full done n id me.0 i t a more me.1 idle.live idle.off shares idle.none_out ready held past short filled out

  pub leave_from : (n id : ℕ) (me : Me S (View S B)) (i t a : ℕ) (more : List ℕ) → IsIdle me → me.0.duty.shares ≡ a ∷ [] → me.0.hand.back ≡ t ∷ more → has me.0.duty.held t ≡ true → i ≡ length me.0.duty.before + 513 + t
      → ((l : ℕ) → l < length me.0.duty.links → (link_at me.0.duty.links l).to ≡ t → has me.0.hand.back (length me.0.duty.before + l) ≡ true)
      → ((l : ℕ) → l < length me.0.duty.links → (link_at me.0.duty.links l).from ≡ t → has me.0.duty.released l ≡ false)
      → Allows (Rule full done) n id me i (λ _. 1) (λ _. left_node (step n i 1 0 none) me 1)
  leave_from n id me i t a more idle shares back held word filled unreleased = leaves_node full done n id me.0 i t a more me.1 idle.live idle.off shares idle.none_out back held word filled unreleased

  pub pick_from : (n id : ℕ) (me : Me S (View S B)) (i t a seats : ℕ) → IsIdle me → me.0.duty.shares ≡ a ∷ [] → a < seats → me.0.duty.seats ≡ seats → t < length me.0.duty.before → i ≡ length me.0.duty.before + 513 + t
      → Allows (Rule full done) n id me i (λ _. 0) (picked (step n i 0 0 none) me)
  pick_from n id me i t a seats idle shares few same near word = picks_node full done n id me.0 i t a me.1 idle.live idle.off shares (subst (λ k. a < k) (sym same) few) near word idle.none_out
