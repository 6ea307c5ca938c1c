-- A seat takes a slot of its own out, and gives it back.
use Rattle.std.proofs.Common.{◌≡◌, ◌≢◌, ℕ, suc, ◌+◌, ◌<◌, ◌≤◌, Bool, true, false, List, [], ◌∷◌, length, get_or, set, refl, sym, ◌∙◌, ap, subst, ⊎_elim, inl, inr, arith, true≢false}
use Rattle.std.proofs.lemmas.List.{set-get_or}
use Rattle.std.proofs.Common.{length-set}
use mathlib.Core.Logic.{dite}
use mathlib.Core.Option.{none, some}
use native.Mathlib.Decide.{ℕ_discrete}
use lib.ListN.{get_elem?}
use Rattle.atomic_table.specs.Table.{State, takes, gives, step, Allows}
use Rattle.atomic_table.proofs.Lists.{set_here, set_else}
use Rattle.session_laws.specs.jack_types.specs.declared.ports.Link.{Link}
use Rattle.session_laws.specs.session_model.specs.Activation.{Held, link_at, is_released, place_of}
use Rattle.activation.specs.declared.views.Hand.{Hand}
use Rattle.activation.specs.declared.views.View.{View}
use Rattle.activation.specs.Rule.{has, node_of, Goes, Keeps, Lies, Cycle, Rule}
use Rattle.activation.specs.Plays.{IsSlotOf, Owns, with_hand, out_after, taken, opened, filled, refilled}
use Rattle.activation.proofs.Machines.{taken_released}
use Rattle.activation.proofs.Keeping.{held_waiting, in_cycle, mine, inside, renew, slot_stays, slot_own, told_same, left_stays}
use Rattle.activation.proofs.Testing.{has_here, has_skip}

module _ {S B : Type 0} (full done : List Link → List B → ℕ → S → Type 0) where
  module _ (s : State S (View S B)) (id : ℕ) (v : View S B) (at : get_elem? s.views id ≡ some v) (live : v.is_live ≡ true) (r : Cycle full done v.duty.links v.duty.before v.duty.seats s) where
    abbrev N : ℕ
    N = length v.duty.before

    -- a slot of a held node is filled, and goes with this node
    pub slot_role : (n q : ℕ) → has v.duty.held n ≡ true → IsSlotOf v.duty.links N n q → (b : Bool) (m : ℕ) → Goes v.duty.links N r.machine q b m → (b ≡ true) × (m ≡ n)
    slot_role n q held (inl i) b m (inl g) = (g.2, g.1 ∙ sym i.1)
    slot_role n q held (inl i) b m (inr g) = absurd (omega (arith, i.0, g.2))
    slot_role n q held (inr i) b m (inl g) = absurd (omega (arith, i.2, g.0))
    slot_role n q held (inr i) b m (inr g) =
        let k = (mine full done v.duty.links v.duty.before v.duty.seats s r id v at live).holds n held in
        let off = λ (e : place_of r.machine n ≡ _). held_waiting k.0 true (sym k.2 ∙ e) in
        let low : n < length r.machine.places = omega (arith, r.size, inside full done v.duty.links v.duty.before v.duty.seats s r id v at live n off) in
        let same : i.0 ≡ g.0 = omega (arith, i.2, g.2) in
        let on : is_released r.machine g.0 ≡ true = subst (λ l. is_released r.machine l ≡ true) same (taken_released v.duty.links r.machine r.consistent n i.0 low off i.1 i.3) in
        (g.3 ∙ on, g.4 ∙ (ap (λ b. node_of v.duty.links b g.0) on ∙ (ap (λ l. (link_at v.duty.links l).to) (sym same) ∙ i.3)))

    -- whatever goes with a slot of the seat's own is held by it
    pub owned : (q : ℕ) → Owns v q → (b : Bool) (m : ℕ) → Goes v.duty.links N r.machine q b m → (seat : ℕ) × (has v.duty.shares seat ≡ true) × (place_of r.machine m ≡ Held seat true)
    owned q (inl o) b m g =
        let k = (mine full done v.duty.links v.duty.before v.duty.seats s r id v at live).holds o.0 o.1 in
        (k.0, k.1, ap (place_of r.machine) (slot_role o.0 q o.1 o.2 b m g).1 ∙ k.2)
    owned q (inr o) b m (inl g) = absurd (omega (arith, o.3.1, g.0))
    owned q (inr o) b m (inr g) =
        let knows = mine full done v.duty.links v.duty.before v.duty.seats s r id v at live in
        let k = knows.holds o.0 o.2 in
        let same : o.1 ≡ g.0 = omega (arith, o.3.1, g.2) in
        let off : is_released r.machine g.0 ≡ false = subst (λ l. is_released r.machine l ≡ false) same (knows.own_released o.1 o.3.0 (ap (has v.duty.held) o.3.2 ∙ o.2) ∙ o.4) in
        (k.0, k.1, ap (place_of r.machine) (g.4 ∙ (ap (λ b. node_of v.duty.links b g.0) off ∙ (ap (λ l. (link_at v.duty.links l).from) (sym same) ∙ o.3.2))) ∙ k.2)

    pub role : (q : ℕ) → Owns v q → (b : Bool) × (m : ℕ) × Goes v.duty.links N r.machine q b m
    role q (inl o) = ⊎_elim
        (λ (i : (q < N) × (o.0 ≡ q)). (true, q, inl (i.0, refl, refl)))
        (λ (i : (l : ℕ) × (l < length v.duty.links) × (q ≡ N + l) × ((link_at v.duty.links l).to ≡ o.0)). (is_released r.machine i.0, node_of v.duty.links (is_released r.machine i.0) i.0, inr (i.0, i.1, i.2, refl, refl)))
        o.2
    role q (inr o) = (is_released r.machine o.1, node_of v.duty.links (is_released r.machine o.1) o.1, inr (o.1, o.3.0, o.3.1, refl, refl))

    -- each slot that goes with a node is one of the table's
    pub low : (q : ℕ) (b : Bool) (m : ℕ) → Goes v.duty.links N r.machine q b m → q < N + length v.duty.links
    low q b m (inl g) = omega (arith, g.0)
    low q b m (inr g) = omega (arith, g.1, g.2)

  pub takes_out : (n id : ℕ) (v : View S B) (q : ℕ) → v.is_live ≡ true → v.is_still ≡ false → v.hand.out ≡ [] → Owns v q
      → Allows (Rule full done) n id (v, []) q (λ c. c) (taken full (step n q 0 0 none) (v, []))
  takes_out n id v q live off empty owns s rule wide at small =
      let r = in_cycle full done s id v rule at live off in
      let it = role s id v at live r q owns in
      let own = owned s id v at live r q owns it.0 it.1 it.2 in
      let none_out : (k : ℕ) → has v.hand.out k ≡ false = λ k. ap (λ (xs : List ℕ). has xs k) empty in
      let lies = subst (λ p. Lies full done v.duty.links v.duty.before s p it.0 it.1 q) own.2 (r.slots q it.0 it.1 it.2) id v at live own.1 (none_out q) in
      let w : View S B = out_after v q in
      let words = set-get_or s.words q 0 in (
        w,
        takes q lies.0,
        lies.2,
        inl (
          v.duty.links,
          v.duty.before,
          v.duty.seats,
          renew full done v.duty.links v.duty.before v.duty.seats s r id v at live w refl live off r.machine (set s.words q (get_or s.words q 0)) r.others (set s.homes q none) r.size r.consistent r.usual
              (words ∙ r.words_are) (length-set s.homes q none) (λ k h. set_else s.homes q k none (λ e. absurd (omega (arith, h, e, low s id v at live r q it.0 it.1 it.2)))) (mine full done v.duty.links v.duty.before v.duty.seats s r id v at live) (λ j u other e l. (r.each_seat j u e l).1)
              (λ k b m goes. dite (ℕ_discrete k q)
              (λ is. let mine' = owned s id v at live r k (subst (Owns v) (sym is) owns) b m goes in
              subst (λ p. Lies full done v.duty.links v.duty.before record { words = set s.words q (get_or s.words q 0); homes = set s.homes q none; views = set s.views id w } p b m k) (sym mine'.2)
              (slot_own full done v.duty.links v.duty.before v.duty.seats s r id v at live w refl live off (set s.words q (get_or s.words q 0)) (set s.homes q none) mine'.0 true b m k mine'.1
              (λ gone. absurd (true≢false (sym (ap (has (q ∷ [])) is ∙ has_here q []) ∙ gone)))))
              (λ ne. slot_stays full done v.duty.links v.duty.before v.duty.seats s r id v at live w refl live off (set s.words q (get_or s.words q 0)) (set s.homes q none) (place_of r.machine m) b m k (set_else s.homes q k none ne) (λ _. none_out k) (λ x h. h) (r.slots k b m goes)))
              (told_same full done v.duty.links v.duty.before v.duty.seats s r id v at live w refl live off r.machine refl refl (λ j h. h) (λ l h. h))
              (left_stays full done v.duty.links v.duty.before v.duty.seats s r id v at live w refl live off r.machine (set s.words q (get_or s.words q 0)) (set s.homes q none) (λ k h. ap (λ ws. get_elem? ws k) words) refl (λ j. inl refl)),
        ),
        (
          refl,
          (lies.0, refl, λ m held of node floor. let is = slot_role s id v at live r m q held of it.0 it.1 it.2 in lies.1.0 is.0 (node ∙ sym is.1) floor),
        ),
      )

  gives_back : (n id : ℕ) (v : View S B) (i q : ℕ) (x : S) (tail : List (ℕ × S)) (hand : Hand) → v.is_live ≡ true → v.is_still ≡ false → v.hand.out ≡ q ∷ [] → Owns v q
      → ((b : Bool) (m : ℕ) → q < length v.duty.before + length v.duty.links → Keeps full done v.duty.links v.duty.before record { words = []; homes = []; views = [] } hand b m q x)
      → ((k : ℕ) (b : Bool) (m : ℕ) (y : S) → k ≢ q → k < length v.duty.before + length v.duty.links → Keeps full done v.duty.links v.duty.before record { words = []; homes = []; views = [] } v.hand b m k y → Keeps full done v.duty.links v.duty.before record { words = []; homes = []; views = [] } hand b m k y)
      → Allows (Rule full done) n id (v, (q, x) ∷ tail) i (λ c. c) (λ r m'. m' ≡ (with_hand v hand, tail))
  gives_back n id v i q x tail hand live off out owns here there s rule wide at small =
      let r = in_cycle full done s id v rule at live off in
      let w : View S B = with_hand v hand in
      let words = set-get_or s.words i 0 in
      let at_role = role s id v at live r q owns in
      let within = low s id v at live r q at_role.0 at_role.1 at_role.2 in (
        w,
        gives,
        tt,
        inl (
          v.duty.links,
          v.duty.before,
          v.duty.seats,
          renew full done v.duty.links v.duty.before v.duty.seats s r id v at live w refl live off r.machine (set s.words i (get_or s.words i 0)) r.others (set s.homes q (some x)) r.size r.consistent r.usual
              (words ∙ r.words_are) (length-set s.homes q (some x)) (λ k h. set_else s.homes q k (some x) (λ e. absurd (omega (arith, h, e, within)))) (mine full done v.duty.links v.duty.before v.duty.seats s r id v at live) (λ j u other e l. (r.each_seat j u e l).1)
              (λ k b m goes. dite (ℕ_discrete k q)
              (λ is. let mine' = owned s id v at live r k (subst (Owns v) (sym is) owns) b m goes in
              subst (λ p. Lies full done v.duty.links v.duty.before record { words = set s.words i (get_or s.words i 0); homes = set s.homes q (some x); views = set s.views id w } p b m k) (sym mine'.2)
              (slot_own full done v.duty.links v.duty.before v.duty.seats s r id v at live w refl live off (set s.words i (get_or s.words i 0)) (set s.homes q (some x)) mine'.0 true b m k mine'.1
              (λ _. (x, subst (λ j. Keeps full done v.duty.links v.duty.before s hand b m j x) (sym is) (here b m within), ap (get_elem? (set s.homes q (some x))) is ∙ set_here s.homes q (some x) (omega (arith, within, r.homes_long))))))
              (λ ne. slot_stays full done v.duty.links v.duty.before v.duty.seats s r id v at live w refl live off (set s.words i (get_or s.words i 0)) (set s.homes q (some x)) (place_of r.machine m) b m k (set_else s.homes q k (some x) ne)
              (λ _. ap (λ (xs : List ℕ). has xs k) out ∙ has_skip q [] k (λ e. ne (sym e))) (λ y h. there k b m y ne (low s id v at live r k b m goes) h) (r.slots k b m goes)))
              (told_same full done v.duty.links v.duty.before v.duty.seats s r id v at live w refl live off r.machine refl refl (λ j h. h) (λ l h. h))
              (left_stays full done v.duty.links v.duty.before v.duty.seats s r id v at live w refl live off r.machine (set s.words i (get_or s.words i 0)) (set s.homes q (some x)) (λ k h. ap (λ ws. get_elem? ws k) words) refl (λ j. inl refl)),
        ),
        refl,
      )

  pub opens : (n id : ℕ) (v : View S B) (i q : ℕ) (x : S) (tail : List (ℕ × S)) → v.is_live ≡ true → v.is_still ≡ false → v.hand.out ≡ q ∷ [] → Owns v q → v.hand.floor ≤ q
      → Allows (Rule full done) n id (v, (q, x) ∷ tail) i (λ c. c) (opened (step n i 0 0 none) (v, (q, x) ∷ tail))
  opens n id v i q x tail live off out owns floor = gives_back n id v i q x tail record { out = []; node = v.hand.node; floor = suc q; ready = []; back = [] } live off out owns
      (λ b m low. ((λ _ _ le. absurd (omega (arith, le))), (λ _ h. absurd (true≢false (sym h))), (λ _ h. absurd (true≢false (sym h)))))
      (λ k b m y ne low h. ((λ on node le. h.0 on node (omega (arith, le, floor))), (λ _ h'. absurd (true≢false (sym h'))), (λ _ h'. absurd (true≢false (sym h')))))

  pub fills : (n id : ℕ) (v : View S B) (i q : ℕ) (x : S) (tail : List (ℕ × S)) → v.is_live ≡ true → v.is_still ≡ false → v.hand.out ≡ q ∷ [] → Owns v q → done v.duty.links v.duty.before q x
      → Allows (Rule full done) n id (v, (q, x) ∷ tail) i (λ c. c) (filled (step n i 0 0 none) (v, (q, x) ∷ tail))
  fills n id v i q x tail live off out owns is = gives_back n id v i q x tail record { out = []; node = v.hand.node; floor = length v.duty.before + length v.duty.links; ready = q ∷ v.hand.ready; back = [] } live off out owns
      (λ b m low. ((λ _ _ le. absurd (omega (arith, le, low))), (λ _ h. is), (λ _ h. absurd (true≢false (sym h)))))
      (λ k b m y ne low h. ((λ on node le. absurd (omega (arith, le, low))), (λ on h'. h.1 on (sym (has_skip q v.hand.ready k (λ e. ne (sym e))) ∙ h')), (λ _ h'. absurd (true≢false (sym h')))))

  pub refills : (n id : ℕ) (v : View S B) (i q : ℕ) (x : S) (tail : List (ℕ × S)) → v.is_live ≡ true → v.is_still ≡ false → v.hand.out ≡ q ∷ [] → Owns v q → full v.duty.links v.duty.before q x
      → Allows (Rule full done) n id (v, (q, x) ∷ tail) i (λ c. c) (refilled (step n i 0 0 none) (v, (q, x) ∷ tail))
  refills n id v i q x tail live off out owns is =
      gives_back n id v i q x tail record { out = []; node = v.hand.node; floor = length v.duty.before + length v.duty.links; ready = []; back = q ∷ v.hand.back } live off out owns
      (λ b m low. ((λ _ _ le. absurd (omega (arith, le, low))), (λ _ h. absurd (true≢false (sym h))), (λ _ h. is)))
      (λ k b m y ne low h. ((λ on node le. absurd (omega (arith, le, low))), (λ _ h'. absurd (true≢false (sym h'))), (λ on h'. h.2 on (sym (has_skip q v.hand.back k (λ e. ne (sym e))) ∙ h'))))
