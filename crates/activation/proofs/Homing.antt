-- The decrement that sends a node home keeps the rule, and so do the split and the join of seats that hold nothing.
use Rattle.std.proofs.Common.{◌≡◌, ◌≢◌, ℕ, ◌+◌, ◌-◌, ◌%◌, ◌^◌, ◌<◌, ◌≤◌, Bool, true, false, cond, ◌==◌, List, [], ◌∷◌, length, get_or, set, All, refl, sym, ◌∙◌, ap, subst, inl, inr, arith, true≢false, eq-eqb, eqb-true, length-set, get_or-set_same, get_or-set_other}
use mathlib.Core.Logic.{dite}
use mathlib.Core.Option.{none, some}
use native.Mathlib.Decide.{ℕ_discrete}
use lib.ListN.{get_elem?}
use Rattle.atomic_table.specs.Table.{State, keeps, step, Allows}
use Rattle.atomic_table.proofs.Lists.{set_else}
use Rattle.session_laws.specs.jack_types.specs.declared.ports.Link.{Link}
use Rattle.session_laws.specs.session_model.specs.Activation.{Place, Waiting, Held, AtHome, Machine, HomeNode, link_at, outgoing, is_released, place_of}
use Rattle.session_laws.proofs.ActivationLemmas.{IsConsistent-moved}
use Rattle.activation.specs.declared.views.Hand.{Hand}
use Rattle.activation.specs.declared.views.View.{View}
use Rattle.activation.specs.Rule.{has, IsUsual, left_word, node_of, Goes, Keeps, Lies, Rule}
use Rattle.activation.specs.Plays.{without, first_of, home_after, came_home}
use Rattle.activation.proofs.Keeping.{same_seat, held_waiting, held_home, set_behind, in_cycle, mine, inside, renew, slot_stays, others_know, told_same, left_stays}
use Rattle.activation.proofs.Testing.{has_here, has_skip}

-- what is left when n is taken out of a list
pub has_without : (n : ℕ) (xs : List ℕ) (q : ℕ) → q ≢ n → has (without n xs) q ≡ has xs q
has_without n [] q ne = refl
has_without n (x ∷ xs) q ne = pick (x == n) refl (has_without n xs q ne)
  where
    pick : (b : Bool) → (x == n) ≡ b → has (without n xs) q ≡ has xs q → has (cond b (without n xs) (x ∷ without n xs)) q ≡ has (x ∷ xs) q
    pick true e h = h ∙ sym (has_skip x xs q (λ s. ne (sym s ∙ eqb-true x n e)))
    pick false e h = ap (λ (b : Bool). cond (x == q) true b) h

pub not_without : (n : ℕ) (xs : List ℕ) → has (without n xs) n ≡ false
not_without n [] = refl
not_without n (x ∷ xs) = pick (x == n) refl (not_without n xs)
  where
    pick : (b : Bool) → (x == n) ≡ b → has (without n xs) n ≡ false → has (cond b (without n xs) (x ∷ without n xs)) n ≡ false
    pick true e h = h
    pick false e h = has_skip x (without n xs) n (λ s. true≢false (sym (eq-eqb x n s) ∙ e)) ∙ h

-- a list that begins with t and has the slot of each link into t has every filled slot that goes with t
pub slots_at : (links : List Link) (nodes : ℕ) (m : Machine) (list more : List ℕ) (t : ℕ) → list ≡ t ∷ more → ((l : ℕ) → l < length links → (link_at links l).to ≡ t → has list (nodes + l) ≡ true)
    → (q : ℕ) (b : Bool) (j : ℕ) → Goes links nodes m q b j → b ≡ true → j ≡ t → has list q ≡ true
slots_at links nodes m list more t is filled q b j (inl g) on e = ap (has list) (sym g.1 ∙ e) ∙ (ap (λ (xs : List ℕ). has xs t) is ∙ has_here t more)
slots_at links nodes m list more t is filled q b j (inr g) on e =
    let lit : is_released m g.0 ≡ true = sym g.3 ∙ on in
    ap (has list) g.2 ∙ filled g.0 g.1 (ap (λ z. node_of links z g.0) (sym lit) ∙ (sym g.4 ∙ e))

module _ {S B : Type 0} (full done : List Link → List B → ℕ → S → Type 0) where
  laid_down : (links : List Link) (before : List B) (s : State S (View S B)) (ws : List ℕ) (vs : List (View S B)) (hand : Hand) (b : Bool) (j q : ℕ) → (b ≡ true → has hand.ready q ≡ true)
      → (x : S) × Keeps full done links before s hand b j q x × (get_elem? s.homes q ≡ some (some x)) → Lies full done links before record { words = ws; homes = s.homes; views = vs } AtHome b j q
  laid_down links before s ws vs hand true j q ready h = (h.0, h.1.1 refl (ready refl), h.2)
  laid_down links before s ws vs hand false j q ready h = tt

  pub comes_home : (n id : ℕ) (v : View S B) (i t a : ℕ) (more : List ℕ) (tail : List (ℕ × S)) → v.is_live ≡ true → v.is_still ≡ false → v.duty.shares ≡ a ∷ [] → v.hand.out ≡ [] → v.hand.ready ≡ t ∷ more
      → has v.duty.held t ≡ true → length v.duty.before ≤ i → i < length v.duty.before + 513
      → ((l : ℕ) → l < length v.duty.links → (link_at v.duty.links l).to ≡ t → has v.hand.ready (length v.duty.before + l) ≡ true)
      → All (λ l. has v.duty.released l ≡ true) (outgoing v.duty.links t)
      → Allows (Rule full done) n id (v, tail) i (λ x. (x + (2 ^ 64 - 1)) % 2 ^ 64) (came_home (step n i 1 0 none) (v, tail))
  comes_home n id v i t a more tail live off shares empty ready holds past short filled out s rule wide at small =
      let r = in_cycle full done s id v rule at live off in
      let m : Machine = r.machine in
      let links : List Link = v.duty.links in
      let N : ℕ = length v.duty.before in
      let k = mine full done links v.duty.before v.duty.seats s r id v at live in
      let here : has v.duty.shares a ≡ true = ap (λ (xs : List ℕ). has xs a) shares ∙ has_here a [] in
      let source = k.holds t holds in
      let held : place_of m t ≡ Held a true = source.2 ∙ ap (λ j. Held j true) (only v a source.0 shares source.1) in
      let near : t < N = inside full done links v.duty.before v.duty.seats s r id v at live t (λ e. held_waiting a true (sym held ∙ e)) in
      let low : t < length m.places = omega (arith, near, r.size) in
      let places : List Place = set m.places t AtHome in
      let machine : Machine = record m { places = places } in
      let placed : get_or places t Waiting ≡ AtHome = get_or-set_same m.places t AtHome Waiting low in
      let elsewhere : (j : ℕ) → j ≢ t → get_or places j Waiting ≡ place_of m j = λ j ne. get_or-set_other m.places t j AtHome Waiting ne in
      let all_out : All (λ l. is_released m l ≡ true) (outgoing links t) = λ j d b. k.all_released (get_or (outgoing links t) j d) (out j d b) in
      let y : ℕ = (get_or s.words i 0 + 18446744073709551615) % 18446744073709551616 in
      let words = set_behind m.counters r.others i y (omega (arith, past, r.size, r.consistent.counters)) in
      let t' : ℕ = first_of v.hand.ready in
      let is_t : t' ≡ t = ap first_of ready in
      let w : View S B = home_after v t in
      let st : State S (View S B) = record { words = set s.words i y; homes = s.homes; views = set s.views id w } in
      let none_out : (q : ℕ) → has v.hand.out q ≡ false = λ q. ap (λ (xs : List ℕ). has xs q) empty in (
        home_after v t',
        keeps,
        tt,
        subst (λ (j : ℕ). Rule full done record { words = set s.words i y; homes = s.homes; views = set s.views id (home_after v j) }) (sym is_t) (inl (
          links,
          v.duty.before,
          v.duty.seats,
          renew full done links v.duty.before v.duty.seats s r id v at live w refl live off machine (set s.words i y) words.0 s.homes (length-set m.places t AtHome ∙ r.size)
              (IsConsistent-moved links N r.are v.duty.seats m (HomeNode a t) r.size r.consistent (held, all_out))
              (λ j. dite (ℕ_discrete j t)
              (λ e. subst (IsUsual v.duty.seats) (sym (ap (λ z. get_or places z Waiting) e ∙ placed)) tt)
              (λ ne. subst (IsUsual v.duty.seats) (sym (elsewhere j ne)) (r.usual j)))
              (ap (λ (ws : List ℕ). set ws i y) r.words_are ∙ words.1) refl (λ q h. refl)
              record {
                same_links = refl;
                same_before = refl;
                same_seats = refl;
                within = k.within;
                some_share = k.some_share;
                holds = λ q h. let ne : q ≢ t = λ e. true≢false (sym h ∙ (ap (has (without t v.duty.held)) e ∙ not_without t v.duty.held)) in
                    let x = k.holds q (sym (has_without t v.duty.held q ne) ∙ h) in (x.0, x.1, elsewhere q ne ∙ x.2);
                all_held = λ q seat sh e. dite (ℕ_discrete q t)
                    (λ is. absurd (held_home seat true (sym e ∙ (ap (λ z. get_or places z Waiting) is ∙ placed))))
                    (λ ne. has_without t v.duty.held q ne ∙ k.all_held q seat sh (sym (elsewhere q ne) ∙ e));
                own_started = k.own_started;
                own_released = λ l within h. let ne : (link_at links l).from ≢ t = λ e. true≢false (sym h ∙ (ap (has (without t v.duty.held)) e ∙ not_without t v.duty.held)) in
                    k.own_released l within (sym (has_without t v.duty.held (link_at links l).from ne) ∙ h);
                all_started = k.all_started;
                all_released = k.all_released;
              }
              (others_know full done links v.duty.before v.duty.seats s r id v at live w refl live off machine a here
              (λ q seat ne e. dite (ℕ_discrete q t)
              (λ is. absurd (held_home seat true (sym e ∙ (ap (λ z. get_or places z Waiting) is ∙ placed))))
              (λ apart. sym (elsewhere q apart) ∙ e))
              (λ q seat ne e. elsewhere q (λ is. ne (same_seat seat a true true (sym e ∙ (ap (place_of m) is ∙ held)))) ∙ e)
              (λ q ne. refl) (λ l ne. refl) (λ q h. h) (λ l h. h))
              (λ q b j goes. dite (ℕ_discrete j t)
              (λ e. subst (λ p. Lies full done links v.duty.before st p b j q) (sym (ap (λ z. get_or places z Waiting) e ∙ placed))
              (laid_down links v.duty.before s (set s.words i y) (set s.views id w) v.hand b j q (λ on. slots_at links N m v.hand.ready more t ready filled q b j goes on e)
              (subst (λ p. Lies full done links v.duty.before s p b j q) (ap (place_of m) e ∙ held) (r.slots q b j goes) id v at live here (none_out q))))
              (λ ne. subst (λ p. Lies full done links v.duty.before st p b j q) (sym (elsewhere j ne))
              (slot_stays full done links v.duty.before v.duty.seats s r id v at live w refl live off (set s.words i y) s.homes (place_of m j) b j q refl (λ o. o) (λ x h. (h.0, (λ on h'. absurd (true≢false (sym h'))), h.2)) (r.slots q b j goes))))
              (told_same full done links v.duty.before v.duty.seats s r id v at live w refl live off machine refl refl (λ j h. h) (λ l h. h))
              (left_stays full done links v.duty.before v.duty.seats s r id v at live w refl live off machine (set s.words i y) s.homes (λ k h. set_else s.words i k y (λ e. absurd (omega (arith, h, e, short)))) refl
              (λ j. dite (ℕ_discrete j t)
              (λ e. inr (ap left_word (ap (λ z. get_or places z Waiting) e ∙ placed), ap left_word (ap (place_of m) e ∙ held)))
              (λ ne. inl (elsewhere j ne)))),
        )),
        refl,
      )
    where
      only : (v : View S B) (a b : ℕ) → v.duty.shares ≡ a ∷ [] → has v.duty.shares b ≡ true → b ≡ a
      only v a b is h = dite (ℕ_discrete a b) (λ e. sym e) (λ ne. absurd (true≢false (sym h ∙ (ap (λ (xs : List ℕ). has xs b) is ∙ has_skip a [] b ne))))
