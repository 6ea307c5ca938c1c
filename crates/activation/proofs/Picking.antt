-- A seat leaves a node, and a seat picks it: both keep the rule.
use Rattle.std.proofs.Common.{◌≡◌, ◌≢◌, ℕ, ◌+◌, ◌-◌, ◌<◌, Bool, true, false, List, [], ◌∷◌, length, get_or, set, refl, sym, ◌∙◌, ap, subst, inl, arith, true≢false, length-set, get_or-set_same, get_or-set_other}
use mathlib.Core.Logic.{dite}
use mathlib.Core.Option.{none, some}
use native.Mathlib.Decide.{ℕ_discrete}
use lib.ListN.{get_elem?}
use Rattle.atomic_table.specs.Table.{State, keeps, step, Allows}
use Rattle.atomic_table.proofs.Lists.{set_here, set_else}
use Rattle.table_lemmas.proofs.Readings.{get_at}
use Rattle.table_lemmas.proofs.Readings as reading
use Rattle.session_laws.specs.jack_types.specs.declared.ports.Link.{Link}
use Rattle.session_laws.specs.session_model.specs.Activation.{Place, Waiting, Held, Left, AtHome, Machine, link_at, is_released, place_of, IsDone}
use Rattle.activation.specs.declared.views.Hand.{Hand}
use Rattle.activation.specs.declared.views.View.{View}
use Rattle.activation.specs.Rule.{has, IsUsual, left_word, Keeps, Lies, Rule}
use Rattle.activation.specs.Plays.{without, first_of, leave_after, look_after, hold_after, left_node, picked, IsNew}
use Rattle.activation.proofs.Machines.{moved_place}
use Rattle.activation.proofs.Keeping.{same_seat, held_waiting, set_behind, in_cycle, mine, inside, renew, slot_stays, slot_own, others_know, told_same, left_by}
use Rattle.activation.proofs.Homing.{has_without, not_without, slots_at}
use Rattle.activation.proofs.Testing.{has_here, has_skip, has_there, off_or_on}

held_left : (i : ℕ) (b : Bool) → Held i b ≡ Left → ⊥
held_left i b e = cc

waiting_left : Left ≡ Waiting → ⊥
waiting_left e = cc

home_left : Left ≡ AtHome → ⊥
home_left e = cc

held_home : (i : ℕ) (b : Bool) → Held i b ≡ AtHome → ⊥
held_home i b e = cc

-- what a left word says of the place
is_left : (p : Place) → left_word p ≡ 1 → p ≡ Left
is_left Waiting e = absurd (omega (arith, e))
is_left (Held seat b) e = absurd (omega (arith, e))
is_left Left e = refl
is_left AtHome e = absurd (omega (arith, e))

pub unleft : (p : Place) → p ≢ Left → left_word p ≡ 0
unleft Waiting ne = refl
unleft (Held seat b) ne = refl
unleft Left ne = absurd (ne refl)
unleft AtHome ne = refl

module _ {S B : Type 0} (full done : List Link → List B → ℕ → S → Type 0) where
  -- what was put back lies as it was taken
  stands : (links : List Link) (before : List B) (s : State S (View S B)) (ws : List ℕ) (vs : List (View S B)) (hand : Hand) (b : Bool) (j q : ℕ) → (b ≡ true → has hand.back q ≡ true)
      → (x : S) × Keeps full done links before s hand b j q x × (get_elem? s.homes q ≡ some (some x)) → Lies full done links before record { words = ws; homes = s.homes; views = vs } Left b j q
  stands links before s ws vs hand true j q back h = (h.0, h.1.2 refl (back refl), h.2)
  stands links before s ws vs hand false j q back h = (h.0, tt, h.2)

  -- and so it comes to the seat that picks the node
  came : (links : List Link) (before : List B) (s : State S (View S B)) (b : Bool) (n q : ℕ) → Lies full done links before s Left b n q → (x : S) × (b ≡ true → full links before q x) × (get_elem? s.homes q ≡ some (some x))
  came links before s true n q h = (h.0, (λ _. h.1), h.2)
  came links before s false n q h = (h.0, (λ e. absurd (true≢false (sym e))), h.2)

  pub leaves_node : (n id : ℕ) (v : View S B) (i t a : ℕ) (more : List ℕ) (tail : List (ℕ × S)) → v.is_live ≡ true → v.is_still ≡ false → v.duty.shares ≡ a ∷ [] → v.hand.out ≡ [] → v.hand.back ≡ t ∷ more
      → has v.duty.held t ≡ true → i ≡ length v.duty.before + 513 + t
      → ((l : ℕ) → l < length v.duty.links → (link_at v.duty.links l).to ≡ t → has v.hand.back (length v.duty.before + l) ≡ true)
      → ((l : ℕ) → l < length v.duty.links → (link_at v.duty.links l).from ≡ t → has v.duty.released l ≡ false)
      → Allows (Rule full done) n id (v, tail) i (λ _. 1) (λ _. left_node (step n i 1 0 none) (v, tail) 1)
  leaves_node n id v i t a more tail live off shares empty back holds word filled unreleased s rule wide at small =
      let r = in_cycle full done s id v rule at live off in
      let m : Machine = r.machine in
      let links : List Link = v.duty.links in
      let N : ℕ = length v.duty.before in
      let k = mine full done links v.duty.before v.duty.seats s r id v at live in
      let here : has v.duty.shares a ≡ true = ap (λ (xs : List ℕ). has xs a) shares ∙ has_here a [] in
      let source = k.holds t holds in
      let held : place_of m t ≡ Held a true = source.2 ∙ ap (λ j. Held j true) (only v a source.0 shares source.1) in
      let near : t < N = inside full done links v.duty.before v.duty.seats s r id v at live t (λ e. held_waiting a true (sym held ∙ e)) in
      let low : t < length m.places = omega (arith, near, r.size) in
      let places : List Place = set m.places t Left in
      let machine : Machine = record m { places = places } in
      let placed : get_or places t Waiting ≡ Left = get_or-set_same m.places t Left Waiting low in
      let elsewhere : (j : ℕ) → j ≢ t → get_or places j Waiting ≡ place_of m j = λ j ne. get_or-set_other m.places t j Left Waiting ne in
      let not_yet : (l : ℕ) → l < length links → (link_at links l).from ≡ t → is_released m l ≡ false = λ l within from. k.own_released l within (ap (has v.duty.held) from ∙ holds) ∙ unreleased l within from in
      let words = set_behind m.counters r.others i 1 (omega (arith, word, r.size, r.consistent.counters)) in
      let t' : ℕ = first_of v.hand.back in
      let is_t : t' ≡ t = ap first_of back in
      let w : View S B = leave_after v t in
      let st : State S (View S B) = record { words = set s.words i 1; homes = s.homes; views = set s.views id w } in
      let none_out : (q : ℕ) → has v.hand.out q ≡ false = λ q. ap (λ (xs : List ℕ). has xs q) empty in
      let wide : i < length s.words = reading.inside s.words i (left_word (place_of m t)) (ap (get_elem? s.words) word ∙ r.left.words_are t near) in (
        leave_after v t',
        keeps,
        tt,
        subst (λ (j : ℕ). Rule full done record { words = set s.words i 1; homes = s.homes; views = set s.views id (leave_after v j) }) (sym is_t) (inl (
          links,
          v.duty.before,
          v.duty.seats,
          renew full done links v.duty.before v.duty.seats s r id v at live w refl live off machine (set s.words i 1) words.0 s.homes (length-set m.places t Left ∙ r.size)
              (moved_place links m r.consistent t Left low (λ e. held_waiting a true (sym held ∙ e)) waiting_left home_left (λ l within from on. absurd (true≢false (sym on ∙ not_yet l within from))))
              (λ j. dite (ℕ_discrete j t)
              (λ e. subst (IsUsual v.duty.seats) (sym (ap (λ z. get_or places z Waiting) e ∙ placed)) tt)
              (λ ne. subst (IsUsual v.duty.seats) (sym (elsewhere j ne)) (r.usual j)))
              (ap (λ (ws : List ℕ). set ws i 1) r.words_are ∙ words.1) refl (λ q h. refl)
              record {
                same_links = refl;
                same_before = refl;
                same_seats = refl;
                within = k.within;
                some_share = k.some_share;
                holds = λ q h. let ne : q ≢ t = λ e. true≢false (sym h ∙ (ap (has (without t v.duty.held)) e ∙ not_without t v.duty.held)) in
                    let x = k.holds q (sym (has_without t v.duty.held q ne) ∙ h) in (x.0, x.1, elsewhere q ne ∙ x.2);
                all_held = λ q seat sh e. dite (ℕ_discrete q t)
                    (λ is. absurd (held_left seat true (sym e ∙ (ap (λ z. get_or places z Waiting) is ∙ placed))))
                    (λ ne. has_without t v.duty.held q ne ∙ k.all_held q seat sh (sym (elsewhere q ne) ∙ e));
                own_started = k.own_started;
                own_released = λ l within h. let ne : (link_at links l).from ≢ t = λ e. true≢false (sym h ∙ (ap (has (without t v.duty.held)) e ∙ not_without t v.duty.held)) in
                    k.own_released l within (sym (has_without t v.duty.held (link_at links l).from ne) ∙ h);
                all_started = k.all_started;
                all_released = k.all_released;
              }
              (others_know full done links v.duty.before v.duty.seats s r id v at live w refl live off machine a here
              (λ q seat ne e. dite (ℕ_discrete q t)
              (λ is. absurd (held_left seat true (sym e ∙ (ap (λ z. get_or places z Waiting) is ∙ placed))))
              (λ apart. sym (elsewhere q apart) ∙ e))
              (λ q seat ne e. elsewhere q (λ is. ne (same_seat seat a true true (sym e ∙ (ap (place_of m) is ∙ held)))) ∙ e)
              (λ q ne. refl) (λ l ne. refl) (λ q h. h) (λ l h. h))
              (λ q b j goes. dite (ℕ_discrete j t)
              (λ e. subst (λ p. Lies full done links v.duty.before st p b j q) (sym (ap (λ z. get_or places z Waiting) e ∙ placed))
              (stands links v.duty.before s (set s.words i 1) (set s.views id w) v.hand b j q (λ on. slots_at links N m v.hand.back more t back filled q b j goes on e)
              (subst (λ p. Lies full done links v.duty.before s p b j q) (ap (place_of m) e ∙ held) (r.slots q b j goes) id v at live here (none_out q))))
              (λ ne. subst (λ p. Lies full done links v.duty.before st p b j q) (sym (elsewhere j ne))
              (slot_stays full done links v.duty.before v.duty.seats s r id v at live w refl live off (set s.words i 1) s.homes (place_of m j) b j q refl (λ o. o) (λ x h. (h.0, h.1, (λ _ h'. absurd (true≢false (sym h'))))) (r.slots q b j goes))))
              (told_same full done links v.duty.before v.duty.seats s r id v at live w refl live off machine refl refl (λ j h. h) (λ l h. h))
              record {
                words_are = λ j near'. dite (ℕ_discrete j t)
                    (λ e. ap (get_elem? (set s.words i 1)) (ap (λ z. N + 513 + z) e ∙ sym word) ∙ (set_here s.words i 1 wide ∙ ap (λ p. some (left_word p)) (sym (ap (λ z. get_or places z Waiting) e ∙ placed))))
                    (λ ne. set_else s.words i (N + 513 + j) 1 (λ e. ne (let same : N + 513 + j ≡ i = e in omega (arith, same, word))) ∙ (r.left.words_are j near' ∙ ap (λ p. some (left_word p)) (sym (elsewhere j ne))));
                by_some = λ j e. dite (ℕ_discrete j t)
                    (λ is. (id, w, set_here s.views id w (reading.inside s.views id v at), live, ap (has (t ∷ v.duty.left)) is ∙ has_here t v.duty.left))
                    (λ ne. left_by full done links v.duty.before v.duty.seats s r id v at live w refl live off j (has_there t v.duty.left j) (sym (elsewhere j ne) ∙ e));
              },
        )),
        refl,
      )
    where
      only : (v : View S B) (a b : ℕ) → v.duty.shares ≡ a ∷ [] → has v.duty.shares b ≡ true → b ≡ a
      only v a b is h = dite (ℕ_discrete a b) (λ e. sym e) (λ ne. absurd (true≢false (sym h ∙ (ap (λ (xs : List ℕ). has xs b) is ∙ has_skip a [] b ne))))

  pub picks_node : (n id : ℕ) (v : View S B) (i t a : ℕ) (tail : List (ℕ × S)) → v.is_live ≡ true → v.is_still ≡ false → v.duty.shares ≡ a ∷ [] → a < v.duty.seats → t < length v.duty.before → i ≡ length v.duty.before + 513 + t
      → v.hand.out ≡ [] → Allows (Rule full done) n id (v, tail) i (λ _. 0) (picked (step n i 0 0 none) (v, tail))
  picks_node n id v i t a tail live off shares few near word empty s rule wide at small =
      let r = in_cycle full done s id v rule at live off in
      let m : Machine = r.machine in
      let links : List Link = v.duty.links in
      let N : ℕ = length v.duty.before in
      let k = mine full done links v.duty.before v.duty.seats s r id v at live in
      let here : has v.duty.shares a ≡ true = ap (λ (xs : List ℕ). has xs a) shares ∙ has_here a [] in
      let low : t < length m.places = omega (arith, near, r.size) in
      let words = set_behind m.counters r.others i 0 (omega (arith, word, r.size, r.consistent.counters)) in
      let there : get_elem? s.words i ≡ some (left_word (place_of m t)) = ap (get_elem? s.words) word ∙ r.left.words_are t near in
      let is : get_or s.words i 0 ≡ left_word (place_of m t) = get_at s.words i (left_word (place_of m t)) 0 there in
      let long : i < length s.words = reading.inside s.words i (left_word (place_of m t)) there in
      let none_out : (q : ℕ) → has v.hand.out q ≡ false = λ q. ap (λ (xs : List ℕ). has xs q) empty in
      let back : i - (N + 513) ≡ t = omega (arith, word) in
      let cleared : (ps : List Place) → ((j : ℕ) → j ≢ t → get_or ps j Waiting ≡ place_of m j) → left_word (get_or ps t Waiting) ≡ 0 → (j : ℕ) → j < N → get_elem? (set s.words i 0) (N + 513 + j) ≡ some (left_word (get_or ps j Waiting)) = λ ps far zero j near'. dite (ℕ_discrete j t)
      (λ e. ap (get_elem? (set s.words i 0)) (ap (λ z. N + 513 + z) e ∙ sym word) ∙ (set_here s.words i 0 long ∙ ap some (sym (ap (λ z. left_word (get_or ps z Waiting)) e ∙ zero))))
      (λ ne. set_else s.words i (N + 513 + j) 0 (λ e. ne (let same : N + 513 + j ≡ i = e in omega (arith, same, word))) ∙ (r.left.words_are j near' ∙ ap (λ p. some (left_word p)) (sym (far j ne)))) in
      dite (ℕ_discrete (get_or s.words i 0) 1)
      (λ hit.
      let was : place_of m t ≡ Left = is_left (place_of m t) (sym is ∙ hit) in
      let places : List Place = set m.places t (Held a true) in
      let machine : Machine = record m { places = places } in
      let placed : get_or places t Waiting ≡ Held a true = get_or-set_same m.places t (Held a true) Waiting low in
      let elsewhere : (j : ℕ) → j ≢ t → get_or places j Waiting ≡ place_of m j = λ j ne. get_or-set_other m.places t j (Held a true) Waiting ne in
      let unreleased : (l : ℕ) → l < length links → (link_at links l).from ≡ t → is_released m l ≡ false = λ l within from. off_or_on (is_released m l) (λ on. subst IsDone (ap (place_of m) from ∙ was) (r.consistent.sources l within on)) in
      let untold : (l : ℕ) → l < length links → (link_at links l).from ≡ t → has v.duty.released l ≡ false = λ l within from. off_or_on (has v.duty.released l) (λ on. true≢false (sym (k.all_released l on) ∙ unreleased l within from)) in
      let w : View S B = hold_after (look_after v t) t in
      let st : State S (View S B) = record { words = set s.words i 0; homes = s.homes; views = set s.views id w } in
      let new : IsNew v w t = (off_or_on (has v.duty.held t) (λ h. let x = k.holds t h in held_left x.0 true (sym x.2 ∙ was)), untold) in (
        hold_after (look_after v (i - (N + 513))) (i - (N + 513)),
        keeps,
        tt,
        subst (λ (j : ℕ). Rule full done record { words = set s.words i 0; homes = s.homes; views = set s.views id (hold_after (look_after v j) j) }) (sym back) (inl (
          links,
          v.duty.before,
          v.duty.seats,
          renew full done links v.duty.before v.duty.seats s r id v at live w refl live off machine (set s.words i 0) words.0 s.homes (length-set m.places t (Held a true) ∙ r.size)
              (moved_place links m r.consistent t (Held a true) low (λ e. waiting_left (sym was ∙ e)) (held_waiting a true) (held_home a true) (λ l within from on. refl))
              (λ j. dite (ℕ_discrete j t)
              (λ e. subst (IsUsual v.duty.seats) (sym (ap (λ z. get_or places z Waiting) e ∙ placed)) (few, refl))
              (λ ne. subst (IsUsual v.duty.seats) (sym (elsewhere j ne)) (r.usual j)))
              (ap (λ (ws : List ℕ). set ws i 0) r.words_are ∙ words.1) refl (λ q h. refl)
              record {
                same_links = refl;
                same_before = refl;
                same_seats = refl;
                within = k.within;
                some_share = k.some_share;
                holds = λ q h. dite (ℕ_discrete t q)
                    (λ e. (a, here, ap (λ z. get_or places z Waiting) (sym e) ∙ placed))
                    (λ ne. let x = k.holds q (sym (has_skip t v.duty.held q ne) ∙ h) in (x.0, x.1, elsewhere q (λ e. ne (sym e)) ∙ x.2));
                all_held = λ q seat sh e. dite (ℕ_discrete t q)
                    (λ e'. ap (has (t ∷ v.duty.held)) (sym e') ∙ has_here t v.duty.held)
                    (λ ne. has_there t v.duty.held q (k.all_held q seat sh (sym (elsewhere q (λ e'. ne (sym e'))) ∙ e)));
                own_started = k.own_started;
                own_released = λ l within h. dite (ℕ_discrete t (link_at links l).from)
                    (λ e. unreleased l within (sym e) ∙ sym (untold l within (sym e)))
                    (λ ne. k.own_released l within (sym (has_skip t v.duty.held (link_at links l).from ne) ∙ h));
                all_started = k.all_started;
                all_released = k.all_released;
              }
              (others_know full done links v.duty.before v.duty.seats s r id v at live w refl live off machine a here
              (λ q seat ne e. dite (ℕ_discrete q t)
              (λ e'. absurd (ne (sym (same_seat a seat true true (sym placed ∙ (ap (λ z. get_or places z Waiting) (sym e') ∙ e))))))
              (λ apart. sym (elsewhere q apart) ∙ e))
              (λ q seat ne e. elsewhere q (λ e'. held_left seat true (sym e ∙ (ap (place_of m) e' ∙ was))) ∙ e)
              (λ q ne. refl) (λ l ne. refl) (λ q h. h) (λ l h. h))
              (λ q b j goes. dite (ℕ_discrete j t)
              (λ e. subst (λ p. Lies full done links v.duty.before st p b j q) (sym (ap (λ z. get_or places z Waiting) e ∙ placed))
              (slot_own full done links v.duty.before v.duty.seats s r id v at live w refl live off (set s.words i 0) s.homes a true b j q here
              (λ _. let y = came links v.duty.before s b j q (subst (λ p. Lies full done links v.duty.before s p b j q) (ap (place_of m) e ∙ was) (r.slots q b j goes)) in
              (y.0, ((λ on _ _. y.1 on), (λ _ h. absurd (true≢false (sym h))), (λ _ h. absurd (true≢false (sym h)))), y.2))))
              (λ ne. subst (λ p. Lies full done links v.duty.before st p b j q) (sym (elsewhere j ne))
              (slot_stays full done links v.duty.before v.duty.seats s r id v at live w refl live off (set s.words i 0) s.homes (place_of m j) b j q refl (λ _. none_out q)
              (λ x h. ((λ on node _. absurd (ne (sym node))), (λ _ h'. absurd (true≢false (sym h'))), (λ _ h'. absurd (true≢false (sym h'))))) (r.slots q b j goes))))
              (told_same full done links v.duty.before v.duty.seats s r id v at live w refl live off machine refl refl (λ j h. h) (λ l h. h))
              record {
                words_are = cleared places elsewhere (ap left_word placed);
                by_some = λ j e. let ne : j ≢ t = λ is'. held_left a true (sym placed ∙ (ap (λ z. get_or places z Waiting) (sym is') ∙ e)) in
                    left_by full done links v.duty.before v.duty.seats s r id v at live w refl live off j (λ h. has_without t v.duty.left j ne ∙ h) (sym (elsewhere j ne) ∙ e);
              },
        )),
        ((λ not. absurd (not hit)), (λ _. (refl, subst (λ j. IsNew v (hold_after (look_after v j) j) j) (sym back) new))),
      ))
      (λ miss.
      let not_left : place_of m t ≢ Left = λ e. miss (is ∙ ap left_word e) in
      let w : View S B = look_after v t in (
        look_after v (i - (N + 513)),
        keeps,
        tt,
        subst (λ (j : ℕ). Rule full done record { words = set s.words i 0; homes = s.homes; views = set s.views id (look_after v j) }) (sym back) (inl (
          links,
          v.duty.before,
          v.duty.seats,
          renew full done links v.duty.before v.duty.seats s r id v at live w refl live off m (set s.words i 0) words.0 s.homes r.size r.consistent r.usual
              (ap (λ (ws : List ℕ). set ws i 0) r.words_are ∙ words.1) refl (λ q h. refl)
              record {
                same_links = refl;
                same_before = refl;
                same_seats = refl;
                within = k.within;
                some_share = k.some_share;
                holds = k.holds;
                all_held = k.all_held;
                own_started = k.own_started;
                own_released = k.own_released;
                all_started = k.all_started;
                all_released = k.all_released;
              }
              (λ j u other e l. (r.each_seat j u e l).1)
              (λ q b j goes. slot_stays full done links v.duty.before v.duty.seats s r id v at live w refl live off (set s.words i 0) s.homes (place_of m j) b j q refl (λ o. o) (λ x h. h) (r.slots q b j goes))
              (told_same full done links v.duty.before v.duty.seats s r id v at live w refl live off m refl refl (λ j h. h) (λ l h. h))
              record {
                words_are = cleared m.places (λ j ne. refl) (unleft (place_of m t) not_left);
                by_some = λ j e. let ne : j ≢ t = λ is'. not_left (ap (place_of m) (sym is') ∙ e) in
                    left_by full done links v.duty.before v.duty.seats s r id v at live w refl live off j (λ h. has_without t v.duty.left j ne ∙ h) e;
              },
        )),
        ((λ _. refl), (λ one. absurd (miss one))),
      ))
