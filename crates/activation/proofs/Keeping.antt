-- What every step of a seat keeps of the rule, over plain data.
use Rattle.std.proofs.Common.{◌≡◌, ◌≢◌, ℕ, zero, suc, ◌+◌, ◌%◌, ◌<◌, ◌≤◌, ◌⊎◌, Bool, true, false, List, [], ◌∷◌, ◌++◌, length, get_or, set, refl, sym, ◌∙◌, ap, subst, ⊎_elim, inl, inr, arith, true≢false}
use mathlib.Core.Option.{Option, some, some-injective}
use lib.ListN.{get_elem?}
use Rattle.atomic_table.specs.Table.{State}
use Rattle.atomic_table.proofs.Lists.{at_set}
use Rattle.table_lemmas.proofs.Views.{each_set}
use Rattle.session_laws.specs.jack_types.specs.declared.ports.Link.{Link}
use Rattle.session_laws.specs.session_model.specs.Activation.{Place, Waiting, Held, Left, AtHome, Machine, link_at, is_started, is_released, place_of, IsConsistent}
use Rattle.activation.specs.declared.views.View.{View}
use Rattle.activation.specs.Rule.{has, IsUsual, left_word, Goes, Knows, Keeps, Lies, IsInSome, AreTold, AreLeft, Cycle, Rule}
use Rattle.activation.proofs.Telling.{some_set, told_kept, told_more}

pub same_seat : (i j : ℕ) (b c : Bool) → Held i b ≡ Held j c → i ≡ j
same_seat i j b c e = cc

pub held_waiting : (i : ℕ) (b : Bool) → Held i b ≡ Waiting → ⊥
held_waiting i b e = cc

pub held_home : (i : ℕ) (b : Bool) → Held i b ≡ AtHome → ⊥
held_home i b e = cc

-- the words behind the counters may be what they will
pub set_behind : (a b : List ℕ) (i y : ℕ) → length a ≤ i → (c : List ℕ) × (set (a ++ b) i y ≡ a ++ c)
set_behind [] b i y h = (set b i y, refl)
set_behind (x ∷ a) b zero y h = absurd (omega (arith, h))
set_behind (x ∷ a) b (suc i) y h = let r = set_behind a b i y (omega (arith, h)) in (r.0, ap (λ l. x ∷ l) r.1)

module _ {S B : Type 0} (full done : List Link → List B → ℕ → S → Type 0) where
  abbrev pub Seen : Type 0
  Seen = View S B

  abbrev pub St : Type 0
  St = State S (View S B)

  -- a seat in a cycle shows that a cycle is under way, with the links and benches that it knows
  pub in_cycle : (s : St) (id : ℕ) (v : Seen) → Rule full done s → get_elem? s.views id ≡ some v → v.is_live ≡ true → v.is_still ≡ false → Cycle full done v.duty.links v.duty.before v.duty.seats s
  in_cycle s id v (inl r) at live off =
      let knows = (r.3.each_seat id v at live).1 in
      subst (λ (x : List Link × List B × ℕ). Cycle full done x.0 x.1 x.2 s) (λ i. (sym knows.same_links i, sym knows.same_before i, sym knows.same_seats i)) r.3
  in_cycle s id v (inr t) at live off =
      let is : id ≡ t.sole = t.one id v at live in
      let same : v ≡ t.view = some-injective v t.view (sym at ∙ (ap (get_elem? s.views) is ∙ t.there)) in
      absurd (true≢false (sym t.still ∙ (ap (λ (u : Seen). u.is_still) (sym same) ∙ off)))

  module _ (links : List Link) (before : List B) (seats : ℕ) (s : St) (r : Cycle full done links before seats s) (id : ℕ) (v : Seen) (at : get_elem? s.views id ≡ some v) (live : v.is_live ≡ true) where
    pub mine : Knows links before seats r.machine v.duty
    mine = (r.each_seat id v at live).1

    -- a held node is within the benches
    pub inside : (n : ℕ) → place_of r.machine n ≢ Waiting → n < length before
    inside n h = omega (arith, within r.machine.places n h, r.size)
      where
        within : (ps : List Place) (n : ℕ) → get_or ps n Waiting ≢ Waiting → n < length ps
        within [] n h = absurd (h refl)
        within (p ∷ ps) zero h = omega arith
        within (p ∷ ps) (suc n) h = omega (arith, within ps n h)

    -- where the seat goes on with the view w
    module _ (w : Seen) (shares : w.duty.shares ≡ v.duty.shares) (stays : w.is_live ≡ true) (off : w.is_still ≡ false) where
      abbrev behind : List ℕ → List (Option S) → St
      behind ws hs = record { words = ws; homes = hs; views = set s.views id w }

      -- a view behind the step is an old one, or the new one in the place of the seat's own
      was : (j : ℕ) (u : Seen) → get_elem? (set s.views id w) j ≡ some u → u.is_live ≡ true → (o : Seen) × (get_elem? s.views j ≡ some o) × (o.is_live ≡ true) × (u.duty.shares ≡ o.duty.shares)
      was j u e l = ⊎_elim
          (λ (x : (j ≡ id) × (w ≡ u)). (v, ap (get_elem? s.views) x.0 ∙ at, live, ap (λ (y : Seen). y.duty.shares) (sym x.1) ∙ shares))
          (λ (x : (j ≢ id) × (get_elem? s.views j ≡ some u)). (u, x.1, l, refl))
          (at_set s.views id j w u e)

      -- the seat starts and releases nothing
      pub told_same : (machine : Machine) → w.duty.started ≡ v.duty.started → w.duty.released ≡ v.duty.released → ((n : ℕ) → is_started machine n ≡ true → is_started r.machine n ≡ true)
          → ((l : ℕ) → is_released machine l ≡ true → is_released r.machine l ≡ true) → AreTold links (length before) machine (set s.views id w)
      told_same machine same same' back back' = (
        told_kept (λ (u : Seen). u.is_live) (λ u. u.duty.started) (length before) (is_started r.machine) (is_started machine) s.views id v w at live stays same (λ n low h. back n h) r.told.0,
        told_kept (λ (u : Seen). u.is_live) (λ u. u.duty.released) (length links) (is_released r.machine) (is_released machine) s.views id v w at live stays same' (λ l low h. back' l h) r.told.1,
      )

      -- the seat starts a node, or releases a link
      pub told_start : (n : ℕ) (started : List Bool) → w.duty.started ≡ n ∷ v.duty.started → w.duty.released ≡ v.duty.released → is_started r.machine n ≡ false → ((j : ℕ) → j ≢ n → get_or started j false ≡ true → is_started r.machine j ≡ true)
          → AreTold links (length before) (record r.machine { started = started }) (set s.views id w)
      told_start n started more same off back = (
        told_more (λ (u : Seen). u.is_live) (λ u. u.duty.started) (length before) (is_started r.machine) (λ j. get_or started j false) s.views id n v w at live stays more off back (λ j u x e l h. (r.each_seat j u e l).1.all_started x h) r.told.0,
        told_kept (λ (u : Seen). u.is_live) (λ u. u.duty.released) (length links) (is_released r.machine) (is_released r.machine) s.views id v w at live stays same (λ l low h. h) r.told.1,
      )

      pub told_release : (l : ℕ) (released : List Bool) → w.duty.started ≡ v.duty.started → w.duty.released ≡ l ∷ v.duty.released → is_released r.machine l ≡ false → ((j : ℕ) → j ≢ l → get_or released j false ≡ true → is_released r.machine j ≡ true)
          → AreTold links (length before) (record r.machine { released = released }) (set s.views id w)
      told_release l released same more off back = (
        told_kept (λ (u : Seen). u.is_live) (λ u. u.duty.started) (length before) (is_started r.machine) (is_started r.machine) s.views id v w at live stays same (λ n low h. h) r.told.0,
        told_more (λ (u : Seen). u.is_live) (λ u. u.duty.released) (length links) (is_released r.machine) (λ j. get_or released j false) s.views id l v w at live stays more off back (λ j u x e m h. (r.each_seat j u e m).1.all_released x h) r.told.1,
      )

      -- a node that was left stands in some seat's list still, where this seat's list keeps it
      pub left_by : (n : ℕ) → (has v.duty.left n ≡ true → has w.duty.left n ≡ true) → place_of r.machine n ≡ Left → IsInSome (λ (u : Seen). u.is_live) (λ u. u.duty.left) (set s.views id w) n
      left_by n keeps e = some_set (λ (u : Seen). u.is_live) (λ u. u.duty.left) s.views id v w n at (λ h. (stays, keeps h)) (r.left.by_some n e)

      -- a step that neither leaves nor picks a node
      pub left_stays : (machine : Machine) (ws : List ℕ) (hs : List (Option S)) → ((k : ℕ) → length before + 513 ≤ k → get_elem? ws k ≡ get_elem? s.words k) → w.duty.left ≡ v.duty.left
          → ((n : ℕ) → (place_of machine n ≡ place_of r.machine n) ⊎ ((left_word (place_of machine n) ≡ 0) × (left_word (place_of r.machine n) ≡ 0))) → AreLeft (length before) machine (behind ws hs)
      left_stays machine ws hs far same places = record {
        words_are = λ n low. far (length before + 513 + n) (omega arith) ∙ (r.left.words_are n low ∙ ap some (⊎_elim
            (λ (e : place_of machine n ≡ place_of r.machine n). ap left_word (sym e))
            (λ (e : (left_word (place_of machine n) ≡ 0) × (left_word (place_of r.machine n) ≡ 0)). e.1 ∙ sym e.0)
            (places n)));
        by_some = λ n e. left_by n (λ h. ap (λ (xs : List ℕ). has xs n) same ∙ h) (⊎_elim
            (λ (e' : place_of machine n ≡ place_of r.machine n). sym e' ∙ e)
            (λ (e' : (left_word (place_of machine n) ≡ 0) × (left_word (place_of r.machine n) ≡ 0)). absurd (not_both (left_word (place_of machine n)) (ap left_word e) e'.0))
            (places n));
      }
        where
          not_both : (word : ℕ) → word ≡ 1 → word ≡ 0 → ⊥
          not_both word on off' = omega (arith, on, off')

      -- the state behind a step
      pub renew : (machine : Machine) (ws others : List ℕ) (hs : List (Option S)) → length machine.places ≡ length before → IsConsistent links machine → ((n : ℕ) → IsUsual seats (place_of machine n))
          → ws ≡ machine.counters ++ others → length hs ≡ length s.homes → ((q : ℕ) → length before + length links ≤ q → get_elem? hs q ≡ get_elem? s.homes q) → Knows links before seats machine w.duty
          → ((j : ℕ) (u : Seen) → j ≢ id → get_elem? s.views j ≡ some u → u.is_live ≡ true → Knows links before seats machine u.duty)
          → ((q : ℕ) (b : Bool) (n : ℕ) → Goes links (length before) machine q b n → Lies full done links before (behind ws hs) (place_of machine n) b n q)
          → AreTold links (length before) machine (set s.views id w)
          → AreLeft (length before) machine (behind ws hs)
          → Cycle full done links before seats (behind ws hs)
      renew machine ws others hs size consistent usual words long same own knows slots told left = record {
        machine = machine;
        others = others;
        are = r.are;
        some_seat = r.some_seat;
        size = size;
        consistent = consistent;
        usual = usual;
        words_are = words;
        homes_long = omega (arith, long, r.homes_long);
        slots = slots;
        spare = λ q h i. let x = r.spare q h (omega (arith, i, long)) in (x.0, tt, same q h ∙ x.2);
        each_seat = each_set (λ j u. u.is_live ≡ true → (u.is_still ≡ false) × Knows links before seats machine u.duty) s.views id w
            (λ _. (off, own)) (λ j u other e l. ((r.each_seat j u e l).0, knows j u other e l));
        told = told;
        left = left;
        alone = λ i j a b seat e f l m g h.
            let p = was i a e l in
            let q = was j b f m in
            r.alone i j p.0 q.0 seat p.1 q.1 p.2 q.2 (ap (λ (xs : List ℕ). has xs seat) (sym p.3) ∙ g) (ap (λ (xs : List ℕ). has xs seat) (sym q.3) ∙ h);
      }

      -- a slot that the step does not touch
      pub slot_stays : (ws : List ℕ) (hs : List (Option S)) (p : Place) (b : Bool) (n q : ℕ) → get_elem? hs q ≡ get_elem? s.homes q → (has w.hand.out q ≡ false → has v.hand.out q ≡ false)
          → ((x : S) → Keeps full done links before s v.hand b n q x → Keeps full done links before s w.hand b n q x) → Lies full done links before s p b n q → Lies full done links before (behind ws hs) p b n q
      slot_stays ws hs Waiting true n q same out keeps h = (h.0, h.1, same ∙ h.2)
      slot_stays ws hs Waiting false n q same out keeps h = (h.0, h.1, same ∙ h.2)
      slot_stays ws hs (Held seat c) b n q same out keeps h = λ j u e l a o. ⊎_elim
          (λ (x : (j ≡ id) × (w ≡ u)).
          let a' : has v.duty.shares seat ≡ true = ap (λ (xs : List ℕ). has xs seat) (sym shares ∙ ap (λ (y : Seen). y.duty.shares) x.1) ∙ a in
          let o' : has w.hand.out q ≡ false = ap (λ (y : Seen). has y.hand.out q) x.1 ∙ o in
          let old = h id v at live a' (out o') in
          (old.0, subst (λ (y : Seen). Keeps full done links before s y.hand b n q old.0) x.1 (keeps old.0 old.1), same ∙ old.2))
          (λ (x : (j ≢ id) × (get_elem? s.views j ≡ some u)). let old = h j u x.1 l a o in (old.0, old.1, same ∙ old.2))
          (at_set s.views id j w u e)
      slot_stays ws hs Left true n q same out keeps h = (h.0, h.1, same ∙ h.2)
      slot_stays ws hs Left false n q same out keeps h = (h.0, h.1, same ∙ h.2)
      slot_stays ws hs AtHome true n q same out keeps h = (h.0, h.1, same ∙ h.2)
      slot_stays ws hs AtHome false n q same out keeps h = tt

      -- a slot of the seat's own, with this content behind the step
      pub slot_own : (ws : List ℕ) (hs : List (Option S)) (seat : ℕ) (c b : Bool) (n q : ℕ) → has v.duty.shares seat ≡ true
          → (has w.hand.out q ≡ false → (x : S) × Keeps full done links before s w.hand b n q x × (get_elem? hs q ≡ some (some x))) → Lies full done links before (behind ws hs) (Held seat c) b n q
      slot_own ws hs seat c b n q here lies = λ j u e l a o. ⊎_elim
          (λ (x : (j ≡ id) × (w ≡ u)).
          let new = lies (ap (λ (y : Seen). has y.hand.out q) x.1 ∙ o) in
          (new.0, subst (λ (y : Seen). Keeps full done links before s y.hand b n q new.0) x.1 new.1, new.2))
          (λ (x : (j ≢ id) × (get_elem? s.views j ≡ some u)). absurd (x.0 (r.alone j id u v seat x.1 at l live a here)))
          (at_set s.views id j w u e)

      -- what another seat knows stays true, where only the share a acts
      pub others_know : (machine : Machine) (a : ℕ) → has v.duty.shares a ≡ true
          → ((n seat : ℕ) → seat ≢ a → place_of machine n ≡ Held seat true → place_of r.machine n ≡ Held seat true)
          → ((n seat : ℕ) → seat ≢ a → place_of r.machine n ≡ Held seat true → place_of machine n ≡ Held seat true)
          → ((n : ℕ) → n % seats ≢ a → is_started machine n ≡ is_started r.machine n)
          → ((l : ℕ) → place_of r.machine (link_at links l).from ≢ Held a true → is_released machine l ≡ is_released r.machine l)
          → ((n : ℕ) → is_started r.machine n ≡ true → is_started machine n ≡ true)
          → ((l : ℕ) → is_released r.machine l ≡ true → is_released machine l ≡ true)
          → (j : ℕ) (u : Seen) → j ≢ id → get_elem? s.views j ≡ some u → u.is_live ≡ true → Knows links before seats machine u.duty
      others_know machine a here back forth started released begun more j u other e l =
          let knows = (r.each_seat j u e l).1 in
          let apart : (seat : ℕ) → has u.duty.shares seat ≡ true → seat ≢ a = λ seat h is. other (r.alone j id u v a e at l live (subst (λ k. has u.duty.shares k ≡ true) is h) here) in
          record {
            same_links = knows.same_links;
            same_before = knows.same_before;
            same_seats = knows.same_seats;
            within = knows.within;
            some_share = knows.some_share;
            holds = λ n h. let k = knows.holds n h in (k.0, k.1, forth n k.0 (apart k.0 k.1) k.2);
            all_held = λ n seat h e'. knows.all_held n seat h (back n seat (apart seat h) e');
            own_started = λ n i h. started n (apart (n % seats) h) ∙ knows.own_started n i h;
            own_released = λ k i h. released k (λ held. let x = knows.holds (link_at links k).from h in apart x.0 x.1 (same_seat x.0 a true true (sym x.2 ∙ held))) ∙ knows.own_released k i h;
            all_started = λ n h. begun n (knows.all_started n h);
            all_released = λ k h. more k (knows.all_released k h);
          }
