-- Seats that hold nothing are split and joined.
use Rattle.std.proofs.Common.{◌≡◌, ◌≢◌, ℕ, ◌%◌, ◌⊎◌, Bool, true, false, List, [], ◌∷◌, ◌++◌, length, set, refl, sym, ◌∙◌, ap, subst, ⊎_elim, inl, inr, true≢false}
use mathlib.Core.Logic.{dite}
use mathlib.Core.Option.{some}
use native.Mathlib.Decide.{ℕ_discrete}
use lib.ListN.{get_elem?}
use Rattle.atomic_table.specs.Table.{State, Splits, Joins}
use Rattle.atomic_table.proofs.Lists.{at_set, set_again}
use Rattle.table_lemmas.proofs.Views.{each_set, each_snoc, at_snoc_last}
use Rattle.session_laws.specs.jack_types.specs.declared.ports.Link.{Link}
use Rattle.session_laws.specs.session_model.specs.Activation.{Place, Waiting, Held, Left, AtHome, link_at, is_started, is_released, place_of}
use Rattle.activation.specs.declared.views.View.{View}
use Rattle.activation.specs.Rule.{has, IsUsual, Knows, Keeps, Lies, Rule}
use Rattle.activation.specs.Plays.{rest_of, first_of, left_of, right_of, joined, nobody}
use Rattle.activation.proofs.Keeping.{in_cycle, mine}
use Rattle.activation.proofs.Telling.{some_set, some_longer, told_split, told_joined, told_husk}
use Rattle.activation.proofs.Testing.{has_append, has_here, has_left, has_right, has_skip, has_there, same_test}

module _ {S B : Type 0} (full done : List Link → List B → ℕ → S → Type 0) where
  abbrev Seen : Type 0
  Seen = View S B

  abbrev St : Type 0
  St = State S (View S B)

  -- a slot lies as it did, where each seat that may have it is an old one with no more in hand
  lies_still : (links : List Link) (before : List B) (s : St) (vs : List Seen) (p : Place) (b : Bool) (n q : ℕ)
      → ((seat : ℕ) (c : Bool) → p ≡ Held seat c → (j : ℕ) (u : Seen) → get_elem? vs j ≡ some u → u.is_live ≡ true → has u.duty.shares seat ≡ true → has u.hand.out q ≡ false
      → (i : ℕ) × (o : Seen) × (get_elem? s.views i ≡ some o) × (o.is_live ≡ true) × (has o.duty.shares seat ≡ true) × (has o.hand.out q ≡ false) × (o.hand ≡ u.hand))
      → Lies full done links before s p b n q → Lies full done links before record { words = s.words; homes = s.homes; views = vs } p b n q
  lies_still links before s vs Waiting true n q old h = h
  lies_still links before s vs Waiting false n q old h = h
  lies_still links before s vs (Held seat c) b n q old h = λ j u e l a o.
      let k = old seat c refl j u e l a o in
      let x = h k.0 k.1 k.2 k.3 k.4 k.5 in
      (x.0, subst (λ hand. Keeps full done links before s hand b n q x.0) k.6 x.1, x.2)
  lies_still links before s vs Left true n q old h = h
  lies_still links before s vs Left false n q old h = h
  lies_still links before s vs AtHome true n q old h = h
  lies_still links before s vs AtHome false n q old h = h

  pub parts : (id : ℕ) (v : Seen) (a b : ℕ) (more : List ℕ) → v.is_live ≡ true → v.is_still ≡ false → v.duty.shares ≡ a ∷ b ∷ more → has (b ∷ more) a ≡ false → v.duty.held ≡ [] → v.duty.started ≡ [] → v.duty.released ≡ []
      → Splits (Rule full done) id v (left_of v) (right_of v)
  parts id v a b more live off shares once empty unstarted unreleased s rule at =
      let r = in_cycle full done s id v rule at live off in
      let k = mine full done v.duty.links v.duty.before v.duty.seats s r id v at live in
      let vs : List Seen = set s.views id (left_of v) ++ right_of v ∷ [] in
      let left_old : (seat : ℕ) → has (rest_of v.duty.shares) seat ≡ true → has v.duty.shares seat ≡ true = λ seat h.
      ap (λ (xs : List ℕ). has xs seat) shares ∙ has_there a (b ∷ more) seat (ap (λ (xs : List ℕ). has (rest_of xs) seat) (sym shares) ∙ h) in
      let right_old : (seat : ℕ) → has (first_of v.duty.shares ∷ []) seat ≡ true → has v.duty.shares seat ≡ true = λ seat h. dite (ℕ_discrete a seat)
      (λ e. ap (λ (xs : List ℕ). has xs seat) shares ∙ (ap (has (a ∷ b ∷ more)) (sym e) ∙ has_here a (b ∷ more)))
      (λ ne. absurd (true≢false (sym h ∙ (ap (λ (xs : List ℕ). has (first_of xs ∷ []) seat) shares ∙ has_skip a [] seat ne)))) in
      let both : (seat : ℕ) → has (rest_of v.duty.shares) seat ≡ true → has (first_of v.duty.shares ∷ []) seat ≡ true → ⊥ = λ seat h g. dite (ℕ_discrete a seat)
      (λ e. true≢false (sym h ∙ (ap (λ (xs : List ℕ). has (rest_of xs) seat) shares ∙ (ap (has (b ∷ more)) (sym e) ∙ once))))
      (λ ne. true≢false (sym g ∙ (ap (λ (xs : List ℕ). has (first_of xs ∷ []) seat) shares ∙ has_skip a [] seat ne))) in
      let nothing : (n : ℕ) → has v.duty.held n ≡ false = λ n. ap (λ (xs : List ℕ). has xs n) empty in
      let part : (mineshares : List ℕ) → ((seat : ℕ) → has mineshares seat ≡ true → has v.duty.shares seat ≡ true) → ((seat : ℕ) × (has mineshares seat ≡ true)) → Knows v.duty.links v.duty.before v.duty.seats r.machine (record v.duty { shares = mineshares }) = λ own old one. record {
        same_links = refl;
        same_before = refl;
        same_seats = refl;
        within = λ seat h. k.within seat (old seat h);
        some_share = one;
        holds = λ n h. absurd (true≢false (sym h ∙ nothing n));
        all_held = λ n seat h e. k.all_held n seat (old seat h) e;
        own_started = λ n i h. k.own_started n i (old (n % v.duty.seats) h);
        own_released = λ l i h. absurd (true≢false (sym h ∙ nothing (link_at v.duty.links l).from));
        all_started = k.all_started;
        all_released = k.all_released;
      } in
      -- which old seat a seat behind the split comes from
      let from : (j : ℕ) (u : Seen) → get_elem? vs j ≡ some u → u.is_live ≡ true → ((j ≢ id) × (get_elem? s.views j ≡ some u)) ⊎ (((j ≡ id) × (left_of v ≡ u)) ⊎ ((j ≡ length (set s.views id (left_of v))) × (right_of v ≡ u))) = λ j u e l. ⊎_elim
      (λ (x : get_elem? (set s.views id (left_of v)) j ≡ some u). ⊎_elim (λ (y : (j ≡ id) × (left_of v ≡ u)). inr (inl y)) (λ (y : (j ≢ id) × (get_elem? s.views j ≡ some u)). inl y) (at_set s.views id j (left_of v) u x))
      (λ (x : (j ≡ length (set s.views id (left_of v))) × (right_of v ≡ u)). inr (inr x))
      (at_snoc_last (set s.views id (left_of v)) (right_of v) u j e) in
      inl (
        v.duty.links,
        v.duty.before,
        v.duty.seats,
        record {
          machine = r.machine;
          others = r.others;
          are = r.are;
          some_seat = r.some_seat;
          size = r.size;
          consistent = r.consistent;
          usual = r.usual;
          words_are = r.words_are;
          homes_long = r.homes_long;
          slots = λ q b n goes. lies_still v.duty.links v.duty.before s vs (place_of r.machine n) b n q
              (λ seat c is j u e l h o. ⊎_elim
              (λ (x : (j ≢ id) × (get_elem? s.views j ≡ some u)). (j, u, x.1, l, h, o, refl))
              (λ (x : ((j ≡ id) × (left_of v ≡ u)) ⊎ ((j ≡ length (set s.views id (left_of v))) × (right_of v ≡ u))). ⊎_elim
              (λ (y : (j ≡ id) × (left_of v ≡ u)). (id, v, at, live, left_old seat (ap (λ (z : Seen). has z.duty.shares seat) y.1 ∙ h), ap (λ (z : Seen). has z.hand.out q) y.1 ∙ o, ap (λ (z : Seen). z.hand) y.1))
              (λ (y : (j ≡ length (set s.views id (left_of v))) × (right_of v ≡ u)). (id, v, at, live, right_old seat (ap (λ (z : Seen). has z.duty.shares seat) y.1 ∙ h), ap (λ (z : Seen). has z.hand.out q) y.1 ∙ o, ap (λ (z : Seen). z.hand) y.1)) x)
              (from j u e l))
              (r.slots q b n goes);
          spare = r.spare;
          each_seat = each_snoc (λ j u. u.is_live ≡ true → (u.is_still ≡ false) × Knows v.duty.links v.duty.before v.duty.seats r.machine u.duty) (set s.views id (left_of v)) (right_of v)
              (each_set (λ j u. u.is_live ≡ true → (u.is_still ≡ false) × Knows v.duty.links v.duty.before v.duty.seats r.machine u.duty) s.views id (left_of v)
              (λ _. (off, part (rest_of v.duty.shares) left_old (b, ap (λ (xs : List ℕ). has (rest_of xs) b) shares ∙ has_here b more))) (λ j u other e l. r.each_seat j u e l))
              (λ _. (off, part (first_of v.duty.shares ∷ []) right_old (a, ap (λ (xs : List ℕ). has (first_of xs ∷ []) a) shares ∙ has_here a [])));
          told = (
            told_split (λ (u : Seen). u.is_live) (λ u. u.duty.started) (length v.duty.before) (is_started r.machine) s.views id v (left_of v) (right_of v) at live unstarted live unstarted (λ _. unstarted) r.told.0,
            told_split (λ (u : Seen). u.is_live) (λ u. u.duty.released) (length v.duty.links) (is_released r.machine) s.views id v (left_of v) (right_of v) at live unreleased live unreleased (λ _. unreleased) r.told.1,
          );
          left = record {
            words_are = r.left.words_are;
            by_some = λ n e. some_longer (λ (u : Seen). u.is_live) (λ u. u.duty.left) (set s.views id (left_of v)) (right_of v ∷ []) n
                (some_set (λ (u : Seen). u.is_live) (λ u. u.duty.left) s.views id v (left_of v) n at (λ h. (live, h)) (r.left.by_some n e));
          };
          alone = λ i j u w seat e f l m g h.
              let mineof : (z : Seen) → (y : Seen) → y ≡ z → has z.duty.shares seat ≡ true → has y.duty.shares seat ≡ true = λ z y is t. ap (λ (o : Seen). has o.duty.shares seat) is ∙ t in
              ⊎_elim
              (λ (x : (i ≢ id) × (get_elem? s.views i ≡ some u)). ⊎_elim
              (λ (y : (j ≢ id) × (get_elem? s.views j ≡ some w)). r.alone i j u w seat x.1 y.1 l m g h)
              (λ (y : ((j ≡ id) × (left_of v ≡ w)) ⊎ ((j ≡ length (set s.views id (left_of v))) × (right_of v ≡ w))). absurd (x.0 (r.alone i id u v seat x.1 at l live g
              (⊎_elim (λ (z : (j ≡ id) × (left_of v ≡ w)). left_old seat (mineof w (left_of v) z.1 h)) (λ (z : (j ≡ length (set s.views id (left_of v))) × (right_of v ≡ w)). right_old seat (mineof w (right_of v) z.1 h)) y))))
              (from j w f m))
              (λ (x : ((i ≡ id) × (left_of v ≡ u)) ⊎ ((i ≡ length (set s.views id (left_of v))) × (right_of v ≡ u))). ⊎_elim
              (λ (y : (j ≢ id) × (get_elem? s.views j ≡ some w)). absurd (y.0 (r.alone j id w v seat y.1 at m live h
              (⊎_elim (λ (z : (i ≡ id) × (left_of v ≡ u)). left_old seat (mineof u (left_of v) z.1 g)) (λ (z : (i ≡ length (set s.views id (left_of v))) × (right_of v ≡ u)). right_old seat (mineof u (right_of v) z.1 g)) x))))
              (λ (y : ((j ≡ id) × (left_of v ≡ w)) ⊎ ((j ≡ length (set s.views id (left_of v))) × (right_of v ≡ w))). ⊎_elim
              (λ (z : (i ≡ id) × (left_of v ≡ u)). ⊎_elim (λ (k' : (j ≡ id) × (left_of v ≡ w)). z.0 ∙ sym k'.0)
              (λ (k' : (j ≡ length (set s.views id (left_of v))) × (right_of v ≡ w)). absurd (both seat (mineof u (left_of v) z.1 g) (mineof w (right_of v) k'.1 h))) y)
              (λ (z : (i ≡ length (set s.views id (left_of v))) × (right_of v ≡ u)). ⊎_elim (λ (k' : (j ≡ id) × (left_of v ≡ w)). absurd (both seat (mineof w (left_of v) k'.1 h) (mineof u (right_of v) z.1 g)))
              (λ (k' : (j ≡ length (set s.views id (left_of v))) × (right_of v ≡ w)). z.0 ∙ sym k'.0) y) x)
              (from j w f m))
              (from i u e l);
        },
      )

  -- a spent seat is left behind
  pub husks : (id : ℕ) (v : Seen) → v.is_live ≡ true → v.is_still ≡ false → Splits (Rule full done) id v v nobody
  husks id v live off s rule at =
      let r = in_cycle full done s id v rule at live off in
      let vs : List Seen = set s.views id v ++ nobody ∷ [] in
      let old : (j : ℕ) (u : Seen) → get_elem? vs j ≡ some u → u.is_live ≡ true → get_elem? s.views j ≡ some u = λ j u e l. ⊎_elim
      (λ (x : get_elem? (set s.views id v) j ≡ some u). subst (λ (l : List Seen). get_elem? l j ≡ some u) (set_again s.views id v at) x)
      (λ (x : (j ≡ length (set s.views id v)) × (nobody ≡ u)). absurd (true≢false (sym l ∙ ap (λ (z : Seen). z.is_live) (sym x.1))))
      (at_snoc_last (set s.views id v) nobody u j e) in
      inl (
        v.duty.links,
        v.duty.before,
        v.duty.seats,
        record {
          machine = r.machine;
          others = r.others;
          are = r.are;
          some_seat = r.some_seat;
          size = r.size;
          consistent = r.consistent;
          usual = r.usual;
          words_are = r.words_are;
          homes_long = r.homes_long;
          slots = λ q b n goes. lies_still v.duty.links v.duty.before s vs (place_of r.machine n) b n q (λ seat c is j u e l h o. (j, u, old j u e l, l, h, o, refl)) (r.slots q b n goes);
          spare = r.spare;
          each_seat = λ j u e l. r.each_seat j u (old j u e l) l;
          told = (
            told_husk (λ (u : Seen). u.is_live) (λ u. u.duty.started) (length v.duty.before) (is_started r.machine) s.views id v nobody at refl r.told.0,
            told_husk (λ (u : Seen). u.is_live) (λ u. u.duty.released) (length v.duty.links) (is_released r.machine) s.views id v nobody at refl r.told.1,
          );
          left = record {
            words_are = r.left.words_are;
            by_some = λ n e. some_longer (λ (u : Seen). u.is_live) (λ u. u.duty.left) (set s.views id v) (nobody ∷ []) n
                (some_set (λ (u : Seen). u.is_live) (λ u. u.duty.left) s.views id v v n at (λ h. (live, h)) (r.left.by_some n e));
          };
          alone = λ i j u w seat e f l m g h. r.alone i j u w seat (old i u e l) (old j w f m) l m g h;
        },
      )

  pub joins : (id : ℕ) (v : Seen) (other : ℕ) (w : Seen) → v.is_live ≡ true → v.is_still ≡ false → w.is_live ≡ true → v.duty.held ≡ [] → w.duty.held ≡ [] → w.duty.left ≡ [] → v.hand.out ≡ []
      → Joins (Rule full done) id v other w (joined v w) nobody
  joins id v other w live off live' empty empty' looked none_out s rule at two at' =
      let r = in_cycle full done s id v rule at live off in
      let there : get_elem? s.views other ≡ some w = ⊎_elim (λ (x : (other ≡ id) × (joined v w ≡ w)). absurd (two x.0)) (λ (x : (other ≢ id) × (get_elem? s.views other ≡ some w)). x.1) (at_set s.views id other (joined v w) w at') in
      let k = mine full done v.duty.links v.duty.before v.duty.seats s r id v at live in
      let k' = (r.each_seat other w there live').1 in
      let vs : List Seen = set (set s.views id (joined v w)) other nobody in
      let nothing : (n : ℕ) → has v.duty.held n ≡ false = λ n. ap (λ (xs : List ℕ). has xs n) empty in
      let nothing' : (n : ℕ) → has w.duty.held n ≡ false = λ n. ap (λ (xs : List ℕ). has xs n) empty' in
      let from : (j : ℕ) (u : Seen) → get_elem? vs j ≡ some u → u.is_live ≡ true → ((j ≢ id) × (j ≢ other) × (get_elem? s.views j ≡ some u)) ⊎ ((j ≡ id) × (joined v w ≡ u)) = λ j u e l. ⊎_elim
      (λ (x : (j ≡ other) × (nobody ≡ u)). absurd (true≢false (sym l ∙ ap (λ (z : Seen). z.is_live) (sym x.1))))
      (λ (x : (j ≢ other) × (get_elem? (set s.views id (joined v w)) j ≡ some u)). ⊎_elim (λ (y : (j ≡ id) × (joined v w ≡ u)). inr y) (λ (y : (j ≢ id) × (get_elem? s.views j ≡ some u)). inl (y.0, x.0, y.1)) (at_set s.views id j (joined v w) u x.1))
      (at_set (set s.views id (joined v w)) other j nobody u e) in
      let own : Knows v.duty.links v.duty.before v.duty.seats r.machine (joined v w).duty = record {
        same_links = refl;
        same_before = refl;
        same_seats = refl;
        within = λ seat h. ⊎_elim (k.within seat) (k'.within seat) (has_append v.duty.shares w.duty.shares seat h);
        some_share = (k.some_share.0, has_left v.duty.shares w.duty.shares k.some_share.0 k.some_share.1);
        holds = λ n h. absurd (true≢false (sym h ∙ nothing n));
        all_held = λ n seat h e. ⊎_elim (λ (x : has v.duty.shares seat ≡ true). k.all_held n seat x e) (λ (x : has w.duty.shares seat ≡ true). absurd (true≢false (sym (k'.all_held n seat x e) ∙ nothing' n))) (has_append v.duty.shares w.duty.shares seat h);
        own_started = λ n i h. same_test (is_started r.machine n) (has (v.duty.started ++ w.duty.started) n)
            (λ on. ⊎_elim (λ (x : has v.duty.shares (n % v.duty.seats) ≡ true). has_left v.duty.started w.duty.started n (sym (k.own_started n i x) ∙ on))
            (λ (x : has w.duty.shares (n % v.duty.seats) ≡ true). has_right v.duty.started w.duty.started n (sym (k'.own_started n i x) ∙ on)) (has_append v.duty.shares w.duty.shares (n % v.duty.seats) h))
            (λ on. ⊎_elim (k.all_started n) (k'.all_started n) (has_append v.duty.started w.duty.started n on));
        own_released = λ l i h. absurd (true≢false (sym h ∙ nothing (link_at v.duty.links l).from));
        all_started = λ n h. ⊎_elim (k.all_started n) (k'.all_started n) (has_append v.duty.started w.duty.started n h);
        all_released = λ l h. ⊎_elim (k.all_released l) (k'.all_released l) (has_append v.duty.released w.duty.released l h);
      } in
      inl (
        v.duty.links,
        v.duty.before,
        v.duty.seats,
        record {
          machine = r.machine;
          others = r.others;
          are = r.are;
          some_seat = r.some_seat;
          size = r.size;
          consistent = r.consistent;
          usual = r.usual;
          words_are = r.words_are;
          homes_long = r.homes_long;
          slots = λ q b n goes. lies_still v.duty.links v.duty.before s vs (place_of r.machine n) b n q
              (λ seat c is j u e l h o. ⊎_elim
              (λ (x : (j ≢ id) × (j ≢ other) × (get_elem? s.views j ≡ some u)). (j, u, x.2, l, h, o, refl))
              (λ (x : (j ≡ id) × (joined v w ≡ u)). ⊎_elim
              (λ (y : has v.duty.shares seat ≡ true). (id, v, at, live, y, ap (λ (z : Seen). has z.hand.out q) x.1 ∙ o, ap (λ (z : Seen). z.hand) x.1))
              (λ (y : has w.duty.shares seat ≡ true). absurd (true≢false (sym (k'.all_held n seat y (is ∙ ap (λ b'. Held seat b') (subst (IsUsual v.duty.seats) is (r.usual n)).1)) ∙ nothing' n)))
              (has_append v.duty.shares w.duty.shares seat (ap (λ (z : Seen). has z.duty.shares seat) x.1 ∙ h)))
              (from j u e l))
              (r.slots q b n goes);
          spare = r.spare;
          each_seat = λ j u e l. ⊎_elim (λ (x : (j ≢ id) × (j ≢ other) × (get_elem? s.views j ≡ some u)). r.each_seat j u x.2 l)
              (λ (x : (j ≡ id) × (joined v w ≡ u)). subst (λ (z : Seen). (z.is_still ≡ false) × Knows v.duty.links v.duty.before v.duty.seats r.machine z.duty) x.1 (off, own)) (from j u e l);
          told = (
            told_joined (λ (u : Seen). u.is_live) (λ u. u.duty.started) (length v.duty.before) (is_started r.machine) s.views id other v w (joined v w) nobody at there live live' two live refl refl r.told.0,
            told_joined (λ (u : Seen). u.is_live) (λ u. u.duty.released) (length v.duty.links) (is_released r.machine) s.views id other v w (joined v w) nobody at there live live' two live refl refl r.told.1,
          );
          left = record {
            words_are = r.left.words_are;
            by_some = λ n e. some_set (λ (u : Seen). u.is_live) (λ u. u.duty.left) (set s.views id (joined v w)) other w nobody n at' (λ h. absurd (true≢false (sym h ∙ ap (λ (xs : List ℕ). has xs n) looked)))
                (some_set (λ (u : Seen). u.is_live) (λ u. u.duty.left) s.views id v (joined v w) n at (λ h. (live, h)) (r.left.by_some n e));
          };
          alone = λ i j u z seat e f l m g h. ⊎_elim
              (λ (x : (i ≢ id) × (i ≢ other) × (get_elem? s.views i ≡ some u)). ⊎_elim
              (λ (y : (j ≢ id) × (j ≢ other) × (get_elem? s.views j ≡ some z)). r.alone i j u z seat x.2 y.2 l m g h)
              (λ (y : (j ≡ id) × (joined v w ≡ z)). ⊎_elim
              (λ (t : has v.duty.shares seat ≡ true). absurd (x.0 (r.alone i id u v seat x.2 at l live g t)))
              (λ (t : has w.duty.shares seat ≡ true). absurd (x.1 (r.alone i other u w seat x.2 there l live' g t)))
              (has_append v.duty.shares w.duty.shares seat (ap (λ (o : Seen). has o.duty.shares seat) y.1 ∙ h)))
              (from j z f m))
              (λ (x : (i ≡ id) × (joined v w ≡ u)). ⊎_elim
              (λ (y : (j ≢ id) × (j ≢ other) × (get_elem? s.views j ≡ some z)). ⊎_elim
              (λ (t : has v.duty.shares seat ≡ true). absurd (y.0 (r.alone j id z v seat y.2 at m live h t)))
              (λ (t : has w.duty.shares seat ≡ true). absurd (y.1 (r.alone j other z w seat y.2 there m live' h t)))
              (has_append v.duty.shares w.duty.shares seat (ap (λ (o : Seen). has o.duty.shares seat) x.1 ∙ g)))
              (λ (y : (j ≡ id) × (joined v w ≡ z)). x.0 ∙ sym y.0)
              (from j z f m))
              (from i u e l);
        },
      )
