-- The next cycle begins.
use Rattle.std.proofs.Common.{◌≡◌, ◌≢◌, ℕ, zero, suc, ◌+◌, ◌<◌, ◌≤◌, true, false, List, [], ◌∷◌, ◌++◌, length, map, set, get_or, refl, sym, ◌∙◌, ap, subst, ⊎_elim, inl, arith, true≢false}
use Rattle.std.proofs.lemmas.List.{set-get_or}
use mathlib.Core.Option.{none, some}
use lib.ListN.{get_elem?}
use Rattle.atomic_table.specs.Table.{State, keeps, step, Allows}
use Rattle.atomic_table.proofs.Lists.{at_set}
use Rattle.session_laws.specs.jack_types.specs.declared.ports.Link.{Link}
use Rattle.session_laws.specs.session_model.specs.Activation.{AreLinks, Waiting, Held, Left, Machine, is_started, is_released, place_of, fresh}
use Rattle.session_laws.specs.session_model.specs.Samples.{below}
use Rattle.session_laws.proofs.ActivationLemmas.{IsConsistent-fresh, length-map_below}
use Rattle.activation.specs.declared.views.View.{View}
use Rattle.activation.specs.Rule.{has, IsUsual, left_word, node_of, Knows, Lies, laid, Rule}
use Rattle.activation.specs.Plays.{AreClear, begin_after, begun}
use Rattle.activation.proofs.Telling.{told_none}
use Rattle.activation.proofs.Stilling.{in_still, mapped, length-some, at_some}

module _ {S B : Type 0} (full done : List Link → List B → ℕ → S → Type 0) where
  abbrev St : Type 0
  St = State S (View S B)

  -- the next cycle begins
  pub begins : (benches_in : ℕ → List S → List B) (n id : ℕ) (v : View S B) (i : ℕ) (others : List ℕ) (tail : List (ℕ × S)) → v.is_live ≡ true → v.is_still ≡ true → v.shelf.out ≡ []
      → ((seat : ℕ) → has v.duty.shares seat ≡ true → seat < v.duty.seats) → ((seat : ℕ) × (has v.duty.shares seat ≡ true)) → AreLinks (length (benches_in n v.shelf.items)) v.duty.links
      → v.shelf.words ≡ (fresh (length (benches_in n v.shelf.items)) v.duty.links).counters ++ others → length (benches_in n v.shelf.items) + length v.duty.links ≤ length v.shelf.items
      → AreClear (length (benches_in n v.shelf.items)) v.shelf.words
      → ((q : ℕ) → q < length (benches_in n v.shelf.items) → (x : S) × full v.duty.links (benches_in n v.shelf.items) q x × (get_elem? v.shelf.items q ≡ some x))
      → Allows (Rule full done) n id (v, tail) i (λ c. c) (begun benches_in (step n i 0 0 none) (v, tail))
  begins benches_in n id v i others tail live on out shares some_share are words long clear filled s rule wide at small =
      let sole = in_still full done s id v rule at live on in
      let links : List Link = v.duty.links in
      let before : List B = benches_in n v.shelf.items in
      let homes : s.homes ≡ map some v.shelf.items = sole.2 ∙ ap (λ (xs : List ℕ). laid xs (map some v.shelf.items)) out in
      let size : length s.homes ≡ length v.shelf.items = ap length homes ∙ length-some v.shelf.items in
      let m : Machine = fresh (length before) links in
      let w : View S B = begin_after (benches_in n) v in
      let st : St = record { words = set s.words i (get_or s.words i 0); homes = s.homes; views = set s.views id w } in
      let waits : (q : ℕ) → place_of m q ≡ Waiting = λ q. one_everywhere Waiting (below (length before)) q in
      let unreleased : (l : ℕ) → is_released m l ≡ false = λ l. one_everywhere false (below (length links)) l in
      let unstarted : (q : ℕ) → is_started m q ≡ false = λ q. one_everywhere false (below (length before)) q in
      let item : (q : ℕ) → q < length s.homes → (x : S) × (get_elem? s.homes q ≡ some (some x)) = λ q h. let x = at_some v.shelf.items q (omega (arith, h, size)) in (x.0, ap (λ hs. get_elem? hs q) homes ∙ mapped v.shelf.items q x.0 x.1) in (
        w,
        keeps,
        tt,
        inl (
          links,
          before,
          v.duty.seats,
          record {
            machine = m;
            others = others;
            are = are;
            some_seat = (let low = shares some_share.0 some_share.1 in omega (arith, low));
            size = length-map_below (λ q. Waiting) (length before);
            consistent = IsConsistent-fresh (length before) links;
            usual = λ q. subst (IsUsual v.duty.seats) (sym (waits q)) tt;
            words_are = set-get_or s.words i 0 ∙ (sole.1 ∙ words);
            homes_long = omega (arith, long, size);
            slots = λ q b j goes. subst (λ p. Lies full done links before st p b j q) (sym (waits j)) (⊎_elim
                (λ (g : (q < length before) × (j ≡ q) × (b ≡ true)). subst (λ c. Lies full done links before st Waiting c j q) (sym g.2) (let x = filled q g.0 in (x.0, x.1, ap (λ hs. get_elem? hs q) homes ∙ mapped v.shelf.items q x.0 x.2)))
                (λ (g : (l : ℕ) × (l < length links) × (q ≡ length before + l) × (b ≡ is_released m l) × (j ≡ node_of links (is_released m l) l)).
                subst (λ c. Lies full done links before st Waiting c j q) (sym (g.3 ∙ unreleased g.0)) (let x = item q (omega (arith, g.1, g.2, long, size)) in (x.0, tt, x.1)))
                goes);
            spare = λ q h k. let x = item q k in (x.0, tt, x.1);
            each_seat = λ j u e l. ⊎_elim
                (λ (x : (j ≡ id) × (w ≡ u)). subst (λ (z : View S B). (z.is_still ≡ false) × Knows links before v.duty.seats m z.duty) x.1 (
                  refl,
                  record {
                    same_links = refl;
                    same_before = refl;
                    same_seats = refl;
                    within = shares;
                    some_share = some_share;
                    holds = λ q h. absurd (true≢false (sym h));
                    all_held = λ q seat h e'. absurd (waiting_held seat (sym (waits q) ∙ e'));
                    own_started = λ q k h. unstarted q;
                    own_released = λ k i' h. unreleased k;
                    all_started = λ q h. absurd (true≢false (sym h));
                    all_released = λ k h. absurd (true≢false (sym h));
                  },
                ))
                (λ (x : (j ≢ id) × (get_elem? s.views j ≡ some u)). absurd (x.0 (sole.0 j u x.1 l)))
                (at_set s.views id j w u e);
            told = (
              told_none (λ (u : View S B). u.is_live) (λ u. u.duty.started) (length before) (is_started m) (set s.views id w) unstarted (λ j u e l. ap (λ (z : View S B). z.duty.started) (sym (new_only s id w sole.0 j u e l))),
              told_none (λ (u : View S B). u.is_live) (λ u. u.duty.released) (length links) (is_released m) (set s.views id w) unreleased (λ j u e l. ap (λ (z : View S B). z.duty.released) (sym (new_only s id w sole.0 j u e l))),
            );
            left = record {
              words_are = λ q low. ap (λ ws. get_elem? ws (length before + 513 + q)) (set-get_or s.words i 0 ∙ sole.1) ∙ (clear q low ∙ ap (λ p. some (left_word p)) (sym (waits q)));
              by_some = λ q e. absurd (waiting_left (sym (waits q) ∙ e));
            };
            alone = λ a b u z seat e f l k g h. sole_after s id w sole.0 a u e l ∙ sym (sole_after s id w sole.0 b z f k);
          },
        ),
        refl,
      )
    where
      one_everywhere : {X : Type 0} (x : X) (xs : List ℕ) (k : ℕ) → get_or (map (λ j. x) xs) k x ≡ x
      one_everywhere x [] k = refl
      one_everywhere x (y ∷ xs) zero = refl
      one_everywhere x (y ∷ xs) (suc k) = one_everywhere x xs k

      waiting_left : Waiting ≡ Left → ⊥
      waiting_left e = cc

      waiting_held : (seat : ℕ) → Waiting ≡ Held seat true → ⊥
      waiting_held seat e = cc

      sole_after : (s : St) (id : ℕ) (w : View S B) → ((j : ℕ) (u : View S B) → get_elem? s.views j ≡ some u → u.is_live ≡ true → j ≡ id) → (j : ℕ) (u : View S B) → get_elem? (set s.views id w) j ≡ some u → u.is_live ≡ true → j ≡ id
      sole_after s id w one j u e l = ⊎_elim (λ (x : (j ≡ id) × (w ≡ u)). x.0) (λ (x : (j ≢ id) × (get_elem? s.views j ≡ some u)). one j u x.1 l) (at_set s.views id j w u e)

      new_only : (s : St) (id : ℕ) (w : View S B) → ((j : ℕ) (u : View S B) → get_elem? s.views j ≡ some u → u.is_live ≡ true → j ≡ id) → (j : ℕ) (u : View S B) → get_elem? (set s.views id w) j ≡ some u → u.is_live ≡ true → w ≡ u
      new_only s id w one j u e l = ⊎_elim (λ (x : (j ≡ id) × (w ≡ u)). x.1) (λ (x : (j ≢ id) × (get_elem? s.views j ≡ some u)). absurd (x.0 (one j u x.1 l))) (at_set s.views id j w u e)
