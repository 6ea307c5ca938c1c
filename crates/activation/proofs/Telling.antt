-- What each seat's lists tell stays told once, over every kind of step.
use Rattle.std.proofs.Common.{◌≡◌, ◌≢◌, ◌⊎◌, ℕ, ◌<◌, Bool, true, false, List, [], ◌∷◌, ◌++◌, length, set, refl, sym, ◌∙◌, ap, subst, ⊎_elim, inl, inr, true≢false}
use mathlib.Core.Logic.{dite}
use mathlib.Core.Option.{some, some-injective}
use native.Mathlib.Decide.{ℕ_discrete}
use lib.ListN.{get_elem?}
use Rattle.atomic_table.proofs.Lists.{at_set, set_here, set_else, set_again, at_longer}
use Rattle.table_lemmas.proofs.Views.{each_set, each_snoc, at_snoc_last}
use Rattle.table_lemmas.proofs.Readings.{inside}
use Rattle.activation.specs.Rule.{has, Once, IsInSome, Told}
use Rattle.activation.proofs.Testing.{has_here, has_skip, has_there, has_append, has_left, has_right, off_or_on}

-- two lists that share no number
pub Once-append : (xs ys : List ℕ) → Once xs → Once ys → ((x : ℕ) → has xs x ≡ true → has ys x ≡ true → ⊥) → Once (xs ++ ys)
Once-append [] ys one two apart = two
Once-append (x ∷ xs) ys one two apart = (
  off_or_on (has (xs ++ ys) x) (λ on. ⊎_elim (λ (h : has xs x ≡ true). true≢false (sym h ∙ one.0)) (λ (h : has ys x ≡ true). apart x (has_here x xs) h) (has_append xs ys x on)),
  Once-append xs ys one.1 two (λ y h g. apart y (has_there x xs y h) g),
)

module _ {V : Type 0} (is_live : V → Bool) (list : V → List ℕ) where
  -- a number of the seat's list stands in its new list
  pub some_set : (views : List V) (id : ℕ) (v w : V) (x : ℕ) → get_elem? views id ≡ some v → (has (list v) x ≡ true → (is_live w ≡ true) × (has (list w) x ≡ true)) → IsInSome is_live list views x → IsInSome is_live list (set views id w) x
  some_set views id v w x at keeps k = dite (ℕ_discrete k.0 id)
      (λ is.
      let new = keeps (ap (λ (u : V). has (list u) x) (sym (some-injective k.1 v (sym k.2 ∙ (ap (get_elem? views) is ∙ at)))) ∙ k.4) in
      (id, w, set_here views id w (inside views id v at), new.0, new.1))
      (λ ne. (k.0, k.1, set_else views id k.0 w ne ∙ k.2, k.3, k.4))

  pub some_longer : (views more : List V) (x : ℕ) → IsInSome is_live list views x → IsInSome is_live list (views ++ more) x
  some_longer views more x k = (k.0, k.1, at_longer views more k.0 k.1 k.2, k.3, k.4)

module _ {V : Type 0} (is_live : V → Bool) (list : V → List ℕ) (limit : ℕ) where
  -- what a list has is on
  abbrev pub AllOn : (on : ℕ → Bool) → List V → Type 0
  AllOn on views = (j : ℕ) (v : V) (x : ℕ) → get_elem? views j ≡ some v → is_live v ≡ true → has (list v) x ≡ true → on x ≡ true

  -- one seat goes on with the list that it had
  pub told_kept : (on on' : ℕ → Bool) (views : List V) (id : ℕ) (v w : V) → get_elem? views id ≡ some v → is_live v ≡ true → is_live w ≡ true → list w ≡ list v → ((x : ℕ) → x < limit → on' x ≡ true → on x ≡ true)
      → Told is_live list limit on views → Told is_live list limit on' (set views id w)
  told_kept on on' views id v w at live stays same back t = record {
    by_some = λ x low h.
        let k = t.by_some x low (back x low h) in
        dite (ℕ_discrete k.0 id)
        (λ is. (id, w, set_here views id w (inside views id v at), stays, ap (λ (l : List ℕ). has l x) (same ∙ sym (ap list (some-injective k.1 v (sym k.2 ∙ (ap (get_elem? views) is ∙ at))))) ∙ k.4))
        (λ ne. (k.0, k.1, set_else views id k.0 w ne ∙ k.2, k.3, k.4));
    by_one = λ i j a b x e f l m g h.
        let p = was i a e l in
        let q = was j b f m in
        t.by_one i j p.0 q.0 x p.1 q.1 p.2 q.2 (ap (λ (l : List ℕ). has l x) (sym p.3) ∙ g) (ap (λ (l : List ℕ). has l x) (sym q.3) ∙ h);
    once = each_set (λ j u. is_live u ≡ true → Once (list u)) views id w (λ _. subst Once (sym same) (t.once id v at live)) (λ j u other e l. t.once j u e l);
  }
    where
      was : (j : ℕ) (u : V) → get_elem? (set views id w) j ≡ some u → is_live u ≡ true → (o : V) × (get_elem? views j ≡ some o) × (is_live o ≡ true) × (list u ≡ list o)
      was j u e l = ⊎_elim
          (λ (x : (j ≡ id) × (w ≡ u)). (v, ap (get_elem? views) x.0 ∙ at, live, ap list (sym x.1) ∙ same))
          (λ (x : (j ≢ id) × (get_elem? views j ≡ some u)). (u, x.1, l, refl))
          (at_set views id j w u e)

  -- one seat tells a number more, which was not on
  pub told_more : (on on' : ℕ → Bool) (views : List V) (id n : ℕ) (v w : V) → get_elem? views id ≡ some v → is_live v ≡ true → is_live w ≡ true → list w ≡ n ∷ list v → on n ≡ false → ((x : ℕ) → x ≢ n → on' x ≡ true → on x ≡ true)
      → AllOn on views → Told is_live list limit on views → Told is_live list limit on' (set views id w)
  told_more on on' views id n v w at live stays more off back all t = record {
    by_some = λ x low h. dite (ℕ_discrete x n)
        (λ is. (id, w, here, stays, ap (λ (l : List ℕ). has l x) more ∙ (ap (has (n ∷ list v)) is ∙ has_here n (list v))))
        (λ ne.
        let k = t.by_some x low (back x ne h) in
        dite (ℕ_discrete k.0 id)
        (λ is. (
          id,
          w,
          here,
          stays,
          ap (λ (l : List ℕ). has l x) more ∙ has_there n (list v) x (ap (λ (u : V). has (list u) x) (sym (some-injective k.1 v (sym k.2 ∙ (ap (get_elem? views) is ∙ at)))) ∙ k.4),
        ))
        (λ apart. (k.0, k.1, set_else views id k.0 w apart ∙ k.2, k.3, k.4)));
    by_one = λ i j a b x e f l m g h. dite (ℕ_discrete x n)
        (λ is. first i a e l (ap (has (list a)) (sym is) ∙ g) ∙ sym (first j b f m (ap (has (list b)) (sym is) ∙ h)))
        (λ ne.
        let p = was i a e l x ne g in
        let q = was j b f m x ne h in
        t.by_one i j p.0 q.0 x p.1 q.1 p.2 q.2 p.3 q.3);
    once = each_set (λ j u. is_live u ≡ true → Once (list u)) views id w (λ _. subst Once (sym more) (fresh id v at live, t.once id v at live)) (λ j u other e l. t.once j u e l);
  }
    where
      here : get_elem? (set views id w) id ≡ some w
      here = set_here views id w (inside views id v at)

      -- no seat told it before
      fresh : (j : ℕ) (u : V) → get_elem? views j ≡ some u → is_live u ≡ true → has (list u) n ≡ false
      fresh j u e l = off_or_on (has (list u) n) (λ h. true≢false (sym (all j u n e l h) ∙ off))

      first : (j : ℕ) (u : V) → get_elem? (set views id w) j ≡ some u → is_live u ≡ true → has (list u) n ≡ true → j ≡ id
      first j u e l h = ⊎_elim
          (λ (x : (j ≡ id) × (w ≡ u)). x.0)
          (λ (x : (j ≢ id) × (get_elem? views j ≡ some u)). absurd (true≢false (sym h ∙ fresh j u x.1 l)))
          (at_set views id j w u e)

      was : (j : ℕ) (u : V) → get_elem? (set views id w) j ≡ some u → is_live u ≡ true → (x : ℕ) → x ≢ n → has (list u) x ≡ true → (o : V) × (get_elem? views j ≡ some o) × (is_live o ≡ true) × (has (list o) x ≡ true)
      was j u e l x ne h = ⊎_elim
          (λ (y : (j ≡ id) × (w ≡ u)). (v, ap (get_elem? views) y.0 ∙ at, live, sym (has_skip n (list v) x (λ is. ne (sym is))) ∙ (ap (λ (l : List ℕ). has l x) (sym more ∙ ap list y.1) ∙ h)))
          (λ (y : (j ≢ id) × (get_elem? views j ≡ some u)). (u, y.1, l, h))
          (at_set views id j w u e)

  -- a seat with an empty list becomes two such seats
  pub told_split : (on : ℕ → Bool) (views : List V) (id : ℕ) (v left right : V) → get_elem? views id ≡ some v → is_live v ≡ true → list v ≡ [] → is_live left ≡ true → list left ≡ [] → (is_live right ≡ true → list right ≡ [])
      → Told is_live list limit on views → Told is_live list limit on (set views id left ++ right ∷ [])
  told_split on views id v left right at live none stays left_none right_none t =
      let k = told_kept on on views id v left at live stays (left_none ∙ sym none) (λ x low h. h) t in record {
        by_some = λ x low h. let y = k.by_some x low h in (y.0, y.1, at_longer (set views id left) (right ∷ []) y.0 y.1 y.2, y.3, y.4);
        by_one = λ i j a b x e f l m g h. k.by_one i j a b x (old i a x e l g) (old j b x f m h) l m g h;
        once = each_snoc (λ j u. is_live u ≡ true → Once (list u)) (set views id left) right k.once (λ l. subst Once (sym (right_none l)) tt);
      }
    where
      old : (j : ℕ) (u : V) (x : ℕ) → get_elem? (set views id left ++ right ∷ []) j ≡ some u → is_live u ≡ true → has (list u) x ≡ true → get_elem? (set views id left) j ≡ some u
      old j u x e l h = ⊎_elim (λ (y : get_elem? (set views id left) j ≡ some u). y)
          (λ (y : (j ≡ length (set views id left)) × (right ≡ u)). absurd (true≢false (sym h ∙ ap (λ (l : List ℕ). has l x) (ap list (sym y.1) ∙ right_none (ap is_live y.1 ∙ l)))))
          (at_snoc_last (set views id left) right u j e)

  -- a seat takes in another's list
  pub told_joined : (on : ℕ → Bool) (views : List V) (id other : ℕ) (v w both spent : V) → get_elem? views id ≡ some v → get_elem? views other ≡ some w → is_live v ≡ true → is_live w ≡ true → other ≢ id → is_live both ≡ true
      → list both ≡ list v ++ list w → is_live spent ≡ false → Told is_live list limit on views → Told is_live list limit on (set (set views id both) other spent)
  told_joined on views id other v w both spent at at' live live' two stays more gone t = record {
    by_some = λ x low h.
        let k = t.by_some x low h in
        dite (ℕ_discrete k.0 id)
        (λ is. (id, both, here, stays, ap (λ (l : List ℕ). has l x) more ∙ has_left (list v) (list w) x (ap (λ (u : V). has (list u) x) (sym (some-injective k.1 v (sym k.2 ∙ (ap (get_elem? views) is ∙ at)))) ∙ k.4)))
        (λ ne. dite (ℕ_discrete k.0 other)
        (λ is. (id, both, here, stays, ap (λ (l : List ℕ). has l x) more ∙ has_right (list v) (list w) x (ap (λ (u : V). has (list u) x) (sym (some-injective k.1 w (sym k.2 ∙ (ap (get_elem? views) is ∙ at')))) ∙ k.4)))
        (λ apart. (k.0, k.1, set_else (set views id both) other k.0 spent apart ∙ (set_else views id k.0 both ne ∙ k.2), k.3, k.4)));
    by_one = λ i j a b x e f l m g h. ⊎_elim
        (λ (y : (i ≢ id) × (i ≢ other) × (get_elem? views i ≡ some a)). ⊎_elim
        (λ (z : (j ≢ id) × (j ≢ other) × (get_elem? views j ≡ some b)). t.by_one i j a b x y.2 z.2 l m g h)
        (λ (z : (j ≡ id) × (both ≡ b)). absurd (far i a x y.0 y.1 y.2 l g (ap (λ (u : V). has (list u) x) z.1 ∙ h)))
        (from j b f m))
        (λ (y : (i ≡ id) × (both ≡ a)). ⊎_elim
        (λ (z : (j ≢ id) × (j ≢ other) × (get_elem? views j ≡ some b)). absurd (far j b x z.0 z.1 z.2 m h (ap (λ (u : V). has (list u) x) y.1 ∙ g)))
        (λ (z : (j ≡ id) × (both ≡ b)). y.0 ∙ sym z.0)
        (from j b f m))
        (from i a e l);
    once = λ j u e l. ⊎_elim
        (λ (y : (j ≢ id) × (j ≢ other) × (get_elem? views j ≡ some u)). t.once j u y.2 l)
        (λ (y : (j ≡ id) × (both ≡ u)). subst Once (sym more ∙ ap list y.1) (Once-append (list v) (list w) (t.once id v at live) (t.once other w at' live') (λ x h g. two (t.by_one other id w v x at' at live' live g h))))
        (from j u e l);
  }
    where
      here : get_elem? (set (set views id both) other spent) id ≡ some both
      here = set_else (set views id both) other id spent (λ e. two (sym e)) ∙ set_here views id both (inside views id v at)

      from : (j : ℕ) (u : V) → get_elem? (set (set views id both) other spent) j ≡ some u → is_live u ≡ true → ((j ≢ id) × (j ≢ other) × (get_elem? views j ≡ some u)) ⊎ ((j ≡ id) × (both ≡ u))
      from j u e l = ⊎_elim
          (λ (x : (j ≡ other) × (spent ≡ u)). absurd (true≢false (sym l ∙ (ap is_live (sym x.1) ∙ gone))))
          (λ (x : (j ≢ other) × (get_elem? (set views id both) j ≡ some u)). ⊎_elim (λ (y : (j ≡ id) × (both ≡ u)). inr y) (λ (y : (j ≢ id) × (get_elem? views j ≡ some u)). inl (y.0, x.0, y.1)) (at_set views id j both u x.1))
          (at_set (set views id both) other j spent u e)

      -- a third seat shares no number with the two
      far : (j : ℕ) (u : V) (x : ℕ) → j ≢ id → j ≢ other → get_elem? views j ≡ some u → is_live u ≡ true → has (list u) x ≡ true → has (list both) x ≡ true → ⊥
      far j u x ne ne' e l h g = ⊎_elim
          (λ (y : has (list v) x ≡ true). ne (t.by_one j id u v x e at l live h y))
          (λ (y : has (list w) x ≡ true). ne' (t.by_one j other u w x e at' l live' h y))
          (has_append (list v) (list w) x (ap (λ (l : List ℕ). has l x) (sym more) ∙ g))

  -- a spent seat comes to the others
  pub told_husk : (on : ℕ → Bool) (views : List V) (id : ℕ) (v husk : V) → get_elem? views id ≡ some v → is_live husk ≡ false → Told is_live list limit on views → Told is_live list limit on (set views id v ++ husk ∷ [])
  told_husk on views id v husk at gone t = subst (λ (l : List V). Told is_live list limit on (l ++ husk ∷ [])) (sym (set_again views id v at)) record {
    by_some = λ x low h. let k = t.by_some x low h in (k.0, k.1, at_longer views (husk ∷ []) k.0 k.1 k.2, k.3, k.4);
    by_one = λ i j a b x e f l m g h. t.by_one i j a b x (old i a e l) (old j b f m) l m g h;
    once = λ j u e l. t.once j u (old j u e l) l;
  }
    where
      old : (j : ℕ) (u : V) → get_elem? (views ++ husk ∷ []) j ≡ some u → is_live u ≡ true → get_elem? views j ≡ some u
      old j u e l = ⊎_elim (λ (y : get_elem? views j ≡ some u). y) (λ (y : (j ≡ length views) × (husk ≡ u)). absurd (true≢false (sym l ∙ (ap is_live (sym y.1) ∙ gone)))) (at_snoc_last views husk u j e)

  -- nothing is told yet
  pub told_none : (on : ℕ → Bool) (views : List V) → ((x : ℕ) → on x ≡ false) → ((j : ℕ) (v : V) → get_elem? views j ≡ some v → is_live v ≡ true → list v ≡ []) → Told is_live list limit on views
  told_none on views off none = record {
    by_some = λ x low h. absurd (true≢false (sym h ∙ off x));
    by_one = λ i j v w x e f l m g h. absurd (true≢false (sym g ∙ ap (λ (xs : List ℕ). has xs x) (none i v e l)));
    once = λ j v e l. subst Once (sym (none j v e l)) tt;
  }
