-- One seat knows the whole table: what it does with words, slots and its list of links.
use Rattle.std.proofs.Common.{◌≡◌, ◌≢◌, ℕ, zero, suc, ◌<◌, true, List, [], ◌∷◌, ◌++◌, length, map, set, get_or, refl, sym, ◌∙◌, ap, ⊎_elim, inl, inr, arith, true≢false}
use Rattle.std.proofs.lemmas.List.{set-get_or, map-set}
use mathlib.Core.Option.{Option, none, some, some-injective, some-ne-none}
use lib.ListN.{get_elem?}
use Rattle.atomic_table.specs.Table.{State, keeps, takes, gives, step, Allows}
use Rattle.atomic_table.proofs.Lists.{at_set, set_here}
use Rattle.table_lemmas.proofs.Readings.{inside as within}
use Rattle.session_laws.specs.jack_types.specs.declared.ports.Link.{Link}
use Rattle.activation.specs.declared.views.View.{View}
use Rattle.activation.specs.Rule.{laid, Rule}
use Rattle.activation.specs.Plays.{stored, lifted, laid_down, with_links, unlinked, linked}

set_set : {A : Type 0} (l : List A) (i : ℕ) (a b : A) → set (set l i a) i b ≡ set l i b
set_set [] i a b = refl
set_set (x ∷ xs) zero a b = refl
set_set (x ∷ xs) (suc i) a b = ap (λ ys. x ∷ ys) (set_set xs i a b)

-- slots that are all at home are the items of a list
pub homes_list : {S : Type 0} (hs : List (Option S)) → ((q : ℕ) → q < length hs → (x : S) × (get_elem? hs q ≡ some (some x))) → (items : List S) × (hs ≡ map some items)
homes_list [] h = ([], refl)
homes_list {S} (y ∷ ys) h =
    let first = h 0 (omega arith) in
    let more = homes_list ys (λ q i. h (suc q) (omega (arith, i))) in
    (first.0 ∷ more.0, λ i. some-injective y (some first.0) first.1 i ∷ more.1 i)

pub unmap : {S : Type 0} (items : List S) (q : ℕ) (x : S) → get_elem? (map some items) q ≡ some (some x) → get_elem? items q ≡ some x
unmap [] q x e = absurd (some-ne-none (some x) (sym e))
unmap (y ∷ ys) zero x e = ap some (some-injective y x (some-injective (some y) (some x) e))
unmap (y ∷ ys) (suc q) x e = unmap ys q x e

pub mapped : {S : Type 0} (items : List S) (q : ℕ) (x : S) → get_elem? items q ≡ some x → get_elem? (map some items) q ≡ some (some x)
mapped [] q x e = absurd (some-ne-none x (sym e))
mapped (y ∷ ys) zero x e = ap some e
mapped (y ∷ ys) (suc q) x e = mapped ys q x e

pub length-some : {S : Type 0} (items : List S) → length (map some items) ≡ length items
length-some [] = refl
length-some (y ∷ ys) = ap suc (length-some ys)

pub at_some : {S : Type 0} (items : List S) (q : ℕ) → q < length items → (x : S) × (get_elem? items q ≡ some x)
at_some [] q h = absurd (omega (arith, h))
at_some (y ∷ ys) zero h = (y, refl)
at_some (y ∷ ys) (suc q) h = at_some ys q (omega (arith, h))

module _ {S B : Type 0} (full done : List Link → List B → ℕ → S → Type 0) where
  abbrev pub St : Type 0
  St = State S (View S B)

  abbrev pub IsSole : St → ℕ → View S B → Type 0
  IsSole s id v = ((j : ℕ) (u : View S B) → get_elem? s.views j ≡ some u → u.is_live ≡ true → j ≡ id) × (s.words ≡ v.shelf.words) × (s.homes ≡ laid v.shelf.out (map some v.shelf.items))

  -- a still seat is the only one, and knows the table
  pub in_still : (s : St) (id : ℕ) (v : View S B) → Rule full done s → get_elem? s.views id ≡ some v → v.is_live ≡ true → v.is_still ≡ true → IsSole s id v
  in_still s id v (inl r) at live on = absurd (true≢false (sym on ∙ (r.3.each_seat id v at live).0))
  in_still s id v (inr t) at live on =
      let is : id ≡ t.sole = t.one id v at live in
      let same : t.view ≡ v = some-injective t.view v (sym t.there ∙ (ap (get_elem? s.views) (sym is) ∙ at)) in (
        (λ j u e l. t.one j u e l ∙ sym is),
        t.words_are ∙ ap (λ (u : View S B). u.shelf.words) same,
        t.homes_are ∙ ap (λ (u : View S B). laid u.shelf.out (map some u.shelf.items)) same,
      )

  -- the sole seat goes on
  pub goes_on : (s : St) (id : ℕ) (v w : View S B) (ws : List ℕ) (hs : List (Option S)) → get_elem? s.views id ≡ some v → v.is_live ≡ true → ((j : ℕ) (u : View S B) → get_elem? s.views j ≡ some u → u.is_live ≡ true → j ≡ id)
      → w.is_still ≡ true → ws ≡ w.shelf.words → hs ≡ laid w.shelf.out (map some w.shelf.items) → Rule full done record { words = ws; homes = hs; views = set s.views id w }
  goes_on s id v w ws hs at live one on words homes = inr record {
    sole = id;
    view = w;
    there = set_here s.views id w (within s.views id v at);
    still = on;
    one = λ j u e l. ⊎_elim (λ (x : (j ≡ id) × (w ≡ u)). x.0) (λ (x : (j ≢ id) × (get_elem? s.views j ≡ some u)). one j u x.1 l) (at_set s.views id j w u e);
    words_are = words;
    homes_are = homes;
  }

  pub stores : (n id : ℕ) (v : View S B) (i y : ℕ) (tail : List (ℕ × S)) → v.is_live ≡ true → v.is_still ≡ true → Allows (Rule full done) n id (v, tail) i (λ _. y) (λ _. stored (step n i y 0 none) (v, tail) y)
  stores n id v i y tail live on s rule wide at small =
      let sole = in_still s id v rule at live on in
      let w : View S B = record v { shelf = record v.shelf { words = set v.shelf.words i y } } in
      (w, keeps, tt, goes_on s id v w (set s.words i y) s.homes at live sole.0 on (ap (λ (ws : List ℕ). set ws i y) sole.1) sole.2, refl)

  pub lifts : (n id : ℕ) (v : View S B) (q : ℕ) → v.is_live ≡ true → v.is_still ≡ true → v.shelf.out ≡ [] → q < length v.shelf.items → Allows (Rule full done) n id (v, []) q (λ c. c) (lifted (step n q 0 0 none) (v, []))
  lifts n id v q live on out low s rule wide at small =
      let sole = in_still s id v rule at live on in
      let homes : s.homes ≡ map some v.shelf.items = sole.2 ∙ ap (λ (xs : List ℕ). laid xs (map some v.shelf.items)) out in
      let x = at_some v.shelf.items q low in
      let w : View S B = record v { shelf = record v.shelf { out = q ∷ [] } } in (
        w,
        takes q x.0,
        ap (λ hs. get_elem? hs q) homes ∙ mapped v.shelf.items q x.0 x.1,
        goes_on s id v w (set s.words q (get_or s.words q 0)) (set s.homes q none) at live sole.0 on (set-get_or s.words q 0 ∙ sole.1) (ap (λ hs. set hs q none) homes),
        (x.0, x.1, refl),
      )

  pub lays : (n id : ℕ) (v : View S B) (i q : ℕ) (x : S) (tail : List (ℕ × S)) → v.is_live ≡ true → v.is_still ≡ true → v.shelf.out ≡ q ∷ [] → Allows (Rule full done) n id (v, (q, x) ∷ tail) i (λ c. c) (laid_down (step n i 0 0 none) (v, (q, x) ∷ tail))
  lays n id v i q x tail live on out s rule wide at small =
      let sole = in_still s id v rule at live on in
      let homes : s.homes ≡ set (map some v.shelf.items) q none = sole.2 ∙ ap (λ (xs : List ℕ). laid xs (map some v.shelf.items)) out in
      let w : View S B = record v { shelf = record v.shelf { items = set v.shelf.items q x; out = [] } } in (
        w,
        gives,
        tt,
        goes_on s id v w (set s.words i (get_or s.words i 0)) (set s.homes q (some x)) at live sole.0 on (set-get_or s.words i 0 ∙ sole.1)
            (ap (λ hs. set hs q (some x)) homes ∙ (set_set (map some v.shelf.items) q none (some x) ∙ sym (map-set some v.shelf.items q x))),
        refl,
      )

  -- the sole seat changes its list of links
  pub unlinks : (n id : ℕ) (v : View S B) (i : ℕ) (tail : List (ℕ × S)) → v.is_live ≡ true → v.is_still ≡ true → Allows (Rule full done) n id (v, tail) i (λ c. c) (unlinked (step n i 0 0 none) (v, tail))
  unlinks n id v i tail live on s rule wide at small =
      let sole = in_still s id v rule at live on in
      (with_links v [], keeps, tt, goes_on s id v (with_links v []) (set s.words i (get_or s.words i 0)) s.homes at live sole.0 on (set-get_or s.words i 0 ∙ sole.1) sole.2, refl)

  pub links_one : (n id : ℕ) (v : View S B) (i y : ℕ) (tail : List (ℕ × S)) → v.is_live ≡ true → v.is_still ≡ true → Allows (Rule full done) n id (v, tail) i (λ _. y) (λ _. linked (step n i y 0 none) (v, tail) y)
  links_one n id v i y tail live on s rule wide at small =
      let sole = in_still s id v rule at live on in
      let w : View S B = record v { duty = record v.duty { links = v.duty.links ++ record { from = i; to = y } ∷ [] }; shelf = record v.shelf { words = set v.shelf.words i y } } in
      (w, keeps, tt, goes_on s id v w (set s.words i y) s.homes at live sole.0 on (ap (λ (ws : List ℕ). set ws i y) sole.1) sole.2, refl)
