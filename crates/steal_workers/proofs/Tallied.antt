-- Each change of a deque keeps its rule.
use Rattle.std.proofs.Common.{◌≡◌, ◌≢◌, ℕ, zero, suc, ◌+◌, ◌<◌, ◌≤◌, List, [], ◌∷◌, ◌++◌, length, set, sum_by, sym, refl, ap, ◌∙◌, subst, ⊎_elim, append_assoc, append-nil, arith}
use Rattle.std.proofs.lemmas.List.Sums.{sum_by-cons, sum_by-append, sum_by_push}
use mathlib.Core.Option.{some, some-ne-none, some-injective}
use lib.ListN.{get_elem?}
use Rattle.crossbeam_deque.specs.Tasks.{Pushes, Takes, Finds, Forks, Merges, Learns}
use Rattle.crossbeam_deque.proofs.Lists.{at_set, set_here, at_longer, at_snoc}
use Rattle.steal_workers.specs.declared.tallies.Tally.{Tally}
use Rattle.steal_workers.specs.Tallies.{IsDeque, tally, every_part, with_pushed, with_taken, without_part, with_part, HasAll, IsEven}

-- ---- sums over the holders

-- the sum where one holder changes
sum_set : (f : Tally → ℕ) (views : List Tally) (k : ℕ) (v w : Tally) → get_elem? views k ≡ some v → sum_by f (set views k w) + f v ≡ sum_by f views + f w
sum_set f [] k v w at = absurd (some-ne-none v (sym at))
sum_set f (x ∷ xs) zero v w at = let same = ap f (some-injective x v at) in omega (arith, sum_by-cons f w xs, sum_by-cons f x xs, same)
sum_set f (x ∷ xs) (suc k) v w at = omega (arith, sum_by-cons f x (set xs k w), sum_by-cons f x xs, sum_set f xs k v w at)

one_below : (f : Tally → ℕ) (views : List Tally) (k : ℕ) (v : Tally) → get_elem? views k ≡ some v → f v ≤ sum_by f views
one_below f [] k v at = absurd (some-ne-none v (sym at))
one_below f (x ∷ xs) zero v at = let same = ap f (some-injective x v at) in omega (arith, sum_by-cons f x xs, same)
one_below f (x ∷ xs) (suc k) v at = omega (arith, sum_by-cons f x xs, one_below f xs k v at)

none_in : (f : Tally → ℕ) (views : List Tally) → sum_by (λ (v : Tally). v.parts) views ≡ 0 → ((k : ℕ) (v : Tally) → get_elem? views k ≡ some v → v.parts ≡ 0 → f v ≡ 0) → sum_by f views ≡ 0
none_in f [] none each = refl
none_in f (x ∷ xs) none each =
    let cut = sum_by-cons (λ (v : Tally). v.parts) x xs in
    let first : x.parts ≡ 0 = omega (arith, cut, none) in
    let rest = none_in f xs (omega (arith, cut, none)) (λ k v at. each (suc k) v at) in
    let mine = each 0 x refl first in
    omega (arith, sum_by-cons f x xs, mine, rest)

-- what the partless lack is all with him who has every part
all_mine : (f : Tally → ℕ) (views : List Tally) (k : ℕ) (v : Tally) → get_elem? views k ≡ some v → sum_by (λ (v : Tally). v.parts) views ≡ v.parts → ((j : ℕ) (u : Tally) → get_elem? views j ≡ some u → u.parts ≡ 0 → f u ≡ 0) → sum_by f views ≡ f v
all_mine f [] k v at whole each = absurd (some-ne-none v (sym at))
all_mine f (x ∷ xs) zero v at whole each =
    let cut = sum_by-cons (λ (v : Tally). v.parts) x xs in
    let is = some-injective x v at in
    let same = ap f is in
    let parts = ap (λ (u : Tally). u.parts) is in
    let rest = none_in f xs (omega (arith, cut, whole, parts)) (λ j u there. each (suc j) u there) in
    omega (arith, sum_by-cons f x xs, same, rest)
all_mine f (x ∷ xs) (suc k) v at whole each =
    let cut = sum_by-cons (λ (v : Tally). v.parts) x xs in
    let low = one_below (λ (v : Tally). v.parts) xs k v at in
    let mine = each 0 x refl (omega (arith, cut, whole, low)) in
    let rest = all_mine f xs k v at (omega (arith, cut, whole, low)) (λ j u there. each (suc j) u there) in
    omega (arith, sum_by-cons f x xs, mine, rest)

ones : (xs : List ℕ) → sum_by (λ (x : ℕ). 1) xs ≡ length xs
ones [] = refl
ones (x ∷ xs) = omega (arith, sum_by-cons (λ (x : ℕ). 1) x xs, ones xs)

none_long : (xs : List ℕ) → length xs ≡ 0 → xs ≡ []
none_long [] none = refl
none_long (x ∷ xs) none = absurd (omega (arith, none))

-- ---- who took nothing

abbrev Partless : List Tally → Type 0
Partless views = (holder : ℕ) (v : Tally) → get_elem? views holder ≡ some v → v.parts ≡ 0 → v.taken ≡ []

set_partless : (views : List Tally) (k : ℕ) (w : Tally) → (w.parts ≡ 0 → w.taken ≡ []) → Partless views → Partless (set views k w)
set_partless views k w mine each j u at = ⊎_elim (λ (x : (j ≡ k) × (w ≡ u)). subst (λ (y : Tally). y.parts ≡ 0 → y.taken ≡ []) x.1 mine) (λ (x : (j ≢ k) × (get_elem? views j ≡ some u)). each j u x.1) (at_set views k j w u at)

-- ---- the changes

pub begins : IsDeque [] (tally every_part [] [] ∷ [])
begins = record {
  gone = [];
  in_order = λ owner at. ap (λ (v : Tally). v.pushed) (sym (some-injective (tally every_part [] []) owner at));
  taken = λ weight. refl;
  parts = omega arith;
  partless = λ holder v at none. alone holder v at;
}
  where
    alone : (holder : ℕ) (v : Tally) → get_elem? (tally every_part [] [] ∷ []) holder ≡ some v → v.taken ≡ []
    alone zero v at = ap (λ (u : Tally). u.taken) (sym (some-injective (tally every_part [] []) v at))
    alone (suc holder) v at = absurd (some-ne-none v (sym at))

pub pushes : (v : Tally) (x : ℕ) → Pushes IsDeque 0 v (x ∷ []) (λ w. w ≡ with_pushed v (x ∷ []))
pushes v x items views h at =
    let w = with_pushed v (x ∷ []) in (
      w,
      record {
        gone = h.gone;
        in_order = λ owner there. ⊎_elim (λ (y : (0 ≡ 0) × (w ≡ owner)). ap (λ (u : Tally). u.pushed) (sym y.1) ∙ (ap (λ (l : List ℕ). l ++ x ∷ []) (h.in_order v at) ∙ append_assoc h.gone items (x ∷ []))) (λ (y : (0 ≢ 0) × (get_elem? views 0 ≡ some owner)). absurd (y.0 refl)) (at_set views 0 0 w owner there);
        taken = λ weight. omega (arith, sum_set (λ (u : Tally). sum_by weight u.taken) views 0 v w at, h.taken weight);
        parts = omega (arith, sum_set (λ (u : Tally). u.parts) views 0 v w at, h.parts);
        partless = set_partless views 0 w (h.partless 0 v at) h.partless;
      },
      refl,
    )

pub takes : (port : ℕ) (v : Tally) → 0 < v.parts → Takes IsDeque port v 1 (λ xs w. w ≡ with_taken v xs)
takes port v part xs items views some_left one h at =
    let w = with_taken v xs in (
      w,
      record {
        gone = h.gone ++ xs;
        in_order = λ owner there. ⊎_elim
            (λ (y : (0 ≡ port) × (w ≡ owner)). ap (λ (u : Tally). u.pushed) (sym y.1) ∙ (h.in_order v (subst (λ (k : ℕ). get_elem? views k ≡ some v) (sym y.0) at) ∙ sym (append_assoc h.gone xs items)))
            (λ (y : (0 ≢ port) × (get_elem? views 0 ≡ some owner)). h.in_order owner y.1 ∙ sym (append_assoc h.gone xs items)) (at_set views port 0 w owner there);
        taken = λ weight. omega (arith, sum_set (λ (u : Tally). sum_by weight u.taken) views port v w at, h.taken weight, sum_by-append weight v.taken xs, sum_by-append weight h.gone xs);
        parts = omega (arith, sum_set (λ (u : Tally). u.parts) views port v w at, h.parts);
        partless = set_partless views port w (λ none. absurd (omega (arith, part, none))) h.partless;
      },
      refl,
    )

-- who knows all took what is gone
took : (v : Tally) (items : List ℕ) (views : List Tally) (h : IsDeque items views) → get_elem? views 0 ≡ some v → HasAll v → (weight : ℕ → ℕ) → sum_by weight v.taken ≡ sum_by weight h.gone
took v items views h at all weight = sym (all_mine (λ (u : Tally). sum_by weight u.taken) views 0 v at (h.parts ∙ sym all) (λ j u there none. ap (sum_by weight) (h.partless j u there none))) ∙ h.taken weight

pub pops : (v : Tally) → 0 < v.parts → Takes IsDeque 0 v 1 (λ xs w. (w ≡ with_taken v xs) × (HasAll v → length v.taken < length v.pushed))
pops v part xs items views some_left one h at =
    let t = takes 0 v part xs items views some_left one h at in (
      t.0,
      t.1,
      (
        t.2,
        λ all.
            let taken = took v (xs ++ items) views h at all (λ (x : ℕ). 1) in
            let pushed = ap (sum_by (λ (x : ℕ). 1)) (h.in_order v at) in
            omega (arith, taken, pushed, ones v.taken, ones v.pushed, ones xs, sum_by-append (λ (x : ℕ). 1) h.gone (xs ++ items), sum_by-append (λ (x : ℕ). 1) xs items, some_left),
      ),
    )

pub finds : (v : Tally) → Finds IsDeque 0 v (HasAll v → IsEven v)
finds v views h at all weight = took v [] views h at all weight ∙ ap (sum_by weight) (sym (append-nil h.gone) ∙ sym (h.in_order v at))

some_long : (views : List Tally) (v : Tally) → get_elem? views 0 ≡ some v → 0 < length views
some_long [] v at = absurd (some-ne-none v (sym at))
some_long (x ∷ xs) v at = omega arith

pub forks : (v : Tally) → 1 < v.parts → Forks IsDeque 0 v (without_part v) (tally 1 [] [])
forks v parts items views h at =
    let l = without_part v in
    let r = tally 1 [] [] in
    let long : 0 < length views = some_long views v at in
    let here : get_elem? (set views 0 l ++ r ∷ []) 0 ≡ some l = at_longer (set views 0 l) (r ∷ []) 0 l (set_here views 0 l long) in
    record {
      gone = h.gone;
      in_order = λ owner there. ap (λ (u : Tally). u.pushed) (sym (some-injective l owner (sym here ∙ there))) ∙ h.in_order v at;
      taken = λ weight. omega (arith, sum_by_push (λ (u : Tally). sum_by weight u.taken) (set views 0 l) r, sum_set (λ (u : Tally). sum_by weight u.taken) views 0 v l at, h.taken weight);
      parts = omega (arith, sum_by_push (λ (u : Tally). u.parts) (set views 0 l) r, sum_set (λ (u : Tally). u.parts) views 0 v l at, h.parts, parts);
      partless = λ j u there none. ⊎_elim (λ (x : get_elem? (set views 0 l) j ≡ some u). set_partless views 0 l (λ few. absurd (omega (arith, few, parts))) h.partless j u x none) (λ (is : r ≡ u). ap (λ (y : Tally). y.taken) (sym is)) (at_snoc (set views 0 l) r u j there);
    }

pub merges : (v : Tally) (other : ℕ) (u : Tally) → u.parts ≡ 1 → Merges IsDeque 0 v other u (with_part v u) (tally 0 [] [])
merges v other u part items views h at apart at' =
    let both = with_part v u in
    let spent = tally 0 [] [] in
    let mid : List Tally = set views 0 both in record {
      gone = h.gone;
      in_order = λ owner there. ⊎_elim (λ (x : (0 ≡ other) × (spent ≡ owner)). absurd (apart (sym x.0)))
          (λ (x : (0 ≢ other) × (get_elem? mid 0 ≡ some owner)). ⊎_elim (λ (y : (0 ≡ 0) × (both ≡ owner)). ap (λ (z : Tally). z.pushed) (sym y.1) ∙ h.in_order v at) (λ (y : (0 ≢ 0) × (get_elem? views 0 ≡ some owner)). absurd (y.0 refl)) (at_set views 0 0 both owner x.1))
          (at_set mid other 0 spent owner there);
      taken = λ weight. omega (arith, sum_set (λ (z : Tally). sum_by weight z.taken) mid other u spent at', sum_set (λ (z : Tally). sum_by weight z.taken) views 0 v both at, h.taken weight, sum_by-append weight v.taken u.taken);
      parts = omega (arith, sum_set (λ (z : Tally). z.parts) mid other u spent at', sum_set (λ (z : Tally). z.parts) views 0 v both at, h.parts);
      partless = set_partless mid other spent (λ none. refl) (set_partless views 0 both (λ none. absurd (omega (arith, none, part))) h.partless);
    }

-- where all that was pushed was taken, the deque holds nothing
pub holds_none : (v : Tally) → HasAll v → IsEven v → Learns IsDeque 0 v (λ items. items ≡ [])
holds_none v all even items views h at =
    let taken = took v items views h at all (λ (x : ℕ). 1) in
    let pushed = ap (sum_by (λ (x : ℕ). 1)) (h.in_order v at) in
    let same = even (λ (x : ℕ). 1) in
    none_long items (omega (arith, taken, pushed, same, ones items, sum_by-append (λ (x : ℕ). 1) h.gone items))
