-- What the counters of a machine say of its links, and the machine behind a step that takes a node and counts it as played.
use Rattle.std.proofs.Common.{◌≡◌, ◌≢◌, ℕ, zero, suc, ◌+◌, ◌<◌, Bool, true, false, cond, not, ◌==◌, List, [], ◌∷◌, length, set, get_or, slice_index, count_by, Contains, refl, sym, ◌∙◌, ap, subst, arith, true≢false, eqb-true, eq-eqb, length-set, get_or-set_same, get_or-set_other}
use mathlib.Core.Logic.{dite}
use native.Mathlib.Decide.{ℕ_discrete}
use Rattle.std.proofs.lemmas.Bool.Decides.{nat_tests}
use Rattle.std.proofs.lemmas.List.Sums.{sum_by-cons}
use Rattle.session_laws.specs.jack_types.specs.declared.ports.Link.{Link}
use Rattle.session_laws.specs.session_model.specs.Activation.{Place, Waiting, AtHome, Machine, link_at, incoming, is_started, is_released, place_of, open_links, IsDone, IsConsistent}
use Rattle.session_laws.specs.session_model.specs.Samples.{below}
use Rattle.session_laws.proofs.ListLemmas.{Each, Each-contains, Contains-kept}
use Rattle.session_laws.proofs.ActivationLemmas.{below-contains}

pub set_twice : {A : Type 0} (l : List A) (i : ℕ) (a b : A) → set (set l i a) i b ≡ set l i b
set_twice [] i a b = refl
set_twice (x ∷ xs) zero a b = refl
set_twice (x ∷ xs) (suc i) a b = ap (λ ys. x ∷ ys) (set_twice xs i a b)

count_zero : (p : ℕ → Bool) (xs : List ℕ) → count_by p xs ≡ 0 → Each (λ x. p x ≡ false) xs
count_zero p [] h = tt
count_zero p (x ∷ xs) h = go (p x) refl (λ e. count_zero p xs e) (sym (sum_by-cons (λ y. cond (p y) 1 0) x xs) ∙ h)
  where
    go : (b : Bool) → p x ≡ b → (count_by p xs ≡ 0 → Each (λ y. p y ≡ false) xs) → cond (p x) 1 0 + count_by p xs ≡ 0 → Each (λ y. p y ≡ false) (x ∷ xs)
    go true e f k = absurd (omega (arith, rw e at k))
    go false e f k = (e, f (omega (arith, rw e at k)))

pub count_all : (p : ℕ → Bool) (xs : List ℕ) → Each (λ x. p x ≡ true) xs → count_by p xs ≡ length xs
count_all p [] h = refl
count_all p (x ∷ xs) h = go (sum_by-cons (λ y. cond (p y) 1 0) x xs) (count_all p xs h.1)
  where
    go : count_by p (x ∷ xs) ≡ cond (p x) 1 0 + count_by p xs → count_by p xs ≡ length xs → count_by p (x ∷ xs) ≡ suc (length xs)
    go k more = let n : ℕ = cond (p x) 1 0 in let one : n ≡ 1 = ap (λ (b : Bool). cond b 1 0) h.0 in omega (arith, k, one, more)

is_on : (b : Bool) → not b ≡ false → b ≡ true
is_on true h = refl
is_on false h = absurd (true≢false h)

module _ (links : List Link) where
  -- where nothing is open, each link into the node is released
  pub none_open : (machine : Machine) (n l : ℕ) → open_links links machine n ≡ 0 → l < length links → (link_at links l).to ≡ n → is_released machine l ≡ true
  none_open machine n l none h to =
      let all : Each (λ j. not (is_released machine j) ≡ false) (incoming links n) = count_zero (λ j. not (is_released machine j)) (incoming links n) none in
      let there : Contains (incoming links n) l = Contains-kept (λ j. (link_at links j).to == n) (below (length links)) l (eq-eqb (link_at links l).to n to) (below-contains (length links) l h) in
      is_on (is_released machine l) (Each-contains (λ j. not (is_released machine j) ≡ false) (incoming links n) l all there)

  -- a node with an open link has a counter above zero
  pub open_counts : (machine : Machine) → IsConsistent links machine → (n l : ℕ) → n < length machine.places → l < length links → (link_at links l).to ≡ n → is_released machine l ≡ false → 0 < slice_index machine.counters n
  open_counts machine c n l inside h to off = cases (open_links links machine n == 0) refl
    where
      cases : (t : Bool) → (open_links links machine n == 0) ≡ t → 0 < slice_index machine.counters n
      cases false t =
          let some : 0 < open_links links machine n = grind (arith, nat_tests) in
          omega (arith, some, (c.nodes n inside).counter)
      cases true t = absurd (true≢false (sym (none_open machine n l (eqb-true (open_links links machine n) 0 t) h to) ∙ off))

  pub start_counts : (machine : Machine) → IsConsistent links machine → (n : ℕ) → n < length machine.places → is_started machine n ≡ false → 0 < slice_index machine.counters n
  start_counts machine c n inside off = let count = (c.nodes n inside).counter in omega (arith, rw off at count)

  -- each link into a node that does not wait is released
  pub taken_released : (machine : Machine) → IsConsistent links machine → (n l : ℕ) → n < length machine.places → place_of machine n ≢ Waiting → l < length links → (link_at links l).to ≡ n → is_released machine l ≡ true
  taken_released machine c n l inside held h to = cases (is_released machine l) refl
    where
      cases : (b : Bool) → is_released machine l ≡ b → is_released machine l ≡ true
      cases true e = e
      cases false e = absurd (held ((c.nodes n inside).waits.1 (open_counts machine c n l inside h to e)))

  -- a node that does not wait comes to another place
  pub moved_place : (machine : Machine) → IsConsistent links machine → (n : ℕ) (p : Place) → n < length machine.places → place_of machine n ≢ Waiting → p ≢ Waiting → p ≢ AtHome
      → ((l : ℕ) → l < length links → (link_at links l).from ≡ n → is_released machine l ≡ true → IsDone p) → IsConsistent links (record machine { places = set machine.places n p })
  moved_place machine c n p inside old waits home over =
      let places : List Place = set machine.places n p in
      let same : length places ≡ length machine.places = length-set machine.places n p in
      let placed : (k : ℕ) → k ≡ n → get_or places k Waiting ≡ p = λ k e. ap (λ j. get_or places j Waiting) e ∙ get_or-set_same machine.places n p Waiting inside in
      let elsewhere : (k : ℕ) → k ≢ n → get_or places k Waiting ≡ place_of machine k = λ k ne. get_or-set_other machine.places n k p Waiting ne in record {
        counters = c.counters ∙ sym same;
        started = c.started ∙ sym same;
        released = c.released;
        nodes = λ k low. let node = c.nodes k (omega (arith, low, same)) in record {
          counter = node.counter;
          waits = dite (ℕ_discrete k n)
              (λ e. ((λ w. absurd (waits (sym (placed k e) ∙ w))), (λ more. absurd (old (ap (place_of machine) (sym e) ∙ node.waits.1 more)))))
              (λ ne. ((λ w. node.waits.0 (sym (elsewhere k ne) ∙ w)), (λ more. elsewhere k ne ∙ node.waits.1 more)));
          home = λ e. dite (ℕ_discrete k n) (λ is. absurd (home (sym (placed k is) ∙ e))) (λ ne. node.home (sym (elsewhere k ne) ∙ e));
        };
        sources = λ l low on. dite (ℕ_discrete (link_at links l).from n)
            (λ e. subst IsDone (sym (placed (link_at links l).from e)) (over l low e on))
            (λ ne. subst IsDone (sym (elsewhere (link_at links l).from ne)) (c.sources l low on));
      }

-- within a list the default does not count
pub get_or_any : {A : Type 0} (l : List A) (i : ℕ) (a d : A) → i < length l → get_or l i a ≡ get_or l i d
get_or_any [] i a d h = absurd (omega (arith, h))
get_or_any (x ∷ xs) zero a d h = refl
get_or_any (x ∷ xs) (suc i) a d h = get_or_any xs i a d (omega (arith, h))
