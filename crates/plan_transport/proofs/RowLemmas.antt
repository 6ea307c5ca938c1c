-- A row does not depend on the order of the slow numbers.
--     next_row-permuted
use Rattle.std.proofs.Common.{◌≡◌, ℕ, ◌+◌, Bool, true, false, cond, not, ◌&&◌, ◌||◌, List, [], ◌∷◌, length, nat_lt, nat_le, IsPermutation, Option, Some, None, is_some, refl, sym, ◌∙◌, ap}
use Rattle.std.specs.List.{list_all, list_any}
use Rattle.std.proofs.lemmas.List.Sorted.{list_any-IsPermutation}
use Rattle.jack_types.specs.declared.commands.Change.{Change}
use Rattle.jack_types.specs.declared.moments.TransportState.{TransportState}
use Rattle.jack_types.specs.declared.moments.TransportState.TheVariants.{Stopped, Rolling, Starting}
use Rattle.session_model.specs.Transport.{Row, is_ready, last_asked, last_target, next_frame, next_row, next_state}
use Rattle.transport.specs.Standings.{counted}
use Rattle.transport.proofs.CountedLemmas.{list_all_counted, list_any_counted}

list_all-as_any : {X : Type 0} (p : X → Bool) (xs : List X) → list_all p xs ≡ not (list_any (λ x. not (p x)) xs)
list_all-as_any p [] = refl
list_all-as_any {X} p (x ∷ xs) = go (p x) (list_all-as_any p xs)
  where
    go : (b : Bool) → list_all p xs ≡ not (list_any (λ x. not (p x)) xs) → (b && list_all p xs) ≡ not (not b || list_any (λ x. not (p x)) xs)
    go true h = h
    go false h = refl

list_all-permuted : {X : Type 0} (p : X → Bool) (xs ys : List X) → IsPermutation xs ys → list_all p xs ≡ list_all p ys
list_all-permuted p xs ys same = list_all-as_any p xs ∙ ap not (list_any-IsPermutation (λ x. not (p x)) xs ys same) ∙ sym (list_all-as_any p ys)

module _ (xs ys : List ℕ) (same : IsPermutation xs ys) (timeout : ℕ) where
  is_ready-permuted : (wait : ℕ) → is_ready wait (counted xs) timeout ≡ is_ready wait (counted ys) timeout
  is_ready-permuted wait = ap (λ (b : Bool). b || nat_le timeout wait)
      (list_all_counted wait xs ∙ list_all-permuted (λ cycles. nat_le cycles wait) xs ys same ∙ sym (list_all_counted wait ys))

  are_slow-permuted : nat_lt 0 (length (counted xs)) ≡ nat_lt 0 (length (counted ys))
  are_slow-permuted = list_any_counted xs ∙ list_any-IsPermutation (λ cycles. nat_lt 0 cycles) xs ys same ∙ sym (list_any_counted ys)

  abbrev waiting : (wait : ℕ) → Bool → TransportState × ℕ
  waiting wait ready = cond ready (Rolling, 0) (Starting, wait + 1)

  abbrev rolling : Bool → Bool → TransportState × ℕ
  rolling moves slow = cond (moves && slow) (Starting, 0) (Rolling, 0)

  next_state-permuted : (state : TransportState) (asked : Option TransportState) (moves : Bool) (wait : ℕ) → next_state state asked moves wait (counted xs) timeout ≡ next_state state asked moves wait (counted ys) timeout
  next_state-permuted Stopped None moves wait = refl
  next_state-permuted Stopped (Some Stopped) moves wait = refl
  next_state-permuted Stopped (Some Starting) moves wait = refl
  next_state-permuted Stopped (Some Rolling) moves wait = refl
  next_state-permuted Starting None true wait = refl
  next_state-permuted Starting None false wait = ap (waiting wait) (is_ready-permuted (wait + 1))
  next_state-permuted Starting (Some Stopped) moves wait = refl
  next_state-permuted Starting (Some Starting) true wait = refl
  next_state-permuted Starting (Some Starting) false wait = ap (waiting wait) (is_ready-permuted (wait + 1))
  next_state-permuted Starting (Some Rolling) true wait = refl
  next_state-permuted Starting (Some Rolling) false wait = ap (waiting wait) (is_ready-permuted (wait + 1))
  next_state-permuted Rolling None moves wait = ap (rolling moves) are_slow-permuted
  next_state-permuted Rolling (Some Stopped) moves wait = refl
  next_state-permuted Rolling (Some Starting) moves wait = ap (rolling moves) are_slow-permuted
  next_state-permuted Rolling (Some Rolling) moves wait = ap (rolling moves) are_slow-permuted

  pub next_row-permuted : (row : Row) (changes : List Change) (period : ℕ) → next_row row changes (counted xs) timeout period ≡ next_row row changes (counted ys) timeout period
  next_row-permuted row changes period = ap row_at (next_state-permuted row.state (last_asked changes) (is_some row.target) row.wait)
    where
      row_at : TransportState × ℕ → Row
      row_at next = record { state = next.0; frame = next_frame row; wait = next.1; target = last_target changes; period = period }
