-- A new table meets the ring's rule.
use Rattle.std.proofs.Common.{◌≡◌, ℕ, zero, suc, ◌<◌, ◌≤◌, true, false, List, [], ◌∷◌, length, map, sym, refl, ap, ◌∙◌, subst, ⊎_elim, arith, mod-eq_of_lt}
use Rattle.std.specs.List.{All}
use Rattle.std.proofs.lemmas.List.Elements.{All-nil, All-head, All-tail}
use mathlib.Core.Option.{Option, some, some-ne-none}
use lib.ListN.{get_elem?, length-map}
use Rattle.atomic_table.specs.Table.{opening}
use Rattle.table_lemmas.proofs.Views.{at_snoc_last}
use Rattle.record_ring.specs.declared.block.Block.{Block}
use Rattle.record_ring.specs.declared.view.Size.{Size}
use Rattle.record_ring.specs.declared.view.SeatView.{SeatView}
use Rattle.record_ring.specs.Rule.{HasRoomFor, KnowsPut, KnowsGot, RingRule, opening_view}
use Rattle.record_ring.proofs.Moves.{shows}

spare_there : (n : ℕ) (xs : List Block) (q : ℕ) → q < length xs → All (HasRoomFor n) xs → (a : Block) × HasRoomFor n a × (get_elem? (map some xs) q ≡ some (some a))
spare_there n [] q h all = absurd (omega arith)
spare_there n (x ∷ xs) zero h all = (x, All-head (HasRoomFor n) x xs all, refl)
spare_there n (x ∷ xs) (suc q) h all = spare_there n xs q (omega arith) (All-tail (HasRoomFor n) x xs all)

pub opens : (z : Size) (xs : List Block) → All (HasRoomFor z.samples) xs → RingRule z (opening (0 ∷ 0 ∷ []) xs (opening_view z))
opens z xs all = let hs : List (Option Block) = map some xs in let m : ℕ = length hs in let same : m ≡ length xs = length-map xs some in
    let only : (Q : ℕ → SeatView → Type 0) → Q 0 (opening_view z) → (j : ℕ) (u : SeatView) → get_elem? (opening_view z ∷ []) j ≡ some u → Q j u = λ Q h j u e. ⊎_elim (λ (a : get_elem? [] j ≡ some u). absurd (some-ne-none u (sym a)))
    (λ (a : (j ≡ 0) × (opening_view z ≡ u)). subst (λ (y : ℕ × SeatView). Q y.0 y.1) (λ k. (sym a.0 k, a.1 k)) h) (at_snoc_last [] (opening_view z) u j e) in
    record {
      put = [];
      taken = 0;
      ended = false;
      producer = 0;
      consumer = 0;
      lent = 0;
      drawn = 0;
      words_are = refl;
      valid = shows z [] 0 false m (omega arith) (omega arith) (omega arith);
      behind = omega arith;
      within = omega arith;
      waiting = λ q a b. absurd (omega arith);
      spare = λ q a b. let near : q < m = omega arith in let u = spare_there z.samples xs q (omega arith) all in (u.0, u.1, ap (λ (j : ℕ). get_elem? hs j) (mod-eq_of_lt near) ∙ u.2);
      each_producer = only (λ j u. u.is_producer ≡ true → (j ≡ 0) × KnowsPut z [] false 0 0 u.size u.producer)
          (λ _. (refl, record { same_size = refl; all_put = refl; mark = refl; slot_out = refl; least_low = omega arith; looks_low = All-nil (λ q. q ≤ 0) }));
      each_consumer = only (λ j u. u.is_consumer ≡ true → (j ≡ 0) × KnowsGot z [] false 0 0 u.size u.consumer)
          (λ _. (refl, record { same_size = refl; first_put = refl; next_put = refl; least_low = omega arith; finds_low = All-nil (λ q. q ≤ 0); told_end = λ (is : false ≡ true). absurd (cc); all_done = λ (is : false ≡ true). absurd (cc) }));
    }
