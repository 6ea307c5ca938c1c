-- How many rooms a bench has.
--     room_count-is      as many as there are in its list of 64 places
--     room_count_most      at most 64
use Rattle.std.proofs.Common.{◌≡◌, ℕ, zero, suc, ◌+◌, ◌≤◌, Bool, cond, List, [], ◌∷◌, ◌++◌, length, take, get_or, Option, None, refl, sym, ◌∙◌, ap, arith}
use Rattle.std.specs.Prelude.{count_by, is_some}
use Rattle.std.proofs.Math.Seq.{take-suc}
use Rattle.std.proofs.lemmas.List.{take_all}
use Rattle.std.proofs.lemmas.List.Sums.{count_by-le-length, fold-append}
use Rattle.activation.specs.session_model.specs.Benches.{Signal}
use Rattle.activation.specs.session_model.specs.Samples.{below}
use Rattle.client_benches.specs.Seen.{Remembered, Seen, room_count}

count-more : {X : Type 0} (test : X → Bool) (xs : List X) (x : X) → count_by test (xs ++ x ∷ []) ≡ count_by test xs + cond (test x) 1 0
count-more test xs x = fold-append (λ n y. n + cond (test y) 1 0) 0 xs (x ∷ [])

count-places : {X : Type 0} (rooms : List (Option X)) (i : ℕ) → i ≤ length rooms → count_by (λ place. is_some (get_or rooms place None)) (below i) ≡ count_by is_some (take i rooms)
count-places rooms zero h = refl
count-places rooms (suc i) h =
    count-more (λ place. is_some (get_or rooms place None)) (below i) i
    ∙ ap (λ n. n + cond (is_some (get_or rooms i None)) 1 0) (count-places rooms i (omega (arith, h)))
    ∙ sym (count-more is_some (take i rooms) (get_or rooms i None))
    ∙ ap (count_by is_some) (sym (take-suc rooms i None (omega (arith, h))))

pub room_count-is : (kept : Remembered) (rooms : List (Option (List Signal))) → length rooms ≡ 64 → room_count (record { kept = kept; rooms = rooms }) ≡ count_by is_some rooms
unfolding room_count
room_count-is kept rooms long = count-places rooms 64 (omega (arith, long)) ∙ ap (count_by is_some) (take_all 64 rooms (omega (arith, long)))

pub room_count_most : (seen : Seen) → room_count seen ≤ 64
unfolding room_count
room_count_most seen = omega (arith, count_by-le-length (λ place. is_some (get_or seen.rooms place None)) (below 64))
