-- Lists: what is found in them, sums over one item more, and how long a block is.
--     found-permuted, any-permuted      whether an item passes a test does not depend on their order
--     sum-next      a sum over one item more
--     interleaved-length      how many samples an interleaved block has
use Rattle.std.proofs.Common.{◌≡◌, ℕ, zero, suc, ◌+◌, ◌*◌, ◌<◌, ◌||◌, cond, Bool, true, false, List, [], ◌∷◌, find, length, map, take, get_or, sum_by, Contains, ℤ, IsPermutation, Option, Some, None, is_some, refl, sym, ◌∙◌, ap, arith, true≢false, take-suc}
use Rattle.std.specs.List.{list_any}
use Rattle.std.proofs.lemmas.List.{length-map}
use Rattle.std.proofs.lemmas.List.Concat.{length-flat_map}
use Rattle.std.proofs.lemmas.List.Sorted.{Contains-permutation, IsPermutation-sym}
use Rattle.std.proofs.lemmas.List.Sums.{sum_by_push}
use Rattle.session_model.specs.Samples.{below, interleaved, sample}
use Rattle.session_laws.proofs.CycleLemmas.{find-contains, find-passes}
use Rattle.session_laws.proofs.SoundLemmas.{find-none}

found-from : {X : Type 0} (test : X → Bool) (xs ys : List X) → ((x : X) → Contains xs x → Contains ys x) → is_some (find test xs) ≡ true → is_some (find test ys) ≡ true
found-from {X} test xs ys within found = go (find test xs) refl found
  where
    not_none : (x : X) → find test xs ≡ Some x → (b : Bool) → is_some (find test ys) ≡ b → b ≡ true
    not_none x e true q = refl
    not_none x e false q = absurd (find-none test ys x q (within x (find-contains test xs x e)) (find-passes test xs x e))

    go : (found : Option X) → find test xs ≡ found → is_some found ≡ true → is_some (find test ys) ≡ true
    go None e h = absurd (true≢false (sym h))
    go (Some x) e h = not_none x e (is_some (find test ys)) refl

pub found-permuted : {X : Type 0} (test : X → Bool) (xs ys : List X) → IsPermutation xs ys → is_some (find test xs) ≡ is_some (find test ys)
found-permuted test xs ys same = both (is_some (find test xs)) (is_some (find test ys))
    (found-from test xs ys (λ x. Contains-permutation xs ys x same))
    (found-from test ys xs (λ x. Contains-permutation ys xs x (IsPermutation-sym xs ys same)))
  where
    both : (a b : Bool) → (a ≡ true → b ≡ true) → (b ≡ true → a ≡ true) → a ≡ b
    both true b f g = sym (f refl)
    both false true f g = g refl
    both false false f g = refl

any-found : {X : Type 0} (test : X → Bool) (xs : List X) → list_any test xs ≡ is_some (find test xs)
any-found test [] = refl
any-found {X} test (x ∷ xs) = go (test x) (any-found test xs)
  where
    go : (b : Bool) → list_any test xs ≡ is_some (find test xs) → (b || list_any test xs) ≡ is_some (cond b (Some x) (find test xs))
    go true rest = refl
    go false rest = rest

pub any-permuted : {X : Type 0} (test : X → Bool) (xs ys : List X) → IsPermutation xs ys → list_any test xs ≡ list_any test ys
any-permuted test xs ys same = any-found test xs ∙ found-permuted test xs ys same ∙ sym (any-found test ys)

pub sum-next : {X : Type 0} (f : X → ℕ) (xs : List X) (n : ℕ) (d : X) → n < length xs → sum_by f (take (suc n) xs) ≡ sum_by f (take n xs) + f (get_or xs n d)
sum-next f xs n d low = ap (sum_by f) (take-suc xs n d low) ∙ sum_by_push f (take n xs) (get_or xs n d)

pub interleaved-length : (frames : ℕ) (buffers : List (List ℤ)) → length (interleaved frames buffers) ≡ frames * length buffers
interleaved-length frames buffers = length-flat_map (λ i. map (λ buffer. sample buffer i) buffers) (below frames) ∙ sums frames
  where
    count : ℕ → ℕ
    count i = length (map (λ (buffer : List ℤ). sample buffer i) buffers)

    sums : (n : ℕ) → sum_by count (below n) ≡ n * length buffers
    sums zero = omega arith
    sums (suc n) =
        let more : sum_by count (below (suc n)) ≡ sum_by count (below n) + count n = sum_by_push count (below n) n in
        let one : count n ≡ length buffers = length-map buffers (λ (buffer : List ℤ). sample buffer n) in
        let all : suc n * length buffers ≡ n * length buffers + length buffers = grind arith in
        omega (arith, more, one, sums n, all)
