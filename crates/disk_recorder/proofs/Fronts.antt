-- Fronts of a list of blocks, and their samples.
use Rattle.std.proofs.Common.{◌≡◌, ℕ, zero, suc, ◌≤◌, min, List, [], ◌∷◌, ◌++◌, length, take, sym, refl, ap, ◌∙◌, arith, append_assoc, append-nil}
use Rattle.std.specs.Prelude.{ℤ}
use Rattle.std.proofs.lemmas.List.{take-append-le}
use Rattle.std.proofs.lemmas.List.Concat.{flat_map-append}
use lib.ListN.{length-take}
use lib.Seq.{take-length}
use Rattle.session_model.specs.Rings.{RingBlock, samples_of_blocks}

module _ {A : Type 0} where
  take_take : (m n : ℕ) (l : List A) → m ≤ n → take m (take n l) ≡ take m l
  take_take zero n l h = refl
  take_take (suc m) zero l h = absurd (omega arith)
  take_take (suc m) (suc n) [] h = refl
  take_take (suc m) (suc n) (x ∷ xs) h = ap (λ (t : List A). x ∷ t) (take_take m n xs (omega arith))

  -- a front of a front is a front
  pub front_on : (xs ys zs : List A) → xs ≡ take (length xs) ys → ys ≡ take (length ys) zs → xs ≡ take (length xs) zs
  front_on xs ys zs e f =
      let short : length xs ≡ min (length xs) (length ys) = ap length e ∙ length-take (length xs) ys in
      e ∙ (ap (take (length xs)) f ∙ take_take (length xs) (length ys) zs (omega arith))

  pub front_itself : (xs : List A) → xs ≡ take (length xs) xs
  front_itself xs = sym (take-length xs)

  pub front_append : (xs ys : List A) → xs ≡ take (length xs) (xs ++ ys)
  front_append xs ys = sym (take-append-le (length xs) xs ys (omega arith) ∙ take-length xs)

-- one block more
pub samples_more : (before : List ℤ) (got : List RingBlock) (block : RingBlock) → (before ++ samples_of_blocks got) ++ block.samples ≡ before ++ samples_of_blocks (got ++ block ∷ [])
samples_more before got block =
    append_assoc before (samples_of_blocks got) block.samples
    ∙ ap (λ (l : List ℤ). before ++ l) (ap (λ (l : List ℤ). samples_of_blocks got ++ l) (sym (append-nil block.samples)) ∙ sym (flat_map-append (λ (b : RingBlock). b.samples) got (block ∷ [])))
