use Rattle.std.proofs.Common.{◌≡◌, ℕ, ◌<◌, List, ◌∷◌, length, take, drop, arith, sym, ◌∙◌}
use Rattle.std.specs.List.{prefix_len}
use Rattle.std.proofs.lemmas.List.Sums.{prefix_len-le-length}
use Rattle.session_model.specs.Texts.{words}
use Rattle.script_words.proofs.WordLemmas.{goes_on, words-next}
use Rattle.script_words.proofs.bytes.first_word.Goals as goal

pub split_at-requires : goal.split_at-requires
split_at-requires c = let h = prefix_len-le-length goes_on c.skip_blanks-rest.result.now in omega (arith, h, c.word_len.ensures)

pub returns : goal.returns
returns c =
    let some : 0 < length c.skip_blanks-rest.result.now = grind (arith, c.is_empty.ensures, c.if-is_empty.false) in
    let w = words-next c.skip_blanks-rest.result.now some (c.skip_blanks-rest.ensures.front some) in
    let front = c.split_at.ensures.front in
    let back = c.split_at.ensures.back in
    sym c.skip_blanks-rest.ensures.same ∙ w ∙ joined c.word_len.result (prefix_len goes_on c.skip_blanks-rest.result.now) c.skip_blanks-rest.result.now c.split_at.result.0.now c.split_at.result.1.now c.word_len.ensures front back
  where
    joined : (n m : ℕ) (text a b : List ℕ) → n ≡ m → a ≡ take n text → b ≡ drop n text → take m text ∷ words (drop m text) ≡ a ∷ words b
    joined n m text a b e p q = cc
