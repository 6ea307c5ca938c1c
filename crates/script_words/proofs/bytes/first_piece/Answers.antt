use Rattle.std.proofs.Common.{◌≡◌, ℕ, ◌<◌, List, ◌∷◌, length, take, drop, arith, ◌∙◌}
use Rattle.std.specs.List.{prefix_len}
use Rattle.std.proofs.lemmas.List.Sums.{prefix_len-le-length}
use Rattle.session_model.specs.Texts.{pieces}
use Rattle.script_words.proofs.WordLemmas.{in_line, pieces-next}
use Rattle.script_words.proofs.bytes.first_piece.Goals as goal

pub split_at-requires : goal.split_at-requires
split_at-requires c = let h = prefix_len-le-length in_line c.args.text.now in omega (arith, h, c.line_len.ensures)

pub returns-clause-pieces : goal.returns-clause-pieces
returns-clause-pieces c =
    let some : 0 < length c.args.text.now = grind (arith, c.is_empty.ensures, c.if-is_empty.false) in
    pieces-next c.args.text.now some ∙ joined c.line_len.result (prefix_len in_line c.args.text.now) c.args.text.now c.split_at.result.0.now c.split_at.result.1.now c.without_lf.result.now c.line_len.ensures c.split_at.ensures.front c.split_at.ensures.back c.without_lf.ensures
  where
    joined : (n m : ℕ) (text a b d : List ℕ) → n ≡ m → a ≡ take n text → b ≡ drop n text → d ≡ drop 1 b → take m text ∷ pieces (drop 1 (drop m text)) ≡ a ∷ pieces d
    joined n m text a b d e p q r = cc
