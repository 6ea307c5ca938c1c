use Rattle.std.proofs.Common.{◌≡◌, ◌∷◌, true, subst, sym}
use Rattle.play_words.specs.Checks.{Check}
use Rattle.play_words.specs.Lawful.{AreLawful}
use Rattle.play_words.specs.Words.{names_of}
use Rattle.play_words.proofs.CheckLemmas.{AreLawful-first, AreLawful-more}
use Rattle.play_words.proofs.checks.are_all_lawful.Goals as goal

pub returns-then-not-is_name : goal.returns-then-not-is_name
returns-then-not-is_name c = (
  (λ t. absurd cc),
  λ are.
      let parts = AreLawful-first _ _ (subst (λ (check : Check). AreLawful (check.report ∷ names_of check.play)) (sym c.names.view_is) are) in
      let yes : c.is_name.result ≡ true = c.is_name.ensures.1 parts.is_name in
      absurd cc,
)

pub returns-then-not-is_none_from : goal.returns-then-not-is_none_from
returns-then-not-is_none_from c = (
  (λ t. absurd cc),
  λ are.
      let parts = AreLawful-first _ _ (subst (λ (check : Check). AreLawful (check.report ∷ names_of check.play)) (sym c.names.view_is) are) in
      let yes : c.is_none_from.result ≡ true = c.is_none_from.ensures.1 parts.is_none in
      absurd cc,
)

pub returns : goal.returns
returns c = (
  (λ t. subst (λ (check : Check). AreLawful (check.report ∷ names_of check.play)) c.names.view_is (AreLawful-more _ _ (c.is_name.ensures.0 c.if-not-is_name.false) (c.is_none_from.ensures.0 c.if-not-is_none_from.false) (c.are_lawful.ensures.0 t))),
  λ are.
      let parts = AreLawful-first _ _ (subst (λ (check : Check). AreLawful (check.report ∷ names_of check.play)) (sym c.names.view_is) are) in
      c.are_lawful.ensures.1 parts.others,
)
