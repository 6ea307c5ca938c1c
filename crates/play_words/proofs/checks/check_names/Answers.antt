use Rattle.std.proofs.Common.{◌≡◌, ◌∷◌, refl, subst, true}
use Rattle.play_words.specs.Checks.{Check}
use Rattle.play_words.specs.Lawful.{AreLawful}
use Rattle.play_words.specs.Words.{names_of}
use Rattle.play_words.proofs.CheckLemmas.{AreLawful-check, IsCheck-formed, IsCheckFormed-check, check_formed_once}
use Rattle.play_words.proofs.checks.check_names.Goals as goal

pub returns-in_default-clause-unlawful : goal.returns-in_default-clause-unlawful
returns-in_default-clause-unlawful c none check is = c.in_default.ensures.unformed refl check (IsCheckFormed-check _ check is)

pub returns-then-not-are_all_lawful-clause-unlawful : goal.returns-then-not-are_all_lawful-clause-unlawful
returns-then-not-are_all_lawful-clause-unlawful c none check is =
    let same = check_formed_once _ check c.in-Some.names (IsCheckFormed-check _ check is) c.in-Some.ensures.formed in
    let yes : c.are_all_lawful.result ≡ true = c.are_all_lawful.ensures.1 (subst (λ (check : Check). AreLawful (check.report ∷ names_of check.play)) same (AreLawful-check _ check is)) in
    absurd cc

pub returns-clause-lawful : goal.returns-clause-lawful
returns-clause-lawful c = IsCheck-formed _ c.in-Some.names c.in-Some.ensures.formed (c.are_all_lawful.ensures.0 c.if-not-are_all_lawful.false)
