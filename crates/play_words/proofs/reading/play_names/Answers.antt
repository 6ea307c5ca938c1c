use Rattle.std.proofs.Common.{◌≡◌, refl, subst, true}
use Rattle.play_words.specs.Lawful.{AreLawful}
use Rattle.play_words.specs.Words.{Play, names_of}
use Rattle.play_words.proofs.PlayLemmas.{AreLawful-play, IsFormed-play, IsPlay-formed, formed_once}
use Rattle.play_words.proofs.reading.play_names.Goals as goal

pub returns-in_default-clause-unlawful : goal.returns-in_default-clause-unlawful
returns-in_default-clause-unlawful c none play is = c.in_default.ensures.unformed refl play (IsFormed-play _ play is)

pub returns-then-not-are_lawful-clause-unlawful : goal.returns-then-not-are_lawful-clause-unlawful
returns-then-not-are_lawful-clause-unlawful c none play is =
    let same = formed_once _ play c.in-Some.names (IsFormed-play _ play is) c.in-Some.ensures.formed in
    let yes : c.are_lawful.result ≡ true = c.are_lawful.ensures.1 (subst (λ (play : Play). AreLawful (names_of play)) same (AreLawful-play _ play is)) in
    absurd cc

pub returns-clause-lawful : goal.returns-clause-lawful
returns-clause-lawful c = IsPlay-formed _ c.in-Some.names c.in-Some.ensures.formed (c.are_lawful.ensures.0 c.if-not-are_lawful.false)
