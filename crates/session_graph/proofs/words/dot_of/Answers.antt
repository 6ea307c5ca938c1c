use Rattle.std.proofs.Common.{◌≡◌, codes, arith, string_bytes, ◌∙◌, ◌∷◌, [], List, ℕ, ap, sym}
use Rattle.std.proofs.lemmas.Grind.{common_steps}
use Rattle.std.proofs.lemmas.Slice.Eq.{bytes_eq-Decides}
use Rattle.session_graph.proofs.WordLemmas.{one-item}
use Rattle.session_graph.proofs.words.dot_of.Goals as goal

pub returns-in-len1-clause-some : goal.returns-in-len1-clause-some
returns-in-len1-clause-some c =
    let option : c.as_str.result.now ≡ codes "--dot" = grind (arith, common_steps, bytes_eq-Decides) in
    one-item string_bytes c.args.rest.now c.option-item.result c.in-len1.len_at_least c.in-len1.len_below c.option-item.is
    ∙ ap (λ (word : List ℕ). word ∷ []) (sym c.as_str.ensures.value ∙ option)
