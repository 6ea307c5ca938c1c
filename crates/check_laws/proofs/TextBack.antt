-- A text back from its lines.
--     joined-ended      the lines of a text, joined, are the text
--     ended-joined      whole lines, joined, have these lines
use Rattle.std.proofs.Common.{◌≡◌, ℕ, Bool, true, false, cond, ◌==◌, List, [], ◌∷◌, ◌++◌, refl, sym, ◌∙◌, ap, ap₂, append_assoc, eqb-true, ne_eqb}
use Rattle.session_model.specs.Texts.{with_byte}
use Rattle.grammar_laws.specs.session_laws.proofs.ListLemmas.{Each}
use Rattle.grammar_laws.specs.session_laws.proofs.TextLemmas.{Lacks, IsLine, joined_lines}
use Rattle.check_model.specs.Checking.{ended_lines}

joined-with_byte : (b : ℕ) (lines : List (List ℕ)) → joined_lines (with_byte b lines) ≡ b ∷ joined_lines lines
joined-with_byte b [] = refl
joined-with_byte b (text ∷ lines) = refl

pub joined-ended : (bytes : List ℕ) → joined_lines (ended_lines bytes) ≡ bytes
joined-ended [] = refl
joined-ended (b ∷ bytes) = go (b == 10) refl (joined-ended bytes)
  where
    go : (t : Bool) → (b == 10) ≡ t → joined_lines (ended_lines bytes) ≡ bytes
        → joined_lines (cond t ((10 ∷ []) ∷ ended_lines bytes) (with_byte b (ended_lines bytes))) ≡ b ∷ bytes
    go true e h = ap₂ (λ c cs. c ∷ cs) (sym (eqb-true b 10 e)) h
    go false e h = joined-with_byte b (ended_lines bytes) ∙ ap (λ cs. b ∷ cs) h

ended-line : (body rest : List ℕ) → Lacks 10 body → ended_lines (body ++ 10 ∷ rest) ≡ (body ++ 10 ∷ []) ∷ ended_lines rest
ended-line [] rest h = refl
ended-line (b ∷ body) rest h =
    ap (λ t. cond t ((10 ∷ []) ∷ ended_lines (body ++ 10 ∷ rest)) (with_byte b (ended_lines (body ++ 10 ∷ rest)))) (ne_eqb b 10 h.0)
    ∙ ap (with_byte b) (ended-line body rest h.1)

pub ended-joined : (lines : List (List ℕ)) → Each IsLine lines → ended_lines (joined_lines lines) ≡ lines
ended-joined [] h = refl
ended-joined (text ∷ lines) h =
    ap (λ t. ended_lines (t ++ joined_lines lines)) (h.0).ends
    ∙ ap ended_lines (append_assoc (h.0).body (10 ∷ []) (joined_lines lines))
    ∙ ended-line (h.0).body (joined_lines lines) (h.0).whole
    ∙ ap₂ (λ t ts. t ∷ ts) (sym (h.0).ends) (ended-joined lines h.1)
