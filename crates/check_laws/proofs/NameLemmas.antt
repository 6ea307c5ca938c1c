-- Lawful client names have neither LF nor space.
use Rattle.std.proofs.Common.{◌≡◌, ℕ, ◌≤◌, ◌≢◌, Bool, true, false, not, ◌==◌, nat_lt, List, length, position, Option, Some, None, refl, sym, ◌∙◌, ap, arith, true≢false}
use Rattle.std.proofs.lemmas.Bool.Decides.{nat_tests}
use Rattle.jack_types.specs.Names.{IsClientName, is_name_byte}
use Rattle.grammar_laws.specs.session_laws.proofs.ListLemmas.{Each, Each-weaker}
use Rattle.grammar_laws.specs.session_laws.proofs.TextLemmas.{Lacks}
use Rattle.report_texts.proofs.SameReportLemmas.{no-position}

none-fault : {A : Type 0} {a : A} → Some a ≡ None → ⊥
none-fault q = cc

-- a client's name: at most 32 bytes, each of the set
pub name-bytes : (bytes : List ℕ) → IsClientName bytes → (length bytes ≤ 32) × Each (λ b. is_name_byte b ≡ true) bytes
name-bytes bytes h = go (length bytes == 0) (nat_lt 32 (length bytes)) (position (λ b. not (is_name_byte b)) bytes) refl refl refl
  where
    go : (s t : Bool) (o : Option ℕ) → (length bytes == 0) ≡ s → nat_lt 32 (length bytes) ≡ t → position (λ b. not (is_name_byte b)) bytes ≡ o → (length bytes ≤ 32) × Each (λ b. is_name_byte b ≡ true) bytes
    go true t o e f g = absurd (none-fault (rw e at h))
    go false true o e f g = absurd (none-fault (rw (e, f) at h))
    go false false (Some n) e f g = absurd (none-fault (rw (e, f, g) at h))
    go false false None e f g = (grind (arith, nat_tests), no-position is_name_byte bytes g)

pub name-lacks : (s : ℕ) (bytes : List ℕ) → is_name_byte s ≡ false → IsClientName bytes → Lacks s bytes
name-lacks s bytes off h = Each-weaker (λ b. is_name_byte b ≡ true) (λ b. b ≢ s) (λ b e f. true≢false (sym e ∙ ap is_name_byte f ∙ off)) bytes (name-bytes bytes h).1
