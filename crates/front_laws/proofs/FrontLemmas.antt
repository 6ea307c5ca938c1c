-- Fronts of WAVE files.
--     any-front      what has a front has any front
--     front-left      the first bytes of what has any front have one
--     empty-front, finished-front, unfinished-front      an empty file, a finished and an unfinished one
use Rattle.std.proofs.Common.{◌≡◌, ℕ, zero, suc, ◌+◌, ◌≤◌, ℤ, List, [], ◌∷◌, ◌++◌, Option, Some, None, inl, inr, length, take, drop, refl, sym, ap, subst, ◌∙◌, arith}
use Rattle.std.proofs.Math.Seq.{take-append-add}
use Rattle.std.proofs.lemmas.List.{take-append-drop, take-append-le, take_all, take-take, length-take}
use Rattle.std.specs.Prelude.{IfSome}
use Rattle.jack_types.specs.declared.files.Format.{Format}
use Rattle.jack_host.specs.Files.{IsFrontOf}
use Rattle.session_model.specs.Samples.{bytes_of}
use Rattle.session_model.specs.WaveFiles.{opening_text, wave_text}
use Rattle.driver_words.specs.Tapes.{HasAnyFront, HasFront, IsAnyFront, IsCut, IsHeaded}

-- ---- the first of some bytes

abbrev IsFront : List ℕ → List ℕ → Type 0
IsFront whole bytes = bytes ≡ take (length bytes) whole

front-taken : (n : ℕ) (ys : List ℕ) → IsFront ys (take n ys)
front-taken zero ys = refl
front-taken (suc n) [] = refl
front-taken (suc n) (y ∷ ys) = ap (λ (zs : List ℕ). y ∷ zs) (front-taken n ys)

front-short : (whole bytes : List ℕ) → IsFront whole bytes → length bytes ≤ length whole
front-short whole bytes front =
    let long : length bytes ≡ length (take (length bytes) whole) = ap length front in omega (arith, long, length-take (length bytes) whole)

front-front : (whole bytes left : List ℕ) → IsFront whole bytes → IsFront bytes left → IsFront whole left
front-front whole bytes left front part =
    part ∙ ap (take (length left)) front ∙ take-take (length left) (length bytes) whole (front-short bytes left part)

-- ---- what has any front

from-cut : (format : Format) (final bytes : List ℕ) → IsCut format bytes → IsAnyFront (opening_text format) final bytes
from-cut format final bytes cut =
    let short : length bytes ≤ length (opening_text format) = front-short (opening_text format) bytes cut in
    (opening_text format, (refl, λ i. inl refl), cut ∙ sym (take-append-le (length bytes) (opening_text format) (drop 44 final) short))

from-headed : (opening final bytes : List ℕ) → IsHeaded opening final bytes → IsAnyFront opening final bytes
from-headed opening final bytes (header, n, between, is) = (
  header,
  between,
  subst (IsFront (header ++ drop 44 final)) (take-append-add header (drop 44 final) n ∙ sym is) (front-taken (length header + n) (header ++ drop 44 final)),
)

pub any-front : (format : Format) (samples : List ℤ) (told : Option (List ℕ)) → HasFront format samples told → HasAnyFront format samples told
any-front format samples None has = tt
any-front format samples (Some bytes) (inl cut) = from-cut format (wave_text format samples) bytes cut
any-front format samples (Some bytes) (inr headed) = from-headed (opening_text format) (wave_text format samples) bytes headed

pub front-left : (format : Format) (samples : List ℤ) (told : Option (List ℕ)) (left : List ℕ) → HasAnyFront format samples told → IsFrontOf told left → HasAnyFront format samples (Some left)
front-left format samples None left has front = absurd front
front-left format samples (Some bytes) left (header, between, is) front = (header, between, front-front (header ++ drop 44 (wave_text format samples)) bytes left is front)

-- ---- a file, from its making to its end

pub empty-front : (format : Format) (samples : List ℤ) → HasAnyFront format samples (Some [])
empty-front format samples = from-cut format (wave_text format samples) [] refl

pub finished-front : (format : Format) (samples : List ℤ) (told : Option (List ℕ)) → IfSome told (λ text. text ≡ wave_text format samples) → HasAnyFront format samples told
finished-front format samples None has = tt
finished-front format samples (Some bytes) has =
    let final : List ℕ = wave_text format samples in (
      take 44 final,
      (refl, λ i. inr refl),
      subst (λ (whole : List ℕ). IsFront whole bytes) (has ∙ sym (take-append-drop 44 final)) (sym (take_all (length bytes) bytes (omega arith))),
    )

pub unfinished-front : (format : Format) (samples : List ℤ) (told : Option (List ℕ)) → IfSome told (λ bytes. bytes ≡ opening_text format ++ bytes_of format.bits samples) → HasAnyFront format samples told
unfinished-front format samples None has = tt
unfinished-front format samples (Some bytes) has = (opening, (refl, λ i. inl refl), subst (IsFront whole) (all ∙ sym has) (front-taken (length opening + length data_bytes) whole))
  where
    opening : List ℕ
    opening = opening_text format

    data_bytes : List ℕ
    data_bytes = bytes_of format.bits samples

    whole : List ℕ
    whole = opening ++ drop 44 (wave_text format samples)

    all : take (length opening + length data_bytes) whole ≡ opening ++ data_bytes
    all =
        take-append-add opening (drop 44 (wave_text format samples)) (length data_bytes)
        ∙ ap (λ (ys : List ℕ). opening ++ ys) (take-append-le (length data_bytes) data_bytes _ (omega arith) ∙ take_all (length data_bytes) data_bytes (omega arith))
