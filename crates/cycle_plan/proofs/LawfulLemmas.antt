-- Lawful lists go on.
--     AreLawful-push      a lawful list with one change more that is accepted behind it
--     replay-push      what is behind it
use Rattle.std.proofs.Common.{◌≡◌, ℕ, ◌+◌, ◌<◌, ◌≤◌, ◌⊎◌, inl, inr, List, [], ◌∷◌, ◌++◌, length, take, All, Option, Some, None, IsTrue, sym, ◌∙◌, ap, subst, arith}
use Rattle.std.proofs.lemmas.List.{take-append-le}
use Rattle.std.proofs.Math.Seq.{take-append_seam}
use Rattle.std.proofs.lemmas.List.Sums.{fold_push}
use Rattle.std.proofs.lemmas.Option.{slice_get_within}
use Rattle.graph_word.specs.jack_types.specs.declared.commands.Change.{Change}
use Rattle.graph_word.specs.Publications.{IsFront}
use Rattle.graph_word.specs.session_model.specs.Commands.{after, refusal, replay}
use Rattle.graph_word.specs.session_model.specs.Replies.{AreLawful, IsNext, is_change}
use Rattle.graph_word.specs.session_model.specs.State.{State}
use Rattle.std.specs.List.{slice_get}
use Rattle.port_registry.proofs.PlaceLemmas.{slice_get-push}

pub AreLawful-push : (state : State) (changes : List Change) (change : Change) → AreLawful state changes → IsNext (replay state changes) (length changes) change → AreLawful state (changes ++ change ∷ [])
AreLawful-push state changes change lawful next i other at = go (slice_get-push changes change i other at)
  where
    go : (slice_get changes i ≡ Some other) ⊎ ((i ≡ length changes) × (change ≡ other)) → IsNext (replay state (take i (changes ++ change ∷ []))) i other
    go (inl e) =
        let within : i < length changes = slice_get_within changes i other e in
        subst (λ cs. IsNext (replay state cs) i other) (sym (take-append-le i changes (change ∷ []) (omega (arith, within)))) (lawful i other e)
    go (inr w) =
        subst (λ n. IsNext (replay state (take n (changes ++ change ∷ []))) n other) (sym w.0)
        (subst (λ cs. IsNext (replay state cs) (length changes) other) (sym (take-append_seam changes (change ∷ [])))
        (subst (IsNext (replay state changes) (length changes)) w.1 next))

pub replay-push : (state : State) (changes : List Change) (change : Change) → replay state (changes ++ change ∷ []) ≡ after (replay state changes) change.number change.command
replay-push state changes change = fold_push (λ (now : State) (c : Change). after now c.number c.command) state changes change

pub IsFront-push : (changes : List Change) (change : Change) → IsFront changes (changes ++ change ∷ [])
IsFront-push changes change = sym (take-append_seam changes (change ∷ []))

-- the same of a list that was copied first
pub lawful-next : (state : State) (old kept new : List Change) (change : Change) → AreLawful state old → kept ≡ old → new ≡ kept ++ change ∷ [] → change.number ≡ length kept + 1 → IsTrue (is_change change.command)
    → refusal (replay state old) change.command ≡ None → AreLawful state new
lawful-next state old kept new change lawful same longer numbered changes accepted =
    subst (AreLawful state) (sym (longer ∙ ap (λ cs. cs ++ change ∷ []) same))
    (AreLawful-push state old change lawful (record { numbered = subst (λ cs. change.number ≡ length cs + 1) same numbered; changes = changes; accepted = accepted }))
