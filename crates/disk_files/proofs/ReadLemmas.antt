-- How a reader came out of its thread.
--     read-by      by the answer of its call
--     failed-by      whether it failed, by what it tells
--     going-each      none of those before a place failed
use Rattle.std.proofs.Common.{◌≡◌, ℕ, ◌+◌, ◌<◌, ◌≤◌, ◌⊎◌, inl, inr, true, false, List, length, slice_get, Option, Some, All, get_or, Result, Ok, Err, refl, sym, ◌∙◌, subst, arith}
use Rattle.std.specs.Prelude.{OnErr, OnOk}
use Rattle.std.proofs.lemmas.Bool.{cases_lt}
use Rattle.std.proofs.lemmas.Option.{same_Some, slice_get-get_or}
use Rattle.jack_host.specs.Causes.{HasCause}
use Rattle.disk_player.specs.Playing.{Playing}
use Rattle.disk_serving.specs.Serving.{ReadsOff, ReadsOn}
use Rattle.disk_files.specs.Serving.{BrokeOff, HaveFailed, IsGoing, ReadBy, ReadOn}

pub read-by : {T E : Type 0} (result : Result T E) (before after : Playing) → OnOk result (ReadsOn before after) → OnErr result (ReadsOff before after) → HasCause before.faults after.faults result → ReadBy before after
read-by (Ok done) before after on off cause = ReadOn on cause.kept
read-by (Err failed) before after on off cause = BrokeOff off cause.later cause.failed

-- no read of those below a place failed
abbrev pub GoingBelow : ℕ → List Playing → Type 0
GoingBelow place players = (i : ℕ) (player : Playing) → i < place → slice_get players i ≡ Some player → IsGoing player

pub going-more : (players : List Playing) (place : ℕ) (player : Playing) → slice_get players place ≡ Some player → player.failed ≡ false → GoingBelow place players → GoingBelow (place + 1) players
going-more players place player there going below i other low is = go (cases_lt i place)
  where
    go : (i < place) ⊎ (place ≤ i) → IsGoing other
    go (inl less) = below i other less is
    go (inr high) =
        let same : i ≡ place = omega (arith, low, high) in
        subst IsGoing (same_Some player other (sym there ∙ subst (λ n. slice_get players n ≡ Some other) same is)) record { going = going }

pub going-all : (players : List Playing) (place : ℕ) → length players ≤ place → GoingBelow place players → All IsGoing players
going-all players place all below = λ i d low. below i (get_or players i d) (omega (arith, low, all)) (slice_get-get_or players i d low)
