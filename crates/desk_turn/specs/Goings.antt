-- A desk goes on from itself, and from all that it went on from.
use Rattle.std.proofs.Common.{◌≡◌, List, ◌++◌, length, take, drop, refl, sym, ◌∙◌, ap, append_assoc, take-append-drop, take_at}
use Rattle.std.proofs.Math.Seq.{take-length}
use Rattle.control_desk.specs.Desks.{Desk, GoesOn}

-- a list is a front of it and what is behind that
front-parts : {X : Type 0} (front whole : List X) → front ≡ take (length front) whole → whole ≡ front ++ drop (length front) whole
front-parts front whole is = sym (take-append-drop (length front) whole) ∙ ap (λ xs. xs ++ drop (length front) whole) (sym is)

front-front : {X : Type 0} (front middle whole : List X) → front ≡ take (length front) middle → middle ≡ take (length middle) whole → front ≡ take (length front) whole
front-front front middle whole first second =
    let more = drop (length front) middle in
    let rest = drop (length middle) whole in
    let parts = front-parts middle whole second ∙ ap (λ xs. xs ++ rest) (front-parts front middle first) ∙ append_assoc front more rest in
    sym (ap (take (length front)) parts ∙ take_at front (more ++ rest) (length front) refl)

pub goes-same : (desk : Desk) → GoesOn desk desk
goes-same desk = record { script = refl; phase = refl; table = refl; more = sym (take-length desk.history) }

pub goes-later : (one two three : Desk) → GoesOn one two → GoesOn two three → GoesOn one three
goes-later one two three a b = record { script = b.script ∙ a.script; phase = b.phase ∙ a.phase; table = b.table ∙ a.table; more = front-front one.history two.history three.history a.more b.more }
