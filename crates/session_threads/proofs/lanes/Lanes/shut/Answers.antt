use Rattle.std.proofs.Common.{◌≡◌, All, List, Some, None, length, sym, ◌∙◌, ap, subst, take_at}
use Rattle.session_works.specs.DeskWords.{Desk, GoesOn}
use Rattle.turn_word.specs.Turns.{AreAll, Caller, Handle, IsCaller}
use Rattle.session_threads.proofs.lanes.Lanes.shut.Goals as goal

pub invariant_of-lanes : goal.invariant_of-lanes
invariant_of-lanes c =
    let new : List (Handle Desk) = c.shut.new.passes in
    let same : length new ≡ c.args.passes.len = c.shut.ensures.shut.many ∙ sym c.requires.open.1.many ∙ (sym (ap length c.deref_mut.ensures.value) ∙ c.deref_mut.ensures.len) in (
      c.requires.four,
      subst (λ (l : List (Handle Desk)). AreAll c.args.turn.table c.args.turn.passes None l) (sym (take_at new _ c.args.passes.len same)) c.shut.ensures.shut,
      subst (λ (x : Caller Desk). IsCaller c.args.turn.table c.args.turn.passes None x) (ap (λ (p : Desk × Caller Desk). p.1) (sym c.desk.view_is)) c.shut.ensures.caller,
    )

pub returns-clause-goes : goal.returns-clause-goes
returns-clause-goes c opened all =
    subst (λ (desk : Desk). GoesOn opened desk) (ap (λ (p : Desk × Caller Desk). p.0) (sym c.desk.view_is))
    (c.shut.ensures.later opened (subst (λ l. AreAll c.args.turn.table c.args.turn.passes (Some opened) l) (sym c.deref_mut.ensures.value) all))

pub returns-clause-seen : goal.returns-clause-seen
returns-clause-seen c =
    subst (λ (desk : Desk). All (λ (pass : Handle Desk). All (λ (seen : Desk). GoesOn seen desk) pass.seen) c.args.passes.items) (ap (λ (p : Desk × Caller Desk). p.0) (sym c.desk.view_is))
    (subst (λ (l : List (Handle Desk)). All (λ (pass : Handle Desk). All (λ (seen : Desk). GoesOn seen c.shut.result.0) pass.seen) l) c.deref_mut.ensures.value c.shut.ensures.seen)
