use Rattle.std.proofs.Common.{◌≡◌, List, Some, length, sym, ◌∙◌, ap, subst, take_at}
use Rattle.session_works.specs.DeskWords.{Desk}
use Rattle.turn_word.specs.Turns.{AreAll, Handle}
use Rattle.session_threads.proofs.lanes.Lanes.open.Goals as goal

pub returns-clause-open : goal.returns-clause-open
returns-clause-open c =
    let new : List (Handle Desk) = c.open-caller.new.passes in
    let same : length new ≡ c.self.inside.passes.len = c.open-caller.ensures.open.many ∙ sym c.self.invariant.1.many ∙ (sym (ap length c.deref_mut.ensures.value) ∙ c.deref_mut.ensures.len) in
    subst (λ (l : List (Handle Desk)). AreAll c.self.inside.turn.table c.self.inside.turn.passes (Some c.args.desk) l) (sym (take_at new _ c.self.inside.passes.len same)) c.open-caller.ensures.open
