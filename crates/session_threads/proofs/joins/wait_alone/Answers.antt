use Rattle.std.proofs.Common.{List, sym, ◌∙◌, subst, take_at}
use Rattle.session_works.specs.DeskWords.{Desk}
use Rattle.turn_word.specs.Turns.{Handle}
use Rattle.desk_turn.specs.Lanes.{HaveRun}
use Rattle.session_threads.proofs.joins.wait_alone.Goals as goal

pub returns : goal.returns
returns g c =
    let did = c.run_lanes.ensures in let new : List (Handle Desk) = c.run_lanes.new.passes in
    subst (λ (l : List (Handle Desk)). HaveRun c.args.passes.items l) (sym (take_at new _ c.args.passes.len (did.many ∙ c.deref_mut.ensures.len)))
    (subst (λ (l : List (Handle Desk)). HaveRun l new) c.deref_mut.ensures.value did)
