use Rattle.std.proofs.Common.{◌≡◌, List, sym, ap, ◌∙◌, subst, length, take_at}
use Rattle.recorder_files.specs.Recorders.{Recording}
use Rattle.session_threads.specs.Serving.{AreServed}
use Rattle.session_threads.proofs.joins.serve_alone.Goals as goal

pub returns-clause-many : goal.returns-clause-many
returns-clause-many g c =
    let same : length c.serve_all.new.recorders ≡ c.args.recorders.len = c.serve_all.ensures.many ∙ c.deref_mut.ensures.len in
    ap length (take_at c.serve_all.new.recorders _ c.args.recorders.len same) ∙ c.serve_all.ensures.many ∙ ap length c.deref_mut.ensures.value

pub returns-clause-served : goal.returns-clause-served
returns-clause-served g c =
    let new : List Recording = c.serve_all.new.recorders in
    let same : length new ≡ c.args.recorders.len = c.serve_all.ensures.many ∙ c.deref_mut.ensures.len in
    subst (λ (l : List Recording). AreServed c.args.recorders.items l) (sym (take_at new _ c.args.recorders.len same))
    (subst (λ (l : List Recording). AreServed l new) c.deref_mut.ensures.value c.serve_all.ensures.served)
