use Rattle.std.proofs.Common.{◌≡◌, List, sym, ap, ◌∙◌, subst, length, take_at}
use Rattle.session_works.specs.RunWords.{Playing}
use Rattle.session_works.specs.disk_files.specs.Serving.{AreRead}
use Rattle.session_threads.proofs.joins.read_alone.Goals as goal

pub returns-clause-many : goal.returns-clause-many
returns-clause-many g c =
    let same : length c.read_all.new.readers ≡ c.args.readers.len = c.read_all.ensures.many ∙ c.deref_mut.ensures.len in
    ap length (take_at c.read_all.new.readers _ c.args.readers.len same) ∙ c.read_all.ensures.many ∙ ap length c.deref_mut.ensures.value

pub returns-clause-read : goal.returns-clause-read
returns-clause-read g c =
    let new : List Playing = c.read_all.new.readers in
    let same : length new ≡ c.args.readers.len = c.read_all.ensures.many ∙ c.deref_mut.ensures.len in
    subst (λ (l : List Playing). AreRead c.args.readers.items l) (sym (take_at new _ c.args.readers.len same))
    (subst (λ (l : List Playing). AreRead l new) c.deref_mut.ensures.value c.read_all.ensures.read)
