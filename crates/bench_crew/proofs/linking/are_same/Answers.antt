use Rattle.std.proofs.lemmas.Slice.Eq.{slice_eq-Decides}
use Rattle.bench_crew.proofs.LinkLemmas.{link-Decides}
use Rattle.bench_crew.proofs.linking.are_same.Goals as goal

pub returns : goal.returns
returns c = slice_eq-Decides link-Decides c.args.listed.now c.args.links.now c.eq.result c.eq.ensures
