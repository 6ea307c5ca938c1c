use Rattle.std.proofs.Common.{◌∙◌, w32}
use Rattle.std.proofs.lemmas.Int.{wrapping_add_is}
use Rattle.client_benches.proofs.SixteenthLemmas.{wrapped-more}
use Rattle.client_benches.proofs.settling.rest_with.Goals as goal

pub returns : goal.returns
returns c xs is = wrapping_add_is w32 c.args.low c.args.x c.ranges.low c.ranges.x ∙ wrapped-more xs c.args.x c.args.low is
