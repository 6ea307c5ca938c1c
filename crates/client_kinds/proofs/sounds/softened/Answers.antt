use Rattle.std.proofs.Common.{rules}
use Rattle.client_kinds.proofs.GainLemmas.{softer_cast}
use Rattle.client_kinds.proofs.sounds.softened.Goals as goal

pub overflow_cast-result : goal.overflow_cast-result
overflow_cast-result c = softer_cast c.args.x c.args.factor c.shifted.result c.args.shift c.ranges.x c.requires.softer (search rules)
