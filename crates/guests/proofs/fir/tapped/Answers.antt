use Rattle.std.proofs.Common.{◌*ℤ◌, rules}
use Rattle.guests.proofs.NumberLemmas.{within_tapped, within_value}
use Rattle.guests.proofs.fir.tapped.Goals as goal

pub returns-clause-within : goal.returns-clause-within
returns-clause-within c = within_value 70368744177664 _ (c.args.tap *ℤ c.args.x) (search rules) (within_tapped c.args.tap c.args.x c.requires c.ranges.x)
