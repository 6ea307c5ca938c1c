use Rattle.std.proofs.Common.{◌*ℤ◌, rules}
use Rattle.std.specs.Int.{int_shr}
use Rattle.guests.proofs.NumberLemmas.{within_product, within_shift, within_value}
use Rattle.guests.proofs.echo.echo_of.Goals as goal

pub returns-clause-within : goal.returns-clause-within
returns-clause-within c =
    within_value 70368744177664 _ (int_shr (c.args.past *ℤ c.args.gain) c.args.shift) (search rules)
    (within_shift 70368744177664 (c.args.past *ℤ c.args.gain) c.args.shift (within_product c.args.past c.args.gain c.ranges.past c.requires.gain))
