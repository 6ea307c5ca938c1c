use Rattle.std.proofs.Common.{arith}
use Rattle.std.proofs.lemmas.Int.{ints, to_z-of_z}
use Rattle.client_benches.proofs.settling.sixteenths_of_seven.Goals as goal

pub returns-clause-is : goal.returns-clause-is
returns-clause-is c =
    let one = c.ranges.one in
    let two = c.ranges.two in
    let three = c.ranges.three in
    let four = c.ranges.four in
    let five = c.ranges.five in
    let six = c.ranges.six in
    let seven = c.ranges.seven in
    let first = simp to_z-of_z at c.sixteenths_of_six.ensures.is in
    let last = simp to_z-of_z at c.sixteenth.ensures.is in
    omega (arith, ints)
