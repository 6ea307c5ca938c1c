use Rattle.std.proofs.Common.{◌∙◌, [], ◌∷◌, w32, rules, arith}
use Rattle.std.specs.Prelude.{FitsSigned}
use Rattle.std.proofs.lemmas.Int.{to_z-of_z}
use Rattle.client_benches.proofs.settling.mixed_seven.Goals as goal

pub returns : goal.returns
returns c =
    let one = c.ranges.one in
    let two = c.ranges.two in
    let three = c.ranges.three in
    let four = c.ranges.four in
    let five = c.ranges.five in
    let six = c.ranges.six in
    let seven = c.ranges.seven in
    let low : FitsSigned w32 c.rest_of_seven.result = search rules in
    let high : FitsSigned w32 c.sixteenths_of_seven.result = search rules in
    let all : FitsSigned w32 c.settled.result = search rules in
    let rest = simp to_z-of_z at c.rest_of_seven.ensures in
    let parts = simp to_z-of_z at c.sixteenths_of_seven.ensures.is in
    let is = simp to_z-of_z at c.settled.ensures in
    to_z-of_z w32 c.settled.result all ∙ is (c.args.one ∷ c.args.two ∷ c.args.three ∷ c.args.four ∷ c.args.five ∷ c.args.six ∷ c.args.seven ∷ []) (omega arith) rest parts
