use Rattle.std.proofs.Common.{◌∙◌, [], ◌∷◌, w32, rules, arith}
use Rattle.std.specs.Prelude.{FitsSigned}
use Rattle.std.proofs.lemmas.Int.{to_z-of_z}
use Rattle.client_benches.proofs.settling.mixed_three.Goals as goal

pub returns : goal.returns
returns c =
    let one = c.ranges.one in
    let two = c.ranges.two in
    let three = c.ranges.three in
    let low : FitsSigned w32 c.rest_of_three.result = search rules in
    let high : FitsSigned w32 c.sixteenths_of_three.result = search rules in
    let all : FitsSigned w32 c.settled.result = search rules in
    let rest = simp to_z-of_z at c.rest_of_three.ensures in
    let parts = simp to_z-of_z at c.sixteenths_of_three.ensures.is in
    let is = simp to_z-of_z at c.settled.ensures in
    to_z-of_z w32 c.settled.result all ∙ is (c.args.one ∷ c.args.two ∷ c.args.three ∷ []) (omega arith) rest parts
