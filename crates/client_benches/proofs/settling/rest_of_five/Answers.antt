use Rattle.std.proofs.Common.{◌∙◌, [], ◌∷◌, w32, rules}
use Rattle.std.specs.Prelude.{FitsSigned}
use Rattle.std.proofs.lemmas.Int.{to_z-of_z}
use Rattle.client_benches.proofs.settling.rest_of_five.Goals as goal

pub returns : goal.returns
returns c =
    let one = c.ranges.one in
    let two = c.ranges.two in
    let three = c.ranges.three in
    let four = c.ranges.four in
    let five = c.ranges.five in
    let fits_0 : FitsSigned w32 c.rest_of_four.result = search rules in
    let fits_1 : FitsSigned w32 c.rest_with.result = search rules in
    let is_0 = simp to_z-of_z at c.rest_of_four.ensures in
    let is_1 = simp to_z-of_z at c.rest_with.ensures in
    to_z-of_z w32 c.rest_with.result fits_1 ∙ is_1 (c.args.one ∷ c.args.two ∷ c.args.three ∷ c.args.four ∷ []) is_0
