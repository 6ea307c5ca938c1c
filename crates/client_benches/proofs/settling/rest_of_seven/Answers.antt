use Rattle.std.proofs.Common.{◌∙◌, [], ◌∷◌, w32, rules}
use Rattle.std.specs.Prelude.{FitsSigned}
use Rattle.std.proofs.lemmas.Int.{to_z-of_z}
use Rattle.client_benches.proofs.settling.rest_of_seven.Goals as goal

pub returns : goal.returns
returns c =
    let one = c.ranges.one in
    let two = c.ranges.two in
    let three = c.ranges.three in
    let four = c.ranges.four in
    let five = c.ranges.five in
    let six = c.ranges.six in
    let seven = c.ranges.seven in
    let fits_0 : FitsSigned w32 c.rest_of_six.result = search rules in
    let fits_1 : FitsSigned w32 c.rest_with.result = search rules in
    let is_0 = simp to_z-of_z at c.rest_of_six.ensures in
    let is_1 = simp to_z-of_z at c.rest_with.ensures in
    to_z-of_z w32 c.rest_with.result fits_1 ∙ is_1 (c.args.one ∷ c.args.two ∷ c.args.three ∷ c.args.four ∷ c.args.five ∷ c.args.six ∷ []) is_0
