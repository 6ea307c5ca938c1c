use Rattle.std.proofs.Common.{◌∙◌, [], ◌∷◌, w32, rules}
use Rattle.std.specs.Prelude.{FitsSigned}
use Rattle.std.proofs.lemmas.Int.{to_z-of_z}
use Rattle.client_benches.proofs.SixteenthLemmas.{wrapped-alone}
use Rattle.client_benches.proofs.settling.rest_of_three.Goals as goal

pub returns : goal.returns
returns c =
    let one = c.ranges.one in
    let two = c.ranges.two in
    let three = c.ranges.three in
    let fits_0 : FitsSigned w32 c.rest_with.result = search rules in
    let fits_1 : FitsSigned w32 c.rest_with-2.result = search rules in
    let is_0 = simp to_z-of_z at c.rest_with.ensures in
    let is_1 = simp to_z-of_z at c.rest_with-2.ensures in
    to_z-of_z w32 c.rest_with-2.result fits_1 ∙ is_1 (c.args.one ∷ c.args.two ∷ []) (is_0 (c.args.one ∷ []) (wrapped-alone c.args.one one))
