use Rattle.std.proofs.Common.{◌∙◌, ap, arith, w32}
use Rattle.std.specs.Int.{int_shr}
use Rattle.std.proofs.lemmas.Int.{ints, to_z-of_z}
use Rattle.client_benches.proofs.SixteenthLemmas.{sum-least, sum-most, sum-within}
use Rattle.client_benches.proofs.settling.settled.Goals as goal

pub returns-then-over-gt-MOST_OVER : goal.returns-then-over-gt-MOST_OVER
returns-then-over-gt-MOST_OVER c xs few low high =
    sum-least xs c.args.low few c.ranges.low low c.sixteenth.result c.args.high (c.sixteenth.ensures.is ∙ ap (λ y. int_shr y 4) (to_z-of_z w32 c.args.low c.ranges.low)) high (grind (arith, ints))

pub returns-then-over-lt0 : goal.returns-then-over-lt0
returns-then-over-lt0 c xs few low high =
    sum-most xs c.args.low few c.ranges.low low c.sixteenth.result c.args.high (c.sixteenth.ensures.is ∙ ap (λ y. int_shr y 4) (to_z-of_z w32 c.args.low c.ranges.low)) high (grind (arith, ints))

pub returns-else-over-lt0 : goal.returns-else-over-lt0
returns-else-over-lt0 c xs few low high =
    to_z-of_z w32 c.args.low c.ranges.low
    ∙ sum-within xs c.args.low few c.ranges.low low c.sixteenth.result c.args.high (c.sixteenth.ensures.is ∙ ap (λ y. int_shr y 4) (to_z-of_z w32 c.args.low c.ranges.low)) high (grind (arith, ints)) (grind (arith, ints))
