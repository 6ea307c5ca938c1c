use Rattle.std.proofs.Common.{◌∙◌, ◌+◌, ◌*◌, ◌++◌, ◌+ℤ◌, ap, ap₂, arith, rules, sym}
use Rattle.std.specs.Int.{w64}
use Rattle.std.specs.Prelude.{FitsSigned}
use Rattle.std.proofs.lemmas.Int.{to_z-of_z}
use mir.Val.{to_z}
use Rattle.guests.proofs.FilterLemmas.{weighted_more}
use Rattle.guests.proofs.NumberLemmas.{within_less, within_sum, within_value}
use Rattle.guests.proofs.fir.weighted_sum.Goals as goal

pub loop-i-preserved : goal.loop-i-preserved
loop-i-preserved c =
    let fits : FitsSigned w64 c.weighed.result = search rules in
    let sum_fits : FitsSigned w64 c.sum_of-sum.result = search rules in
    record {
      so_far = to_z-of_z w64 c.sum_of-sum.result sum_fits
          ∙ c.sum_of-sum.ensures
          ∙ ap₂ (λ a b. a +ℤ b) c.loop-i.invariant.so_far (to_z-of_z w64 c.weighed.result fits ∙ c.weighed.ensures.value)
          ∙ sym (weighted_more c.args.taps.now (c.args.past.now ++ c.args.x.now) c.args.at c.loop-i.i);
      within = within_value (70368744177664 * (c.loop-i.i + 1)) _ (to_z w64 c.loop-i.sum-bits +ℤ c.weighed.result)
          (to_z-of_z w64 c.sum_of-sum.result sum_fits ∙ c.sum_of-sum.ensures ∙ ap (λ v. to_z w64 c.loop-i.sum-bits +ℤ v) (to_z-of_z w64 c.weighed.result fits))
          (within_less (70368744177664 * c.loop-i.i + 70368744177664) (70368744177664 * (c.loop-i.i + 1)) (to_z w64 c.loop-i.sum-bits +ℤ c.weighed.result) (omega arith)
          (within_sum (70368744177664 * c.loop-i.i) 70368744177664 (to_z w64 c.loop-i.sum-bits) c.weighed.result c.loop-i.invariant.within c.weighed.ensures.within));
    }

pub sum_of-sum-requires-clause-sum : goal.sum_of-sum-requires-clause-sum
sum_of-sum-requires-clause-sum c =
    within_less (70368744177664 * c.loop-i.i) 2251799813685248 (to_z w64 c.loop-i.sum-bits) (omega (arith, c.loop-i-test.true, c.requires.taps.most)) c.loop-i.invariant.within
