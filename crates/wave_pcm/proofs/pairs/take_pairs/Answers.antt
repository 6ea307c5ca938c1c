use Rattle.std.proofs.Common.{rules, ◌+◌, ◌*◌, [], ◌∷◌, ℕ, arith, slice_index_or, ◌∙◌}
use Rattle.samples.specs.session_model.specs.Samples.{stored, up}
use Rattle.wave_pcm.proofs.PairLemmas.{sample_at, set_more}
use Rattle.wave_pcm.proofs.pairs.take_pairs.Goals as goal

pub loop-i-preserved : goal.loop-i-preserved
loop-i-preserved c = record {
  left = set_more (λ (k : ℕ). up 16 (stored 16 (slice_index_or c.args.bytes.now (4 * k) 0 ∷ slice_index_or c.args.bytes.now (4 * k + 1) 0 ∷ []))) c.loop-i.left c.loop-i.i _ (search rules) (search rules) c.loop-i.invariant.left;
  right = set_more (λ (k : ℕ). up 16 (stored 16 (slice_index_or c.args.bytes.now (4 * k + 2) 0 ∷ slice_index_or c.args.bytes.now (4 * k + 3) 0 ∷ []))) c.loop-i.right c.loop-i.i _ (search rules) (search rules) c.loop-i.invariant.right;
}

pub returns-clause-left : goal.returns-clause-left
returns-clause-left c = λ k h. c.loop-i.invariant.left k (omega (arith, h, c.loop-i-test.false)) ∙ sample_at c.args.bytes.now (k * 2) (4 * k) (4 * k + 1) (omega arith) (omega arith) (omega (arith, h, c.requires.bytes))

pub returns-clause-right : goal.returns-clause-right
returns-clause-right c = λ k h. c.loop-i.invariant.right k (omega (arith, h, c.loop-i-test.false)) ∙ sample_at c.args.bytes.now (k * 2 + 1) (4 * k + 2) (4 * k + 3) (omega arith) (omega arith) (omega (arith, h, c.requires.bytes))
