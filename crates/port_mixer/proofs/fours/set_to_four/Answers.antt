use Rattle.std.proofs.Common.{ℤ, ◌+ℤ◌, [], ◌∷◌, ◌∙◌, length, fold, ap, sym, arith, rules}
use Rattle.std.proofs.lemmas.List.{length-replicate}
use Rattle.session_laws.specs.session_model.specs.Samples.{sample, silence, total}
use Rattle.session_laws.proofs.PlaceLemmas.{sample-silence}
use Rattle.port_mixer.proofs.SumLemmas.{all_added-is, more-of}
use Rattle.port_mixer.proofs.fours.set_to_four.Goals as goal

pub loop-i-preserved : goal.loop-i-preserved
loop-i-preserved c = more-of (λ k. total (sample c.args.one.now k ∷ sample c.args.two.now k ∷ sample c.args.three.now k ∷ sample c.args.four.now k ∷ []))
    c.loop-i.i c.loop-i.sums _ (omega (arith, c.loop-i-test.true, c.loop-i.auto.sums)) c.loop-i.invariant (search rules)

pub returns : goal.returns
returns c = all_added-is (silence (length c.args.sums.now)) c.loop-i.sums (c.args.one.now ∷ c.args.two.now ∷ c.args.three.now ∷ c.args.four.now ∷ [])
    (c.loop-i.auto.sums ∙ sym (length-replicate (length c.args.sums.now) _))
    (λ k h. c.loop-i.invariant k (omega (arith, h, c.loop-i-test.false, length-replicate {A = ℤ}))
    ∙ ap (λ x. fold ◌+ℤ◌ x (sample c.args.one.now k ∷ sample c.args.two.now k ∷ sample c.args.three.now k ∷ sample c.args.four.now k ∷ [])) (sample-silence (length c.args.sums.now) k))
