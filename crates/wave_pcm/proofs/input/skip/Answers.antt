use Rattle.std.proofs.Common.{rules, arith}
use Rattle.wave_pcm.proofs.InputLemmas.{ended_after, skipped}
use Rattle.wave_pcm.proofs.input.skip.Goals as goal

pub returns-then-taken-eq0-clause-short : goal.returns-then-taken-eq0-clause-short
returns-then-taken-eq0-clause-short g c =
    λ _. ended_after _ _ _ c.args.count c.skipping.left c.in_ok-taken.taken c.if-taken-eq0.true c.skipping-test.true c.skipping.invariant.within c.skipping.invariant.taken c.in_ok-taken.ensures.taken
    (c.in_ok-taken.ensures.end c.if-taken-eq0.true c.skipping-test.true)

pub skipping-preserved : goal.skipping-preserved
skipping-preserved g c =
    record {
      within = omega (arith, c.skipping.invariant.within);
      taken = skipped _ _ _ c.args.count c.skipping.left c.in_ok-taken.taken c.in_ok-taken.ensures.bound c.skipping.invariant.within c.skipping.invariant.taken c.in_ok-taken.ensures.taken;
      kept = search rules;
    }
