use Rattle.std.proofs.Common.{[], length, arith}
use Rattle.client_benches.proofs.GatherLemmas.{gains-four, long-four}
use Rattle.client_benches.proofs.gathering.add_all.Goals as goal

pub returns-in-len4-clause-parts : goal.returns-in-len4-clause-parts
returns-in-len4-clause-parts c =
    gains-four (λ part. part.now) c.args.parts.now _ (length c.args.padded.now) c.args.mixer.now.sums c.add_four.new.self.sums
    (omega (arith, c.in-len4.len_at_least, c.in-len4.len_below)) (c.are_all_of.ensures.0 c.if-are_all_of.true 0 [] (omega arith)) c.add_four.ensures.parts

pub returns-in-len4-clause-sums : goal.returns-in-len4-clause-sums
returns-in-len4-clause-sums c = long-four (λ part. part.now) c.args.parts.now _ c.args.mixer.now c.add_four.new.self c.add_four.ensures.added
