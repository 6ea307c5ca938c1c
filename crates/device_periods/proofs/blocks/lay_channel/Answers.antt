use Rattle.std.proofs.Common.{length-append, arith, rules, ◌∙◌, sym}
use Rattle.std.proofs.lemmas.List.{length-set}
use Rattle.client_kinds.proofs.BufferLemmas.{place_within}
use Rattle.device_periods.proofs.PeriodLemmas.{laid_more, laid_next, laid_whole, others_stay, sample-past}
use Rattle.device_periods.proofs.blocks.lay_channel.Goals as goal

pub loop-i-preserved : goal.loop-i-preserved
loop-i-preserved c = record {
  length_is = length-set c.loop-i.block _ _ ∙ c.loop-i.invariant.length_is;
  laid = laid_more c.args.channels c.loop-i.i c.args.place c.loop-i.block c.args.samples.now _ c.requires.place (omega (arith, c.loop-i.invariant.length_is, c.requires.place, c.min-whole.ensures, place_within c.loop-i.i c.args.frames c.args.channels (omega (arith, c.loop-i-test.true, c.min-whole.ensures)))) (search rules) c.loop-i.invariant.laid;
  others = others_stay c.args.channels c.loop-i.i c.args.place c.loop-i.block c.args.block.now _ c.requires.place c.loop-i.invariant.others;
}

pub loop-i-2-preserved : goal.loop-i-2-preserved
loop-i-2-preserved c = record {
  length_is = length-set c.loop-i-2.block _ _ ∙ c.loop-i-2.invariant.length_is;
  laid = laid_more c.args.channels c.loop-i-2.i c.args.place c.loop-i-2.block c.args.samples.now _ c.requires.place (omega (arith, c.loop-i-2.invariant.length_is, c.requires.place, place_within c.loop-i-2.i c.args.frames c.args.channels c.loop-i-2-test.true)) (sym (sample-past c.args.samples.now c.loop-i-2.i (omega (arith, c.loop-i-2-test.true, c.loop-i-2.auto.i, c.min-whole.ensures)))) c.loop-i-2.invariant.laid;
  others = others_stay c.args.channels c.loop-i-2.i c.args.place c.loop-i-2.block c.loop-i.block _ c.requires.place c.loop-i-2.invariant.others;
}

pub returns-clause-whole : goal.returns-clause-whole
returns-clause-whole c = λ buffers place last before.
    laid_whole c.args.frames c.args.channels _ c.loop-i-2.block c.loop-i-2.invariant.length_is (length-append buffers _ ∙ omega (arith, place, last))
    (λ i channel low within. laid_next c.args.frames c.args.channels c.args.place buffers c.args.block.now c.args.samples.now c.loop-i-2.block c.requires.place place before
    (λ j less. c.loop-i-2.invariant.laid j (omega (arith, less, c.loop-i-2-test.false)))
    (λ j other less apart. c.loop-i-2.invariant.others j other less apart ∙ c.loop-i.invariant.others j other less apart) i channel low (omega (arith, within, last)))
