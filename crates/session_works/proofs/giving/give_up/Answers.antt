use Rattle.std.proofs.Common.{◌<◌, ◌≤◌, ◌∙◌, subst}
use Rattle.std.specs.Vec.{with_item}
use Rattle.session_works.proofs.BesideLemmas.{files-beside, stays-beside}
use Rattle.session_works.proofs.PairedLemmas.{paired-broken, paired-given}
use Rattle.session_works.proofs.RingLemmas.{AreEach, BrokenAt, up_to-all}
use Rattle.session_works.proofs.StayLemmas.{RingsMoved, broken-rose, broken-up, given-up}
use Rattle.session_works.proofs.StepLemmas.{broken-next, given-next, may-next, moved-next}
use Rattle.session_works.proofs.ResultLemmas.{on-err}
use Rattle.session_works.proofs.giving.give_up.Goals as goal

pub give_up_one-requires-clause-pair : goal.give_up_one-requires-clause-pair
give_up_one-requires-clause-pair g c = (may-next g.G.Guest.sound c.args.driver.now c.args.recorders.now.items c.requires.able c.args.most c.loop-recorder.recorder c.loop-recorder.driver c.loop-recorder.recorders.items c.loop-recorder.invariant.given (subst (λ n. c.loop-recorder.recorder < n) (c.len-recorder-end.ensures ∙ c.args.recorders.now.ok.0) c.loop-recorder-test.true) c.index_mut.result.now c.index_mut.ensures.value).0

pub give_up_one-requires-clause-file : goal.give_up_one-requires-clause-file
give_up_one-requires-clause-file g c = (may-next g.G.Guest.sound c.args.driver.now c.args.recorders.now.items c.requires.able c.args.most c.loop-recorder.recorder c.loop-recorder.driver c.loop-recorder.recorders.items c.loop-recorder.invariant.given (subst (λ n. c.loop-recorder.recorder < n) (c.len-recorder-end.ensures ∙ c.args.recorders.now.ok.0) c.loop-recorder-test.true) c.index_mut.result.now c.index_mut.ensures.value).1

pub give_up_one-requires-clause-few : goal.give_up_one-requires-clause-few
give_up_one-requires-clause-few g c = (may-next g.G.Guest.sound c.args.driver.now c.args.recorders.now.items c.requires.able c.args.most c.loop-recorder.recorder c.loop-recorder.driver c.loop-recorder.recorders.items c.loop-recorder.invariant.given (subst (λ n. c.loop-recorder.recorder < n) (c.len-recorder-end.ensures ∙ c.args.recorders.now.ok.0) c.loop-recorder-test.true) c.index_mut.result.now c.index_mut.ensures.value).2

pub returns-in_err-give_up_one-clause-broken : goal.returns-in_err-give_up_one-clause-broken
returns-in_err-give_up_one-clause-broken g c aside sound = on-err c.from_residual.result (broken-up g.G.Guest.sound aside c.args.driver.now c.args.recorders.now.items sound (files-beside c.requires.able.aside aside c.args.driver.now c.args.driver.now c.args.recorders.now.items c.requires.able.files) c.give_up_one.new.driver (with_item c.loop-recorder.recorders c.loop-recorder.recorder c.give_up_one.new.recorder).items moved c.args.most c.loop-recorder.recorder broken).0
  where
    moved : RingsMoved c.args.driver.now c.give_up_one.new.driver
    moved = moved-next c.args.driver.now c.loop-recorder.driver c.give_up_one.new.driver _ c.loop-recorder.invariant.driver c.give_up_one.ensures.driver

    broken : AreEach (BrokenAt c.args.most c.loop-recorder.recorder) c.args.driver.now.rings.rings c.args.recorders.now.items c.give_up_one.new.driver.rings.rings (with_item c.loop-recorder.recorders c.loop-recorder.recorder c.give_up_one.new.recorder).items
    broken = broken-next g.G.Guest.sound c.args.driver.now c.args.recorders.now.items c.requires.able c.args.most c.loop-recorder.recorder c.loop-recorder.driver c.loop-recorder.recorders.items c.loop-recorder.invariant.given (subst (λ n. c.loop-recorder.recorder < n) (c.len-recorder-end.ensures ∙ c.args.recorders.now.ok.0) c.loop-recorder-test.true) c.index_mut.result.now c.index_mut.ensures.value c.give_up_one.new.driver c.give_up_one.new.recorder c.give_up_one.ensures.driver c.in_err-give_up_one.ensures.broken

pub returns-in_err-give_up_one-clause-stays : goal.returns-in_err-give_up_one-clause-stays
returns-in_err-give_up_one-clause-stays g c aside =
    stays-beside g.G.Guest.sound c.requires.able.aside aside c.args.driver.now c.args.recorders.now.items _ _ (broken-up g.G.Guest.sound c.requires.able.aside c.args.driver.now c.args.recorders.now.items c.requires.able.sound c.requires.able.files c.give_up_one.new.driver (with_item c.loop-recorder.recorders c.loop-recorder.recorder c.give_up_one.new.recorder).items moved c.args.most c.loop-recorder.recorder broken).1
  where
    moved : RingsMoved c.args.driver.now c.give_up_one.new.driver
    moved = moved-next c.args.driver.now c.loop-recorder.driver c.give_up_one.new.driver _ c.loop-recorder.invariant.driver c.give_up_one.ensures.driver

    broken : AreEach (BrokenAt c.args.most c.loop-recorder.recorder) c.args.driver.now.rings.rings c.args.recorders.now.items c.give_up_one.new.driver.rings.rings (with_item c.loop-recorder.recorders c.loop-recorder.recorder c.give_up_one.new.recorder).items
    broken = broken-next g.G.Guest.sound c.args.driver.now c.args.recorders.now.items c.requires.able c.args.most c.loop-recorder.recorder c.loop-recorder.driver c.loop-recorder.recorders.items c.loop-recorder.invariant.given (subst (λ n. c.loop-recorder.recorder < n) (c.len-recorder-end.ensures ∙ c.args.recorders.now.ok.0) c.loop-recorder-test.true) c.index_mut.result.now c.index_mut.ensures.value c.give_up_one.new.driver c.give_up_one.new.recorder c.give_up_one.ensures.driver c.in_err-give_up_one.ensures.broken

pub returns-in_err-give_up_one-clause-cause : goal.returns-in_err-give_up_one-clause-cause
returns-in_err-give_up_one-clause-cause g c aside =
    on-err c.from_residual.result (broken-rose g.G.Guest.sound c.requires.able.aside c.args.driver.now c.args.recorders.now.items c.requires.able.sound c.requires.able.files c.give_up_one.new.driver (with_item c.loop-recorder.recorders c.loop-recorder.recorder c.give_up_one.new.recorder).items moved c.args.most c.loop-recorder.recorder (subst (λ n. c.loop-recorder.recorder < n) (c.len-recorder-end.ensures ∙ c.args.recorders.now.ok.0) c.loop-recorder-test.true) broken)
  where
    moved : RingsMoved c.args.driver.now c.give_up_one.new.driver
    moved = moved-next c.args.driver.now c.loop-recorder.driver c.give_up_one.new.driver _ c.loop-recorder.invariant.driver c.give_up_one.ensures.driver

    broken : AreEach (BrokenAt c.args.most c.loop-recorder.recorder) c.args.driver.now.rings.rings c.args.recorders.now.items c.give_up_one.new.driver.rings.rings (with_item c.loop-recorder.recorders c.loop-recorder.recorder c.give_up_one.new.recorder).items
    broken = broken-next g.G.Guest.sound c.args.driver.now c.args.recorders.now.items c.requires.able c.args.most c.loop-recorder.recorder c.loop-recorder.driver c.loop-recorder.recorders.items c.loop-recorder.invariant.given (subst (λ n. c.loop-recorder.recorder < n) (c.len-recorder-end.ensures ∙ c.args.recorders.now.ok.0) c.loop-recorder-test.true) c.index_mut.result.now c.index_mut.ensures.value c.give_up_one.new.driver c.give_up_one.new.recorder c.give_up_one.ensures.driver c.in_err-give_up_one.ensures.broken

pub returns-in_err-give_up_one-clause-pairs : goal.returns-in_err-give_up_one-clause-pairs
returns-in_err-give_up_one-clause-pairs g c = paired-broken c.args.most c.loop-recorder.recorder c.args.driver.now c.give_up_one.new.driver c.args.recorders.now.items _ broken
  where
    broken : AreEach (BrokenAt c.args.most c.loop-recorder.recorder) c.args.driver.now.rings.rings c.args.recorders.now.items c.give_up_one.new.driver.rings.rings (with_item c.loop-recorder.recorders c.loop-recorder.recorder c.give_up_one.new.recorder).items
    broken = broken-next g.G.Guest.sound c.args.driver.now c.args.recorders.now.items c.requires.able c.args.most c.loop-recorder.recorder c.loop-recorder.driver c.loop-recorder.recorders.items c.loop-recorder.invariant.given (subst (λ n. c.loop-recorder.recorder < n) (c.len-recorder-end.ensures ∙ c.args.recorders.now.ok.0) c.loop-recorder-test.true) c.index_mut.result.now c.index_mut.ensures.value c.give_up_one.new.driver c.give_up_one.new.recorder c.give_up_one.ensures.driver c.in_err-give_up_one.ensures.broken

pub loop-recorder-preserved : goal.loop-recorder-preserved
loop-recorder-preserved g c = record {
  given = given-next g.G.Guest.sound c.args.driver.now c.args.recorders.now.items c.requires.able c.args.most c.loop-recorder.recorder c.loop-recorder.driver c.loop-recorder.recorders.items c.loop-recorder.invariant.given (subst (λ n. c.loop-recorder.recorder < n) (c.len-recorder-end.ensures ∙ c.args.recorders.now.ok.0) c.loop-recorder-test.true) c.index_mut.result.now c.index_mut.ensures.value c.give_up_one.new.driver c.give_up_one.new.recorder c.give_up_one.ensures.driver c.in_ok-give_up_one.ensures.given;
  driver = moved-next c.args.driver.now c.loop-recorder.driver c.give_up_one.new.driver _ c.loop-recorder.invariant.driver c.give_up_one.ensures.driver;
}

pub returns-clause-given : goal.returns-clause-given
returns-clause-given g c aside sound =
    (given-up g.G.Guest.sound aside c.args.driver.now c.args.recorders.now.items sound (files-beside c.requires.able.aside aside c.args.driver.now c.args.driver.now c.args.recorders.now.items c.requires.able.files) c.loop-recorder.driver c.loop-recorder.recorders.items c.loop-recorder.invariant.driver c.args.most
    (up_to-all c.args.most c.loop-recorder.recorder _ _ _ _ (subst (λ n. n ≤ c.loop-recorder.recorder) (c.len-recorder-end.ensures ∙ c.args.recorders.now.ok.0) c.loop-recorder-test.false) c.loop-recorder.invariant.given)).0

pub returns-clause-stays : goal.returns-clause-stays
returns-clause-stays g c aside =
    stays-beside g.G.Guest.sound c.requires.able.aside aside c.args.driver.now c.args.recorders.now.items _ _ (given-up g.G.Guest.sound c.requires.able.aside c.args.driver.now c.args.recorders.now.items c.requires.able.sound c.requires.able.files c.loop-recorder.driver c.loop-recorder.recorders.items c.loop-recorder.invariant.driver c.args.most
    (up_to-all c.args.most c.loop-recorder.recorder _ _ _ _ (subst (λ n. n ≤ c.loop-recorder.recorder) (c.len-recorder-end.ensures ∙ c.args.recorders.now.ok.0) c.loop-recorder-test.false) c.loop-recorder.invariant.given)).1

pub returns-clause-pairs : goal.returns-clause-pairs
returns-clause-pairs g c = paired-given c.args.most c.args.driver.now c.loop-recorder.driver c.args.recorders.now.items c.loop-recorder.recorders.items
    (up_to-all c.args.most c.loop-recorder.recorder _ _ _ _ (subst (λ n. n ≤ c.loop-recorder.recorder) (c.len-recorder-end.ensures ∙ c.args.recorders.now.ok.0) c.loop-recorder-test.false) c.loop-recorder.invariant.given)
