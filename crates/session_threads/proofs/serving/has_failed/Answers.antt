use Rattle.std.proofs.Common.{length, refl, arith}
use Rattle.std.proofs.lemmas.Option.{slice_get_read, slice_get_within}
use Rattle.session_threads.specs.Serving.{IsUntorn}
use Rattle.session_works.proofs.ReelLemmas.{all-from_places}
use Rattle.session_threads.proofs.ServeLemmas.{untorn-by, up_to-next}
use Rattle.session_threads.proofs.serving.has_failed.Goals as goal

pub loop-recorder-preserved : goal.loop-recorder-preserved
loop-recorder-preserved g c =
    up_to-next IsUntorn c.args.recorders.now c.loop-recorder.recorder-index c.recorder-item.result c.loop-recorder.invariant (slice_get_read c.args.recorders.now (length c.args.recorders.now) c.loop-recorder.recorder-index c.recorder-item.result refl c.loop-recorder-test.true c.recorder-item.is)
    (untorn-by c.recorder-item.result c.failed.result c.failed.ensures c.if-failed.false)

pub returns-clause-whole : goal.returns-clause-whole
returns-clause-whole g c none = all-from_places IsUntorn c.args.recorders.now (λ i r is. c.loop-recorder.invariant i r (let low = slice_get_within c.args.recorders.now i r is in let all = c.loop-recorder-test.false in omega (arith, low, all)) is)
