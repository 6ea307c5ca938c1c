use Rattle.std.proofs.Common.{rules, ◌++◌, List, subst}
use Rattle.std.specs.Prelude.{ℤ}
use Rattle.session_model.specs.Samples.{bytes_of}
use Rattle.record_ring.specs.Rings.{content}
use Rattle.record_ring.specs.driver_words.specs.Tapes.{Tape, HasSamples, HasUnfinished, Gained, GainedPart}
use Rattle.disk_recorder.specs.Recordings.{Fails}
use Rattle.disk_recorder.proofs.Blocks.{broke, on_err, wrote}
use Rattle.disk_recorder.proofs.passing.pass.Goals as goal

pub returns-in_ok-put-in-Block-clause-ok : goal.returns-in_ok-put-in-Block-clause-ok
returns-in_ok-put-in-Block-clause-ok g c =
    let gets = c.in-Block.ensures.gets in let put = c.in_ok-put-in-Block.ensures in let items = c.as_slice.ensures in let t : Tape = c.args.out.now in let t' : Tape = c.put.new.self in
    wrote c.args.consumer.now c.get.new.self t t' (content c.get.new.block) gets.0 c.requires.may gets.1.3 gets.1.1 c.get.ensures.most
    (subst (λ (l : List ℤ). Gained t t' (bytes_of t.format.bits l)) items put.gained) put.file (search rules)
    (subst (λ (l : List ℤ). (before : List ℤ) → HasSamples t before → HasSamples t' (before ++ l)) items put.samples)

pub returns-in_err-put-in-Block-clause-err : goal.returns-in_err-put-in-Block-clause-err
returns-in_err-put-in-Block-clause-err g c =
    let gets = c.in-Block.ensures.gets in let put = c.in_err-put-in-Block.ensures in let items = c.as_slice.ensures in let t : Tape = c.args.out.now in let t' : Tape = c.put.new.self in
    on_err c.from_residual.result (Fails c.args.consumer.now t c.get.new.self t')
    (broke c.args.consumer.now c.get.new.self t t' (content c.get.new.block) gets.0 gets.1.3 gets.1.1 put.file (search rules)
    (subst (λ (l : List ℤ). GainedPart t t' (bytes_of t.format.bits l)) items put.part)
    (subst (λ (l : List ℤ). (before : List ℤ) → HasSamples t before → HasUnfinished t.format (before ++ l) t'.bytes) items put.front))
