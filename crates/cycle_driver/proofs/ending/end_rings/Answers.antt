use Rattle.std.proofs.Common.{refl, arith}
use Rattle.cycle_driver.proofs.EndLemmas.{ends-all, ends-next, goes, there}
use Rattle.cycle_driver.proofs.ending.end_rings.Goals as goal

pub loop-recorder-init : goal.loop-recorder-init
loop-recorder-init g c = record { ended = refl }

pub producer-requires : goal.producer-requires
producer-requires g c =
    let all = c.requires.all in let low = c.loop-recorder-test.true in
    there c.args.driver.now c.loop-recorder.driver c.loop-recorder.recorder c.loop-recorder.invariant.ended (omega (arith, all, low))

pub end-requires : goal.end-requires
end-requires g c =
    let all = c.requires.all in let low = c.loop-recorder-test.true in
    goes c.args.driver.now c.loop-recorder.driver c.loop-recorder.recorder c.producer.result.now c.loop-recorder.invariant.ended (omega (arith, all, low)) c.requires.no_end c.producer.ensures.value

pub loop-recorder-preserved : goal.loop-recorder-preserved
loop-recorder-preserved g c =
    let all = c.requires.all in let low = c.loop-recorder-test.true in
    record { ended = ends-next c.args.driver.now c.loop-recorder.driver c.loop-recorder.recorder c.producer.result.now c.end.new.self c.loop-recorder.invariant.ended (omega (arith, all, low)) c.producer.ensures.value c.end.ensures }

pub returns : goal.returns
returns g c =
    let all = c.requires.all in let over = c.loop-recorder-test.false in let within = c.loop-recorder.auto.recorder-end in
    ends-all c.args.driver.now c.loop-recorder.driver c.loop-recorder.recorder c.loop-recorder.invariant.ended (omega (arith, all, over, within))
